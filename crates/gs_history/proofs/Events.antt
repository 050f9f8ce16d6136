-- What is done stays done, and what was within the frontier stays within.
use Rattle.std.proofs.Common.{◌≤◌, ℕ, zero, suc, Bool, true, false, ◌∷◌, refl, arith, Option, Some, None, if◌then◌else◌, IsSome}
use Rattle.std.specs.Prelude.{List, ◌==◌}
use Rattle.gs_types.specs.declared.value.Value.{Value}
use Rattle.gs_types.specs.declared.note.Version.{Version}
use Rattle.gs_types.specs.declared.note.Version.TheVariants.{Original, Out, Main}
use Rattle.gs_types.specs.History.{LinkEvent, History, noted, started, refused, finished, failed, abandoned, outs_in}
use Rattle.gs_talk.specs.declared.question.Question.{Question}
use Rattle.gs_talk.specs.declared.question.Question.TheVariants.{Call, Use, OpenFile, CloseFile, Barrier, End, Fault, FuelOut}
use Rattle.gs_talk.specs.Talk.{Dialogue, Done, Ask, Stop}
use Rattle.gs_talk_laws.specs.Versions.{latest, writings}
use Rattle.gs_history.specs.Setup.{Setup, rest_at, count_at}
use Rattle.gs_history.specs.Frontier.{IsDone, one_unless, unfinished, IsThere, MayAnswer, MayGoOn, IsWithin}

-- what is done by the first history is done by the second
abbrev pub KeepsDone : History → History → Type 0
KeepsDone h g = (n : ℕ) → IsDone h n → IsDone g n

fewer : (a b : Option (List Value)) → (IsSome a → IsSome b) → one_unless b ≤ one_unless a
fewer None None keeps = omega arith
fewer None (Some v) keeps = omega arith
fewer (Some u) (Some v) keeps = omega arith
fewer (Some u) None keeps = let e = keeps refl in absurd cc

pub unfinished_less : (h g : History) → KeepsDone h g → (n : ℕ) → unfinished g n ≤ unfinished h n
unfinished_less h g keeps zero = omega arith
unfinished_less h g keeps (suc n) =
    let a = unfinished_less h g keeps n in
    let b = fewer (outs_in h (suc n)) (outs_in g (suc n)) (keeps (suc n)) in omega arith

pub there_more : (h g : History) → KeepsDone h g → (v : Version) → IsThere h v → IsThere g v
there_more h g keeps (Original name) is = is
there_more h g keeps (Out n place) is = keeps n is
there_more h g keeps (Main k) is = is

pub may_more : (s : Setup) (h g : History) → KeepsDone h g → (k : ℕ) (q : Question) → MayAnswer s h k q → MayAnswer s g k q
may_more s h g keeps k (Call op line args) may = let less = unfinished_less h g keeps (suc (count_at s k)) in omega arith
may_more s h g keeps k (Use n place) may = keeps n may
may_more s h g keeps k (OpenFile name mode line) may = there_more h g keeps (latest name (writings s.run k)) may
may_more s h g keeps k (CloseFile name bytes) may = may
may_more s h g keeps k Barrier may = λ m lt. keeps (suc m) (may m lt)
may_more s h g keeps k End may = may
may_more s h g keeps k (Fault line kind) may = may
may_more s h g keeps k FuelOut may = may

pub go_more : (s : Setup) (h g : History) → KeepsDone h g → (k : ℕ) (d : Dialogue) → MayGoOn s h k d → MayGoOn s g k d
go_more s h g keeps k (Done n st) may = may
go_more s h g keeps k (Ask q st next) may = may_more s h g keeps k q may
go_more s h g keeps k (Stop q st) may = may

pub within_more : (s : Setup) (h g : History) → KeepsDone h g → (k : ℕ) → IsWithin s h k → IsWithin s g k
unfolding IsWithin
within_more s h g keeps zero w = tt
within_more s h g keeps (suc k) w = (within_more s h g keeps k w.0, go_more s h g keeps k (rest_at s k) w.1)

some_if : (b : Bool) (outs : List Value) (o : Option (List Value)) → IsSome o → IsSome (if b then Some outs else o)
some_if true outs o is = refl
some_if false outs o is = is

-- no event undoes a task
pub event_keeps : (e : LinkEvent) (h : History) → KeepsDone h (e ∷ h)
event_keeps (noted m outs) h n is = some_if (m == n) outs (outs_in h n) is
event_keeps (started m w job) h n is = is
event_keeps (refused m w) h n is = is
event_keeps (finished m outs) h n is = some_if (m == n) outs (outs_in h n) is
event_keeps (failed m) h n is = is
event_keeps abandoned h n is = is
