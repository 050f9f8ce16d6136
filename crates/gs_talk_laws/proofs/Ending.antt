-- A program is never done without a last question.
use Rattle.std.proofs.Common.{ℕ, zero, suc, Bool, true, false, List, [], ◌∷◌, Option, Some, None, if◌then◌else◌, nat_lt}
use Rattle.std.specs.Prelude.{is_some}
use Rattle.std.specs.List.{list_any}
use Rattle.std.specs.Bool.{⊤}
use Rattle.gs_types.specs.declared.limits.TheConstants.{ACTION_LIMIT}
use Rattle.gs_types.specs.declared.settings.FaultKind.TheVariants.{TooManyActions}
use Rattle.gs_talk.specs.declared.slot.Slot.{Slot}
use Rattle.gs_talk.specs.declared.slot.Slot.TheVariants.{Held, Due}
use Rattle.gs_talk.specs.declared.question.Question.TheVariants.{Use}
use Rattle.gs_talk.specs.declared.question.Answer.{Answer}
use Rattle.gs_talk.specs.Talk.{Given, State, Dialogue, Done, Ask, Stop, Meaning, then_do, step, fails, counted, taken, set_to, ended, run_first, run_all, settled, leaving, finish, start, dialogue}
use Rattle.gs_talk.specs.Seq.{Run, Standing, seq, step_by, answered, reply}
use Rattle.gs_talk_laws.proofs.Staying.{next_seq}

abbrev pub NeverDone : Dialogue → Type 0
NeverDone (Done n s) = ⊥
NeverDone (Ask q s next) = (a : Answer) → NeverDone (next a)
NeverDone (Stop q s) = ⊤

then_never : (d : Dialogue) (go : Meaning) → ((n : ℕ) (s : State) → NeverDone (go n s)) → NeverDone (then_do d go)
then_never (Done n s) go h = h n s
then_never (Ask q s next) go h = λ a. then_never (next a) go h
then_never (Stop q s) go h = tt

if_never : (b : Bool) (d other : Dialogue) → NeverDone d → NeverDone other → NeverDone (if b then d else other)
if_never true d other h k = h
if_never false d other h k = k

settled_never : (vars : List Slot) (line i : ℕ) (s : State) → NeverDone (settled line i vars s)
settled_never [] line i s = tt
settled_never (Held v ∷ vars) line i s = settled_never vars line (suc i) s
settled_never (Due n k ∷ vars) line i s =
    if_never (nat_lt s.actions ACTION_LIMIT) (Ask (Use n k) (counted s) (λ a. settled line (suc i) vars (set_to i (taken a) (counted s)))) (fails line TooManyActions s)
    (λ a. settled_never vars line (suc i) (set_to i (taken a) (counted s))) tt

leaving_never : (line : ℕ) (is_open : Bool) (s : State) → NeverDone (leaving line is_open s)
leaving_never line true s = tt
leaving_never line false s = settled_never s.vars line 0 s

finish_never : (line n : ℕ) (s : State) → NeverDone (finish line n s)
finish_never line zero s = tt
finish_never line (suc n) s = leaving_never line (list_any is_some s.handles) s

dialogue_never : (t : Given) (fuel : ℕ) → NeverDone (dialogue t fuel)
dialogue_never t fuel =
    then_never (run_first t t.program.first fuel (start t)) (λ n s. then_do (step ended n s) (λ n s. then_do (run_all t t.program.body n s) (finish t.program.off)))
    (λ n s. then_never (step ended n s) (λ n s. then_do (run_all t t.program.body n s) (finish t.program.off))
    (λ n s. then_never (run_all t t.program.body n s) (finish t.program.off) (finish_never t.program.off)))

step_never : (r : Run) (at : Standing) (d : Dialogue) → NeverDone at.rest → NeverDone d → NeverDone (step_by r at d).rest
step_never r at (Done n s) h k = h
step_never r at (Stop q s) h k = h
step_never r at (Ask q s next) h k = of_reply (reply r.texts.ops at.world q)
  where
    of_reply : (o : Option Answer) → NeverDone (answered r at q next o).rest
    of_reply None = h
    of_reply (Some a) = k a

first_never : (r : Run) → NeverDone (seq r zero).rest
unfolding seq
first_never r = dialogue_never r.texts r.fuel

pub seq_never : (r : Run) (k : ℕ) → NeverDone (seq r k).rest
seq_never r zero = first_never r
seq_never r (suc k) = rw (next_seq r k) (step_never r (seq r k) (seq r k).rest (seq_never r k) (seq_never r k))
