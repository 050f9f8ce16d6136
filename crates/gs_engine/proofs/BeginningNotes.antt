-- What entries say of tasks, as the core's notes and as events.
use Rattle.std.proofs.Common.{◌≡◌, ℕ, zero, suc, ◌+◌, ◌<◌, Bool, true, false, List, [], ◌∷◌, ◌++◌, length, take, Some, None, refl, sym, ap, subst, ◌∙◌, arith, inl, inr, append_assoc, append-nil, eq-eqb}
use Rattle.std.specs.Prelude.{All, IsSome, map, slice_get, if◌then◌else◌, ◌||◌, ◌==◌}
use Rattle.std.specs.List.{list_any}
use Rattle.std.proofs.lemmas.Bool.{ne_eqb}
use Rattle.std.proofs.lemmas.Bool.Decides.{eqb_tells}
use Rattle.gs_types.specs.History.{History, noted, started, refused, finished, failed, abandoned, outs_in}
use Rattle.gs_types.specs.declared.note.OutNote.{OutNote}
use Rattle.gs_types.specs.declared.value.Value.{Value}
use Rattle.gs_idl.specs.Interface.{KeepRules}
use Rattle.gs_disk.specs.Folder.{Folder}
use Rattle.gs_entries.specs.Order.{dones, has_done}
use Rattle.gs_entries.specs.declared.entry.Entry.{Entry}
use Rattle.gs_entries.specs.declared.entry.Entry.TheVariants as made
use Rattle.gs_talk.specs.Seq.{Run, IsTask}
use Rattle.gs_talk_laws.specs.Fuels.{with_fuel}
use Rattle.gs_history.specs.Setup.{Noting, Setup}
use Rattle.gs_history.specs.Notes.{IsNoted, AreNoted}
use Rattle.gs_history.specs.Good.{GoesOn}
use Rattle.gs_history.proofs.Ending.{notes_of_any_fuel}
use Rattle.gs_tables.specs.Noted.{noting_of}
use Rattle.gs_tables.specs.declared.noted.DoneNote.{DoneNote}
use Rattle.gs_life.specs.Origin.{Origin, run_of}
use Rattle.gs_life.specs.Stands.{IsDone, IsRight}
use Rattle.gs_engine.specs.Beginning.{notes_by, notes_in}
use Rattle.gs_engine.proofs.BeginningValues.{values_of, values_given}

-- ---- entry by entry

notes_from : (es : List Entry) (i j : ℕ) (e : Entry) → slice_get es i ≡ Some e
    → notes_in j (take (suc i) es) ≡ notes_in j (take i es) ++ notes_by (j + i) e
notes_from [] i j e at = absurd cc
notes_from (x ∷ es) zero j e at =
    let same : x ≡ e = cc in
    let here : j ≡ j + 0 = omega arith in
    append-nil (notes_by j x) ∙ ap (notes_by j) same ∙ ap (λ (n : ℕ). notes_by n e) here
notes_from (x ∷ es) (suc i) j e at =
    let next : suc j + i ≡ j + suc i = omega arith in
    ap (λ (l : List DoneNote). notes_by j x ++ l) (notes_from es i (suc j) e at)
    ∙ sym (append_assoc (notes_by j x) (notes_in (suc j) (take i es)) (notes_by (suc j + i) e))
    ∙ ap (λ (n : ℕ). (notes_by j x ++ notes_in (suc j) (take i es)) ++ notes_by n e) next

-- one entry more
pub notes_next : (es : List Entry) (i : ℕ) (e : Entry) → slice_get es i ≡ Some e
    → notes_in 0 (take (i + 1) es) ≡ notes_in 0 (take i es) ++ notes_by i e
notes_next es i e at =
    let one : i + 1 ≡ suc i = omega arith in
    let here : 0 + i ≡ i = omega arith in
    ap (λ (n : ℕ). notes_in 0 (take n es)) one ∙ notes_from es i 0 e at
    ∙ ap (λ (n : ℕ). notes_in 0 (take i es) ++ notes_by n e) here

-- and there are no more
pub all_taken : (es : List Entry) (i : ℕ) → slice_get es i ≡ None → take i es ≡ es
all_taken [] zero none = refl
all_taken [] (suc i) none = refl
all_taken (x ∷ es) zero none = absurd cc
all_taken (x ∷ es) (suc i) none = ap (λ (l : List Entry). x ∷ l) (all_taken es i none)

-- ---- as events

-- the events say of these entries which tasks are done
pub record AreEvents (s : Setup) (es : List Entry) (xs : List Noting) (h : History) : Type 0 where
  pub are : AreNoted s xs h
  pub recorded : (n : ℕ) → IsSome (outs_in h n) → has_done es n ≡ true
  pub noted : (n : ℕ) → has_done es n ≡ true → IsSome (outs_in h n)

pub later_right : (o : Origin) (f : Folder) (e : Entry) (es : List Entry) → All (IsRight o f) (e ∷ es)
    → All (IsRight o f) es
later_right o f e es all k d lt = all (suc k) d (next lt)
  where
    next : {i m : ℕ} → i < m → suc i < suc m
    next lt = omega arith

pub here_right : (o : Origin) (f : Folder) (e : Entry) (es : List Entry) → All (IsRight o f) (e ∷ es)
    → IsRight o f e
here_right o f e es all = all 0 e (first (length es))
  where
    first : (m : ℕ) → 0 < suc m
    first m = omega arith

-- what an entry says of a task is right for this call's run
is_noted : (o : Origin) (s : Setup) (f : Folder) (i n op : ℕ) (os : List OutNote)
    → s.run ≡ run_of o s.run.fuel → KeepRules o.given.ops → (d : IsDone o f n op os)
    → IsNoted s (record { index = i; n = n; op = op; outs = os }) n d.outs
is_noted o s f i n op os run rules d =
    notes_of_any_fuel s (record { index = i; n = n; op = op; outs = os }) d.output.fuel d.task d.outs
    (subst (λ (r : Run). IsTask (with_fuel r d.output.fuel) n d.task) (sym run) d.output.is)
    d.output.gave
    (ap values_of d.notes_are ∙ values_given o n d.task d.outs rules d.output)

or_true : (b c : Bool) → c ≡ true → (b || c) ≡ true
or_true true c is = refl
or_true false c is = is

done_here : (s : Setup) (es : List Entry) (x : Noting) (xs : List Noting) (h : History)
    (n op : ℕ) (os : List OutNote) (outs : List Value) → IsNoted s x n outs → AreEvents s es xs h
    → AreEvents s (made.Done n op os ∷ es) (x ∷ xs) (noted n outs ∷ h)
done_here s es x xs h n op os outs is events = record {
  are = (is, events.are);
  recorded = λ m some. elim (eqb_tells n m) [
    | inl same ↦ ap (λ (b : Bool). b || list_any (λ i. m == i) (dones es))
        (eq-eqb m n (sym same.1))
    | inr other ↦ or_true (m == n) (list_any (λ i. m == i) (dones es))
        (events.recorded m
        (subst (λ (b : Bool). IsSome (if b then Some outs else outs_in h m)) other.0 some))
  ];
  noted = λ m done. elim (eqb_tells n m) [
    | inl same ↦
        subst (λ (b : Bool). IsSome (if b then Some outs else outs_in h m)) (sym same.0) refl
    | inr other ↦
        subst (λ (b : Bool). IsSome (if b then Some outs else outs_in h m)) (sym other.0)
        (events.noted m (sym (ap (λ (b : Bool). b || list_any (λ i. m == i) (dones es))
        (ne_eqb m n (λ e. other.1 (sym e)))) ∙ done))
  ];
}

-- the events that entries are
pub events_of : (o : Origin) (s : Setup) (f : Folder) (i : ℕ) (es : List Entry)
    → s.run ≡ run_of o s.run.fuel → KeepRules o.given.ops → All (IsRight o f) es
    → (h : History) × AreEvents s es (map noting_of (notes_in i es)) h
events_of o s f i [] run rules all =
    ([], record { are = tt; recorded = λ n some. absurd cc; noted = λ n done. absurd cc })
events_of o s f i (made.Header t ∷ es) run rules all =
    let rest = events_of o s f (suc i) es run rules (later_right o f (made.Header t) es all) in
    (rest.0, record { are = rest.1.are; recorded = rest.1.recorded; noted = rest.1.noted })
events_of o s f i (made.Gate g ∷ es) run rules all =
    let rest = events_of o s f (suc i) es run rules (later_right o f (made.Gate g) es all) in
    (rest.0, record { are = rest.1.are; recorded = rest.1.recorded; noted = rest.1.noted })
events_of o s f i (made.Closed ∷ es) run rules all =
    let rest = events_of o s f (suc i) es run rules (later_right o f made.Closed es all) in
    (rest.0, record { are = rest.1.are; recorded = rest.1.recorded; noted = rest.1.noted })
events_of o s f i (made.Done n op os ∷ es) run rules all =
    let rest = events_of o s f (suc i) es run rules (later_right o f (made.Done n op os) es all) in
    let d : IsDone o f n op os = here_right o f (made.Done n op os) es all in (
      noted n d.outs ∷ rest.0,
      done_here s es (record { index = i; n = n; op = op; outs = os })
          (map noting_of (notes_in (suc i) es)) rest.0 n op os d.outs
          (is_noted o s f i n op os run rules d) rest.1,
    )

-- nothing was given up in them
pub noted_go_on : (s : Setup) (xs : List Noting) (h : History) → AreNoted s xs h → GoesOn h
noted_go_on s [] [] are = tt
noted_go_on s [] (e ∷ h) are = absurd are
noted_go_on s (x ∷ xs) [] are = absurd are
noted_go_on s (x ∷ xs) (noted n outs ∷ h) are = tt
noted_go_on s (x ∷ xs) (started n w job ∷ h) are = absurd are
noted_go_on s (x ∷ xs) (refused n w ∷ h) are = absurd are
noted_go_on s (x ∷ xs) (finished n outs ∷ h) are = absurd are
noted_go_on s (x ∷ xs) (failed n ∷ h) are = absurd are
noted_go_on s (x ∷ xs) (abandoned ∷ h) are = absurd are
