-- GS_Off asks for the variables that wait, in order.
use Rattle.std.proofs.Common.{◌≡◌, ◌≤◌, ◌-◌, ℕ, suc, Bool, false, refl, sym, ap, ◌∙◌, subst, List, [], ◌∷◌, set, Option, Some, None, arith}
use Rattle.std.specs.List.{list_any}
use Rattle.std.specs.Prelude.{is_some}
use Rattle.gs_types.specs.declared.value.Value.{Value}
use Rattle.gs_talk.specs.declared.slot.Slot.{Slot}
use Rattle.gs_talk.specs.declared.slot.Slot.TheVariants.{Held, Due}
use Rattle.gs_talk.specs.declared.question.Question.TheVariants.{End}
use Rattle.gs_talk.specs.declared.error.Trouble.TheVariants as t
use Rattle.gs_talk.specs.Talk.{State, Dialogue, Stop, counted, set_to, used, settled, leaving}
use Rattle.gs_talk.proofs.Again.{used_same}
use Rattle.gs_main.specs.declared.waits.Last.TheVariants as l
use Rattle.gs_main.specs.declared.waits.Waits.TheVariants as w
use Rattle.gs_main.specs.declared.waits.Pause.{Pause}
use Rattle.gs_main.specs.declared.waits.Pause.TheVariants as p
use Rattle.gs_main.specs.declared.work.Work.{Work}
use Rattle.gs_main.specs.Lasts.{last_question}
use Rattle.gs_main.specs.Parts.{first_due}
use Rattle.gs_main.specs.Meanings.{leaving_all}
use Rattle.gs_main.specs.Seen.{state_of, Meets, Leaves}

-- the first variable that waits is asked for, and then those behind it
found : (line i : ℕ) → List Slot → State → Option (ℕ × ℕ × ℕ) → Dialogue
found line i vars s None = Stop End s
found line i vars s (Some (j, n, place)) = used line j n place s (λ v u. settled line i (set vars (j - i) (Held v)) u)

due_behind : (vars : List Slot) (i j n place : ℕ) → first_due i vars ≡ Some (j, n, place) → i ≤ j
due_behind [] i j n place e = absurd (cc)
due_behind (Held v ∷ vars) i j n place e = let h = due_behind vars (suc i) j n place e in omega (arith, h)
due_behind (Due m q ∷ vars) i j n place e =
    let k : ◌≡◌ {A = ℕ × ℕ × ℕ} (i, m, q) (j, n, place) = cc in
    let same : i ≡ j = ap (λ (d : ℕ × ℕ × ℕ). d.0) k in
    omega (arith, same)

settles : (vars : List Slot) (line i : ℕ) (s : State) → settled line i vars s ≡ found line i vars s (first_due i vars)
unfolding found
settles [] line i s = refl
settles (Due n place ∷ vars) line i s = let z : i - i ≡ 0 = omega arith in rw z refl
settles (Held v ∷ vars) line i s = settles vars line (suc i) s ∙ by_due (first_due (suc i) vars) refl
  where
    by_due : (r : Option (ℕ × ℕ × ℕ)) → first_due (suc i) vars ≡ r → found line (suc i) vars s r ≡ found line i (Held v ∷ vars) s r
    by_due None e = refl
    by_due (Some (j, n, place)) e =
        let le = due_behind vars (suc i) j n place e in
        let z : j - i ≡ suc (j - suc i) = omega (arith, le) in
        rw z refl

left : (line : ℕ) (s : State) (r : Option (ℕ × ℕ × ℕ)) → list_any is_some s.handles ≡ false → r ≡ first_due 0 s.vars → leaving_all line s ≡ found line 0 s.vars s r
left line s r closed is = ap (λ (b : Bool). leaving line b s) closed ∙ settles s.vars line 0 s ∙ ap (found line 0 s.vars s) (sym is)

pub leave_ends : (line : ℕ) (old new : Work) (pause : Pause) (vars : List Slot) (r : Option (ℕ × ℕ × ℕ)) → list_any is_some (state_of old).handles ≡ false → vars ≡ (state_of old).vars → r ≡ first_due 0 vars → r ≡ None →
    pause ≡ p.Asks (last_question l.End) → new ≡ record old { waits = w.Ended l.End } → Leaves (leaving_all line) old pause new
unfolding found
leave_ends line old new pause vars r closed ev er none ep en =
    let e : leaving_all line (state_of old) ≡ Stop End (state_of old) = left line (state_of old) r closed (er ∙ ap (first_due 0) ev) ∙ ap (found line 0 (state_of old).vars (state_of old)) none in
    subst (λ (x : Pause). Leaves (leaving_all line) old x new) (sym ep)
    (subst (λ (x : Work). Leaves (leaving_all line) old (p.Asks (last_question l.End)) x) (sym en) (e, refl, refl))

pub leave_needs : (line : ℕ) (old new : Work) (pause : Pause) (vars : List Slot) (r : Option (ℕ × ℕ × ℕ)) (i n place : ℕ) → list_any is_some (state_of old).handles ≡ false → vars ≡ (state_of old).vars → r ≡ first_due 0 vars → r ≡ Some (i, n, place) →
    Meets line (t.Need i n place) old pause new → Leaves (leaving_all line) old pause new
unfolding found
leave_needs line old new p.NoMemory vars r i n place closed ev er some h = tt
leave_needs line old new (p.Asks x) vars r i n place closed ev er some h =
    let s = state_of old in
    let same : (v : Value) → settled line 0 (set s.vars (i - 0) (Held v)) (set_to i v (counted s)) ≡ leaving_all line (set_to i v (counted s)) = λ v.
    let z : i - 0 ≡ i = omega arith in rw z (sym (ap (λ (b : Bool). leaving line b (set_to i v (counted s))) closed)) in (
      left line s r closed (er ∙ ap (first_due 0) ev)
          ∙ ap (found line 0 s.vars s) some
          ∙ used_same line i n place s (λ v u. settled line 0 (set s.vars (i - 0) (Held v)) u) (λ v u. leaving_all line u) same
          ∙ h.0 (leaving_all line),
      h.1,
      h.2,
    )
