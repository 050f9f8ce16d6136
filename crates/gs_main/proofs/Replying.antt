-- How it goes on by an answer.
use Rattle.std.proofs.Common.{◌≡◌, ℕ, zero, suc, true, refl, sym, ap, ◌∙◌, subst, List, [], ◌∷◌, Some, slice_get}
use Rattle.std.specs.List.{list_all}
use Rattle.gs_types.specs.declared.settings.FaultKind.{FaultKind}
use Rattle.gs_talk.specs.declared.question.Question.{Question}
use Rattle.gs_talk.specs.declared.question.Question.TheVariants.{Fault}
use Rattle.gs_talk.specs.Talk.{Given, State, Dialogue, Done, Ask, Stop, then_do}
use Rattle.gs_orders.specs.declared.order.Order.{Order}
use Rattle.gs_main.specs.declared.waits.Last.TheVariants as l
use Rattle.gs_main.specs.declared.waits.Waits.{Waits}
use Rattle.gs_main.specs.declared.waits.Waits.TheVariants as w
use Rattle.gs_main.specs.declared.run.Run.{Run}
use Rattle.gs_main.specs.Short.{is_short}
use Rattle.gs_main.specs.Talking.{Goes}
use Rattle.gs_main.specs.Machine.{goes}
use Rattle.gs_main.specs.Seen.{state_of, next_by, next_of, WentOn}
use Rattle.std.proofs.lemmas.Bool.{and_parts}

-- it goes on as what came after the answer
pub went_next : (t : Given) (orders : List Order) (next : ℕ) (new : Run) (d : Dialogue) → WentOn next new d → next_of t orders new ≡ Goes (then_do d (goes t orders next))
went_next t orders next new (Done n s) h =
    ap (λ (x : Waits). next_by t orders x new.at new.steps (state_of new.work)) h.0
    ∙ ap (λ (i : ℕ). Goes (goes t orders i new.steps (state_of new.work))) h.1
    ∙ ap (λ (k : ℕ). Goes (goes t orders next k (state_of new.work))) h.2
    ∙ ap (λ (s : State). Goes (goes t orders next n s)) h.3
went_next t orders next new (Ask x s go) h = absurd h
went_next t orders next new (Stop x s) h =
    ap (λ (y : Waits). next_by t orders y new.at new.steps (state_of new.work)) h.1
    ∙ ap (λ (y : Question). Goes (Stop y (state_of new.work))) (sym h.2)
    ∙ ap (λ (s : State). Goes (Stop x s)) h.3

pub ended_on : (next line : ℕ) (kind : FaultKind) (old new : Run) → new ≡ record old { work = record old.work { waits = w.Ended (l.Fault line kind) } } → WentOn next new (Stop (Fault line kind) (state_of old.work))
ended_on next line kind old new e =
    subst (λ (r : Run). WentOn next r (Stop (Fault line kind) (state_of old.work))) (sym e) (l.Fault line kind, refl, refl, refl)

pub on_along : (next : ℕ) (new : Run) (d e : Dialogue) → d ≡ e → WentOn next new e → WentOn next new d
on_along next new d e is h = subst (λ (x : Dialogue). WentOn next new x) (sym is) h

-- each order of such a list is one
pub short_at : (orders : List Order) (at : ℕ) (o : Order) → list_all is_short orders ≡ true → slice_get orders at ≡ Some o → is_short o ≡ true
short_at [] at o all is = absurd (cc)
short_at (x ∷ orders) zero o all is = let e : x ≡ o = cc in ap is_short (sym e) ∙ (and_parts (is_short x) (list_all is_short orders) all).0
short_at (x ∷ orders) (suc at) o all is = short_at orders at o (and_parts (is_short x) (list_all is_short orders) all).1 is
