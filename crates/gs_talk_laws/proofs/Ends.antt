-- Each run ends or is stuck.
use Rattle.std.proofs.Common.{◌≡◌, ◌<◌, ◌+◌, ℕ, zero, suc, Bool, true, false, refl, sym, ap, ap₂, ◌∙◌, subst, Option, Some, None, is_none, arith, ◌⊎◌, inl, inr}
use Rattle.gs_types.specs.declared.limits.TheConstants.{ACTION_LIMIT}
use Rattle.gs_talk.specs.declared.question.Question.{Question}
use Rattle.gs_talk.specs.declared.question.Answer.{Answer}
use Rattle.gs_talk.specs.Talk.{Dialogue, Done, Ask, Stop}
use Rattle.gs_talk.specs.Seq.{Run, Standing, seq, step, step_by, answered, reply, any_lost, last_by, last_of, is_stuck_by}
use Rattle.gs_talk_laws.specs.Uses.{Told, with_answer, nothing_told}
use Rattle.gs_talk_laws.specs.Ends.{HasEnded, EachRunEnds, EndsStay}
use Rattle.gs_talk_laws.proofs.Staying.{next_seq, stays}
use Rattle.gs_talk_laws.proofs.Ending.{NeverDone, seq_never}
use Rattle.gs_talk_laws.proofs.Fuels.{end_stays}
use Rattle.gs_talk_laws.proofs.Proper.{Proper}
use Rattle.gs_talk_laws.proofs.Programs.{dialogue_proper}

abbrev Ended : Run → Standing → Type 0
Ended r at = ((q : Question) × (last_of at ≡ Some q)) ⊎ (is_stuck_by r.texts.ops at.world at.rest ≡ true)

-- the run went on in order
pub record GoesOn (r : Run) (h : Told) (rest : Dialogue) : Type 0 where
  pub told : Told
  pub count : told.count ≡ h.count + 1
  pub within : h.count < ACTION_LIMIT
  pub proper : Proper r.texts.ops told rest

next_by : (r : Run) (at : Standing) (h : Told) (d : Dialogue) → at.rest ≡ d → Proper r.texts.ops h d → NeverDone d → Ended r at ⊎ GoesOn r h (step_by r at d).rest
next_by r at h (Done n s) e p never = absurd never
next_by r at h (Stop q s) e p never = inl (of_lost (any_lost at.world) refl)
  where
    of_lost : (lost : Bool) → any_lost at.world ≡ lost → Ended r at
    of_lost true l = inr (ap (is_stuck_by r.texts.ops at.world) e ∙ l)
    of_lost false l = inl (q, ap₂ last_by l e)
next_by r at h (Ask q s next) e p never = of_reply (reply r.texts.ops at.world q) refl
  where
    of_reply : (o : Option Answer) → reply r.texts.ops at.world q ≡ o → Ended r at ⊎ GoesOn r h (answered r at q next o).rest
    of_reply None l = inl (inr (ap (is_stuck_by r.texts.ops at.world) e ∙ ap is_none l))
    of_reply (Some a) l = inr (record { told = with_answer q a h; count = refl; within = p.0; proper = p.2 a })

-- each step is told of, or the run has ended
pub record Running (r : Run) (k : ℕ) : Type 0 where
  pub told : Told
  pub count : told.count ≡ k
  pub proper : Proper r.texts.ops told (seq r k).rest

has_ended : (r : Run) (k : ℕ) → Ended r (seq r k) → HasEnded r k
has_ended r k (inl h) = inl (h.0, record { last = h.1 })
has_ended r k (inr h) = inr (record { stuck = h })

-- ---- a run that has ended stays

none_stays : (r : Run) (at : Standing) (q : Question) (next : Answer → Dialogue) (o : Option Answer) → is_none o ≡ true → answered r at q next o ≡ at
none_stays r at q next None e = refl
none_stays r at q next (Some a) e = absurd (cc)

stuck_stays : (r : Run) (at : Standing) (d : Dialogue) → is_stuck_by r.texts.ops at.world d ≡ true → step_by r at d ≡ at
stuck_stays r at (Done n s) e = refl
stuck_stays r at (Stop q s) e = refl
stuck_stays r at (Ask q s next) e = none_stays r at q next (reply r.texts.ops at.world q) e

ended_stays : (r : Run) (k : ℕ) → HasEnded r k → step r (seq r k) ≡ seq r k
ended_stays r k (inl h) = end_stays r k h.0 h.1
ended_stays r k (inr h) = stuck_stays r (seq r k) (seq r k).rest h.stuck

pub ends_stay : EndsStay
ends_stay r k more le h = stays r k more le (ended_stays r k h)

still_ended : (r : Run) (k : ℕ) → Ended r (seq r k) → Ended r (seq r (suc k))
still_ended r k h =
    let same : seq r (suc k) ≡ seq r k = next_seq r k ∙ ended_stays r k (has_ended r k h) in
    subst (Ended r) (sym same) h

-- ---- each run ends

first_running : (r : Run) → Running r zero
unfolding seq
first_running r = record { told = nothing_told; count = refl; proper = dialogue_proper r.texts r.fuel }

running : (r : Run) (k : ℕ) → Ended r (seq r k) ⊎ Running r k
running r zero = inr (first_running r)
running r (suc k) = elim (running r k) [
  | inl ended ↦ inl (still_ended r k ended)
  | inr h ↦ elim (next_by r (seq r k) h.told (seq r k).rest refl h.proper (seq_never r k)) [
    | inl ended ↦ inl (still_ended r k ended)
    | inr next ↦ inr (record {
      told = next.told;
      count = (let c = next.count in let b = h.count in omega arith);
      proper = subst (λ (at : Standing). Proper r.texts.ops next.told at.rest) (sym (next_seq r k)) next.proper;
    })
  ]
]

at_limit : (r : Run) (k : ℕ) → k ≡ ACTION_LIMIT → HasEnded r k
at_limit r k e = elim (running r k) [
  | inl ended ↦ has_ended r k ended
  | inr h ↦ elim (next_by r (seq r k) h.told (seq r k).rest refl h.proper (seq_never r k)) [
    | inl ended ↦ has_ended r k ended
    | inr next ↦ absurd (let lt = next.within in let b = h.count in omega arith)
  ]
]

pub each_run_ends : EachRunEnds
each_run_ends r = at_limit r ACTION_LIMIT refl
