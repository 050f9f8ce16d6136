-- How a run has ended.
use Rattle.std.proofs.Common.{◌≡◌, ℕ, zero, suc, true, false, refl, sym, ap, ◌∙◌, subst, List, arith, Option, Some, None, IsSome, inl, inr}
use Rattle.std.proofs.lemmas.Bool.{cases_lt}
use Rattle.gs_types.specs.declared.value.Value.{Value}
use Rattle.gs_types.specs.History.{History, outs_in}
use Rattle.gs_talk.specs.declared.question.Question.{Question}
use Rattle.gs_talk.specs.declared.question.Question.TheVariants as q
use Rattle.gs_talk.specs.Talk.{State, Dialogue, Stop}
use Rattle.gs_main.specs.Talking.{Talking, Next, Goes, Awaits, Failed, wanted, Asked}
use Rattle.gs_history.specs.Setup.{Setup, rest_at, count_at}
use Rattle.gs_history.specs.Notes.{NoMisfit}
use Rattle.gs_history.specs.Losses.{NoLoss}
use Rattle.gs_history.specs.Frontier.{IsDone, AllDone, one_unless, unfinished, HasStopped}
use Rattle.gs_core.specs.Verdicts.{stopped}
use Rattle.gs_core.specs.Talker.{TalksAs}
use Rattle.gs_core.specs.Core.{NotClosing, IsVerdict}

done_if : (o : Option (List Value)) → one_unless o ≡ 0 → IsSome o
done_if None e = absurd (omega arith)
done_if (Some outs) e = refl

pub all_done : (h : History) (n : ℕ) → unfinished h n ≡ 0 → AllDone h n
all_done h zero e m lt = absurd (omega arith)
all_done h (suc n) e m lt = elim (cases_lt m n) [
  | inl below ↦ all_done h n (omega arith) m below
  | inr not ↦ let same : n ≡ m = omega arith in subst (λ (i : ℕ). IsDone h (suc i)) same (done_if (outs_in h (suc n)) (omega arith))
]

-- a last question was asked, and the program stopped with it
stops : (d : Dialogue) (x asked : Question) (st : State) (next : Next) → x ≡ asked → wanted x ≡ None → Asked d asked st next → (now : State) × (d ≡ Stop x now)
stops d x asked st (Goes rest) same last is = (st, is.0 ∙ ap (λ (y : Question). Stop y st) (sym same))
stops d x asked st (Awaits w next) same last is = let wants : None ≡ Some w = sym last ∙ ap wanted same ∙ is.1 in absurd cc
stops d x asked st Failed same last is = absurd is

-- another question was asked, so the program didn't stop
goes_on : (d : Dialogue) (x asked y : Question) (st now : State) (next : Next) → x ≡ asked → (wanted x ≡ None → ⊥) → Asked d asked st next → d ≡ Stop y now → ⊥
goes_on d x asked y st now (Goes rest) same more is e = more (ap wanted same ∙ is.2)
goes_on d x asked y st now (Awaits w next) same more is e = absurd (let asks = is.0 in cc)
goes_on d x asked y st now Failed same more is e = absurd is

stopped_so : (s : Setup) (k : ℕ) (h : History) (x asked : Question) (m : Talking) → x ≡ asked → wanted x ≡ None → Asked (rest_at s k) asked m.state m.next → AllDone h (count_at s k) → HasStopped s h k x
stopped_so s k h x asked m same last is done = record { last = stops (rest_at s k) x asked m.state m.next same last is; done = done }

not_stopped : (s : Setup) (k : ℕ) (h : History) (x asked : Question) (m : Talking) → x ≡ asked → (wanted x ≡ None → ⊥) → Asked (rest_at s k) asked m.state m.next → (y : Question) → HasStopped s h k y → ⊥
not_stopped s k h x asked m same more is y has = goes_on (rest_at s k) x asked y m.state has.last.0 m.next same more is has.last.1

-- a task is unfinished
pub verdict_open : (s : Setup) (k : ℕ) (h : History) (o : Option Question) → NoMisfit s k → NoLoss s h → (AllDone h (count_at s k) → ⊥) → IsVerdict s k h (stopped o false)
verdict_open s k h None fit losses waits = (fit, losses, λ x has. waits has.done)
verdict_open s k h (Some asked) fit losses waits = (fit, losses, λ x has. waits has.done)

-- each task is done
pub verdict_done : (s : Setup) (k : ℕ) (h : History) (o : Option Question) (m : Talking) → NoMisfit s k → NoLoss s h → NotClosing o → IsSome o → TalksAs o m (rest_at s k) → AllDone h (count_at s k) → IsVerdict s k h (stopped o true)
verdict_done s k h None m fit losses closing some talks done = absurd cc
verdict_done s k h (Some q.End) m fit losses closing some talks done = (fit, losses, stopped_so s k h q.End talks.0 m talks.1 refl talks.2 done)
verdict_done s k h (Some q.FuelOut) m fit losses closing some talks done = (fit, losses, stopped_so s k h q.FuelOut talks.0 m talks.1 refl talks.2 done)
verdict_done s k h (Some (q.Fault line kind)) m fit losses closing some talks done = (fit, losses, stopped_so s k h (q.Fault line kind) talks.0 m talks.1 refl talks.2 done)
verdict_done s k h (Some (q.CloseFile name bytes)) m fit losses closing some talks done = absurd closing
verdict_done s k h (Some q.Barrier) m fit losses closing some talks done = (fit, losses, not_stopped s k h q.Barrier talks.0 m talks.1 (λ e. absurd cc) talks.2)
verdict_done s k h (Some (q.OpenFile name mode line)) m fit losses closing some talks done = (fit, losses, not_stopped s k h (q.OpenFile name mode line) talks.0 m talks.1 (λ e. absurd cc) talks.2)
verdict_done s k h (Some (q.Use n place)) m fit losses closing some talks done = (fit, losses, not_stopped s k h (q.Use n place) talks.0 m talks.1 (λ e. absurd cc) talks.2)
verdict_done s k h (Some (q.Call op line args)) m fit losses closing some talks done = (fit, losses, not_stopped s k h (q.Call op line args) talks.0 m talks.1 (λ e. absurd cc) talks.2)
