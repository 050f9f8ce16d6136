-- Whether each task is done.
use Rattle.std.proofs.Common.{◌≡◌, ◌<◌, ◌≤◌, ◌+◌, ℕ, zero, suc, refl, sym, ap, ◌∙◌, subst, arith, Option, Some, None, IsSome, inl, inr}
use Rattle.std.specs.Prelude.{List}
use Rattle.std.proofs.lemmas.Bool.{cases_lt}
use Rattle.gs_types.specs.declared.value.Value.{Value}
use Rattle.gs_types.specs.History.{History, outs_in}
use Rattle.gs_talk.specs.declared.question.Question.TheVariants as q
use Rattle.gs_talk.specs.declared.question.Answer.TheVariants.{Went}
use Rattle.gs_talk.specs.Seq.{unless_lost}
use Rattle.gs_history.specs.Setup.{Setup, count_at}
use Rattle.gs_history.specs.Notes.{NoMisfit}
use Rattle.gs_history.specs.Frontier.{AllDone, IsDone, one_unless, unfinished}
use Rattle.gs_history.specs.Good.{Good}
use Rattle.gs_history.proofs.Ending.{none_is_lost}
use Rattle.gs_history.proofs.Fitting.{notes_fit}
use Rattle.gs_history.proofs.Deadlock.{none_unfinished}
use Rattle.gs_tables.specs.Asked.{IsDueAnswer}

done_if : (o : Option (List Value)) → one_unless o ≡ 0 → IsSome o
done_if None e = absurd (omega arith)
done_if (Some outs) e = refl

pub all_done : (h : History) (n : ℕ) → unfinished h n ≡ 0 → AllDone h n
all_done h zero e m lt = absurd (omega arith)
all_done h (suc n) e m lt = elim (cases_lt m n) [
  | inl below ↦ all_done h n (omega arith) m below
  | inr not ↦ let same : n ≡ m = omega arith in subst (λ (i : ℕ). IsDone h (suc i)) same (done_if (outs_in h (suc n)) (omega arith))
]

pub none_done : (h : History) (n : ℕ) → AllDone h n → unfinished h n ≡ 0
none_done h n done = none_unfinished h n done

-- a barrier is answered
pub barrier_due : (s : Setup) (k : ℕ) (h : History) → Good s h → ((j : ℕ) → j < k → NoMisfit s j) → AllDone h (count_at s k) → IsDueAnswer s k h q.Barrier Went
barrier_due s k h good fit done = record { may = done; says = ap unless_lost (none_is_lost s k h good (notes_fit s k fit) done) }
