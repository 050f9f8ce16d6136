use Rattle.std.proofs.Common.{◌≡◌, ◌∙◌, ℕ, Bool, false, ap, sym, subst, Option, None, IsSome, inl, inr, if◌then◌else◌}
use Rattle.std.specs.Prelude.{◌==◌}
use Rattle.std.proofs.lemmas.Bool.Decides.{eqb_tells}
use Rattle.gs_types.specs.declared.job.Job.{Job}
use Rattle.gs_site.specs.Link.{Flying, IsBusy, SetsJob}
use Rattle.gs_filters.specs.Inside.{jobs_of}
use Rattle.gs_filters.proofs.tests.two_ends.Goals as goal

stays : (b : Bool) (o p : Option Job) → b ≡ false → p ≡ (if b then None else o) → IsSome o → IsSome
    p
stays b o p other is some = subst IsSome (sym (is ∙ ap (λ (t : Bool). if t then None else o) other))
    some

one_stays : (n : ℕ) (old new : Flying) → SetsJob n None old new → IsSome (old 2) → IsSome (old 1) →
    IsBusy new
one_stays n old new sets two one = elim (eqb_tells n 2) [
  | inl same ↦ (1, stays (n == 1) (old 1) (new 1) (ap (λ (m : ℕ). m == 1) same.1) (sets.each 1) one)
  | inr other ↦ (2, stays (n == 2) (old 2) (new 2) other.0 (sets.each 2) two)
]

pub next-requires-2 : goal.next-requires-2
next-requires-2 c = record {
  busy = one_stays _ (jobs_of c.args.link.now) (jobs_of c.next.new.self)
      c.in_ok-first.ensures.ended.flies c.requires.first c.requires.second;
}
