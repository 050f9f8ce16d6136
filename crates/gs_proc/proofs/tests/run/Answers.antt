use Rattle.std.proofs.Common.{◌≡◌, ◌∙◌, ap, sym, subst, refl, eq-eqb, Bool, Option, Some, IsSome, if◌then◌else◌}
use Rattle.gs_types.specs.declared.job.Job.{Job}
use Rattle.gs_proc.specs.ProcLink.{jobs_of}
use Rattle.gs_proc.proofs.tests.run.Goals as goal

pub next-requires : goal.next-requires
next-requires c =
    let n = c.args.job.now.n in
    let here : jobs_of c.start.new.self n ≡ Some c.args.job.now = c.in-Ok.ensures.started.flies.each n ∙ ap (λ (b : Bool). if b then Some c.args.job.now else jobs_of c.new-link.result n) (eq-eqb n n refl) in
    let some : IsSome (Some c.args.job.now) = refl in
    record { busy = (n, subst IsSome (sym here) some) }
