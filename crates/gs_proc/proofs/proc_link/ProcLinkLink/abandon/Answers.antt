use Rattle.std.proofs.Common.{refl, inl, inr}
use Rattle.gs_site.specs.JobFacts.{busy_or_idle}
use Rattle.gs_proc.specs.Tasks.{calls}
use Rattle.gs_proc.proofs.proc_link.ProcLinkLink.abandon.Goals as goal

pub returns-clause-abandons : goal.returns-clause-abandons
returns-clause-abandons g c = elim (busy_or_idle (calls c.args.self.now.tasks.list)) [
  | inl busy ↦ inl (busy, λ past told. absurd told)
  | inr idle ↦ inr (idle, (λ past told. absurd told), refl)
]
