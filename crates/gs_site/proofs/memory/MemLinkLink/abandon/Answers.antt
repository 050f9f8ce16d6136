use Rattle.std.proofs.Common.{◌∙◌, ◌∷◌, ap, sym, refl, inl, inr}
use Rattle.gs_types.specs.History.{History, abandoned}
use Rattle.gs_site.specs.Desk.{DeskState}
use Rattle.gs_site.proofs.Jobs.{left}
use Rattle.gs_site.proofs.memory.MemLinkLink.abandon.Goals as goal

pub returns-clause-abandons : goal.returns-clause-abandons
returns-clause-abandons g c =
    let desk = c.args.self.now.desk in
    elim (left desk.jobs desk.told _ (ap (λ (d : DeskState). d.told) c.abandon.ensures)) [
      | inl busy ↦ inl (busy.0, λ past told. ap (λ (h : History). abandoned ∷ h) told ∙ sym busy.1)
      | inr idle ↦ inr (idle.0, λ past told. told ∙ sym idle.1, refl)
    ]
