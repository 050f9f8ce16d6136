use Rattle.std.proofs.Common.{refl, subst}
use Rattle.gs_verbs.specs.Finding.{RefusesStore}
use Rattle.gs_verbs.specs.declared.loading.Unloaded.{Unloaded}
use Rattle.gs_verbs.proofs.Cleans.{not_gated, none_gated}
use Rattle.gs_verbs.proofs.cleaning.may_clean.Goals as goal

pub returns-in-Ok : goal.returns-in-Ok
returns-in-Ok g c = record {
  gated = λ told.
      let folder = (g.D.Disk.state c.args.disk.now).folder in
      not_gated folder folder c.in-Ok.store c.stage.result refl (c.in-Ok.ensures.found told)
      c.stage.ensures c.in_default.not-Gated;
  same = c.in-Ok.ensures.same;
  images = c.in-Ok.ensures.images;
  cause = record { rise = c.in-Ok.ensures.cause.rise; cause = tt };
}

pub returns-in-Err-Bad-clause-gated : goal.returns-in-Err-Bad-clause-gated
returns-in-Err-Bad-clause-gated g c = λ told.
    let folder = (g.D.Disk.state c.args.disk.now).folder in
    none_gated folder folder c.in-Err-Bad.field-0-0 refl
    (subst (λ (u : Unloaded). RefusesStore folder u) c.in-Err-Bad.field-0-is
    (c.in-Err-Bad.ensures.refused told))
