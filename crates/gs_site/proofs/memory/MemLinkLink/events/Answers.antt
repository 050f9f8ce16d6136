use Rattle.std.proofs.Common.{◌∙◌, ap, sym, List, length}
use Rattle.gs_types.specs.History.{History}
use Rattle.gs_site.specs.declared.past.Past.{Past}
use Rattle.gs_site.proofs.Ends.{length_shown}
use Rattle.gs_site.proofs.memory.MemLinkLink.events.Goals as goal

pub returns : goal.returns
returns g c = λ past told.
    ap (λ (xs : List Past). length xs) c.past.ensures ∙ length_shown c.args.self.now.desk.told ∙ ap (λ (h : History). length h) (sym told)
