use Rattle.std.proofs.Common.{sym, ◌∙◌, ap, Some}
use Rattle.gs_disk.proofs.Updates.{stands, absent}
use Rattle.gs_disk.proofs.files.get.Goals as goal

pub returns-in-Some : goal.returns-in-Some
returns-in-Some c = ap (λ bytes. Some bytes) c.as_slice.ensures.value ∙ sym (stands c.args.files.now c.args.name.now _ c.in-Some.ensures.value)

pub returns-in-None : goal.returns-in-None
returns-in-None c = sym (absent c.args.files.now c.args.name.now c.in-None.ensures.value)
