use Rattle.std.proofs.Common.{◌∙◌, ap}
use Rattle.std.specs.Prelude.{bytes_eq}
use Rattle.std.specs.Map.{lookup}
use Rattle.gs_types.specs.declared.note.Version.TheVariants.{Original}
use Rattle.gs_names.specs.Writes.{listed}
use Rattle.gs_names.specs.Table.{writes_in}
use Rattle.gs_names.proofs.Finals.{version_or, latest_is}
use Rattle.gs_names.proofs.table.NameTable.current.Goals as goal

pub returns-in-Some : goal.returns-in-Some
unfolding writes_in
returns-in-Some c =
    let t = c.args.self.now in
    let x = c.args.name.now in
    c.copy_of.ensures ∙ ap (version_or x) (c.in-Some.ensures.value ∙ ap (lookup (bytes_eq x)) t.told) ∙ latest_is x (listed t.writes.value)

pub returns-in-None : goal.returns-in-None
unfolding writes_in
returns-in-None c =
    let t = c.args.self.now in
    let x = c.args.name.now in
    ap Original c.copy.ensures ∙ ap (version_or x) (c.in-None.ensures.value ∙ ap (lookup (bytes_eq x)) t.told) ∙ latest_is x (listed t.writes.value)
