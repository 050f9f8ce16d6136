use Rattle.std.proofs.Common.{◌∙◌, sym, ap, Some, []}
use Rattle.std.specs.Prelude.{bytes_eq}
use Rattle.std.proofs.lemmas.List.Quantifiers.{position-Some}
use Rattle.std.proofs.lemmas.Option.{slice_get-get_or}
use Rattle.gs_names.specs.Table.{names_in}
use Rattle.gs_names.proofs.Finals.{same_bytes}
use Rattle.gs_names.proofs.table.NameTable.number_of.Goals as goal

pub returns-in-Some : goal.returns-in-Some
unfolding names_in
returns-in-Some c =
    let x = c.args.name.now in
    let found = position-Some (bytes_eq x) c.args.self.now.names.keys c.in-Some.i [] (sym c.in-Some.ensures.index) in
    slice_get-get_or c.args.self.now.names.keys c.in-Some.i [] found.0 ∙ ap Some (sym (same_bytes x _ found.1))
