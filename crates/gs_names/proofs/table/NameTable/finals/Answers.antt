use Rattle.std.proofs.Common.{◌∙◌, ap, map}
use Rattle.gs_names.specs.Writes.{Write, listed}
use Rattle.gs_names.specs.Table.{writes_in}
use Rattle.gs_names.proofs.Finals.{first_is}
use Rattle.gs_names.proofs.table.NameTable.finals.Goals as goal

pub returns-clause-names : goal.returns-clause-names
unfolding writes_in
returns-clause-names c =
    let t = c.args.self.now in
    ap (map (λ (f : Write). f.0)) (c.in_ok-finals.ensures ∙ t.told) ∙ first_is (listed t.writes.value)
