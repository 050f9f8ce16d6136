use Rattle.std.proofs.Common.{◌≡◌, ◌++◌, drop, true}
use Rattle.gs_fields.specs.Format.{all_fit, spell_all}
use Rattle.gs_entries.proofs.spelled.put_all.Given as goal

abbrev pub invariant-loop-item : goal.invariant-loop-item
invariant-loop-item g l = record {
  spelled : l.to.items ++ spell_all g.T.Spelled.format (drop l.item-index l.items) ≡ l.fn.to.items ++ spell_all g.T.Spelled.format l.items;
  fits : all_fit g.T.Spelled.format (drop l.item-index l.items) ≡ true;
}
