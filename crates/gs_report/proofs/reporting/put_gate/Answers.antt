use Rattle.std.proofs.Common.{ap, ◌∙◌}
use Rattle.gs_fields.specs.Format.{all_fit}
use Rattle.gs_entries.specs.Notes.{final}
use Rattle.gs_report.proofs.Fitting.{finals_fit}
use Rattle.gs_report.proofs.reporting.put_gate.Goals as goal

pub put_finals-requires : goal.put_finals-requires
put_finals-requires g c = record {
  fits = ap (all_fit final) c.items-3.ensures ∙ finals_fit c.args.g.now c.requires.fits;
}
