use Rattle.std.proofs.Common.{◌++◌, refl, arith}
use Rattle.std.specs.Fmt.{signed_decimal}
use Rattle.sha2.proofs.Facts256.{length-sha256}
use Rattle.gs_report.proofs.laws.mark_gives_a_file.Goals as goal

pub returns : goal.returns
returns c = λ f i. record {
  said = refl;
  fit = (omega (arith, length-sha256 (f ++ signed_decimal i)), tt);
}
