use Rattle.std.proofs.Common.{◌++◌, refl, arith}
use Rattle.sha2.proofs.Facts256.{length-sha256}
use Rattle.gs_report.proofs.laws.hash_gives_a_file.Goals as goal

pub returns : goal.returns
returns c = λ a b. record {
  said = refl;
  fit = (omega (arith, length-sha256 (a ++ b)), tt);
}
