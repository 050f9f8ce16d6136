use Rattle.std.proofs.Common.{◌≡◌, ◌++◌, take}
use Rattle.gs_report.specs.Pieces.{hex_of}
use Rattle.gs_report.proofs.put.put_hex.Given as goal

abbrev pub invariant-loop-b : goal.invariant-loop-b
invariant-loop-b l = l.text.items ≡ l.fn.text.items ++ hex_of (take l.b-index l.bytes)
