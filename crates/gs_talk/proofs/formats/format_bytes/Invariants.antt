use Rattle.std.proofs.Common.{◌≡◌, length}
use Rattle.gs_tree.specs.Formats.{pieces}
use Rattle.gs_talk.specs.Texts.{formatted}
use Rattle.gs_talk.proofs.Rendering.{written_then}
use Rattle.gs_talk.proofs.formats.format_bytes.Given as goal

abbrev pub invariant-pieces : goal.invariant-pieces
invariant-pieces l = written_then l.out.items (pieces l.format_left) l.values_left ≡ formatted l.format l.args

abbrev pub decreases-pieces : goal.decreases-pieces
decreases-pieces l = length l.format_left
