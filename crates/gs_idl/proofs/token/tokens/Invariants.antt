use Rattle.std.proofs.Common.{◌+◌, ◌≤◌, ◌++◌, List, length, map}
use Rattle.gs_idl.specs.Lexicon.{IdlMark, Reads}
use Rattle.gs_idl.specs.Token.{mark_of}
use Rattle.gs_idl.proofs.token.tokens.Given as goal

abbrev pub invariant-pieces : goal.invariant-pieces
invariant-pieces l = record {
  lines : l.line + length l.rest ≤ 1 + length l.fn.bytes;
  short : length l.rest ≤ length l.fn.bytes;
  reads : (ms : List IdlMark) → Reads l.line l.rest ms → Reads 1 l.fn.bytes (map mark_of l.tokens.items ++ ms);
}

abbrev pub decreases-pieces : goal.decreases-pieces
decreases-pieces l = length l.rest
