use Rattle.std.proofs.Common.{◌≡◌, ◌≤◌, take, drop}
use Rattle.std.specs.List.{count_by}
use Rattle.gs_idl.specs.Lexicon.{is_feed, close_at}
use Rattle.gs_idl.specs.Token.{further}
use Rattle.gs_idl.proofs.token.close_at.Given as goal

abbrev pub invariant-loop-i : goal.invariant-loop-i
invariant-loop-i l = record {
  rest : close_at l.bytes ≡ further l.i (close_at (drop l.i l.bytes));
  feeds : l.feeds ≡ count_by is_feed (take l.i l.bytes);
  few : l.feeds ≤ l.i;
}
