use Rattle.gs_store.proofs.Payloads.{IsReadTo}
use Rattle.gs_store.proofs.load.read_book.Given as goal

abbrev pub invariant-loop-i : goal.invariant-loop-i
invariant-loop-i l = IsReadTo l.log l.i l.book
