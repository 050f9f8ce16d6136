use Rattle.std.proofs.Common.{arith}
use Rattle.gs_entries.proofs.Spelling.{found_so, again_so}
use Rattle.gs_entries.proofs.payload.decode.Goals as goal

pub returns-clause-found : goal.returns-clause-found
returns-clause-found c = found_so c.args.payload.now c.whole_of.result (λ i. omega (arith, c.type_inv.payload i)) c.whole_of.ensures

pub returns-clause-again : goal.returns-clause-again
returns-clause-again c = λ e s. again_so c.args.payload.now c.whole_of.result e c.whole_of.ensures s
