use Rattle.std.proofs.Common.{sym, subst}
use Rattle.gs_broker.specs.declared.choice.Ready.{Ready}
use Rattle.gs_tables.specs.Starts.{IsEntry}
use Rattle.gs_tables.proofs.Listing.{entry_is}
use Rattle.gs_tables.proofs.tables.Tables.listed.Goals as goal

pub returns-clause-says : goal.returns-clause-says
returns-clause-says c = λ s k h task holds small at inputs.
    subst (λ (r : Ready). IsEntry r c.args.n task) (sym c.entry.ensures.entry) (entry_is c.args.self.now s k c.args.n h task holds (small k c.args.n task at) at inputs)
