use Rattle.std.proofs.Common.{◌≡◌, ◌∙◌, ◌<◌, ◌≤◌, ◌-◌, ℕ, refl, sym, arith}
use Rattle.gs_history.proofs.Dependences.{number_some}
use Rattle.gs_history.proofs.Opening.{flying_is_open}
use Rattle.gs_history.specs.Setup.{world_at}
use Rattle.gs_tables.proofs.Finishing.{finished_holds}
use Rattle.gs_tables.proofs.tables.Tables.finished.Goals as goal

pub returns-clause-holds : goal.returns-clause-holds
returns-clause-holds c = λ s k h values holds fits le says.
    let g = c.finish_in.ensures in
    let within = c.is_within.ensures.0 c.if-not-is_within.false in
    finished_holds c.args.self.now _ s k h c.args.n c.args.outs values holds fits within.0 le says
    (record {
      rows = c.finish_row.ensures;
      notes = refl;
      looks = refl;
      mains = refl;
      names = refl;
      window = refl;
      unfinished_is = c.saturating_sub-self.ensures;
      count = g.count;
      done = g.done;
      needs = g.needs;
      actions = g.actions;
    })

pub returns-then-not-is_within-clause-holds : goal.returns-then-not-is_within-clause-holds
returns-then-not-is_within-clause-holds c = λ s k h values holds fits le says.
    let is = flying_is_open s h c.args.n holds.good fits.flies in
    let pos = number_some (world_at s is.1.moment) c.args.n is.0 is.1.called in
    let count = holds.count in
    let len = c.len.ensures in
    let rows = c.args.self.now.rows.ok.0 in
    absurd (c.is_within.ensures.1 c.if-not-is_within.true pos (omega arith))
