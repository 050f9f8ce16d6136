use Rattle.std.proofs.Common.{◌≡◌, ◌∙◌, refl, sym, ap}
use Rattle.gs_history.specs.Setup.{Noting}
use Rattle.gs_history.specs.Notes.{note_at}
use Rattle.gs_tables.proofs.Beginning.{begins}
use Rattle.gs_tables.proofs.tables.Tables.new.Goals as goal

pub returns : goal.returns
returns c = λ s h rules known notes window are.
    begins _ s h (record {
      rows = c.new-5.ensures.items;
      mains = c.new-3.ensures.items;
      looks = c.new-2.ensures;
      names = c.new-4.ensures.names;
      writes = c.new-4.ensures.writes;
      count = c.new-6.ensures.count;
      needs = c.new-6.ensures.needs;
      actions = c.new-6.ensures.actions;
      unfinished_is = refl;
    }) rules known (λ n. c.in_ok-new.ensures n ∙ ap (λ xs. note_at xs n) (sym notes)) (sym window) are
