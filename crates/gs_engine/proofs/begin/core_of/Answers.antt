use Rattle.std.proofs.Common.{List, sym, subst}
use Rattle.gs_main.specs.Shown.{talking}
use Rattle.gs_tables.specs.declared.noted.DoneNote.{DoneNote}
use Rattle.gs_core.specs.Beginning.{IsGiven}
use Rattle.gs_engine.proofs.begin.core_of.Goals as goal

pub returns-clause-stands : goal.returns-clause-stands
returns-clause-stands c = λ s h given noted. c.new.ensures.stands s h
    (subst (λ (l : List DoneNote). IsGiven (talking c.args.main) c.args.broker c.args.window l s)
    (sym c.in_ok-notes.ensures) given) noted
