use Rattle.std.proofs.Common.{List, ◌++◌, sym, ap, ◌∙◌}
use Rattle.gs_tables.specs.declared.noted.DoneNote.{DoneNote}
use Rattle.gs_engine.specs.Beginning.{notes_by, notes_in}
use Rattle.gs_engine.proofs.BeginningNotes.{notes_next, all_taken}
use Rattle.gs_engine.proofs.begin.done_notes.Goals as goal

pub returns-in-None : goal.returns-in-None
returns-in-None c = c.loop-index.invariant
    ∙ ap (notes_in 0)
    (all_taken c.args.store.now.entries c.loop-index.index (sym c.in-None.ensures.value))

pub loop-index-preserved : goal.loop-index-preserved
loop-index-preserved c = c.in_ok-push_note-in-Some.ensures
    ∙ ap (λ (l : List DoneNote). l ++ notes_by c.loop-index.index c.in-Some.entry.now)
    c.loop-index.invariant
    ∙ sym (notes_next c.args.store.now.entries c.loop-index.index c.in-Some.entry.now
    (sym c.in-Some.ensures.value))
