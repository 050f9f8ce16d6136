use Rattle.std.proofs.Common.{◌≡◌, ◌∙◌, sym, nat_eq}
use Rattle.indexmap.specs.IndexMap.{get}
use Rattle.gs_tables.proofs.Noting.{with_note, without_note}
use Rattle.gs_tables.proofs.noted.Notes.new.Goals as goal

pub loop-note-preserved : goal.loop-note-preserved
loop-note-preserved c = without_note (λ n. get nat_eq c.loop-note.map n) c.loop-note.yielded c.in-Some.note c.loop-note.invariant (sym c.contains_key.ensures ∙ c.if-not-contains_key.false)

pub loop-note-preserved-in_ok-insert-2 : goal.loop-note-preserved-in_ok-insert-2
loop-note-preserved-in_ok-insert-2 c = with_note (λ n. get nat_eq c.loop-note.map n) (λ n. get nat_eq c.insert.new.self n) c.loop-note.yielded c.in-Some.note c.loop-note.invariant (sym c.contains_key.ensures ∙ c.if-not-contains_key.true) c.in_ok-insert.ensures.updates.0
