use Rattle.std.proofs.Common.{ℕ, ◌+◌, ◌++◌, List, [], Option, drop, map, ap, ◌∙◌, arith}
use Rattle.gs_types.specs.declared.note.Note.{Note}
use Rattle.gs_types.specs.declared.note.VarNote.{VarNote}
use Rattle.gs_tree.specs.View.{var_of}
use Rattle.gs_pieces.specs.Notes.{noted_first, notes_of}
use Rattle.gs_pieces.proofs.Noting.{notes_more, notes_end}
use Rattle.gs_pieces.proofs.var_notes.notes.Goals as goal

pub loop-i-preserved : goal.loop-i-preserved
loop-i-preserved c =
    let i = c.loop-i.i in
    let v = c.index-vars-i.result in
    let s = c.index-slots-i.result in
    let all = c.loop-i.all.items in
    let rest = notes_of (map var_of (drop (i + 1) c.args.vars.now)) (drop (i + 1) c.args.slots.now) in
    ap (λ (xs : List VarNote). xs ++ rest)
    (c.in_ok-push_note.ensures
    ∙ ap (λ (b : List ℕ). all ++ noted_first b c.in_ok-note.note []) c.deref.ensures.value
    ∙ ap (λ (n : Option Note). all ++ noted_first v.name.name.items n []) c.in_ok-note.ensures)
    ∙ notes_more c.args.vars.now c.args.slots.now i v s all (notes_of (map var_of c.args.vars.now) c.args.slots.now) (omega (arith, c.min-i-end.ensures, c.loop-i-test.true)) (omega (arith, c.min-i-end.ensures, c.loop-i-test.true)) c.index-vars-i.is c.index-slots-i.is c.loop-i.invariant

pub returns : goal.returns
returns c = notes_end c.args.vars.now c.args.slots.now c.loop-i.i c.loop-i.all.items (notes_of (map var_of c.args.vars.now) c.args.slots.now) (omega (arith, c.min-i-end.ensures, c.loop-i-test.false)) c.loop-i.invariant
