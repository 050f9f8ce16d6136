use Rattle.std.proofs.Common.{◌≡◌, ◌∙◌, true, false, Bool, refl, sym, ap, List, ℕ, take, get_or, slice_set, []}
use Rattle.std.specs.Prelude.{not, ◌||◌}
use Rattle.gs_broker.specs.Text.{are_each_known, are_distinct, stands}
use Rattle.gs_broker.specs.Reading.{spelled, marked}
use Rattle.gs_broker.proofs.Marking.{not_known, word_more_at, marked_more, mark_at, known_more, distinct_more}
use Rattle.gs_broker.proofs.operations.mark_all.Goals as goal
use Rattle.gs_broker.proofs.operations.mark_all.Goals.{then-again, else-again}

pub returns-in_default : goal.returns-in_default
returns-in_default c = not_known c.args.idl.now.ops c.args.words.now c.loop-word.word-index (record { ref_ptr = (0, 0); now = [] }) c.loop-word-test.true (sym c.in_default.ensures.first)

or_true : (a b : Bool) → a ≡ true → true ≡ (a || b)
or_true true b e = refl
or_true false b e = absurd cc

or_false : (a b : Bool) → a ≡ false → b ≡ (a || b)
or_false true b e = absurd cc
or_false false b e = refl

pub loop-word-preserved : goal.loop-word-preserved
loop-word-preserved c =
    let ops = c.args.idl.now.ops in
    let xs = take c.loop-word.word-index (spelled c.args.words.now) in
    let word : List ℕ = (get_or c.args.words.now c.loop-word.word-index (record { ref_ptr = (0, 0); now = [] })).now in
    let more = word_more_at c.args.words.now c.loop-word.word-index (record { ref_ptr = (0, 0); now = [] }) c.loop-word-test.true in
    let place = sym c.in-Some.ensures.first in
    record {
      takes = ap (λ (bs : List Bool). slice_set bs c.in-Some.op true) c.loop-word.invariant.takes ∙ marked_more ops word xs c.in-Some.op c.requires.well_formed.rules place ∙ ap (marked ops) (sym more);
      known = ap (are_each_known ops) more ∙ known_more ops word xs c.in-Some.op place c.loop-word.invariant.known;
      again = (elim c.if-again.branch [
        | then-again w ↦ w.again-is ∙ w.if-again.true ∙ or_true (not (are_distinct xs)) (stands word xs) (sym c.loop-word.invariant.again ∙ w.if-again.true)
        | else-again w ↦
            w.again-is ∙ w.index.ensures ∙ ap (λ (bs : List Bool). get_or bs c.in-Some.op w.index.result.now) c.loop-word.invariant.takes
            ∙ mark_at ops word xs c.in-Some.op w.index.result.now place ∙ or_false (not (are_distinct xs)) (stands word xs) (sym c.loop-word.invariant.again ∙ w.if-again.false)
      ]) ∙ sym (distinct_more word xs) ∙ ap (λ (ws : List (List ℕ)). not (are_distinct ws)) (sym more);
    }
