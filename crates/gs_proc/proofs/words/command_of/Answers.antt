use Rattle.std.proofs.Common.{◌≡◌, ◌<◌, ◌+◌, ◌∙◌, ap, List, length, get_or, arith}
use Rattle.gs_types.specs.declared.job.Arg.{Arg}
use Rattle.gs_proc.specs.Words.{word_at}
use Rattle.gs_proc.proofs.WordLists.{words_behind}
use Rattle.gs_proc.proofs.words.command_of.Goals as goal

pub loop-i-preserved : goal.loop-i-preserved
loop-i-preserved g c =
    let items : c.items-arg-items.result.now ≡ c.args.job.now.args = c.items-arg-items.ensures in
    let lt : c.loop-i.i < length c.args.job.now.args = let same = ap (λ (xs : List Arg). length xs) items in let test = c.loop-i-test.true in omega arith in
    let word : c.as_str.result.now ≡ word_at c.args.job.now.n (c.loop-i.i + 1) (get_or c.args.job.now.args c.loop-i.i c.arg-item.result) =
    c.as_str.ensures.value ∙ c.in_ok-word.ensures
    ∙ ap (λ (arg : Arg). word_at c.args.job.now.n (c.loop-i.i + 1) arg) c.arg-item.is
    ∙ ap (λ (xs : List Arg). word_at c.args.job.now.n (c.loop-i.i + 1) (get_or xs c.loop-i.i c.arg-item.result)) items in record {
      program = c.in_ok-add_word-2.ensures.program ∙ c.loop-i.invariant.program;
      args = words_behind c.args.job.now.op c.as_str.result.now c.args.job.now.n c.loop-i.i c.args.job.now.args c.arg-item.result _ _ lt c.loop-i.invariant.args c.in_ok-add_word-2.ensures.args word;
      plain = c.in_ok-add_word-2.ensures.place c.loop-i.invariant.plain;
    }
