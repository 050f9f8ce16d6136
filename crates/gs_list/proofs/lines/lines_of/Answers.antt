use Rattle.std.proofs.Common.{rules, ◌≡◌, ◌≤◌, ◌+◌, map, sym, subst, length}
use borrow.Author.Tests.{tests}
use Rattle.std.specs.List.{slice_split}
use Rattle.std.proofs.lemmas.Iterator.Splits.{YieldsList-from_slice_split}
use Rattle.std.proofs.lemmas.Iterator.Consumers.{map_from_collect}
use Rattle.std.proofs.lemmas.Result.{IfOk-weaker}
use Rattle.gs_list.specs.Lines.{AreLines, is_feed}
use Rattle.gs_list.specs.Lines.{spelled}
use Rattle.gs_list.proofs.Cutting.{lines_split, few_lines}
use Rattle.gs_list.proofs.lines.lines_of.Goals as goal

pub returns-clause-lines : goal.returns-clause-lines
returns-clause-lines c =
    IfOk-weaker c.collect.result (λ v. map (λ w. w.now) v.items ≡ slice_split is_feed c.args.bytes.now) (λ v. AreLines c.args.bytes.now (spelled v.items))
    (λ v e. subst (AreLines c.args.bytes.now) (sym e) (lines_split c.args.bytes.now))
    (map_from_collect _ c.collect.ensures.ran
    (YieldsList-from_slice_split _ is_feed c.args.bytes.now c.split.ensures.rest c.split.ensures.done c.split.ensures.closure (λ x b q k. search (rules, tests))))

pub returns-clause-few : goal.returns-clause-few
returns-clause-few c =
    IfOk-weaker c.collect.result (λ v. map (λ w. w.now) v.items ≡ slice_split is_feed c.args.bytes.now) (λ v. length v.items ≤ length c.args.bytes.now + 1)
    (λ v e. few_lines c.args.bytes.now v.items e)
    (map_from_collect _ c.collect.ensures.ran
    (YieldsList-from_slice_split _ is_feed c.args.bytes.now c.split.ensures.rest c.split.ensures.done c.split.ensures.closure (λ x b q k. search (rules, tests))))
