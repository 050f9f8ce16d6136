use Rattle.std.proofs.Common.{rules, ◌≡◌, map, filter, sym, subst}
use borrow.Author.Tests.{tests}
use Rattle.std.specs.List.{slice_split}
use Rattle.std.proofs.lemmas.Iterator.Splits.{YieldsList-from_slice_split}
use Rattle.std.proofs.lemmas.Iterator.Consumers.{YieldsList-from_filter, YieldsList-at, map_from_collect}
use Rattle.std.proofs.lemmas.Result.{IfOk-weaker}
use Rattle.gs_list.specs.Lines.{AreWords, is_blank, spelled}
use Rattle.gs_list.proofs.Cutting.{is_kept, words_split}
use Rattle.gs_list.proofs.words.parted.Goals as goal

pub returns : goal.returns
returns c =
    IfOk-weaker c.collect.result (λ v. map (λ w. w.now) v.items ≡ filter is_kept (slice_split is_blank c.args.content.now)) (λ v. AreWords c.args.content.now (spelled v.items))
    (λ v e. subst (AreWords c.args.content.now) (sym e) (words_split c.args.content.now c.requires))
    (map_from_collect _ c.collect.ensures.ran
    (YieldsList-from_filter _ is_kept
    (YieldsList-at c.filter.ensures.source
    (YieldsList-from_slice_split _ is_blank c.args.content.now c.split.ensures.rest c.split.ensures.done c.split.ensures.closure (λ x b q k. search (rules, tests))))
    c.filter.ensures.closure (λ x b q k. search (rules, tests))))
