use Rattle.gs_parse.proofs.Looks.{stands_some}
use Rattle.gs_tree.specs.Shown.{mark_shown}
use Rattle.gs_parse.specs.Words.{word_sign}
use Rattle.gs_parse.proofs.marks.stands.Goals as goal

pub returns-in-Some-clause-stands : goal.returns-in-Some-clause-stands
returns-in-Some-clause-stands c = stands_some (mark_shown c.in-Some.mark) _ _ (word_sign c.args.wanted) _ _ c.in-Some.ensures.shows c.sign_place.ensures c.word_place.ensures
