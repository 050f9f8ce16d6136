use Rattle.gs_idl.specs.Word.{is_keyword}
use Rattle.gs_idl.proofs.keyword.is_keyword.Goals as goal

pub returns : goal.returns
unfolding is_keyword
returns c = c.stands_in.ensures
