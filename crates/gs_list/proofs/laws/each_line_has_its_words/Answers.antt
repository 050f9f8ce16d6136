use Rattle.gs_list.proofs.Cutting.{has_one, has_no_bad}
use Rattle.gs_list.proofs.laws.each_line_has_its_words.Goals as goal

pub returns : goal.returns
returns c = λ line. record { one = has_one line; apart = has_no_bad line }
