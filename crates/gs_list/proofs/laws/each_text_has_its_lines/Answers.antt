use Rattle.gs_list.proofs.Cutting.{lines_one}
use Rattle.gs_list.proofs.laws.each_text_has_its_lines.Goals as goal

pub returns : goal.returns
returns c = lines_one
