use Rattle.gs_own_texts.proofs.Staying.{own_stay, own_unwritten}
use Rattle.gs_own_texts.proofs.laws.own_texts_stay.Goals as goal

pub returns-clause-stay : goal.returns-clause-stay
returns-clause-stay g c name own k = own_stay c name own k

pub returns-clause-unwritten : goal.returns-clause-unwritten
returns-clause-unwritten g c name own k = own_unwritten c name own k
