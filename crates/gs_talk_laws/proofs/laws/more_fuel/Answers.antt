use Rattle.gs_talk_laws.proofs.Fuels.{more_fuel, fuel_prefix, same_standings}
use Rattle.gs_talk_laws.proofs.Statements.{dialogue_cut}
use Rattle.gs_talk_laws.proofs.laws.more_fuel.Goals as goal

pub returns-clause-dialogues : goal.returns-clause-dialogues
returns-clause-dialogues c = dialogue_cut

pub returns-clause-questions : goal.returns-clause-questions
returns-clause-questions c = more_fuel

pub returns-clause-exchanges : goal.returns-clause-exchanges
returns-clause-exchanges c = fuel_prefix

pub returns-clause-standings : goal.returns-clause-standings
returns-clause-standings c = same_standings
