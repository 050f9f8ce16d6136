use Rattle.gs_words.proofs.OneReading.{says_one, fails_once}
use Rattle.gs_words.proofs.laws.one_reading.Goals as goal

pub returns-clause-one : goal.returns-clause-one
returns-clause-one c = says_one

pub returns-clause-once : goal.returns-clause-once
returns-clause-once c = fails_once
