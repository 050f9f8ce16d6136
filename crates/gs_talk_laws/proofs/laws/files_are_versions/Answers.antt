use Rattle.gs_talk_laws.proofs.Stays.{files_are_versions, writings_are_stored, latest_is_stored}
use Rattle.gs_talk_laws.proofs.laws.files_are_versions.Goals as goal

pub returns-clause-files : goal.returns-clause-files
returns-clause-files c = files_are_versions

pub returns-clause-writings : goal.returns-clause-writings
returns-clause-writings c = writings_are_stored

pub returns-clause-latest : goal.returns-clause-latest
returns-clause-latest c = latest_is_stored
