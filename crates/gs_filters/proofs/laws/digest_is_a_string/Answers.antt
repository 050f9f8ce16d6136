use Rattle.gs_filters.proofs.Digests.{digest_is_text}
use Rattle.gs_filters.proofs.laws.digest_is_a_string.Goals as goal

pub returns : goal.returns
returns c = digest_is_text
