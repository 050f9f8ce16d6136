use Rattle.std.proofs.Common.{◌≡◌}
use Rattle.gs_store.specs.Apart.{user_not_version}
use Rattle.gs_store.specs.Names.{version_name}
use Rattle.gs_back.proofs.Fitting.{user_name}
use Rattle.gs_back.proofs.finals.set_final.Goals as goal

pub copy_file-requires-clause-apart : goal.copy_file-requires-clause-apart
copy_file-requires-clause-apart g c = λ same.
    let user = user_name c.args.name.now c.bytes.ensures.name in
    let of = c.of-to.ensures in let from = c.version_file-from.ensures in
    let bytes = c.bytes.ensures.value in
    let is : c.args.name.now ≡ version_name c.args.last.now.version = cc in
    user_not_version c.args.name.now c.args.last.now.version c.requires.kept user is
