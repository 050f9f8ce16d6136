use Rattle.std.proofs.Common.{◌<◌, length, rules}
use Rattle.gs_talk.proofs.Rendering.{after_one}
use Rattle.gs_talk.proofs.formats.first_of.Goals as goal

pub returns : goal.returns
returns c =
    let some : 0 < length c.args.format.now = search rules in
    after_one c.args.format.now some c.if-format-eq37.false
