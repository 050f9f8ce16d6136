use Rattle.std.proofs.Common.{map}
use Rattle.std.specs.String.{string_bytes}
use Rattle.gs_site.specs.Site.{disk_of, link_of}
use Rattle.gs_run.specs.Ready.{HasResults}
use Rattle.gs_run.proofs.Wishes.{did_run}
use Rattle.gsin.proofs.Calm.{calm}
use Rattle.gsin.proofs.inside.gs_inside.Goals as goal

pub returns-clause-inside : goal.returns-clause-inside
returns-clause-inside g c =
    λ told idl program workers settings run o past begins k last ends below disk out.
    let d = c.gs.ensures.did in
    let ran = did_run _ _ _ _ _ _ _ _ _ _ _ _ _ (map string_bytes c.args.words.now.items) d.0 idl
    program workers settings d.1 d.2 run d.4 in
    let stood = ran.stood told o past begins in
    let folder = (g.D.Disk.state (disk_of c.args.site.now)).folder in
    c.gs.ensures.complete told idl program workers settings run o past begins disk
    (calm (link_of c.args.site.now) (link_of c.gs.new.site) stood.2.history past o settings stood.0
    (HasResults folder idl program) (folder workers) d.1 k last begins.law_is begins.told
    stood.2.told stood.2.holds ends below)
    out
