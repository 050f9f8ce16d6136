use Rattle.std.proofs.Common.{◌≡◌, ◌<◌, ◌+◌, ap, ◌∙◌, length, arith, rules, map, min, take, get_or, Ok}
use Rattle.std.specs.List.{zip}
use Rattle.gs_keep.specs.Given.{noted, files_in}
use Rattle.gs_keep.proofs.Noting.{noted_more, fit_more}
use Rattle.gs_keep.proofs.Reading.{all_fit_at, puts_step, puts_short, puts_all, puts_so, taken_more, taken_all}
use Rattle.gs_keep.proofs.Causing.{rose_by}
use Rattle.gs_keep.proofs.outputs.put_outputs.Goals as goal

pub note_at-requires-clause-fits : goal.note_at-requires-clause-fits
note_at-requires-clause-fits g c =
    let here : c.loop-i.i < length c.args.places.now = omega arith in
    all_fit_at c.args.places.now c.loop-i.i c.requires.fit here

pub returns-in-Err-clause-puts : goal.returns-in-Err-clause-puts
returns-in-Err-clause-puts g c = λ told.
    let a = g.D.Disk.state c.args.disk.now in
    let b = g.D.Disk.state c.loop-i.disk in
    let d = g.D.Disk.state c.put_if_file.new.disk in
    let here : c.loop-i.i < length c.args.places.now = omega arith in
    let there : c.loop-i.i < length c.args.outs.now = omega arith in
    let step = puts_step c.put_if_file.result c.args.store.now c.loop-i.store c.args.n
    c.args.places.now c.args.outs.now c.loop-i.i c.index-outs-i.result a b d
    c.loop-i.invariant.same (omega arith) c.requires.fit c.requires.rise here there
    c.index-outs-i.is (c.loop-i.invariant.puts told) (c.put_if_file.ensures.puts told) in
    puts_short _ _ c.args.store.now c.args.n (zip c.args.places.now c.args.outs.now)
    (c.loop-i.i + 1) a d tt step

pub returns-in_err-note-clause-puts : goal.returns-in_err-note-clause-puts
returns-in_err-note-clause-puts g c = λ told.
    let a = g.D.Disk.state c.args.disk.now in
    let b = g.D.Disk.state c.loop-i.disk in
    let d = g.D.Disk.state c.put_if_file.new.disk in
    let here : c.loop-i.i < length c.args.places.now = omega arith in
    let there : c.loop-i.i < length c.args.outs.now = omega arith in
    let step = puts_step c.put_if_file.result c.args.store.now c.loop-i.store c.args.n
    c.args.places.now c.args.outs.now c.loop-i.i c.index-outs-i.result a b d
    c.loop-i.invariant.same (omega arith) c.requires.fit c.requires.rise here there
    c.index-outs-i.is (c.loop-i.invariant.puts told) (c.put_if_file.ensures.puts told) in
    puts_short _ c.from_residual.result c.args.store.now c.args.n
    (zip c.args.places.now c.args.outs.now) (c.loop-i.i + 1) a d (search rules) step

pub returns-in_err-push-clause-puts : goal.returns-in_err-push-clause-puts
returns-in_err-push-clause-puts g c = λ told.
    let a = g.D.Disk.state c.args.disk.now in
    let b = g.D.Disk.state c.loop-i.disk in
    let d = g.D.Disk.state c.put_if_file.new.disk in
    let here : c.loop-i.i < length c.args.places.now = omega arith in
    let there : c.loop-i.i < length c.args.outs.now = omega arith in
    let step = puts_step c.put_if_file.result c.args.store.now c.loop-i.store c.args.n
    c.args.places.now c.args.outs.now c.loop-i.i c.index-outs-i.result a b d
    c.loop-i.invariant.same (omega arith) c.requires.fit c.requires.rise here there
    c.index-outs-i.is (c.loop-i.invariant.puts told) (c.put_if_file.ensures.puts told) in
    puts_short _ c.from_residual-in_err-push.result c.args.store.now c.args.n
    (zip c.args.places.now c.args.outs.now) (c.loop-i.i + 1) a d (search rules) step

pub loop-i-preserved : goal.loop-i-preserved
loop-i-preserved g c =
    let places = c.args.places.now in
    let outs = c.args.outs.now in
    let i = c.loop-i.i in
    let v = c.index-outs-i.result in
    let a = g.D.Disk.state c.args.disk.now in
    let b = g.D.Disk.state c.loop-i.disk in
    let d = g.D.Disk.state c.put_if_file.new.disk in
    let here : i < length places = omega arith in
    let there : i < length outs = omega arith in
    record {
      same = c.put_if_file.ensures.same ∙ c.loop-i.invariant.same;
      noted_so_far =
          noted_more c.loop-i.notes c.push.new.self c.in_ok-note.note (take i (zip places outs))
          (take (i + 1) (zip places outs)) (get_or places i 0, v) c.in_ok-push.ensures.ok
          c.loop-i.invariant.noted_so_far c.in_ok-note.ensures.value
          (taken_more places outs i v here there c.index-outs-i.is);
      fit =
          fit_more c.loop-i.notes c.push.new.self c.in_ok-note.note c.in_ok-push.ensures.ok
          c.loop-i.invariant.fit c.in_ok-note.ensures.fits;
      rose = rose_by c.put_if_file.result a b d c.loop-i.invariant.rose
          c.put_if_file.ensures.fails;
      puts = λ told. puts_so c.in_default.field-0 tt c.args.store.now c.args.n
          (files_in (take (i + 1) (zip places outs))) a d
          (puts_step (Ok c.in_default.field-0) c.args.store.now c.loop-i.store c.args.n places outs
          i v a b d c.loop-i.invariant.same (omega arith) c.requires.fit c.requires.rise here there
          c.index-outs-i.is (c.loop-i.invariant.puts told) (c.in_default.ensures.puts told));
    }

pub returns-clause-notes : goal.returns-clause-notes
returns-clause-notes g c =
    let at : c.loop-i.i ≡ min (length c.args.places.now) (length c.args.outs.now) = omega arith in
    c.loop-i.invariant.noted_so_far
    ∙ ap (map noted) (taken_all c.args.places.now c.args.outs.now c.loop-i.i at)

pub returns-clause-puts : goal.returns-clause-puts
returns-clause-puts g c = λ told.
    let a = g.D.Disk.state c.args.disk.now in
    let d = g.D.Disk.state c.loop-i.disk in
    let at : c.loop-i.i ≡ min (length c.args.places.now) (length c.args.outs.now) = omega arith in
    puts_all _ c.args.store.now c.args.n c.args.places.now c.args.outs.now c.loop-i.i a d at
    (c.loop-i.invariant.puts told)
