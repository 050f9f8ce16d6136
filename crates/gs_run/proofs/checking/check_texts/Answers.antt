use Rattle.std.proofs.Common.{ap, Ok, Err}
use Rattle.gs_disk.specs.Folder.{Folder}
use Rattle.gs_check.specs.Passing.{program_in, interface_in}
use Rattle.gs_run.proofs.Checks.{no_sources, within_idl, within_program, both_of, says_as, went_wrong, none_is, shown, check_as}
use Rattle.gs_run.proofs.checking.check_texts.Goals as goal

pub returns-in-Err : goal.returns-in-Err
returns-in-Err g c = check_as _ _ _ _ _ _ _ _ _ _ _ (Err c.stopped.result)
    (ap Err c.stopped.ensures)
    (no_sources g.D.Disk.tells g.O.Sink.tells (g.D.Disk.state c.args.disk.now)
    (g.D.Disk.state c.read_sources.new.disk) (g.O.Sink.faults c.args.out.now)
    (g.O.Sink.written c.args.out.now) c.args.words.now.idl c.args.words.now.program
    c.in-Err.refusal
    c.in-Err.ensures.ends c.in-Err.ensures.told c.in-Err.ensures.same c.in-Err.ensures.images)

pub returns-in-Ok-checked : goal.returns-in-Ok-checked
returns-in-Ok-checked g c =
    let i = c.args.words.now.idl in
    let p = c.args.words.now.program in
    check_as _ _ _ _ _ _ _ _ _ _ _ c.shown.result c.shown.ensures
    (shown g.D.Disk.tells g.O.Sink.tells (g.D.Disk.state c.args.disk.now)
    (g.D.Disk.state c.read_sources.new.disk) (g.O.Sink.faults c.args.out.now)
    (g.O.Sink.faults c.show.new.out) (g.O.Sink.written c.args.out.now)
    (g.O.Sink.written c.show.new.out) i p
    (interface_in c.in-Ok-checked.checked) (program_in c.in-Ok-checked.checked) c.show.result
    c.show.ensures.ends (none_is _ c.show.ensures.passes)
    (λ t. both_of _ i p c.in-Ok.texts (Ok c.in-Ok-checked.checked) (c.in-Ok.ensures.told t)
    (says_as c.bytes.result.now c.bytes-2.result.now c.in-Ok.texts.idl c.in-Ok.texts.program i p
    (Ok c.in-Ok-checked.checked) c.bytes.ensures.value c.bytes-2.ensures.value
    c.in-Ok-checked.ensures.says)) c.show.ensures.wrote
    (λ t x. ap (λ (f : Folder). f x) (c.in-Ok.ensures.same t)) c.in-Ok.ensures.images)

pub returns : goal.returns
returns g c =
    let i = c.args.words.now.idl in
    let p = c.args.words.now.program in
    check_as _ _ _ _ _ _ _ _ _ _ _ (Err c.stopped-in-Err-checked.result)
    (ap Err c.stopped-in-Err-checked.ensures)
    (went_wrong g.D.Disk.tells g.O.Sink.tells (g.D.Disk.state c.args.disk.now)
    (g.D.Disk.state c.read_sources.new.disk) (g.O.Sink.faults c.args.out.now)
    (g.O.Sink.written c.args.out.now) i p c.in-Err-checked.refusal c.in-Err-checked.ensures.ends
    (λ t. within_idl _ i p c.in-Ok.texts (c.in-Ok.ensures.told t))
    (λ t. within_program _ i p c.in-Ok.texts (c.in-Ok.ensures.told t))
    (λ t. both_of _ i p c.in-Ok.texts (Err c.in-Err-checked.refusal) (c.in-Ok.ensures.told t)
    (says_as c.bytes.result.now c.bytes-2.result.now c.in-Ok.texts.idl c.in-Ok.texts.program i p
    (Err c.in-Err-checked.refusal) c.bytes.ensures.value c.bytes-2.ensures.value
    c.in-Err-checked.ensures.says)) (λ t x. ap (λ (f : Folder). f x) (c.in-Ok.ensures.same t))
    c.in-Ok.ensures.images)
