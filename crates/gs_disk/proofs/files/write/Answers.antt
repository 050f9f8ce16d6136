use Rattle.std.proofs.lemmas.Result.{IfOk-weaker}
use Rattle.gs_disk.specs.Folder.{overwritten}
use Rattle.gs_disk.proofs.Updates.{written, stands, room_for, on_err, kept, none_written}
use Rattle.gs_disk.proofs.files.write.Goals as goal

pub overwrite-requires : goal.overwrite-requires
overwrite-requires c = room_for c.args.files.now c.args.name.now c.in-Some.file.now c.args.at c.in-Some.ensures.value c.requires

pub returns-in-Some-clause-written : goal.returns-in-Some-clause-written
returns-in-Some-clause-written c =
    IfOk-weaker c.overwrite.result _ _ (λ _ same. written c.args.files.now (c.get_mut.follows.lender c.overwrite.new.file) c.args.name.now c.in-Some.file.now c.overwrite.new.file (overwritten c.args.at c.args.bytes.now) c.in-Some.ensures.value ((c.get_mut.follows.holds c.overwrite.new.file).3) same) c.overwrite.ensures.written

pub returns-in-Some-clause-absent : goal.returns-in-Some-clause-absent
returns-in-Some-clause-absent c = λ none.
    let some = stands c.args.files.now c.args.name.now c.in-Some.file.now c.in-Some.ensures.value in
    absurd (cc (none, some))

pub returns-in-Some-clause-refused : goal.returns-in-Some-clause-refused
returns-in-Some-clause-refused c =
    on_err c.overwrite.result _ _ (λ same. kept c.args.files.now (c.get_mut.follows.lender c.overwrite.new.file) c.args.name.now c.in-Some.file.now c.overwrite.new.file c.in-Some.ensures.value (c.get_mut.follows.holds c.overwrite.new.file).0 same) c.overwrite.ensures.refused

pub returns-in-None-clause-written : goal.returns-in-None-clause-written
returns-in-None-clause-written c = none_written c.args.files.now c.args.name.now _ c.in-None.ensures.value
