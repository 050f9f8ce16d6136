use Rattle.std.proofs.Common.{◌≡◌, ◌≢◌, ◌∙◌, refl, sym, ap, subst, ◌<◌, ◌≤◌, ◌+◌, ℕ, Bool, true, false, List, Option, None, Some, is_some, suc, arith}
use Rattle.std.specs.Prelude.{option_map}
use Rattle.gs_idl.specs.Interface.{Param, Signature, params_at}
use Rattle.gs_types.specs.declared.note.Version.{Version}
use Rattle.gs_types.specs.History.{outs_in}
use Rattle.gs_names.specs.Table.{writes_in}
use Rattle.gs_names.specs.Writes.{latest}
use Rattle.gs_looks.specs.Looked.{looks_in}
use Rattle.gs_looks.specs.Judgement.{judged_call, read_with, IsJudged, IsUnseen}
use Rattle.gs_looks.specs.declared.judging.Judged.{Judged}
use Rattle.gs_talk.specs.declared.question.CallArg.{CallArg}
use Rattle.gs_talk.specs.declared.question.Question.TheVariants as q
use Rattle.gs_talk.specs.declared.question.Answer.{Answer}
use Rattle.gs_talk.specs.declared.question.Answer.TheVariants.{Absent, TooLong}
use Rattle.gs_talk.specs.Seq.{first_refused, went_unless}
use Rattle.gs_talk_laws.specs.Versions.{writings, read_by}
use Rattle.gs_history.specs.Setup.{Setup, world_at, count_at}
use Rattle.gs_history.specs.Frontier.{unfinished, MayAnswer}
use Rattle.gs_history.proofs.Refusing.{calls_by_versions}
use Rattle.gs_tables.specs.Noted.{noting_in, misfit_of}
use Rattle.gs_tables.specs.Outs.{outs_noted}
use Rattle.gs_tables.specs.declared.tables.Tables.{Tables}
use Rattle.gs_tables.proofs.Calling.{answered_refused, room, no_room, judged_reads, judged_args}
use Rattle.gs_tables.proofs.Entering.{fits_next, misfit_next, outs_next}
use Rattle.gs_tables.proofs.tables.Tables.call.Goals as goal

pub returns-in-Unseen-clause-came : goal.returns-in-Unseen-clause-came
returns-in-Unseen-clause-came c = λ s k h line next ops holds asked.
    let t = c.args.self.now in
    let number = c.in_ok-n.ensures ∙ ap (λ (i : ℕ). i + 1) (c.count.ensures ∙ holds.graph.count) in
    let may = room t s k h c.in_ok-n.n c.is_noted.result holds number c.is_noted.ensures (c.has_room.ensures.0 c.if-not-has_room.false) in
    let is = judged_args t s k h c.args.idl.now.ops c.args.op c.args.args c.items.result.now holds ops c.items.ensures in
    let unseen = subst (λ (l : List (Option Version)). IsUnseen (looks_in t.looks) l c.judge.result) is c.judge.ensures.unseen in
    let named = subst (λ (j : Judged). IsUnseen (looks_in t.looks) (read_by (writings s.run k) (params_at s.run.texts.ops c.args.op) c.args.args) j) c.in-Unseen.is unseen in
    (holds, refl, may, record { reads = named.0; unseen = named.1 })

pub returns-in-Absent-clause-came : goal.returns-in-Absent-clause-came
returns-in-Absent-clause-came c = λ s k h line next ops holds asked.
    let t = c.args.self.now in
    let number = c.in_ok-n.ensures ∙ ap (λ (i : ℕ). i + 1) (c.count.ensures ∙ holds.graph.count) in
    let may = room t s k h c.in_ok-n.n c.is_noted.result holds number c.is_noted.ensures (c.has_room.ensures.0 c.if-not-has_room.false) in
    let says = judged_reads t s k h c.args.idl.now.ops c.args.op c.args.args c.items.result.now c.deref.result.now c.judge.result _ holds ops c.items.ensures c.deref.ensures.value c.in-Absent.is c.judge.ensures.answers in
    answered_refused t s k h c.args.op line c.args.args asked.0 next Absent holds asked.1 may says

pub returns-in-TooLong-clause-came : goal.returns-in-TooLong-clause-came
returns-in-TooLong-clause-came c = λ s k h line next ops holds asked.
    let t = c.args.self.now in
    let number = c.in_ok-n.ensures ∙ ap (λ (i : ℕ). i + 1) (c.count.ensures ∙ holds.graph.count) in
    let may = room t s k h c.in_ok-n.n c.is_noted.result holds number c.is_noted.ensures (c.has_room.ensures.0 c.if-not-has_room.false) in
    let says = judged_reads t s k h c.args.idl.now.ops c.args.op c.args.args c.items.result.now c.deref.result.now c.judge.result _ holds ops c.items.ensures c.deref.ensures.value c.in-TooLong.is c.judge.ensures.answers in
    answered_refused t s k h c.args.op line c.args.args asked.0 next TooLong holds asked.1 may says

pub returns-in-Some-clause-came : goal.returns-in-Some-clause-came
returns-in-Some-clause-came c = λ s k h line next ops holds asked.
    let t = c.args.self.now in
    let number = c.in_ok-n.ensures ∙ ap (λ (i : ℕ). i + 1) (c.count.ensures ∙ holds.graph.count) in
    let says = judged_reads t s k h c.args.idl.now.ops c.args.op c.args.args c.items.result.now c.deref.result.now c.judge.result _ holds ops c.items.ensures c.deref.ensures.value c.in-Fine.is c.judge.ensures.answers in
    let form = ap (λ (l : List Signature). misfit_of (noting_in t.notes c.in_ok-n.n) c.args.op (params_at l c.args.op)) (sym ops) ∙ sym c.misfit.ensures ∙ c.in-Some.is in
    (holds, refl, misfit_next t s k h c.args.op line c.in_ok-n.n c.in-Some.index c.args.args asked.0 next holds asked.1 number says form)

pub returns-in_ok-enter-in-None-clause-came : goal.returns-in_ok-enter-in-None-clause-came
returns-in_ok-enter-in-None-clause-came c = λ s k h line next ops holds asked.
    let t = c.args.self.now in
    let number = c.in_ok-n.ensures ∙ ap (λ (i : ℕ). i + 1) (c.count.ensures ∙ holds.graph.count) in
    let may = room t s k h c.in_ok-n.n c.is_noted.result holds number c.is_noted.ensures (c.has_room.ensures.0 c.if-not-has_room.false) in
    let says = judged_reads t s k h c.args.idl.now.ops c.args.op c.args.args c.items.result.now c.deref.result.now c.judge.result _ holds ops c.items.ensures c.deref.ensures.value c.in-Fine.is c.judge.ensures.answers in
    let form = ap (λ (l : List Signature). misfit_of (noting_in t.notes c.in_ok-n.n) c.args.op (params_at l c.args.op)) (sym ops) ∙ sym c.misfit.ensures ∙ c.in-None.is in
    let given = λ (l : List Signature). params_at l c.args.op in
    let outs = c.in_ok-outs-in-None.ensures ∙ outs_next t s k c.args.op c.in_ok-n.n h holds number form ∙ ap (λ (l : List Signature). option_map (outs_noted 1 (given l)) (outs_in h (count_at s k + 1))) (sym ops) in
    let fine = ap (λ (l : List CallArg). judged_call (looks_in t.looks) t.mains.items (read_with (λ x. latest x (writes_in t.names)) (given c.args.idl.now.ops) l)) (sym c.items.ensures)
    ∙ ap (λ (l : List ℕ). judged_call (looks_in t.looks) l (read_with (λ x. latest x (writes_in t.names)) (given c.args.idl.now.ops) c.items.result.now)) (sym c.deref.ensures.value) ∙ sym c.judge.ensures.first ∙ c.in-Fine.is in
    c.in_ok-enter-in-None.ensures.entered s k h line next ops holds asked may (fits_next t s k h c.args.op line c.in_ok-n.n c.args.args asked.0 next holds asked.1 number form)
    (ap (λ (l : List Signature). first_refused (world_at s k).files (given l) c.args.args) ops ∙ says) outs fine

pub returns-then-not-has_room-clause-came : goal.returns-then-not-has_room-clause-came
returns-then-not-has_room-clause-came c = λ s k h line next ops holds asked.
    let t = c.args.self.now in
    let number = c.in_ok-n.ensures ∙ ap (λ (i : ℕ). i + 1) (c.count.ensures ∙ holds.graph.count) in
    (holds, refl, no_room t s k h c.in_ok-n.n c.is_noted.result holds number c.is_noted.ensures (c.has_room.ensures.1 c.if-not-has_room.true))
