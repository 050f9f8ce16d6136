use Rattle.std.proofs.Common.{sym, subst}
use Rattle.gs_idl.specs.Interface.{params_at}
use Rattle.gs_names.specs.Table.{writes_in}
use Rattle.gs_names.specs.Writes.{latest}
use Rattle.gs_history.specs.Refusals.{refused_versions}
use Rattle.gs_looks.specs.Looked.{looks_in}
use Rattle.gs_looks.specs.Judgement.{IsJudged, IsUnseen, read_with}
use Rattle.gs_looks.proofs.Answering.{call_answered, call_unseen}
use Rattle.gs_looks.proofs.judging.judge.Goals as goal

pub returns-clause-answers : goal.returns-clause-answers
returns-clause-answers c = λ first w are lengths.
    let reads = read_with (λ x. latest x (writes_in c.args.table.now)) (params_at c.args.idl.now.ops c.args.op) c.args.args.now in
    subst (λ j. IsJudged j (refused_versions first w reads)) (sym c.judge_all.ensures) (call_answered (looks_in c.args.looks.now) c.args.mains.now first w reads are lengths)

pub returns-clause-unseen : goal.returns-clause-unseen
returns-clause-unseen c =
    let reads = read_with (λ x. latest x (writes_in c.args.table.now)) (params_at c.args.idl.now.ops c.args.op) c.args.args.now in
    subst (λ j. IsUnseen (looks_in c.args.looks.now) reads j) (sym c.judge_all.ensures) (call_unseen (looks_in c.args.looks.now) c.args.mains.now reads)
