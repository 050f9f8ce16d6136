use Rattle.std.proofs.Common.{◌≡◌, ◌∙◌, refl, sym, ap, subst, List, Option, Some, None}
use Rattle.gs_idl.specs.Interface.{Param, Signature, params_at}
use Rattle.gs_history.specs.Setup.{world_at}
use Rattle.gs_tables.specs.Rows.{row_at}
use Rattle.gs_tables.specs.Starts.{start_args, start_args_by, AreStartArgs}
use Rattle.gs_tables.specs.declared.row.Row.{Row}
use Rattle.gs_tables.specs.declared.row.StartArg.{StartArg}
use Rattle.gs_tables.proofs.Supplying.{supplied}
use Rattle.gs_tables.proofs.tables.Tables.start.Goals as goal

pub returns-in-None : goal.returns-in-None
returns-in-None c = λ s k h task ops holds is at.
    let all = supplied c.args.self.now s k c.args.n h task holds at is.inputs in
    let f : None ≡ Some all.row = c.in-None.ensures ∙ ap (λ (rs : List Row). row_at rs c.args.n) c.deref.ensures.value ∙ all.at in cc

pub returns-in_ok-args-in-Some : goal.returns-in_ok-args-in-Some
returns-in_ok-args-in-Some c = λ s k h task ops holds is at.
    let all = supplied c.args.self.now s k c.args.n h task holds at is.inputs in
    let f : Some c.in-Some.row.now ≡ Some all.row = c.in-Some.ensures ∙ ap (λ (rs : List Row). row_at rs c.args.n) c.deref.ensures.value ∙ all.at in
    let same : c.in-Some.row.now ≡ all.row = cc in
    let row = all.row in
    let rows = c.args.self.now.rows.items in
    let params : params_at c.args.idl.now.ops row.op ≡ task.params = ap (λ (l : List Signature). params_at l row.op) ops ∙ ap (params_at s.run.texts.ops) all.op ∙ sym all.params in
    let args : c.in_ok-args-in-Some.args ≡ start_args_by rows task.params row.reads row.kept row.called =
    c.in_ok-args-in-Some.ensures ∙ ap (λ (rs : List Row). start_args rs (params_at c.args.idl.now.ops c.in-Some.row.now.op) c.in-Some.row.now) c.deref-in-Some.ensures.value ∙ ap (λ (r : Row). start_args rows (params_at c.args.idl.now.ops r.op) r) same
    ∙ ap (λ (ps : List Param). start_args_by rows ps row.reads row.kept row.called) params in
    (ap (λ (r : Row). r.op) same ∙ all.op, (all.args, all.args_are, subst (λ (l : List StartArg). AreStartArgs s.run.files (world_at s k) h l all.args) (sym args) all.ok.0))
