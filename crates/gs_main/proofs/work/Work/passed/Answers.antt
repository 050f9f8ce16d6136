use Rattle.std.proofs.Common.{◌≡◌, Ok, Err, refl, map, subst}
use Rattle.gs_idl.specs.Interface.{Interface, params_at}
use Rattle.gs_talk.specs.Passed.{passed_values}
use Rattle.gs_orders.specs.Steps.{handed_of}
use Rattle.gs_pieces.specs.Places.{args_in, FindsPassed}
use Rattle.gs_main.specs.Seen.{given_of, state_of}
use Rattle.gs_main.proofs.Doing.{has_passed, passed_meet}
use Rattle.gs_main.proofs.work.Work.passed.Goals as goal

pub returns-in-Ok-clause-values : goal.returns-in-Ok-clause-values
returns-in-Ok-clause-values c =
    let handed = map handed_of c.args.args.now in (
      has_passed (params_at (given_of c.args.script.now).ops c.args.op) handed c.args.line (state_of c.args.self.now) c.deref.result.now (args_in c.in-Ok.all.items) c.deref.ensures.value
          (subst (λ (i : Interface). passed_values (params_at i.ops c.args.op) handed c.deref.result.now ≡ Ok (args_in c.in-Ok.all.items)) c.idl.ensures c.in-Ok.ensures.finds),
      refl,
    )

pub returns-in-Err-clause-values : goal.returns-in-Err-clause-values
returns-in-Err-clause-values c =
    let handed = map handed_of c.args.args.now in
    passed_meet (λ all. args_in all.items) (params_at (given_of c.args.script.now).ops c.args.op) handed c.args.line c.args.self.now c.deref.result.now c.in-Err.e c.trouble.result c.trouble.new.self c.deref.ensures.value
    (subst (λ (i : Interface). FindsPassed (passed_values (params_at i.ops c.args.op) handed c.deref.result.now) (Err c.in-Err.e)) c.idl.ensures c.in-Err.ensures.finds) c.trouble.ensures
