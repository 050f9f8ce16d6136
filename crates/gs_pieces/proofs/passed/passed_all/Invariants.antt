use Rattle.std.proofs.Common.{◌≡◌, map, drop, vec_len}
use Rattle.gs_idl.specs.Interface.{params_at}
use Rattle.gs_talk.specs.Passed.{passed_values}
use Rattle.gs_orders.specs.Steps.{handed_of}
use Rattle.gs_pieces.specs.Places.{args_in}
use Rattle.gs_pieces.proofs.Passing.{after_args}
use Rattle.gs_pieces.proofs.passed.passed_all.Given as goal

abbrev pub invariant-loop-j : goal.invariant-loop-j
invariant-loop-j l =
    let params = params_at l.idl.ops l.op in record {
      count : vec_len l.all ≡ l.j;
      finds : after_args (args_in l.all.items) (passed_values (drop l.j params) (map handed_of (drop l.j l.args)) l.vars) ≡ passed_values params (map handed_of l.args) l.vars;
    }
