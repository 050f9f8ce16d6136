use Rattle.std.proofs.Common.{◌≡◌, take, drop}
use Rattle.gs_idl.specs.Interface.{params_at}
use Rattle.gs_talk.specs.Talk.{files_fault}
use Rattle.gs_pieces.specs.Places.{args_in}
use Rattle.gs_main.specs.Seen.{given_of, state_of}
use Rattle.gs_main.proofs.work.Work.call_args.Given as goal

abbrev pub invariant-loop-j : goal.invariant-loop-j
invariant-loop-j l =
    let t = given_of l.script in
    let ps = params_at t.ops l.op in record {
      items : l.all.items ≡ args_in (take l.j l.passed);
      faults : files_fault t (state_of l.self) (drop l.j ps) (args_in (drop l.j l.passed)) ≡ files_fault t (state_of l.self) ps (args_in l.passed);
    }
