use Rattle.std.proofs.Common.{◌≡◌}
use Rattle.gs_main.specs.declared.waits.Waits.TheVariants as w
use Rattle.gs_main.specs.Seen.{given_of, going}
use Rattle.gs_main.proofs.run.Run.go_on.Given as goal

abbrev pub invariant-moves : goal.invariant-moves
invariant-moves l =
    let t = given_of l.script in record {
      waits : l.self.work.waits ≡ w.Nothing;
      goes : going t l.script.orders.items l.self ≡ going t l.script.orders.items l.fn.self;
    }

abbrev pub decreases-moves : goal.decreases-moves
decreases-moves l = l.self.steps
