use Rattle.std.proofs.Common.{rules, ◌≡◌, ◌∙◌, ◌∷◌, [], ◌++◌, arith}
use Rattle.gs_disk.specs.Going.{same_then}
use Rattle.gs_engine.proofs.Inputs.{given_next}
use Rattle.gs_engine.proofs.reading.inputs.Goals as goal

pub loop-x-preserved : goal.loop-x-preserved
loop-x-preserved g c =
    let grown : c.push.new.self ≡ c.loop-x.args ++ c.in-Ok.arg ∷ [] = search rules in
    record {
      faults = let a = c.loop-x.invariant.faults in let b = c.input.ensures.cause.rise in
          omega arith;
      same = λ told. c.input.ensures.same told ∙ c.loop-x.invariant.same told;
      images = λ told. same_then (g.D.Disk.state c.args.disk.now) (g.D.Disk.state c.loop-x.disk)
          (g.D.Disk.state c.input.new.disk) (c.loop-x.invariant.images told)
          (c.input.ensures.images told);
      given = λ told. given_next (g.D.Disk.state c.args.disk.now).folder
          (g.D.Disk.state c.loop-x.disk).folder c.args.xs.now c.loop-x.x-index c.x-item.result
          c.loop-x.args c.push.new.self c.in-Ok.arg c.loop-x-test.true c.x-item.is
          (c.loop-x.invariant.same told) grown (c.loop-x.invariant.given told)
          (c.in-Ok.ensures.given told);
    }
