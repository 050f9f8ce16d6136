use Rattle.std.proofs.Common.{refl, ap, ◌∙◌}
use Rattle.gs_talk.specs.View.{placed_of}
use Rattle.gs_talk.specs.Values.{is_zero, int_of}
use Rattle.gs_main.specs.declared.run.Run.{Run}
use Rattle.gs_main.proofs.Moving.{test_asks, test_goes}
use Rattle.gs_main.proofs.run.Run.test.Goals as goal

pub returns-in-Err : goal.returns-in-Err
returns-in-Err c = λ t orders is.
    let old = c.args.self.now in
    test_asks t orders c.args.line (placed_of c.args.value.now) c.args.yes c.args.no old c.in-Err.pause c.value.new.self (record { at = old.at; steps = old.steps; work = c.value.new.self }) is c.requires.steps c.in-Err.ensures refl refl refl

pub returns : goal.returns
returns c = λ t orders is.
    let old = c.args.self.now in
    let new = c.take_step.new.self in
    test_goes t orders c.args.line (placed_of c.args.value.now) c.args.yes c.args.no old c.in-Ok.v c.value.new.self new (is_zero (int_of c.in-Ok.v)) is c.requires.steps c.requires.waits c.in-Ok.ensures refl
    (ap (λ (r : Run). r.at) c.take_step.ensures ∙ c.way.ensures) (ap (λ (r : Run). r.steps) c.take_step.ensures) (ap (λ (r : Run). r.work) c.take_step.ensures)
