use Rattle.std.proofs.Common.{ap, ◌∙◌}
use Rattle.gs_broker.specs.Listed.{program_in}
use Rattle.gs_broker.specs.declared.workers.Workers.{Workers}
use Rattle.gs_main.specs.Talking.{Goes}
use Rattle.gs_works.proofs.Losing.{beginning_is_before}
use Rattle.gs_small.proofs.Small.{tasks_are_small}
use Rattle.gs_core.proofs.Beginnings.{bears_first, first_rest}
use Rattle.gs_core.proofs.machine.Core.new.Goals as goal

pub returns-clause-stands : goal.returns-clause-stands
returns-clause-stands c = λ s h given noted.
    let queue = c.new-2.result in
    let begins = c.new-2.ensures in
    let holds = c.in_ok-new.ensures s h given.rules given.files given.notes_are given.window_is noted in
    record {
      bears = bears_first c.in_ok-new.field-0 c.args.broker queue s h holds begins given.workers noted;
      made = record {
        texts = given.texts;
        operations = given.operations;
        programs = λ w. ap (λ (ws : Workers). program_in ws w) begins.workers ∙ given.programs w;
        small = tasks_are_small s given.sized;
      };
      talks = given.begins ∙ ap Goes (first_rest s);
      rest = (beginning_is_before s h given.workers.some_tries noted, tt);
    }
