use Rattle.std.proofs.Common.{◌≤◌, length, arith, ap, sym, ◌∙◌}
use Rattle.gs_idl.specs.declared.idl.Idl.{Idl}
use Rattle.gs_core.proofs.KnownTasks.{operation_known}
use Rattle.gs_core.proofs.machine.Core.operation.Goals as goal

pub returns-in_default-clause-is : goal.returns-in_default-clause-is
returns-in_default-clause-is c = λ s k h stands.
    let known = operation_known c.args.self.now s k h c.args.n c.in-Some.op stands
    (sym c.in-Some.is ∙ c.operation.ensures s k h stands.bears.tables) in
    let few : c.op_count.result ≤ c.in-Some.op = c.if-op-op_count.false in
    let count = c.op_count.ensures.value ∙ ap (λ (i : Idl). length i.ops) c.idl.ensures in
    absurd (omega (arith, known, few, count))
