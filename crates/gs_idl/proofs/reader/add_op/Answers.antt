use Rattle.std.proofs.Common.{◌≡◌, ◌∙◌, ◌↔◌, IsTrue, if◌then◌else◌, Bool, [], List, ap, drop, map, subst}
use Rattle.gs_idl.specs.Machine.{at_ops, at_name, closed, run}
use Rattle.gs_idl.specs.Reading.{signs, Halts}
use Rattle.gs_idl.specs.View.{op_of}
use Rattle.gs_idl.specs.declared.idl.Operation.{Operation}
use Rattle.gs_idl.proofs.Running.{after_halts}
use Rattle.gs_idl.proofs.reader.add_op.Goals as goal

pub returns-in-Err-clause-moves : goal.returns-in-Err-clause-moves
returns-in-Err-clause-moves c x =
    let os = map op_of c.args.ops.now.items in
    let first = subst (λ (xs : List Operation). IsTrue c.are_none-is_first.result ↔ (map op_of xs ≡ [])) c.as_slice.ensures.value c.are_none-is_first.ensures in
    c.in-Err.ensures.moves x os first

pub returns-in-Ok-false-clause-moves : goal.returns-in-Ok-false-clause-moves
returns-in-Ok-false-clause-moves c x =
    let gs = signs c.args.tokens.now in
    let os = map op_of c.args.ops.now.items in
    let first = subst (λ (xs : List Operation). IsTrue c.are_none-is_first.result ↔ (map op_of xs ≡ [])) c.as_slice.ensures.value c.are_none-is_first.ensures in
    c.in-Ok-false.ensures.moves x os first ∙ ap (λ (b : Bool). run c.pass_void.new.at (if b then at_name x os else closed x os) (drop c.pass_void.new.at gs)) c.in-Ok-false.field-0-test

pub returns-in-Err-read_op-clause-moves : goal.returns-in-Err-read_op-clause-moves
returns-in-Err-read_op-clause-moves c x =
    let gs = signs c.args.tokens.now in
    let os = map op_of c.args.ops.now.items in
    let first = subst (λ (xs : List Operation). IsTrue c.are_none-is_first.result ↔ (map op_of xs ≡ [])) c.as_slice.ensures.value c.are_none-is_first.ensures in
    let void = c.in-Ok-true.ensures.moves x os first ∙ ap (λ (b : Bool). run c.pass_void.new.at (if b then at_name x os else closed x os) (drop c.pass_void.new.at gs)) c.in-Ok-true.field-0-test in
    let op = subst (λ (xs : List Operation). Halts gs c.pass_void.new.at (at_name x (map op_of xs)) c.read_op.new.at c.in-Err-read_op.stop) c.as_slice-2.ensures.value (c.in-Err-read_op.ensures.moves x) in
    after_halts gs c.args.at.now c.pass_void.new.at c.read_op.new.at (at_ops x os) (at_name x os) c.in-Err-read_op.stop void op
