use Rattle.std.proofs.Common.{◌∙◌, [], map, drop, arith}
use Rattle.std.proofs.lemmas.List.{length-map}
use Rattle.gs_idl.specs.Machine.{start, at_ops, closed}
use Rattle.gs_idl.specs.Reading.{signs}
use Rattle.gs_idl.specs.View.{op_of}
use Rattle.gs_idl.proofs.Formed.{rules_kept, whole_clean}
use Rattle.gs_idl.proofs.Running.{after_halts, halts_reads}
use Rattle.gs_idl.proofs.reader.read_interface.Goals as goal

pub returns-in-Err-read_ops : goal.returns-in-Err-read_ops
returns-in-Err-read_ops c =
    let gs = signs c.args.tokens.now in
    let x = c.in-Ok.name.items in
    halts_reads gs c.args.at.now c.read_ops.new.at c.in-Err-read_ops.stop c.requires
    (after_halts gs c.args.at.now c.read_title.new.at c.read_ops.new.at start (at_ops x []) c.in-Err-read_ops.stop c.in-Ok.ensures.moves (c.in-Err-read_ops.ensures.moves x))

pub returns-in-Err-pass_end : goal.returns-in-Err-pass_end
returns-in-Err-pass_end c =
    let gs = signs c.args.tokens.now in
    let x = c.in-Ok.name.items in
    let os = map op_of c.in-Ok-read_ops.ops.items in
    halts_reads gs c.args.at.now c.pass_end.new.at c.in-Err-pass_end.stop c.requires
    (after_halts gs c.args.at.now c.read_ops.new.at c.pass_end.new.at start (closed x os) c.in-Err-pass_end.stop (c.in-Ok.ensures.moves ∙ c.in-Ok-read_ops.ensures.moves x) (c.in-Err-pass_end.ensures x os))

pub invariant_of-result : goal.invariant_of-result
invariant_of-result c =
    let gs = signs c.args.tokens.now in
    let x = c.in-Ok.name.items in
    let os = map op_of c.in-Ok-read_ops.ops.items in
    let clean = whole_clean (drop c.args.at.now gs) c.args.at.now start (record { name = x; ops = os }) tt (c.in-Ok.ensures.moves ∙ c.in-Ok-read_ops.ensures.moves x ∙ c.in-Ok-pass_end.ensures x os) in
    let size = c.in-Ok-read_ops.ensures.size in
    record {
      sized = record { some = omega (arith, length-map c.in-Ok-read_ops.ops.items op_of, size.0); ops = size.1 };
      rules = rules_kept os clean;
    }
