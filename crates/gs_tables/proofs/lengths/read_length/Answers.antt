use Rattle.std.proofs.Common.{◌≡◌, ◌∙◌, sym, ap, ◌<◌, ◌≤◌, ◌+◌, ◌^◌, ℕ, List, suc, length, drop, arith}
use Rattle.std.specs.Prelude.{min}
use Rattle.std.proofs.lemmas.Option.{slice_get_read}
use Rattle.gs_policy.specs.declared.limits.TheConstants.{BYTES_LIMIT}
use Rattle.gs_tables.specs.Rows.{given_length, read_lengths}
use Rattle.gs_tables.proofs.Amounts.{lengths_next, lengths_end}
use Rattle.gs_tables.proofs.lengths.read_length.Goals as goal

pub returns : goal.returns
returns c =
    let inv = c.loop-i.invariant.0 in
    let less = c.loop-i.invariant.1 in
    let e = lengths_end c.args.rows.now c.loop-i.i c.args.reads.now c.args.kept.now (omega (arith, c.loop-i-test.false)) in
    omega arith
