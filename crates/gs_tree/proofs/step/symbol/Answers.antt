use Rattle.std.proofs.Common.{◌≡◌, ◌<◌, true, length, slice_index, arith}
use Rattle.gs_tree.specs.Bytes.{is_double, is_in_line}
use Rattle.gs_tree.specs.Lexicon as grammar
use Rattle.gs_tree.proofs.Classes.{class_within, is_double-zero, leading-length, leading-some, include_first, is_in_line-hash}
use Rattle.gs_tree.proofs.step.symbol.Goals as goal

pub returns-then-is_double : goal.returns-then-is_double
returns-then-is_double c =
    let bytes = c.args.rest.now in
    let yes : is_double (slice_index bytes 0) (slice_index bytes 1) ≡ true = cc in
    let within : 1 < length bytes = class_within (is_double (slice_index bytes 0)) bytes 1 (is_double-zero (slice_index bytes 0)) yes in
    (grammar.IsToken.double bytes yes, omega arith, omega arith)

pub returns-then-is_single : goal.returns-then-is_single
returns-then-is_single c = (grammar.IsToken.single c.args.rest.now (cc) (cc) c.requires.no_comment, omega arith, omega (arith, c.requires.some))

pub returns-then-is_include : goal.returns-then-is_include
returns-then-is_include c =
    let bytes = c.args.rest.now in
    let yes : grammar.is_include c.args.is_fresh bytes ≡ true = cc in
    let some = leading-some is_in_line bytes c.requires.some (rw (include_first c.args.is_fresh bytes yes) is_in_line-hash) in
    rw c.line_len.ensures (grammar.IsGap.include c.args.is_fresh bytes yes, some, leading-length is_in_line bytes, omega arith)

pub returns : goal.returns
returns c =
    grammar.IsFault.byte c.args.is_fresh c.args.rest.now c.requires.some c.requires.no_blank c.requires.no_letter c.requires.no_digit c.requires.no_quote (cc) (cc) (cc)
