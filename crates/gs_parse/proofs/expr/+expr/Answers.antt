use Rattle.std.proofs.Common.{rules, refl, ◌+◌, ◌∙◌, ap, arith}
use Rattle.std.proofs.lemmas.Int.{to_z-of_z}
use Rattle.std.specs.Int.{w64}
use Rattle.gs_tree.specs.Program.{neg, not_, atoi, strcmp, num, lit, var}
use Rattle.gs_tree.specs.Signs.{sign_of_symbol, sign_of_keyword}
use Rattle.gs_tree.specs.View.{term_of}
use Rattle.gs_tree.specs.declared.sign.Keyword.TheVariants.{Atoi, Strcmp}
use Rattle.gs_tree.specs.declared.sign.Symbol.TheVariants.{Minus, Bang, OpenParen}
use Rattle.gs_tree.specs.Sign.{number, string, ident, bad, comma, open_paren, close_paren}
use Rattle.gs_parse.specs.Notation.{a_term, level}
use Rattle.gs_parse.specs.Grammar.{expr}
use Rattle.gs_parse.specs.Reads.{left, seen, Anything}
use Rattle.gs_parse.proofs.Chain.{then_word, stop_word, then_part, stop_part, memory_err}
use Rattle.gs_parse.proofs.Operands.{room_fit, room_deep, operand_by, operand_deep, no_symbol, no_keyword, gave_leaf, operand_stops, operand_ends, first_shown}
use Rattle.gs_parse.proofs.Levels.{level_first, level_stop, tail_end, tail_more, tail_stop, tail_deep, height_joined, lined_two}
use Rattle.gs_parse.proofs.expr.+expr.Goals as goal

pub negation-returns-then-depth-ge-LIMIT : goal.negation-returns-then-depth-ge-LIMIT
negation-returns-then-depth-ge-LIMIT t c = record { reads = operand_deep (sign_of_symbol Minus) c.args.depth c.args.groups _ c.args.line _ _ c.requires.stands (room_deep (c.args.depth + 1) c.if-depth-ge-LIMIT.true); room = search rules; height_is = search rules; onward = omega arith }

pub negation-returns-in-Err : goal.negation-returns-in-Err
negation-returns-in-Err t c = record { reads = operand_by (sign_of_symbol Minus) c.args.depth c.args.groups _ c.args.line _ _ _ _ c.requires.stands (room_fit (c.args.depth + 1) c.if-depth-ge-LIMIT.false) (stop_part a_term (level 0 (c.args.depth + 1) c.args.groups) _ _ _ _ _ _ c.in-Err.ensures.reads); room = search rules; height_is = search rules; onward = omega arith }

pub negation-returns-in-Ok-negated : goal.negation-returns-in-Ok-negated
negation-returns-in-Ok-negated t c = record { reads = operand_by (sign_of_symbol Minus) c.args.depth c.args.groups _ c.args.line _ _ _ _ c.requires.stands (room_fit (c.args.depth + 1) c.if-depth-ge-LIMIT.false) (then_part a_term (level 0 (c.args.depth + 1) c.args.groups) _ _ _ _ _ _ _ _ c.in-Ok.ensures.reads (gave_leaf c.args.line _ (neg (term_of c.in-Ok.a.e)) _ _ _ c.in-Ok-negated.a c.requires.stands c.in-Ok-negated.ensures.0)); room = search rules; height_is = search rules; onward = omega arith }

pub negation-returns-in-Err-negated : goal.negation-returns-in-Err-negated
negation-returns-in-Err-negated t c = record { reads = memory_err _ _ _ _ _ _ c.in-Err-negated.ensures; room = search rules; height_is = search rules; onward = omega arith }

pub inversion-returns-then-depth-ge-LIMIT : goal.inversion-returns-then-depth-ge-LIMIT
inversion-returns-then-depth-ge-LIMIT t c = record { reads = operand_deep (sign_of_symbol Bang) c.args.depth c.args.groups _ c.args.line _ _ c.requires.stands (room_deep (c.args.depth + 1) c.if-depth-ge-LIMIT.true); room = search rules; height_is = search rules; onward = omega arith }

pub inversion-returns-in-Err : goal.inversion-returns-in-Err
inversion-returns-in-Err t c = record { reads = operand_by (sign_of_symbol Bang) c.args.depth c.args.groups _ c.args.line _ _ _ _ c.requires.stands (room_fit (c.args.depth + 1) c.if-depth-ge-LIMIT.false) (stop_part a_term (level 0 (c.args.depth + 1) c.args.groups) _ _ _ _ _ _ c.in-Err.ensures.reads); room = search rules; height_is = search rules; onward = omega arith }

pub inversion-returns-in-Ok-inverted : goal.inversion-returns-in-Ok-inverted
inversion-returns-in-Ok-inverted t c = record { reads = operand_by (sign_of_symbol Bang) c.args.depth c.args.groups _ c.args.line _ _ _ _ c.requires.stands (room_fit (c.args.depth + 1) c.if-depth-ge-LIMIT.false) (then_part a_term (level 0 (c.args.depth + 1) c.args.groups) _ _ _ _ _ _ _ _ c.in-Ok.ensures.reads (gave_leaf c.args.line _ (not_ (term_of c.in-Ok.a.e)) _ _ _ c.in-Ok-inverted.a c.requires.stands c.in-Ok-inverted.ensures.0)); room = search rules; height_is = search rules; onward = omega arith }

pub inversion-returns-in-Err-inverted : goal.inversion-returns-in-Err-inverted
inversion-returns-in-Err-inverted t c = record { reads = memory_err _ _ _ _ _ _ c.in-Err-inverted.ensures; room = search rules; height_is = search rules; onward = omega arith }

pub grouping-returns-then-groups-ge-LIMIT : goal.grouping-returns-then-groups-ge-LIMIT
grouping-returns-then-groups-ge-LIMIT t c = record { reads = operand_deep (sign_of_symbol OpenParen) c.args.depth c.args.groups _ c.args.line _ _ c.requires.stands (room_deep c.args.groups c.if-groups-ge-LIMIT.true); room = search rules; height_is = search rules; onward = omega arith }

pub grouping-returns-in-Err : goal.grouping-returns-in-Err
grouping-returns-in-Err t c = record { reads = operand_by (sign_of_symbol OpenParen) c.args.depth c.args.groups _ c.args.line _ _ _ _ c.requires.stands (room_fit c.args.groups c.if-groups-ge-LIMIT.false) (stop_part a_term (expr c.args.depth (c.args.groups + 1)) _ _ _ _ _ _ c.in-Err.ensures.reads); room = search rules; height_is = search rules; onward = omega arith }

pub grouping-returns-in-Ok-expect : goal.grouping-returns-in-Ok-expect
grouping-returns-in-Ok-expect t c = record { reads = operand_by (sign_of_symbol OpenParen) c.args.depth c.args.groups _ c.args.line _ _ _ _ c.requires.stands (room_fit c.args.groups c.if-groups-ge-LIMIT.false) (then_part a_term (expr c.args.depth (c.args.groups + 1)) _ _ _ _ _ _ _ _ c.in-Ok.ensures.reads (then_word a_term close_paren Anything _ _ _ _ _ _ _ c.in-Ok-expect.ensures.expects (gave_leaf c.args.line _ (term_of c.in-Ok.a.e) _ _ _ c.in-Ok.a c.requires.stands refl))); room = search rules; height_is = search rules; onward = omega arith }

pub grouping-returns-in-Err-expect : goal.grouping-returns-in-Err-expect
grouping-returns-in-Err-expect t c = record { reads = operand_by (sign_of_symbol OpenParen) c.args.depth c.args.groups _ c.args.line _ _ _ _ c.requires.stands (room_fit c.args.groups c.if-groups-ge-LIMIT.false) (then_part a_term (expr c.args.depth (c.args.groups + 1)) _ _ _ _ _ _ _ _ c.in-Ok.ensures.reads (stop_word a_term close_paren Anything _ _ _ _ _ c.in-Err-expect.ensures.expects)); room = search rules; height_is = search rules; onward = omega arith }

pub prefixed-returns-in_default : goal.prefixed-returns-in_default
prefixed-returns-in_default t c = record { reads = operand_stops (sign_of_symbol c.args.symbol) c.args.depth c.args.groups _ c.args.line _ _ c.requires.stands (no_symbol c.args.symbol c.args.depth c.args.groups c.in_default.not-Minus c.in_default.not-Bang c.in_default.not-OpenParen); room = search rules; height_is = search rules; onward = omega arith }

pub atoi_call-returns-then-depth-ge-LIMIT : goal.atoi_call-returns-then-depth-ge-LIMIT
atoi_call-returns-then-depth-ge-LIMIT t c = record { reads = operand_deep (sign_of_keyword Atoi) c.args.depth c.args.groups _ c.args.line _ _ c.requires.stands (room_deep (c.args.depth + 1) c.if-depth-ge-LIMIT.true); room = search rules; height_is = search rules; onward = omega arith }

pub atoi_call-returns-in-Err : goal.atoi_call-returns-in-Err
atoi_call-returns-in-Err t c = record { reads = operand_by (sign_of_keyword Atoi) c.args.depth c.args.groups _ c.args.line _ _ _ _ c.requires.stands (room_fit (c.args.depth + 1) c.if-depth-ge-LIMIT.false) (stop_word a_term open_paren Anything _ _ _ _ _ c.in-Err.ensures.expects); room = search rules; height_is = search rules; onward = omega arith }

pub atoi_call-returns-in-Err-binary : goal.atoi_call-returns-in-Err-binary
atoi_call-returns-in-Err-binary t c = record { reads = operand_by (sign_of_keyword Atoi) c.args.depth c.args.groups _ c.args.line _ _ _ _ c.requires.stands (room_fit (c.args.depth + 1) c.if-depth-ge-LIMIT.false) (then_word a_term open_paren Anything _ _ _ _ _ _ _ c.in-Ok.ensures.expects (stop_part a_term (expr (c.args.depth + 1) c.args.groups) _ _ _ _ _ _ c.in-Err-binary.ensures.reads)); room = search rules; height_is = search rules; onward = omega arith }

pub atoi_call-returns-in-Err-expect : goal.atoi_call-returns-in-Err-expect
atoi_call-returns-in-Err-expect t c = record { reads = operand_by (sign_of_keyword Atoi) c.args.depth c.args.groups _ c.args.line _ _ _ _ c.requires.stands (room_fit (c.args.depth + 1) c.if-depth-ge-LIMIT.false) (then_word a_term open_paren Anything _ _ _ _ _ _ _ c.in-Ok.ensures.expects (then_part a_term (expr (c.args.depth + 1) c.args.groups) _ _ _ _ _ _ _ _ c.in-Ok-binary.ensures.reads (stop_word a_term close_paren Anything _ _ _ _ _ c.in-Err-expect.ensures.expects))); room = search rules; height_is = search rules; onward = omega arith }

pub atoi_call-returns-in-Ok-atoi_of : goal.atoi_call-returns-in-Ok-atoi_of
atoi_call-returns-in-Ok-atoi_of t c = record { reads = operand_by (sign_of_keyword Atoi) c.args.depth c.args.groups _ c.args.line _ _ _ _ c.requires.stands (room_fit (c.args.depth + 1) c.if-depth-ge-LIMIT.false) (then_word a_term open_paren Anything _ _ _ _ _ _ _ c.in-Ok.ensures.expects (then_part a_term (expr (c.args.depth + 1) c.args.groups) _ _ _ _ _ _ _ _ c.in-Ok-binary.ensures.reads (then_word a_term close_paren Anything _ _ _ _ _ _ _ c.in-Ok-expect.ensures.expects (gave_leaf c.args.line _ (atoi (term_of c.in-Ok-binary.a.e)) _ _ _ c.in-Ok-atoi_of.a c.requires.stands c.in-Ok-atoi_of.ensures.0)))); room = search rules; height_is = search rules; onward = omega arith }

pub atoi_call-returns-in-Err-atoi_of : goal.atoi_call-returns-in-Err-atoi_of
atoi_call-returns-in-Err-atoi_of t c = record { reads = memory_err _ _ _ _ _ _ c.in-Err-atoi_of.ensures; room = search rules; height_is = search rules; onward = omega arith }

pub strcmp_call-returns-then-depth-ge-LIMIT : goal.strcmp_call-returns-then-depth-ge-LIMIT
strcmp_call-returns-then-depth-ge-LIMIT t c = record { reads = operand_deep (sign_of_keyword Strcmp) c.args.depth c.args.groups _ c.args.line _ _ c.requires.stands (room_deep (c.args.depth + 1) c.if-depth-ge-LIMIT.true); room = search rules; height_is = search rules; onward = omega arith }

pub strcmp_call-returns-in-Err : goal.strcmp_call-returns-in-Err
strcmp_call-returns-in-Err t c = record { reads = operand_by (sign_of_keyword Strcmp) c.args.depth c.args.groups _ c.args.line _ _ _ _ c.requires.stands (room_fit (c.args.depth + 1) c.if-depth-ge-LIMIT.false) (stop_word a_term open_paren Anything _ _ _ _ _ c.in-Err.ensures.expects); room = search rules; height_is = search rules; onward = omega arith }

pub strcmp_call-returns-in-Err-binary : goal.strcmp_call-returns-in-Err-binary
strcmp_call-returns-in-Err-binary t c = record { reads = operand_by (sign_of_keyword Strcmp) c.args.depth c.args.groups _ c.args.line _ _ _ _ c.requires.stands (room_fit (c.args.depth + 1) c.if-depth-ge-LIMIT.false) (then_word a_term open_paren Anything _ _ _ _ _ _ _ c.in-Ok.ensures.expects (stop_part a_term (expr (c.args.depth + 1) c.args.groups) _ _ _ _ _ _ c.in-Err-binary.ensures.reads)); room = search rules; height_is = search rules; onward = omega arith }

pub strcmp_call-returns-in-Err-expect : goal.strcmp_call-returns-in-Err-expect
strcmp_call-returns-in-Err-expect t c = record { reads = operand_by (sign_of_keyword Strcmp) c.args.depth c.args.groups _ c.args.line _ _ _ _ c.requires.stands (room_fit (c.args.depth + 1) c.if-depth-ge-LIMIT.false) (then_word a_term open_paren Anything _ _ _ _ _ _ _ c.in-Ok.ensures.expects (then_part a_term (expr (c.args.depth + 1) c.args.groups) _ _ _ _ _ _ _ _ c.in-Ok-binary.ensures.reads (stop_word a_term comma Anything _ _ _ _ _ c.in-Err-expect.ensures.expects))); room = search rules; height_is = search rules; onward = omega arith }

pub strcmp_call-returns-in-Err-binary-2 : goal.strcmp_call-returns-in-Err-binary-2
strcmp_call-returns-in-Err-binary-2 t c = record { reads = operand_by (sign_of_keyword Strcmp) c.args.depth c.args.groups _ c.args.line _ _ _ _ c.requires.stands (room_fit (c.args.depth + 1) c.if-depth-ge-LIMIT.false) (then_word a_term open_paren Anything _ _ _ _ _ _ _ c.in-Ok.ensures.expects (then_part a_term (expr (c.args.depth + 1) c.args.groups) _ _ _ _ _ _ _ _ c.in-Ok-binary.ensures.reads (then_word a_term comma Anything _ _ _ _ _ _ _ c.in-Ok-expect.ensures.expects (stop_part a_term (expr (c.args.depth + 1) c.args.groups) _ _ _ _ _ _ c.in-Err-binary-2.ensures.reads)))); room = search rules; height_is = search rules; onward = omega arith }

pub strcmp_call-returns-in-Err-expect-2 : goal.strcmp_call-returns-in-Err-expect-2
strcmp_call-returns-in-Err-expect-2 t c = record { reads = operand_by (sign_of_keyword Strcmp) c.args.depth c.args.groups _ c.args.line _ _ _ _ c.requires.stands (room_fit (c.args.depth + 1) c.if-depth-ge-LIMIT.false) (then_word a_term open_paren Anything _ _ _ _ _ _ _ c.in-Ok.ensures.expects (then_part a_term (expr (c.args.depth + 1) c.args.groups) _ _ _ _ _ _ _ _ c.in-Ok-binary.ensures.reads (then_word a_term comma Anything _ _ _ _ _ _ _ c.in-Ok-expect.ensures.expects (then_part a_term (expr (c.args.depth + 1) c.args.groups) _ _ _ _ _ _ _ _ c.in-Ok-binary-2.ensures.reads (stop_word a_term close_paren Anything _ _ _ _ _ c.in-Err-expect-2.ensures.expects))))); room = search rules; height_is = search rules; onward = omega arith }

pub strcmp_call-returns-in-Ok-strcmp_of : goal.strcmp_call-returns-in-Ok-strcmp_of
strcmp_call-returns-in-Ok-strcmp_of t c = record { reads = operand_by (sign_of_keyword Strcmp) c.args.depth c.args.groups _ c.args.line _ _ _ _ c.requires.stands (room_fit (c.args.depth + 1) c.if-depth-ge-LIMIT.false) (then_word a_term open_paren Anything _ _ _ _ _ _ _ c.in-Ok.ensures.expects (then_part a_term (expr (c.args.depth + 1) c.args.groups) _ _ _ _ _ _ _ _ c.in-Ok-binary.ensures.reads (then_word a_term comma Anything _ _ _ _ _ _ _ c.in-Ok-expect.ensures.expects (then_part a_term (expr (c.args.depth + 1) c.args.groups) _ _ _ _ _ _ _ _ c.in-Ok-binary-2.ensures.reads (then_word a_term close_paren Anything _ _ _ _ _ _ _ c.in-Ok-expect-2.ensures.expects (gave_leaf c.args.line _ (strcmp (term_of c.in-Ok-binary.a.e) (term_of c.in-Ok-binary-2.b.e)) _ _ _ c.in-Ok-strcmp_of.a c.requires.stands c.in-Ok-strcmp_of.ensures.0)))))); room = search rules; height_is = search rules; onward = omega arith }

pub strcmp_call-returns-in-Err-strcmp_of : goal.strcmp_call-returns-in-Err-strcmp_of
strcmp_call-returns-in-Err-strcmp_of t c = record { reads = memory_err _ _ _ _ _ _ c.in-Err-strcmp_of.ensures; room = search rules; height_is = search rules; onward = omega arith }

pub called-returns-in_default : goal.called-returns-in_default
called-returns-in_default t c = record { reads = operand_stops (sign_of_keyword c.args.keyword) c.args.depth c.args.groups _ c.args.line _ _ c.requires.stands (no_keyword c.args.keyword c.args.depth c.args.groups c.in_default.not-Atoi c.in_default.not-Strcmp); room = search rules; height_is = search rules; onward = omega arith }

pub operand-returns-in-None : goal.operand-returns-in-None
operand-returns-in-None t c = record { reads = operand_ends _ _ _ _ c.in-None.ensures.shows; room = search rules; height_is = search rules; onward = omega arith }

pub operand-returns-in-Err : goal.operand-returns-in-Err
operand-returns-in-Err t c = record { reads = memory_err _ _ _ _ _ _ c.in-Err.ensures; room = search rules; height_is = search rules; onward = omega arith }

pub operand-returns-in-Err-name_leaf : goal.operand-returns-in-Err-name_leaf
operand-returns-in-Err-name_leaf t c = record { reads = memory_err _ _ _ _ _ _ c.in-Err-name_leaf.ensures; room = search rules; height_is = search rules; onward = omega arith }

pub operand-returns-in-Number : goal.operand-returns-in-Number
operand-returns-in-Number t c = record { reads = operand_by (number c.in-Number.v) c.args.depth c.args.groups _ c.in-Some.mark.line _ _ _ _ (first_shown c.in-Some.mark _ _ _ c.in-Some.ensures.shows c.in-Number.is) refl (gave_leaf c.in-Some.mark.line _ (num c.in-Some.mark.line c.in-Number.v) _ _ _ _ (first_shown c.in-Some.mark _ _ _ c.in-Some.ensures.shows c.in-Number.is) (c.number_leaf.ensures.value ∙ ap (λ z. num c.in-Some.mark.line z) (to_z-of_z w64 c.in-Number.v (search (rules))))); room = search rules; height_is = search rules; onward = omega arith }

pub operand-returns-in-Ok : goal.operand-returns-in-Ok
operand-returns-in-Ok t c = record { reads = operand_by (string c.in-Text.s.now) c.args.depth c.args.groups _ c.in-Some.mark.line _ _ _ _ (first_shown c.in-Some.mark _ _ _ c.in-Some.ensures.shows c.in-Text.is) refl (gave_leaf c.in-Some.mark.line _ (lit c.in-Some.mark.line c.in-Text.s.now) _ _ _ _ (first_shown c.in-Some.mark _ _ _ c.in-Some.ensures.shows c.in-Text.is) c.in-Ok.ensures.0); room = search rules; height_is = search rules; onward = omega arith }

pub operand-returns-in-Ok-name_leaf : goal.operand-returns-in-Ok-name_leaf
operand-returns-in-Ok-name_leaf t c = record { reads = operand_by (ident c.in-Name.w.now) c.args.depth c.args.groups _ c.in-Some.mark.line _ _ _ _ (first_shown c.in-Some.mark _ _ _ c.in-Some.ensures.shows c.in-Name.is) refl (gave_leaf c.in-Some.mark.line _ (var (record { line = c.in-Some.mark.line; text = c.in-Name.w.now })) _ _ _ _ (first_shown c.in-Some.mark _ _ _ c.in-Some.ensures.shows c.in-Name.is) c.in-Ok-name_leaf.ensures.0); room = search rules; height_is = search rules; onward = omega arith }

pub operand-returns-in-Bad : goal.operand-returns-in-Bad
operand-returns-in-Bad t c = record { reads = operand_stops (bad c.in-Bad.field-0) c.args.depth c.args.groups _ c.in-Some.mark.line _ _ (first_shown c.in-Some.mark _ _ _ c.in-Some.ensures.shows c.in-Bad.is) refl; room = search rules; height_is = search rules; onward = omega arith }

pub binary-returns-in-Err : goal.binary-returns-in-Err
binary-returns-in-Err t c = record { reads = level_stop c.args.tightness c.args.depth c.args.groups _ _ _ _ (omega (arith, c.if-tightness-eq0.false)) c.in-Err.ensures.reads; room = search rules; height_is = search rules; onward = omega arith }

pub binary-parts-init : goal.binary-parts-init
binary-parts-init t c = record { onward = c.in-Ok.ensures.onward; room = c.in-Ok.ensures.room; height_is = c.in-Ok.ensures.height_is; reads = level_first c.args.tightness c.args.depth c.args.groups _ _ _ c.in-Ok.first (omega (arith, c.if-tightness-eq0.false)) c.in-Ok.ensures.reads }

pub binary-returns-in-None : goal.binary-returns-in-None
binary-returns-in-None t c = record { reads = c.parts.invariant.reads _ _ (tail_end c.args.tightness c.args.depth c.args.groups (seen (left c.args.tokens.now c.args.at.now) c.parts.all) (seen (left c.args.tokens.now c.args.at.now)) _ c.parts.all (omega (arith, c.if-tightness-eq0.false)) c.in-None.ensures.stands refl); room = search rules; height_is = search rules; onward = omega arith }

pub binary-returns-then-depth-all-ge-LIMIT : goal.binary-returns-then-depth-all-ge-LIMIT
binary-returns-then-depth-all-ge-LIMIT t c = record { reads = c.parts.invariant.reads _ _ (tail_deep c.args.tightness c.args.depth c.args.groups (seen (left c.args.tokens.now c.args.at.now) c.parts.all) c.in-Some.op _ _ _ (omega (arith, c.if-tightness-eq0.false)) c.in-Some.ensures.stands (omega (arith, c.if-depth-all-ge-LIMIT.true, c.parts.invariant.height_is))); room = search rules; height_is = search rules; onward = omega arith }

pub binary-returns-in-Err-binary : goal.binary-returns-in-Err-binary
binary-returns-in-Err-binary t c = record { reads = c.parts.invariant.reads _ _ (tail_stop c.args.tightness c.args.depth c.args.groups (seen (left c.args.tokens.now c.args.at.now) c.parts.all) c.in-Some.op _ _ _ _ _ _ (omega (arith, c.if-tightness-eq0.false)) c.in-Some.ensures.stands (omega (arith, c.if-depth-all-ge-LIMIT.false, c.parts.invariant.height_is)) c.in-Err-binary.ensures.reads); room = search rules; height_is = search rules; onward = omega arith }

pub binary-returns-in-Err-joined_by : goal.binary-returns-in-Err-joined_by
binary-returns-in-Err-joined_by t c = record { reads = memory_err _ _ _ _ _ _ c.in-Err-joined_by.ensures; room = search rules; height_is = search rules; onward = omega arith }

pub binary-parts-preserved : goal.binary-parts-preserved
binary-parts-preserved t c = record {
  onward = omega (arith, c.parts.invariant.onward, c.in-Ok-binary.ensures.onward);
  room = omega (arith, c.in-Ok-joined_by.ensures.1, c.if-depth-all-ge-LIMIT.false, c.in-Ok-binary.ensures.room);
  height_is = height_joined c.in-Ok-joined_by.all.height c.parts.all.height c.in-Ok-binary.next.height c.in-Some.op _ _ _ c.parts.invariant.height_is c.in-Ok-binary.ensures.height_is c.in-Ok-joined_by.ensures.1 c.in-Ok-joined_by.ensures.0;
  reads = λ result new r. c.parts.invariant.reads result new
      (tail_more c.args.tightness c.args.depth c.args.groups (seen (left c.args.tokens.now c.args.at.now) c.parts.all) c.in-Some.op _ _ _ _ _ c.in-Ok-binary.next (seen (left c.args.tokens.now c.args.at.now) c.in-Ok-joined_by.all) (omega (arith, c.if-tightness-eq0.false)) c.in-Some.ensures.stands (omega (arith, c.if-depth-all-ge-LIMIT.false, c.parts.invariant.height_is)) c.in-Ok-binary.ensures.reads (lined_two _ _ _ c.in-Ok-joined_by.ensures.0) result new r);
}
