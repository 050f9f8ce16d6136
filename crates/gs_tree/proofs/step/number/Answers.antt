use Rattle.std.proofs.Common.{◌≡◌, false, arith, slice_index, ℕ, take, min, pos, w64, to_z, ap, ◌∙◌, List}
use Rattle.std.specs.List.{take_while}
use Rattle.std.proofs.lemmas.Int.{to_z_pos}
use Rattle.gs_tree.specs.Bytes.{is_digit, leading, decimal}
use Rattle.gs_tree.specs.Lexicon as grammar
use Rattle.gs_tree.proofs.Classes.{class_within, is_digit-zero, leading-length, leading-some, take-leading}
use Rattle.gs_tree.proofs.step.number.Goals as goal
use Rattle.gs_tree.proofs.step.number.Goals.{else-byte_at-eq48-via-then-byte_at-eq48+else-is_digit, else-byte_at-eq48-via-else-byte_at-eq48}

-- the number that the run of digits writes
value_of : (bytes : List ℕ) (count value : ℕ) → count ≡ leading is_digit bytes → value ≡ min (decimal (take count bytes)) 18446744073709551615 →
    value ≡ min (decimal (take_while is_digit bytes)) 18446744073709551615
value_of bytes count value e v = rw (e, take-leading) at v

pub returns-then-is_digit : goal.returns-then-is_digit
returns-then-is_digit c = grammar.IsFault.zero_first c.args.is_fresh c.args.rest.now (omega arith) (cc)

pub returns-then-value : goal.returns-then-value
returns-then-value c =
    let bytes = c.args.rest.now in
    let value = value_of bytes c.digits_len-count.result c.decimal-value.result c.digits_len-count.ensures c.decimal-value.ensures in
    let single : slice_index bytes 0 ≡ 48 → is_digit (slice_index bytes 1) ≡ false =
    elim c.else-byte_at-eq48.branch [
      | else-byte_at-eq48-via-then-byte_at-eq48+else-is_digit w ↦ λ e. cc
      | else-byte_at-eq48-via-else-byte_at-eq48 w ↦ λ e. absurd (omega arith)
    ] in
    grammar.IsFault.wide c.args.is_fresh bytes c.requires single (omega arith)

pub returns : goal.returns
returns c =
    let bytes = c.args.rest.now in
    let value = value_of bytes c.digits_len-count.result c.decimal-value.result c.digits_len-count.ensures c.decimal-value.ensures in
    let single : slice_index bytes 0 ≡ 48 → is_digit (slice_index bytes 1) ≡ false =
    elim c.else-byte_at-eq48.branch [
      | else-byte_at-eq48-via-then-byte_at-eq48+else-is_digit w ↦ λ e. cc
      | else-byte_at-eq48-via-else-byte_at-eq48 w ↦ λ e. absurd (omega arith)
    ] in
    let exact : c.decimal-value.result ≡ decimal (take_while is_digit bytes) = omega arith in
    let number : to_z w64 c.decimal-value.result ≡ pos (decimal (take_while is_digit bytes)) = to_z_pos w64 c.decimal-value.result (omega arith) ∙ ap (λ n. pos n) exact in
    let within = class_within is_digit bytes 0 is_digit-zero c.requires in
    rw (number, c.digits_len-count.ensures) (grammar.IsToken.number bytes c.requires single (omega arith), leading-some is_digit bytes within c.requires, leading-length is_digit bytes)
