-- A digest is a string.
use Rattle.std.proofs.Common.{◌≡◌, ℕ, zero, suc, ◌*◌, ◌/◌, ◌%◌, ◌<◌, ◌≤◌, true, refl, List, [], ◌∷◌, ◌++◌, length, length-append, arith}
use Rattle.std.specs.Prelude.{nat_le, slice_index}
use Rattle.std.specs.Int.{w32, to_be_bytes}
use Rattle.std.specs.List.{list_all}
use Rattle.std.proofs.lemmas.Bool.{and_from, le-leb}
use Rattle.std.proofs.lemmas.List.Sums.{AllPass-from_list_all}
use Rattle.sha2.specs.Sha256.{sha256, digest_bytes, final_hash, initial_hash_256}
use Rattle.hex.specs.Hex.{lower_digits, encode_with, encode_lower}
use Rattle.hex.proofs.HexLemmas.{length-encode_with}
use Rattle.gs_types.specs.Bytes.{is_text_byte}
use Rattle.gs_types.specs.declared.limits.TheConstants.{STRING_LIMIT}
use Rattle.gs_filters.specs.Filters.{is_text}

abbrev AllBytes : List ℕ → Type 0
AllBytes [] = Unit {0}
AllBytes (b ∷ bs) = (b < 256) × AllBytes bs

bytes_append : (bs cs : List ℕ) → AllBytes bs → AllBytes cs → AllBytes (bs ++ cs)
bytes_append [] cs x y = y
bytes_append (b ∷ bs) cs x y = (x.0, bytes_append bs cs x.1 y)

word_bytes : (n : ℕ) → AllBytes (to_be_bytes w32 n)
word_bytes n = (omega arith, (omega arith, (omega arith, (omega arith, tt))))

word_length : (n : ℕ) → length (to_be_bytes w32 n) ≡ 4
word_length n = refl

digest_all : (h : List ℕ) (n : ℕ) → AllBytes (digest_bytes h n)
unfolding digest_bytes
digest_all h zero = tt
digest_all h (suc n) = bytes_append (digest_bytes h n) (to_be_bytes w32 (slice_index h n))
    (digest_all h n) (word_bytes (slice_index h n))

digest_length : (h : List ℕ) (n : ℕ) → length (digest_bytes h n) ≡ n * 4
unfolding digest_bytes
digest_length h zero = refl
digest_length h (suc n) =
    let more = digest_length h n in
    let one = length-append (digest_bytes h n) (to_be_bytes w32 (slice_index h n)) in
    let four = word_length (slice_index h n) in
    omega arith

digit : (n : ℕ) → n < 16 → is_text_byte (slice_index lower_digits n) ≡ true
digit n lt = AllPass-from_list_all is_text_byte lower_digits refl n 0 lt

digits : (bs : List ℕ) → AllBytes bs → list_all is_text_byte (encode_lower bs) ≡ true
unfolding encode_with
digits [] all = refl
digits (b ∷ bs) all =
    and_from (is_text_byte (slice_index lower_digits (b / 16))) _ (digit (b / 16) (omega (
      arith,
      all.0,
    )))
    (and_from (is_text_byte (slice_index lower_digits (b % 16))) _ (digit (b % 16) (omega arith))
    (digits bs all.1))

-- the digest of any bytes is one
pub digest_is_text : (m : List ℕ) → is_text (encode_lower (sha256 m)) ≡ true
unfolding sha256 digest_bytes
digest_is_text m =
    let bytes = digest_bytes (final_hash initial_hash_256 m) 8 in
    let len = length-encode_with lower_digits bytes in
    let count = digest_length (final_hash initial_hash_256 m) 8 in
    let short : length (encode_lower bytes) ≤ STRING_LIMIT = omega (arith, len, count) in
    and_from (nat_le (length (encode_lower bytes)) STRING_LIMIT) _ (le-leb _ _ short)
    (digits bytes (digest_all (final_hash initial_hash_256 m) 8))
