-- Which bytes are a string.
use Rattle.std.proofs.Common.{◌≡◌, ℕ, ◌<◌, Bool, true, false, leb, ap, sym, ◌∙◌, List, [], ◌∷◌, length, get_or, Some, None, inl, inr, arith, if◌then◌else◌}
use Rattle.std.specs.Prelude.{◌&&◌}
use Rattle.std.specs.List.{list_all}
use Rattle.std.proofs.lemmas.Bool.{cases_Bool, and_parts, and_from, leb-true, le-leb, false≢true}
use Rattle.std.proofs.lemmas.List.Sums.{AllPass-from_list_all, list_all-from_AllPass}
use Rattle.std.proofs.lemmas.List.Elements.{All-from_get_or}
use Rattle.gs_types.specs.Bytes.{is_text_byte, IsText}
use Rattle.gs_types.specs.declared.limits.TheConstants.{STRING_LIMIT}
use Rattle.gs_types.specs.declared.value.Value.TheVariants.{Str}
use Rattle.gs_filters.specs.Filters.{is_text, kept}

is_string : (bytes : List ℕ) → IsText bytes → is_text bytes ≡ true
is_string bytes text =
    and_from (leb (length bytes) STRING_LIMIT) _ (le-leb _ _ text.short)
    (list_all-from_AllPass is_text_byte bytes (All-from_get_or (λ b. is_text_byte b ≡ true) bytes 0
    text.each))

kept_if : (bytes : List ℕ) (t : Bool) → is_text bytes ≡ t → kept (Str bytes ∷ []) ≡ (if t && true
    then Some (Str bytes ∷ []) else None)
kept_if bytes t is = ap (λ (b : Bool). if b && true then Some (Str bytes ∷ []) else None) is

-- a string is kept
pub kept_string : (bytes s : List ℕ) → s ≡ bytes → IsText bytes → Some (Str s ∷ []) ≡ kept (Str
    bytes ∷ [])
kept_string bytes s same text = ap (λ (b : List ℕ). Some (Str b ∷ [])) same ∙ sym (kept_if bytes
    true (is_string bytes text))

-- other bytes aren't
pub kept_none : (bytes : List ℕ) → (is_text bytes ≡ true → ⊥) → None ≡ kept (Str bytes ∷ [])
kept_none bytes never = elim (cases_Bool (is_text bytes)) [
  | inl is ↦ absurd (never is)
  | inr isnt ↦ sym (kept_if bytes false isnt)
]

-- too many bytes
pub not_long : (bytes : List ℕ) → STRING_LIMIT < length bytes → is_text bytes ≡ true → ⊥
not_long bytes long is =
    let parts = and_parts (leb (length bytes) STRING_LIMIT) (list_all is_text_byte bytes) is in
    let short = leb-true _ _ parts.0 in
    absurd (omega arith)

-- a byte that no string has
pub not_bad : (bytes : List ℕ) (at : ℕ) → at < length bytes → is_text_byte (get_or bytes at 0) ≡
    false → is_text bytes ≡ true → ⊥
not_bad bytes at lt bad is =
    let parts = and_parts (leb (length bytes) STRING_LIMIT) (list_all is_text_byte bytes) is in
    let each = AllPass-from_list_all is_text_byte bytes parts.1 in
    false≢true (sym bad ∙ each at 0 lt)
