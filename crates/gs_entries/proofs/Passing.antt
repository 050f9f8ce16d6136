-- What the tests of names and strings say.
use Rattle.std.proofs.Common.{◌≡◌, ◌^◌, ℕ, true, leb, ltb, List, length, Some, None, refl, sym, ap, ◌∙◌, arith}
use Rattle.std.specs.Prelude.{if◌then◌else◌}
use Rattle.std.proofs.lemmas.Bool.{le-leb, lt-ltb, and_from}
use Rattle.std.proofs.lemmas.List.Sums.{list_all-from_AllPass}
use Rattle.std.proofs.lemmas.List.Elements.{All-from_get_or}
use Rattle.gs_types.specs.Bytes.{is_text_byte, IsText}
use Rattle.gs_types.specs.Name.{IsName, IsBadAt}
use Rattle.gs_types.specs.NameTest.{is_name, name_gives, bad_name}
use Rattle.gs_types.specs.declared.note.Note.TheVariants as notes
use Rattle.gs_entries.specs.Notes.{name, note, is_string}

pub name_read : (b n : List ℕ) → n ≡ b → IsName n → (if is_name b then Some b else None) ≡ Some n
name_read b n is h = let e : is_name b ≡ true = ap is_name (sym is) ∙ name_gives n h in rw (e, is) refl

pub name_refused : (b : List ℕ) (at : ℕ) → IsBadAt b at → (if is_name b then Some b else None) ≡ None
name_refused b at bad = rw (bad_name b at bad) refl

text_passes : (b : List ℕ) → IsText b → is_string b ≡ true
text_passes b h = and_from (leb (length b) 1024) _ (le-leb _ _ h.short) (list_all-from_AllPass is_text_byte b (All-from_get_or (λ x. is_text_byte x ≡ true) b 0 (λ k lt. h.each k lt)))

pub string_read : (b t : List ℕ) → t ≡ b → IsText b → (if is_string b then Some b else None) ≡ Some t
string_read b t is h = rw (text_passes b h, is) refl

-- a name has a spelling
pub name_fits : (n : List ℕ) → IsName n → name.fits n ≡ true
name_fits n h = and_from (ltb (length n) (2 ^ 32)) _ (lt-ltb _ _ (omega (arith, h.short))) (name_gives n h)

-- a string that is noted has a spelling
pub string_fits : (s : List ℕ) → IsText s → note.fits (notes.Str s) ≡ true
string_fits s h = and_from (ltb (length s) (2 ^ 32)) _ (lt-ltb _ _ (omega (arith, h.short))) (text_passes s h)
