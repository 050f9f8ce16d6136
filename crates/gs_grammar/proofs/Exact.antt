-- A sign that holds nothing is known by its place.
use Rattle.std.proofs.Common.{◌≡◌, refl, sym, ap, ◌∙◌, Bool, true, false, arith}
use Rattle.std.proofs.lemmas.Bool.{eqb-true}
use Rattle.std.specs.Prelude.{◌==◌}
use Rattle.gs_tree.specs.Sign.{Sign, Mark, ident, number, string, bad}
use Rattle.gs_parse.proofs.Places.{same_place}
use Rattle.gs_parse.specs.Symbols.{place, bare, text_of}
use Rattle.gs_parse.specs.Notation.{unfit}
use Rattle.gs_parse.specs.Grammar.{judged, is}
use Rattle.gs_parse.specs.Reading.{Limits, limited, unlimited, Accepts}

-- a sign that holds nothing
abbrev pub is_plain : Sign → Bool
is_plain (ident s) = false
is_plain (number v) = false
is_plain (string s) = false
is_plain (bad kind) = false
is_plain _ = true

bare-plain : (s : Sign) → is_plain s ≡ true → bare s ≡ s
bare-plain (ident w) e = absurd (cc)
bare-plain (number v) e = absurd (cc)
bare-plain (string w) e = absurd (cc)
bare-plain (bad kind) e = absurd (cc)
bare-plain _ e = refl

is_plain-bare : (s : Sign) → is_plain (bare s) ≡ is_plain s
is_plain-bare (ident w) = refl
is_plain-bare _ = refl

-- the sign at a place
pub exact : (s t : Sign) → is_plain s ≡ true → place t ≡ place s → t ≡ s
exact s t plain e =
    let same = same_place t s e in
    let too : is_plain t ≡ true = sym (is_plain-bare t) ∙ ap is_plain same ∙ is_plain-bare s ∙ plain in
    sym (bare-plain t too) ∙ same ∙ bare-plain s plain

-- the sign at the place of names
pub exact_name : (s : Sign) → place s ≡ 25 → s ≡ ident (text_of s)
exact_name (ident w) e = refl
exact_name _ e = absurd (omega (arith, e))

-- the sign at the place of strings
pub exact_string : (s : Sign) → place s ≡ 27 → s ≡ string (text_of s)
exact_string (string w) e = refl
exact_string _ e = absurd (omega (arith, e))

-- what is unfit is not accepted
pub refused : (l : Limits) → Accepts l unfit → ⊥
refused limited a = a
refused unlimited a = a

-- what is accepted stands, and within the limits
pub stands : (l : Limits) (b c : Bool) → Accepts l (judged b c) → b ≡ true
stands l true c a = refl
stands l false c a = absurd (refused l a)

pub within : (l : Limits) (b c : Bool) → Accepts l (judged b c) → l ≡ limited → c ≡ true
within limited true true a e = refl
within limited true false a e = absurd a
within limited false c a e = absurd a
within unlimited b c a e = absurd (cc)

-- a sign of that place was accepted
pub placed : (l : Limits) (s : Sign) (x : Mark) → Accepts l (is s x) → place x.sign ≡ place s
unfolding is
placed l s x a = eqb-true (place x.sign) (place s) (stands l (place x.sign == place s) true a)
