-- The kinds of a format's pieces.
use Rattle.std.proofs.Common.{◌≡◌, ℕ, Bool, true, false, List, [], ◌∷◌, Option, Some, None, refl}
use Rattle.std.specs.Prelude.{◌==◌, if◌then◌else◌, option_map}
use Rattle.gs_tree.specs.declared.tree.VarKind.{VarKind}
use Rattle.gs_tree.specs.declared.tree.VarKind.TheVariants.{Int, Str}
use Rattle.gs_tree.specs.Formats.{Piece, literally, percent_d, percent_s, pieces, kinds_of, format_kinds}

kinds-literally : (byte : ℕ) (ps : Option (List Piece)) → option_map kinds_of ps ≡ option_map kinds_of (option_map (λ qs. literally byte ∷ qs) ps)
kinds-literally byte None = refl
kinds-literally byte (Some ps) = refl

kinds-percent_d : (ps : Option (List Piece)) → option_map (λ ks. Int ∷ ks) (option_map kinds_of ps) ≡ option_map kinds_of (option_map (λ qs. percent_d ∷ qs) ps)
kinds-percent_d None = refl
kinds-percent_d (Some ps) = refl

kinds-percent_s : (ps : Option (List Piece)) → option_map (λ ks. Str ∷ ks) (option_map kinds_of ps) ≡ option_map kinds_of (option_map (λ qs. percent_s ∷ qs) ps)
kinds-percent_s None = refl
kinds-percent_s (Some ps) = refl

kinds-last : (a : ℕ) (b : Bool) → ◌≡◌ {A = Option (List VarKind)} (if b then None else Some []) (option_map kinds_of (if b then None else Some (literally a ∷ [])))
kinds-last a true = refl
kinds-last a false = refl

-- by what the two bytes are: a `%`, and then d, s or `%`
kinds-first : (a : ℕ) (percent d s again : Bool) (after_two after_one : Option (List VarKind)) (two one : Option (List Piece)) →
    after_two ≡ option_map kinds_of two → after_one ≡ option_map kinds_of one →
    (if percent
    then (if d then option_map (λ ks. Int ∷ ks) after_two else (if s then option_map (λ ks. Str ∷ ks) after_two else (if again then after_two else None)))
    else after_one)
    ≡ option_map kinds_of (if percent
    then (if d then option_map (λ ps. percent_d ∷ ps) two else (if s then option_map (λ ps. percent_s ∷ ps) two else (if again then option_map (λ ps. literally 37 ∷ ps) two else None)))
    else option_map (λ ps. literally a ∷ ps) one)
kinds-first a true true s again after_two after_one two one e f = rw e (kinds-percent_d two)
kinds-first a true false true again after_two after_one two one e f = rw e (kinds-percent_s two)
kinds-first a true false false true after_two after_one two one e f = rw e (kinds-literally 37 two)
kinds-first a true false false false after_two after_one two one e f = refl
kinds-first a false d s again after_two after_one two one e f = rw f (kinds-literally a one)

-- a format takes the kinds of its pieces
pub kinds-pieces : (format : List ℕ) → format_kinds format ≡ option_map kinds_of (pieces format)
kinds-pieces [] = refl
kinds-pieces (a ∷ []) = kinds-last a (a == 37)
kinds-pieces (a ∷ b ∷ rest) =
    kinds-first a (a == 37) (b == 100) (b == 115) (b == 37) (format_kinds rest) (format_kinds (b ∷ rest)) (pieces rest) (pieces (b ∷ rest)) (kinds-pieces rest) (kinds-pieces (b ∷ rest))
