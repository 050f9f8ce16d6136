-- The words and letters that interface texts and main programs share.
use Rattle.std.proofs.Common.{◌≡◌, ℕ, Bool, true, false, List, [], ◌∷◌, ◌++◌, Option, Some, None, refl, sym, ap, ◌∙◌}
use Rattle.std.specs.Prelude.{is_some, ◌||◌, ◌&&◌, ◌==◌, nat_le, codes, if◌then◌else◌}
use Rattle.std.specs.Option.{option_or}
use Rattle.std.specs.List.{list_any}
use Rattle.std.specs.Str.{bytes_eq}
use Rattle.gs_idl.specs.Word as idl
use Rattle.gs_tree.specs.declared.sign.Keyword.{Keyword}
use Rattle.gs_tree.specs.Words.{type_word, control_word, runtime_word, library_word, mode_word}
use Rattle.gs_tree.specs.Bytes as tree
use Rattle.gs_check.specs.Laws.{SameKeywords, SameLetters}

-- a word is one of these
abbrev is_among : List (List ℕ) → List ℕ → Bool
is_among words w = list_any (λ k. bytes_eq w k) words

three : (a b c : Bool) (j k l : Keyword) → is_some (if a then Some j else (if b then Some k else (if c then Some l else None))) ≡ (a || (b || (c || false)))
three true b c j k l = refl
three false true c j k l = refl
three false false true j k l = refl
three false false false j k l = refl

five : (a b c d e : Bool) (j k l m n : Keyword) → is_some (if a then Some j else (if b then Some k else (if c then Some l else (if d then Some m else (if e then Some n else None))))) ≡ (a || (b || (c || (d || (e || false)))))
five true b c d e j k l m n = refl
five false true c d e j k l m n = refl
five false false true d e j k l m n = refl
five false false false true e j k l m n = refl
five false false false false true j k l m n = refl
five false false false false false j k l m n = refl

six : (a b c d e f : Bool) (j k l m n o : Keyword) → is_some (if a then Some j else (if b then Some k else (if c then Some l else (if d then Some m else (if e then Some n else (if f then Some o else None)))))) ≡ (a || (b || (c || (d || (e || (f || false))))))
six true b c d e f j k l m n o = refl
six false true c d e f j k l m n o = refl
six false false true d e f j k l m n o = refl
six false false false true e f j k l m n o = refl
six false false false false true f j k l m n o = refl
six false false false false false true j k l m n o = refl
six false false false false false false j k l m n o = refl

abbrev types : List (List ℕ)
types = codes "main" ∷ codes "int" ∷ codes "char" ∷ codes "FILE" ∷ codes "void" ∷ []

abbrev controls : List (List ℕ)
controls = codes "if" ∷ codes "else" ∷ codes "while" ∷ codes "for" ∷ codes "return" ∷ []

abbrev runtimes : List (List ℕ)
runtimes = codes "GS_On" ∷ codes "GS_Off" ∷ codes "GS_Barrier" ∷ codes "GS_FOpen" ∷ codes "GS_FClose" ∷ []

abbrev libraries : List (List ℕ)
libraries = codes "printf" ∷ codes "fprintf" ∷ codes "sprintf" ∷ codes "fgetline" ∷ codes "atoi" ∷ codes "strcmp" ∷ []

abbrev modes : List (List ℕ)
modes = codes "R" ∷ codes "W" ∷ codes "A" ∷ []

type_is : (w : List ℕ) → is_some (type_word w) ≡ is_among types w
unfolding type_word
type_is w = five (bytes_eq w (codes "main")) (bytes_eq w (codes "int")) (bytes_eq w (codes "char")) (bytes_eq w (codes "FILE")) (bytes_eq w (codes "void")) _ _ _ _ _

control_is : (w : List ℕ) → is_some (control_word w) ≡ is_among controls w
unfolding control_word
control_is w = five (bytes_eq w (codes "if")) (bytes_eq w (codes "else")) (bytes_eq w (codes "while")) (bytes_eq w (codes "for")) (bytes_eq w (codes "return")) _ _ _ _ _

runtime_is : (w : List ℕ) → is_some (runtime_word w) ≡ is_among runtimes w
unfolding runtime_word
runtime_is w = five (bytes_eq w (codes "GS_On")) (bytes_eq w (codes "GS_Off")) (bytes_eq w (codes "GS_Barrier")) (bytes_eq w (codes "GS_FOpen")) (bytes_eq w (codes "GS_FClose")) _ _ _ _ _

library_is : (w : List ℕ) → is_some (library_word w) ≡ is_among libraries w
unfolding library_word
library_is w = six (bytes_eq w (codes "printf")) (bytes_eq w (codes "fprintf")) (bytes_eq w (codes "sprintf")) (bytes_eq w (codes "fgetline")) (bytes_eq w (codes "atoi")) (bytes_eq w (codes "strcmp")) _ _ _ _ _ _

mode_is : (w : List ℕ) → is_some (mode_word w) ≡ is_among modes w
unfolding mode_word
mode_is w = three (bytes_eq w (codes "R")) (bytes_eq w (codes "W")) (bytes_eq w (codes "A")) _ _ _

or_assoc : (a b c : Bool) → ((a || b) || c) ≡ (a || (b || c))
or_assoc true b c = refl
or_assoc false b c = refl

among_more : (xs ys : List (List ℕ)) (w : List ℕ) → is_among (xs ++ ys) w ≡ (is_among xs w || is_among ys w)
among_more [] ys w = refl
among_more (x ∷ xs) ys w = ap (λ (b : Bool). bytes_eq w x || b) (among_more xs ys w) ∙ sym (or_assoc (bytes_eq w x) (is_among xs w) (is_among ys w))

some_or : (a b : Option Keyword) → is_some (option_or a b) ≡ (is_some a || is_some b)
some_or None b = refl
some_or (Some k) b = refl

-- a word of one of two lists, where each is looked for in turn
either : (xs ys : List (List ℕ)) (a b : Option Keyword) (w : List ℕ) → is_some a ≡ is_among xs w → is_some b ≡ is_among ys w → is_some (option_or a b) ≡ is_among (xs ++ ys) w
either xs ys a b w p q = some_or a b ∙ ap (λ (c : Bool). c || is_some b) p ∙ ap (λ (c : Bool). is_among xs w || c) q ∙ sym (among_more xs ys w)

pub same_keywords : SameKeywords
unfolding idl.is_keyword
same_keywords w =
    let two = either types controls (type_word w) (control_word w) w (type_is w) (control_is w) in
    let three_ = either (types ++ controls) runtimes _ (runtime_word w) w two (runtime_is w) in
    let four = either ((types ++ controls) ++ runtimes) libraries _ (library_word w) w three_ (library_is w) in
    sym (either (((types ++ controls) ++ runtimes) ++ libraries) modes _ (mode_word w) w four (mode_is w))

swapped : (a b c : Bool) → (a || b || c) ≡ (b || a || c)
swapped true true c = refl
swapped true false c = refl
swapped false true c = refl
swapped false false c = refl

pub same_letters : SameLetters
unfolding tree.is_letter tree.is_digit tree.is_name_byte
same_letters = record {
  letters = λ b. swapped (nat_le 65 b && nat_le b 90) (nat_le 97 b && nat_le b 122) (b == 95);
  word_bytes = λ b. ap (λ (x : Bool). x || (nat_le 48 b && nat_le b 57)) (swapped (nat_le 65 b && nat_le b 90) (nat_le 97 b && nat_le b 122) (b == 95));
}
