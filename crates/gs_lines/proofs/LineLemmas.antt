-- Where the first line of a file ends.
use Rattle.std.proofs.Common.{◌≡◌, ℕ, zero, suc, ◌+◌, ◌<◌, ◌≤◌, Bool, true, false, ap, sym, ◌∙◌, List, [], ◌∷◌, ◌++◌, length, take, drop, get_or, add-one, append_assoc, arith, if◌then◌else◌}
use Rattle.std.specs.Prelude.{◌==◌}
use Rattle.std.proofs.lemmas.Bool.{cases_Bool}
use Rattle.std.proofs.Common.{inl, inr}
use Rattle.gs_lines.specs.Lines.{lines, in_front, with_byte, file_of}

-- no line feed stands below this place
abbrev pub NoFeed : List ℕ → ℕ → Type 0
NoFeed bytes end = (k : ℕ) → k < end → (get_or bytes k 0 == 10) ≡ true → ⊥

not_feed : (b : ℕ) → ((b == 10) ≡ true → ⊥) → (b == 10) ≡ false
not_feed b never = elim (cases_Bool (b == 10)) [ inl is ↦ absurd (never is) | inr isnt ↦ isnt ]

first_other : (b : ℕ) (bytes : List ℕ) (end : ℕ) → NoFeed (b ∷ bytes) (suc end) → (b == 10) ≡ false
first_other b bytes end none = not_feed b (none 0 (omega arith))

others : (b : ℕ) (bytes : List ℕ) (end : ℕ) → NoFeed (b ∷ bytes) (suc end) → NoFeed bytes end
others b bytes end none = λ k lt. none (suc k) (omega arith)

plain : (b : ℕ) (ls : List (List ℕ)) → (b == 10) ≡ false → with_byte b ls ≡ in_front b ls
plain b ls e = ap (λ (t : Bool). if t then [] ∷ ls else in_front b ls) e

feed : (b : ℕ) (ls : List (List ℕ)) → (b == 10) ≡ true → with_byte b ls ≡ [] ∷ ls
feed b ls e = ap (λ (t : Bool). if t then [] ∷ ls else in_front b ls) e

lines_to : (bytes : List ℕ) (at : ℕ) → at < length bytes → (get_or bytes at 0 == 10) ≡ true → NoFeed
    bytes at → lines bytes ≡ take at bytes ∷ lines (drop (suc at) bytes)
lines_to [] at lt is none = absurd (omega arith)
lines_to (b ∷ bytes) zero lt is none = feed b (lines bytes) is
lines_to (b ∷ bytes) (suc at) lt is none =
    plain b (lines bytes) (first_other b bytes at none)
    ∙ ap (in_front b) (lines_to bytes at (omega arith) is (others b bytes at none))

one_line : (b : ℕ) (bytes : List ℕ) → NoFeed (b ∷ bytes) (suc (length bytes)) → lines (b ∷ bytes) ≡
    (b ∷ bytes) ∷ []
one_line b [] none = plain b [] (first_other b [] 0 none)
one_line b (c ∷ bytes) none =
    plain b (lines (c ∷ bytes)) (first_other b (c ∷ bytes) (length (c ∷ bytes)) none)
    ∙ ap (in_front b) (one_line c bytes (λ k lt. none (suc k) (omega arith)))

-- a line ends at its line feed
pub lines_at : (bytes : List ℕ) (at : ℕ) → at < length bytes → (get_or bytes at 0 == 10) ≡ true →
    NoFeed bytes at → lines bytes ≡ take at bytes ∷ lines (drop (at + 1) bytes)
lines_at bytes at lt is none = rw add-one (lines_to bytes at lt is none)

-- without a line feed there is one line
pub lines_one : (bytes : List ℕ) → 0 < length bytes → NoFeed bytes (length bytes) → lines bytes ≡
    bytes ∷ []
lines_one [] some none = absurd (omega arith)
lines_one (b ∷ bytes) some none = one_line b bytes (λ k lt. none k (omega arith))

length-in_front : (b : ℕ) (parts : List (List ℕ)) → length (in_front b parts) ≤ length parts + 1
length-in_front b [] = omega arith
length-in_front b (part ∷ parts) = omega arith

length-with_byte : (b : ℕ) (ls : List (List ℕ)) → length (with_byte b ls) ≤ length ls + 1
length-with_byte b ls = elim (b == 10) as (λ (t : Bool). length (if t then [] ∷ ls else in_front b
    ls) ≤ length ls + 1) [
      | true ↦ omega arith
      | false ↦ length-in_front b ls
    ]

-- a file has at most as many lines as bytes
pub length-lines-le : (bytes : List ℕ) → length (lines bytes) ≤ length bytes
length-lines-le [] = omega arith
length-lines-le (b ∷ bytes) = let more = length-lines-le bytes in let one = length-with_byte b
    (lines bytes) in omega arith

-- a file of the first lines begins with the first of them
pub file_of-take : (n left : ℕ) (ls rest : List (List ℕ)) (line : List ℕ) → left + 1 ≡ n → ls ≡ line
    ∷ rest → file_of (take n ls) ≡ (line ++ 10 ∷ []) ++ file_of (take left rest)
file_of-take zero left ls rest line one is = absurd (omega arith)
file_of-take (suc n) left ls rest line one is =
    let same : n ≡ left = omega arith in
    ap (λ (xs : List (List ℕ)). file_of (take (suc n) xs)) is
    ∙ ap (λ (k : ℕ). line ++ 10 ∷ file_of (take k rest)) same
    ∙ sym (append_assoc line (10 ∷ []) (file_of (take left rest)))

-- one more of the first lines
pub take_turn : (file new all line : List ℕ) (n left : ℕ) (ls rest : List (List ℕ)) → left + 1 ≡ n →
    ls ≡ line ∷ rest → new ≡ file ++ (line ++ 10 ∷ []) → file ++ file_of (take n ls) ≡ all → new ++
    file_of (take left rest) ≡ all
take_turn file new all line n left ls rest one is pushed so_far =
    ap (λ (f : List ℕ). f ++ file_of (take left rest)) pushed
    ∙ append_assoc file (line ++ 10 ∷ []) (file_of (take left rest))
    ∙ ap (λ (f : List ℕ). file ++ f) (sym (file_of-take n left ls rest line one is))
    ∙ so_far
