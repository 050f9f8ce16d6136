-- Strings as they are printed.
use Rattle.std.proofs.Common.{◌≡◌, ◌⊎◌, inl, inr, ℕ, ◌+◌, ◌-◌, ◌<◌, ◌≤◌, Bool, true, false, ◌||◌, List, [], ◌∷◌, ◌++◌, length, length-append, drop, refl, sym, ap, subst, arith, append_assoc}
use Rattle.std.specs.Prelude.{All}
use Rattle.std.specs.List.{flat_map}
use Rattle.std.proofs.lemmas.List.{drop_at}
use Rattle.std.proofs.lemmas.List.Elements.{All-head, All-tail}
use Rattle.std.proofs.lemmas.Bool.{cases_eq, ne_eqb}
use Rattle.gs_tree.specs.Bytes.{is_plain}
use Rattle.gs_tree.specs.Quoted.{Quotes, Quoted, closed, after, closes, goes_on, Spells}
use Rattle.gs_tree.specs.Quoted as q
use Rattle.gs_tree.specs.Lexicon.{IsToken}
use Rattle.gs_tree.specs.Lexicon as grammar
use Rattle.gs_tree.specs.Lexeme.{literal}
use Rattle.gs_tree.specs.Printed.{escaped, quoted}
use Rattle.gs_tree.specs.Sign.{Sign, string}
use Rattle.gs_spelling.specs.Spelled.{is_held, IsString}
use Rattle.gs_spelling.proofs.Cuts.{Cuts, piece_cuts}

-- a byte that is not written as an escape stands as it is
plain_of : (b : ℕ) → is_held b ≡ true → (b ≡ 10 → ⊥) → (b ≡ 13 → ⊥) → (b ≡ 92 → ⊥) → (b ≡ 34 → ⊥) → is_plain b ≡ true
plain_of b h f r k d =
    let rest : (is_plain b || false) ≡ true = rw (ne_eqb b 10 f, ne_eqb b 13 r, ne_eqb b 92 k, ne_eqb b 34 d) at h in
    left_of (is_plain b) rest
  where
    left_of : (t : Bool) → (t || false) ≡ true → t ≡ true
    left_of true e = refl
    left_of false e = e

-- a byte that is written by so many bytes, and read back
abbrev IsSpelled : (rest : List ℕ) (b : ℕ) → Type 0
IsSpelled rest b = Spells (escaped b ++ rest) b (length (escaped b))

-- by which byte it is
spells_by : (b : ℕ) (rest : List ℕ) → is_held b ≡ true → (b ≡ 10) ⊎ (b ≡ 10 → ⊥) → (b ≡ 9) ⊎ (b ≡ 9 → ⊥) → (b ≡ 13) ⊎ (b ≡ 13 → ⊥) → (b ≡ 92) ⊎ (b ≡ 92 → ⊥) →
    (b ≡ 34) ⊎ (b ≡ 34 → ⊥) → IsSpelled rest b
spells_by b rest h (inl e) t r k d = subst (IsSpelled rest) (sym e) (q.Spells.escape (92 ∷ 110 ∷ rest) 10 refl refl)
spells_by b rest h (inr f) (inl e) r k d = subst (IsSpelled rest) (sym e) (q.Spells.escape (92 ∷ 116 ∷ rest) 9 refl refl)
spells_by b rest h (inr f) (inr t) (inl e) k d = subst (IsSpelled rest) (sym e) (q.Spells.escape (92 ∷ 114 ∷ rest) 13 refl refl)
spells_by b rest h (inr f) (inr t) (inr r) (inl e) d = subst (IsSpelled rest) (sym e) (q.Spells.escape (92 ∷ 92 ∷ rest) 92 refl refl)
spells_by b rest h (inr f) (inr t) (inr r) (inr k) (inl e) = subst (IsSpelled rest) (sym e) (q.Spells.escape (92 ∷ 34 ∷ rest) 34 refl refl)
spells_by b rest h (inr f) (inr t) (inr r) (inr k) (inr d) =
    rw (ne_eqb b 10 f, ne_eqb b 9 t, ne_eqb b 13 r, ne_eqb b 92 k, ne_eqb b 34 d) (q.Spells.plain (b ∷ rest) (plain_of b h f r k d))

-- a byte of a string is written so that it is read back
spells : (b : ℕ) (rest : List ℕ) → is_held b ≡ true → IsSpelled rest b
spells b rest h = spells_by b rest h (cases_eq b 10) (cases_eq b 9) (cases_eq b 13) (cases_eq b 92) (cases_eq b 34)

-- one byte more in front
quotes_more : (room b : ℕ) (first others s rest : List ℕ) → 0 < room → Spells (first ++ (others ++ (34 ∷ rest))) b (length first) →
    Quotes (room - 1) (others ++ (34 ∷ rest)) (closed s (length others + 1)) → Quotes room ((first ++ others) ++ (34 ∷ rest)) (closed (b ∷ s) (length (first ++ others) + 1))
quotes_more room b first others s rest some here h =
    let h' : Quotes (room - 1) (drop (length first) (first ++ (others ++ (34 ∷ rest)))) (closed s (length others + 1)) =
    rw (drop_at first (others ++ (34 ∷ rest)) (length first) refl) h in
    let all : Quotes room (first ++ (others ++ (34 ∷ rest))) (closed (b ∷ s) (length first + (length others + 1))) =
    goes_on room b (length first) (first ++ (others ++ (34 ∷ rest))) (closed s (length others + 1)) some here h' in
    let e : length first + (length others + 1) ≡ length (first ++ others) + 1 = omega (arith, length-append first others) in
    subst (λ (r : List ℕ). Quotes room r (closed (b ∷ s) (length (first ++ others) + 1))) (sym (append_assoc first others (34 ∷ rest)))
    (subst (λ (k : ℕ). Quotes room (first ++ (others ++ (34 ∷ rest))) (closed (b ∷ s) k)) e all)

-- what stands between the quotes says the string
quotes : (s : List ℕ) (room : ℕ) (rest : List ℕ) → All (λ b. is_held b ≡ true) s → length s ≤ room →
    Quotes room (flat_map escaped s ++ (34 ∷ rest)) (closed s (length (flat_map escaped s) + 1))
quotes [] room rest h l = closes room (34 ∷ rest) refl
quotes (b ∷ s) room rest h l =
    quotes_more room b (escaped b) (flat_map escaped s) s rest (omega arith) (spells b (flat_map escaped s ++ (34 ∷ rest)) (All-head (λ v. is_held v ≡ true) b s h))
    (quotes s (room - 1) rest (All-tail (λ v. is_held v ≡ true) b s h) (omega arith))

-- a string that is printed
pub string_cuts : (s rest : List ℕ) (signs : List Sign) → IsString s → Cuts rest signs → Cuts (quoted s ++ rest) (string s ∷ signs)
string_cuts s rest signs is next =
    let body : List ℕ = flat_map escaped s in
    let bytes : quoted s ++ rest ≡ 34 ∷ (body ++ (34 ∷ rest)) = ap (λ (r : List ℕ). 34 ∷ r) (append_assoc body (34 ∷ []) rest) in
    let here : IsToken (34 ∷ (body ++ (34 ∷ rest))) (literal s) (1 + (length body + 1)) =
    grammar.IsToken.string (34 ∷ (body ++ (34 ∷ rest))) s (length body + 1) refl (quotes s 1024 rest is.bytes is.short) in
    let e : 1 + (length body + 1) ≡ length (quoted s) = omega (arith, length-append body (34 ∷ [])) in
    piece_cuts (quoted s) rest (literal s) signs (rw (bytes, ← e) here) next
