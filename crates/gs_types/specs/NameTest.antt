-- The test of a file's name.
use Rattle.std.proofs.Common.{◌≡◌, ℕ, zero, suc, ◌<◌, ◌≤◌, Bool, true, false, not, eqb, leb, List, [], ◌∷◌, length, refl, arith, inl, inr}
use Rattle.std.specs.Prelude.{◌==◌, ◌&&◌, nat_le, slice_index}
use Rattle.std.specs.List.{AllPass, list_all}
use Rattle.std.proofs.lemmas.Bool.{ne_eqb, leb-true, le-leb, and_parts, and_from, cases_Bool}
use Rattle.std.proofs.lemmas.List.Sums.{AllPass-from_list_all, list_all-from_AllPass}
use Rattle.std.proofs.lemmas.List.Elements.{All-from_get_or}
use Rattle.gs_types.specs.declared.limits.TheConstants.{NAME_LENGTH}
use Rattle.gs_types.specs.Name.{is_name_byte, may_stand, GoesTo, IsName, IsBadAt}

abbrev pub begins_with_dot : List ℕ → Bool
begins_with_dot [] = false
begins_with_dot (b ∷ w) = b == 46

-- letters, digits, `.`, `_` and `-`, at least one and at most as many as a name may have, of which
-- the first is no `.`
unfoldable pub is_name : List ℕ → Bool
is_name w = nat_le 1 (length w)
    && (nat_le (length w) NAME_LENGTH && (list_all is_name_byte w && not (begins_with_dot w)))

not_true : (b : Bool) → not b ≡ true → b ≡ false
not_true true e = absurd cc
not_true false e = refl

not_from : (b : Bool) → b ≡ false → not b ≡ true
not_from b e = rw e refl

standing : (at b : ℕ) → may_stand at b ≡ true → is_name_byte b ≡ true
standing at b e = (and_parts (is_name_byte b) (not (eqb at 0 && eqb b 46)) e).0

no_dot : (w : List ℕ) → 1 ≤ length w → GoesTo w (length w) → begins_with_dot w ≡ false
no_dot [] h g = absurd (omega arith)
no_dot (b ∷ w) h g =
    let first : may_stand 0 b ≡ true = g 0 (omega arith) in
    not_true (eqb b 46) (and_parts (is_name_byte b) (not (eqb b 46)) first).1

dot_first : (w : List ℕ) (k : ℕ) → k < length w → begins_with_dot w ≡ false
    → (eqb k 0 && eqb (slice_index w k) 46) ≡ false
dot_first [] k lt e = absurd (omega arith)
dot_first (b ∷ w) zero lt e = e
dot_first (b ∷ w) (suc k) lt e = let n : eqb (suc k) 0 ≡ false = ne_eqb (suc k) 0
    (λ is. absurd (omega arith)) in rw n refl

pub name_takes : (w : List ℕ) → is_name w ≡ true → IsName w
unfolding is_name
name_takes w e =
    let a = and_parts (leb 1 (length w)) (leb (length w) NAME_LENGTH
    && (list_all is_name_byte w && not (begins_with_dot w))) e in
    let b = and_parts (leb (length w) NAME_LENGTH) (list_all is_name_byte w
    && not (begins_with_dot w)) a.1 in
    let c = and_parts (list_all is_name_byte w) (not (begins_with_dot w)) b.1 in
    let each = AllPass-from_list_all is_name_byte w c.0 in
    record {
      some = leb-true _ _ a.0;
      short = leb-true _ _ b.0;
      allowed = λ k lt. and_from (is_name_byte (slice_index w k)) _ (each k 0 lt)
          (not_from (eqb k 0 && eqb (slice_index w k) 46)
          (dot_first w k lt (not_true (begins_with_dot w) c.1)));
    }

pub name_bytes : (w : List ℕ) → IsName w → AllPass is_name_byte w
name_bytes w h = All-from_get_or (λ b. is_name_byte b ≡ true) w 0
    (λ k lt. standing k (slice_index w k) (h.allowed k lt))

pub name_gives : (w : List ℕ) → IsName w → is_name w ≡ true
unfolding is_name
name_gives w h =
    and_from (leb 1 (length w)) _ (le-leb _ _ h.some)
    (and_from (leb (length w) NAME_LENGTH) _ (le-leb _ _ h.short)
    (and_from (list_all is_name_byte w) _ (list_all-from_AllPass is_name_byte w (name_bytes w h))
    (not_from (begins_with_dot w) (no_dot w h.some h.allowed))))

bad_is_none : (w : List ℕ) (at : ℕ) → IsBadAt w at → IsName w → ⊥
bad_is_none w at bad h =
    elim bad.here [
      | inl z ↦ let some = h.some in absurd (omega arith)
      | inr (inl wrong) ↦ let ok = h.allowed at wrong.0 in let no = wrong.2 in absurd cc
      | inr (inr long) ↦ let short = h.short in absurd (omega arith)
    ]

pub bad_name : (w : List ℕ) (at : ℕ) → IsBadAt w at → is_name w ≡ false
bad_name w at bad =
    elim (cases_Bool (is_name w)) [
      | inl y ↦ absurd (bad_is_none w at bad (name_takes w y))
      | inr n ↦ n
    ]
