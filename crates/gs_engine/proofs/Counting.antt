-- Counts that don't fall.
use Rattle.std.proofs.Common.{◌≡◌, ℕ, ◌+◌, ◌-◌, ◌≤◌, ◌^◌, arith, true, Bool, inl, inr, ⊎_elim}
use Rattle.std.specs.Prelude.{◌⊎◌, min}
use Rattle.gs_types.specs.Counts.{Rises, Caused}

least_up : (a b : ℕ) → a ≤ b → min (a + 1) (2 ^ 64 - 1) ≤ min (b + 1) (2 ^ 64 - 1)
least_up a b le = grind (arith)

pub rises_from : (a b c : ℕ) → a ≤ b → Rises b c → Rises a c
rises_from a b c le rises = let l = least_up a b le in omega (arith, l, rises)

pub rises_on : (a b c : ℕ) → Rises a b → b ≤ c → Rises a c
rises_on a b c rises le = omega (arith, rises, le)

-- a cause since a later moment is one since an earlier
pub caused_from : (X : Type 0) (a b c : ℕ) → a ≤ b → Caused X b c → Caused X a c
caused_from X a b c le caused = record {
  rise = let r = caused.rise in omega (arith, le, r);
  cause = λ x. rises_from a b c le (caused.cause x);
}

-- what was so before, or since a count rose
pub since_then : (f g h : Bool) (a b c : ℕ) → a ≤ b → b ≤ c
    → (g ≡ true → (f ≡ true) ⊎ Rises a b) → (h ≡ true → (g ≡ true) ⊎ Rises b c) → h ≡ true
    → (f ≡ true) ⊎ Rises a c
since_then f g h a b c le more first second is =
    ⊎_elim (λ before. ⊎_elim inl (λ rises. inr (rises_on a b c rises more)) (first before))
    (λ rises. inr (rises_from a b c le rises)) (second is)
