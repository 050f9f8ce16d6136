-- Lists of tasks by rising number.
use Rattle.std.proofs.Common.{◌≡◌, ◌≢◌, ◌<◌, ◌≤◌, ◌+◌, ℕ, zero, suc, Bool, true, false, refl, ap, List, [], ◌∷◌, length, arith, Some, nat_lt, if◌then◌else◌}
use Rattle.std.specs.Prelude.{◌&&◌, not, ◌==◌, nat_le}
use Rattle.std.specs.List.{slice_get}
use Rattle.std.proofs.lemmas.Bool.Decides.{nat_tests}
use Rattle.gs_queue.specs.Numbered.{rises, put_in, without}
use Rattle.gs_broker.specs.declared.choice.Ready.{Ready}

pub both : (a b : Bool) → (a && b) ≡ true → (a ≡ true) × (b ≡ true)
both true true e = (refl, refl)
both true false e = absurd (cc)
both false b e = absurd (cc)

pub and_true : (a b : Bool) → a ≡ true → b ≡ true → (a && b) ≡ true
and_true true b x y = y
and_true false b x y = absurd (cc)

pub is_le : (a b : ℕ) → nat_le a b ≡ true → a ≤ b
is_le a b e = grind (arith, nat_tests)

pub le_is : (a b : ℕ) → a ≤ b → nat_le a b ≡ true
le_is a b le = grind (arith, nat_tests)

is_lt : (a b : ℕ) → nat_lt a b ≡ true → a < b
is_lt a b e = grind (arith, nat_tests)

is_ge : (a b : ℕ) → nat_lt a b ≡ false → b ≤ a
is_ge a b e = grind (arith, nat_tests)

-- what a list that rises says of its first task
record Rises (low high : ℕ) (r : Ready) (rs : List Ready) : Type 0 where
  pub above : low ≤ r.n
  pub below : r.n ≤ high
  pub rest : rises (suc r.n) high rs ≡ true

rises_parts : (low high : ℕ) (r : Ready) (rs : List Ready) → rises low high (r ∷ rs) ≡ true → Rises low high r rs
rises_parts low high r rs e =
    let a = both (nat_le low r.n) (nat_le r.n high && rises (suc r.n) high rs) e in
    let b = both (nat_le r.n high) (rises (suc r.n) high rs) a.1 in
    record { above = is_le low r.n a.0; below = is_le r.n high b.0; rest = b.1 }

rises_of : (low high : ℕ) (r : Ready) (rs : List Ready) → low ≤ r.n → r.n ≤ high → rises (suc r.n) high rs ≡ true → rises low high (r ∷ rs) ≡ true
rises_of low high r rs above below rest =
    and_true (nat_le low r.n) (nat_le r.n high && rises (suc r.n) high rs) (le_is low r.n above)
    (and_true (nat_le r.n high) (rises (suc r.n) high rs) (le_is r.n high below) rest)

-- each task's number is within the bounds
pub rises_get : (low high : ℕ) (rs : List Ready) (i : ℕ) (r : Ready) → rises low high rs ≡ true → slice_get rs i ≡ Some r → (low ≤ r.n) × (r.n ≤ high)
rises_get low high [] i r e at = absurd (cc)
rises_get low high (x ∷ rs) zero r e at = let p = rises_parts low high x rs e in let same : x ≡ r = cc in let n = ap (λ (y : Ready). y.n) same in let a = p.above in let b = p.below in (omega arith, omega arith)
rises_get low high (x ∷ rs) (suc i) r e at = let p = rises_parts low high x rs e in let h = rises_get (suc x.n) high rs i r p.rest at in let a = h.0 in let b = p.above in (omega arith, h.1)

-- no more tasks than numbers
pub rises_length : (low high : ℕ) (rs : List Ready) → rises low high rs ≡ true → low ≤ suc high → length rs + low ≤ suc high
rises_length low high [] e le = omega arith
rises_length low high (x ∷ rs) e le = let p = rises_parts low high x rs e in let a = p.above in let b = p.below in let h = rises_length (suc x.n) high rs p.rest (omega arith) in omega arith

pub rises_wider : (low high more : ℕ) (rs : List Ready) → rises low high rs ≡ true → high ≤ more → rises low more rs ≡ true
rises_wider low high more [] e le = refl
rises_wider low high more (x ∷ rs) e le = let p = rises_parts low high x rs e in let b = p.below in rises_of low more x rs p.above (omega arith) (rises_wider (suc x.n) high more rs p.rest le)

rises_lower : (less low high : ℕ) (rs : List Ready) → rises low high rs ≡ true → less ≤ low → rises less high rs ≡ true
rises_lower less low high [] e le = refl
rises_lower less low high (x ∷ rs) e le = let p = rises_parts low high x rs e in let a = p.above in rises_of less high x rs (omega arith) p.below p.rest

pub rises_without : (low high n : ℕ) (rs : List Ready) → rises low high rs ≡ true → rises low high (without n rs) ≡ true
rises_without low high n [] e = refl
rises_without low high n (x ∷ rs) e = let p = rises_parts low high x rs e in here (not (x.n == n)) (rises_without (suc x.n) high n rs p.rest) p.above p.below
  where
    here : (t : Bool) → rises (suc x.n) high (without n rs) ≡ true → low ≤ x.n → x.n ≤ high → rises low high (if t then x ∷ without n rs else without n rs) ≡ true
    here true rest above below = rises_of low high x (without n rs) above below rest
    here false rest above below = rises_lower low (suc x.n) high (without n rs) rest (omega arith)

-- a task of a number that is not listed
pub rises_put : (low high : ℕ) (rs : List Ready) (r : Ready) → rises low high rs ≡ true → low ≤ r.n → r.n ≤ high → ((i : ℕ) (x : Ready) → slice_get rs i ≡ Some x → x.n ≢ r.n) → rises low high (put_in r rs) ≡ true
rises_put low high [] r e above below apart = rises_of low high r [] above below refl
rises_put low high (x ∷ rs) r e above below apart = let p = rises_parts low high x rs e in here (nat_lt r.n x.n) refl p.above p.below p.rest (λ le. rises_put (suc x.n) high rs r p.rest le below (λ i. apart (suc i)))
  where
    here : (t : Bool) → nat_lt r.n x.n ≡ t → low ≤ x.n → x.n ≤ high → rises (suc x.n) high rs ≡ true → (suc x.n ≤ r.n → rises (suc x.n) high (put_in r rs) ≡ true) → rises low high (if t then r ∷ x ∷ rs else x ∷ put_in r rs) ≡ true
    here true is a b rest later = let lt = is_lt r.n x.n is in rises_of low high r (x ∷ rs) above below (rises_of (suc r.n) high x rs (omega arith) b rest)
    here false is a b rest later =
        let ne = apart 0 x refl in
        let ge = is_ge r.n x.n is in
        let gt : suc x.n ≤ r.n = omega arith in
        rises_of low high x (put_in r rs) a b (later gt)
