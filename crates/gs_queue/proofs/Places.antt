-- Which tasks stand in a list after a change.
use Rattle.std.proofs.Common.{◌≡◌, ◌≢◌, ◌+◌, ℕ, zero, suc, Bool, true, false, refl, sym, ap, ◌∙◌, List, [], ◌∷◌, length, arith, Some, nat_lt, if◌then◌else◌, inl, inr, ◌⊎◌}
use Rattle.std.specs.Prelude.{not, ◌==◌}
use Rattle.std.specs.List.{slice_get}
use Rattle.std.proofs.lemmas.Bool.Decides.{eqb_tells}
use Rattle.gs_queue.specs.Numbered.{put_in, without}
use Rattle.gs_broker.specs.declared.choice.Ready.{Ready}

-- what is listed with the task is it, or was listed
pub put_get : (rs : List Ready) (r x : Ready) (i : ℕ) → slice_get (put_in r rs) i ≡ Some x → (r ≡ x) ⊎ ((j : ℕ) × (slice_get rs j ≡ Some x))
put_get [] r x zero e = let same : r ≡ x = cc in inl same
put_get [] r x (suc i) e = absurd (cc)
put_get (y ∷ rs) r x i e = here (nat_lt r.n y.n) i e (λ j. put_get rs r x j)
  where
    here : (t : Bool) (i : ℕ) → slice_get (if t then r ∷ y ∷ rs else y ∷ put_in r rs) i ≡ Some x → ((j : ℕ) → slice_get (put_in r rs) j ≡ Some x → (r ≡ x) ⊎ ((k : ℕ) × (slice_get rs k ≡ Some x))) → (r ≡ x) ⊎ ((j : ℕ) × (slice_get (y ∷ rs) j ≡ Some x))
    here true zero e later = let same : r ≡ x = cc in inl same
    here true (suc i) e later = inr (i, e)
    here false zero e later = inr (0, e)
    here false (suc i) e later = elim (later i e) [ inl same ↦ inl same | inr at ↦ inr (suc at.0, at.1) ]

-- what was listed is listed with the task
pub get_put : (rs : List Ready) (r x : Ready) (i : ℕ) → slice_get rs i ≡ Some x → (j : ℕ) × (slice_get (put_in r rs) j ≡ Some x)
get_put [] r x i e = absurd (cc)
get_put (y ∷ rs) r x i e = here (nat_lt r.n y.n) i e (λ j. get_put rs r x j)
  where
    here : (t : Bool) (i : ℕ) → slice_get (y ∷ rs) i ≡ Some x → ((j : ℕ) → slice_get rs j ≡ Some x → (k : ℕ) × (slice_get (put_in r rs) k ≡ Some x)) → (j : ℕ) × (slice_get (if t then r ∷ y ∷ rs else y ∷ put_in r rs) j ≡ Some x)
    here true i e later = (suc i, e)
    here false zero e later = (0, e)
    here false (suc i) e later = let k = later i e in (suc k.0, k.1)

-- the task is listed
pub put_there : (rs : List Ready) (r : Ready) → (j : ℕ) × (slice_get (put_in r rs) j ≡ Some r)
put_there [] r = (0, refl)
put_there (y ∷ rs) r = here (nat_lt r.n y.n) (put_there rs r)
  where
    here : (t : Bool) → (j : ℕ) × (slice_get (put_in r rs) j ≡ Some r) → (j : ℕ) × (slice_get (if t then r ∷ y ∷ rs else y ∷ put_in r rs) j ≡ Some r)
    here true later = (0, refl)
    here false later = (suc later.0, later.1)

-- what is listed without the task was listed, and has another number
pub without_get : (n : ℕ) (rs : List Ready) (x : Ready) (i : ℕ) → slice_get (without n rs) i ≡ Some x → ((j : ℕ) × (slice_get rs j ≡ Some x)) × (x.n ≢ n)
without_get n [] x i e = absurd (cc)
without_get n (y ∷ rs) x i e = here (y.n == n) (eqb_tells y.n n) i e (λ j. without_get n rs x j)
  where
    here : (t : Bool) → ((t ≡ true) × (y.n ≡ n)) ⊎ ((t ≡ false) × (y.n ≢ n)) → (i : ℕ) → slice_get (if not t then y ∷ without n rs else without n rs) i ≡ Some x → ((j : ℕ) → slice_get (without n rs) j ≡ Some x → ((k : ℕ) × (slice_get rs k ≡ Some x)) × (x.n ≢ n)) → ((j : ℕ) × (slice_get (y ∷ rs) j ≡ Some x)) × (x.n ≢ n)
    here true is i e later = let h = later i e in ((suc h.0.0, h.0.1), h.1)
    here false (inl is) i e later = absurd (let b = is.0 in cc)
    here false (inr is) zero e later = let same : y ≡ x = cc in ((0, e), λ is_n. is.1 (ap (λ (z : Ready). z.n) same ∙ is_n))
    here false (inr is) (suc i) e later = let h = later i e in ((suc h.0.0, h.0.1), h.1)

-- what was listed and has another number is listed
pub get_without : (n : ℕ) (rs : List Ready) (x : Ready) (i : ℕ) → slice_get rs i ≡ Some x → x.n ≢ n → (j : ℕ) × (slice_get (without n rs) j ≡ Some x)
get_without n [] x i e ne = absurd (cc)
get_without n (y ∷ rs) x i e ne = here (y.n == n) (eqb_tells y.n n) i e (λ j at. get_without n rs x j at ne)
  where
    here : (t : Bool) → ((t ≡ true) × (y.n ≡ n)) ⊎ ((t ≡ false) × (y.n ≢ n)) → (i : ℕ) → slice_get (y ∷ rs) i ≡ Some x → ((j : ℕ) → slice_get rs j ≡ Some x → (k : ℕ) × (slice_get (without n rs) k ≡ Some x)) → (j : ℕ) × (slice_get (if not t then y ∷ without n rs else without n rs) j ≡ Some x)
    here true (inl is) zero e later = let same : y ≡ x = cc in absurd (ne (sym (ap (λ (z : Ready). z.n) same) ∙ is.1))
    here true (inr is) zero e later = absurd (let b = is.0 in cc)
    here true is (suc i) e later = later i e
    here false is zero e later = (0, e)
    here false is (suc i) e later = let k = later i e in (suc k.0, k.1)

-- one task more
pub put_length : (rs : List Ready) (r : Ready) → length (put_in r rs) ≡ length rs + 1
put_length [] r = refl
put_length (x ∷ rs) r = here (nat_lt r.n x.n) (put_length rs r)
  where
    here : (t : Bool) → length (put_in r rs) ≡ length rs + 1 → length (if t then r ∷ x ∷ rs else x ∷ put_in r rs) ≡ length (x ∷ rs) + 1
    here true h = omega arith
    here false h = omega arith
