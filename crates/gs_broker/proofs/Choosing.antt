-- The scan finds the least pair.
use Rattle.std.proofs.Common.{◌≡◌, ◌<◌, ℕ, zero, suc, Bool, true, false, refl, sym, ap, ◌∙◌, subst, List, [], ◌∷◌, arith, Option, Some, None, if◌then◌else◌, inl, inr, ◌⊎◌}
use Rattle.std.specs.Prelude.{⊤}
use Rattle.std.specs.List.{slice_get}
use Rattle.std.proofs.lemmas.Bool.Decides.{nat_tests}
use Rattle.gs_policy.specs.Cost.{Cost}
use Rattle.gs_broker.specs.Choice.{before, better, pair_of, scan_tasks, scan_workers, IsChosen, chosen}
use Rattle.gs_broker.specs.declared.choice.Ready.{Ready}
use Rattle.gs_broker.specs.declared.choice.Pair.{Pair}

before_self : (p : Pair) → before p p ≡ false
before_self p = grind (arith, nat_tests)

before_on : (a b c : Pair) → before a b ≡ true → before b c ≡ true → before a c ≡ true
before_on a b c x y = grind (arith, nat_tests)

-- the best is no worse than the pair
abbrev NotAfter : Option Pair → Pair → Type 0
NotAfter None p = ⊥
NotAfter (Some q) p = before p q ≡ false

-- what the best is, if there is one
abbrev Whole : (Pair → Type 0) → Option Pair → Type 0
Whole Q None = ⊤
Whole Q (Some q) = Q q

better_new : (b : Option Pair) (p : Pair) → NotAfter (better b p) p
better_new None p = before_self p
better_new (Some q) p = here (before p q) refl
  where
    here : (t : Bool) → before p q ≡ t → NotAfter (if t then Some p else Some q) p
    here true e = before_self p
    here false e = e

better_old : (b : Option Pair) (x p : Pair) → NotAfter b p → NotAfter (better b x) p
better_old None x p isnt = absurd isnt
better_old (Some q) x p isnt = here (before x q) refl
  where
    there : (t : Bool) → before p x ≡ t → before x q ≡ true → before p x ≡ false
    there true e is = let on = before_on p x q e is in absurd (cc)
    there false e is = e

    here : (t : Bool) → before x q ≡ t → NotAfter (if t then Some x else Some q) p
    here true e = there (before p x) refl e
    here false e = isnt

better_whole : (Q : Pair → Type 0) (b : Option Pair) (p : Pair) → Whole Q b → Q p → Whole Q (better b p)
better_whole Q None p all is = is
better_whole Q (Some q) p all is = here (before p q)
  where
    here : (t : Bool) → Whole Q (if t then Some p else Some q)
    here true = is
    here false = all

scan_old : (cost : Cost) (takes : ℕ → Bool) (w : ℕ) (rs : List Ready) (b : Option Pair) (p : Pair) → NotAfter b p → NotAfter (scan_tasks cost takes w rs b) p
scan_old cost takes w [] b p isnt = isnt
scan_old cost takes w (r ∷ rs) b p isnt = scan_old cost takes w rs (if takes r.op then better b (pair_of cost w r) else b) p (here (takes r.op))
  where
    here : (t : Bool) → NotAfter (if t then better b (pair_of cost w r) else b) p
    here true = better_old b (pair_of cost w r) p isnt
    here false = isnt

scan_new : (cost : Cost) (takes : ℕ → Bool) (w : ℕ) (rs : List Ready) (b : Option Pair) (i : ℕ) (r : Ready) → slice_get rs i ≡ Some r → takes r.op ≡ true → NotAfter (scan_tasks cost takes w rs b) (pair_of cost w r)
scan_new cost takes w [] b i r at takes_it = absurd (cc)
scan_new cost takes w (x ∷ rs) b zero r at takes_it =
    let same : x ≡ r = cc in
    let taken : takes x.op ≡ true = ap (λ (y : Ready). takes y.op) same ∙ takes_it in
    scan_old cost takes w rs (if takes x.op then better b (pair_of cost w x) else b) (pair_of cost w r)
    (subst (λ (t : Bool). NotAfter (if t then better b (pair_of cost w x) else b) (pair_of cost w r)) (sym taken) (subst (λ (y : Ready). NotAfter (better b (pair_of cost w y)) (pair_of cost w r)) (sym same) (better_new b (pair_of cost w r))))
scan_new cost takes w (x ∷ rs) b (suc i) r at takes_it = scan_new cost takes w rs (if takes x.op then better b (pair_of cost w x) else b) i r at takes_it

scan_whole : (Q : Pair → Type 0) (cost : Cost) (takes : ℕ → Bool) (w : ℕ) (rs : List Ready) (b : Option Pair) → Whole Q b → ((i : ℕ) (r : Ready) → slice_get rs i ≡ Some r → takes r.op ≡ true → Q (pair_of cost w r)) → Whole Q (scan_tasks cost takes w rs b)
scan_whole Q cost takes w [] b all each = all
scan_whole Q cost takes w (r ∷ rs) b all each = scan_whole Q cost takes w rs (if takes r.op then better b (pair_of cost w r) else b) (here (takes r.op) refl) (λ i. each (suc i))
  where
    here : (t : Bool) → takes r.op ≡ t → Whole Q (if t then better b (pair_of cost w r) else b)
    here true e = better_whole Q b (pair_of cost w r) all (each 0 r refl e)
    here false e = all

-- ---- over the workers

last_or : (m n : ℕ) → n < suc m → (n ≡ m) ⊎ (n < m)
last_or zero zero l = inl refl
last_or (suc m) zero l = inr (omega arith)
last_or zero (suc n) l = absurd (omega arith)
last_or (suc m) (suc n) l = elim (last_or m n (omega arith)) [ inl e ↦ inl (ap suc e) | inr b ↦ inr (omega arith) ]

one_worker : (cost : Cost) (takes : ℕ → Bool) (w : ℕ) (rs : List Ready) (b : Option Pair) (p : Pair) (t : Bool) → NotAfter b p → NotAfter (if t then scan_tasks cost takes w rs b else b) p
one_worker cost takes w rs b p true isnt = scan_old cost takes w rs b p isnt
one_worker cost takes w rs b p false isnt = isnt

this_worker : (cost : Cost) (takes : ℕ → Bool) (w : ℕ) (rs : List Ready) (b : Option Pair) (t : Bool) (i : ℕ) (r : Ready) → t ≡ true → slice_get rs i ≡ Some r → takes r.op ≡ true → NotAfter (if t then scan_tasks cost takes w rs b else b) (pair_of cost w r)
this_worker cost takes w rs b true i r is at takes_it = scan_new cost takes w rs b i r at takes_it
this_worker cost takes w rs b false i r is at takes_it = absurd (cc)

workers_old : (cost : Cost) (takes : ℕ → ℕ → Bool) (usable : ℕ → Bool) (rs : List Ready) (w u i : ℕ) (r : Ready) → u < w → slice_get rs i ≡ Some r → takes u r.op ≡ true → usable u ≡ true → NotAfter (scan_workers cost takes usable rs w) (pair_of cost u r)
workers_old cost takes usable rs zero u i r lt at takes_it free = absurd (omega arith)
workers_old cost takes usable rs (suc w) u i r lt at takes_it free = elim (last_or w u lt) [
  | inl e ↦ subst (λ (v : ℕ). NotAfter (scan_workers cost takes usable rs (suc w)) (pair_of cost v r)) (sym e) (this_worker cost (takes w) w rs (scan_workers cost takes usable rs w) (usable w) i r (ap usable (sym e) ∙ free) at (ap (λ (v : ℕ). takes v r.op) (sym e) ∙ takes_it))
  | inr b ↦ one_worker cost (takes w) w rs (scan_workers cost takes usable rs w) (pair_of cost u r) (usable w) (workers_old cost takes usable rs w u i r b at takes_it free)
]

one_whole : (Q : Pair → Type 0) (cost : Cost) (takes : ℕ → Bool) (w : ℕ) (rs : List Ready) (b : Option Pair) (t : Bool) → Whole Q b → ((i : ℕ) (r : Ready) → slice_get rs i ≡ Some r → takes r.op ≡ true → t ≡ true → Q (pair_of cost w r)) → Whole Q (if t then scan_tasks cost takes w rs b else b)
one_whole Q cost takes w rs b true all each = scan_whole Q cost takes w rs b all (λ i r at takes_it. each i r at takes_it refl)
one_whole Q cost takes w rs b false all each = all

workers_whole : (Q : Pair → Type 0) (cost : Cost) (takes : ℕ → ℕ → Bool) (usable : ℕ → Bool) (rs : List Ready) (w : ℕ) → ((u i : ℕ) (r : Ready) → slice_get rs i ≡ Some r → takes u r.op ≡ true → usable u ≡ true → Q (pair_of cost u r)) → Whole Q (scan_workers cost takes usable rs w)
workers_whole Q cost takes usable rs zero each = tt
workers_whole Q cost takes usable rs (suc w) each = one_whole Q cost (takes w) w rs (scan_workers cost takes usable rs w) (usable w) (workers_whole Q cost takes usable rs w each) (λ i r at takes_it is. each w i r at takes_it is)

-- where the pair comes from
abbrev IsListed : Cost → (ℕ → ℕ → Bool) → (ℕ → Bool) → List Ready → Pair → Type 0
IsListed cost takes usable rs p = (i : ℕ) × (r : Ready) × (slice_get rs i ≡ Some r) × (takes p.worker r.op ≡ true) × (usable p.worker ≡ true) × (p ≡ pair_of cost p.worker r)

-- the workers that take something are among the first
pub scan_chosen : (cost : Cost) (takes : ℕ → ℕ → Bool) (usable : ℕ → Bool) (rs : List Ready) (w : ℕ) → ((u op : ℕ) → takes u op ≡ true → u < w) → IsChosen cost takes usable rs (chosen (scan_workers cost takes usable rs w))
scan_chosen cost takes usable rs w few = here (scan_workers cost takes usable rs w) (workers_whole (IsListed cost takes usable rs) cost takes usable rs w (λ u i r at takes_it is. (i, r, at, takes_it, is, refl))) (λ u i r lt at takes_it is. workers_old cost takes usable rs w u i r lt at takes_it is)
  where
    here : (b : Option Pair) → Whole (IsListed cost takes usable rs) b → ((u i : ℕ) (r : Ready) → u < w → slice_get rs i ≡ Some r → takes u r.op ≡ true → usable u ≡ true → NotAfter b (pair_of cost u r)) → IsChosen cost takes usable rs (chosen b)
    here None all none = λ i u r at takes_it is. none u i r (few u r.op takes_it) at takes_it is
    here (Some p) all best = record {
      place = all.0;
      task = all.1;
      listed = all.2;
      number = ap (λ (q : Pair). q.n) (sym all.5);
      taken = all.3;
      free = all.4;
      least = λ j u s at takes_it is. ap (before (pair_of cost u s)) (sym all.5) ∙ best u j s (few u s.op takes_it) at takes_it is;
    }
