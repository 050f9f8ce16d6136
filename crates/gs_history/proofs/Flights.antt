-- Jobs in flight, counted by task.
use Rattle.std.proofs.Common.{◌≡◌, ◌≢◌, ◌<◌, ◌≤◌, ◌+◌, ℕ, zero, suc, Bool, true, false, refl, sym, ap, ◌∙◌, [], ◌∷◌, arith, Option, Some, None, IsSome, is_some, inl, inr, ◌⊎◌, if◌then◌else◌}
use Rattle.std.specs.Prelude.{◌==◌}
use Rattle.std.specs.Bool.{⊤}
use Rattle.std.proofs.lemmas.Bool.{cases_lt}
use Rattle.std.proofs.lemmas.Bool.Decides.{eqb_tells}
use Rattle.gs_types.specs.History.{History, noted, started, refused, finished, failed, abandoned, worker_in, at_worker, busy}
use Rattle.gs_history.specs.Setup.{Setup}
use Rattle.gs_history.specs.Good.{Good}
use Rattle.gs_history.proofs.Opening.{calm, not_none, if_here, if_other}

-- how many of the tasks below n are in flight on a worker
count : History → (w n : ℕ) → ℕ
count h w zero = 0
count h w (suc n) = count h w n + at_worker (worker_in h n) w

-- what is in flight is below n
abbrev pub FliesBelow : History → (n : ℕ) → Type 0
FliesBelow h n = (m : ℕ) → IsSome (worker_in h m) → m < n

count_before : (h g : History) (w m n : ℕ) → ((i : ℕ) → m ≢ i → worker_in g i ≡ worker_in h i) → n ≤ m → count g w n ≡ count h w n
unfolding count
count_before h g w m zero same le = refl
count_before h g w m (suc n) same le =
    let ne : m ≢ n = λ e. absurd (omega arith) in
    let a = count_before h g w m n same (omega arith) in
    let b = ap (λ (o : Option ℕ). at_worker o w) (same n ne) in omega arith

eq_or_below : (m n : ℕ) → m < suc n → (m ≡ n) ⊎ (m < n)
eq_or_below m n lt = elim (cases_lt m n) [ inl below ↦ inr below | inr le ↦ inl (omega arith) ]

count_at : (h g : History) (w m n : ℕ) → ((i : ℕ) → m ≢ i → worker_in g i ≡ worker_in h i) → m < n → count g w n + at_worker (worker_in h m) w ≡ count h w n + at_worker (worker_in g m) w
unfolding count
count_at h g w m zero same lt = absurd (omega arith)
count_at h g w m (suc n) same lt = elim (eq_or_below m n lt) [
  | inl is ↦
      let a = count_before h g w m n same (omega arith) in
      let b = ap (λ (i : ℕ). at_worker (worker_in h i) w) is in
      let d = ap (λ (i : ℕ). at_worker (worker_in g i) w) is in omega arith
  | inr below ↦
      let ne : m ≢ n = λ e. absurd (omega arith) in
      let a = count_at h g w m n same below in
      let b = ap (λ (o : Option ℕ). at_worker o w) (same n ne) in omega arith
]

count_idle : (h : History) (w n : ℕ) → ((m : ℕ) → worker_in h m ≡ None) → count h w n ≡ 0
unfolding count
count_idle h w zero idle = refl
count_idle h w (suc n) idle = let a = count_idle h w n idle in let b = ap (λ (o : Option ℕ). at_worker o w) (idle n) in omega arith

count_alike : (h g : History) (w n : ℕ) → ((m : ℕ) → worker_in g m ≡ worker_in h m) → count g w n ≡ count h w n
unfolding count
count_alike h g w zero same = refl
count_alike h g w (suc n) same = let a = count_alike h g w n same in let b = ap (λ (o : Option ℕ). at_worker o w) (same n) in omega arith

-- ---- the load of a worker is the number of its tasks

-- the tasks of each start are below this number
abbrev pub StartsBelow : History → (n : ℕ) → Type 0
StartsBelow [] n = ⊤
StartsBelow (noted m outs ∷ h) n = StartsBelow h n
StartsBelow (started m w job ∷ h) n = (m < n) × StartsBelow h n
StartsBelow (refused m w ∷ h) n = StartsBelow h n
StartsBelow (finished m outs ∷ h) n = StartsBelow h n
StartsBelow (failed m ∷ h) n = StartsBelow h n
StartsBelow (abandoned ∷ h) n = StartsBelow h n

below_more : (h : History) (n m : ℕ) → n ≤ m → StartsBelow h n → StartsBelow h m
below_more [] n m le b = tt
below_more (noted i outs ∷ h) n m le b = below_more h n m le b
below_more (started i w job ∷ h) n m le b = (let a = b.0 in omega arith, below_more h n m le b.1)
below_more (refused i w ∷ h) n m le b = below_more h n m le b
below_more (finished i outs ∷ h) n m le b = below_more h n m le b
below_more (failed i ∷ h) n m le b = below_more h n m le b
below_more (abandoned ∷ h) n m le b = below_more h n m le b

top : (h : History) → (n : ℕ) × StartsBelow h n
top [] = (0, tt)
top (noted m outs ∷ h) = top h
top (started m w job ∷ h) = let t = top h in (t.0 + suc m, (omega arith, below_more h t.0 (t.0 + suc m) (omega arith) t.1))
top (refused m w ∷ h) = top h
top (finished m outs ∷ h) = top h
top (failed m ∷ h) = top h
top (abandoned ∷ h) = top h

flies_ended : (i m : ℕ) (o : Option ℕ) → IsSome (if i == m then None else o) → IsSome o
flies_ended i m o is = of_test (i == m) is
  where
    of_test : (b : Bool) → IsSome (if b then None else o) → IsSome o
    of_test true is = absurd cc
    of_test false is = is

flies_below : (h : History) (n : ℕ) → StartsBelow h n → FliesBelow h n
flies_below [] n b m is = absurd (not_none (worker_in [] m) is refl)
flies_below (noted i outs ∷ h) n b m is = flies_below h n b m is
flies_below (started i w job ∷ h) n b m is = elim (eqb_tells i m) [
  | inl same ↦ let a = b.0 in let e = same.1 in omega arith
  | inr other ↦ flies_below h n b.1 m (ap (λ (t : Bool). is_some (if t then Some w else worker_in h m)) (sym other.0) ∙ is)
]
flies_below (refused i w ∷ h) n b m is = flies_below h n b m is
flies_below (finished i outs ∷ h) n b m is = flies_below h n b m (flies_ended i m (worker_in h m) is)
flies_below (failed i ∷ h) n b m is = flies_below h n b m (flies_ended i m (worker_in h m) is)
flies_below (abandoned ∷ h) n b m is = absurd (not_none (worker_in (abandoned ∷ h) m) is refl)

ended_load : (h g : History) (w m n : ℕ) → ((i : ℕ) → worker_in g i ≡ (if m == i then None else worker_in h i)) → m < n → count g w n + at_worker (worker_in h m) w ≡ count h w n
ended_load h g w m n same lt =
    let at_m = count_at h g w m n (λ i ne. same i ∙ if_other m i None (worker_in h i) ne) lt in
    let here : at_worker (worker_in g m) w ≡ 0 = ap (λ (o : Option ℕ). at_worker o w) (same m ∙ if_here m None (worker_in h m)) in omega arith

load_is : (s : Setup) (h : History) (w n : ℕ) → Good s h → StartsBelow h n → busy h w ≡ count h w n
load_is s [] w n good b = sym (count_idle [] w n (λ m. refl))
load_is s (noted m outs ∷ h) w n good b =
    let quiet = calm s s.notes (noted m outs ∷ h) good in
    quiet.loads w ∙ sym (count_idle (noted m outs ∷ h) w n quiet.workers)
load_is s (started m u job ∷ h) w n good b =
    let before = load_is s h w n good.0 b.1 in
    let at_m = count_at h (started m u job ∷ h) w m n (λ i ne. if_other m i (Some u) (worker_in h i) ne) b.0 in
    let idle = ap (λ (o : Option ℕ). at_worker o w) good.1.due.ready.idle in
    let here = ap (λ (o : Option ℕ). at_worker o w) (if_here m (Some u) (worker_in h m)) in omega arith
load_is s (refused m u ∷ h) w n good b = load_is s h w n good.0 b ∙ sym (count_alike h (refused m u ∷ h) w n (λ i. refl))
load_is s (finished m outs ∷ h) w n good b =
    let before = load_is s h w n good.0 b in
    let at_m = ended_load h (finished m outs ∷ h) w m n (λ i. refl) (flies_below h n b m good.1.flies) in omega arith
load_is s (failed m ∷ h) w n good b =
    let before = load_is s h w n good.0 b in
    let at_m = ended_load h (failed m ∷ h) w m n (λ i. refl) (flies_below h n b m good.1.flies) in omega arith
load_is s (abandoned ∷ h) w n good b = sym (count_idle (abandoned ∷ h) w n (λ m. refl))

-- no worker is busy while no task is in flight
pub idle_load : (s : Setup) (h : History) (w : ℕ) → Good s h → ((m : ℕ) → worker_in h m ≡ None) → busy h w ≡ 0
idle_load s h w good idle = let t = top h in load_is s h w t.0 good t.1 ∙ count_idle h w t.0 idle
