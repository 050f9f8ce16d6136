-- The scan finds the least stranded task.
use Rattle.std.proofs.Common.{◌≡◌, ◌<◌, ◌≤◌, ℕ, zero, suc, Bool, true, false, refl, sym, ap, ◌∙◌, subst, List, [], ◌∷◌, arith, Option, Some, None, nat_lt, if◌then◌else◌, inl, inr}
use Rattle.std.specs.Prelude.{◌||◌, ◌&&◌, ⊤}
use Rattle.std.specs.List.{slice_get}
use Rattle.std.proofs.lemmas.Bool.{cases_lt}
use Rattle.std.proofs.lemmas.Bool.Decides.{nat_tests}
use Rattle.gs_broker.specs.Counts.{has_live, IsStranded}
use Rattle.gs_broker.specs.Outcome.{lesser}
use Rattle.gs_broker.specs.Stranded.{scan_stranded, IsLeastStranded}
use Rattle.gs_broker.specs.declared.choice.Ready.{Ready}

-- ---- whether an operation is stranded

or_right : (a b : Bool) → a || b ≡ false → (a ≡ false) × (b ≡ false)
or_right true b e = absurd (cc)
or_right false b e = (refl, e)

live_ge : (t : Bool) (a : ℕ) → (t && nat_lt a 5) ≡ false → t ≡ true → 5 ≤ a
live_ge true a e is = grind (arith, nat_tests)
live_ge false a e is = absurd (cc)

none_live : (takes : ℕ → ℕ → Bool) (lapses : ℕ → ℕ) (op n : ℕ) → has_live takes lapses op n ≡ false → (w : ℕ) → w < n → takes w op ≡ true → 5 ≤ lapses w
none_live takes lapses op zero e w lt is = absurd (omega arith)
none_live takes lapses op (suc n) e w lt is =
    let parts = or_right (has_live takes lapses op n) (takes n op && nat_lt (lapses n) 5) e in
    elim (cases_lt w n) [
      | inl below ↦ none_live takes lapses op n parts.0 w below is
      | inr above ↦ let same : w ≡ n = omega arith in subst (λ (u : ℕ). 5 ≤ lapses u) (sym same) (live_ge (takes n op) (lapses n) parts.1 (ap (λ (u : ℕ). takes u op) (sym same) ∙ is))
    ]

both_false : (t : Bool) (a : ℕ) → (t ≡ true → 5 ≤ a) → (t && nat_lt a 5) ≡ false
both_false false a h = refl
both_false true a h = let le = h refl in grind (arith, nat_tests)

or_false : (a b : Bool) → a ≡ false → b ≡ false → (a || b) ≡ false
or_false true b x y = x
or_false false b x y = y

all_ge : (takes : ℕ → ℕ → Bool) (lapses : ℕ → ℕ) (op n : ℕ) → IsStranded takes lapses op → has_live takes lapses op n ≡ false
all_ge takes lapses op zero each = refl
all_ge takes lapses op (suc n) each = or_false (has_live takes lapses op n) (takes n op && nat_lt (lapses n) 5) (all_ge takes lapses op n each) (both_false (takes n op) (lapses n) (each n))

-- ---- the least

abbrev NotAbove : Option ℕ → ℕ → Type 0
NotAbove None n = ⊥
NotAbove (Some m) n = m ≤ n

lesser_new : (o : Option ℕ) (n : ℕ) → NotAbove (lesser o n) n
lesser_new None n = omega arith
lesser_new (Some m) n = here (nat_lt n m) refl
  where
    here : (t : Bool) → nat_lt n m ≡ t → NotAbove (if t then Some n else Some m) n
    here true e = omega arith
    here false e = grind (arith, nat_tests)

lesser_old : (o : Option ℕ) (n k : ℕ) → NotAbove o k → NotAbove (lesser o n) k
lesser_old None n k below = absurd below
lesser_old (Some m) n k below = here (nat_lt n m) refl
  where
    here : (t : Bool) → nat_lt n m ≡ t → NotAbove (if t then Some n else Some m) k
    here true e = grind (arith, nat_tests)
    here false e = below

scan_old : (live : ℕ → Bool) (rs : List Ready) (o : Option ℕ) (k : ℕ) → NotAbove o k → NotAbove (scan_stranded live rs o) k
scan_old live [] o k below = below
scan_old live (r ∷ rs) o k below = scan_old live rs (if live r.op then o else lesser o r.n) k (here (live r.op))
  where
    here : (t : Bool) → NotAbove (if t then o else lesser o r.n) k
    here true = below
    here false = lesser_old o r.n k below

scan_new : (live : ℕ → Bool) (rs : List Ready) (o : Option ℕ) (i : ℕ) (r : Ready) → slice_get rs i ≡ Some r → live r.op ≡ false → NotAbove (scan_stranded live rs o) r.n
scan_new live [] o i r at e = absurd (cc)
scan_new live (x ∷ rs) o zero r at e =
    let same : x ≡ r = cc in
    let dead : live x.op ≡ false = ap (λ (y : Ready). live y.op) same ∙ e in
    scan_old live rs (if live x.op then o else lesser o x.n) r.n
    (subst (λ (t : Bool). NotAbove (if t then o else lesser o x.n) r.n) (sym dead) (subst (λ (y : Ready). NotAbove (lesser o y.n) r.n) (sym same) (lesser_new o r.n)))
scan_new live (x ∷ rs) o (suc i) r at e = scan_new live rs (if live x.op then o else lesser o x.n) i r at e

abbrev Whole : (ℕ → Type 0) → Option ℕ → Type 0
Whole Q None = ⊤
Whole Q (Some n) = Q n

lesser_whole : (Q : ℕ → Type 0) (o : Option ℕ) (n : ℕ) → Whole Q o → Q n → Whole Q (lesser o n)
lesser_whole Q None n all is = is
lesser_whole Q (Some m) n all is = here (nat_lt n m)
  where
    here : (t : Bool) → Whole Q (if t then Some n else Some m)
    here true = is
    here false = all

scan_whole : (Q : ℕ → Type 0) (live : ℕ → Bool) (rs : List Ready) (o : Option ℕ) → Whole Q o → ((i : ℕ) (r : Ready) → slice_get rs i ≡ Some r → live r.op ≡ false → Q r.n) → Whole Q (scan_stranded live rs o)
scan_whole Q live [] o all each = all
scan_whole Q live (r ∷ rs) o all each = scan_whole Q live rs (if live r.op then o else lesser o r.n) (here (live r.op) refl) (λ i. each (suc i))
  where
    here : (t : Bool) → live r.op ≡ t → Whole Q (if t then o else lesser o r.n)
    here true e = all
    here false e = lesser_whole Q o r.n all (each 0 r refl e)

abbrev IsListed : (ℕ → Type 0) → List Ready → ℕ → Type 0
IsListed stranded rs n = (i : ℕ) × (r : Ready) × (slice_get rs i ≡ Some r) × (r.n ≡ n) × stranded r.op

pub least_stranded : (stranded : ℕ → Type 0) (live : ℕ → Bool) (rs : List Ready) → ((op : ℕ) → live op ≡ false → stranded op) → ((op : ℕ) → stranded op → live op ≡ false) → IsLeastStranded stranded rs (scan_stranded live rs None)
least_stranded stranded live rs to back = here (scan_stranded live rs None) (scan_whole (IsListed stranded rs) live rs None tt (λ i r at e. (i, r, at, refl, to r.op e))) (λ i r at e. scan_new live rs None i r at e)
  where
    here : (o : Option ℕ) → Whole (IsListed stranded rs) o → ((i : ℕ) (r : Ready) → slice_get rs i ≡ Some r → live r.op ≡ false → NotAbove o r.n) → IsLeastStranded stranded rs o
    here None all each = λ i r at is. each i r at (back r.op is)
    here (Some n) all each = (all, λ j s at is. each j s at (back s.op is))

pub is_stranded : (takes : ℕ → ℕ → Bool) (lapses : ℕ → ℕ) (op n : ℕ) → ((w : ℕ) → takes w op ≡ true → w < n) → has_live takes lapses op n ≡ false → IsStranded takes lapses op
is_stranded takes lapses op n few e w is = none_live takes lapses op n e w (few w is) is

pub not_live : (takes : ℕ → ℕ → Bool) (lapses : ℕ → ℕ) (op n : ℕ) → IsStranded takes lapses op → has_live takes lapses op n ≡ false
not_live takes lapses op n each = all_ge takes lapses op n each

or_true : (a b : Bool) → b ≡ true → (a || b) ≡ true
or_true true b e = refl
or_true false b e = e

or_first : (a b : Bool) → a ≡ true → (a || b) ≡ true
or_first true b e = refl
or_first false b e = absurd (cc)

both_true : (t : Bool) (a : ℕ) → t ≡ true → a < 5 → (t && nat_lt a 5) ≡ true
both_true true a e lt = grind (arith, nat_tests)
both_true false a e lt = absurd (cc)

pub live_at : (takes : ℕ → ℕ → Bool) (lapses : ℕ → ℕ) (op n w : ℕ) → w < n → takes w op ≡ true → lapses w < 5 → has_live takes lapses op n ≡ true
live_at takes lapses op zero w lt is few = absurd (omega arith)
live_at takes lapses op (suc n) w lt is few = elim (cases_lt w n) [
  | inl below ↦ or_first (has_live takes lapses op n) (takes n op && nat_lt (lapses n) 5) (live_at takes lapses op n w below is few)
  | inr above ↦ let same : w ≡ n = omega arith in or_true (has_live takes lapses op n) (takes n op && nat_lt (lapses n) 5) (both_true (takes n op) (lapses n) (ap (λ (u : ℕ). takes u op) (sym same) ∙ is) (subst (λ (u : ℕ). lapses u < 5) same few))
]
