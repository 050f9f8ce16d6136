-- Tasks by number, and fronts that lead them.
use Rattle.std.proofs.Common.{◌≡◌, ◌≢◌, ◌<◌, ◌≤◌, ◌∙◌, ℕ, zero, suc, Bool, true, false, refl, sym, ap, List, [], ◌∷◌, length, arith, Option, Some, None, if◌then◌else◌, inl, inr, ◌⊎◌}
use Rattle.std.specs.Prelude.{◌&&◌, ◌||◌, ◌==◌, nat_le}
use Rattle.std.specs.List.{slice_get}
use Rattle.std.proofs.lemmas.Bool.Decides.{nat_tests, eqb_tells}
use Rattle.gs_broker.specs.declared.choice.Ready.{Ready}
use Rattle.gs_queue.specs.Fronts.{task_at, flat, are_alike, leads, is_led, stands_in, with_task, without_task, IsIn, AreFronts, HasFront, StandForAll}
use Rattle.gs_queue.proofs.Rising.{both, and_true, is_le, le_is}

-- ---- a value at one number, and others elsewhere

pub here : {A : Type 0} (n : ℕ) (a b : A) → (if n == n then a else b) ≡ a
here n a b = elim (eqb_tells n n) [
  | inl is ↦ ap (λ (t : Bool). if t then a else b) is.0
  | inr ne ↦ absurd (ne.1 refl)
]

pub elsewhere : {A : Type 0} (n m : ℕ) (a b : A) → n ≢ m → (if n == m then a else b) ≡ b
elsewhere n m a b ne = elim (eqb_tells n m) [
  | inl is ↦ absurd (ne is.1)
  | inr other ↦ ap (λ (t : Bool). if t then a else b) other.0
]

pub apart_or_not : (n m : ℕ) → (n ≡ m) ⊎ (n ≢ m)
apart_or_not n m = elim (eqb_tells n m) [ inl is ↦ inl is.1 | inr ne ↦ inr ne.1 ]

pub none_some : (o : Option Ready) (x : Ready) → o ≡ None → o ≡ Some x → ⊥
none_some o x a b = absurd (cc)

pub one_task : (o : Option Ready) (x y : Ready) → o ≡ Some x → o ≡ Some y → x ≡ y
one_task o x y a b = cc

-- the task, or one that was listed
pub with_cases : (r : Ready) (task : ℕ → Option Ready) (m : ℕ) (x : Ready) → with_task r task m ≡ Some x → ((r.n ≡ m) × (r ≡ x)) ⊎ ((r.n ≢ m) × (task m ≡ Some x))
with_cases r task m x e = elim (eqb_tells r.n m) [
  | inl is ↦ let at : Some r ≡ Some x = sym (ap (λ (t : Bool). if t then Some r else task m) is.0) ∙ e in let same : r ≡ x = cc in inl (is.1, same)
  | inr ne ↦ inr (ne.1, sym (ap (λ (t : Bool). if t then Some r else task m) ne.0) ∙ e)
]

pub without_cases : (n : ℕ) (task : ℕ → Option Ready) (m : ℕ) (x : Ready) → without_task n task m ≡ Some x → (n ≢ m) × (task m ≡ Some x)
without_cases n task m x e = elim (eqb_tells n m) [
  | inl is ↦ absurd (none_some (without_task n task m) x (ap (λ (t : Bool). if t then None else task m) is.0) e)
  | inr ne ↦ (ne.1, sym (ap (λ (t : Bool). if t then None else task m) ne.0) ∙ e)
]

-- a listed task has one of the numbers
pub task_within : (tasks : List (Option Ready)) (n : ℕ) (r : Ready) → task_at tasks n ≡ Some r → (0 < n) × (n ≤ length tasks)
task_within tasks zero r e = absurd (cc)
task_within tasks (suc n) r e = (omega arith, within tasks n e)
  where
    within : (tasks : List (Option Ready)) (n : ℕ) → flat (slice_get tasks n) ≡ Some r → suc n ≤ length tasks
    within [] n e = absurd (cc)
    within (t ∷ tasks) zero e = omega arith
    within (t ∷ tasks) (suc n) e = let h = within tasks n e in omega arith

not_some : (o : Option Ready) → ((r : Ready) → o ≡ Some r → ⊥) → o ≡ None
not_some None none = refl
not_some (Some r) none = absurd (none r refl)

-- past the last number no task is listed
pub past_last : (tasks : List (Option Ready)) (n : ℕ) → length tasks < n → task_at tasks n ≡ None
past_last tasks n past = not_some (task_at tasks n) (λ r e. let h = task_within tasks n r e in let le = h.1 in absurd (omega arith))

-- ---- tasks of one operation and one length

is_eq : (a b : ℕ) → (a == b) ≡ true → a ≡ b
is_eq a b e = grind (arith, nat_tests)

eq_is : (a b : ℕ) → a ≡ b → (a == b) ≡ true
eq_is a b e = grind (arith, nat_tests)

pub alike_op : (r s : Ready) → are_alike r s ≡ true → r.op ≡ s.op
alike_op r s e = is_eq r.op s.op (both (r.op == s.op) (r.bytes == s.bytes) e).0

pub alike_bytes : (r s : Ready) → are_alike r s ≡ true → r.bytes ≡ s.bytes
alike_bytes r s e = is_eq r.bytes s.bytes (both (r.op == s.op) (r.bytes == s.bytes) e).1

alike_of : (r s : Ready) → r.op ≡ s.op → r.bytes ≡ s.bytes → are_alike r s ≡ true
alike_of r s a b = and_true (r.op == s.op) (r.bytes == s.bytes) (eq_is r.op s.op a) (eq_is r.bytes s.bytes b)

pub alike_self : (r : Ready) → are_alike r r ≡ true
alike_self r = alike_of r r refl refl

pub alike_back : (r s : Ready) → are_alike r s ≡ true → are_alike s r ≡ true
alike_back r s e = alike_of s r (sym (alike_op r s e)) (sym (alike_bytes r s e))

pub alike_on : (r s t : Ready) → are_alike r s ≡ true → are_alike s t ≡ true → are_alike r t ≡ true
alike_on r s t a b = alike_of r t (alike_op r s a ∙ alike_op s t b) (alike_bytes r s a ∙ alike_bytes s t b)

pub not_both : (b : Bool) → b ≡ true → b ≡ false → ⊥
not_both b x y = absurd (cc)

-- ---- the front of a task

pub record Led (last : ℕ → ℕ) (n : ℕ) (r : Ready) (fronts : List Ready) : Type 0 where
  pub front : Ready
  pub stands : IsIn front fronts
  pub alike : are_alike front r ≡ true
  pub first : front.n ≤ n
  pub within : n ≤ last front.n

or_true : (a b : Bool) → (a || b) ≡ true → (a ≡ true) ⊎ (b ≡ true)
or_true true b e = inl refl
or_true false b e = inr e

left_true : (a b : Bool) → a ≡ true → (a || b) ≡ true
left_true true b e = refl
left_true false b e = absurd (cc)

right_true : (a b : Bool) → b ≡ true → (a || b) ≡ true
right_true true b e = refl
right_true false b e = e

pub led : (last : ℕ → ℕ) (n : ℕ) (r : Ready) (fs : List Ready) → is_led last n r fs ≡ true → Led last n r fs
led last n r [] e = absurd (cc)
led last n r (f ∷ fs) e = elim (or_true (leads last n r f) (is_led last n r fs) e) [
  | inl is ↦
      let a = both (are_alike f r) (nat_le f.n n && nat_le n (last f.n)) is in
      let b = both (nat_le f.n n) (nat_le n (last f.n)) a.1 in
      record { front = f; stands = (0, refl); alike = a.0; first = is_le f.n n b.0; within = is_le n (last f.n) b.1 }
  | inr later ↦
      let h = led last n r fs later in
      record { front = h.front; stands = (suc h.stands.0, h.stands.1); alike = h.alike; first = h.first; within = h.within }
]

led_at : (last : ℕ → ℕ) (n : ℕ) (r : Ready) (fs : List Ready) (f : Ready) (i : ℕ) → slice_get fs i ≡ Some f → are_alike f r ≡ true → f.n ≤ n → n ≤ last f.n → is_led last n r fs ≡ true
led_at last n r [] f i at alike first within = absurd (cc)
led_at last n r (g ∷ fs) f zero at alike first within =
    let same : f ≡ g = cc in
    let leading : leads last n r f ≡ true = and_true (are_alike f r) (nat_le f.n n && nat_le n (last f.n)) alike (and_true (nat_le f.n n) (nat_le n (last f.n)) (le_is f.n n first) (le_is n (last f.n) within)) in
    left_true (leads last n r g) (is_led last n r fs) (ap (leads last n r) (sym same) ∙ leading)
led_at last n r (g ∷ fs) f (suc i) at alike first within = right_true (leads last n r g) (is_led last n r fs) (led_at last n r fs f i at alike first within)

pub led_of : (last : ℕ → ℕ) (n : ℕ) (r : Ready) (fs : List Ready) → Led last n r fs → is_led last n r fs ≡ true
led_of last n r fs l = led_at last n r fs l.front l.stands.0 l.stands.1 l.alike l.first l.within

-- the fronts stand for all listed tasks
pub stand_for : (size : ℕ) (task : ℕ → Option Ready) (last : ℕ → ℕ) (fs : List Ready) → AreFronts size task last fs → StandForAll task fs
stand_for size task last fs are = record {
  listed = λ i f at. are.listed f (i, at);
  first = λ n r at. first n r (led last n r fs (are.led n r at));
}
  where
    first : (n : ℕ) (r : Ready) → Led last n r fs → HasFront fs n r
    first n r l = record {
      place = l.stands.0;
      front = l.front;
      stands = l.stands.1;
      op = alike_op l.front r l.alike;
      bytes = alike_bytes l.front r l.alike;
      first = l.first;
    }

-- ---- whether a number stands among the fronts

pub standing : (n : ℕ) (fs : List Ready) → stands_in n fs ≡ true → (f : Ready) × IsIn f fs × (f.n ≡ n)
standing n [] e = absurd (cc)
standing n (f ∷ fs) e = elim (or_true (f.n == n) (stands_in n fs) e) [
  | inl is ↦ (f, (0, refl), is_eq f.n n is)
  | inr later ↦ let h = standing n fs later in (h.0, (suc h.1.0, h.1.1), h.2)
]

pub not_standing : (n : ℕ) (fs : List Ready) (f : Ready) (i : ℕ) → stands_in n fs ≡ false → slice_get fs i ≡ Some f → f.n ≢ n
not_standing n [] f i e at same = absurd (cc)
not_standing n (g ∷ fs) f zero e at same =
    let is : g ≡ f = cc in
    let yes : (g.n == n) ≡ true = eq_is g.n n (ap (λ (x : Ready). x.n) is ∙ same) in
    not_both (stands_in n (g ∷ fs)) (left_true (g.n == n) (stands_in n fs) yes) e
not_standing n (g ∷ fs) f (suc i) e at same = not_standing n fs f i (rest (g.n == n) (stands_in n fs) e) at same
  where
    rest : (a b : Bool) → (a || b) ≡ false → b ≡ false
    rest true b e = absurd (cc)
    rest false b e = e
