-- What is known of the tasks that wait, as they are told.
use Rattle.std.proofs.Common.{◌≡◌, ℕ, zero, suc, ◌+◌, ◌<◌, ◌≤◌, ◌≢◌, ◌⊎◌, inl, inr, cond, eqb, ltb, ◌&&◌, List, [], ◌∷◌, length, get_or, Option, Some, arith, refl, ap, sym, ◌∙◌}
use Rattle.std.proofs.lemmas.Bool.{cases_lt}
use Rattle.std.proofs.lemmas.Bool.Decides.{nat_tests, eqb_tells}
use Rattle.gs_plan.specs.Sums.{total_of, most_of}
use Rattle.gs_plan.specs.Ties.{past, link_at, IsIndex}
use Rattle.gs_plan.specs.State.{time_at, time_from, open_pair, shut_at, last_need, late_at, AreKeys, AreWaiting, IsGate, IsTold}
use Rattle.gs_plan.proofs.Totals.{total_same, total_less, total_one_of}

-- ---- tests

open_at : (a j t : ℕ) → a ≡ j → t ≡ 0 → ◌≡◌ {A = ℕ} (cond (eqb a j) (cond (eqb t 0) 1 0) 0) 1
open_at a j t is none = grind (arith, nat_tests)

open_other : (a j t : ℕ) → a ≢ j → ◌≡◌ {A = ℕ} (cond (eqb a j) (cond (eqb t 0) 1 0) 0) 0
open_other a j t is = grind (arith, nat_tests)

open_done : (a j t : ℕ) → 0 < t → ◌≡◌ {A = ℕ} (cond (eqb a j) (cond (eqb t 0) 1 0) 0) 0
open_done a j t some = grind (arith, nat_tests)

pub open_tells : (a j t : ℕ) → 0 < cond (eqb a j) (cond (eqb t 0) 1 0) 0 → (a ≡ j) × (t ≡ 0)
open_tells a j t some =
    elim (eqb_tells a j) [
      | inr ne ↦ absurd (omega (arith, open_other a j t ne.1))
      | inl is ↦ elim (cases_lt 0 t) [
        | inl done ↦ absurd (omega (arith, open_done a j t done))
        | inr none ↦ (is.1, omega arith)
      ]
    ]

pub from_in : (b task e place v : ℕ) → b ≡ task → e < place → cond (eqb b task && ltb e place) 0 v ≡ 0
from_in b task e place v is l = grind (arith, nat_tests)

pub from_past : (b task e place v : ℕ) → place ≤ e → cond (eqb b task && ltb e place) 0 v ≡ v
from_past b task e place v l = grind (arith, nat_tests)

pub from_other : (b task e place v : ℕ) → b ≢ task → cond (eqb b task && ltb e place) 0 v ≡ v
from_other b task e place v l = grind (arith, nat_tests)

-- ---- the gate

shut_in : (reached j : ℕ) → j < reached → shut_at reached j ≡ 0
shut_in reached j l = grind (arith, nat_tests)

shut_out : (reached j : ℕ) → reached ≤ j → shut_at reached j ≡ 1
shut_out reached j l = grind (arith, nat_tests)

shut_other : (reached j : ℕ) → j ≢ reached → shut_at (reached + 1) j ≡ shut_at reached j
shut_other reached j ne = grind (arith, nat_tests)

cond_in : (reached j v : ℕ) → j < reached → ◌≡◌ {A = ℕ} (cond (ltb j reached) v 0) v
cond_in reached j v l = grind (arith, nat_tests)

cond_out : (reached j v : ℕ) → reached ≤ j → ◌≡◌ {A = ℕ} (cond (ltb j reached) v 0) 0
cond_out reached j v l = grind (arith, nat_tests)

pub late_in : (ns ws ends : List ℕ) (reached j : ℕ) → j < reached → late_at ns ws ends reached j ≡ last_need ns ends (get_or ws j 0)
late_in ns ws ends reached j l = cond_in reached j (last_need ns ends (get_or ws j 0)) l

pub late_out : (ns ws ends : List ℕ) (reached j : ℕ) → reached ≤ j → late_at ns ws ends reached j ≡ 0
late_out ns ws ends reached j l = cond_out reached j (last_need ns ends (get_or ws j 0)) l

late_other : (ns ws ends : List ℕ) (reached j : ℕ) → j ≢ reached → late_at ns ws ends (reached + 1) j ≡ late_at ns ws ends reached j
late_other ns ws ends reached j ne = elim (cases_lt j reached) [
  | inl l ↦ late_in ns ws ends (reached + 1) j (omega arith) ∙ sym (late_in ns ws ends reached j l)
  | inr r ↦ late_out ns ws ends (reached + 1) j (omega arith) ∙ sym (late_out ns ws ends reached j r)
]

pub most_same : (f g : ℕ → ℕ) (n : ℕ) → ((k : ℕ) → k < n → f k ≡ g k) → most_of f n ≡ most_of g n
most_same f g zero e = refl
most_same f g (suc n) e = omega (arith, e n (omega arith), most_same f g n (λ k l. e k (omega arith)))

pub most_one : (f : ℕ → ℕ) (n k : ℕ) → k < n → f k ≤ most_of f n
most_one f zero k l = absurd (omega arith)
most_one f (suc n) k l = elim (eqb_tells k n) [
  | inl same ↦ omega (arith, ap f same.1)
  | inr other ↦ let there : k < n = omega (arith, other.1) in omega (arith, most_one f n k there)
]

pub most_within : (f : ℕ → ℕ) (n t : ℕ) → ((k : ℕ) → k < n → f k ≤ t) → most_of f n ≤ t
most_within f zero t e = omega arith
most_within f (suc n) t e = omega (arith, e n (omega arith), most_within f n t (λ k l. e k (omega arith)))

-- ---- telling

-- the same times say the same
pub waiting_same : (n : ℕ) (fs : List ℕ) (t u shut late late' : ℕ → ℕ) (ends left ready keys : List ℕ) →
    ((e : ℕ) → e < length fs → u e ≡ t e) → ((j : ℕ) → j < n → late' j ≡ late j) → AreWaiting n fs t shut late ends left ready keys → AreWaiting n fs u shut late' ends left ready keys
waiting_same n fs t u shut late late' ends left ready keys same lates w = record {
  keyed = w.keyed;
  left_is = λ j l. w.left_is j l ∙ ap (λ v. v + shut j) (total_same (λ e. open_pair fs t j e) (λ e. open_pair fs u j e) (length fs)
      (λ e m. ap (λ v. cond (eqb (get_or fs e 0) j) (cond (eqb v 0) 1 0) 0) (sym (same e m))));
  after_pairs = λ e l. omega (arith, same e l, w.after_pairs e l);
  after_needs = λ j l. omega (arith, lates j l, w.after_needs j l);
  at_last = λ j v l all need. w.at_last j v l (λ e m is. omega (arith, same e m, all e m is)) (omega (arith, lates j l));
}

-- an open pair is counted
pub waiting_left : (n : ℕ) (fs : List ℕ) (t shut late : ℕ → ℕ) (ends left ready keys : List ℕ) (f : ℕ) →
    AreWaiting n fs t shut late ends left ready keys → f < length fs → get_or fs f 0 < n → t f ≡ 0 → 0 < get_or left (get_or fs f 0) 0
waiting_left n fs t shut late ends left ready keys f w l inside none =
    omega (
      arith,
      w.left_is (get_or fs f 0) inside,
      open_at (get_or fs f 0) (get_or fs f 0) (t f) refl none,
      total_one_of (λ e. open_pair fs t (get_or fs f 0) e) (length fs) f l,
    )

keys_told : (n : ℕ) (ends left ready keys left' ready' keys' : List ℕ) (j v : ℕ) → AreKeys n ends left ready keys → j < n → n ≤ 16384 →
    IsTold j v left ready keys left' ready' keys' → AreKeys n ends left' ready' keys'
keys_told n ends left ready keys left' ready' keys' j v w inside room told = record {
  keys_each = told.keys_each ∙ w.keys_each;
  left_each = told.left_each ∙ w.left_each;
  ready_each = told.ready_each ∙ w.ready_each;
  placed = λ k m placed. elim (eqb_tells k j) [
    | inl at ↦ absurd (let h : get_or left k 0 ≡ 0 = (w.placed k m placed).0 in omega (arith, ap (λ i. get_or left i 0) at.1, told.less))
    | inr ne ↦ let h = w.placed k m placed in (told.lefts k ne.1 ∙ h.0, told.other_keys k ne.1 ∙ h.1)
  ];
  open_key = λ k m is_open waits. elim (eqb_tells k j) [
    | inl at ↦ let e = at.1 in
        let here : 0 < get_or left' j 0 = omega (arith, ap (λ i. get_or left' i 0) e) in
        ap (λ i. get_or keys' i 0) e ∙ told.kept_key here ∙ sym (ap (λ i. get_or keys i 0) e) ∙ w.open_key k m is_open (omega (arith, told.less, ap (λ i. get_or left i 0) e))
    | inr ne ↦ told.other_keys k ne.1 ∙ w.open_key k m is_open (omega (arith, told.lefts k ne.1))
  ];
  ready_key = λ k m is_open waits. elim (eqb_tells k j) [
    | inl at ↦ let e = at.1 in
        let here : get_or left' j 0 ≡ 0 = omega (arith, ap (λ i. get_or left' i 0) e) in
        ap (λ i. get_or keys' i 0) e ∙ told.new_key here ∙ sym (ap (λ i. get_or ready' i 0) e)
    | inr ne ↦ told.other_keys k ne.1 ∙ w.ready_key k m is_open (omega (arith, told.lefts k ne.1)) ∙ sym (told.readies k ne.1)
  ];
  outside = λ k m b. told.other_keys k (omega arith) ∙ w.outside k m b;
}

-- the pair f is told that the task it depends on ends at v
waiting_step : (n : ℕ) (fs : List ℕ) (t u shut late : ℕ → ℕ) (ends left ready keys left' ready' keys' : List ℕ) (f j v : ℕ) →
    AreWaiting n fs t shut late ends left ready keys →
    f < length fs → get_or fs f 0 ≡ j → j < n → n ≤ 16384 → t f ≡ 0 → u f ≡ v → 0 < v → ((e : ℕ) → e < length fs → e ≢ f → u e ≡ t e) →
    IsTold j v left ready keys left' ready' keys' →
    AreWaiting n fs u shut late ends left' ready' keys'
waiting_step n fs t u shut late ends left ready keys left' ready' keys' f j v w l is inside room none given some same told = record {
  keyed = keys_told n ends left ready keys left' ready' keys' j v w.keyed inside room told;
  left_is = λ k m. elim (eqb_tells k j) [
    | inl at ↦ omega (
      arith,
      ap (λ i. get_or left' i 0) at.1,
      told.less,
      w.left_is j inside,
      ap (λ i. total_of (λ e. open_pair fs u i e) (length fs)) at.1,
      ap shut at.1,
      total_less (λ e. open_pair fs t j e) (λ e. open_pair fs u j e) (length fs) f l
          (omega (arith, open_at (get_or fs f 0) j (t f) is none, open_done (get_or fs f 0) j (u f) (omega arith)))
          (λ e b ne. ap (λ x. cond (eqb (get_or fs e 0) j) (cond (eqb x 0) 1 0) 0) (sym (same e b ne))),
    )
    | inr ne ↦ told.lefts k ne.1 ∙ w.left_is k m ∙ ap (λ x. x + shut k) (total_same (λ e. open_pair fs t k e) (λ e. open_pair fs u k e) (length fs)
        (λ e b. elim (eqb_tells e f) [
          | inl here ↦ let other : get_or fs e 0 ≢ k = λ h. ne.1 (sym h ∙ ap (λ i. get_or fs i 0) here.1 ∙ is) in
              open_other (get_or fs e 0) k (t e) other ∙ sym (open_other (get_or fs e 0) k (u e) other)
          | inr apart ↦ ap (λ x. cond (eqb (get_or fs e 0) k) (cond (eqb x 0) 1 0) 0) (sym (same e b apart.1))
        ]))
  ];
  after_pairs = λ e b. elim (eqb_tells e f) [
    | inl here ↦ omega (arith, ap u here.1, given, told.more, ap (λ i. get_or ready' (get_or fs i 0) 0) here.1, ap (λ i. get_or ready' i 0) is)
    | inr apart ↦ elim (eqb_tells (get_or fs e 0) j) [
      | inl at ↦ omega (arith, same e b apart.1, w.after_pairs e b, ap (λ i. get_or ready i 0) at.1, ap (λ i. get_or ready' i 0) at.1, told.kept)
      | inr ne ↦ omega (arith, same e b apart.1, w.after_pairs e b, told.readies (get_or fs e 0) ne.1)
    ]
  ];
  after_needs = λ k m. elim (eqb_tells k j) [
    | inl at ↦ omega (arith, w.after_needs k m, ap (λ i. get_or ready i 0) at.1, ap (λ i. get_or ready' i 0) at.1, told.kept)
    | inr ne ↦ omega (arith, w.after_needs k m, told.readies k ne.1)
  ];
  at_last = λ k x m all need. elim (eqb_tells k j) [
    | inr ne ↦ omega (
      arith,
      told.readies k ne.1,
      w.at_last k x m (λ e b named. elim (eqb_tells e f) [
        | inl here ↦ absurd (ne.1 (sym named ∙ ap (λ i. get_or fs i 0) here.1 ∙ is))
        | inr apart ↦ omega (arith, same e b apart.1, all e b named)
      ]) need,
    )
    | inl at ↦ elim told.one [
      | inl new ↦ omega (arith, ap (λ i. get_or ready' i 0) at.1, new, given, all f l (is ∙ sym at.1))
      | inr old ↦ omega (
        arith,
        ap (λ i. get_or ready' i 0) at.1,
        ap (λ i. get_or ready i 0) at.1,
        old,
        w.at_last k x m (λ e b named. elim (eqb_tells e f) [
          | inl here ↦ omega (arith, ap t here.1, none)
          | inr apart ↦ omega (arith, same e b apart.1, all e b named)
        ]) need,
      )
    ]
  ];
}

-- the task that the gate comes to is told the last end of its needs
pub waiting_pass : (n : ℕ) (fs ns ws : List ℕ) (t : ℕ → ℕ) (ends left ready keys left' ready' keys' : List ℕ) (j v : ℕ) →
    AreWaiting n fs t (shut_at j) (late_at ns ws ends j) ends left ready keys → j < n → n ≤ 16384 → v ≡ last_need ns ends (get_or ws j 0) →
    IsTold j v left ready keys left' ready' keys' →
    AreWaiting n fs t (shut_at (j + 1)) (late_at ns ws ends (j + 1)) ends left' ready' keys'
waiting_pass n fs ns ws t ends left ready keys left' ready' keys' j v w inside room given told =
    let now = late_in ns ws ends (j + 1) j (omega arith) in
    record {
      keyed = keys_told n ends left ready keys left' ready' keys' j v w.keyed inside room told;
      left_is = λ k m. elim (eqb_tells k j) [
        | inl at ↦ omega (
          arith,
          ap (λ i. get_or left' i 0) at.1,
          told.less,
          w.left_is j inside,
          ap (λ i. total_of (λ e. open_pair fs t i e) (length fs)) at.1,
          ap (λ i. shut_at (j + 1) i) at.1,
          shut_in (j + 1) j (omega arith),
          shut_out j j (omega arith),
        )
        | inr ne ↦ told.lefts k ne.1 ∙ w.left_is k m ∙ ap (λ x. total_of (λ e. open_pair fs t k e) (length fs) + x) (sym (shut_other j k ne.1))
      ];
      after_pairs = λ e b. elim (eqb_tells (get_or fs e 0) j) [
        | inl at ↦ omega (arith, w.after_pairs e b, ap (λ i. get_or ready i 0) at.1, ap (λ i. get_or ready' i 0) at.1, told.kept)
        | inr ne ↦ omega (arith, w.after_pairs e b, told.readies (get_or fs e 0) ne.1)
      ];
      after_needs = λ k m. elim (eqb_tells k j) [
        | inl at ↦ omega (arith, ap (λ i. late_at ns ws ends (j + 1) i) at.1, now, given, told.more, ap (λ i. get_or ready' i 0) at.1)
        | inr ne ↦ omega (arith, late_other ns ws ends j k ne.1, w.after_needs k m, told.readies k ne.1)
      ];
      at_last = λ k x m all need. elim (eqb_tells k j) [
        | inr ne ↦ omega (arith, told.readies k ne.1, w.at_last k x m all (omega (arith, late_other ns ws ends j k ne.1)))
        | inl at ↦ elim told.one [
          | inl new ↦ omega (arith, ap (λ i. get_or ready' i 0) at.1, new, given, now, ap (λ i. late_at ns ws ends (j + 1) i) at.1)
          | inr old ↦ omega (
            arith,
            ap (λ i. get_or ready' i 0) at.1,
            ap (λ i. get_or ready i 0) at.1,
            old,
            w.at_last k x m all (omega (arith, late_out ns ws ends j j (omega arith), ap (λ i. late_at ns ws ends j i) at.1)),
          )
        ]
      ];
    }

-- a task that the gate hasn't reached waits
pub pass_left : (n : ℕ) (fs ns ws : List ℕ) (t : ℕ → ℕ) (ends left ready keys : List ℕ) (j : ℕ) →
    AreWaiting n fs t (shut_at j) (late_at ns ws ends j) ends left ready keys → j < n → 0 < get_or left j 0
pass_left n fs ns ws t ends left ready keys j w inside = omega (arith, w.left_is j inside, shut_out j j (omega arith))

-- ---- the pairs of one task

pub release_begins : (n : ℕ) (bs fs : List ℕ) (hs ls : List (Option ℕ)) (shut late : ℕ → ℕ) (ends left ready keys : List ℕ) (task head : ℕ) → length bs ≡ length fs → IsIndex bs n (length bs) hs ls →
    head ≡ link_at hs task → AreWaiting n fs (time_from bs ends task (length bs)) shut late ends left ready keys → AreWaiting n fs (time_from bs ends task head) shut late ends left ready keys
release_begins n bs fs hs ls shut late ends left ready keys task head long index is w =
    waiting_same n fs (time_from bs ends task (length bs)) (time_from bs ends task head) shut late late ends left ready keys
    (λ e l. let m : e < length bs = omega arith in elim (eqb_tells (get_or bs e 0) task) [
      | inl at ↦ let below : e < head = omega (arith, index.reached e m, ap (λ i. link_at hs i) at.1) in
          from_in (get_or bs e 0) task e head (get_or ends (get_or bs e 0) 0) at.1 below ∙ sym (from_in (get_or bs e 0) task e (length bs) (get_or ends (get_or bs e 0) 0) at.1 m)
      | inr ne ↦ from_other (get_or bs e 0) task e head (get_or ends (get_or bs e 0) 0) ne.1 ∙ sym (from_other (get_or bs e 0) task e (length bs) (get_or ends (get_or bs e 0) 0) ne.1)
    ]) (λ j l. refl) w

pub release_ends : (n : ℕ) (bs fs : List ℕ) (shut late : ℕ → ℕ) (ends left ready keys : List ℕ) (task edge : ℕ) → edge ≡ 0 →
    AreWaiting n fs (time_from bs ends task edge) shut late ends left ready keys → AreWaiting n fs (time_at bs ends) shut late ends left ready keys
release_ends n bs fs shut late ends left ready keys task edge none w =
    waiting_same n fs (time_from bs ends task edge) (time_at bs ends) shut late late ends left ready keys
    (λ e l. sym (from_past (get_or bs e 0) task e edge (get_or ends (get_or bs e 0) 0) (omega arith))) (λ j l. refl) w

pub link_falls : (n : ℕ) (bs : List ℕ) (hs ls : List (Option ℕ)) (f : ℕ) → IsIndex bs n (length bs) hs ls → f < length bs → link_at ls f ≤ f
link_falls n bs hs ls f index l = elim (index.link_is f l) [ inl none ↦ omega arith | inr (e, is, below, named) ↦ omega arith ]

pub release_next : (n : ℕ) (bs fs : List ℕ) (hs ls : List (Option ℕ)) (shut late : ℕ → ℕ) (ends left ready keys left' ready' keys' : List ℕ) (task f j v next : ℕ) →
    length bs ≡ length fs → n ≤ 16384 → IsIndex bs n (length bs) hs ls → f < length bs → get_or bs f 0 ≡ task →
    next ≡ link_at ls f → get_or ends task 0 ≡ v → 0 < v → get_or fs f 0 ≡ j → j < n →
    AreWaiting n fs (time_from bs ends task (f + 1)) shut late ends left ready keys →
    IsTold j v left ready keys left' ready' keys' →
    AreWaiting n fs (time_from bs ends task next) shut late ends left' ready' keys'
release_next n bs fs hs ls shut late ends left ready keys left' ready' keys' task f j v next long room index l named link end some after inside w told =
    let falls = link_falls n bs hs ls f index l in
    waiting_step n fs (time_from bs ends task (f + 1)) (time_from bs ends task next) shut late ends left ready keys left' ready' keys' f j v w (omega arith) after inside room
    (from_in (get_or bs f 0) task f (f + 1) (get_or ends (get_or bs f 0) 0) named (omega arith))
    (from_past (get_or bs f 0) task f next (get_or ends (get_or bs f 0) 0) (omega arith) ∙ ap (λ i. get_or ends i 0) named ∙ end)
    some
    (λ e m ne. elim (eqb_tells (get_or bs e 0) task) [
      | inr other ↦ from_other (get_or bs e 0) task e next (get_or ends (get_or bs e 0) 0) other.1 ∙ sym (from_other (get_or bs e 0) task e (f + 1) (get_or ends (get_or bs e 0) 0) other.1)
      | inl at ↦ elim (cases_lt e f) [
        | inl low ↦ let down : e < next = omega (arith, index.next e f low l (at.1 ∙ sym named)) in
            from_in (get_or bs e 0) task e next (get_or ends (get_or bs e 0) 0) at.1 down ∙ sym (from_in (get_or bs e 0) task e (f + 1) (get_or ends (get_or bs e 0) 0) at.1 (omega arith))
        | inr high ↦ from_past (get_or bs e 0) task e next (get_or ends (get_or bs e 0) 0) (omega arith) ∙ sym (from_past (get_or bs e 0) task e (f + 1) (get_or ends (get_or bs e 0) 0) (omega (arith, ne)))
      ]
    ])
    told

-- the count of the task that an open pair names is not 0
pub release_left : (n : ℕ) (bs fs : List ℕ) (shut late : ℕ → ℕ) (ends left ready keys : List ℕ) (task f j : ℕ) → length bs ≡ length fs → f < length bs → get_or bs f 0 ≡ task →
    get_or fs f 0 ≡ j → j < n → AreWaiting n fs (time_from bs ends task (f + 1)) shut late ends left ready keys → 0 < get_or left j 0
release_left n bs fs shut late ends left ready keys task f j long l named after inside w =
    omega (
      arith,
      ap (λ i. get_or left i 0) after,
      waiting_left n fs (time_from bs ends task (f + 1)) shut late ends left ready keys f w (omega arith) (omega arith)
          (from_in (get_or bs f 0) task f (f + 1) (get_or ends (get_or bs f 0) 0) named (omega arith)),
    )

-- the element at a place does not depend on the default
pub read_at : (xs : List ℕ) (i v : ℕ) → i < length xs → v ≡ get_or xs i v → v ≡ get_or xs i 0
read_at [] i v l is = absurd (omega arith)
read_at (x ∷ xs) zero v l is = is
read_at (x ∷ xs) (suc i) v l is = read_at xs i v (omega arith) is

-- ---- steps of the code

-- the pair that a link leads to
pub pair_here : (edge : Option ℕ) (e : ℕ) (bs : List ℕ) (task : ℕ) → edge ≡ Some e →
    (past edge ≡ 0) ⊎ ((f : ℕ) × (past edge ≡ f + 1) × (f < length bs) × (get_or bs f 0 ≡ task)) → (e < length bs) × (get_or bs e 0 ≡ task)
pair_here edge e bs task is (inl none) = let at : past edge ≡ e + 1 = ap past is in absurd (omega arith)
pair_here edge e bs task is (inr (f, at, l, named)) =
    let here : past edge ≡ e + 1 = ap past is in
    let same : f ≡ e = omega arith in
    (omega arith, sym (ap (λ i. get_or bs i 0) same) ∙ named)

-- a link leads to a pair of the same task, or ends
pub link_leads : (n : ℕ) (bs : List ℕ) (hs ls : List (Option ℕ)) (task f next : ℕ) → IsIndex bs n (length bs) hs ls → f < length bs → get_or bs f 0 ≡ task → next ≡ link_at ls f →
    (next ≡ 0) ⊎ ((e : ℕ) × (next ≡ e + 1) × (e < length bs) × (get_or bs e 0 ≡ task))
link_leads n bs hs ls task f next index l named is = elim (index.link_is f l) [
  | inl none ↦ inl (is ∙ none)
  | inr (e, v, below, name) ↦ inr (e, is ∙ v, omega arith, name ∙ named)
]

pub head_leads : (n : ℕ) (bs : List ℕ) (hs ls : List (Option ℕ)) (task head : ℕ) → IsIndex bs n (length bs) hs ls → task < n → head ≡ link_at hs task →
    (head ≡ 0) ⊎ ((e : ℕ) × (head ≡ e + 1) × (e < length bs) × (get_or bs e 0 ≡ task))
head_leads n bs hs ls task head index l is = elim (index.head_is task l) [
  | inl none ↦ inl (is ∙ none)
  | inr (e, v, below, name) ↦ inr (e, is ∙ v, below, name)
]

-- the gate has passed a task
pub gate_pass : (n : ℕ) (ns ws ends : List ℕ) (reached met time : ℕ) → IsGate n ns ws ends reached met time → reached < n → get_or ws reached 0 ≤ met → IsGate n ns ws ends (reached + 1) met time
gate_pass n ns ws ends reached met time g inside all = record {
  reached_in = omega arith;
  met_in = g.met_in;
  all_met = g.all_met;
  time_is = g.time_is;
  passed = λ j l. elim (cases_lt j reached) [
    | inl low ↦ g.passed j low
    | inr high ↦ let at : j ≡ reached = omega arith in omega (arith, ap (λ i. get_or ws i 0) at)
  ];
  ahead = λ j past_it l. g.ahead j (omega arith) l;
}
