-- Which task may be placed next.
use Rattle.std.proofs.Common.{◌≡◌, ℕ, zero, suc, ◌+◌, ◌*◌, ◌<◌, ◌≤◌, ◌⊎◌, inl, inr, cond, eqb, max, List, [], ◌∷◌, length, get_or, arith, refl, ap}
use Rattle.std.proofs.lemmas.Bool.{cases_lt}
use Rattle.std.proofs.lemmas.Bool.Decides.{nat_tests}
use Rattle.gs_plan.specs.Sums.{total_of}
use Rattle.gs_plan.specs.Keys.{IsLeast, IsFirstWithin}
use Rattle.gs_plan.specs.Ties.{before_at, after_at, needed_at, waits_at, Ordered, AreTies}
use Rattle.gs_plan.specs.State.{time_at, open_pair, shut_at, late_at, AreWaiting, IsGate, IsHeld, HaveEnded, IsRun, HasPlaced, IsNext}
use Rattle.gs_plan.specs.declared.ties.Ties.{Ties}
use Rattle.gs_plan.proofs.Bound.{Rises}
use Rattle.gs_plan.proofs.Totals.{total_gap, total_some, total_none}
use Rattle.gs_plan.proofs.Waiting.{waiting_left, late_in, late_out, most_one, most_within, open_tells}

-- what stands between two steps of what waits
pub record IsStanding (n : ℕ) (t : Ties) (ends left ready keys : List ℕ) (reached met time : ℕ) : Type 0 where
  pub ties : AreTies t n
  pub waiting : AreWaiting n t.afters.items (time_at t.befores.items ends) (shut_at reached) (late_at t.needed.items t.waits.items ends reached) ends left ready keys
  pub gate : IsGate n t.needed.items t.waits.items ends reached met time
  pub held : IsHeld n t.needed.items t.waits.items ends reached met

open_gate : (reached j total left : ℕ) → left ≡ total + shut_at reached j → left ≡ 0 → j < reached
open_gate reached j total left is none = grind (arith, nat_tests)

shut_gate : (reached j : ℕ) → 0 < shut_at reached j → reached ≤ j
shut_gate reached j some = grind (arith, nat_tests)

shut_none : (reached j : ℕ) → j < reached → shut_at reached j ≡ 0
shut_none reached j l = grind (arith, nat_tests)

-- a need of a task that the gate hasn't reached isn't placed
held_need : (n : ℕ) (t : Ties) (ends left ready keys : List ℕ) (reached met time j : ℕ) → IsStanding n t ends left ready keys reached met time →
    j < n → reached ≤ j → (met < waits_at t j) × (get_or ends (needed_at t met) 0 ≡ 0) × (needed_at t met < j)
held_need n t ends left ready keys reached met time j s inside past =
    let (waits, none) = s.held (omega arith) in
    let rises = s.ties.rising reached j past inside in
    let low = s.ties.earlier reached met (omega arith) waits in
    (omega (arith, waits, rises), none, omega (arith, low))

-- what waits for nothing may start
pub ready_ended : (n : ℕ) (t : Ties) (ends left ready keys : List ℕ) (reached met time j u : ℕ) → IsStanding n t ends left ready keys reached met time →
    j < n → get_or left j 0 ≡ 0 → get_or ready j 0 ≤ u → HaveEnded (Ordered t) ends j u
ready_ended n t ends left ready keys reached met time j u s inside none soon i (inl (e, l, is, at)) = (
  elim (cases_lt 0 (get_or ends i 0)) [
    | inl done ↦ done
    | inr waits ↦
        let here : get_or ends (before_at t e) 0 ≡ 0 = omega (arith, ap (λ k. get_or ends k 0) is) in
        let some = waiting_left n t.afters.items (time_at t.befores.items ends) (shut_at reached) (late_at t.needed.items t.waits.items ends reached) ends left ready keys e s.waiting (omega (arith, s.ties.same)) (omega (arith, at)) here in
        absurd (omega (arith, some, ap (λ k. get_or left k 0) at))
  ],
  omega (arith, s.waiting.after_pairs e (omega (arith, s.ties.same)), ap (λ k. get_or ready k 0) at, ap (λ k. get_or ends k 0) is),
)
ready_ended n t ends left ready keys reached met time j u s inside none soon i (inr (x, l, is)) =
    let open_j = open_gate reached j _ (get_or left j 0) (s.waiting.left_is j inside) none in
    let within = s.gate.passed j open_j in
    let late = late_in t.needed.items t.waits.items ends reached j open_j in
    let one = most_one (λ y. get_or ends (needed_at t y) 0) (waits_at t j) x l in
    (omega (arith, s.gate.all_met x (omega arith), ap (λ k. get_or ends k 0) is), omega (arith, one, late, s.waiting.after_needs j inside, ap (λ k. get_or ends k 0) is))

-- what may start waits for nothing
pub ended_ready : (n : ℕ) (t : Ties) (ends left ready keys : List ℕ) (reached met time j u : ℕ) → IsStanding n t ends left ready keys reached met time →
    j < n → HaveEnded (Ordered t) ends j u → (get_or left j 0 ≡ 0) × (get_or ready j 0 ≤ u)
ended_ready n t ends left ready keys reached met time j u s inside all =
    let pair = λ (e : ℕ) (l : e < length t.afters.items) (is : after_at t e ≡ j). all (before_at t e) (inl (e, omega (arith, s.ties.same), refl, is)) in
    let open_j : j < reached = elim (cases_lt j reached) [
      | inl l ↦ l
      | inr past ↦
          let (waits, none, low) = held_need n t ends left ready keys reached met time j s inside past in
          absurd (omega (arith, (all (needed_at t met) (inr (met, waits, refl))).0))
    ] in
    let pairs : total_of (λ e. open_pair t.afters.items (time_at t.befores.items ends) j e) (length t.afters.items) ≡ 0 = total_none (λ e. open_pair t.afters.items (time_at t.befores.items ends) j e) (length t.afters.items)
    (λ e l. elim (cases_lt 0 (open_pair t.afters.items (time_at t.befores.items ends) j e)) [
      | inr zero_pair ↦ omega arith
      | inl some ↦ let (is, none) = open_tells (after_at t e) j (get_or ends (before_at t e) 0) some in absurd (omega (arith, (pair e l is).0))
    ]) in (
      omega (arith, s.waiting.left_is j inside, pairs, shut_none reached j open_j),
      s.waiting.at_last j u inside (λ e l is. (pair e l is).1)
          (omega (arith, late_in t.needed.items t.waits.items ends reached j open_j, most_within (λ y. get_or ends (needed_at t y) 0) (waits_at t j) u (λ x l. (all (needed_at t x) (inr (x, l, refl))).1))),
    )

-- while some task is not placed, one may be placed
available : (n : ℕ) (t : Ties) (ends left ready keys : List ℕ) (reached met time fuel j : ℕ) → IsStanding n t ends left ready keys reached met time →
    j < fuel → j < n → get_or ends j 0 ≡ 0 → (k : ℕ) × (k < n) × (get_or ends k 0 ≡ 0) × (get_or left k 0 ≡ 0)
available n t ends left ready keys reached met time zero j s below inside none = absurd (omega arith)
available n t ends left ready keys reached met time (suc fuel) j s below inside none =
    elim (cases_lt 0 (total_of (λ e. open_pair t.afters.items (time_at t.befores.items ends) j e) (length t.afters.items))) [
      | inl some ↦
          let (e, m, counted) = total_some (λ e. open_pair t.afters.items (time_at t.befores.items ends) j e) (length t.afters.items) some in
          let (is, waiting) = open_tells (after_at t e) j (get_or ends (before_at t e) 0) counted in
          let pair = s.ties.pairs e (omega (arith, s.ties.same)) in
          available n t ends left ready keys reached met time fuel (before_at t e) s (omega (arith, pair.0)) (omega (arith, pair.0)) waiting
      | inr no_pair ↦ elim (cases_lt j reached) [
        | inl open_j ↦ (j, inside, none, omega (arith, s.waiting.left_is j inside, shut_none reached j open_j))
        | inr past ↦
            let (waits, waiting, low) = held_need n t ends left ready keys reached met time j s inside past in
            available n t ends left ready keys reached met time fuel (needed_at t met) s (omega arith) (omega arith) waiting
      ]
    ]

count_tells : (v : ℕ) → ◌≡◌ {A = ℕ} (cond (eqb v 0) 0 1) 0 → v ≡ 0
count_tells v h = grind (arith, nat_tests)

pub next_is : (m : ℕ) (longs : List ℕ) (t : Ties) (starts ends slots free left ready keys : List ℕ) (clock reached met gate soonest first_free time task slot step : ℕ) →
    length longs ≤ 10000 → 0 < m → m ≤ 1024 → step < length longs →
    IsRun m longs (Ordered t) starts ends slots free clock → IsStanding (length longs) t ends left ready keys reached met gate → HasPlaced (length longs) m ends free clock step →
    IsLeast keys soonest → IsLeast free first_free →
    clock ≤ time → soonest ≤ time → first_free ≤ time → (time ≡ clock) ⊎ ((time ≡ soonest) ⊎ (time ≡ first_free)) →
    IsFirstWithin keys time task → IsFirstWithin free time slot →
    IsNext m longs (Ordered t) starts ends slots free left clock time task slot step
next_is m longs t starts ends slots free left ready keys clock reached met gate soonest first_free time task slot step few some room more run s p least first later soon freed which found lane =
    let w = s.waiting in
    let k = w.keyed in
    let (g, gl, gap) = total_gap (λ i. cond (eqb (get_or ends i 0) 0) 0 1) (length longs) (omega (arith, p.placed)) in
    let (a, al, aopen, aleft) = available (length longs) t ends left ready keys reached met gate (suc g) g s (omega arith) gl (count_tells (get_or ends g 0) gap) in
    let akey = k.ready_key a al aopen aleft in
    let aready = w.at_last a (1000000 * step) al (λ e l is. p.ends_within (before_at t e) (omega (arith, s.ties.pairs e (omega (arith, s.ties.same)))))
    (elim (cases_lt a reached) [
      | inr past ↦ omega (arith, late_out t.needed.items t.waits.items ends reached a past)
      | inl open_a ↦ omega (
        arith,
        late_in t.needed.items t.waits.items ends reached a open_a,
        most_within (λ y. get_or ends (needed_at t y) 0) (waits_at t a) (1000000 * step) (λ x l. p.ends_within (needed_at t x) (omega (arith, s.ties.earlier a x al l))),
      )
    ]) in
    let bound : time ≤ 1000000 * step = elim which [
      | inl same ↦ omega (arith, p.clock_within)
      | inr (inl tasks) ↦ omega (arith, akey, aready, least.least a (omega (arith, k.keys_each)))
      | inr (inr lanes) ↦ omega (arith, first.least 0 (omega (arith, run.free_each)), p.free_within 0 some)
    ] in
    let room_task : task < 16384 = omega (arith, found.inside, k.keys_each) in
    let task_in : task < length longs = elim (cases_lt task (length longs)) [ inl l ↦ l | inr past ↦ absurd (omega (arith, k.outside task past room_task, found.within)) ] in
    let task_open : get_or ends task 0 ≡ 0 = elim (cases_lt 0 (get_or ends task 0)) [ inl placed ↦ absurd (omega (arith, (k.placed task task_in placed).1, found.within)) | inr none ↦ omega arith ] in
    let task_ready : get_or left task 0 ≡ 0 = elim (cases_lt 0 (get_or left task 0)) [ inl waits ↦ absurd (omega (arith, k.open_key task task_in task_open waits, found.within)) | inr none ↦ omega arith ] in
    let task_key = k.ready_key task task_in task_open task_ready in
    record {
      later = later;
      task_in = task_in;
      task_open = task_open;
      task_ready = task_ready;
      slot_in = elim (cases_lt slot m) [ inl l ↦ l | inr past ↦ absurd (omega (arith, run.no_slot slot past (omega (arith, lane.inside, run.free_each)), lane.within)) ];
      slot_free = lane.within;
      ended = ready_ended (length longs) t ends left ready keys reached met gate task time s task_in task_ready (omega (arith, task_key, found.within));
      tight = λ j u after before inside is_open all c on.
          let (none, ready_by) = ended_ready (length longs) t ends left ready keys reached met gate j u s inside all in
          let key_is = k.ready_key j inside is_open none in
          let root = least.least j (omega (arith, k.keys_each)) in
          let slot_root = first.least c (omega (arith, run.free_each)) in
          let by_slots : time ≡ first_free = elim which [
            | inl same ↦ absurd (omega arith)
            | inr (inl tasks) ↦ absurd (omega (arith, key_is, ready_by, root))
            | inr (inr lanes) ↦ lanes
          ] in
          elim (run.last_on c on) [
            | inl zero_key ↦ absurd (omega (arith, by_slots, slot_root))
            | inr (q, ql, on_slot, end, start) ↦ (q, ql, on_slot, omega arith, omega (arith, by_slots, slot_root, end))
          ];
      first_task = λ j low none all.
          let inside : j < length longs = omega arith in
          let (waits, ready_by) = ended_ready (length longs) t ends left ready keys reached met gate j time s inside all in
          omega (arith, k.ready_key j inside none waits, ready_by, found.before j low);
      first_slot = λ c low. lane.before c low;
      time_within = bound;
    }

pub latest_of : (a b c : ℕ) → (max (max a b) c ≡ a) ⊎ ((max (max a b) c ≡ b) ⊎ (max (max a b) c ≡ c))
latest_of a b c = elim (cases_lt (max a b) c) [
  | inl below ↦ inr (inr (omega arith))
  | inr above ↦ elim (cases_lt a b) [
    | inl less ↦ inr (inl (omega arith))
    | inr more ↦ inl (omega arith)
  ]
]

pub past_end : (xs : List ℕ) (i : ℕ) → length xs ≤ i → get_or xs i 0 ≡ 0
past_end [] i l = refl
past_end (x ∷ xs) zero l = absurd (omega arith)
past_end (x ∷ xs) (suc i) l = past_end xs i (omega arith)

-- a task follows only earlier ones, and only tasks follow
pub ties_rise : (t : Ties) (n : ℕ) → AreTies t n → Rises (Ordered t) n
ties_rise t n ties = record {
  less = λ i j is. elim is [
    | inl (e, l, a, b) ↦ omega (arith, (ties.pairs e l).0, a, b)
    | inr (x, l, a) ↦ omega (arith, a, ties.earlier j x (waits_inside t n j x ties l) l)
  ];
  inside = λ i j is. elim is [
    | inl (e, l, a, b) ↦ omega (arith, (ties.pairs e l).1, b)
    | inr (x, l, a) ↦ waits_inside t n j x ties l
  ];
}
  where
    waits_inside : (t : Ties) (n j x : ℕ) → AreTies t n → x < waits_at t j → j < n
    waits_inside t n j x ties l = elim (cases_lt j n) [
      | inl inside ↦ inside
      | inr past ↦ absurd (omega (arith, past_end t.waits.items j (omega (arith, ties.each))))
    ]
