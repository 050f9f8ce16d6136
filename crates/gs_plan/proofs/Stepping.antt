-- One task more is placed.
use Rattle.std.proofs.Common.{◌≡◌, ℕ, ◌+◌, ◌*◌, ◌<◌, ◌≤◌, ◌≢◌, inl, inr, cond, eqb, List, length, get_or, subst, arith, ap, sym, ◌∙◌}
use Rattle.std.proofs.lemmas.Bool.{cases_lt}
use Rattle.std.proofs.lemmas.Bool.Decides.{nat_tests, eqb_tells}
use Rattle.gs_plan.specs.Schedule.{end_of, MayStart, IsByRule}
use Rattle.gs_plan.specs.State.{time_at, time_from, shut_at, last_need, late_at, AreWaiting, IsGate, Puts, AreTakenSoFar, HaveEnded, IsTakenByThen, IsRun, HasPlaced, IsNext}
use Rattle.gs_plan.proofs.Bound.{Rises}
use Rattle.gs_plan.proofs.Totals.{total_less, total_whole}
use Rattle.gs_plan.proofs.Waiting.{waiting_same, from_in, from_other, most_same, late_in, late_out}

-- those at work stay at work
taken_stays : (m n : ℕ) (starts ends slots starts' ends' slots' : List ℕ) (task now v slot t : ℕ) → get_or ends task 0 ≡ 0 →
    Puts task now starts starts' → Puts task v ends ends' → Puts task slot slots slots' →
    AreTakenSoFar m n starts ends slots t → AreTakenSoFar m n starts' ends' slots' t
taken_stays m n starts ends slots starts' ends' slots' task now v slot t none ps pe pl full s l =
    let (k, inside, on, from, to) = full s l in
    elim (eqb_tells k task) [
      | inl at ↦ absurd (omega (arith, ap (λ i. get_or ends i 0) at.1))
      | inr ne ↦ (k, inside, pl.rest k ne.1 ∙ on, omega (arith, ps.rest k ne.1), omega (arith, pe.rest k ne.1))
    ]

-- what has ended before the new task ends, had before
had_ended : (R : ℕ → ℕ → Type 0) (ends ends' : List ℕ) (task v j t : ℕ) → Puts task v ends ends' → t < v → HaveEnded R ends' j t → HaveEnded R ends j t
had_ended R ends ends' task v j t pe soon all i is =
    let (some, by) = all i is in
    let other : i ≢ task = λ h. omega (arith, by, ap (λ k. get_or ends' k 0) h, pe.here) in
    (omega (arith, some, pe.rest i other), omega (arith, by, pe.rest i other))

placed_other : (ends ends' : List ℕ) (task v k : ℕ) → Puts task v ends ends' → get_or ends task 0 ≡ 0 → 0 < get_or ends k 0 → k ≢ task
placed_other ends ends' task v k pe none some h = omega (arith, some, ap (λ i. get_or ends i 0) h)

-- a slot that is taken stays taken
taken_before_stays : (n : ℕ) (starts ends slots starts' ends' slots' : List ℕ) (task now v slot j s : ℕ) → get_or ends task 0 ≡ 0 →
    Puts task now starts starts' → Puts task v ends ends' → Puts task slot slots slots' → j ≢ task →
    IsTakenByThen n starts ends slots j s → IsTakenByThen n starts' ends' slots' j s
taken_before_stays n starts ends slots starts' ends' slots' task now v slot j s none ps pe pl ne (k, kl, some, on, to, when) =
    let other = placed_other ends ends' task v k pe none some in (
      k,
      kl,
      omega (arith, some, pe.rest k other),
      pl.rest k other ∙ on,
      omega (arith, to, pe.rest k other, ps.rest j ne),
      elim when [
        | inl early ↦ inl (omega (arith, early, ps.rest k other, ps.rest j ne))
        | inr (now_is, less) ↦ inr (omega (arith, now_is, ps.rest k other, ps.rest j ne), less)
      ],
    )

-- as the new task starts, each slot below its own is taken
taken_now : (m : ℕ) (longs : List ℕ) (R : ℕ → ℕ → Type 0) (starts ends slots free left starts' ends' slots' : List ℕ) (from now task slot step v s : ℕ) →
    IsRun m longs R starts ends slots free from → IsNext m longs R starts ends slots free left from now task slot step →
    Puts task now starts starts' → Puts task v ends ends' → Puts task slot slots slots' → s < slot → IsTakenByThen (length longs) starts' ends' slots' task s
taken_now m longs R starts ends slots free left starts' ends' slots' from now task slot step v s run next ps pe pl low =
    let busy = next.first_slot s low in
    elim (run.last_on s (omega (arith, next.slot_in))) [
      | inl zero_key ↦ absurd (omega arith)
      | inr (k, kl, on, end, start) ↦
          let some : 0 < get_or ends k 0 = omega arith in
          let other = placed_other ends ends' task v k pe next.task_open some in
          let started : get_or starts k 0 ≤ now = omega (arith, next.later) in (
            k,
            kl,
            omega (arith, pe.rest k other),
            pl.rest k other ∙ on,
            omega (arith, pe.rest k other, ps.here),
            elim (cases_lt (get_or starts k 0) now) [
              | inl early ↦ inl (omega (arith, ps.rest k other, ps.here))
              | inr late ↦
                  let at : get_or starts k 0 ≡ now = omega arith in
                  elim (cases_lt k task) [
                    | inl less ↦ inr (omega (arith, ps.rest k other, ps.here), less)
                    | inr more ↦
                        let above : task < k = elim (eqb_tells k task) [ inl same ↦ absurd (other same.1) | inr ne ↦ omega (arith, ne.1) ] in
                        let placed = run.least_task k task kl some above (λ i is. let (a, b) = next.ended i is in (a, omega arith)) in
                        absurd (omega (arith, placed.0, next.task_open))
                  ]
            ],
          )
    ]

pub run_next : (m : ℕ) (longs : List ℕ) (R : ℕ → ℕ → Type 0) (starts ends slots free left starts' ends' slots' free' : List ℕ) (from now task slot step v : ℕ) →
    m ≤ 1024 →
    IsRun m longs R starts ends slots free from → IsNext m longs R starts ends slots free left from now task slot step →
    v ≡ now + get_or longs task 0 → 0 < get_or longs task 0 →
    Puts task now starts starts' → Puts task v ends ends' → Puts task slot slots slots' → Puts slot v free free' →
    IsRun m longs R starts' ends' slots' free' now
run_next m longs R starts ends slots free left starts' ends' slots' free' from now task slot step v most run next is some ps pe pl pf =
    let none = next.task_open in
    let slot_low = λ (j : ℕ) (l : j < length longs) (done : 0 < get_or ends j 0) (on : get_or slots j 0 ≡ slot).
    let low : get_or ends j 0 ≤ now = omega (arith, run.slot_free j l done, ap (λ i. get_or free i 0) on, next.slot_free) in low in
    record {
      starts_each = ps.whole ∙ run.starts_each;
      ends_each = pe.whole ∙ run.ends_each;
      slots_each = pl.whole ∙ run.slots_each;
      free_each = pf.whole ∙ run.free_each;
      end_is = λ j l done. elim (eqb_tells j task) [
        | inl at ↦ omega (arith, ap (λ i. get_or ends' i 0) at.1, ap (λ i. get_or starts' i 0) at.1, ap (λ i. get_or longs i 0) at.1, pe.here, ps.here)
        | inr ne ↦ omega (arith, pe.rest j ne.1, ps.rest j ne.1, run.end_is j l (omega (arith, pe.rest j ne.1)))
      ];
      start_is = λ j l done. elim (eqb_tells j task) [
        | inl at ↦ omega (arith, ap (λ i. get_or starts' i 0) at.1, ps.here)
        | inr ne ↦ omega (arith, ps.rest j ne.1, run.start_is j l (omega (arith, pe.rest j ne.1)), next.later)
      ];
      slot_is = λ j l done. elim (eqb_tells j task) [
        | inl at ↦ omega (arith, ap (λ i. get_or slots' i 0) at.1, pl.here, next.slot_in)
        | inr ne ↦ omega (arith, pl.rest j ne.1, run.slot_is j l (omega (arith, pe.rest j ne.1)))
      ];
      slot_free = λ j l done. elim (eqb_tells j task) [
        | inl at ↦ omega (arith, ap (λ i. get_or ends' i 0) at.1, pe.here, ap (λ i. get_or free' i 0) (ap (λ i. get_or slots' i 0) at.1 ∙ pl.here), pf.here)
        | inr ne ↦
            let before : 0 < get_or ends j 0 = omega (arith, pe.rest j ne.1) in
            let on_slot = ap (λ i. get_or free' i 0) (pl.rest j ne.1) in
            elim (eqb_tells (get_or slots j 0) slot) [
              | inl on ↦ omega (arith, on_slot, ap (λ i. get_or free' i 0) on.1, pf.here, slot_low j l before on.1, pe.rest j ne.1)
              | inr off ↦ omega (arith, on_slot, pf.rest (get_or slots j 0) off.1, run.slot_free j l before, pe.rest j ne.1)
            ]
      ];
      ordered = λ i j follows done. elim (eqb_tells j task) [
        | inl at ↦
            let old = next.ended i (let P : ℕ → Type 0 = λ k. R i k in subst P at.1 follows) in
            let other = placed_other ends ends' task v i pe none old.0 in
            (omega (arith, old.0, pe.rest i other), omega (arith, old.1, pe.rest i other, ap (λ k. get_or starts' k 0) at.1, ps.here))
        | inr ne ↦
            let old = run.ordered i j follows (omega (arith, pe.rest j ne.1)) in
            let other = placed_other ends ends' task v i pe none old.0 in
            (omega (arith, old.0, pe.rest i other), omega (arith, old.1, pe.rest i other, ps.rest j ne.1))
      ];
      apart = λ i j below l di dj same. elim (eqb_tells i task) [
        | inl at ↦ elim (eqb_tells j task) [
          | inl too ↦ absurd (omega (arith, at.1, too.1))
          | inr ne ↦ let on : get_or slots j 0 ≡ slot = sym (pl.rest j ne.1) ∙ sym same ∙ ap (λ k. get_or slots' k 0) at.1 ∙ pl.here in
              inr (omega (arith, pe.rest j ne.1, slot_low j l (omega (arith, pe.rest j ne.1)) on, ap (λ k. get_or starts' k 0) at.1, ps.here))
        ]
        | inr ne ↦ elim (eqb_tells j task) [
          | inl at ↦ let on : get_or slots i 0 ≡ slot = sym (pl.rest i ne.1) ∙ same ∙ ap (λ k. get_or slots' k 0) at.1 ∙ pl.here in
              inl (omega (arith, pe.rest i ne.1, slot_low i (omega arith) (omega (arith, pe.rest i ne.1)) on, ap (λ k. get_or starts' k 0) at.1, ps.here))
          | inr two ↦ elim (run.apart i j below l (omega (arith, pe.rest i ne.1)) (omega (arith, pe.rest j two.1)) (sym (pl.rest i ne.1) ∙ same ∙ pl.rest j two.1)) [
            | inl a ↦ inl (omega (arith, pe.rest i ne.1, ps.rest j two.1))
            | inr a ↦ inr (omega (arith, pe.rest j two.1, ps.rest i ne.1))
          ]
        ]
      ];
      last_on = λ s l. elim (eqb_tells s slot) [
        | inl at ↦ inr (task, next.task_in, pl.here ∙ sym at.1, pe.here ∙ sym (ap (λ i. get_or free' i 0) at.1 ∙ pf.here), omega (arith, ps.here))
        | inr ne ↦ elim (run.last_on s l) [
          | inl zero_key ↦ inl (pf.rest s ne.1 ∙ zero_key)
          | inr (k, kl, on, end, start) ↦ elim (eqb_tells k task) [
            | inl at ↦ inl (omega (arith, pf.rest s ne.1, ap (λ i. get_or ends i 0) at.1))
            | inr two ↦ inr (k, kl, pl.rest k two.1 ∙ on, omega (arith, pe.rest k two.1, pf.rest s ne.1), omega (arith, ps.rest k two.1, next.later))
          ]
        ]
      ];
      no_slot = λ s past room. pf.rest s (λ h. omega (arith, next.slot_in)) ∙ run.no_slot s past room;
      at_once = λ j t l before all.
          let old = had_ended R ends ends' task v j t pe (omega arith) all in
          elim (cases_lt t from) [
            | inl early ↦ elim (run.at_once j t l early old) [
              | inl (done, start) ↦
                  let ne = placed_other ends ends' task v j pe none done in
                  inl (omega (arith, pe.rest j ne), omega (arith, ps.rest j ne))
              | inr full ↦ inr (taken_stays m (length longs) starts ends slots starts' ends' slots' task now v slot t none ps pe pl full)
            ]
            | inr late ↦ elim (cases_lt 0 (get_or ends j 0)) [
              | inl done ↦
                  let ne = placed_other ends ends' task v j pe none done in
                  inl (omega (arith, pe.rest j ne), omega (arith, ps.rest j ne, run.start_is j l done))
              | inr zero_end ↦ inr (taken_stays m (length longs) starts ends slots starts' ends' slots' task now v slot t none ps pe pl (next.tight j t late before l (omega arith) old))
            ]
          ];
      least_task = λ j k l done less all. elim (eqb_tells j task) [
        | inl at ↦
            let now_is : get_or starts' j 0 ≡ now = ap (λ i. get_or starts' i 0) at.1 ∙ ps.here in
            let old = had_ended R ends ends' task v k (get_or starts' j 0) pe (omega arith) all in
            let ended : HaveEnded R ends k now = rw now_is at old in
            elim (cases_lt 0 (get_or ends k 0)) [
              | inr waits ↦ absurd (next.first_task k (omega (arith, at.1)) (omega arith) ended)
              | inl placed ↦
                  let ne = placed_other ends ends' task v k pe none placed in
                  (omega (arith, pe.rest k ne), omega (arith, ps.rest k ne, run.start_is k (omega arith) placed, next.later, now_is))
            ]
        | inr ne ↦
            let here : 0 < get_or ends j 0 = omega (arith, pe.rest j ne.1) in
            let start_same = ps.rest j ne.1 in
            let old = had_ended R ends ends' task v k (get_or starts' j 0) pe (omega (arith, start_same, run.start_is j l here, next.later)) all in
            let (placed, before) = run.least_task j k l here less (rw start_same at old) in
            let other = placed_other ends ends' task v k pe none placed in
            (omega (arith, pe.rest k other), omega (arith, ps.rest k other, start_same))
      ];
      least_slot = λ j s l done low. elim (eqb_tells j task) [
        | inl at ↦
            let below : s < slot = omega (arith, ap (λ i. get_or slots' i 0) at.1, pl.here) in
            let P : ℕ → Type 0 = λ k. IsTakenByThen (length longs) starts' ends' slots' k s in
            subst P (sym at.1) (taken_now m longs R starts ends slots free left starts' ends' slots' from now task slot step v s run next ps pe pl below)
        | inr ne ↦ taken_before_stays (length longs) starts ends slots starts' ends' slots' task now v slot j s none ps pe pl ne.1
            (run.least_slot j s l (omega (arith, pe.rest j ne.1)) (omega (arith, pl.rest j ne.1)))
      ];
    }

pub count_open : (v : ℕ) → v ≡ 0 → ◌≡◌ {A = ℕ} (cond (eqb v 0) 0 1) 0
count_open v h = grind (arith, nat_tests)

count_done : (v : ℕ) → 0 < v → ◌≡◌ {A = ℕ} (cond (eqb v 0) 0 1) 1
count_done v h = grind (arith, nat_tests)

count_small : (v : ℕ) → ◌≤◌ (cond (eqb v 0) 0 1) 1
count_small v = grind (arith, nat_tests)

pub placed_next : (m n : ℕ) (ends free ends' free' : List ℕ) (from now task slot step v : ℕ) →
    HasPlaced n m ends free from step → task < n → get_or ends task 0 ≡ 0 → now ≤ 1000000 * step → 0 < v → v ≤ now + 1000000 →
    Puts task v ends ends' → Puts slot v free free' → HasPlaced n m ends' free' now (step + 1)
placed_next m n ends free ends' free' from now task slot step v p inside none bound some most pe pf = record {
  placed = omega (
    arith,
    p.placed,
    total_less (λ k. cond (eqb (get_or ends' k 0) 0) 0 1) (λ k. cond (eqb (get_or ends k 0) 0) 0 1) n task inside
        (omega (arith, count_done (get_or ends' task 0) (omega (arith, pe.here)), count_open (get_or ends task 0) none))
        (λ k l ne. ap (λ x. cond (eqb x 0) 0 1) (pe.rest k ne)),
  );
  ends_within = λ j l. elim (eqb_tells j task) [
    | inl at ↦ omega (arith, ap (λ i. get_or ends' i 0) at.1, pe.here)
    | inr ne ↦ omega (arith, pe.rest j ne.1, p.ends_within j l)
  ];
  free_within = λ s l. elim (eqb_tells s slot) [
    | inl at ↦ omega (arith, ap (λ i. get_or free' i 0) at.1, pf.here)
    | inr ne ↦ omega (arith, pf.rest s ne.1, p.free_within s l)
  ];
  clock_within = omega arith;
}

-- a need that is met is a task that was placed before
need_same : (ns ends ends' : List ℕ) (task v count : ℕ) → Puts task v ends ends' → get_or ends task 0 ≡ 0 → ((x : ℕ) → x < count → 0 < get_or ends (get_or ns x 0) 0) → last_need ns ends' count ≡ last_need ns ends count
need_same ns ends ends' task v count pe none met =
    most_same (λ x. get_or ends' (get_or ns x 0) 0) (λ x. get_or ends (get_or ns x 0) 0) count
    (λ x l. pe.rest (get_or ns x 0) (placed_other ends ends' task v (get_or ns x 0) pe none (met x l)))

pub gate_place : (n : ℕ) (ns ws ends ends' : List ℕ) (reached met time task v : ℕ) → IsGate n ns ws ends reached met time → Puts task v ends ends' → get_or ends task 0 ≡ 0 →
    IsGate n ns ws ends' reached met time
gate_place n ns ws ends ends' reached met time task v g pe none = record {
  reached_in = g.reached_in;
  met_in = g.met_in;
  all_met = λ x l. omega (arith, g.all_met x l, pe.rest (get_or ns x 0) (placed_other ends ends' task v (get_or ns x 0) pe none (g.all_met x l)));
  time_is = g.time_is ∙ sym (need_same ns ends ends' task v met pe none g.all_met);
  passed = g.passed;
  ahead = g.ahead;
}

late_place : (n : ℕ) (ns ws ends ends' : List ℕ) (reached met time task v j : ℕ) → IsGate n ns ws ends reached met time → Puts task v ends ends' → get_or ends task 0 ≡ 0 →
    late_at ns ws ends' reached j ≡ late_at ns ws ends reached j
late_place n ns ws ends ends' reached met time task v j g pe none = elim (cases_lt j reached) [
  | inl l ↦ late_in ns ws ends' reached j l ∙ need_same ns ends ends' task v (get_or ws j 0) pe none (λ x m. g.all_met x (omega (arith, g.passed j l))) ∙ sym (late_in ns ws ends reached j l)
  | inr r ↦ late_out ns ws ends' reached j r ∙ sym (late_out ns ws ends reached j r)
]

pub waiting_place : (n : ℕ) (bs fs ns ws ends left ready keys ends' keys' : List ℕ) (reached met time task v : ℕ) →
    AreWaiting n fs (time_at bs ends) (shut_at reached) (late_at ns ws ends reached) ends left ready keys → IsGate n ns ws ends reached met time →
    length bs ≡ length fs → n ≤ 16384 → task < n → get_or ends task 0 ≡ 0 → get_or left task 0 ≡ 0 → 0 < v →
    Puts task v ends ends' → Puts task 18446744073709551615 keys keys' →
    AreWaiting n fs (time_from bs ends' task (length bs)) (shut_at reached) (late_at ns ws ends' reached) ends' left ready keys'
waiting_place n bs fs ns ws ends left ready keys ends' keys' reached met time task v w g long room inside none none_left some pe pk =
    let k = w.keyed in
    let moved = waiting_same n fs (time_at bs ends) (time_from bs ends' task (length bs)) (shut_at reached) (late_at ns ws ends reached) (late_at ns ws ends' reached) ends left ready keys
    (λ e l. elim (eqb_tells (get_or bs e 0) task) [
      | inl is ↦ from_in (get_or bs e 0) task e (length bs) (get_or ends' (get_or bs e 0) 0) is.1 (omega arith) ∙ sym (ap (λ i. get_or ends i 0) is.1 ∙ none)
      | inr ne ↦ from_other (get_or bs e 0) task e (length bs) (get_or ends' (get_or bs e 0) 0) ne.1 ∙ pe.rest (get_or bs e 0) ne.1
    ])
    (λ j l. late_place n ns ws ends ends' reached met time task v j g pe none) w in
    record {
      keyed = record {
        keys_each = pk.whole ∙ k.keys_each;
        left_each = k.left_each;
        ready_each = k.ready_each;
        placed = λ j l done. elim (eqb_tells j task) [
          | inl is ↦ (ap (λ i. get_or left i 0) is.1 ∙ none_left, ap (λ i. get_or keys' i 0) is.1 ∙ pk.here)
          | inr ne ↦ let old = k.placed j l (omega (arith, pe.rest j ne.1)) in (old.0, pk.rest j ne.1 ∙ old.1)
        ];
        open_key = λ j l is_open waits. elim (eqb_tells j task) [
          | inl is ↦ absurd (omega (arith, ap (λ i. get_or ends' i 0) is.1, pe.here))
          | inr ne ↦ pk.rest j ne.1 ∙ k.open_key j l (omega (arith, pe.rest j ne.1)) waits
        ];
        ready_key = λ j l is_open waits. elim (eqb_tells j task) [
          | inl is ↦ absurd (omega (arith, ap (λ i. get_or ends' i 0) is.1, pe.here))
          | inr ne ↦ pk.rest j ne.1 ∙ k.ready_key j l (omega (arith, pe.rest j ne.1)) waits
        ];
        outside = λ j l b. pk.rest j (λ h. omega arith) ∙ k.outside j l b;
      };
      left_is = moved.left_is;
      after_pairs = moved.after_pairs;
      after_needs = moved.after_needs;
      at_last = moved.at_last;
    }

-- where each task is placed the schedule is the one by the rule
pub rule_is : (m step : ℕ) (longs : List ℕ) (R : ℕ → ℕ → Type 0) (starts ends slots free : List ℕ) (clock : ℕ) → Rises R (length longs) →
    IsRun m longs R starts ends slots free clock → HasPlaced (length longs) m ends free clock step → step ≡ length longs →
    IsByRule m longs R slots starts × ((k : ℕ) → k < length longs → get_or ends k 0 ≡ end_of longs starts k)
rule_is m step longs R starts ends slots free clock rises run p all =
    let done = λ (k : ℕ) (l : k < length longs).
    let d : 0 < get_or ends k 0 = elim (cases_lt 0 (get_or ends k 0)) [
      | inl d ↦ d
      | inr none ↦ absurd (omega (arith, total_whole (λ k. cond (eqb (get_or ends k 0) 0) 0 1) (length longs) (λ k l. count_small (get_or ends k 0)) (p.placed ∙ all) k l, count_open (get_or ends k 0) (omega arith)))
    ] in d in
    let ends_are = λ (k : ℕ) (l : k < length longs). run.end_is k l (done k l) in
    let ended = λ (j t : ℕ) (may : MayStart longs R starts j t).
    let all_ended : HaveEnded R ends j t = λ i is. let il : i < length longs = omega (arith, rises.less i j is, rises.inside i j is) in (done i il, omega (arith, may i is, ends_are i il)) in all_ended in (
      record {
        legal = record {
          slot_each = run.slots_each;
          start_each = run.starts_each;
          on_slot = λ k l. run.slot_is k l (done k l);
          apart = λ i j below l same. elim (run.apart i j below l (done i (omega arith)) (done j l) same) [
            | inl a ↦ inl (omega (arith, ends_are i (omega arith)))
            | inr a ↦ inr (omega (arith, ends_are j l))
          ];
          ordered = λ i j is. omega (arith, (run.ordered i j is (done j (rises.inside i j is))).1, ends_are i (omega (arith, rises.less i j is, rises.inside i j is)));
        };
        at_once = λ j t l before may.
            let start = run.start_is j l (done j l) in
            elim (run.at_once j t l (omega arith) (ended j t may)) [
              | inl (some, early) ↦ absurd (omega arith)
              | inr full ↦ λ s on. let (k, kl, is, from, to) = full s on in (k, kl, is, from, omega (arith, ends_are k kl))
            ];
        least_task = λ j k l less may. (run.least_task j k l (done j l) less (ended k (get_or starts j 0) may)).1;
        least_slot = λ j s l low.
            let (k, kl, some, on, to, when) = run.least_slot j s l (done j l) low in
            (k, kl, on, omega (arith, to, ends_are k kl), when);
      },
      ends_are,
    )
