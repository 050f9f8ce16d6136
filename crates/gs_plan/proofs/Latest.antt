-- The latest of several tasks.
use Rattle.std.proofs.Common.{◌≡◌, ℕ, ◌+◌, ◌<◌, ◌≤◌, ◌≢◌, ◌⊎◌, inl, inr, List, [], ◌∷◌, ◌++◌, length, get_or, set, Option, Some, None, refl, sym, ap, subst, ◌∙◌, arith, get_or-set_same, get_or-set_other, length-set, append_assoc}
use Rattle.std.proofs.lemmas.List.{append-nil}
use Rattle.std.proofs.lemmas.Bool.{cases_lt}
use Rattle.std.proofs.lemmas.Bool.Decides.{eqb_tells}
use Rattle.gs_plan.specs.Ties.{past, before_at, after_at, needed_at, waits_at, HasPair, HasNeed, Ordered, AreTies}
use Rattle.gs_plan.specs.Schedule.{end_of, EndsNoLater, GoesBack, IsChainBack}
use Rattle.gs_plan.specs.Chain.{IsNoLater, IsLatest, IsLater, best_at, AreLatestPairs, AreLatestUpto, IsWalk, Falls}
use Rattle.gs_plan.specs.declared.ties.Ties.{Ties}
use Rattle.gs_plan.proofs.Bound.{Rises}

later_trans : (ends : List ℕ) (i a b : ℕ) → IsNoLater ends i a → IsNoLater ends a b → IsNoLater ends i b
later_trans ends i a b (inl x) (inl y) = inl (omega arith)
later_trans ends i a b (inl x) (inr y) = inl (omega (arith, y.0))
later_trans ends i a b (inr x) (inl y) = inl (omega (arith, x.0))
later_trans ends i a b (inr x) (inr y) = inr (omega (arith, x.0, y.0), omega (arith, x.1, y.1))

later_self : (ends : List ℕ) (b : ℕ) → IsNoLater ends b b
later_self ends b = inr (refl, omega arith)

-- one candidate more
pub latest_more : (P Q : ℕ → Type 0) (ends : List ℕ) (o : Option ℕ) (b r : ℕ) → IsLatest P ends o → IsLater ends o b r →
    ((i : ℕ) → Q i → P i ⊎ (i ≡ b)) → ((i : ℕ) → P i → Q i) → Q b → IsLatest Q ends (Some r)
latest_more P Q ends None b r latest later from into here = (
  subst Q (sym later) here,
  λ i is. elim (from i is) [
    | inl old ↦ absurd (latest i old)
    | inr same ↦ let e : i ≡ r = same ∙ sym later in let K : ℕ → Type 0 = λ k. IsNoLater ends k r in subst K (sym e) (later_self ends r)
  ],
)
latest_more P Q ends (Some o) b r latest (one, old, new) from into here = (
  elim one [ inl e ↦ subst Q (sym e) (into o latest.0) | inr e ↦ subst Q (sym e) here ],
  λ i is. elim (from i is) [
    | inl was ↦ later_trans ends i o r (latest.1 i was) old
    | inr same ↦ let K : ℕ → Type 0 = λ k. IsNoLater ends k r in subst K (sym same) new
  ],
)

-- the same candidates
pub latest_same : (P Q : ℕ → Type 0) (ends : List ℕ) (o : Option ℕ) → ((i : ℕ) → Q i → P i) → ((i : ℕ) → P i → Q i) → IsLatest P ends o → IsLatest Q ends o
latest_same P Q ends None from into latest = λ i is. latest i (from i is)
latest_same P Q ends (Some b) from into latest = (into b latest.0, λ i is. latest.1 i (from i is))

-- the latest of two kinds of candidates
pub latest_both : (P Q : ℕ → Type 0) (ends : List ℕ) (o : Option ℕ) (b r : ℕ) → IsLatest P ends o → IsLatest Q ends (Some b) → IsLater ends o b r → IsLatest (λ i. P i ⊎ Q i) ends (Some r)
latest_both P Q ends None b r first (here, all) later = (
  subst (λ (k : ℕ). P k ⊎ Q k) (sym later) (inr here),
  λ i is. elim is [
    | inl old ↦ absurd (first i old)
    | inr new ↦ subst (λ (k : ℕ). IsNoLater ends i k) (sym later) (all i new)
  ],
)
latest_both P Q ends (Some o) b r first (here, all) (one, old, new) = (
  elim one [ inl e ↦ subst (λ (k : ℕ). P k ⊎ Q k) (sym e) (inl first.0) | inr e ↦ subst (λ (k : ℕ). P k ⊎ Q k) (sym e) (inr here) ],
  λ i is. elim is [
    | inl was ↦ later_trans ends i o r (first.1 i was) old
    | inr is_new ↦ later_trans ends i b r (all i is_new) new
  ],
)

-- there is none of the second kind
pub latest_first : (P Q : ℕ → Type 0) (ends : List ℕ) (o : Option ℕ) → IsLatest P ends o → ((i : ℕ) → Q i → ⊥) → IsLatest (λ i. P i ⊎ Q i) ends o
latest_first P Q ends None first none = λ i is. elim is [ inl old ↦ first i old | inr new ↦ none i new ]
latest_first P Q ends (Some b) first none = (inl first.0, λ i is. elim is [ inl old ↦ first.1 i old | inr new ↦ absurd (none i new) ])

-- ---- pairs

pair_more : (t : Ties) (e i j : ℕ) → HasPair t (e + 1) i j → HasPair t e i j ⊎ ((before_at t e ≡ i) × (after_at t e ≡ j))
pair_more t e i j (x, l, a, b) = elim (cases_lt x e) [
  | inl less ↦ inl (x, less, a, b)
  | inr more ↦
      let at : x ≡ e = omega arith in
      inr (sym (ap (before_at t) at) ∙ a, sym (ap (after_at t) at) ∙ b)
]

pair_wider : (t : Ties) (e i j : ℕ) → HasPair t e i j → HasPair t (e + 1) i j
pair_wider t e i j (x, l, a, b) = (x, omega arith, a, b)

best_same : (best : List (Option ℕ)) (i : ℕ) (v : Option ℕ) → i < length best → best_at (set best i v) i ≡ v
best_same best i v l = get_or-set_same best i v None l

best_other : (best : List (Option ℕ)) (i k : ℕ) (v : Option ℕ) → k ≢ i → best_at (set best i v) k ≡ best_at best k
best_other best i k v ne = get_or-set_other best i k v None ne

pub pairs_step : (t : Ties) (ends : List ℕ) (best : List (Option ℕ)) (e a r : ℕ) → AreLatestPairs t e ends best → a ≡ after_at t e → a < length best →
    IsLater ends (best_at best a) (before_at t e) r → AreLatestPairs t (e + 1) ends (set best a (Some r))
pairs_step t ends best e a r are is inside later j l =
    let wide : j < length best = omega (arith, length-set best a (Some r)) in
    elim (eqb_tells j a) [
      | inl at ↦
          let P : Option ℕ → Type 0 = λ o. IsLatest (λ i. HasPair t (e + 1) i j) ends o in
          subst P (sym (ap (best_at (set best a (Some r))) at.1 ∙ best_same best a (Some r) inside))
          (latest_more (λ i. HasPair t e i j) (λ i. HasPair t (e + 1) i j) ends (best_at best j) (before_at t e) r (are j wide)
          (subst (λ (o : Option ℕ). IsLater ends o (before_at t e) r) (sym (ap (best_at best) at.1)) later)
          (λ i h. elim (pair_more t e i j h) [ inl old ↦ inl old | inr (b, c) ↦ inr (sym b) ])
          (λ i h. pair_wider t e i j h)
          (e, omega arith, refl, sym is ∙ sym at.1))
      | inr ne ↦
          let P : Option ℕ → Type 0 = λ o. IsLatest (λ i. HasPair t (e + 1) i j) ends o in
          subst P (sym (best_other best a j (Some r) ne.1))
          (latest_same (λ i. HasPair t e i j) (λ i. HasPair t (e + 1) i j) ends (best_at best j)
          (λ i h. elim (pair_more t e i j h) [ inl old ↦ old | inr (b, c) ↦ absurd (ne.1 (sym c ∙ sym is)) ])
          (λ i h. pair_wider t e i j h) (are j wide))
    ]

pub pairs_begin : (t : Ties) (ends : List ℕ) (best : List (Option ℕ)) → ((j : ℕ) → best_at best j ≡ None) → AreLatestPairs t 0 ends best
pairs_begin t ends best none j l =
    let P : Option ℕ → Type 0 = λ o. IsLatest (λ i. HasPair t 0 i j) ends o in
    subst P (sym (none j)) (λ i h. absurd (omega (arith, h.1)))

-- ---- needs

need_more : (t : Ties) (x i : ℕ) → HasNeed t (x + 1) i → HasNeed t x i ⊎ (i ≡ needed_at t x)
need_more t x i (y, l, a) = elim (cases_lt y x) [
  | inl less ↦ inl (y, less, a)
  | inr more ↦ let at : y ≡ x = omega arith in inr (sym a ∙ ap (needed_at t) at)
]

pub needs_step : (t : Ties) (ends : List ℕ) (o : Option ℕ) (x r : ℕ) → IsLatest (HasNeed t x) ends o → IsLater ends o (needed_at t x) r → IsLatest (HasNeed t (x + 1)) ends (Some r)
needs_step t ends o x r latest later =
    latest_more (HasNeed t x) (HasNeed t (x + 1)) ends o (needed_at t x) r latest later (need_more t x) (λ i h. (h.0, omega (arith, h.1), h.2)) (x, omega arith, refl)

-- ---- both

pub both_step : (t : Ties) (ends : List ℕ) (best : List (Option ℕ)) (j b r : ℕ) → AreLatestUpto t j ends best → j < length best →
    IsLatest (HasNeed t (waits_at t j)) ends (Some b) → IsLater ends (best_at best j) b r → AreLatestUpto t (j + 1) ends (set best j (Some r))
both_step t ends best j b r are inside need later = record {
  done = λ k l m. elim (eqb_tells k j) [
    | inl at ↦
        let P : ℕ → Type 0 = λ q. IsLatest (λ i. Ordered t i q) ends (best_at (set best j (Some r)) q) in
        let Q : Option ℕ → Type 0 = λ o. IsLatest (λ i. Ordered t i j) ends o in
        subst P (sym at.1) (subst Q (sym (best_same best j (Some r) inside)) (latest_both (λ i. HasPair t (length t.befores.items) i j) (HasNeed t (waits_at t j)) ends (best_at best j) b r (are.rest j (omega arith) inside) need later))
    | inr ne ↦
        let Q : Option ℕ → Type 0 = λ o. IsLatest (λ i. Ordered t i k) ends o in
        subst Q (sym (best_other best j k (Some r) ne.1)) (are.done k (omega (arith, ne.1)) (omega (arith, length-set best j (Some r))))
  ];
  rest = λ k l m.
      let ne : k ≢ j = omega arith in
      let Q : Option ℕ → Type 0 = λ o. IsLatest (λ i. HasPair t (length t.befores.items) i k) ends o in
      subst Q (sym (best_other best j k (Some r) ne)) (are.rest k (omega arith) (omega (arith, length-set best j (Some r))));
}

pub both_skip : (t : Ties) (ends : List ℕ) (best : List (Option ℕ)) (j : ℕ) → AreLatestUpto t j ends best → j < length best →
    IsLatest (HasNeed t (waits_at t j)) ends None → AreLatestUpto t (j + 1) ends best
both_skip t ends best j are inside need = record {
  done = λ k l m. elim (eqb_tells k j) [
    | inl at ↦
        let P : ℕ → Type 0 = λ q. IsLatest (λ i. Ordered t i q) ends (best_at best q) in
        subst P (sym at.1) (latest_first (λ i. HasPair t (length t.befores.items) i j) (HasNeed t (waits_at t j)) ends (best_at best j) (are.rest j (omega arith) inside) need)
    | inr ne ↦ are.done k (omega (arith, ne.1)) m
  ];
  rest = λ k l m. are.rest k (omega arith) m;
}

-- ---- the walk

walk_end : (best : List (Option ℕ)) (xs : List ℕ) (o : Option ℕ) → o ≡ None → IsWalk best o xs → xs ≡ []
walk_end best [] None e w = refl
walk_end best (x ∷ xs) None e w = absurd w
walk_end best xs (Some j) e w = absurd cc

walk_first : (best : List (Option ℕ)) (xs : List ℕ) (o : Option ℕ) (j : ℕ) → o ≡ Some j → IsWalk best o xs → (rest : List ℕ) × (xs ≡ j ∷ rest) × IsWalk best (best_at best j) rest
walk_first best xs None j e w = absurd cc
walk_first best [] (Some k) j e w = absurd w
walk_first best (x ∷ xs) (Some k) j e w =
    let same : k ≡ j = cc in
    (xs, ap (λ (y : ℕ). y ∷ xs) (w.0 ∙ same), subst (λ (q : ℕ). IsWalk best (best_at best q) xs) same w.1)

-- what ends no later by the ends, does so by the starts
abbrev pub SameEnds : List ℕ → List ℕ → List ℕ → Type 0
SameEnds longs starts ends = (k : ℕ) → k < length longs → get_or ends k 0 ≡ end_of longs starts k

no_later_same : (longs starts ends : List ℕ) (i b : ℕ) → SameEnds longs starts ends → i < length longs → b < length longs → IsNoLater ends i b → EndsNoLater longs starts i b
no_later_same longs starts ends i b same il bl (inl l) = inl (omega (arith, same i il, same b bl))
no_later_same longs starts ends i b same il bl (inr e) = inr (omega (arith, e.0, same i il, same b bl), e.1)

walk_back : (longs starts ends : List ℕ) (t : Ties) (best : List (Option ℕ)) (j : ℕ) (rest : List ℕ) (o : Option ℕ) → SameEnds longs starts ends → AreTies t (length longs) →
    length best ≡ length longs → AreLatestUpto t (length longs) ends best → j < length longs → Rises (Ordered t) (length longs) →
    o ≡ best_at best j → IsWalk best o rest → GoesBack longs (Ordered t) starts (j ∷ rest)
walk_back longs starts ends t best j [] None same ties whole are inside rises is walk = λ i h.
    let P : Option ℕ → Type 0 = λ o. IsLatest (λ i. Ordered t i j) ends o in
    subst P (sym is) (are.done j inside (omega arith)) i h
walk_back longs starts ends t best j (b ∷ rest) None same ties whole are inside rises is walk = absurd walk
walk_back longs starts ends t best j [] (Some o) same ties whole are inside rises is walk = absurd walk
walk_back longs starts ends t best j (b ∷ rest) (Some o) same ties whole are inside rises is walk =
    let P : Option ℕ → Type 0 = λ o. IsLatest (λ i. Ordered t i j) ends o in
    let latest = subst P (sym is) (are.done j inside (omega arith)) in
    let one : Ordered t b j = let Q : ℕ → Type 0 = λ k. Ordered t k j in subst Q (sym walk.0) latest.0 in
    let low : b < length longs = omega (arith, rises.less b j one) in (
      record {
        one = one;
        latest = λ i h. no_later_same longs starts ends i b same (omega (arith, rises.less i j h)) low
            (let Q : ℕ → Type 0 = λ k. IsNoLater ends i k in subst Q (sym walk.0) (latest.1 i h));
      },
      walk_back longs starts ends t best b rest (best_at best b) same ties whole are low rises refl (let Q : ℕ → Type 0 = λ k. IsWalk best (best_at best k) rest in subst Q (sym walk.0) walk.1),
    )

pub walk_is_chain : (longs starts ends : List ℕ) (t : Ties) (best : List (Option ℕ)) (last : Option ℕ) (chain : List ℕ) → SameEnds longs starts ends → AreTies t (length longs) →
    length best ≡ length longs → AreLatestUpto t (length longs) ends best → Rises (Ordered t) (length longs) → length ends ≡ length longs →
    IsLatest (λ i. i < length ends) ends last → IsWalk best last chain → IsChainBack longs (Ordered t) starts chain
walk_is_chain longs starts ends t best None [] same ties whole are rises size latest walk = record {
  last = elim (cases_lt 0 (length longs)) [ inl some ↦ absurd (latest 0 (omega arith)) | inr none ↦ omega arith ];
  back = tt;
}
walk_is_chain longs starts ends t best None (j ∷ rest) same ties whole are rises size latest walk = absurd walk
walk_is_chain longs starts ends t best (Some o) [] same ties whole are rises size latest walk = absurd walk
walk_is_chain longs starts ends t best (Some o) (j ∷ rest) same ties whole are rises size latest walk =
    let inside : j < length longs = omega (arith, walk.0, latest.0) in
    record {
      last = (inside, λ i l. no_later_same longs starts ends i j same l inside (let Q : ℕ → Type 0 = λ k. IsNoLater ends i k in subst Q (sym walk.0) (latest.1 i (omega arith))));
      back = walk_back longs starts ends t best j rest (best_at best j) same ties whole are inside rises refl (let Q : ℕ → Type 0 = λ k. IsWalk best (best_at best k) rest in subst Q (sym walk.0) walk.1);
    }

-- each best is earlier
latest_in : (P : ℕ → Type 0) (ends : List ℕ) (o : Option ℕ) (b : ℕ) → o ≡ Some b → IsLatest P ends o → P b
latest_in P ends None b e latest = absurd cc
latest_in P ends (Some o) b e latest = let same : o ≡ b = cc in subst P same latest.0

pub latest_fall : (t : Ties) (n : ℕ) (ends : List ℕ) (best : List (Option ℕ)) → AreLatestUpto t n ends best → length best ≡ n → Rises (Ordered t) n → Falls best
latest_fall t n ends best are whole rises j b l is = rises.less b j (latest_in (λ i. Ordered t i j) ends (best_at best j) b is (are.done j (omega arith) l))

pub latest_of : (P : ℕ → Type 0) (ends : List ℕ) (o : Option ℕ) (b : ℕ) → IsLatest P ends o → o ≡ Some b → P b
latest_of P ends o b latest e = latest_in P ends o b e latest

-- ---- steps of the walk

pub walk_step : (best : List (Option ℕ)) (last next : Option ℕ) (task : ℕ) (before after : List ℕ) → next ≡ Some task → after ≡ before ++ task ∷ [] →
    ((rest : List ℕ) → IsWalk best next rest → IsWalk best last (before ++ rest)) → (rest : List ℕ) → IsWalk best (best_at best task) rest → IsWalk best last (after ++ rest)
walk_step best last next task before after is pushed all rest walk =
    let one : IsWalk best next (task ∷ rest) = subst (λ (o : Option ℕ). IsWalk best o (task ∷ rest)) (sym is) (refl, walk) in
    let turned : after ++ rest ≡ before ++ (task ∷ rest) = ap (λ (xs : List ℕ). xs ++ rest) pushed ∙ append_assoc before (task ∷ []) rest in
    subst (IsWalk best last) (sym turned) (all (task ∷ rest) one)

pub walk_done : (best : List (Option ℕ)) (last next : Option ℕ) (tasks : List ℕ) → next ≡ None → ((rest : List ℕ) → IsWalk best next rest → IsWalk best last (tasks ++ rest)) → IsWalk best last tasks
walk_done best last next tasks none all =
    subst (IsWalk best last) (append-nil tasks) (all [] (subst (λ (o : Option ℕ). IsWalk best o []) (sym none) tt))

pub past_falls : (best : List (Option ℕ)) (task n : ℕ) → Falls best → task < length best → past (best_at best task) ≤ task
past_falls best task n falls inside = here (best_at best task) refl
  where
    here : (o : Option ℕ) → best_at best task ≡ o → past o ≤ task
    here None e = omega arith
    here (Some b) e = omega (arith, falls task b inside e)

pub task_inside : (best : List (Option ℕ)) (next : Option ℕ) (task count : ℕ) → next ≡ Some task → count + past next ≤ length best → task < length best
task_inside best next task count is few = omega (arith, ap past is)
