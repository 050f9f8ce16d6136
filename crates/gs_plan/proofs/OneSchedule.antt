-- There is one schedule by the rule.
use Rattle.std.proofs.Common.{◌≡◌, ℕ, zero, suc, ◌<◌, ◌≤◌, ◌⊎◌, inl, inr, List, [], ◌∷◌, length, get_or, refl, sym, ap, ◌∙◌, arith}
use Rattle.std.proofs.lemmas.Bool.{cases_lt}
use Rattle.gs_plan.specs.Schedule.{end_of, IsLegal, MayStart, IsByRule}
use Rattle.gs_plan.proofs.Bound.{Rises}

-- the task k has one place in both
IsSame : List ℕ → List ℕ → List ℕ → List ℕ → ℕ → Type 0
IsSame slots starts slots' starts' k = (get_or starts k 0 ≡ get_or starts' k 0) × (get_or slots k 0 ≡ get_or slots' k 0)

-- tasks that one of the two starts before t have one place in both
AreSameBefore : ℕ → List ℕ → List ℕ → List ℕ → List ℕ → ℕ → Type 0
AreSameBefore n slots starts slots' starts' t =
    (k : ℕ) → k < n → (get_or starts k 0 < t) ⊎ (get_or starts' k 0 < t) → IsSame slots starts slots' starts' k

-- and so have those of lower number than j that start at t
AreSameAt : List ℕ → List ℕ → List ℕ → List ℕ → ℕ → ℕ → Type 0
AreSameAt slots starts slots' starts' t j =
    (k : ℕ) → k < j → (get_or starts k 0 ≡ t) ⊎ (get_or starts' k 0 ≡ t) → IsSame slots starts slots' starts' k

same_turned : (slots starts slots' starts' : List ℕ) (k : ℕ) → IsSame slots starts slots' starts' k → IsSame slots' starts' slots starts k
unfolding IsSame
same_turned slots starts slots' starts' k h = (sym h.0, sym h.1)

before_turned : (n : ℕ) (slots starts slots' starts' : List ℕ) (t : ℕ) → AreSameBefore n slots starts slots' starts' t → AreSameBefore n slots' starts' slots starts t
unfolding AreSameBefore
before_turned n slots starts slots' starts' t h k l (inl a) = same_turned slots starts slots' starts' k (h k l (inr a))
before_turned n slots starts slots' starts' t h k l (inr a) = same_turned slots starts slots' starts' k (h k l (inl a))

at_turned : (slots starts slots' starts' : List ℕ) (t j : ℕ) → AreSameAt slots starts slots' starts' t j → AreSameAt slots' starts' slots starts t j
unfolding AreSameAt
at_turned slots starts slots' starts' t j h k l (inl a) = same_turned slots starts slots' starts' k (h k l (inr a))
at_turned slots starts slots' starts' t j h k l (inr a) = same_turned slots starts slots' starts' k (h k l (inl a))

-- two tasks at work on one slot at one time are one
alone : (m : ℕ) (longs : List ℕ) (R : ℕ → ℕ → Type 0) (slots starts : List ℕ) (i k t : ℕ) → IsLegal m longs R slots starts → i < length longs → k < length longs →
    get_or slots i 0 ≡ get_or slots k 0 → get_or starts i 0 ≤ t → t < end_of longs starts i → get_or starts k 0 ≤ t → t < end_of longs starts k → i ≡ k
alone m longs R slots starts i k t legal il kl on a b c d =
    elim (cases_lt i k) [
      | inl less ↦ elim (legal.apart i k less kl on) [ inl h ↦ absurd (omega arith) | inr h ↦ absurd (omega arith) ]
      | inr more ↦ elim (cases_lt k i) [
        | inl less ↦ elim (legal.apart k i less il (sym on)) [ inl h ↦ absurd (omega arith) | inr h ↦ absurd (omega arith) ]
        | inr same ↦ omega arith
      ]
    ]

Long : List ℕ → Type 0
Long longs = (k : ℕ) → k < length longs → 1 ≤ get_or longs k 0

-- a task that the first starts at t, the second starts no later
no_later : (m : ℕ) (longs : List ℕ) (R : ℕ → ℕ → Type 0) (slots starts slots' starts' : List ℕ) (t j : ℕ) → Rises R (length longs) → Long longs →
    IsByRule m longs R slots starts → IsByRule m longs R slots' starts' → AreSameBefore (length longs) slots starts slots' starts' t →
    AreSameAt slots starts slots' starts' t j → j < length longs → get_or starts j 0 ≡ t → get_or starts' j 0 ≤ t
unfolding AreSameBefore AreSameAt IsSame Long
no_later m longs R slots starts slots' starts' t j rises long rule rule' before at inside here =
    elim (cases_lt t (get_or starts' j 0)) [
      | inr done ↦ done
      | inl later ↦
          let may : MayStart longs R starts' j t = λ i is.
          let il : i < length longs = omega (arith, rises.less i j is) in
          let order = rule.legal.ordered i j is in
          let same = before i il (inl (omega (arith, long i il))) in
          omega (arith, order, same.0) in
          let (k, kl, on, from, to) = rule'.at_once j t inside later may (get_or slots j 0) (rule.legal.on_slot j inside) in
          elim (cases_lt (get_or starts' k 0) t) [
            | inl early ↦
                let same = before k kl (inr early) in
                let one : k ≡ j = alone m longs R slots starts k j t rule.legal kl inside (same.1 ∙ on) (omega (arith, same.0)) (omega (arith, same.0)) (omega arith) (omega (arith, long j inside)) in
                absurd (omega (arith, ap (λ i. get_or starts i 0) one, same.0))
            | inr now ↦
                let kt : get_or starts' k 0 ≡ t = omega arith in
                elim (cases_lt k j) [
                  | inl low ↦
                      let same = at k low (inr kt) in
                      let one : k ≡ j = alone m longs R slots starts k j t rule.legal kl inside (same.1 ∙ on) (omega (arith, same.0)) (omega (arith, same.0)) (omega arith) (omega (arith, long j inside)) in
                      absurd (omega (arith, one))
                  | inr high ↦ elim (cases_lt j k) [
                    | inl less ↦ absurd (let h = rule'.least_task k j kl less (λ i is. omega (arith, may i is)) in omega (arith, h))
                    | inr both ↦ let one : k ≡ j = omega arith in absurd (omega (arith, ap (λ i. get_or starts' i 0) one))
                  ]
                ]
          ]
    ]

-- a task that both start at t has no lower slot in the second
no_lower : (m : ℕ) (longs : List ℕ) (R : ℕ → ℕ → Type 0) (slots starts slots' starts' : List ℕ) (t j : ℕ) → Long longs →
    IsByRule m longs R slots starts → IsByRule m longs R slots' starts' → AreSameBefore (length longs) slots starts slots' starts' t →
    AreSameAt slots starts slots' starts' t j → j < length longs → get_or starts j 0 ≡ t → get_or starts' j 0 ≡ t → get_or slots j 0 ≤ get_or slots' j 0
unfolding AreSameBefore AreSameAt IsSame Long
no_lower m longs R slots starts slots' starts' t j long rule rule' before at inside here there =
    elim (cases_lt (get_or slots' j 0) (get_or slots j 0)) [
      | inr done ↦ done
      | inl lower ↦
          let (k, kl, on, to, when) = rule.least_slot j (get_or slots' j 0) inside lower in
          elim when [
            | inl early ↦
                let same = before k kl (inl (omega arith)) in
                let one : k ≡ j = alone m longs R slots' starts' k j t rule'.legal kl inside (sym same.1 ∙ on) (omega (arith, same.0)) (omega (arith, same.0)) (omega arith) (omega (arith, long j inside)) in
                absurd (omega (arith, ap (λ i. get_or starts i 0) one))
            | inr (now, less) ↦
                let same = at k less (inl (omega arith)) in
                let one : k ≡ j = alone m longs R slots' starts' k j t rule'.legal kl inside (sym same.1 ∙ on) (omega (arith, same.0)) (omega (arith, same.0)) (omega arith) (omega (arith, long j inside)) in
                absurd (omega (arith, one))
          ]
    ]

-- a task that the first starts at t has one place in both
same_here : (m : ℕ) (longs : List ℕ) (R : ℕ → ℕ → Type 0) (slots starts slots' starts' : List ℕ) (t j : ℕ) → Rises R (length longs) → Long longs →
    IsByRule m longs R slots starts → IsByRule m longs R slots' starts' → AreSameBefore (length longs) slots starts slots' starts' t →
    AreSameAt slots starts slots' starts' t j → j < length longs → get_or starts j 0 ≡ t → IsSame slots starts slots' starts' j
unfolding IsSame AreSameBefore
same_here m longs R slots starts slots' starts' t j rises long rule rule' before at inside here =
    elim (cases_lt (get_or starts' j 0) t) [
      | inl early ↦ before j inside (inr early)
      | inr late ↦
          let there : get_or starts' j 0 ≡ t = omega (arith, no_later m longs R slots starts slots' starts' t j rises long rule rule' before at inside here) in
          let a = no_lower m longs R slots starts slots' starts' t j long rule rule' before at inside here there in
          let b = no_lower m longs R slots' starts' slots starts t j long rule' rule (before_turned (length longs) slots starts slots' starts' t before) (at_turned slots starts slots' starts' t j at) inside there here in
          (omega arith, omega arith)
    ]

same_at : (m : ℕ) (longs : List ℕ) (R : ℕ → ℕ → Type 0) (slots starts slots' starts' : List ℕ) (t j : ℕ) → Rises R (length longs) → Long longs →
    IsByRule m longs R slots starts → IsByRule m longs R slots' starts' → AreSameBefore (length longs) slots starts slots' starts' t → j ≤ length longs → AreSameAt slots starts slots' starts' t j
unfolding AreSameAt
same_at m longs R slots starts slots' starts' t zero rises long rule rule' before le k l when = absurd (omega arith)
same_at m longs R slots starts slots' starts' t (suc j) rises long rule rule' before le k l when =
    let lower = same_at m longs R slots starts slots' starts' t j rises long rule rule' before (omega arith) in
    elim (cases_lt k j) [
      | inl less ↦ lower k less when
      | inr more ↦
          let one : k ≡ j = omega arith in
          rw one (elim when [
            | inl here ↦ same_here m longs R slots starts slots' starts' t j rises long rule rule' before lower (omega arith) (rw one at here)
            | inr there ↦ same_turned slots' starts' slots starts j
                (same_here m longs R slots' starts' slots starts t j rises long rule' rule (before_turned (length longs) slots starts slots' starts' t before) (at_turned slots starts slots' starts' t j lower) (omega arith) (rw one at there))
          ])
    ]

same_before : (m : ℕ) (longs : List ℕ) (R : ℕ → ℕ → Type 0) (slots starts slots' starts' : List ℕ) (t : ℕ) → Rises R (length longs) → Long longs →
    IsByRule m longs R slots starts → IsByRule m longs R slots' starts' → AreSameBefore (length longs) slots starts slots' starts' t
unfolding AreSameBefore AreSameAt
same_before m longs R slots starts slots' starts' zero rises long rule rule' k l when = elim when [ inl a ↦ absurd (omega arith) | inr b ↦ absurd (omega arith) ]
same_before m longs R slots starts slots' starts' (suc t) rises long rule rule' k l when =
    let before = same_before m longs R slots starts slots' starts' t rises long rule rule' in
    let now = same_at m longs R slots starts slots' starts' t (length longs) rises long rule rule' before (omega arith) in
    elim (cases_lt (get_or starts k 0) t) [
      | inl early ↦ before k l (inl early)
      | inr late ↦ elim (cases_lt (get_or starts' k 0) t) [
        | inl early ↦ before k l (inr early)
        | inr later ↦ elim when [ inl a ↦ now k l (inl (omega arith)) | inr b ↦ now k l (inr (omega arith)) ]
      ]
    ]

same_list : (xs ys : List ℕ) → length xs ≡ length ys → ((k : ℕ) → k < length xs → get_or xs k 0 ≡ get_or ys k 0) → xs ≡ ys
same_list [] [] e each = refl
same_list [] (y ∷ ys) e each = absurd (omega arith)
same_list (x ∷ xs) [] e each = absurd (omega arith)
same_list (x ∷ xs) (y ∷ ys) e each =
    let first : x ≡ y = each 0 (omega arith) in
    ap (λ (z : ℕ). z ∷ xs) first ∙ ap (λ (zs : List ℕ). y ∷ zs) (same_list xs ys (omega arith) (λ k l. each (suc k) (omega arith)))

pub one_schedule : (m : ℕ) (longs : List ℕ) (R : ℕ → ℕ → Type 0) (slots starts slots' starts' : List ℕ) → Rises R (length longs) → ((k : ℕ) → k < length longs → 1 ≤ get_or longs k 0) →
    IsByRule m longs R slots starts → IsByRule m longs R slots' starts' → (slots ≡ slots') × (starts ≡ starts')
unfolding IsSame Long AreSameBefore
one_schedule m longs R slots starts slots' starts' rises long rule rule' =
    let same = λ (k : ℕ) (l : k < length longs). same_before m longs R slots starts slots' starts' (suc (get_or starts k 0)) rises long rule rule' k l (inl (omega arith)) in (
      same_list slots slots' (rule.legal.slot_each ∙ sym rule'.legal.slot_each) (λ k l. (same k (omega (arith, rule.legal.slot_each))).1),
      same_list starts starts' (rule.legal.start_each ∙ sym rule'.legal.start_each) (λ k l. (same k (omega (arith, rule.legal.start_each))).0),
    )
