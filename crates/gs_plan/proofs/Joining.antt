-- A plan by its parts.
use Rattle.std.proofs.Common.{◌≡◌, ℕ, zero, suc, ◌+◌, ◌-◌, ◌*◌, ◌<◌, ◌≤◌, ◌⊎◌, List, [], ◌∷◌, ◌++◌, length, get_or, take, map, reverse, sum, Some, slice_get, inl, inr, refl, sym, ap, subst, ◌∙◌, arith}
use Rattle.std.proofs.lemmas.List.{take_more, map-append, length-map}
use Rattle.gs_plan.specs.Schedule.{end_of, IsLegal, EndsBy, IsLastEnd, MayStart, IsByRule, GoesBack, IsChainBack, IsChain, length_of}
use Rattle.gs_plan.specs.Planned.{slots_of, starts_of, HaveRows, AreRows, IsPlan}
use Rattle.gs_plan.specs.declared.table.Placed.{Placed}
use Rattle.gs_plan.specs.declared.table.Plan.{Plan}
use Rattle.gs_plan.specs.Ties.{Ordered, AreTies}
use Rattle.gs_plan.specs.declared.ties.Ties.{Ties}
use Rattle.gs_plan.proofs.Choosing.{ties_rise}
use Rattle.gs_plan.proofs.Bound.{Rises, planned, work_least, chain_least, back_is_chain}

-- ---- rows

row_or_last : (rows : List Placed) (row : Placed) (k : ℕ) (t : Placed) → slice_get (rows ++ row ∷ []) k ≡ Some t → ((k < length rows) × (slice_get rows k ≡ Some t)) ⊎ ((k ≡ length rows) × (row ≡ t))
row_or_last [] row zero t e = inr (refl, cc)
row_or_last [] row (suc k) t e = absurd cc
row_or_last (r ∷ rs) row zero t e = inl (omega arith, e)
row_or_last (r ∷ rs) row (suc k) t e = elim (row_or_last rs row k t e) [
  | inl (l, is) ↦ inl (omega arith, is)
  | inr (l, is) ↦ inr (ap suc l, is)
]

pub row_more : (f : Placed → ℕ) (rows rows' : List Placed) (row : Placed) (xs : List ℕ) (i : ℕ) → rows' ≡ rows ++ row ∷ [] → i < length xs → f row ≡ get_or xs i 0 → map f rows ≡ take i xs →
    map f rows' ≡ take (i + 1) xs
row_more f rows rows' row xs i e l is before =
    ap (λ (rs : List Placed). map f rs) e ∙ map-append f rows (row ∷ []) ∙ ap (λ (ys : List ℕ). ys ++ f row ∷ []) before ∙ ap (λ (y : ℕ). take i xs ++ y ∷ []) is ∙ sym (take_more xs i 0 l)

pub rows_more : (rows rows' : List Placed) (row : Placed) (ends : List ℕ) → rows' ≡ rows ++ row ∷ [] → row.n ≡ length rows + 1 → row.end ≡ get_or ends (length rows) 0 → HaveRows rows ends → HaveRows rows' ends
rows_more rows rows' row ends e n end before k t is =
    elim (row_or_last rows row k t (subst (λ (rs : List Placed). slice_get rs k ≡ Some t) e is)) [
      | inl (l, old) ↦ before k t old
      | inr (l, same) ↦
          (ap (λ (r : Placed). r.n) (sym same) ∙ n ∙ (omega arith), ap (λ (r : Placed). r.end) (sym same) ∙ end ∙ ap (λ (i : ℕ). get_or ends i 0) (sym l))
    ]

start_at : (tasks : List Placed) (k : ℕ) (t : Placed) → slice_get tasks k ≡ Some t → get_or (starts_of tasks) k 0 ≡ t.start
start_at [] k t e = absurd cc
start_at (x ∷ xs) zero t e = let same : x ≡ t = cc in ap (λ (r : Placed). r.start) same
start_at (x ∷ xs) (suc k) t e = start_at xs k t e

row_in : (tasks : List Placed) (k : ℕ) (t : Placed) → slice_get tasks k ≡ Some t → k < length tasks
row_in [] k t e = absurd cc
row_in (x ∷ xs) zero t e = omega arith
row_in (x ∷ xs) (suc k) t e = let r = row_in xs k t e in omega arith

pub rows_are : (longs ends : List ℕ) (tasks : List Placed) → HaveRows tasks ends → length tasks ≡ length longs → ((k : ℕ) → k < length longs → get_or ends k 0 ≡ end_of longs (starts_of tasks) k) → AreRows longs tasks
rows_are longs ends tasks have size same k t is =
    let row = have k t is in
    let inside = row_in tasks k t is in
    (row.0, row.1 ∙ same k (omega arith) ∙ ap (λ (s : ℕ). s + get_or longs k 0) (start_at tasks k t is))

-- ---- the same with another way to say what follows what

may_same : (longs : List ℕ) (R Q : ℕ → ℕ → Type 0) (starts : List ℕ) (j t : ℕ) → ((i j : ℕ) → R i j → Q i j) → MayStart longs Q starts j t → MayStart longs R starts j t
may_same longs R Q starts j t from may i is = may i (from i j is)

pub legal_same : (m : ℕ) (longs : List ℕ) (R Q : ℕ → ℕ → Type 0) (slots starts : List ℕ) → ((i j : ℕ) → Q i j → R i j) → IsLegal m longs R slots starts → IsLegal m longs Q slots starts
legal_same m longs R Q slots starts to legal = record {
  slot_each = legal.slot_each;
  start_each = legal.start_each;
  on_slot = legal.on_slot;
  apart = legal.apart;
  ordered = λ i j is. legal.ordered i j (to i j is);
}

rule_same : (m : ℕ) (longs : List ℕ) (R Q : ℕ → ℕ → Type 0) (slots starts : List ℕ) → ((i j : ℕ) → R i j → Q i j) → ((i j : ℕ) → Q i j → R i j) → IsByRule m longs R slots starts → IsByRule m longs Q slots starts
rule_same m longs R Q slots starts from to rule = record {
  legal = legal_same m longs R Q slots starts to rule.legal;
  at_once = λ j t l before may. rule.at_once j t l before (may_same longs R Q starts j t from may);
  least_task = λ j k l less may. rule.least_task j k l less (may_same longs R Q starts k (get_or starts j 0) from may);
  least_slot = rule.least_slot;
}

back_same : (longs : List ℕ) (R Q : ℕ → ℕ → Type 0) (starts chain : List ℕ) → ((i j : ℕ) → R i j → Q i j) → ((i j : ℕ) → Q i j → R i j) → GoesBack longs R starts chain → GoesBack longs Q starts chain
back_same longs R Q starts [] from to back = tt
back_same longs R Q starts (j ∷ []) from to back = λ i is. back i (to i j is)
back_same longs R Q starts (j ∷ (b ∷ rest)) from to (latest, back) =
    (record { one = from b j latest.one; latest = λ i is. latest.latest i (to i j is) }, back_same longs R Q starts (b ∷ rest) from to back)

chain_same : (R Q : ℕ → ℕ → Type 0) (n : ℕ) (chain : List ℕ) → ((i j : ℕ) → R i j → Q i j) → IsChain R n chain → IsChain Q n chain
chain_same R Q n [] from is = tt
chain_same R Q n (x ∷ []) from is = is
chain_same R Q n (x ∷ (y ∷ rest)) from (inside, one, is) = (inside, from x y one, chain_same R Q n (y ∷ rest) from is)

pub plan_same : (m : ℕ) (longs : List ℕ) (R Q : ℕ → ℕ → Type 0) (p : Plan) → ((i j : ℕ) → R i j → Q i j) → ((i j : ℕ) → Q i j → R i j) → IsPlan m longs R p → IsPlan m longs Q p
plan_same m longs R Q p from to is = record {
  rows = is.rows;
  rule = rule_same m longs R Q (slots_of p.tasks) (starts_of p.tasks) from to is.rule;
  end = is.end;
  work = is.work;
  back = is.back;
  is_back = record { last = is.is_back.last; back = back_same longs R Q (starts_of p.tasks) is.back from to is.is_back.back };
  chain = is.chain;
  is_chain = chain_same R Q (length longs) (reverse is.back) from is.is_chain;
  length_is = is.length_is;
}

-- ---- what a plan tells

pub plan_bound : (m : ℕ) (longs : List ℕ) (R : ℕ → ℕ → Type 0) (p : Plan) → 1 ≤ m → Rises R (length longs) → IsPlan m longs R p → m * p.end ≤ p.work + (m - 1) * p.length
plan_bound m longs R p some rises is =
    rw (is.work, is.length_is) (planned m longs R (slots_of p.tasks) (starts_of p.tasks) p.end is.back some rises is.rule is.end is.is_back)

pub plan_least : (m : ℕ) (longs : List ℕ) (R : ℕ → ℕ → Type 0) (p : Plan) (slots starts : List ℕ) (end : ℕ) → IsPlan m longs R p → IsLegal m longs R slots starts → EndsBy longs starts end →
    (p.length ≤ end) × (p.work ≤ m * end)
plan_least m longs R p slots starts end is legal ends =
    (rw is.length_is (chain_least m longs R (starts_of p.tasks) slots starts end is.back legal ends is.is_back), rw is.work (work_least m longs R slots starts end legal ends))

-- ---- a plan from its parts

pub plan_is : (m : ℕ) (longs : List ℕ) (t : Ties) (slots starts ends back : List ℕ) (tasks : List Placed) (p : Plan) → AreTies t (length longs) →
    IsByRule m longs (Ordered t) slots starts → ((k : ℕ) → k < length longs → get_or ends k 0 ≡ end_of longs starts k) →
    slots_of tasks ≡ slots → starts_of tasks ≡ starts → HaveRows tasks ends → IsLastEnd longs starts p.end → IsChainBack longs (Ordered t) starts back →
    p.tasks ≡ tasks → p.work ≡ sum longs → p.chain ≡ map suc (reverse back) → p.length ≡ length_of longs back → IsPlan m longs (Ordered t) p
plan_is m longs t slots starts ends back tasks p ties rule same is_slots is_starts rows last chain is_tasks is_work is_chain is_length =
    let s : slots_of p.tasks ≡ slots = ap slots_of is_tasks ∙ is_slots in
    let b : starts_of p.tasks ≡ starts = ap starts_of is_tasks ∙ is_starts in
    let P : List ℕ → Type 0 = λ xs. IsByRule m longs (Ordered t) xs starts in
    let Q : List ℕ → Type 0 = λ xs. IsByRule m longs (Ordered t) (slots_of p.tasks) xs in
    let L : List ℕ → Type 0 = λ xs. IsLastEnd longs xs p.end in
    let C : List ℕ → Type 0 = λ xs. IsChainBack longs (Ordered t) xs back in
    let W : List Placed → Type 0 = λ xs. HaveRows xs ends in
    let T : List ℕ → Type 0 = λ xs. (k : ℕ) → k < length longs → get_or ends k 0 ≡ end_of longs xs k in
    let size : length p.tasks ≡ length longs = sym (length-map p.tasks (λ (r : Placed). r.slot)) ∙ ap (λ (xs : List ℕ). length xs) s ∙ rule.legal.slot_each in
    record {
      rows = rows_are longs ends p.tasks (subst W (sym is_tasks) rows) size (subst T (sym b) same);
      rule = subst Q (sym b) (subst P (sym s) rule);
      end = subst L (sym b) last;
      work = is_work;
      back = back;
      is_back = subst C (sym b) chain;
      chain = is_chain;
      is_chain = back_is_chain longs (Ordered t) starts back (ties_rise t (length longs) ties) chain;
      length_is = is_length;
    }
