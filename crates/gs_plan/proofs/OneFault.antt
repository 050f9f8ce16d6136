-- A text has at most one first fault.
use Rattle.std.proofs.Common.{◌≡◌, ℕ, zero, suc, ◌<◌, ◌≤◌, List, [], ◌∷◌, ◌++◌, length, Some, refl, sym, ap, subst, ◌∙◌, arith, inl, inr, ◌⊎◌}
use Rattle.std.proofs.lemmas.Bool.{cases_lt}
use Rattle.gs_idl.specs.Interface.{Signature, op_place}
use Rattle.gs_list.specs.Lines.{HasWords, HasBadByte}
use Rattle.gs_list.proofs.Cutting.{lines_one, has_one, has_no_bad}
use Rattle.gs_plan.specs.Durations.{Given, IsDuration, IsLineFault, bad_byte, bad_line, unknown_op, bad_number, twice, LinesSay, none_given, GoesWrong, IsFault, too_long, wrong}
use Rattle.gs_plan.specs.declared.kind.DurKind.{DurKind}
use Rattle.gs_plan.specs.declared.kind.DurKind.TheVariants.{TooLong, BadByte, BadLine, UnknownOp, BadNumber, Twice}
use Rattle.gs_plan.proofs.OneSaying.{same_pair, known, says_one_way, stops_there}

-- ---- the order of the tests of a line

rank : DurKind → ℕ
rank BadByte = 0
rank BadLine = 1
rank UnknownOp = 2
rank BadNumber = 3
rank Twice = 4
rank TooLong = 5

kind_at : ℕ → DurKind
kind_at zero = BadByte
kind_at (suc zero) = BadLine
kind_at (suc (suc zero)) = UnknownOp
kind_at (suc (suc (suc zero))) = BadNumber
kind_at (suc (suc (suc (suc zero)))) = Twice
kind_at (suc (suc (suc (suc (suc n))))) = TooLong

kind_of_rank : (k : DurKind) → kind_at (rank k) ≡ k
unfolding rank kind_at
kind_of_rank BadByte = refl
kind_of_rank BadLine = refl
kind_of_rank UnknownOp = refl
kind_of_rank BadNumber = refl
kind_of_rank Twice = refl
kind_of_rank TooLong = refl

-- the line passes so many tests
Passes : List Signature → List ℕ → ℕ → Type 0
Passes ops line zero = Unit {0}
Passes ops line (suc zero) = HasBadByte line → ⊥
Passes ops line (suc (suc zero)) = (name : List ℕ) × (digits : List ℕ) × HasWords line (name ∷ digits ∷ [])
Passes ops line (suc (suc (suc zero))) = (name : List ℕ) × (digits : List ℕ) × (op : ℕ) × HasWords line (name ∷ digits ∷ []) × (op_place ops name ≡ Some op)
Passes ops line (suc (suc (suc (suc n)))) = (name : List ℕ) × (digits : List ℕ) × (op : ℕ) × (d : ℕ) × HasWords line (name ∷ digits ∷ []) × (op_place ops name ≡ Some op) × IsDuration digits d

one_less : (ops : List Signature) (line : List ℕ) (n : ℕ) → Passes ops line (suc n) → Passes ops line n
unfolding Passes
one_less ops line zero h = tt
one_less ops line (suc zero) h = has_no_bad line (h.0 ∷ h.1 ∷ []) h.2
one_less ops line (suc (suc zero)) h = (h.0, h.1, h.3)
one_less ops line (suc (suc (suc zero))) h = (h.0, h.1, h.2, h.4, h.5)
one_less ops line (suc (suc (suc (suc n)))) h = h

fewer : (ops : List Signature) (line : List ℕ) (m n : ℕ) → m ≤ n → Passes ops line n → Passes ops line m
fewer ops line m zero le h = let same : zero ≡ m = omega arith in subst (Passes ops line) same h
fewer ops line m (suc n) le h = elim (cases_lt n m) [
  | inl above ↦ let same : suc n ≡ m = omega arith in subst (Passes ops line) same h
  | inr within ↦ fewer ops line m n within (one_less ops line n h)
]

-- a fault passes the tests before its own
passed : (ops : List Signature) (line : List ℕ) (before : Given) (k : DurKind) → IsLineFault ops line before k → Passes ops line (rank k)
unfolding Passes rank
passed ops line before k (bad_byte bad) = tt
passed ops line before k (bad_line words has some form) = has_no_bad line words has
passed ops line before k (unknown_op name digits has none) = (name, digits, has)
passed ops line before k (bad_number name digits op has place none) = (name, digits, op, has, place)
passed ops line before k (twice name digits op d e has place is taken) = (name, digits, op, d, has, place, is)

-- and not its own, but for the last
failed : (ops : List Signature) (line : List ℕ) (before : Given) (k : DurKind) → IsLineFault ops line before k → rank k < 4 → Passes ops line (suc (rank k)) → ⊥
unfolding Passes rank
failed ops line before k (bad_byte bad) lt h = h bad
failed ops line before k (bad_line words has some form) lt h = form h.0 h.1 (has_one line words (h.0 ∷ h.1 ∷ []) has h.2)
failed ops line before k (unknown_op name digits has none) lt h =
    known ops h.0 name h.2 (same_pair line h.0 h.1 name digits h.3 has).name h.4 none
failed ops line before k (bad_number name digits op has place none) lt h =
    none h.3 (subst (λ (w : List ℕ). IsDuration w h.3) (same_pair line h.0 h.1 name digits h.4 has).digits h.6)
failed ops line before k (twice name digits op d e has place is taken) lt h = absurd (omega arith)

last_rank : (ops : List Signature) (line : List ℕ) (before : Given) (k : DurKind) → IsLineFault ops line before k → rank k ≤ 4
unfolding rank
last_rank ops line before k (bad_byte bad) = omega arith
last_rank ops line before k (bad_line words has some form) = omega arith
last_rank ops line before k (unknown_op name digits has none) = omega arith
last_rank ops line before k (bad_number name digits op has place none) = omega arith
last_rank ops line before k (twice name digits op d e has place is taken) = omega arith

not_later : (ops : List Signature) (line : List ℕ) (before : Given) (k j : DurKind) → IsLineFault ops line before k → IsLineFault ops line before j → rank k < rank j → ⊥
not_later ops line before k j f g lt =
    let most = last_rank ops line before j g in
    failed ops line before k f (omega arith) (fewer ops line (suc (rank k)) (rank j) (omega arith) (passed ops line before j g))

fault_one : (ops : List Signature) (line : List ℕ) (before : Given) (k j : DurKind) → IsLineFault ops line before k → IsLineFault ops line before j → k ≡ j
fault_one ops line before k j f g = elim (cases_lt (rank k) (rank j)) [
  | inl lt ↦ absurd (not_later ops line before k j f g lt)
  | inr ge ↦ elim (cases_lt (rank j) (rank k)) [
    | inl lt ↦ absurd (not_later ops line before j k g f lt)
    | inr le ↦ let same : rank k ≡ rank j = omega arith in sym (kind_of_rank k) ∙ ap kind_at same ∙ kind_of_rank j
  ]
]

-- ---- the first line that goes wrong

-- two places in one list are one, or the one stands before the other
Fronts : List (List ℕ) → List ℕ → List (List ℕ) → List ℕ → Type 0
Fronts f l g m = ((f ≡ g) × (l ≡ m)) ⊎ (((rest : List (List ℕ)) × (g ≡ f ++ l ∷ rest)) ⊎ ((rest : List (List ℕ)) × (f ≡ g ++ m ∷ rest)))

fronts : (f g r s : List (List ℕ)) (l m : List ℕ) → f ++ l ∷ r ≡ g ++ m ∷ s → Fronts f l g m
unfolding Fronts
fronts [] [] r s l m e = inl (refl, cc)
fronts [] (y ∷ ys) r s l m e = let h : l ≡ y = cc in inr (inl (ys, ap (λ (x : List ℕ). x ∷ ys) (sym h)))
fronts (x ∷ xs) [] r s l m e = let h : m ≡ x = cc in inr (inr (xs, ap (λ (y : List ℕ). y ∷ xs) (sym h)))
fronts (x ∷ xs) (y ∷ ys) r s l m e =
    let h : x ≡ y = cc in
    let t : xs ++ l ∷ r ≡ ys ++ m ∷ s = cc in
    elim (fronts xs ys r s l m t) [
      | inl same ↦ inl (ap (λ (v : List ℕ). v ∷ xs) h ∙ ap (λ (vs : List (List ℕ)). y ∷ vs) same.0, same.1)
      | inr (inl b) ↦ inr (inl (b.0, ap (λ (v : List ℕ). v ∷ ys) (sym h) ∙ ap (λ (vs : List (List ℕ)). x ∷ vs) b.1))
      | inr (inr b) ↦ inr (inr (b.0, ap (λ (v : List ℕ). v ∷ xs) h ∙ ap (λ (vs : List (List ℕ)). y ∷ vs) b.1))
    ]

earlier : (ops : List Signature) (front rest : List (List ℕ)) (line : List ℕ) (longer : List (List ℕ)) (before after : Given) (k : DurKind) → longer ≡ front ++ line ∷ rest → LinesSay ops longer (none_given ops) after → LinesSay ops front (none_given ops) before → IsLineFault ops line before k → ⊥
earlier ops front rest line longer before after k e says said fault =
    stops_there ops front rest line (none_given ops) before after k (subst (λ (ls : List (List ℕ)). LinesSay ops ls (none_given ops) after) e says) said fault

wrong_one : (ops : List Signature) (lines : List (List ℕ)) (n m : ℕ) (k j : DurKind) → GoesWrong ops lines n k → GoesWrong ops lines m j → (n ≡ m) × (k ≡ j)
unfolding Fronts
wrong_one ops lines n m k j a b = elim (fronts a.front b.front a.rest b.rest a.line b.line (sym a.place ∙ b.place)) [
  | inl same ↦
      let said = subst (λ (ls : List (List ℕ)). LinesSay ops ls (none_given ops) a.before) same.0 a.said in
      let workers = says_one_way ops b.front (none_given ops) a.before b.before said b.said in
      let fault = subst (λ (v : Given). IsLineFault ops b.line v k) workers (subst (λ (l : List ℕ). IsLineFault ops l a.before k) same.1 a.fault) in
      (a.count ∙ ap (λ (ls : List (List ℕ)). suc (length ls)) same.0 ∙ sym b.count, fault_one ops b.line b.before k j fault b.fault)
  | inr (inl c) ↦ absurd (earlier ops a.front c.0 a.line b.front a.before b.before k c.1 b.said a.said a.fault)
  | inr (inr c) ↦ absurd (earlier ops b.front c.0 b.line a.front b.before a.before j c.1 a.said b.said b.fault)
]

pub fails_once : (ops : List Signature) (bytes : List ℕ) (n m : ℕ) (k j : DurKind) → IsFault ops bytes n k → IsFault ops bytes m j → (n ≡ m) × (k ≡ j)
fails_once ops bytes n m k j (too_long long) (too_long long') = (refl, refl)
fails_once ops bytes n m k j (too_long long) (wrong lines number kind short are goes) = absurd (omega arith)
fails_once ops bytes n m k j (wrong lines number kind short are goes) (too_long long) = absurd (omega arith)
fails_once ops bytes n m k j (wrong lines number kind short are goes) (wrong lines' number' kind' short' are' goes') =
    wrong_one ops lines' number number' kind kind' (subst (λ (ls : List (List ℕ)). GoesWrong ops ls number kind) (lines_one bytes lines lines' are are') goes) goes'
