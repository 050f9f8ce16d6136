-- A text has at most one first fault.
use Rattle.std.proofs.Common.{◌≡◌, ℕ, zero, suc, ◌<◌, ◌≤◌, true, false, List, [], ◌∷◌, ◌++◌, length, refl, sym, ap, subst, ◌∙◌, arith, inl, inr, ◌⊎◌}
use Rattle.std.specs.List.{list_all}
use Rattle.std.proofs.lemmas.Bool.{cases_lt}
use Rattle.gs_types.specs.Name.{IsName}
use Rattle.gs_idl.specs.Interface.{Signature}
use Rattle.gs_broker.specs.Text.{may_stand, IsContent, HasWords, Parts, words_of, HasParts, IsSlots, IsRight, are_known, Entry, is_twice, IsLineFault, bad_byte, bad_line, bad_name, bad_slots, unknown_op, twice, too_many, LinesSay, GoesWrong, IsFault, too_long, wrong, empty}
use Rattle.gs_broker.specs.declared.kind.WorkersKind.{WorkersKind}
use Rattle.gs_broker.specs.declared.kind.WorkersKind.TheVariants.{TooLong, BadByte, BadLine, BadName, BadSlots, UnknownOp, Twice, TooMany, Empty}
use Rattle.gs_broker.proofs.Cutting.{content_one, words_stand}
use Rattle.gs_broker.proofs.OneList.{has_one, same_parts, lines_one, stops_there, same_lines}

-- ---- the order of the tests of a line

rank : WorkersKind → ℕ
rank BadByte = 0
rank BadLine = 1
rank BadName = 2
rank BadSlots = 3
rank UnknownOp = 4
rank Twice = 5
rank TooMany = 6
rank TooLong = 7
rank Empty = 8

kind_at : ℕ → WorkersKind
kind_at zero = BadByte
kind_at (suc zero) = BadLine
kind_at (suc (suc zero)) = BadName
kind_at (suc (suc (suc zero))) = BadSlots
kind_at (suc (suc (suc (suc zero)))) = UnknownOp
kind_at (suc (suc (suc (suc (suc zero))))) = Twice
kind_at (suc (suc (suc (suc (suc (suc zero)))))) = TooMany
kind_at (suc (suc (suc (suc (suc (suc (suc zero))))))) = TooLong
kind_at (suc (suc (suc (suc (suc (suc (suc (suc n)))))))) = Empty

kind_of_rank : (k : WorkersKind) → kind_at (rank k) ≡ k
unfolding rank kind_at
kind_of_rank BadByte = refl
kind_of_rank BadLine = refl
kind_of_rank BadName = refl
kind_of_rank BadSlots = refl
kind_of_rank UnknownOp = refl
kind_of_rank Twice = refl
kind_of_rank TooMany = refl
kind_of_rank TooLong = refl
kind_of_rank Empty = refl

-- the line passes so many tests
Passes : List Signature → List ℕ → List Entry → ℕ → Type 0
Passes ops line before zero = Unit {0}
Passes ops line before (suc zero) = (content : List ℕ) → IsContent line content → list_all may_stand content ≡ true
Passes ops line before (suc (suc zero)) = (p : Parts) × HasParts line p
Passes ops line before (suc (suc (suc zero))) = (p : Parts) × HasParts line p × IsName p.name
Passes ops line before (suc (suc (suc (suc zero)))) = (p : Parts) × (slots : ℕ) × HasParts line p × IsName p.name × IsSlots p.slots slots
Passes ops line before (suc (suc (suc (suc (suc zero))))) = (p : Parts) × (slots : ℕ) × IsRight ops line p slots
Passes ops line before (suc (suc (suc (suc (suc (suc n)))))) = (p : Parts) × (slots : ℕ) × IsRight ops line p slots × (is_twice before p ≡ false)

bytes_stand : (line : List ℕ) (words : List (List ℕ)) → HasWords line words → (content : List ℕ) → IsContent line content → list_all may_stand content ≡ true
bytes_stand line words has content is = ap (list_all may_stand) (content_one line content has.content is has.before) ∙ words_stand has.content words has.parted

one_less : (ops : List Signature) (line : List ℕ) (before : List Entry) (n : ℕ) → Passes ops line before (suc n) → Passes ops line before n
unfolding Passes
one_less ops line before zero h = tt
one_less ops line before (suc zero) h = bytes_stand line (words_of h.0) h.1.words
one_less ops line before (suc (suc zero)) h = (h.0, h.1)
one_less ops line before (suc (suc (suc zero))) h = (h.0, h.2, h.3)
one_less ops line before (suc (suc (suc (suc zero)))) h = (h.0, h.1, h.2.parts, h.2.name, h.2.digits)
one_less ops line before (suc (suc (suc (suc (suc zero))))) h = (h.0, h.1, h.2)
one_less ops line before (suc (suc (suc (suc (suc (suc n)))))) h = h

fewer : (ops : List Signature) (line : List ℕ) (before : List Entry) (m n : ℕ) → m ≤ n → Passes ops line before n → Passes ops line before m
fewer ops line before m zero le h = let same : zero ≡ m = omega arith in subst (Passes ops line before) same h
fewer ops line before m (suc n) le h = elim (cases_lt n m) [
  | inl above ↦ let same : suc n ≡ m = omega arith in subst (Passes ops line before) same h
  | inr within ↦ fewer ops line before m n within (one_less ops line before n h)
]

-- a fault passes the tests before its own
passed : (ops : List Signature) (line : List ℕ) (before : List Entry) (k : WorkersKind) → IsLineFault ops line before k → Passes ops line before (rank k)
unfolding Passes rank
passed ops line before k (bad_byte content is fails) = tt
passed ops line before k (bad_line words has some form) = bytes_stand line words has
passed ops line before k (bad_name p parts name) = (p, parts)
passed ops line before k (bad_slots p parts name none) = (p, parts, name)
passed ops line before k (unknown_op p slots parts name digits known) = (p, slots, parts, name, digits)
passed ops line before k (twice p slots right again) = (p, slots, right)
passed ops line before k (too_many p slots right once full) = (p, slots, right, once)

-- and not its own, but for the last
failed : (ops : List Signature) (line : List ℕ) (before : List Entry) (k : WorkersKind) → IsLineFault ops line before k → rank k < 6 → Passes ops line before (suc (rank k)) → ⊥
unfolding Passes rank
failed ops line before k (bad_byte content is fails) lt h = let t = h content is in absurd cc
failed ops line before k (bad_line words has some form) lt h =
    let f = form h.0 (has_one line words (words_of h.0) has h.1.words) in let t = h.1.form in absurd cc
failed ops line before k (bad_name p parts name) lt h = name (subst (λ (r : Parts). IsName r.name) (same_parts line h.0 p h.1 parts) h.2)
failed ops line before k (bad_slots p parts name none) lt h = none h.1 (subst (λ (r : Parts). IsSlots r.slots h.1) (same_parts line h.0 p h.2 parts) h.4)
failed ops line before k (unknown_op p slots parts name digits known) lt h =
    let e = ap (λ (r : Parts). are_known ops r.operations) (same_parts line h.0 p h.2.parts parts) in let t = h.2.known in absurd cc
failed ops line before k (twice p slots right again) lt h =
    let e = ap (is_twice before) (same_parts line h.0 p h.2.parts right.parts) in let t = h.3 in absurd cc
failed ops line before k (too_many p slots right once full) lt h = absurd (omega arith)

last_rank : (ops : List Signature) (line : List ℕ) (before : List Entry) (k : WorkersKind) → IsLineFault ops line before k → rank k ≤ 6
unfolding rank
last_rank ops line before k (bad_byte content is fails) = omega arith
last_rank ops line before k (bad_line words has some form) = omega arith
last_rank ops line before k (bad_name p parts name) = omega arith
last_rank ops line before k (bad_slots p parts name none) = omega arith
last_rank ops line before k (unknown_op p slots parts name digits known) = omega arith
last_rank ops line before k (twice p slots right again) = omega arith
last_rank ops line before k (too_many p slots right once full) = omega arith

not_later : (ops : List Signature) (line : List ℕ) (before : List Entry) (k j : WorkersKind) → IsLineFault ops line before k → IsLineFault ops line before j → rank k < rank j → ⊥
not_later ops line before k j f g lt =
    let most = last_rank ops line before j g in
    failed ops line before k f (omega arith) (fewer ops line before (suc (rank k)) (rank j) (omega arith) (passed ops line before j g))

fault_one : (ops : List Signature) (line : List ℕ) (before : List Entry) (k j : WorkersKind) → IsLineFault ops line before k → IsLineFault ops line before j → k ≡ j
fault_one ops line before k j f g = elim (cases_lt (rank k) (rank j)) [
  | inl lt ↦ absurd (not_later ops line before k j f g lt)
  | inr ge ↦ elim (cases_lt (rank j) (rank k)) [
    | inl lt ↦ absurd (not_later ops line before j k g f lt)
    | inr le ↦ let same : rank k ≡ rank j = omega arith in sym (kind_of_rank k) ∙ ap kind_at same ∙ kind_of_rank j
  ]
]

-- ---- the first line that goes wrong

-- two places in one list are one, or the one stands before the other
Fronts : List (List ℕ) → List ℕ → List (List ℕ) → List ℕ → Type 0
Fronts f l g m = ((f ≡ g) × (l ≡ m)) ⊎ (((rest : List (List ℕ)) × (g ≡ f ++ l ∷ rest)) ⊎ ((rest : List (List ℕ)) × (f ≡ g ++ m ∷ rest)))

fronts : (f g r s : List (List ℕ)) (l m : List ℕ) → f ++ l ∷ r ≡ g ++ m ∷ s → Fronts f l g m
unfolding Fronts
fronts [] [] r s l m e = inl (refl, cc)
fronts [] (y ∷ ys) r s l m e = let h : l ≡ y = cc in inr (inl (ys, ap (λ (x : List ℕ). x ∷ ys) (sym h)))
fronts (x ∷ xs) [] r s l m e = let h : m ≡ x = cc in inr (inr (xs, ap (λ (y : List ℕ). y ∷ xs) (sym h)))
fronts (x ∷ xs) (y ∷ ys) r s l m e =
    let h : x ≡ y = cc in
    let t : xs ++ l ∷ r ≡ ys ++ m ∷ s = cc in
    elim (fronts xs ys r s l m t) [
      | inl same ↦ inl (ap (λ (v : List ℕ). v ∷ xs) h ∙ ap (λ (vs : List (List ℕ)). y ∷ vs) same.0, same.1)
      | inr (inl b) ↦ inr (inl (b.0, ap (λ (v : List ℕ). v ∷ ys) (sym h) ∙ ap (λ (vs : List (List ℕ)). x ∷ vs) b.1))
      | inr (inr b) ↦ inr (inr (b.0, ap (λ (v : List ℕ). v ∷ xs) h ∙ ap (λ (vs : List (List ℕ)). y ∷ vs) b.1))
    ]

earlier : (ops : List Signature) (front rest : List (List ℕ)) (line : List ℕ) (longer : List (List ℕ)) (before after : List Entry) (k : WorkersKind) → longer ≡ front ++ line ∷ rest → LinesSay ops longer [] after → LinesSay ops front [] before → IsLineFault ops line before k → ⊥
earlier ops front rest line longer before after k e says said fault =
    stops_there ops front rest line [] before after k (subst (λ (ls : List (List ℕ)). LinesSay ops ls [] after) e says) said fault

wrong_one : (ops : List Signature) (lines : List (List ℕ)) (n m : ℕ) (k j : WorkersKind) → GoesWrong ops lines n k → GoesWrong ops lines m j → (n ≡ m) × (k ≡ j)
unfolding Fronts
wrong_one ops lines n m k j a b = elim (fronts a.front b.front a.rest b.rest a.line b.line (sym a.place ∙ b.place)) [
  | inl same ↦
      let said = subst (λ (ls : List (List ℕ)). LinesSay ops ls [] a.before) same.0 a.said in
      let workers = lines_one ops b.front [] a.before b.before said b.said in
      let fault = subst (λ (v : List Entry). IsLineFault ops b.line v k) workers (subst (λ (l : List ℕ). IsLineFault ops l a.before k) same.1 a.fault) in
      (a.count ∙ ap (λ (ls : List (List ℕ)). suc (length ls)) same.0 ∙ sym b.count, fault_one ops b.line b.before k j fault b.fault)
  | inr (inl c) ↦ absurd (earlier ops a.front c.0 a.line b.front a.before b.before k c.1 b.said a.said a.fault)
  | inr (inr c) ↦ absurd (earlier ops b.front c.0 b.line a.front b.before a.before j c.1 a.said b.said b.fault)
]

not_empty : (ops : List Signature) (lines : List (List ℕ)) (n : ℕ) (k : WorkersKind) → GoesWrong ops lines n k → LinesSay ops lines [] [] → ⊥
not_empty ops lines n k a says = earlier ops a.front a.rest a.line lines a.before [] k a.place says a.said a.fault

pub fails_once : (ops : List Signature) (bytes : List ℕ) (n m : ℕ) (k j : WorkersKind) → IsFault ops bytes n k → IsFault ops bytes m j → (n ≡ m) × (k ≡ j)
fails_once ops bytes n m k j (too_long long) (too_long long') = (refl, refl)
fails_once ops bytes n m k j (too_long long) (wrong lines number kind short are goes) = absurd (omega arith)
fails_once ops bytes n m k j (too_long long) (empty lines short are said) = absurd (omega arith)
fails_once ops bytes n m k j (wrong lines number kind short are goes) (too_long long) = absurd (omega arith)
fails_once ops bytes n m k j (wrong lines number kind short are goes) (wrong lines' number' kind' short' are' goes') =
    wrong_one ops lines' number number' kind kind' (subst (λ (ls : List (List ℕ)). GoesWrong ops ls number kind) (same_lines bytes lines lines' are are') goes) goes'
fails_once ops bytes n m k j (wrong lines number kind short are goes) (empty lines' short' are' said) =
    absurd (not_empty ops lines' number kind (subst (λ (ls : List (List ℕ)). GoesWrong ops ls number kind) (same_lines bytes lines lines' are are') goes) said)
fails_once ops bytes n m k j (empty lines short are said) (too_long long) = absurd (omega arith)
fails_once ops bytes n m k j (empty lines short are said) (wrong lines' number' kind' short' are' goes) =
    absurd (not_empty ops lines number' kind' (subst (λ (ls : List (List ℕ)). GoesWrong ops ls number' kind') (same_lines bytes lines' lines are' are) goes) said)
fails_once ops bytes n m k j (empty lines short are said) (empty lines' short' are' said') = (refl, refl)
