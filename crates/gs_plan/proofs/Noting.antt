-- Reading each kind of action.
use Rattle.std.proofs.Common.{nat_eq, ◌≡◌, ℕ, suc, ◌+◌, ◌-◌, ◌<◌, ◌≤◌, ◌⊎◌, inl, inr, Bool, true, false, List, ◌∷◌, length, Option, Some, None, if◌then◌else◌, Result, Ok, Err, refl, sym, ap, subst, ◌∙◌, arith}
use Rattle.std.specs.Prelude.{◌==◌, option_map, OnOk}
use Rattle.std.specs.HashMap.{get}
use Rattle.std.proofs.lemmas.Bool.{cases_lt}
use Rattle.gs_types.specs.declared.action.Action.{Action}
use Rattle.gs_types.specs.declared.action.Action.TheVariants as act
use Rattle.gs_plan.specs.Actions.{calls_in, WasCalled, writer_of, is_among}
use Rattle.gs_plan.specs.Ties.{HasNeed}
use Rattle.gs_plan.specs.Scan.{AreNumbered, IsScanned, ScannedOf, AddsNeeds, AddsCall}
use Rattle.gs_plan.specs.declared.scan.Scan.{Scan}
use Rattle.gs_plan.proofs.Scanning.{scanned_needs, scanned_call, adds_none, numbered_call, called_number, writer_called}

pub where_ok : {A E : Type 0} (r : Result A E) (P Q : Type 0) → OnOk r P → (P → Q) → OnOk r Q
where_ok (Ok a) P Q p f = f p
where_ok (Err e) P Q p f = p

pub all_ok : {A E : Type 0} (r : Result A E) (P Q R S : Type 0) → OnOk r P → OnOk r Q → OnOk r R → (P → Q → R → S) → OnOk r S
all_ok (Ok a) P Q R S p q s f = f p q s
all_ok (Err e) P Q R S p q s f = p

-- the map is the same
same_map : (earlier : List Action) (s s' : Scan) → ScannedOf earlier s → s'.writers ≡ s.writers → (name : ℕ) → option_map suc (get nat_eq s'.writers name) ≡ writer_of earlier name
same_map earlier s s' is same name = ap (λ m. option_map suc (get nat_eq m name)) same ∙ is.writers_are name

-- task n alone is needed
one_need : (n i : ℕ) → 1 ≤ n → n ≡ suc i → (n - 1 ≤ i) × (i < n - 1 + 1)
one_need n i low is = (omega arith, omega arith)

pub note_use : (earlier : List Action) (n place : ℕ) (s s' : Scan) → ScannedOf earlier s → 1 ≤ n → n ≤ calls_in earlier →
    AddsNeeds (n - 1) (n - 1 + 1) s.ties s'.ties → s'.writers ≡ s.writers → s'.barred ≡ s.barred → ScannedOf (act.Use n place ∷ earlier) s'
note_use earlier n place s s' is low high adds writers barred =
    scanned_needs (act.Use n place) earlier s.ties s'.ties (λ name. get nat_eq s.writers name) (λ name. get nat_eq s'.writers name) s.barred s'.barred (n - 1) (n - 1 + 1)
    is refl (λ m k h. h) (same_map earlier s s' is writers) adds (omega arith) (λ i a b. omega arith) (λ i h. inl (one_need n i low h)) (omega (arith, is.barred_in)) (λ i l. inl (omega arith))

pub note_result : (earlier : List Action) (n : ℕ) (s s' : Scan) → ScannedOf earlier s → 1 ≤ n → n ≤ calls_in earlier →
    AddsNeeds (n - 1) (n - 1 + 1) s.ties s'.ties → s'.writers ≡ s.writers → s'.barred ≡ s.barred → ScannedOf (act.Result n ∷ earlier) s'
note_result earlier n s s' is low high adds writers barred =
    scanned_needs (act.Result n) earlier s.ties s'.ties (λ name. get nat_eq s.writers name) (λ name. get nat_eq s'.writers name) s.barred s'.barred (n - 1) (n - 1 + 1)
    is refl (λ m k h. h) (same_map earlier s s' is writers) adds (omega arith) (λ i a b. omega arith) (λ i h. inl (one_need n i low h)) (omega (arith, is.barred_in)) (λ i l. inl (omega arith))

-- the task that wrote a file last was called
pub writer_in : (earlier : List Action) (s : Scan) (name v : ℕ) → ScannedOf earlier s → AreNumbered earlier → get nat_eq s.writers name ≡ Some v → v < calls_in earlier
writer_in earlier s name v is numbered some =
    let named : writer_of earlier name ≡ Some (suc v) = sym (is.writers_are name) ∙ ap (option_map suc) some in
    omega (arith, (numbered_call earlier (suc v) numbered (writer_called earlier name (suc v) named)).1)

pub note_read : (earlier : List Action) (name v : ℕ) (s s' : Scan) → ScannedOf earlier s → AreNumbered earlier → get nat_eq s.writers name ≡ Some v →
    AddsNeeds v (v + 1) s.ties s'.ties → s'.writers ≡ s.writers → s'.barred ≡ s.barred → ScannedOf (act.Read name ∷ earlier) s'
note_read earlier name v s s' is numbered some adds writers barred =
    let named : writer_of earlier name ≡ Some (suc v) = sym (is.writers_are name) ∙ ap (option_map suc) some in
    scanned_needs (act.Read name) earlier s.ties s'.ties (λ x. get nat_eq s.writers x) (λ x. get nat_eq s'.writers x) s.barred s'.barred v (v + 1)
    is refl (λ m k h. h) (same_map earlier s s' is writers) adds (omega (arith, writer_in earlier s name v is numbered some))
    (λ i a b. let same : v ≡ i = omega arith in named ∙ ap (λ (k : ℕ). Some (suc k)) same)
    (λ i h. let e = sym named ∙ h in let same : suc v ≡ suc i = cc in inl (omega arith, omega arith)) (omega (arith, is.barred_in)) (λ i l. inl (omega arith))

pub note_read_none : (earlier : List Action) (name : ℕ) (s : Scan) → ScannedOf earlier s → get nat_eq s.writers name ≡ None → ScannedOf (act.Read name ∷ earlier) s
note_read_none earlier name s is none =
    let named : writer_of earlier name ≡ None = sym (is.writers_are name) ∙ ap (option_map suc) none in
    scanned_needs (act.Read name) earlier s.ties s.ties (λ x. get nat_eq s.writers x) (λ x. get nat_eq s.writers x) s.barred s.barred 0 0
    is refl (λ m k h. h) is.writers_are (adds_none 0 s.ties) (omega arith) (λ i a b. absurd (omega arith)) (λ i h. absurd (let e = sym named ∙ h in cc)) is.barred_in (λ i l. inl l)

pub note_write : (earlier : List Action) (name : ℕ) (s s' : Scan) → ScannedOf earlier s → s'.ties ≡ s.ties →
    ((x : ℕ) → get nat_eq s'.writers x ≡ (if name == x then None else get nat_eq s.writers x)) → s'.barred ≡ s.barred → ScannedOf (act.Write name ∷ earlier) s'
note_write earlier name s s' is ties writers barred =
    let all = scanned_needs (act.Write name) earlier s.ties s.ties (λ x. get nat_eq s.writers x) (λ x. get nat_eq s'.writers x) s.barred s'.barred 0 0
    is refl (λ m k h. h) (λ x. ap (option_map suc) (writers x) ∙ turned (name == x) (get nat_eq s.writers x) (writer_of earlier x) (is.writers_are x)) (adds_none 0 s.ties) (omega arith)
    (λ i a b. absurd (omega arith)) (λ i h. absurd h) (omega (arith, is.barred_in)) (λ i l. inl (omega arith)) in
    subst (λ t. IsScanned (act.Write name ∷ earlier) t (λ x. get nat_eq s'.writers x) s'.barred) (sym ties) all
  where
    turned : (b : Bool) (o r : Option ℕ) → option_map suc o ≡ r → option_map suc (if b then None else o) ≡ (if b then None else r)
    turned true o r e = refl
    turned false o r e = e

all_needs : (earlier : List Action) (s : Scan) (i : ℕ) → ScannedOf earlier s → AreNumbered earlier → WasCalled earlier (suc i) → ((s.barred ≤ i) × (i < calls_in earlier)) ⊎ HasNeed s.ties (length s.ties.needed.items) i
all_needs earlier s i is numbered was = elim (cases_lt i s.barred) [
  | inl before ↦ inr (is.barred_all i before)
  | inr after ↦ let number = numbered_call earlier (suc i) numbered was in inl (after, omega (arith, number.1))
]

before_or : (earlier : List Action) (s : Scan) (i : ℕ) → i < calls_in earlier → (i < s.barred) ⊎ ((s.barred ≤ i) × (i < calls_in earlier))
before_or earlier s i l = elim (cases_lt i s.barred) [ inl before ↦ inl before | inr after ↦ inr (after, l) ]

pub note_barrier : (earlier : List Action) (s s' : Scan) → ScannedOf earlier s → AreNumbered earlier → AddsNeeds s.barred (length s.ties.waits.items) s.ties s'.ties →
    s'.writers ≡ s.writers → s'.barred ≡ length s.ties.waits.items → ScannedOf (act.Barrier ∷ earlier) s'
note_barrier earlier s s' is numbered adds writers barred =
    let calls : length s.ties.waits.items ≡ calls_in earlier = is.ties.each in
    let adds' = rw calls at adds in
    scanned_needs act.Barrier earlier s.ties s'.ties (λ x. get nat_eq s.writers x) (λ x. get nat_eq s'.writers x) s.barred s'.barred s.barred (calls_in earlier)
    is refl (λ m k h. h) (same_map earlier s s' is writers) adds' (omega arith)
    (λ i a b. called_number earlier (suc i) numbered (omega arith) (omega arith)) (λ i h. all_needs earlier s i is numbered h) (omega arith) (λ i l. before_or earlier s i (omega arith))

pub note_end : (earlier : List Action) (s s' : Scan) → ScannedOf earlier s → AreNumbered earlier → AddsNeeds s.barred (length s.ties.waits.items) s.ties s'.ties →
    s'.writers ≡ s.writers → s'.barred ≡ length s.ties.waits.items → ScannedOf (act.End ∷ earlier) s'
note_end earlier s s' is numbered adds writers barred =
    let calls : length s.ties.waits.items ≡ calls_in earlier = is.ties.each in
    let adds' = rw calls at adds in
    scanned_needs act.End earlier s.ties s'.ties (λ x. get nat_eq s.writers x) (λ x. get nat_eq s'.writers x) s.barred s'.barred s.barred (calls_in earlier)
    is refl (λ m k h. h) (same_map earlier s s' is writers) adds' (omega arith)
    (λ i a b. called_number earlier (suc i) numbered (omega arith) (omega arith)) (λ i h. all_needs earlier s i is numbered h) (omega arith) (λ i l. before_or earlier s i (omega arith))

pub note_call : (earlier : List Action) (n op : ℕ) (reads written reads' written' : List ℕ) (s s' : Scan) → ScannedOf earlier s → AreNumbered earlier → n ≡ suc (calls_in earlier) →
    AddsCall reads' written' s s' → reads ≡ reads' → written ≡ written' → ScannedOf (act.Call n op reads written ∷ earlier) s'
note_call earlier n op reads written reads' written' s s' is numbered number adds same_reads same_written =
    let calls : length s.ties.waits.items ≡ calls_in earlier = is.ties.each in
    let reading = rw calls at adds.reading in
    let writing = λ (name : ℕ). let e = adds.writing name in let q : get nat_eq s'.writers name ≡ (if is_among name written' then Some (calls_in earlier) else get nat_eq s.writers name) = e ∙ ap (λ (k : ℕ). if is_among name written' then Some k else get nat_eq s.writers name) calls in q in
    let all = scanned_call earlier n op reads' written' s.ties adds.mid s'.ties (λ x. get nat_eq s.writers x) (λ x. get nat_eq s'.writers x) s.barred is numbered number reading
    adds.befores adds.afters adds.needed adds.waits writing reads written same_reads same_written in
    subst (λ (k : ℕ). IsScanned (act.Call n op reads written ∷ earlier) s'.ties (λ x. get nat_eq s'.writers x) k) (sym adds.barred) all
