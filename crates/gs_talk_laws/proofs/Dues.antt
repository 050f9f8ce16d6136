-- The variables that wait name different places, that were not used.
use Rattle.std.proofs.Common.{◌≡◌, ◌≢◌, ◌<◌, ◌≤◌, ◌+◌, ℕ, zero, suc, true, false, refl, sym, ap, ◌∙◌, subst, List, [], ◌∷◌, ◌++◌, set, length, Some, arith, slice_get, ◌⊎◌, inl, inr, length-append}
use Rattle.gs_idl.specs.Interface.{Param, is_out_scalar}
use Rattle.gs_types.specs.declared.value.Value.{Value}
use Rattle.gs_talk.specs.declared.slot.Slot.{Slot}
use Rattle.gs_talk.specs.declared.slot.Slot.TheVariants.{Held, Due}
use Rattle.gs_talk.specs.declared.question.CallArg.{CallArg}
use Rattle.gs_talk.specs.Talk.{Handed, by_value, into, pended}
use Rattle.gs_talk_laws.specs.Numbers.{at_number}
use Rattle.gs_talk_laws.specs.Uses.{IsCalled, IsIn, is_left, FitsParam}
use Rattle.gs_talk_laws.proofs.Lists.{number_longer, number_within, get_last, RestOf, here_of, after_of, all_of}

set_gives : (vars : List Slot) (i j : ℕ) (x y : Slot) → slice_get (set vars i x) j ≡ Some y → ((j ≡ i) × (x ≡ y)) ⊎ ((j ≢ i) × (slice_get vars j ≡ Some y))
set_gives [] i j x y h = absurd (cc)
set_gives (z ∷ vars) zero zero x y h = inl (refl, cc)
set_gives (z ∷ vars) zero (suc j) x y h = inr (λ e. absurd (omega arith), h)
set_gives (z ∷ vars) (suc i) zero x y h = inr (λ e. absurd (omega arith), h)
set_gives (z ∷ vars) (suc i) (suc j) x y h = elim (set_gives vars i j x y h) [ inl e ↦ inl (ap suc e.0, e.1) | inr e ↦ inr (λ f. e.0 (omega arith), e.1) ]

abbrev pub Calls : Type 0
Calls = List (List CallArg)

abbrev pub Uses : Type 0
Uses = List (ℕ × ℕ)

-- what is known of variable i, which waits for the value of task n at a place
abbrev pub WaitsWell : Calls → Uses → List Slot → (i n place : ℕ) → Type 0
WaitsWell calls uses vars i n place = IsCalled calls n place × (IsIn uses n place → ⊥) × ((j : ℕ) → slice_get vars j ≡ Some (Due n place) → i ≡ j)

pub record Waits (calls : Calls) (uses : Uses) (vars : List Slot) : Type 0 where
  pub before : (n place : ℕ) → IsIn uses n place → n ≤ length calls
  pub waits : (i n place : ℕ) → slice_get vars i ≡ Some (Due n place) → WaitsWell calls uses vars i n place

called_below : (calls : Calls) (n k : ℕ) → IsCalled calls n k → n ≤ length calls
called_below calls n k h = number_within calls n h.args h.called

pub waits_set : (calls : Calls) (uses : Uses) (vars : List Slot) (x : ℕ) (v : Value) → Waits calls uses vars → Waits calls uses (set vars x (Held v))
waits_set calls uses vars x v h = record { before = h.before; waits = λ i n k e. of_slot i n k (set_gives vars x i (Held v) (Due n k) e) }
  where
    others : (i n k : ℕ) → slice_get vars i ≡ Some (Due n k) → (j : ℕ) → ((j ≡ x) × (Held v ≡ Due n k)) ⊎ ((j ≢ x) × (slice_get vars j ≡ Some (Due n k))) → i ≡ j
    others i n k e j (inl f) = absurd (let g : Held v ≡ Due n k = f.1 in cc)
    others i n k e j (inr f) = (h.waits i n k e).2 j f.1

    of_slot : (i n k : ℕ) → ((i ≡ x) × (Held v ≡ Due n k)) ⊎ ((i ≢ x) × (slice_get vars i ≡ Some (Due n k))) → WaitsWell calls uses (set vars x (Held v)) i n k
    of_slot i n k (inl f) = absurd (let g : Held v ≡ Due n k = f.1 in cc)
    of_slot i n k (inr f) = ((h.waits i n k f.1).0, (h.waits i n k f.1).1, λ j g. others i n k f.1 j (set_gives vars x j (Held v) (Due n k) g))

pub waits_used : (calls : Calls) (uses : Uses) (vars : List Slot) (x m l : ℕ) (v : Value) → slice_get vars x ≡ Some (Due m l) → Waits calls uses vars → Waits calls ((m, l) ∷ uses) (set vars x (Held v))
waits_used calls uses vars x m l v is h = record {
  before = λ n k. elim_before n k;
  waits = λ i n k e. of_slot i n k e (set_gives vars x i (Held v) (Due n k) e);
}
  where
    elim_before : (n k : ℕ) → IsIn ((m, l) ∷ uses) n k → n ≤ length calls
    elim_before n k (inl f) = let b = called_below calls m l (h.waits x m l is).0 in omega (arith, f.0)
    elim_before n k (inr f) = h.before n k f

    unused : (i n k : ℕ) → i ≢ x → slice_get vars i ≡ Some (Due n k) → IsIn ((m, l) ∷ uses) n k → ⊥
    unused i n k ne e (inl f) =
        let there : slice_get vars x ≡ Some (Due n k) = is ∙ ap (λ (a : ℕ). Some (Due a l)) f.0 ∙ ap (λ (a : ℕ). Some (Due n a)) f.1 in
        ne ((h.waits i n k e).2 x there)
    unused i n k ne e (inr f) = (h.waits i n k e).1 f

    of_slot : (i n k : ℕ) → slice_get (set vars x (Held v)) i ≡ Some (Due n k) → ((i ≡ x) × (Held v ≡ Due n k)) ⊎ ((i ≢ x) × (slice_get vars i ≡ Some (Due n k))) → WaitsWell calls ((m, l) ∷ uses) (set vars x (Held v)) i n k
    of_slot i n k e (inl f) = absurd (let g : Held v ≡ Due n k = f.1 in cc)
    of_slot i n k e (inr f) = ((h.waits i n k f.1).0, unused i n k f.0 f.1, ((waits_set calls uses vars x v h).waits i n k e).2)

-- ---- a call

-- what is handed fits the parameters: a variable where the operation leaves a number or a string
abbrev pub IsHanded : Handed → Param → Type 0
IsHanded (into i) p = is_out_scalar p ≡ true
IsHanded (by_value t) p = is_out_scalar p ≡ false

abbrev pub IsPassed : Handed → Param → CallArg → Type 0
IsPassed (into i) p a = FitsParam p a × (is_left a ≡ true)
IsPassed (by_value t) p a = FitsParam p a × (is_left a ≡ false)

-- what stands at the places is what was handed
abbrev pub Matches : List Handed → List Param → List CallArg → Type 0
Matches [] ps args = args ≡ []
Matches (h ∷ hs) [] args = ⊥
Matches (h ∷ hs) (p ∷ ps) [] = ⊥
Matches (h ∷ hs) (p ∷ ps) (a ∷ args) = IsPassed h p a × Matches hs ps args

still_called : (calls : Calls) (args : List CallArg) (n k : ℕ) → IsCalled calls n k → IsCalled (calls ++ args ∷ []) n k
still_called calls args n k h = record {
  args = h.args;
  arg = h.arg;
  called = number_longer calls (calls ++ args ∷ []) n h.args (args ∷ [], refl) h.called;
  stands = h.stands;
  left = h.left;
}

abbrev Pending : (calls : Calls) (uses : Uses) (m next : ℕ) (vars : List Slot) → Type 0
Pending calls uses m next vars = (i n k : ℕ) → slice_get vars i ≡ Some (Due n k) → WaitsWell calls uses vars i n k × (n ≡ m → k < next)

wider : (calls : Calls) (uses : Uses) (m next : ℕ) (vars : List Slot) → Pending calls uses m next vars → Pending calls uses m (suc next) vars
wider calls uses m next vars h i n k e = ((h i n k e).0, λ g. let lt = (h i n k e).1 g in omega arith)

one_pends : (calls : Calls) (uses : Uses) (m next x : ℕ) (vars : List Slot) → IsCalled calls m next → (IsIn uses m next → ⊥) → Pending calls uses m next vars → Pending calls uses m (suc next) (set vars x (Due m next))
one_pends calls uses m next x vars called unused h i n k e = of_slot (set_gives vars x i (Due m next) (Due n k) e)
  where
    fresh : (j : ℕ) → slice_get vars j ≡ Some (Due m next) → ⊥
    fresh j f = let lt : next < next = (h j m next f).1 refl in omega arith

    of_slot : ((i ≡ x) × (Due m next ≡ Due n k)) ⊎ ((i ≢ x) × (slice_get vars i ≡ Some (Due n k))) → WaitsWell calls uses (set vars x (Due m next)) i n k × (n ≡ m → k < suc next)
    of_slot (inl f) =
        let is : Due m next ≡ Due n k = f.1 in
        let first : m ≡ n = cc in
        let second : next ≡ k = cc in (
          (
            subst (λ (a : ℕ). IsCalled calls a k) first (subst (λ (a : ℕ). IsCalled calls m a) second called),
            λ g. unused (subst (λ (a : ℕ). IsIn uses a next) (sym first) (subst (λ (a : ℕ). IsIn uses n a) (sym second) g)),
            λ j g. elim (set_gives vars x j (Due m next) (Due n k) g) [ inl p ↦ f.0 ∙ sym p.0 | inr p ↦ absurd (fresh j (p.1 ∙ ap (λ (y : Slot). Some y) (sym is))) ],
          ),
          λ g. omega arith,
        )
    of_slot (inr f) =
        let w = h i n k f.1 in (
          (w.0.0, w.0.1, λ j g. elim (set_gives vars x j (Due m next) (Due n k) g) [ inl p ↦ absurd (fresh i (f.1 ∙ ap (λ (y : Slot). Some y) (sym p.1))) | inr p ↦ w.0.2 j p.1 ]),
          λ g. let lt = w.1 g in omega arith,
        )

all_pend : (calls : Calls) (uses : Uses) (m : ℕ) (all : List CallArg) → at_number calls m ≡ Some all → ((k : ℕ) → IsIn uses m k → ⊥) →
    (hs : List Handed) (ps : List Param) (args : List CallArg) (next : ℕ) (vars : List Slot) → RestOf all next args → Matches hs ps args → Pending calls uses m next vars →
    (i n k : ℕ) → slice_get (pended m next hs vars) i ≡ Some (Due n k) → WaitsWell calls uses (pended m next hs vars) i n k
all_pend calls uses m all at unused [] ps args next vars rest match h i n k e = (h i n k e).0
all_pend calls uses m all at unused (into x ∷ hs) [] args next vars rest match h i n k e = absurd match
all_pend calls uses m all at unused (by_value t ∷ hs) [] args next vars rest match h i n k e = absurd match
all_pend calls uses m all at unused (into x ∷ hs) (p ∷ ps) [] next vars rest match h i n k e = absurd match
all_pend calls uses m all at unused (by_value t ∷ hs) (p ∷ ps) [] next vars rest match h i n k e = absurd match
all_pend calls uses m all at unused (by_value t ∷ hs) (p ∷ ps) (a ∷ args) next vars rest match h i n k e =
    all_pend calls uses m all at unused hs ps args (suc next) vars (after_of all next a args rest) match.1 (wider calls uses m next vars h) i n k e
all_pend calls uses m all at unused (into x ∷ hs) (p ∷ ps) (a ∷ args) next vars rest match h i n k e =
    let called : IsCalled calls m next = record { args = all; arg = a; called = at; stands = here_of all next a args rest; left = match.0.1 } in
    all_pend calls uses m all at unused hs ps args (suc next) (set vars x (Due m next)) (after_of all next a args rest) match.1 (one_pends calls uses m next x vars called (unused next) h) i n k e

pub waits_called : (calls : Calls) (uses : Uses) (tasks : ℕ) (vars : List Slot) (hs : List Handed) (ps : List Param) (args : List CallArg) → tasks ≡ length calls → Matches hs ps args → Waits calls uses vars →
    Waits (calls ++ args ∷ []) uses (pended (tasks + 1) 1 hs vars)
waits_called calls uses tasks vars hs ps args count match h =
    let longer : length (calls ++ args ∷ []) ≡ length calls + 1 = length-append calls (args ∷ []) in
    let number : tasks + 1 ≡ suc (length calls) = omega (arith, count) in
    let at : at_number (calls ++ args ∷ []) (tasks + 1) ≡ Some args = rw number (get_last calls args) in
    let unused : (k : ℕ) → IsIn uses (tasks + 1) k → ⊥ = λ k g. let b : tasks + 1 ≤ length calls = h.before (tasks + 1) k g in absurd (omega (arith, count)) in
    let begin : Pending (calls ++ args ∷ []) uses (tasks + 1) 1 vars =
    λ i n k e. (
      (still_called calls args n k (h.waits i n k e).0, (h.waits i n k e).1, (h.waits i n k e).2),
      λ g. let b = called_below calls n k (h.waits i n k e).0 in absurd (omega (arith, count)),
    ) in
    record {
      before = λ n k g. let b : n ≤ length calls = h.before n k g in omega (arith, longer);
      waits = all_pend (calls ++ args ∷ []) uses (tasks + 1) args at unused hs ps args 1 vars (all_of args) match begin;
    }
