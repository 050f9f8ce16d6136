-- Linking one pair more.
use Rattle.std.proofs.Common.{◌≡◌, ℕ, zero, suc, ◌+◌, ◌<◌, ◌≢◌, inl, inr, List, [], ◌∷◌, length, get_or, set, replicate, Option, Some, None, arith, refl, ap, sym, ◌∙◌, get_or-set_same, get_or-set_other, length-set}
use Rattle.std.proofs.lemmas.List.{length-replicate}
use Rattle.std.proofs.lemmas.Bool.Decides.{eqb_tells}
use Rattle.gs_plan.specs.Ties.{past, link_at, IsIndex}

index_next : (bs : List ℕ) (hs ls hs' ls' : List (Option ℕ)) (n e : ℕ) → IsIndex bs n e hs ls → e < length bs →
    length hs' ≡ n → length ls' ≡ length bs →
    ((i : ℕ) → i ≢ get_or bs e 0 → link_at hs' i ≡ link_at hs i) → link_at hs' (get_or bs e 0) ≡ e + 1 →
    get_or bs e 0 < n →
    link_at ls' e ≡ link_at hs (get_or bs e 0) → ((f : ℕ) → f ≢ e → link_at ls' f ≡ link_at ls f) →
    IsIndex bs n (e + 1) hs' ls'
index_next bs hs ls hs' ls' n e is inside hl ll others here named link links = record {
  heads_each = hl;
  links_each = ll;
  reached = λ k l. elim (eqb_tells (get_or bs k 0) (get_or bs e 0)) [
    | inl same ↦ omega (arith, ap (λ i. link_at hs' i) same.1, here)
    | inr other ↦ elim (eqb_tells k e) [
      | inl at ↦ absurd (other.1 (ap (λ i. get_or bs i 0) at.1))
      | inr ne ↦ omega (arith, others (get_or bs k 0) other.1, is.reached k (omega (arith, ne.1)))
    ]
  ];
  next = λ k f l m same. elim (eqb_tells f e) [
    | inl at ↦ let first : get_or bs k 0 ≡ get_or bs e 0 = same ∙ ap (λ i. get_or bs i 0) at.1 in
        omega (arith, ap (λ i. link_at ls' i) at.1, link, ap (λ i. link_at hs i) first, is.reached k (omega (arith, at.1)))
    | inr ne ↦ omega (arith, links f ne.1, is.next k f l (omega (arith, ne.1)) same)
  ];
  head_is = λ i l. elim (eqb_tells i (get_or bs e 0)) [
    | inl at ↦ inr (e, ap (λ k. link_at hs' k) at.1 ∙ here, omega arith, sym at.1)
    | inr ne ↦ elim (is.head_is i l) [
      | inl none ↦ inl (others i ne.1 ∙ none)
      | inr (k, v, below, named) ↦ inr (k, others i ne.1 ∙ v, omega arith, named)
    ]
  ];
  link_is = λ f l. elim (eqb_tells f e) [
    | inl at ↦ elim (is.head_is (get_or bs e 0) named) [
      | inl none ↦ inl (ap (λ i. link_at ls' i) at.1 ∙ link ∙ none)
      | inr (k, v, below, name) ↦ inr (k, ap (λ i. link_at ls' i) at.1 ∙ link ∙ v, omega (arith, at.1), name ∙ sym (ap (λ i. get_or bs i 0) at.1))
    ]
    | inr ne ↦ elim (is.link_is f (omega (arith, ne.1))) [
      | inl none ↦ inl (links f ne.1 ∙ none)
      | inr (k, v, below, name) ↦ inr (k, links f ne.1 ∙ v, below, name)
    ]
  ];
}

past_same : (xs : List (Option ℕ)) (i : ℕ) (v : Option ℕ) → i < length xs → link_at (set xs i v) i ≡ past v
past_same xs i v l = ap past (get_or-set_same xs i v None l)

past_other : (xs : List (Option ℕ)) (i k : ℕ) (v : Option ℕ) → k ≢ i → link_at (set xs i v) k ≡ link_at xs k
past_other xs i k v ne = ap past (get_or-set_other xs i k v None ne)

pub index_more : (bs : List ℕ) (hs ls : List (Option ℕ)) (n e b : ℕ) (head : Option ℕ) → IsIndex bs n e hs ls → e < length bs → b ≡ get_or bs e 0 → b < n →
    past head ≡ link_at hs b → IsIndex bs n (e + 1) (set hs b (Some e)) (set ls e head)
index_more bs hs ls n e b head is inside at named head_is =
    index_next bs hs ls (set hs b (Some e)) (set ls e head) n e is inside
    (length-set hs b (Some e) ∙ is.heads_each)
    (length-set ls e head ∙ is.links_each)
    (λ i ne. past_other hs b i (Some e) (λ h. ne (h ∙ at)))
    (ap (λ i. link_at (set hs b (Some e)) i) (sym at) ∙ past_same hs b (Some e) (omega (arith, is.heads_each)))
    (omega arith)
    (past_same ls e head (omega (arith, is.links_each)) ∙ head_is ∙ ap (λ i. link_at hs i) at)
    (λ f ne. past_other ls e f head ne)

no_link : (n i : ℕ) → link_at (replicate {A = Option ℕ} n None) i ≡ 0
no_link zero i = refl
no_link (suc n) zero = refl
no_link (suc n) (suc i) = no_link n i

pub index_begins : (bs : List ℕ) (n : ℕ) → IsIndex bs n 0 (replicate n None) (replicate (length bs) None)
index_begins bs n = record {
  heads_each = length-replicate n None;
  links_each = length-replicate (length bs) None;
  reached = λ e l. absurd (omega arith);
  next = λ e f l m. absurd (omega arith);
  head_is = λ i l. inl (no_link n i);
  link_is = λ f l. absurd (omega arith);
}

-- a value read at a place that is there
pub read_link : (xs : List (Option ℕ)) (i : ℕ) (v : Option ℕ) → i < length xs → v ≡ get_or xs i v → past v ≡ link_at xs i
read_link [] i v l is = absurd (omega arith)
read_link (x ∷ xs) zero v l is = ap past is
read_link (x ∷ xs) (suc i) v l is = read_link xs i v (omega arith) is
