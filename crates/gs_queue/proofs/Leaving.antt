-- The fronts once a task is no longer listed.
use Rattle.std.proofs.Common.{◌≡◌, ◌≢◌, ◌<◌, ◌≤◌, ◌∙◌, ℕ, suc, true, false, sym, ap, subst, List, arith, Option, Some, None, inl, inr, ◌⊎◌}
use Rattle.std.proofs.lemmas.Bool.{cases_lt}
use Rattle.gs_broker.specs.declared.choice.Ready.{Ready}
use Rattle.gs_queue.specs.Numbered.{put_in, without}
use Rattle.gs_queue.specs.Fronts.{are_alike, without_task, stands_in, IsIn, AreFronts, NoneBetween, IsNextAlike}
use Rattle.gs_queue.proofs.Rising.{rises_put, rises_without}
use Rattle.gs_queue.proofs.Places.{put_get, get_put, put_there, without_get, get_without}
use Rattle.gs_queue.proofs.Leading.{here, elsewhere, apart_or_not, one_task, without_cases, alike_back, alike_on, not_both, Led, led, led_of, standing, not_standing}
use Rattle.gs_queue.proofs.Entering.{Sets, front_low}

-- a listed task that stays
stays : (task : ℕ → Option Ready) (n : ℕ) (x : Ready) → x.n ≢ n → task x.n ≡ Some x → without_task n task x.n ≡ Some x
stays task n x ne at = elsewhere n x.n None (task x.n) (λ s. ne (sym s)) ∙ at

-- it was no front
pub left_behind : (size : ℕ) (task : ℕ → Option Ready) (last : ℕ → ℕ) (fs : List Ready) (r : Ready) → AreFronts size task last fs → stands_in r.n fs ≡ false → AreFronts size (without_task r.n task) last fs
left_behind size task last fs r are none = record {
  rising = are.rising;
  listed = λ x at. stays task r.n x (not_standing r.n fs x at.0 none at.1) (are.listed x at);
  apart = are.apart;
  led = λ n x at. are.led n x (without_cases r.n task n x at).1;
}

-- the front of a task that is not the one that left, or it is that one
front_cases : (task : ℕ → Option Ready) (last : ℕ → ℕ) (fs : List Ready) (r : Ready) (n : ℕ) (x : Ready) → ((f : Ready) → IsIn f fs → task f.n ≡ Some f) → task r.n ≡ Some r → (l : Led last n x fs) → (r ≡ l.front) ⊎ (IsIn l.front (without r.n fs) × (l.front.n ≢ r.n))
front_cases task last fs r n x listed at l = elim (apart_or_not r.n l.front.n) [
  | inl same ↦ inl (one_task (task r.n) r l.front at (ap task same ∙ listed l.front l.stands))
  | inr ne ↦ inr (get_without r.n fs l.front l.stands.0 l.stands.1 (λ s. ne (sym s)), λ s. ne (sym s))
]

-- it was the last of its kind
pub left_last : (size : ℕ) (task : ℕ → Option Ready) (last : ℕ → ℕ) (fs : List Ready) (r : Ready) → AreFronts size task last fs → task r.n ≡ Some r → NoneBetween task r (suc (last r.n)) → AreFronts size (without_task r.n task) last (without r.n fs)
left_last size task last fs r are at none = record {
  rising = rises_without 1 size r.n fs are.rising;
  listed = λ x on. let h = without_get r.n fs x on.0 on.1 in stays task r.n x h.1 (are.listed x h.0);
  apart = λ x y on under. are.apart x y (without_get r.n fs x on.0 on.1).0 (without_get r.n fs y under.0 under.1).0;
  led = λ n x on. let h = without_cases r.n task n x on in let l = led last n x fs (are.led n x h.1) in led_of last n x (without r.n fs) (leading n x h.0 h.1 l (front_cases task last fs r n x are.listed at l));
}
  where
    leading : (n : ℕ) (x : Ready) → r.n ≢ n → task n ≡ Some x → (l : Led last n x fs) → (r ≡ l.front) ⊎ (IsIn l.front (without r.n fs) × (l.front.n ≢ r.n)) → Led last n x (without r.n fs)
    leading n x ne is l (inl same) =
        let number : r.n ≡ l.front.n = ap (λ (y : Ready). y.n) same in
        let ends : last r.n ≡ last l.front.n = ap last number in
        let first = l.first in
        let within = l.within in
        absurd (not_both (are_alike r x) (subst (λ (y : Ready). are_alike y x ≡ true) (sym same) l.alike) (none n x (omega arith) (omega arith) is))
    leading n x ne is l (inr there) = record { front = l.front; stands = there.0; alike = l.alike; first = l.first; within = l.within }

-- there is a next one of its kind
pub left_next : (size : ℕ) (task : ℕ → Option Ready) (last now : ℕ → ℕ) (fs : List Ready) (r g : Ready) → AreFronts size task last fs → task r.n ≡ Some r → stands_in r.n fs ≡ true → g.n ≤ size → IsNextAlike task r (last r.n) (Some g) → Sets g.n (last r.n) last now → AreFronts size (without_task r.n task) now (put_in g (without r.n fs))
left_next size task last now fs r g are at stood below next sets = record {
  rising = rises_put 1 size (without r.n fs) g (rises_without 1 size r.n fs are.rising) low below (λ i x on same. not_next x (was x (i, on)).0 (was x (i, on)).1 same);
  listed = λ x on. listed x (put_get (without r.n fs) g x on.0 on.1);
  apart = λ x y on under. apart x y (put_get (without r.n fs) g x on.0 on.1) (put_get (without r.n fs) g y under.0 under.1);
  led = λ n x on. let h = without_cases r.n task n x on in let l = led last n x fs (are.led n x h.1) in led_of now n x (put_in g (without r.n fs)) (leading n x h.0 h.1 l (front_cases task last fs r n x are.listed at l));
}
  where
    behind : r.n < g.n
    behind = next.1

    low : 1 ≤ g.n
    low = let b = behind in omega arith

    was : (x : Ready) → IsIn x (without r.n fs) → IsIn x fs × (x.n ≢ r.n)
    was x on = without_get r.n fs x on.0 on.1

    -- the task that left was a front
    front : IsIn r fs
    front =
        let s = standing r.n fs stood in
        let same : s.0 ≡ r = one_task (task r.n) s.0 r (ap task (sym s.2) ∙ are.listed s.0 s.1) at in
        subst (λ (y : Ready). IsIn y fs) same s.1

    gone : (x : Ready) → IsIn x fs → x.n ≢ r.n → are_alike r x ≡ true → ⊥
    gone x on ne like = ne (sym (are.apart r x front on like))

    not_next : (x : Ready) → IsIn x fs → x.n ≢ r.n → x.n ≡ g.n → ⊥
    not_next x on ne same =
        let is : g ≡ x = one_task (task g.n) g x next.0 (ap task (sym same) ∙ are.listed x on) in
        gone x on ne (subst (λ (y : Ready). are_alike r y ≡ true) is next.3)

    listed : (x : Ready) → (g ≡ x) ⊎ IsIn x (without r.n fs) → without_task r.n task x.n ≡ Some x
    listed x (inl same) = subst (λ (y : Ready). without_task r.n task y.n ≡ Some y) same (stays task r.n g (λ s. let b = behind in absurd (omega arith)) next.0)
    listed x (inr on) = let h = was x on in stays task r.n x h.1 (are.listed x h.0)

    apart : (x y : Ready) → (g ≡ x) ⊎ IsIn x (without r.n fs) → (g ≡ y) ⊎ IsIn y (without r.n fs) → are_alike x y ≡ true → x.n ≡ y.n
    apart x y (inl a) (inl b) like = ap (λ (z : Ready). z.n) (sym a ∙ b)
    apart x y (inl a) (inr b) like = let h = was y b in absurd (gone y h.0 h.1 (alike_on r g y next.3 (subst (λ (z : Ready). are_alike z y ≡ true) (sym a) like)))
    apart x y (inr a) (inl b) like = let h = was x a in absurd (gone x h.0 h.1 (alike_on r g x next.3 (subst (λ (z : Ready). are_alike z x ≡ true) (sym b) (alike_back x y like))))
    apart x y (inr a) (inr b) like = are.apart x y (was x a).0 (was y b).0 like

    end : now g.n ≡ last r.n
    end = let l = low in sets g.n (omega arith) ∙ here g.n (last r.n) (last g.n)

    -- no task of its kind comes before the next one
    no_earlier : (n : ℕ) (x : Ready) → r.n < n → task n ≡ Some x → are_alike r x ≡ true → g.n ≤ n
    no_earlier n x lt is like = elim (cases_lt n g.n) [
      | inl early ↦ absurd (not_both (are_alike r x) like (next.4 n x lt early is))
      | inr late ↦ omega arith
    ]

    leading : (n : ℕ) (x : Ready) → r.n ≢ n → task n ≡ Some x → (l : Led last n x fs) → (r ≡ l.front) ⊎ (IsIn l.front (without r.n fs) × (l.front.n ≢ r.n)) → Led now n x (put_in g (without r.n fs))
    leading n x ne is l (inl same) =
        let number : r.n ≡ l.front.n = ap (λ (y : Ready). y.n) same in
        let ends : last r.n ≡ last l.front.n = ap last number in
        let first = l.first in
        let within = l.within in
        let e = end in
        let like : are_alike r x ≡ true = subst (λ (y : Ready). are_alike y x ≡ true) (sym same) l.alike in
        record { front = g; stands = put_there (without r.n fs) g; alike = alike_on g r x (alike_back r g next.3) like; first = no_earlier n x (omega arith) is like; within = omega arith }
    leading n x ne is l (inr there) =
        let ends : now l.front.n ≡ last l.front.n = sets l.front.n (front_low size task last fs l.front are l.stands) ∙ elsewhere g.n l.front.n (last r.n) (last l.front.n) (λ s. not_next l.front l.stands there.1 (sym s)) in
        let within = l.within in
        record { front = l.front; stands = get_put (without r.n fs) g l.front there.0.0 there.0.1; alike = l.alike; first = l.first; within = omega arith }
