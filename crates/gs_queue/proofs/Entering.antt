-- The fronts once a task is listed.
use Rattle.std.proofs.Common.{◌≡◌, ◌≢◌, ◌<◌, ◌≤◌, ◌∙◌, ℕ, true, false, sym, ap, subst, List, length, arith, Option, Some, None, max, if◌then◌else◌, inl, inr, ◌⊎◌}
use Rattle.std.specs.Prelude.{◌==◌}
use Rattle.gs_broker.specs.declared.choice.Ready.{Ready}
use Rattle.gs_queue.specs.Numbered.{rises, put_in, without}
use Rattle.gs_queue.specs.Fronts.{are_alike, with_task, IsIn, AreFronts}
use Rattle.gs_queue.proofs.Rising.{rises_get, rises_put, rises_without, rises_length}
use Rattle.gs_queue.proofs.Places.{put_get, get_put, put_there, without_get, get_without, put_length}
use Rattle.gs_queue.proofs.Leading.{here, elsewhere, apart_or_not, none_some, with_cases, alike_self, alike_back, alike_on, not_both, Led, led, led_of}

-- what is known where a task enters: it was not listed
pub record Enters (size : ℕ) (task : ℕ → Option Ready) (last : ℕ → ℕ) (fs : List Ready) (r : Ready) : Type 0 where
  pub are : AreFronts size task last fs
  pub above : 0 < r.n
  pub below : r.n ≤ size
  pub absent : task r.n ≡ None

-- `last` with another value at n
abbrev pub Sets : ℕ → ℕ → (ℕ → ℕ) → (ℕ → ℕ) → Type 0
Sets n end last now = (m : ℕ) → 0 < m → now m ≡ (if n == m then end else last m)

not_it : (task : ℕ → Option Ready) (r x : Ready) → task r.n ≡ None → task x.n ≡ Some x → x.n ≢ r.n
not_it task r x absent at same = none_some (task x.n) x (ap task same ∙ absent) at

pub front_low : (size : ℕ) (task : ℕ → Option Ready) (last : ℕ → ℕ) (fs : List Ready) (f : Ready) → AreFronts size task last fs → IsIn f fs → 0 < f.n
front_low size task last fs f are at = let h = rises_get 1 size fs at.0 f are.rising at.1 in let low = h.0 in omega arith

-- a listed front stays listed
stays : (task : ℕ → Option Ready) (r x : Ready) → x.n ≢ r.n → task x.n ≡ Some x → with_task r task x.n ≡ Some x
stays task r x ne at = elsewhere r.n x.n (Some r) (task x.n) (λ s. ne (sym s)) ∙ at

is_there : (task : ℕ → Option Ready) (r : Ready) → with_task r task r.n ≡ Some r
is_there task r = here r.n (Some r) (task r.n)

-- its kind had no front
pub entered_first : (size : ℕ) (task : ℕ → Option Ready) (last now : ℕ → ℕ) (fs : List Ready) (r : Ready) → Enters size task last fs r → ((f : Ready) → IsIn f fs → are_alike f r ≡ false) → Sets r.n r.n last now → AreFronts size (with_task r task) now (put_in r fs)
entered_first size task last now fs r enters none sets = record {
  rising = rises_put 1 size fs r enters.are.rising low enters.below (λ i x at. other x (i, at));
  listed = λ f at. listed f (put_get fs r f at.0 at.1);
  apart = λ f g at on. apart f g (put_get fs r f at.0 at.1) (put_get fs r g on.0 on.1);
  led = λ n x at. led_of now n x (put_in r fs) (leading n x (with_cases r task n x at));
}
  where
    low : 1 ≤ r.n
    low = let a = enters.above in omega arith

    other : (x : Ready) → IsIn x fs → x.n ≢ r.n
    other x at = not_it task r x enters.absent (enters.are.listed x at)

    listed : (f : Ready) → (r ≡ f) ⊎ IsIn f fs → with_task r task f.n ≡ Some f
    listed f (inl same) = subst (λ (x : Ready). with_task r task x.n ≡ Some x) same (is_there task r)
    listed f (inr at) = stays task r f (other f at) (enters.are.listed f at)

    apart : (f g : Ready) → (r ≡ f) ⊎ IsIn f fs → (r ≡ g) ⊎ IsIn g fs → are_alike f g ≡ true → f.n ≡ g.n
    apart f g (inl a) (inl b) alike = ap (λ (x : Ready). x.n) (sym a ∙ b)
    apart f g (inl a) (inr b) alike = absurd (not_both (are_alike g r) (subst (λ (x : Ready). are_alike g x ≡ true) (sym a) (alike_back f g alike)) (none g b))
    apart f g (inr a) (inl b) alike = absurd (not_both (are_alike f r) (subst (λ (x : Ready). are_alike f x ≡ true) (sym b) alike) (none f a))
    apart f g (inr a) (inr b) alike = enters.are.apart f g a b alike

    leading : (n : ℕ) (x : Ready) → ((r.n ≡ n) × (r ≡ x)) ⊎ ((r.n ≢ n) × (task n ≡ Some x)) → Led now n x (put_in r fs)
    leading n x (inl is) =
        let same = is.0 in
        let end : now r.n ≡ r.n = sets r.n enters.above ∙ here r.n r.n (last r.n) in
        record { front = r; stands = put_there fs r; alike = subst (λ (y : Ready). are_alike r y ≡ true) is.1 (alike_self r); first = omega arith; within = omega arith }
    leading n x (inr is) =
        let l = led last n x fs (enters.are.led n x is.1) in
        let end : now l.front.n ≡ last l.front.n = sets l.front.n (front_low size task last fs l.front enters.are l.stands) ∙ elsewhere r.n l.front.n r.n (last l.front.n) (λ s. other l.front l.stands (sym s)) in
        let within = l.within in
        record { front = l.front; stands = get_put fs r l.front l.stands.0 l.stands.1; alike = l.alike; first = l.first; within = omega arith }

-- its kind has an earlier front
pub entered_behind : (size : ℕ) (task : ℕ → Option Ready) (last now : ℕ → ℕ) (fs : List Ready) (r f : Ready) → Enters size task last fs r → IsIn f fs → are_alike f r ≡ true → f.n < r.n → Sets f.n (max (last f.n) r.n) last now → AreFronts size (with_task r task) now fs
entered_behind size task last now fs r f enters at alike before sets = record {
  rising = enters.are.rising;
  listed = λ x on. stays task r x (not_it task r x enters.absent (enters.are.listed x on)) (enters.are.listed x on);
  apart = enters.are.apart;
  led = λ n x on. led_of now n x fs (leading n x (with_cases r task n x on));
}
  where
    end : now f.n ≡ max (last f.n) r.n
    end = sets f.n (front_low size task last fs f enters.are at) ∙ here f.n (max (last f.n) r.n) (last f.n)

    no_less : (x : Ready) → IsIn x fs → last x.n ≤ now x.n
    no_less x on = elim (apart_or_not f.n x.n) [
      | inl same ↦ let a = end in let b = ap last same in let c = ap now same in omega arith
      | inr ne ↦ let a : now x.n ≡ last x.n = sets x.n (front_low size task last fs x enters.are on) ∙ elsewhere f.n x.n (max (last f.n) r.n) (last x.n) ne in omega arith
    ]

    leading : (n : ℕ) (x : Ready) → ((r.n ≡ n) × (r ≡ x)) ⊎ ((r.n ≢ n) × (task n ≡ Some x)) → Led now n x fs
    leading n x (inl is) =
        let same = is.0 in
        let e = end in
        record { front = f; stands = at; alike = subst (λ (y : Ready). are_alike f y ≡ true) is.1 alike; first = omega arith; within = omega arith }
    leading n x (inr is) =
        let l = led last n x fs (enters.are.led n x is.1) in
        let within = l.within in
        let more = no_less l.front l.stands in
        record { front = l.front; stands = l.stands; alike = l.alike; first = l.first; within = omega arith }

-- its kind has a later front
pub entered_before : (size : ℕ) (task : ℕ → Option Ready) (last now : ℕ → ℕ) (fs : List Ready) (r f : Ready) → Enters size task last fs r → IsIn f fs → are_alike f r ≡ true → r.n ≤ f.n → Sets r.n (max (last f.n) r.n) last now → AreFronts size (with_task r task) now (put_in r (without f.n fs))
entered_before size task last now fs r f enters at alike before sets = record {
  rising = rises_put 1 size kept r (rises_without 1 size f.n fs enters.are.rising) low enters.below (λ i x on. other x (was x (i, on)).0);
  listed = λ x on. listed x (put_get kept r x on.0 on.1);
  apart = λ x y on under. apart x y (put_get kept r x on.0 on.1) (put_get kept r y under.0 under.1);
  led = λ n x on. led_of now n x (put_in r kept) (leading n x (with_cases r task n x on));
}
  where
    kept : List Ready
    kept = without f.n fs

    low : 1 ≤ r.n
    low = let a = enters.above in omega arith

    was : (x : Ready) → IsIn x (without f.n fs) → IsIn x fs × (x.n ≢ f.n)
    was x on = without_get f.n fs x on.0 on.1

    other : (x : Ready) → IsIn x fs → x.n ≢ r.n
    other x on = not_it task r x enters.absent (enters.are.listed x on)

    listed : (x : Ready) → (r ≡ x) ⊎ IsIn x (without f.n fs) → with_task r task x.n ≡ Some x
    listed x (inl same) = subst (λ (y : Ready). with_task r task y.n ≡ Some y) same (is_there task r)
    listed x (inr on) = let h = was x on in stays task r x (other x h.0) (enters.are.listed x h.0)

    gone : (x : Ready) → IsIn x (without f.n fs) → are_alike r x ≡ true → ⊥
    gone x on like = let h = was x on in h.1 (sym (enters.are.apart f x at h.0 (alike_on f r x alike like)))

    apart : (x y : Ready) → (r ≡ x) ⊎ IsIn x (without f.n fs) → (r ≡ y) ⊎ IsIn y (without f.n fs) → are_alike x y ≡ true → x.n ≡ y.n
    apart x y (inl a) (inl b) like = ap (λ (z : Ready). z.n) (sym a ∙ b)
    apart x y (inl a) (inr b) like = absurd (gone y b (subst (λ (z : Ready). are_alike z y ≡ true) (sym a) like))
    apart x y (inr a) (inl b) like = absurd (gone x a (subst (λ (z : Ready). are_alike z x ≡ true) (sym b) (alike_back x y like)))
    apart x y (inr a) (inr b) like = enters.are.apart x y (was x a).0 (was y b).0 like

    end : now r.n ≡ max (last f.n) r.n
    end = sets r.n enters.above ∙ here r.n (max (last f.n) r.n) (last r.n)

    -- the new front leads what the old one led
    leading_old : (n : ℕ) (x : Ready) (l : Led last n x fs) → (f.n ≡ l.front.n) ⊎ (f.n ≢ l.front.n) → Led now n x (put_in r (without f.n fs))
    leading_old n x l (inl same) =
        let like : are_alike l.front r ≡ true = subst (λ (y : Ready). are_alike y r ≡ true) (same_front l same) alike in
        let first = l.first in
        let within = l.within in
        let ends : last f.n ≡ last l.front.n = ap last same in
        let e = end in
        record { front = r; stands = put_there (without f.n fs) r; alike = alike_on r l.front x (alike_back l.front r like) l.alike; first = omega arith; within = omega arith }
      where
        same_front : (l : Led last n x fs) → f.n ≡ l.front.n → f ≡ l.front
        same_front l same = let a : Some f ≡ Some l.front = sym (enters.are.listed f at) ∙ ap task same ∙ enters.are.listed l.front l.stands in cc
    leading_old n x l (inr ne) =
        let here_too = get_without f.n fs l.front l.stands.0 l.stands.1 (λ s. ne (sym s)) in
        let ends : now l.front.n ≡ last l.front.n = sets l.front.n (front_low size task last fs l.front enters.are l.stands) ∙ elsewhere r.n l.front.n (max (last f.n) r.n) (last l.front.n) (λ s. other l.front l.stands (sym s)) in
        let within = l.within in
        record { front = l.front; stands = get_put (without f.n fs) r l.front here_too.0 here_too.1; alike = l.alike; first = l.first; within = omega arith }

    leading : (n : ℕ) (x : Ready) → ((r.n ≡ n) × (r ≡ x)) ⊎ ((r.n ≢ n) × (task n ≡ Some x)) → Led now n x (put_in r (without f.n fs))
    leading n x (inl is) =
        let same = is.0 in
        let e = end in
        record { front = r; stands = put_there (without f.n fs) r; alike = subst (λ (y : Ready). are_alike r y ≡ true) is.1 (alike_self r); first = omega arith; within = omega arith }
    leading n x (inr is) = let l = led last n x fs (enters.are.led n x is.1) in leading_old n x l (apart_or_not f.n l.front.n)

-- there is room for one task more
pub fits : (size : ℕ) (rs : List Ready) (r : Ready) → rises 1 size (put_in r rs) ≡ true → length rs < size
fits size rs r rising = let h = rises_length 1 size (put_in r rs) rising (omega arith) in let more = put_length rs r in omega arith
