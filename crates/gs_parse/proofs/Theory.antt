-- Laws of the notation, for any rules.
use Rattle.std.proofs.Common.{◌≡◌, refl, sym, ap, ◌∙◌, subst, List, [], ◌∷◌, ◌++◌, append_assoc, Bool, true, false, ◌⊎◌, inl, inr}
use Rattle.gs_tree.specs.Sign.{Mark}
use Rattle.gs_parse.specs.Notation.{Kind, Value, Part, kind_of, Fit, unfit, too_deep, fit, Rule, gives, take, may, read}
use Rattle.gs_parse.proofs.Good.{Closing, Rejects, Eats, Pick, Good, Ends, AllGood, shuts}
use Rattle.gs_parse.specs.Grammar.{rule}
use Rattle.gs_parse.specs.Reading.{Limits, limited, unlimited, Accepts, Refuses, next_fit, Says, given, taken, chosen, passed, part, Stops, at_take, at_may, after_taken, after_chosen, after_passed, inside, after_part}

accepts_lax : (f : Fit) → Accepts limited f → Accepts unlimited f
accepts_lax fit a = tt
accepts_lax too_deep a = tt
accepts_lax unfit a = a

-- what is said within the limits is said without them
pub lax : (k : Kind) (r : Rule k) (ts : List Mark) (v : Value k) (us : List Mark) → Says limited k r ts v us → Says unlimited k r ts v us
lax k r ts v us (given l k1 v1 ts1) = given unlimited k v ts
lax k r ts v us (taken l k1 f n x xs v1 r1 a h) = taken unlimited k f n x xs v us (accepts_lax (f x) a) (lax k (n x) xs v us h)
lax k r ts v us (chosen l k1 f n o x xs v1 r1 a h) = chosen unlimited k f n o x xs v us (accepts_lax (f x) a) (lax k (n x) xs v us h)
lax k r ts v us (passed l k1 f n o ts1 v1 r1 e h) = passed unlimited k f n o ts v us e (lax k o ts v us h)
lax k r ts v us (part l k1 n next ts1 ms w v1 r1 g h) = part unlimited k n next ts ms w v us (lax (kind_of n) (rule n) ts w ms g) (lax k (next w) ms v us h)

not_both : (l : Limits) (f : Fit) → Accepts l f → f ≡ unfit → ⊥
not_both l f a e = subst (λ (w : Fit). Accepts l w) e a

pub same : (l : Limits) (k : Kind) (r : Rule k) (ts : List Mark) (v : Value k) (us : List Mark) (v2 : Value k) (us2 : List Mark) → Says l k r ts v us → Says l k r ts v2 us2 → (v ≡ v2) × (us ≡ us2)
same l k r ts v us v2 us2 (given l1 k1 v1 ts1) (given l2 k2 v3 ts2) = (refl, refl)
same l k r ts v us v2 us2 (taken l1 k1 f n x xs v1 r1 a h) (taken l2 k2 f2 n2 x2 xs2 v3 r2 a2 h2) = same l k (n x) xs v us v2 us2 h h2
same l k r ts v us v2 us2 (chosen l1 k1 f n o x xs v1 r1 a h) (chosen l2 k2 f2 n2 o2 x2 xs2 v3 r2 a2 h2) = same l k (n x) xs v us v2 us2 h h2
same l k r ts v us v2 us2 (chosen l1 k1 f n o x xs v1 r1 a h) (passed l2 k2 f2 n2 o2 ts2 v3 r2 e h2) = absurd (not_both l (f x) a e)
same l k r ts v us v2 us2 (passed l1 k1 f n o ts1 v1 r1 e h) (chosen l2 k2 f2 n2 o2 x2 xs2 v3 r2 a h2) = absurd (not_both l (f x2) a e)
same l k r ts v us v2 us2 (passed l1 k1 f n o ts1 v1 r1 e h) (passed l2 k2 f2 n2 o2 ts2 v3 r2 e2 h2) = same l k o ts v us v2 us2 h h2
same l k r ts v us v2 us2 (part l1 k1 n next ts1 ms w v1 r1 g h) (part l2 k2 n2 next2 ts2 ms2 w2 v3 r2 g2 h2) =
    let e = same l1 (kind_of n) (rule n) ts1 w ms w2 ms2 g g2 in
    let h3 : Says l1 k1 (next w) ms v2 us2 = subst (λ (z : List Mark). Says l1 k1 (next w) z v2 us2) (sym e.1) (subst (λ (z : Value (kind_of n)). Says l1 k1 (next z) ms2 v2 us2) (sym e.0) h2) in
    same l1 k1 (next w) ms v1 r1 v2 us2 h h3

both_ways : (l : Limits) (f : Fit) → Accepts l f → Refuses l f → ⊥
both_ways limited fit a r = r
both_ways unlimited fit a r = r
both_ways limited too_deep a r = a
both_ways unlimited too_deep a r = r
both_ways limited unfit a r = a
both_ways unlimited unfit a r = a

-- no signs are both read and refused
pub apart : (l : Limits) (k : Kind) (r : Rule k) (ts : List Mark) (v : Value k) (us : List Mark) (w : Fit) (us2 : List Mark) → Says l k r ts v us → Stops l k r ts w us2 → ⊥
apart _ _ _ _ _ _ w us2 (given l k v ts) stop = elim stop [ ]
apart l k r ts v us w us2 (taken l1 k1 f n x xs v1 r1 a h) (at_take l2 k2 f2 n2 ts2 b) = both_ways l (f x) a b
apart l k r ts v us w us2 (taken l1 k1 f n x xs v1 r1 a h) (after_taken l2 k2 f2 n2 x2 xs2 w2 r2 a2 s) = apart l k (n x) xs v us w us2 h s
apart l k r ts v us w us2 (chosen l1 k1 f n o x xs v1 r1 a h) (at_may l2 k2 f2 n2 o2 ts2 b e) = both_ways l (f x) a b
apart l k r ts v us w us2 (chosen l1 k1 f n o x xs v1 r1 a h) (after_chosen l2 k2 f2 n2 o2 x2 xs2 w2 r2 a2 s) = apart l k (n x) xs v us w us2 h s
apart l k r ts v us w us2 (chosen l1 k1 f n o x xs v1 r1 a h) (after_passed l2 k2 f2 n2 o2 ts2 w2 r2 e s) = not_both l (f x) a e
apart l k r ts v us w us2 (passed l1 k1 f n o ts1 v1 r1 e h) (at_may l2 k2 f2 n2 o2 ts2 b e2) = absurd (let no : unfit ≡ too_deep = sym e ∙ e2 in cc)
apart l k r ts v us w us2 (passed l1 k1 f n o ts1 v1 r1 e h) (after_chosen l2 k2 f2 n2 o2 x2 xs2 w2 r2 a2 s) = not_both l (f x2) a2 e
apart l k r ts v us w us2 (passed l1 k1 f n o ts1 v1 r1 e h) (after_passed l2 k2 f2 n2 o2 ts2 w2 r2 e2 s) = apart l k o ts v us w us2 h s
apart l k r ts v us w us2 (part l1 k1 n next ts1 ms z v1 r1 g h) (inside l2 k2 n2 next2 ts2 w2 r2 s) = apart l (kind_of n) (rule n) ts z ms w us2 g s
apart l k r ts v us w us2 (part l1 k1 n next ts1 ms z v1 r1 g h) (after_part l2 k2 n2 next2 ts2 ms2 z2 w2 r2 g2 s) =
    let e = same l (kind_of n) (rule n) ts z ms z2 ms2 g g2 in
    let s2 : Stops l k (next z) ms w us2 = subst (λ (y : List Mark). Stops l k (next z) y w us2) (sym e.1) (subst (λ (y : Value (kind_of n)). Stops l k (next y) ms2 w us2) (sym e.0) s) in
    apart l k (next z) ms v us w us2 h s2

-- a stop at a sign that fits nowhere is one without the limits too
pub lax_stop : (k : Kind) (r : Rule k) (ts : List Mark) (w : Fit) (us : List Mark) → w ≡ unfit → Stops limited k r ts w us → Stops unlimited k r ts w us
lax_stop k r ts w us is (at_take l k1 f n ts1 b) = at_take unlimited k f n ts (subst (λ (z : Fit). Refuses unlimited z) (sym is) tt)
lax_stop k r ts w us is (at_may l k1 f n o ts1 b e) = absurd (let no : unfit ≡ too_deep = sym is ∙ e in cc)
lax_stop k r ts w us is (after_taken l k1 f n x xs w1 r1 a s) = after_taken unlimited k f n x xs w us (accepts_lax (f x) a) (lax_stop k (n x) xs w us is s)
lax_stop k r ts w us is (after_chosen l k1 f n o x xs w1 r1 a s) = after_chosen unlimited k f n o x xs w us (accepts_lax (f x) a) (lax_stop k (n x) xs w us is s)
lax_stop k r ts w us is (after_passed l k1 f n o ts1 w1 r1 e s) = after_passed unlimited k f n o ts w us e (lax_stop k o ts w us is s)
lax_stop k r ts w us is (inside l k1 n next ts1 w1 r1 s) = inside unlimited k n next ts w us (lax_stop (kind_of n) (rule n) ts w us is s)
lax_stop k r ts w us is (after_part l k1 n next ts1 ms z w1 r1 g s) = after_part unlimited k n next ts ms z w us (lax (kind_of n) (rule n) ts z ms g) (lax_stop k (next z) ms w us is s)

-- ---- what follows a text

-- what follows may be changed where no test that was passed sees the difference
pub Alike : List Mark → List Mark → Type 0
Alike us us2 = (f : Mark → Fit) → Rejects f → next_fit f us ≡ unfit → next_fit f us2 ≡ unfit

pub alike_closing : (us us2 : List Mark) → Closing us2 → Alike us us2
unfolding Alike
alike_closing us [] c f rejects e = refl
alike_closing us (x ∷ xs) c f rejects e = rejects x c

pub alike_begun : (p us us2 : List Mark) → Alike us us2 → Alike (p ++ us) (p ++ us2)
unfolding Alike
alike_begun [] us us2 a = a
alike_begun (x ∷ p) us us2 a = λ f rejects e. e

pub alike_head : (x : Mark) (us us2 : List Mark) → Alike (x ∷ us) (x ∷ us2)
unfolding Alike
alike_head x us us2 = λ f rejects e. e

alike_use : (us us2 : List Mark) → Alike us us2 → (f : Mark → Fit) → Rejects f → next_fit f us ≡ unfit → next_fit f us2 ≡ unfit
unfolding Alike
alike_use us us2 a = a

pub record Kept (l : Limits) (k : Kind) (r : Rule k) (ts : List Mark) (v : Value k) (us : List Mark) : Type 0 where
  pub read_ : List Mark
  pub is : ts ≡ read_ ++ us
  pub again : (us2 : List Mark) → Alike us us2 → Says l k r (read_ ++ us2) v us2
  pub some : Eats k r → (x : Mark) × (q : List Mark) × (read_ ≡ x ∷ q)

fit_same : (f : Mark → Fit) (p : List Mark) (x : Mark) (q us us2 : List Mark) → p ≡ x ∷ q → next_fit f (p ++ us) ≡ unfit → next_fit f (p ++ us2) ≡ unfit
fit_same f [] x q us us2 e h = absurd (cc)
fit_same f (y ∷ p) x q us us2 e h = h

some_first : (p q : List Mark) (x : Mark) (z : List Mark) → p ≡ x ∷ z → (y : Mark) × (s : List Mark) × (p ++ q ≡ y ∷ s)
some_first [] q x z e = absurd (cc)
some_first (y ∷ p) q x z e = (y, p ++ q, refl)

other_good : (l : Limits) (b : Bool) (k : Kind) (f : Mark → Fit) (n : Mark → Rule k) (o : Rule k) → Good l b k (may f n o) → (b2 : Bool) × Good l b2 k o
other_good l b k f n o good = elim good.0 [ inl past ↦ (true, past.1) | inr eating ↦ (false, eating.2) ]

pass_again : (l : Limits) (b : Bool) (k : Kind) (f : Mark → Fit) (o : Rule k) (n : Mark → Rule k) → (ts : List Mark) (v : Value k) (us : List Mark) → ((Rejects f × Good l true k o) ⊎ (Eats k o × Pick l b f × Good l false k o)) → next_fit f ts ≡ unfit → (h : Kept l k o ts v us) → (us2 : List Mark) → Alike us us2 → next_fit f (h.read_ ++ us2) ≡ unfit
pass_again l b k f o n ts v us (inl past) e h us2 a = alike_use (h.read_ ++ us) (h.read_ ++ us2) (alike_begun h.read_ us us2 a) f past.0 (subst (λ (z : List Mark). next_fit f z ≡ unfit) h.is e)
pass_again l b k f o n ts v us (inr eating) e h us2 a =
    let some = h.some eating.0 in
    fit_same f h.read_ some.0 some.1 us us2 some.2 (subst (λ (z : List Mark). next_fit f z ≡ unfit) h.is e)

pub kept : AllGood → (l : Limits) (b : Bool) (k : Kind) (r : Rule k) (ts : List Mark) (v : Value k) (us : List Mark) → Good l b k r → Says l k r ts v us → Kept l k r ts v us
kept all l b k r ts v us good (given l1 k1 v1 ts1) = record { read_ = []; is = refl; again = λ us2 a. given l k v us2; some = λ e. absurd e }
kept all l b k r ts v us good (taken l1 k1 f n x xs v1 r1 a h) =
    let i = kept all l false k (n x) xs v us (good.1 x a) h in
    record { read_ = x ∷ i.read_; is = ap (λ z. x ∷ z) i.is; again = λ us2 c. taken l k f n x (i.read_ ++ us2) v us2 a (i.again us2 c); some = λ e. (x, i.read_, refl) }
kept all l b k r ts v us good (chosen l1 k1 f n o x xs v1 r1 a h) =
    let i = kept all l false k (n x) xs v us (good.1 x a) h in
    record { read_ = x ∷ i.read_; is = ap (λ z. x ∷ z) i.is; again = λ us2 c. chosen l k f n o x (i.read_ ++ us2) v us2 a (i.again us2 c); some = λ e. (x, i.read_, refl) }
kept all l b k r ts v us good (passed l1 k1 f n o ts1 v1 r1 e h) =
    let g = other_good l b k f n o good in
    let i = kept all l g.0 k o ts v us g.1 h in
    record { read_ = i.read_; is = i.is; again = λ us2 c. passed l k f n o (i.read_ ++ us2) v us2 (pass_again l b k f o n ts v us good.0 e i us2 c) (i.again us2 c); some = i.some }
kept all l b k r ts v us good (part l1 k1 n next ts1 ms z v1 r1 g h) =
    let i = kept all l (shuts n) (kind_of n) (rule n) ts z ms (all.good l n good.0) g in
    let j = kept all l true k (next z) ms v us (good.2 z) h in
    record {
      read_ = i.read_ ++ j.read_;
      is = i.is ∙ ap (λ y. i.read_ ++ y) j.is ∙ sym (append_assoc i.read_ j.read_ us);
      again = λ us2 a.
          let first : Says l (kind_of n) (rule n) (i.read_ ++ (j.read_ ++ us2)) z (j.read_ ++ us2) = i.again (j.read_ ++ us2) (subst (λ (y : List Mark). Alike y (j.read_ ++ us2)) (sym j.is) (alike_begun j.read_ us us2 a)) in
          subst (λ (y : List Mark). Says l k (read n next) y v us2) (sym (append_assoc i.read_ j.read_ us2)) (part l k n next (i.read_ ++ (j.read_ ++ us2)) (j.read_ ++ us2) z v us2 first (j.again us2 a));
      some = λ e. let s = i.some (all.eating n e) in some_first i.read_ j.read_ s.0 s.1 s.2;
    }

-- ---- ends of texts

pub ends_read : (l : Limits) (b : Bool) (k : Kind) (n : Part) (next : Value (kind_of n) → Rule k) → (i : Ends l (shuts n) (kind_of n) (rule n)) → (b ≡ true → shuts n ≡ true) → Ends l true k (next i.value) → Ends l b k (read n next)
ends_read l b k n next i shut j = record {
  last = i.last ++ j.last;
  value = j.value;
  closing = λ e more c. subst Closing (sym (append_assoc i.last j.last more)) (i.closing (shut e) (j.last ++ more) (j.closing refl more c));
  says = λ more c. subst (λ (y : List Mark). Says l k (read n next) y j.value more) (sym (append_assoc i.last j.last more))
      (part l k n next (i.last ++ (j.last ++ more)) (j.last ++ more) i.value j.value more (i.says (j.last ++ more) (j.closing refl more c)) (j.says more c));
}

pub ends_gives : (l : Limits) (b : Bool) (k : Kind) (v : Value k) → Ends l b k (gives v)
ends_gives l b k v = record { last = []; value = v; closing = λ e more c. c; says = λ more c. given l k v more }

pub ends_take : (l : Limits) (b : Bool) (k : Kind) (f : Mark → Fit) (n : Mark → Rule k) → (i : Pick l b f) → Ends l false k (n i.0) → Ends l b k (take f n)
ends_take l b k f n i j = record { last = i.0 ∷ j.last; value = j.value; closing = λ e more c. i.1 e; says = λ more c. taken l k f n i.0 (j.last ++ more) j.value more i.2 (j.says more c) }

pub ends_choose : (l : Limits) (b : Bool) (k : Kind) (f : Mark → Fit) (n : Mark → Rule k) (o : Rule k) → (i : Pick l b f) → Ends l false k (n i.0) → Ends l b k (may f n o)
ends_choose l b k f n o i j = record { last = i.0 ∷ j.last; value = j.value; closing = λ e more c. i.1 e; says = λ more c. chosen l k f n o i.0 (j.last ++ more) j.value more i.2 (j.says more c) }

closing_unfit : (f : Mark → Fit) → Rejects f → (ts : List Mark) → Closing ts → next_fit f ts ≡ unfit
closing_unfit f rejects [] c = refl
closing_unfit f rejects (x ∷ xs) c = rejects x c

pub ends_pass : (l : Limits) (b : Bool) (k : Kind) (f : Mark → Fit) (n : Mark → Rule k) (o : Rule k) → Rejects f → Ends l true k o → Ends l b k (may f n o)
ends_pass l b k f n o rejects j = record { last = j.last; value = j.value; closing = λ e. j.closing refl; says = λ more c. passed l k f n o (j.last ++ more) j.value more (closing_unfit f rejects (j.last ++ more) (j.closing refl more c)) (j.says more c) }

-- a rule that is good has an end
pub ends : AllGood → (l : Limits) (b : Bool) (k : Kind) (r : Rule k) → Good l b k r → Ends l b k r
ends all l b k (gives v) good = ends_gives l b k v
ends all l b k (take f n) good = ends_take l b k f n good.0 (ends all l false k (n good.0.0) (good.1 good.0.0 good.0.2))
ends all l b k (may f n o) good =
    elim good.0 [
      | inl past ↦ ends_pass l b k f n o past.0 (ends all l true k o past.1)
      | inr eating ↦ ends_choose l b k f n o eating.1 (ends all l false k (n eating.1.0) (good.1 eating.1.0 eating.1.2))
    ]
ends all l b k (read n next) good =
    let i = all.ends l n good.0 in
    ends_read l b k n next i good.1 (ends all l true k (next i.value) (good.2 i.value))

-- ---- where a reading stops, an end may still follow

pub record Viable (l : Limits) (b : Bool) (k : Kind) (r : Rule k) (ts rest : List Mark) : Type 0 where
  pub read_ : List Mark
  pub is : ts ≡ read_ ++ rest
  pub last : List Mark
  pub value : Value k
  pub closing : b ≡ true → read_ ≡ [] → (more : List Mark) → Closing more → Closing (last ++ more)
  pub says : (more : List Mark) → Closing more → Says l k r (read_ ++ (last ++ more)) value more

viable_here : (l : Limits) (b : Bool) (k : Kind) (r : Rule k) (ts : List Mark) → Ends l b k r → Viable l b k r ts ts
viable_here l b k r ts i = record { read_ = []; is = refl; last = i.last; value = i.value; closing = λ shut e. i.closing shut; says = i.says }

alike_viable : (p us rest : List Mark) → us ≡ p ++ rest → (z : List Mark) → (p ≡ [] → Closing z) → Alike us (p ++ z)
alike_viable [] us rest e z c = alike_closing us z (c refl)
alike_viable (x ∷ p) us rest e z c = subst (λ (y : List Mark). Alike y (x ∷ (p ++ z))) (sym e) (alike_head x (p ++ rest) (p ++ z))

not_empty : (x : Mark) (p : List Mark) → x ∷ p ≡ [] → ⊥
not_empty x p e = cc

second_empty : (p q : List Mark) → p ++ q ≡ [] → q ≡ []
second_empty [] q e = e
second_empty (x ∷ p) q e = absurd (cc)

viable_past : AllGood → (l : Limits) (b : Bool) (k : Kind) (f : Mark → Fit) (n : Mark → Rule k) (o : Rule k) (ts rest : List Mark) → Good l b k (may f n o) → next_fit f ts ≡ unfit → (b2 : Bool) → (i : Viable l b2 k o ts rest) → (p : List Mark) → i.read_ ≡ p → Viable l b k (may f n o) ts rest
viable_past all l b k f n o ts rest good e b2 i [] is =
    let same_text : ts ≡ rest = i.is ∙ ap (λ y. y ++ rest) is in
    subst (λ y. Viable l b k (may f n o) ts y) same_text (viable_here l b k (may f n o) ts (ends all l b k (may f n o) good))
viable_past all l b k f n o ts rest good e b2 i (x ∷ q) is = record {
  read_ = i.read_;
  is = i.is;
  last = i.last;
  value = i.value;
  closing = λ shut none. absurd (not_empty x q (sym is ∙ none));
  says = λ more c. passed l k f n o (i.read_ ++ (i.last ++ more)) i.value more (fit_same f i.read_ x q rest (i.last ++ more) is (subst (λ (z : List Mark). next_fit f z ≡ unfit) i.is e)) (i.says more c);
}

pub viable : AllGood → (l : Limits) (b : Bool) (k : Kind) (r : Rule k) (ts : List Mark) (w : Fit) (rest : List Mark) → Good l b k r → Stops l k r ts w rest → Viable l b k r ts rest
viable all l b k r ts w rest good (at_take l1 k1 f n ts1 c) = viable_here l b k r ts (ends all l b k r good)
viable all l b k r ts w rest good (at_may l1 k1 f n o ts1 c e) = viable_here l b k r ts (ends all l b k r good)
viable all l b k r ts w rest good (after_taken l1 k1 f n x xs w1 r1 a s) =
    let i = viable all l false k (n x) xs w rest (good.1 x a) s in
    record { read_ = x ∷ i.read_; is = ap (λ z. x ∷ z) i.is; last = i.last; value = i.value; closing = λ shut e. absurd (not_empty x i.read_ e); says = λ more c. taken l k f n x (i.read_ ++ (i.last ++ more)) i.value more a (i.says more c) }
viable all l b k r ts w rest good (after_chosen l1 k1 f n o x xs w1 r1 a s) =
    let i = viable all l false k (n x) xs w rest (good.1 x a) s in
    record { read_ = x ∷ i.read_; is = ap (λ z. x ∷ z) i.is; last = i.last; value = i.value; closing = λ shut e. absurd (not_empty x i.read_ e); says = λ more c. chosen l k f n o x (i.read_ ++ (i.last ++ more)) i.value more a (i.says more c) }
viable all l b k r ts w rest good (after_passed l1 k1 f n o ts1 w1 r1 e s) =
    let g = other_good l b k f n o good in
    let i = viable all l g.0 k o ts w rest g.1 s in
    viable_past all l b k f n o ts rest good e g.0 i i.read_ refl
viable all l b k r ts w rest good (inside l1 k1 n next ts1 w1 r1 s) =
    let i = viable all l (shuts n) (kind_of n) (rule n) ts w rest (all.good l n good.0) s in
    let j = ends all l true k (next i.value) (good.2 i.value) in
    record {
      read_ = i.read_;
      is = i.is;
      last = i.last ++ j.last;
      value = j.value;
      closing = λ shut e more c. subst Closing (sym (append_assoc i.last j.last more)) (i.closing (good.1 shut) e (j.last ++ more) (j.closing refl more c));
      says = λ more c. subst (λ (y : List Mark). Says l k (read n next) (i.read_ ++ y) j.value more) (sym (append_assoc i.last j.last more))
          (part l k n next (i.read_ ++ (i.last ++ (j.last ++ more))) (j.last ++ more) i.value j.value more (i.says (j.last ++ more) (j.closing refl more c)) (j.says more c));
    }
viable all l b k r ts w rest good (after_part l1 k1 n next ts1 ms z w1 r1 g s) =
    let i = kept all l (shuts n) (kind_of n) (rule n) ts z ms (all.good l n good.0) g in
    let j = viable all l true k (next z) ms w rest (good.2 z) s in
    record {
      read_ = i.read_ ++ j.read_;
      is = i.is ∙ ap (λ y. i.read_ ++ y) j.is ∙ sym (append_assoc i.read_ j.read_ rest);
      last = j.last;
      value = j.value;
      closing = λ shut e. j.closing refl (second_empty i.read_ j.read_ e);
      says = λ more c.
          let first : Says l (kind_of n) (rule n) (i.read_ ++ (j.read_ ++ (j.last ++ more))) z (j.read_ ++ (j.last ++ more)) = i.again (j.read_ ++ (j.last ++ more)) (alike_viable j.read_ ms rest j.is (j.last ++ more) (λ e. j.closing refl e more c)) in
          subst (λ (y : List Mark). Says l k (read n next) y j.value more) (sym (append_assoc i.read_ j.read_ (j.last ++ more)))
          (part l k n next (i.read_ ++ (j.read_ ++ (j.last ++ more))) (j.read_ ++ (j.last ++ more)) z j.value more first (j.says more c));
    }

-- ---- a sign that is refused is refused whatever follows

pub record Refused (l : Limits) (k : Kind) (r : Rule k) (ts : List Mark) (w : Fit) (x : Mark) (xs : List Mark) : Type 0 where
  pub read_ : List Mark
  pub is : ts ≡ read_ ++ x ∷ xs
  pub again : (more : List Mark) → Stops l k r (read_ ++ x ∷ more) w (x ∷ more)

again_take : (l : Limits) (k : Kind) (f : Mark → Fit) (n : Mark → Rule k) (ts : List Mark) (x : Mark) (xs : List Mark) → ts ≡ x ∷ xs → Refuses l (next_fit f ts) → Refused l k (take f n) ts (next_fit f ts) x xs
again_take l k f n [] x xs e b = absurd (cc)
again_take l k f n (y ∷ ys) x xs e b =
    let same_sign : y ≡ x = cc in
    record { read_ = []; is = e; again = λ more. subst (λ z. Stops l k (take f n) (z ∷ more) (f y) (z ∷ more)) same_sign (at_take l k f n (y ∷ more) b) }

again_may : (l : Limits) (k : Kind) (f : Mark → Fit) (n : Mark → Rule k) (o : Rule k) (ts : List Mark) (x : Mark) (xs : List Mark) → ts ≡ x ∷ xs → Refuses l (next_fit f ts) → next_fit f ts ≡ too_deep → Refused l k (may f n o) ts (next_fit f ts) x xs
again_may l k f n o [] x xs e b d = absurd (cc)
again_may l k f n o (y ∷ ys) x xs e b d =
    let same_sign : y ≡ x = cc in
    record { read_ = []; is = e; again = λ more. subst (λ z. Stops l k (may f n o) (z ∷ more) (f y) (z ∷ more)) same_sign (at_may l k f n o (y ∷ more) b d) }

unfit_again : (f : Mark → Fit) (p : List Mark) (x : Mark) (xs more : List Mark) → next_fit f (p ++ x ∷ xs) ≡ unfit → next_fit f (p ++ x ∷ more) ≡ unfit
unfit_again f [] x xs more e = e
unfit_again f (y ∷ p) x xs more e = e

alike_refused : (p us : List Mark) (x : Mark) (xs more : List Mark) → us ≡ p ++ x ∷ xs → Alike us (p ++ x ∷ more)
alike_refused p us x xs more e = subst (λ (y : List Mark). Alike y (p ++ x ∷ more)) (sym e) (alike_begun p (x ∷ xs) (x ∷ more) (alike_head x xs more))

pub refused : AllGood → (l : Limits) (b : Bool) (k : Kind) (r : Rule k) (ts : List Mark) (w : Fit) (rest : List Mark) (x : Mark) (xs : List Mark) → Good l b k r → rest ≡ x ∷ xs → Stops l k r ts w rest → Refused l k r ts w x xs
refused all l b k r ts w rest x xs good e (at_take l1 k1 f n ts1 c) = again_take l k f n ts x xs e c
refused all l b k r ts w rest x xs good e (at_may l1 k1 f n o ts1 c d) = again_may l k f n o ts x xs e c d
refused all l b k r ts w rest x xs good e (after_taken l1 k1 f n y ys w1 r1 a s) =
    let i = refused all l false k (n y) ys w rest x xs (good.1 y a) e s in
    record { read_ = y ∷ i.read_; is = ap (λ z. y ∷ z) i.is; again = λ more. after_taken l k f n y (i.read_ ++ x ∷ more) w (x ∷ more) a (i.again more) }
refused all l b k r ts w rest x xs good e (after_chosen l1 k1 f n o y ys w1 r1 a s) =
    let i = refused all l false k (n y) ys w rest x xs (good.1 y a) e s in
    record { read_ = y ∷ i.read_; is = ap (λ z. y ∷ z) i.is; again = λ more. after_chosen l k f n o y (i.read_ ++ x ∷ more) w (x ∷ more) a (i.again more) }
refused all l b k r ts w rest x xs good e (after_passed l1 k1 f n o ts1 w1 r1 u s) =
    let g = other_good l b k f n o good in
    let i = refused all l g.0 k o ts w rest x xs g.1 e s in
    record { read_ = i.read_; is = i.is; again = λ more. after_passed l k f n o (i.read_ ++ x ∷ more) w (x ∷ more) (unfit_again f i.read_ x xs more (subst (λ (z : List Mark). next_fit f z ≡ unfit) i.is u)) (i.again more) }
refused all l b k r ts w rest x xs good e (inside l1 k1 n next ts1 w1 r1 s) =
    let i = refused all l (shuts n) (kind_of n) (rule n) ts w rest x xs (all.good l n good.0) e s in
    record { read_ = i.read_; is = i.is; again = λ more. inside l k n next (i.read_ ++ x ∷ more) w (x ∷ more) (i.again more) }
refused all l b k r ts w rest x xs good e (after_part l1 k1 n next ts1 ms z w1 r1 g s) =
    let i = kept all l (shuts n) (kind_of n) (rule n) ts z ms (all.good l n good.0) g in
    let j = refused all l true k (next z) ms w rest x xs (good.2 z) e s in
    record {
      read_ = i.read_ ++ j.read_;
      is = i.is ∙ ap (λ y. i.read_ ++ y) j.is ∙ sym (append_assoc i.read_ j.read_ (x ∷ xs));
      again = λ more.
          subst (λ (y : List Mark). Stops l k (read n next) y w (x ∷ more)) (sym (append_assoc i.read_ j.read_ (x ∷ more)))
          (after_part l k n next (i.read_ ++ (j.read_ ++ x ∷ more)) (j.read_ ++ x ∷ more) z w (x ∷ more) (i.again (j.read_ ++ x ∷ more) (alike_refused j.read_ ms x xs more j.is)) (j.again more));
    }

-- ---- where only a limit refuses a sign, an end may follow it without the limits

pub record Deeper (k : Kind) (r : Rule k) (ts : List Mark) (rest : List Mark) : Type 0 where
  pub read_ : List Mark
  pub sign : Mark
  pub others : List Mark
  pub begins : rest ≡ sign ∷ others
  pub is : ts ≡ read_ ++ sign ∷ others
  pub last : List Mark
  pub value : Value k
  pub says : (more : List Mark) → Closing more → Says unlimited k r (read_ ++ sign ∷ (last ++ more)) value more

accepts_deep : (w : Fit) → w ≡ too_deep → Accepts unlimited w
accepts_deep w e = subst (λ (z : Fit). Accepts unlimited z) (sym e) tt

deep_take : AllGood → (b : Bool) (k : Kind) (f : Mark → Fit) (n : Mark → Rule k) (ts : List Mark) → Good unlimited b k (take f n) → next_fit f ts ≡ too_deep → Deeper k (take f n) ts ts
deep_take all b k f n [] good e = absurd (cc)
deep_take all b k f n (x ∷ xs) good e =
    let a : Accepts unlimited (f x) = accepts_deep (f x) e in
    let i = ends all unlimited false k (n x) (good.1 x a) in
    record { read_ = []; sign = x; others = xs; begins = refl; is = refl; last = i.last; value = i.value; says = λ more c. taken unlimited k f n x (i.last ++ more) i.value more a (i.says more c) }

deep_may : AllGood → (b : Bool) (k : Kind) (f : Mark → Fit) (n : Mark → Rule k) (o : Rule k) (ts : List Mark) → Good unlimited b k (may f n o) → next_fit f ts ≡ too_deep → Deeper k (may f n o) ts ts
deep_may all b k f n o [] good e = absurd (cc)
deep_may all b k f n o (x ∷ xs) good e =
    let a : Accepts unlimited (f x) = accepts_deep (f x) e in
    let i = ends all unlimited false k (n x) (good.1 x a) in
    record { read_ = []; sign = x; others = xs; begins = refl; is = refl; last = i.last; value = i.value; says = λ more c. chosen unlimited k f n o x (i.last ++ more) i.value more a (i.says more c) }

pub deeper : AllGood → (b : Bool) (k : Kind) (r : Rule k) (ts : List Mark) (w : Fit) (rest : List Mark) → Good unlimited b k r → w ≡ too_deep → Stops limited k r ts w rest → Deeper k r ts rest
deeper all b k r ts w rest good e (at_take l1 k1 f n ts1 c) = deep_take all b k f n ts good e
deeper all b k r ts w rest good e (at_may l1 k1 f n o ts1 c d) = deep_may all b k f n o ts good e
deeper all b k r ts w rest good e (after_taken l1 k1 f n y ys w1 r1 a s) =
    let d : Accepts unlimited (f y) = accepts_lax (f y) a in
    let i = deeper all false k (n y) ys w rest (good.1 y d) e s in
    record { read_ = y ∷ i.read_; sign = i.sign; others = i.others; begins = i.begins; is = ap (λ z. y ∷ z) i.is; last = i.last; value = i.value; says = λ more c. taken unlimited k f n y (i.read_ ++ i.sign ∷ (i.last ++ more)) i.value more d (i.says more c) }
deeper all b k r ts w rest good e (after_chosen l1 k1 f n o y ys w1 r1 a s) =
    let d : Accepts unlimited (f y) = accepts_lax (f y) a in
    let i = deeper all false k (n y) ys w rest (good.1 y d) e s in
    record { read_ = y ∷ i.read_; sign = i.sign; others = i.others; begins = i.begins; is = ap (λ z. y ∷ z) i.is; last = i.last; value = i.value; says = λ more c. chosen unlimited k f n o y (i.read_ ++ i.sign ∷ (i.last ++ more)) i.value more d (i.says more c) }
deeper all b k r ts w rest good e (after_passed l1 k1 f n o ts1 w1 r1 u s) =
    let g = other_good unlimited b k f n o good in
    let i = deeper all g.0 k o ts w rest g.1 e s in
    record { read_ = i.read_; sign = i.sign; others = i.others; begins = i.begins; is = i.is; last = i.last; value = i.value; says = λ more c. passed unlimited k f n o (i.read_ ++ i.sign ∷ (i.last ++ more)) i.value more (unfit_again f i.read_ i.sign i.others (i.last ++ more) (subst (λ (z : List Mark). next_fit f z ≡ unfit) i.is u)) (i.says more c) }
deeper all b k r ts w rest good e (inside l1 k1 n next ts1 w1 r1 s) =
    let i = deeper all (shuts n) (kind_of n) (rule n) ts w rest (all.good unlimited n good.0) e s in
    let j = ends all unlimited true k (next i.value) (good.2 i.value) in
    record {
      read_ = i.read_;
      sign = i.sign;
      others = i.others;
      begins = i.begins;
      is = i.is;
      last = i.last ++ j.last;
      value = j.value;
      says = λ more c. subst (λ (y : List Mark). Says unlimited k (read n next) (i.read_ ++ i.sign ∷ y) j.value more) (sym (append_assoc i.last j.last more))
          (part unlimited k n next (i.read_ ++ i.sign ∷ (i.last ++ (j.last ++ more))) (j.last ++ more) i.value j.value more (i.says (j.last ++ more) (j.closing refl more c)) (j.says more c));
    }
deeper all b k r ts w rest good e (after_part l1 k1 n next ts1 ms z w1 r1 g s) =
    let i = kept all unlimited (shuts n) (kind_of n) (rule n) ts z ms (all.good unlimited n good.0) (lax (kind_of n) (rule n) ts z ms g) in
    let j = deeper all true k (next z) ms w rest (good.2 z) e s in
    record {
      read_ = i.read_ ++ j.read_;
      sign = j.sign;
      others = j.others;
      begins = j.begins;
      is = i.is ∙ ap (λ y. i.read_ ++ y) j.is ∙ sym (append_assoc i.read_ j.read_ (j.sign ∷ j.others));
      last = j.last;
      value = j.value;
      says = λ more c.
          subst (λ (y : List Mark). Says unlimited k (read n next) y j.value more) (sym (append_assoc i.read_ j.read_ (j.sign ∷ (j.last ++ more))))
          (part unlimited k n next (i.read_ ++ (j.read_ ++ j.sign ∷ (j.last ++ more))) (j.read_ ++ j.sign ∷ (j.last ++ more)) z j.value more
          (i.again (j.read_ ++ j.sign ∷ (j.last ++ more)) (alike_refused j.read_ ms j.sign j.others (j.last ++ more) j.is)) (j.says more c));
    }
