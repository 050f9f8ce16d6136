-- Reading one action more.
use Rattle.std.proofs.Common.{◌≡◌, ℕ, zero, suc, ◌+◌, ◌-◌, ◌<◌, ◌≤◌, ◌⊎◌, inl, inr, Bool, true, false, ◌||◌, List, [], ◌∷◌, ◌++◌, length, get_or, take, Option, Some, None, if◌then◌else◌, refl, sym, ap, subst, ◌∙◌, arith, length-append}
use Rattle.std.specs.Prelude.{◌==◌, option_map}
use Rattle.std.proofs.lemmas.Bool.{cases_lt}
use Rattle.std.proofs.lemmas.Bool.Decides.{eqb_tells, nat_tests}
use Rattle.std.proofs.lemmas.List.Folds.{list_any_more}
use Rattle.gs_types.specs.declared.action.Action.{Action}
use Rattle.gs_types.specs.declared.action.Action.TheVariants as act
use Rattle.gs_plan.specs.Actions.{task_of, counted, calls_in, WasCalled, is_among, writes, writer_of, DependsOn, Needs, IsNeeded, FollowsBy}
use Rattle.gs_plan.specs.Ties.{before_at, after_at, needed_at, waits_at, HasNeed, AreTies}
use Rattle.gs_plan.specs.Scan.{AreNumbered, IsScanned, AddsPair, AddsReads, AddsNeeds}
use Rattle.gs_plan.specs.declared.ties.Ties.{Ties}
use Rattle.gs_plan.proofs.Choosing.{past_end}

-- ---- lists that grow

pub at_kept : (xs ys : List ℕ) (x i : ℕ) → ys ≡ xs ++ x ∷ [] → i < length xs → get_or ys i 0 ≡ get_or xs i 0
at_kept xs ys x i e l = ap (λ (zs : List ℕ). get_or zs i 0) e ∙ here xs i l
  where
    here : (xs : List ℕ) (i : ℕ) → i < length xs → get_or (xs ++ x ∷ []) i 0 ≡ get_or xs i 0
    here [] i l = absurd (omega arith)
    here (y ∷ ys) zero l = refl
    here (y ∷ ys) (suc i) l = here ys i (omega arith)

pub at_last : (xs ys : List ℕ) (x i : ℕ) → ys ≡ xs ++ x ∷ [] → i ≡ length xs → get_or ys i 0 ≡ x
at_last xs ys x i e is = ap (λ (zs : List ℕ). get_or zs i 0) e ∙ ap (λ (k : ℕ). get_or (xs ++ x ∷ []) k 0) is ∙ here xs
  where
    here : (xs : List ℕ) → get_or (xs ++ x ∷ []) (length xs) 0 ≡ x
    here [] = refl
    here (y ∷ ys) = here ys

pub longer_by_one : (xs ys : List ℕ) (x : ℕ) → ys ≡ xs ++ x ∷ [] → length ys ≡ length xs + 1
longer_by_one xs ys x e = ap (λ (zs : List ℕ). length zs) e ∙ length-append xs (x ∷ [])

-- ---- reads

among_cases : (x : ℕ) (xs : List ℕ) (i : ℕ) → i < length xs → is_among x (take (i + 1) xs) ≡ true → (is_among x (take i xs) ≡ true) ⊎ (get_or xs i 0 ≡ x)
among_cases x xs i l h = here (is_among x (take i xs)) refl
  where
    here : (b : Bool) → is_among x (take i xs) ≡ b → (is_among x (take i xs) ≡ true) ⊎ (get_or xs i 0 ≡ x)
    here true e = inl e
    here false e = elim (eqb_tells (get_or xs i 0) x) [
      | inl same ↦ inr same.1
      | inr apart ↦ absurd (let m = list_any_more (λ y. y == x) xs i 0 l in let f : (get_or xs i 0 == x) ≡ false = apart.0 in
          let g = sym h ∙ m ∙ ap (λ (b : Bool). b || (get_or xs i 0 == x)) e ∙ f in cc)
    ]

or_left : (a b : Bool) → a ≡ true → (a || b) ≡ true
or_left true b e = refl
or_left false b e = absurd cc

or_right : (a b : Bool) → b ≡ true → (a || b) ≡ true
or_right true b e = refl
or_right false b e = e

among_kept : (x : ℕ) (xs : List ℕ) (i : ℕ) → i < length xs → is_among x (take i xs) ≡ true → is_among x (take (i + 1) xs) ≡ true
among_kept x xs i l h = list_any_more (λ y. y == x) xs i 0 l ∙ or_left (is_among x (take i xs)) (get_or xs i 0 == x) h

among_here : (xs : List ℕ) (i : ℕ) → i < length xs → is_among (get_or xs i 0) (take (i + 1) xs) ≡ true
among_here xs i l = list_any_more (λ y. y == get_or xs i 0) xs i 0 l ∙ or_right (is_among (get_or xs i 0) (take i xs)) (get_or xs i 0 == get_or xs i 0) (same (get_or xs i 0))
  where
    same : (n : ℕ) → (n == n) ≡ true
    same n = grind (arith, nat_tests)

-- the name isn't one that a task wrote last
pub reads_skip : (w : ℕ → Option ℕ) (reads : List ℕ) (i task : ℕ) (old new : Ties) → i < length reads → AddsReads w (take i reads) task old new → w (get_or reads i 0) ≡ None →
    AddsReads w (take (i + 1) reads) task old new
reads_skip w reads i task old new l adds none = record {
  needed = adds.needed;
  waits = adds.waits;
  same = adds.same;
  longer = adds.longer;
  kept_before = adds.kept_before;
  kept_after = adds.kept_after;
  after = adds.after;
  sound = λ e from to. let (name, among, is) = adds.sound e from to in (name, among_kept name reads i l among, is);
  full = λ name k among is. elim (among_cases name reads i l among) [
    | inl before ↦ adds.full name k before is
    | inr here ↦ absurd (let e = sym none ∙ ap w here ∙ is in cc)
  ];
}

-- the name is
pub reads_step : (w : ℕ → Option ℕ) (reads : List ℕ) (i task writer : ℕ) (old mid new : Ties) → i < length reads → AddsReads w (take i reads) task old mid → w (get_or reads i 0) ≡ Some writer →
    AddsPair writer task mid new → AddsReads w (take (i + 1) reads) task old new
reads_step w reads i task writer old mid new l adds some pair =
    let more = longer_by_one mid.befores.items new.befores.items writer pair.befores in
    let after_more = longer_by_one mid.afters.items new.afters.items task pair.afters in
    let kept_b = λ (e : ℕ) (m : e < length mid.befores.items). at_kept mid.befores.items new.befores.items writer e pair.befores m in
    let kept_a = λ (e : ℕ) (m : e < length mid.befores.items). at_kept mid.afters.items new.afters.items task e pair.afters (omega (arith, adds.same)) in
    let last_b = at_last mid.befores.items new.befores.items writer (length mid.befores.items) pair.befores refl in
    let last_a = at_last mid.afters.items new.afters.items task (length mid.befores.items) pair.afters adds.same in
    record {
      needed = pair.needed ∙ adds.needed;
      waits = pair.waits ∙ adds.waits;
      same = omega (arith, more, after_more, adds.same);
      longer = omega (arith, more, adds.longer);
      kept_before = λ e m. kept_b e (omega (arith, adds.longer)) ∙ adds.kept_before e m;
      kept_after = λ e m. kept_a e (omega (arith, adds.longer)) ∙ adds.kept_after e m;
      after = λ e from to. elim (cases_lt e (length mid.befores.items)) [
        | inl before ↦ kept_a e before ∙ adds.after e from before
        | inr here ↦ let at : e ≡ length mid.befores.items = omega (arith, more) in ap (after_at new) at ∙ last_a
      ];
      sound = λ e from to. elim (cases_lt e (length mid.befores.items)) [
        | inl before ↦
            let (name, among, is) = adds.sound e from before in
            (name, among_kept name reads i l among, is ∙ ap (λ (k : ℕ). Some k) (sym (kept_b e before)))
        | inr here ↦
            let at : e ≡ length mid.befores.items = omega (arith, more) in
            (get_or reads i 0, among_here reads i l, some ∙ ap (λ (k : ℕ). Some k) (sym (ap (before_at new) at ∙ last_b)))
      ];
      full = λ name k among is. elim (among_cases name reads i l among) [
        | inl before ↦ let (e, from, to, at) = adds.full name k before is in (e, from, omega (arith, more), kept_b e to ∙ at)
        | inr here ↦
            let same : writer ≡ k = let e = sym some ∙ ap w here ∙ is in cc in
            (length mid.befores.items, adds.longer, omega (arith, more), last_b ∙ same)
      ];
    }

pub reads_all : (w : ℕ → Option ℕ) (reads : List ℕ) (i task : ℕ) (old new : Ties) → length reads ≤ i → AddsReads w (take i reads) task old new → AddsReads w reads task old new
reads_all w reads i task old new l adds = subst (λ (xs : List ℕ). AddsReads w xs task old new) (take_all reads i l) adds
  where
    take_all : (xs : List ℕ) (i : ℕ) → length xs ≤ i → take i xs ≡ xs
    take_all [] zero l = refl
    take_all [] (suc i) l = refl
    take_all (x ∷ xs) zero l = absurd (omega arith)
    take_all (x ∷ xs) (suc i) l = ap (λ (ys : List ℕ). x ∷ ys) (take_all xs i (omega arith))

-- ---- numbers

pub numbered_call : (earlier : List Action) (n : ℕ) → AreNumbered earlier → WasCalled earlier n → (1 ≤ n) × (n ≤ calls_in earlier)
numbered_call [] n all was = absurd was
numbered_call (a ∷ earlier) n all (inr before) = let (low, high) = numbered_call earlier n all.1 before in (low, omega arith)
numbered_call (act.Call k op r w ∷ earlier) n all (inl is) =
    let same : k ≡ n = cc in let number = all.0 in (omega (arith, number), omega (arith, number))
numbered_call (act.Use k place ∷ earlier) n all (inl is) = absurd cc
numbered_call (act.Result k ∷ earlier) n all (inl is) = absurd cc
numbered_call (act.Read name ∷ earlier) n all (inl is) = absurd cc
numbered_call (act.Write name ∷ earlier) n all (inl is) = absurd cc
numbered_call (act.Barrier ∷ earlier) n all (inl is) = absurd cc
numbered_call (act.End ∷ earlier) n all (inl is) = absurd cc

pub called_number : (earlier : List Action) (n : ℕ) → AreNumbered earlier → 1 ≤ n → n ≤ calls_in earlier → WasCalled earlier n
called_number [] n all low high = absurd (omega arith)
called_number (act.Call k op r w ∷ earlier) n all low high = elim (eqb_tells k n) [
  | inl same ↦ inl (ap (λ (m : ℕ). Some m) same.1)
  | inr apart ↦ inr (called_number earlier n all.1 low (let number = all.0 in let ne = apart.1 in omega arith))
]
called_number (act.Use k place ∷ earlier) n all low high = inr (called_number earlier n all.1 low (omega arith))
called_number (act.Result k ∷ earlier) n all low high = inr (called_number earlier n all.1 low (omega arith))
called_number (act.Read name ∷ earlier) n all low high = inr (called_number earlier n all.1 low (omega arith))
called_number (act.Write name ∷ earlier) n all low high = inr (called_number earlier n all.1 low (omega arith))
called_number (act.Barrier ∷ earlier) n all low high = inr (called_number earlier n all.1 low (omega arith))
called_number (act.End ∷ earlier) n all low high = inr (called_number earlier n all.1 low (omega arith))

pub writer_called : (earlier : List Action) (name n : ℕ) → writer_of earlier name ≡ Some n → WasCalled earlier n
writer_called [] name n is = absurd cc
writer_called (a ∷ earlier) name n is = here (writes a name) is (λ e. writer_called earlier name n e)
  where
    here : (b : Bool) → (if b then task_of a else writer_of earlier name) ≡ Some n → (writer_of earlier name ≡ Some n → WasCalled earlier n) → WasCalled (a ∷ earlier) n
    here true e before = inl e
    here false e before = inr (before e)

-- ---- what the map says

writer_named : (o : Option ℕ) (k : ℕ) → option_map suc o ≡ Some k → (v : ℕ) × (o ≡ Some v) × (k ≡ suc v)
writer_named None k e = absurd cc
writer_named (Some v) k e = (v, refl, cc)

pub named_writer : (o r : Option ℕ) (i : ℕ) → option_map suc o ≡ r → r ≡ Some (suc i) → o ≡ Some i
named_writer None r i e is = absurd (let t = e ∙ is in cc)
named_writer (Some v) r i e is = let t = e ∙ is in let same : v ≡ i = cc in ap (λ (k : ℕ). Some k) same

-- ---- an action that calls no task

needed_stays : (from to : ℕ) (old new : Ties) (count i : ℕ) → AddsNeeds from to old new → count ≤ length old.needed.items → HasNeed old count i → HasNeed new count i
needed_stays from to old new count i adds within (x, l, is) = (x, l, adds.kept x (omega arith) ∙ is)

needed_was : (from to : ℕ) (old new : Ties) (count i : ℕ) → AddsNeeds from to old new → count ≤ length old.needed.items → HasNeed new count i → HasNeed old count i
needed_was from to old new count i adds within (x, l, is) = (x, l, sym (adds.kept x (omega arith)) ∙ is)

waits_within : (t : Ties) (n j : ℕ) → AreTies t n → waits_at t j ≤ length t.needed.items
waits_within t n j ties = elim (cases_lt j n) [
  | inl inside ↦ ties.within j inside
  | inr past ↦ omega (arith, past_end t.waits.items j (omega (arith, ties.each)))
]

pub scanned_needs : (a : Action) (earlier : List Action) (t t' : Ties) (w w' : ℕ → Option ℕ) (barred barred' from to : ℕ) →
    IsScanned earlier t w barred → counted (task_of a) ≡ 0 → ((m n : ℕ) → FollowsBy earlier a m n → ⊥) →
    ((name : ℕ) → option_map suc (w' name) ≡ writer_of (a ∷ earlier) name) → AddsNeeds from to t t' → to ≤ calls_in earlier →
    ((i : ℕ) → from ≤ i → i < to → Needs earlier a (suc i)) →
    ((i : ℕ) → Needs earlier a (suc i) → ((from ≤ i) × (i < to)) ⊎ HasNeed t (length t.needed.items) i) →
    barred' ≤ calls_in earlier → ((i : ℕ) → i < barred' → (i < barred) ⊎ ((from ≤ i) × (i < to))) →
    IsScanned (a ∷ earlier) t' w' barred'
scanned_needs a earlier t t' w w' barred barred' from to s none quiet writers adds room sound full barred_in barred_from =
    let same : calls_in earlier + counted (task_of a) ≡ calls_in earlier = omega arith in
    let befores = ap (λ v. v.items) adds.befores in
    let afters = ap (λ v. v.items) adds.afters in
    let waits = ap (λ v. v.items) adds.waits in
    let b = λ (e : ℕ). let q : before_at t' e ≡ before_at t e = ap (λ (xs : List ℕ). get_or xs e 0) befores in q in
    let f = λ (e : ℕ). let q : after_at t' e ≡ after_at t e = ap (λ (xs : List ℕ). get_or xs e 0) afters in q in
    let v = λ (j : ℕ). let q : waits_at t' j ≡ waits_at t j = ap (λ (xs : List ℕ). get_or xs j 0) waits in q in
    let size : length t'.befores.items ≡ length t.befores.items = ap (λ (xs : List ℕ). length xs) befores in
    let within = λ (j : ℕ). waits_within t (calls_in earlier) j s.ties in
    let grown : (i : ℕ) → HasNeed t (length t.needed.items) i → HasNeed t' (length t'.needed.items) i = λ i h.
    let (x, l, is) = h in (x, omega (arith, adds.longer), adds.kept x l ∙ is) in
    let added : (i : ℕ) → from ≤ i → i < to → HasNeed t' (length t'.needed.items) i = λ i low high.
    (length t.needed.items + (i - from), omega (arith, adds.longer), adds.more (i - from) (omega arith) ∙ (omega arith)) in
    record {
      ties = rw same (record {
        same = omega (arith, size, ap (λ (xs : List ℕ). length xs) afters, s.ties.same);
        pairs = λ e l. let old = s.ties.pairs e (omega (arith, size)) in (omega (arith, old.0, b e, f e), omega (arith, old.1, f e));
        each = ap (λ (xs : List ℕ). length xs) waits ∙ s.ties.each;
        within = λ j l. omega (arith, v j, s.ties.within j l, adds.longer);
        rising = λ i j le l. omega (arith, v i, v j, s.ties.rising i j le l);
        earlier = λ j x l m.
            let old : x < waits_at t j = omega (arith, v j) in
            omega (arith, s.ties.earlier j x l old, adds.kept x (omega (arith, within j)));
      });
      writers_are = writers;
      sound = λ i j h. inr (s.sound i j (elim h [
        | inl (e, l, is, at) ↦ inl (e, omega (arith, size), sym (b e) ∙ is, sym (f e) ∙ at)
        | inr (x, l, is) ↦ inr (needed_was from to t t' (waits_at t j) i adds (within j) (x, omega (arith, v j), is))
      ]));
      full = λ i j h. elim h [
        | inl here ↦ absurd (quiet (suc j) (suc i) here)
        | inr before ↦ elim (s.full i j before) [
          | inl (e, l, is, at) ↦ inl (e, omega (arith, size), b e ∙ is, f e ∙ at)
          | inr (x, l, is) ↦ inr (x, omega (arith, v j), adds.kept x (omega (arith, within j)) ∙ is)
        ]
      ];
      needs_sound = λ x l. elim (cases_lt x (length t.needed.items)) [
        | inl old ↦ let P : ℕ → Type 0 = λ k. IsNeeded earlier (suc k) in inr (subst P (sym (adds.kept x old)) (s.needs_sound x old))
        | inr new ↦
            let at : length t.needed.items + (x - length t.needed.items) ≡ x = omega arith in
            let is : needed_at t' x ≡ from + (x - length t.needed.items) = sym (ap (needed_at t') at) ∙ adds.more (x - length t.needed.items) (omega (arith, adds.longer)) in
            let P : ℕ → Type 0 = λ k. Needs earlier a (suc k) in
            inl (subst P (sym is) (sound (from + (x - length t.needed.items)) (omega arith) (omega (arith, adds.longer))))
      ];
      needs_full = λ i h. elim h [
        | inl here ↦ elim (full i here) [ inl (low, high) ↦ added i low high | inr old ↦ grown i old ]
        | inr before ↦ grown i (s.needs_full i before)
      ];
      needed_in = λ x l. elim (cases_lt x (length t.needed.items)) [
        | inl old ↦ omega (arith, same, adds.kept x old, s.needed_in x old)
        | inr new ↦
            let at : length t.needed.items + (x - length t.needed.items) ≡ x = omega arith in
            let is : needed_at t' x ≡ from + (x - length t.needed.items) = sym (ap (needed_at t') at) ∙ adds.more (x - length t.needed.items) (omega (arith, adds.longer)) in
            omega (arith, same, is, adds.longer)
      ];
      barred_in = omega (arith, same);
      barred_all = λ i l. elim (barred_from i l) [ inl old ↦ grown i (s.barred_all i old) | inr (low, high) ↦ added i low high ];
    }

pub adds_none : (n : ℕ) (t : Ties) → AddsNeeds n n t t
adds_none n t = record {
  befores = refl;
  afters = refl;
  waits = refl;
  longer = omega arith;
  kept = λ x l. refl;
  more = λ x l. absurd (omega arith);
}

-- ---- a call

pub scanned_call : (earlier : List Action) (n op : ℕ) (reads written : List ℕ) (t mid t' : Ties) (w w' : ℕ → Option ℕ) (barred : ℕ) →
    IsScanned earlier t w barred → AreNumbered earlier → n ≡ suc (calls_in earlier) →
    AddsReads w reads (calls_in earlier) t mid → t'.befores ≡ mid.befores → t'.afters ≡ mid.afters → t'.needed ≡ mid.needed →
    t'.waits.items ≡ mid.waits.items ++ length mid.needed.items ∷ [] →
    ((name : ℕ) → w' name ≡ (if is_among name written then Some (calls_in earlier) else w name)) →
    (reads' written' : List ℕ) → reads' ≡ reads → written' ≡ written →
    IsScanned (act.Call n op reads' written' ∷ earlier) t' w' barred
scanned_call earlier n op reads written t mid t' w w' barred s numbered number adds befores afters needed waits writers reads' written' same_reads same_written =
    let calls = calls_in earlier in
    let bs = ap (λ v. v.items) befores in
    let fs = ap (λ v. v.items) afters in
    let ns = ap (λ v. v.items) (needed ∙ adds.needed) in
    let ws = ap (λ v. v.items) adds.waits in
    let b = λ (e : ℕ). let q : before_at t' e ≡ before_at mid e = ap (λ (xs : List ℕ). get_or xs e 0) bs in q in
    let f = λ (e : ℕ). let q : after_at t' e ≡ after_at mid e = ap (λ (xs : List ℕ). get_or xs e 0) fs in q in
    let d = λ (x : ℕ). let q : needed_at t' x ≡ needed_at t x = ap (λ (xs : List ℕ). get_or xs x 0) ns in q in
    let size : length t'.befores.items ≡ length mid.befores.items = ap (λ (xs : List ℕ). length xs) bs in
    let needs_size : length t'.needed.items ≡ length t.needed.items = ap (λ (xs : List ℕ). length xs) ns in
    let mid_needs : length mid.needed.items ≡ length t.needed.items = ap (λ v. length v.items) adds.needed in
    let wait_list : t'.waits.items ≡ t.waits.items ++ length t.needed.items ∷ [] = waits ∙ ap (λ (xs : List ℕ). xs ++ length mid.needed.items ∷ []) ws ∙ ap (λ (k : ℕ). t.waits.items ++ k ∷ []) mid_needs in
    let each = longer_by_one t.waits.items t'.waits.items (length t.needed.items) wait_list in
    let v = λ (j : ℕ) (l : j < calls). let q : waits_at t' j ≡ waits_at t j = at_kept t.waits.items t'.waits.items (length t.needed.items) j wait_list (omega (arith, s.ties.each)) in q in
    let last : waits_at t' calls ≡ length t.needed.items = at_last t.waits.items t'.waits.items (length t.needed.items) calls wait_list (sym s.ties.each) in
    let writer_low = λ (name k : ℕ) (is : w name ≡ Some k).
    let named : writer_of earlier name ≡ Some (suc k) = sym (s.writers_are name) ∙ ap (option_map suc) is in
    let low : k < calls = omega (arith, (numbered_call earlier (suc k) numbered (writer_called earlier name (suc k) named)).1) in low in
    let depends = λ (i : ℕ) (e : ℕ) (from : length t.befores.items ≤ e) (to : e < length mid.befores.items) (is : before_at mid e ≡ i).
    let (name, among, writer) = adds.sound e from to in
    let one : DependsOn earlier reads' (suc i) = record {
      name = name;
      among = ap (is_among name) same_reads ∙ among;
      writer = sym (s.writers_are name) ∙ ap (option_map suc) writer ∙ ap (λ (k : ℕ). Some (suc k)) is;
    } in one in
    record {
      ties = record {
        same = omega (arith, size, ap (λ (xs : List ℕ). length xs) fs, adds.same);
        pairs = λ e l. elim (cases_lt e (length t.befores.items)) [
          | inl old ↦ let pair = s.ties.pairs e old in (omega (arith, pair.0, b e, f e, adds.kept_before e old, adds.kept_after e old), omega (arith, pair.1, f e, adds.kept_after e old))
          | inr new ↦
              let (name, among, writer) = adds.sound e new (omega (arith, size)) in
              let low = writer_low name (before_at mid e) writer in
              let here = adds.after e new (omega (arith, size)) in
              (omega (arith, b e, f e, low, here), omega (arith, f e, here))
        ];
        each = omega (arith, each, s.ties.each);
        within = λ j l. elim (cases_lt j calls) [
          | inl old ↦ omega (arith, v j old, s.ties.within j old, needs_size)
          | inr new ↦ let at : j ≡ calls = omega arith in omega (arith, ap (waits_at t') at, last, needs_size)
        ];
        rising = λ i j le l. elim (cases_lt j calls) [
          | inl old ↦ omega (arith, v i (omega arith), v j old, s.ties.rising i j le old)
          | inr new ↦
              let at : j ≡ calls = omega arith in
              elim (cases_lt i calls) [
                | inl low ↦ omega (arith, v i low, s.ties.within i low, ap (waits_at t') at, last)
                | inr high ↦ let both : i ≡ j = omega arith in omega (arith, ap (waits_at t') both)
              ]
        ];
        earlier = λ j x l m. elim (cases_lt j calls) [
          | inl old ↦ omega (arith, d x, s.ties.earlier j x old (omega (arith, v j old)))
          | inr new ↦ let at : j ≡ calls = omega arith in omega (arith, d x, s.needed_in x (omega (arith, ap (waits_at t') at, last)))
        ];
      };
      writers_are = λ name. ap (option_map suc) (writers name) ∙ named_again (is_among name written) (calls_in earlier) (w name) n (writer_of earlier name) number (s.writers_are name)
          ∙ sym (ap (λ (xs : List ℕ). if is_among name xs then Some n else writer_of earlier name) same_written);
      sound = λ i j h. elim h [
        | inl (e, l, is, at) ↦ elim (cases_lt e (length t.befores.items)) [
          | inl old ↦ inr (s.sound i j (inl (e, old, sym (b e ∙ adds.kept_before e old) ∙ is, sym (f e ∙ adds.kept_after e old) ∙ at)))
          | inr new ↦
              let here = adds.after e new (omega (arith, size)) in
              let last_task : calls ≡ j = sym here ∙ sym (f e) ∙ at in
              inl (number ∙ ap suc last_task, inl (depends i e new (omega (arith, size)) (sym (b e) ∙ is)))
        ]
        | inr (x, l, is) ↦ elim (cases_lt j calls) [
          | inl old ↦ inr (s.sound i j (inr (x, omega (arith, v j old), sym (d x) ∙ is)))
          | inr new ↦ elim (cases_lt calls j) [
            | inl past ↦ absurd (omega (arith, past_end t'.waits.items j (omega (arith, each, s.ties.each))))
            | inr not_past ↦
                let at : j ≡ calls = omega arith in
                let inside : x < length t.needed.items = omega (arith, ap (waits_at t') at, last) in
                let P : ℕ → Type 0 = λ k. IsNeeded earlier (suc k) in
                inl (number ∙ ap suc (sym at), inr (subst P (sym (d x) ∙ is) (s.needs_sound x inside)))
          ]
        ]
      ];
      full = λ i j h. elim h [
        | inl (is, which) ↦
            let at : calls ≡ j = omega (arith, is, number) in
            elim which [
              | inl depends_on ↦
                  let writer = named_writer (w depends_on.name) (writer_of earlier depends_on.name) i (s.writers_are depends_on.name) depends_on.writer in
                  let (e, from, to, named) = adds.full depends_on.name i (sym (ap (is_among depends_on.name) same_reads) ∙ depends_on.among) writer in
                  inl (e, omega (arith, size), b e ∙ named, f e ∙ adds.after e from to ∙ at)
              | inr is_needed ↦
                  let (x, l, named) = s.needs_full i is_needed in
                  inr (x, omega (arith, ap (waits_at t') at, last), d x ∙ named)
            ]
        | inr before ↦ elim (s.full i j before) [
          | inl (e, l, is, at) ↦ inl (e, omega (arith, size, adds.longer), b e ∙ adds.kept_before e l ∙ is, f e ∙ adds.kept_after e l ∙ at)
          | inr (x, l, is) ↦ elim (cases_lt j calls) [
            | inl old ↦ inr (x, omega (arith, v j old), d x ∙ is)
            | inr past ↦ absurd (omega (arith, past_end t.waits.items j (omega (arith, s.ties.each))))
          ]
        ]
      ];
      needs_sound = λ x l. let P : ℕ → Type 0 = λ k. IsNeeded earlier (suc k) in inr (subst P (sym (d x)) (s.needs_sound x (omega (arith, needs_size))));
      needs_full = λ i h. elim h [
        | inl here ↦ absurd here
        | inr before ↦ let (x, l, is) = s.needs_full i before in (x, omega (arith, needs_size), d x ∙ is)
      ];
      needed_in = λ x l. omega (arith, d x, s.needed_in x (omega (arith, needs_size)));
      barred_in = omega (arith, s.barred_in);
      barred_all = λ i l. let (x, m, is) = s.barred_all i l in (x, omega (arith, needs_size), d x ∙ is);
    }
  where
    named_again : (b : Bool) (calls : ℕ) (o : Option ℕ) (n : ℕ) (r : Option ℕ) → n ≡ suc calls → option_map suc o ≡ r → option_map suc (if b then Some calls else o) ≡ (if b then Some n else r)
    named_again true calls o n r number is = ap (λ (k : ℕ). Some k) (sym number)
    named_again false calls o n r number is = is
