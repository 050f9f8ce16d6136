-- A map of files after a change at one name.
use Rattle.std.proofs.Common.{◌≡◌, ◌≢◌, ℕ, ◌+◌, ◌≤◌, suc, List, Result, Ok, Err, [], ◌∷◌, Bool, cond, Option, Some, None, option_map, Vec, true, false, refl, sym, ◌∙◌, ap, map, subst, length, arith}
use Rattle.std.proofs.lemmas.Slice.Eq.{bytes_eq-Decides}
use Rattle.std.proofs.lemmas.Map.Text.{is_eq-slice_cmp}
use Rattle.std.proofs.lemmas.Map.Made.{is_some-lookup}
use Rattle.std.proofs.lemmas.Map.Keys.{Less-from_sorted}
use Rattle.std.proofs.lemmas.List.Folds.{list_any_at}
use Rattle.std.specs.Prelude.{bytes_eq, ◌||◌, ◌↔◌, IsSome, is_some, IfSome, OnErr}
use Rattle.std.specs.List.{list_any}
use Rattle.std.specs.BTreeMap.{keys, IsOrdered}
use Rattle.std.specs.Ordering.{nat_cmp, eq_by_cmp}
use Rattle.std.specs.Cmp.Lexicographic.{slice_cmp}
use Rattle.std.specs.BTreeMap.{UpdatesBy, get, is_at}
use Rattle.std.specs.Map.{lookup, set_value}
use Rattle.std.specs.declared.collections.BTreeMap.{BTreeMap}
use Rattle.std.specs.declared.alloc.Global.{Global}
use Rattle.gs_disk.specs.Folder.{Has, Rise}
use Rattle.gs_disk.specs.Mem.{files_of, folder_of, Puts}

lookup_bytes : (test : List ℕ → Bool) (es : List (List ℕ × Vec ℕ Global)) → lookup test (map {B = List ℕ × List ℕ} (λ (e : List ℕ × Vec ℕ Global). (e.0, e.1.items)) es) ≡ option_map (λ (v : Vec ℕ Global). v.items) (lookup test es)
lookup_bytes test [] = refl
lookup_bytes test (e ∷ es) =
    let rest = lookup_bytes test es in
    elim (test e.0) as (λ b. cond b (Some e.1.items) (lookup test (map {B = List ℕ × List ℕ} (λ (e : List ℕ × Vec ℕ Global). (e.0, e.1.items)) es)) ≡ option_map (λ (v : Vec ℕ Global). v.items) (cond b (Some e.1) (lookup test es))) [ true ↦ refl | false ↦ rest ]

-- what reads is what the map has
pub reads : (m : BTreeMap (List ℕ) (Vec ℕ Global) Global) (x : List ℕ) → folder_of (files_of m) x ≡ option_map (λ (v : Vec ℕ Global). v.items) (get (slice_cmp nat_cmp) m x)
reads m x = lookup_bytes (is_at (slice_cmp nat_cmp x)) m.entries

other_test : (a b : List ℕ) → a ≢ b → bytes_eq a b ≡ false
other_test a b other = elim (bytes_eq a b) as (λ t. bytes_eq a b ≡ t → t ≡ false) [ true ↦ λ e. absurd (other ((bytes_eq-Decides a b).0 e)) | false ↦ λ e. refl ] refl

pub puts : (m n : BTreeMap (List ℕ) (Vec ℕ Global) Global) (name : List ℕ) (w : Option (Vec ℕ Global)) → UpdatesBy (slice_cmp nat_cmp) (slice_cmp nat_cmp name) m n w → Puts name (option_map (λ v. v.items) w) (folder_of (files_of m)) (folder_of (files_of n))
puts m n name w u = record {
  here = reads n name ∙ ap (option_map (λ (v : Vec ℕ Global). v.items)) u.1;
  others = λ x other. reads n x ∙ ap (option_map (λ (v : Vec ℕ Global). v.items)) (u.2 x (is_eq-slice_cmp name x ∙ other_test name x (λ p. other (sym p)))) ∙ sym (reads m x);
}

pub stands : (m : BTreeMap (List ℕ) (Vec ℕ Global) Global) (x : List ℕ) (v : Vec ℕ Global) → Some v ≡ get (slice_cmp nat_cmp) m x → folder_of (files_of m) x ≡ Some v.items
stands m x v is = reads m x ∙ ap (option_map (λ (v : Vec ℕ Global). v.items)) (sym is)

pub absent : (m : BTreeMap (List ℕ) (Vec ℕ Global) Global) (x : List ℕ) → None ≡ get (slice_cmp nat_cmp) m x → folder_of (files_of m) x ≡ None
absent m x is = reads m x ∙ ap (option_map (λ (v : Vec ℕ Global). v.items)) (sym is)

-- the same bytes again change nothing
same_bytes : (test : List ℕ → Bool) (es : List (List ℕ × Vec ℕ Global)) (v w : Vec ℕ Global) → Some v ≡ lookup test es → w.items ≡ v.items → map {B = List ℕ × List ℕ} (λ (e : List ℕ × Vec ℕ Global). (e.0, e.1.items)) (set_value test es w) ≡ map {B = List ℕ × List ℕ} (λ (e : List ℕ × Vec ℕ Global). (e.0, e.1.items)) es
same_bytes test [] v w is same = refl
same_bytes test (e ∷ es) v w is same =
    elim (test e.0) as (λ b. Some v ≡ cond b (Some e.1) (lookup test es) → map {B = List ℕ × List ℕ} (λ (e : List ℕ × Vec ℕ Global). (e.0, e.1.items)) (cond b ((e.0, w) ∷ es) (e ∷ set_value test es w)) ≡ map {B = List ℕ × List ℕ} (λ (e : List ℕ × Vec ℕ Global). (e.0, e.1.items)) (e ∷ es)) [
      | true ↦ λ here. let first : v ≡ e.1 = cc in ap (λ (bytes : List ℕ). (e.0, bytes) ∷ map {B = List ℕ × List ℕ} (λ (e : List ℕ × Vec ℕ Global). (e.0, e.1.items)) es) (same ∙ ap (λ (u : Vec ℕ Global). u.items) first)
      | false ↦ λ later. ap (λ (l : List (List ℕ × List ℕ)). (e.0, e.1.items) ∷ l) (same_bytes test es v w later same)
    ] is

has_from : (test : List ℕ → Bool) (x : List ℕ) → ((y : List ℕ) → test y ≡ true → y ≡ x) → (names : List (List ℕ)) → list_any test names ≡ true → Has x names
has_from test x same [] found = absurd (cc)
has_from test x same (y ∷ ys) found =
    elim (test y) as (λ b. test y ≡ b → (b || list_any test ys) ≡ true → Has x (y ∷ ys)) [
      | true ↦ λ here found. (0, omega arith, same y here)
      | false ↦ λ here found. let rest = has_from test x same ys found in (suc rest.0, omega (arith, rest.1), rest.2)
    ] refl found

equal_test : (x y : List ℕ) → eq_by_cmp (slice_cmp nat_cmp) x y ≡ true → y ≡ x
equal_test x y is = sym ((bytes_eq-Decides x y).0 (sym (is_eq-slice_cmp x y) ∙ is))

own_test : (x y : List ℕ) → y ≡ x → eq_by_cmp (slice_cmp nat_cmp) x y ≡ true
own_test x y is = is_eq-slice_cmp x y ∙ (bytes_eq-Decides x y).1 (sym is)

some_map : (o : Option (Vec ℕ Global)) → is_some (option_map (λ (v : Vec ℕ Global). v.items) o) ≡ is_some o
some_map None = refl
some_map (Some v) = refl

any_key : (m : BTreeMap (List ℕ) (Vec ℕ Global) Global) (x : List ℕ) → is_some (folder_of (files_of m) x) ≡ list_any (eq_by_cmp (slice_cmp nat_cmp) x) (keys m)
any_key m x = ap (λ (o : Option (List ℕ)). is_some o) (reads m x) ∙ some_map (get (slice_cmp nat_cmp) m x) ∙ is_some-lookup (is_at (slice_cmp nat_cmp x)) m.entries

pub all_names : (m : BTreeMap (List ℕ) (Vec ℕ Global) Global) (names : List (List ℕ)) → names ≡ keys m → (x : List ℕ) → Has x names ↔ IsSome (folder_of (files_of m) x)
all_names m names same x = (to, from)
  where
    any : is_some (folder_of (files_of m) x) ≡ list_any (eq_by_cmp (slice_cmp nat_cmp) x) names
    any = any_key m x ∙ ap (λ (l : List (List ℕ)). list_any (eq_by_cmp (slice_cmp nat_cmp) x) l) (sym same)

    to : Has x names → IsSome (folder_of (files_of m) x)
    to has = any ∙ list_any_at (eq_by_cmp (slice_cmp nat_cmp) x) names has.0 [] has.1 (own_test x _ has.2)

    from : IsSome (folder_of (files_of m) x) → Has x names
    from some = has_from (eq_by_cmp (slice_cmp nat_cmp) x) x (equal_test x) names (sym any ∙ some)

pub rising_names : (m : BTreeMap (List ℕ) (Vec ℕ Global) Global) (names : List (List ℕ)) → names ≡ keys m → IsOrdered (slice_cmp nat_cmp) m → Rise names
rising_names m names same ordered = subst Rise (sym same) (λ i within. Less-from_sorted (slice_cmp nat_cmp) (keys m) i (i + 1) [] ordered (omega arith) within)

-- after a write through the map
pub written : (m n : BTreeMap (List ℕ) (Vec ℕ Global) Global) (name : List ℕ) (v w : Vec ℕ Global) (change : List ℕ → List ℕ) → Some v ≡ get (slice_cmp nat_cmp) m name → (IsSome (get (slice_cmp nat_cmp) m name) → UpdatesBy (slice_cmp nat_cmp) (slice_cmp nat_cmp name) m n (Some w)) → w.items ≡ change v.items
    → IfSome (folder_of (files_of m) name) (λ file. Puts name (Some (change file)) (folder_of (files_of m)) (folder_of (files_of n)))
written m n name v w change is updates same =
    let there : is_some (get (slice_cmp nat_cmp) m name) ≡ true = ap (λ (o : Option (Vec ℕ Global)). is_some o) (sym is) in
    let put : Puts name (Some w.items) (folder_of (files_of m)) (folder_of (files_of n)) = puts m n name (Some w) (updates there) in
    subst (λ (o : Option (List ℕ)). IfSome o (λ file. Puts name (Some (change file)) (folder_of (files_of m)) (folder_of (files_of n)))) (sym (stands m name v is))
    (subst (λ (bytes : List ℕ). Puts name (Some bytes) (folder_of (files_of m)) (folder_of (files_of n))) same put)

pub room_for : (m : BTreeMap (List ℕ) (Vec ℕ Global) Global) (name : List ℕ) (v : Vec ℕ Global) (at : ℕ) → Some v ≡ get (slice_cmp nat_cmp) m name → IfSome (folder_of (files_of m) name) (λ file. at ≤ length file) → at ≤ length v.items
room_for m name v at is there = subst (λ (o : Option (List ℕ)). IfSome o (λ file. at ≤ length file)) (stands m name v is) there

pub on_err : {X Y : Type 0} (r : Result X Y) (P Q : Type 0) → (P → Q) → OnErr r P → OnErr r Q
on_err (Ok x) P Q f h = h
on_err (Err e) P Q f h = f h

pub kept : (m n : BTreeMap (List ℕ) (Vec ℕ Global) Global) (name : List ℕ) (v w : Vec ℕ Global) → Some v ≡ get (slice_cmp nat_cmp) m name → n.entries ≡ set_value (is_at (slice_cmp nat_cmp name)) m.entries w → w.items ≡ v.items → files_of n ≡ files_of m
kept m n name v w is entries same =
    ap (λ (es : List (List ℕ × Vec ℕ Global)). map {B = List ℕ × List ℕ} (λ (e : List ℕ × Vec ℕ Global). (e.0, e.1.items)) es) entries ∙ same_bytes (is_at (slice_cmp nat_cmp name)) m.entries v w is same

pub none_written : (m : BTreeMap (List ℕ) (Vec ℕ Global) Global) (name : List ℕ) (P : List ℕ → Type 0) → None ≡ get (slice_cmp nat_cmp) m name → IfSome (folder_of (files_of m) name) P
none_written m name P is = subst (λ (o : Option (List ℕ)). IfSome o P) (sym (absent m name is)) tt

pub some_for : (m : BTreeMap (List ℕ) (Vec ℕ Global) Global) (name : List ℕ) (v : Vec ℕ Global) (P : List ℕ → Type 0) → Some v ≡ get (slice_cmp nat_cmp) m name → IfSome (folder_of (files_of m) name) P → P v.items
some_for m name v P is there = subst (λ (o : Option (List ℕ)). IfSome o P) (stands m name v is) there
