-- Arguments against the kinds that a format takes.
use Rattle.std.proofs.Common.{◌≡◌, ℕ, ◌+◌, ◌-◌, ◌<◌, ◌≤◌, ◌⊎◌, inl, inr, true, false, List, [], ◌∷◌, length, drop, map, get_or, refl, ap, sym, ◌∙◌, Option, Some, None, eqb, arith, length-drop}
use Rattle.std.proofs.lemmas.List.{drop_more, drop_all}
use Rattle.std.proofs.lemmas.Bool.{ne_eqb, eq-eqb, cases_lt}
use Rattle.std.specs.Option.{option_map}
use Rattle.gs_tree.specs.declared.tree.VarKind.{VarKind}
use Rattle.gs_tree.specs.declared.tree.Expr.{Expr}
use Rattle.gs_tree.specs.Program.{Term}
use Rattle.gs_tree.specs.View.{term_of}
use Rattle.gs_tree.specs.Variables.{term_kind, is_wrong}
use Rattle.gs_check.specs.Faults.{Vars, is_format}

pub fit_more : (vars : Vars) (k : VarKind) (kinds : Option (List VarKind)) (t : Term) (ts : List Term) → is_wrong k (term_kind vars t) ≡ false →
    is_format vars (option_map (λ ks. k ∷ ks) kinds) (t ∷ ts) ≡ is_format vars kinds ts
fit_more vars k None t ts e = refl
fit_more vars k (Some ks) t ts e = rw e refl

fit_none : (vars : Vars) (k : VarKind) (kinds : Option (List VarKind)) → is_format vars (option_map (λ ks. k ∷ ks) kinds) [] ≡ false
fit_none vars k None = refl
fit_none vars k (Some ks) = refl

fit_wrong : (vars : Vars) (k : VarKind) (kinds : Option (List VarKind)) (t : Term) (ts : List Term) → is_wrong k (term_kind vars t) ≡ true →
    is_format vars (option_map (λ ks. k ∷ ks) kinds) (t ∷ ts) ≡ false
fit_wrong vars k None t ts e = refl
fit_wrong vars k (Some ks) t ts e = rw e refl

-- the argument at a place
passed_at : (args : List Expr) (i : ℕ) (x : Expr) → i < length args → x ≡ get_or args i x → map term_of (drop i args) ≡ term_of x ∷ map term_of (drop (i + 1) args)
passed_at args i x h e = ap (map term_of) (drop_more args i x h) ∙ ap (λ y. term_of y ∷ map term_of (drop (i + 1) args)) (sym e)

pub step_value : (vars : Vars) (k : VarKind) (kinds : Option (List VarKind)) (args : List Expr) (i : ℕ) (x : Expr) → i < length args → x ≡ get_or args i x →
    is_wrong k (term_kind vars (term_of x)) ≡ false →
    is_format vars (option_map (λ ks. k ∷ ks) kinds) (map term_of (drop i args)) ≡ is_format vars kinds (map term_of (drop (i + 1) args))
step_value vars k kinds args i x h e w = rw (passed_at args i x h e) (fit_more vars k kinds (term_of x) (map term_of (drop (i + 1) args)) w)

pub stop_value : (vars : Vars) (k : VarKind) (kinds : Option (List VarKind)) (args : List Expr) (i : ℕ) (x : Expr) → i < length args → x ≡ get_or args i x →
    is_wrong k (term_kind vars (term_of x)) ≡ true → is_format vars (option_map (λ ks. k ∷ ks) kinds) (map term_of (drop i args)) ≡ false
stop_value vars k kinds args i x h e w = rw (passed_at args i x h e) (fit_wrong vars k kinds (term_of x) (map term_of (drop (i + 1) args)) w)

pub stop_short : (vars : Vars) (k : VarKind) (kinds : Option (List VarKind)) (args : List Expr) (i : ℕ) → length args ≤ i →
    is_format vars (option_map (λ ks. k ∷ ks) kinds) (map term_of (drop i args)) ≡ false
stop_short vars k kinds args i h = rw (drop_all i args h) (fit_none vars k kinds)

no_kinds : (vars : Vars) (es : List Expr) → is_format vars (Some []) (map term_of es) ≡ eqb (length es) 0
no_kinds vars [] = refl
no_kinds vars (e ∷ es) = sym (ne_eqb (length (e ∷ es)) 0 (λ f. omega arith))

same_test : (n m : ℕ) → m ≤ n → (m < n) ⊎ (n ≤ m) → eqb (n - m) 0 ≡ eqb m n
same_test n m h (inl l) = ne_eqb (n - m) 0 (λ e. omega arith) ∙ sym (ne_eqb m n (λ e. omega arith))
same_test n m h (inr g) = eq-eqb (n - m) 0 (omega arith) ∙ sym (eq-eqb m n (omega arith))

pub at_end : (vars : Vars) (args : List Expr) (i : ℕ) → i ≤ length args → is_format vars (Some []) (map term_of (drop i args)) ≡ eqb i (length args)
at_end vars args i h =
    no_kinds vars (drop i args) ∙ ap (λ n. eqb n 0) (length-drop i args) ∙ same_test (length args) i h (cases_lt i (length args))
