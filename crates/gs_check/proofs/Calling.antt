-- Arguments at the places of an operation.
use Rattle.std.proofs.Common.{◌≡◌, ℕ, ◌+◌, ◌<◌, Bool, true, false, ◌&&◌, ◌||◌, List, [], ◌∷◌, ◌++◌, length, take, drop, map, get_or, slice_get, Some, refl, sym, ap, ◌∙◌, arith}
use Rattle.std.proofs.lemmas.List.{drop_more, take_more, map-append, length-take-le}
use Rattle.std.specs.Prelude.{Option, None, is_some, option_map}
use Rattle.std.proofs.lemmas.Option.{get_or_from_slice_get, slice_get_within}
use Rattle.gs_idl.specs.Interface.{Param, is_out}
use Rattle.gs_idl.specs.declared.idl.Dir.{Dir}
use Rattle.gs_idl.specs.declared.idl.ParamKind.{ParamKind}
use Rattle.gs_tree.specs.declared.tree.Argument.{Argument}
use Rattle.gs_tree.specs.View.{term_of, passed_of}
use Rattle.gs_check.specs.declared.kind.Fault.{Fault}
use Rattle.gs_check.specs.Faults.{Vars, is_variable_of, stands_out, ◌then◌, passed_fault, all_passed_fault}

-- the direction and the kind that a place has
pub dir_is : (ps : List Param) (k : ℕ) (p : Param) (d : Dir) → slice_get ps k ≡ Some p → option_map (λ q. q.dir) (slice_get ps k) ≡ Some d → d ≡ p.dir
dir_is ps k p d here shown = let e : Some p.dir ≡ Some d = ap (option_map (λ (q : Param). q.dir)) (sym here) ∙ shown in cc

pub kind_is : (ps : List Param) (k : ℕ) (p : Param) (m : ParamKind) → slice_get ps k ≡ Some p → option_map (λ q. q.kind) (slice_get ps k) ≡ Some m → m ≡ p.kind
kind_is ps k p m here shown = let e : Some p.kind ≡ Some m = ap (option_map (λ (q : Param). q.kind)) (sym here) ∙ shown in cc

pub param_at : (ps : List Param) (k : ℕ) (p : Param) → slice_get ps k ≡ Some p → drop k ps ≡ p ∷ drop (k + 1) ps
param_at ps k p e = drop_more ps k p (slice_get_within ps k p e) ∙ ap (λ x. x ∷ drop (k + 1) ps) (get_or_from_slice_get ps k p p e)

pub passed_at : (args : List Argument) (k : ℕ) (a : Argument) → k < length args → a ≡ get_or args k a → map passed_of (drop k args) ≡ passed_of a ∷ map passed_of (drop (k + 1) args)
passed_at args k a h e = ap (map passed_of) (drop_more args k a h) ∙ ap (λ y. passed_of y ∷ map passed_of (drop (k + 1) args)) (sym e)

stands_at : (ps : List Param) (args : List Argument) (k : ℕ) (p : Param) (a : Argument) (name : List ℕ) → slice_get ps k ≡ Some p → k < length args → a ≡ get_or args k a →
    stands_out (drop k ps) (map passed_of (drop k args)) name ≡ (is_out p.dir && is_variable_of name (term_of a.e)) || stands_out (drop (k + 1) ps) (map passed_of (drop (k + 1) args)) name
stands_at ps args k p a name e h f =
    ap (λ r. stands_out r (map passed_of (drop k args)) name) (param_at ps k p e) ∙ ap (λ r. stands_out (p ∷ drop (k + 1) ps) r name) (passed_at args k a h f)

pub stands_here : (ps : List Param) (args : List Argument) (k : ℕ) (p : Param) (a : Argument) (name : List ℕ) → slice_get ps k ≡ Some p → k < length args → a ≡ get_or args k a →
    is_out p.dir ≡ true → is_variable_of name (term_of a.e) ≡ true → stands_out (drop k ps) (map passed_of (drop k args)) name ≡ true
stands_here ps args k p a name e h f x y = stands_at ps args k p a name e h f ∙ (rw (x, y) refl)

pub stands_later : (ps : List Param) (args : List Argument) (k : ℕ) (p : Param) (a : Argument) (name : List ℕ) → slice_get ps k ≡ Some p → k < length args → a ≡ get_or args k a →
    (is_out p.dir && is_variable_of name (term_of a.e)) ≡ false →
    stands_out (drop k ps) (map passed_of (drop k args)) name ≡ stands_out (drop (k + 1) ps) (map passed_of (drop (k + 1) args)) name
stands_later ps args k p a name e h f x = stands_at ps args k p a name e h f ∙ ap (λ b. b || stands_out (drop (k + 1) ps) (map passed_of (drop (k + 1) args)) name) x

-- past the last of them
pub stands_nowhere : (ps : List Param) (name : List ℕ) → stands_out ps [] name ≡ false
stands_nowhere [] name = refl
stands_nowhere (p ∷ ps) name = refl

pub first_false : (x y : Bool) → x ≡ false → (x && y) ≡ false
first_false x y e = rw e refl

pub second_false : (x y : Bool) → y ≡ false → (x && y) ≡ false
second_false true y e = e
second_false false y e = refl

pub stop_here : (x y : Option Fault) → is_some x ≡ true → (x then y) ≡ x
stop_here None y e = absurd (cc)
stop_here (Some f) y e = refl

pub go_on : (x y : Option Fault) → is_some x ≡ false → (x then y) ≡ y
go_on None y e = refl
go_on (Some f) y e = absurd (cc)

before_more : (args : List Argument) (j : ℕ) (a : Argument) → j < length args → a ≡ get_or args j a →
    map passed_of (take (j + 1) args) ≡ map passed_of (take j args) ++ passed_of a ∷ []
before_more args j a h e =
    ap (map passed_of) (take_more args j a h) ∙ map-append passed_of (take j args) (get_or args j a ∷ []) ∙ ap (λ y. map passed_of (take j args) ++ passed_of y ∷ []) (sym e)

pub args_at : (vars : Vars) (params ps : List Param) (args : List Argument) (j : ℕ) (p : Param) (a : Argument) → slice_get ps j ≡ Some p → j < length args → a ≡ get_or args j a →
    all_passed_fault vars params (map passed_of (take j args)) (drop j ps) (map passed_of (drop j args))
    ≡ (passed_fault vars params (map passed_of (take j args)) p (passed_of a) then all_passed_fault vars params (map passed_of (take (j + 1) args)) (drop (j + 1) ps) (map passed_of (drop (j + 1) args)))
args_at vars params ps args j p a e h f =
    ap (λ r. all_passed_fault vars params (map passed_of (take j args)) r (map passed_of (drop j args))) (param_at ps j p e)
    ∙ ap (λ r. all_passed_fault vars params (map passed_of (take j args)) (p ∷ drop (j + 1) ps) r) (passed_at args j a h f)
    ∙ ap (λ r. passed_fault vars params (map passed_of (take j args)) p (passed_of a) then all_passed_fault vars params r (drop (j + 1) ps) (map passed_of (drop (j + 1) args))) (sym (before_more args j a h f))

-- the place of an argument, after those before
pub place_before : (ps : List Param) (args : List Argument) (j : ℕ) (p : Param) → j < length args → slice_get ps j ≡ Some p → slice_get ps (length (take j args)) ≡ Some p
place_before ps args j p h e = rw (length-take-le j args (omega arith)) e
