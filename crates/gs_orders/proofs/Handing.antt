-- The arguments of a call, one after the other.
use Rattle.std.proofs.Common.{◌≡◌, ℕ, ◌+◌, ◌<◌, ◌≤◌, List, [], ◌∷◌, ◌++◌, length, drop, map, get_or, slice_get, min, ◌⊎◌, inl, inr, Option, Some, None, refl, sym, ap, ◌∙◌, append_assoc, arith}
use Rattle.std.specs.Prelude.{option_map}
use Rattle.std.proofs.lemmas.List.{drop_more, drop_all, append-nil}
use Rattle.std.proofs.lemmas.Bool.{cases_lt}
use Rattle.std.proofs.lemmas.Option.{get_or_from_slice_get, slice_get_within}
use Rattle.gs_idl.specs.Interface.{Param}
use Rattle.gs_idl.specs.declared.idl.Dir.{Dir}
use Rattle.gs_idl.specs.declared.idl.ParamKind.{ParamKind}
use Rattle.gs_tree.specs.declared.tree.Argument.{Argument}
use Rattle.gs_tree.specs.View.{passed_of}
use Rattle.gs_talk.specs.Talk.{Handed, handed, all_handed}

dir_is : (ps : List Param) (k : ℕ) (p : Param) (d : Dir) → slice_get ps k ≡ Some p → option_map (λ q. q.dir) (slice_get ps k) ≡ Some d → p.dir ≡ d
dir_is ps k p d here shown = let e : Some p.dir ≡ Some d = ap (option_map (λ (q : Param). q.dir)) (sym here) ∙ shown in cc

kind_is : (ps : List Param) (k : ℕ) (p : Param) (m : ParamKind) → slice_get ps k ≡ Some p → option_map (λ q. q.kind) (slice_get ps k) ≡ Some m → p.kind ≡ m
kind_is ps k p m here shown = let e : Some p.kind ≡ Some m = ap (option_map (λ (q : Param). q.kind)) (sym here) ∙ shown in cc

params_from : (ps : List Param) (k : ℕ) (p : Param) → slice_get ps k ≡ Some p → drop k ps ≡ p ∷ drop (k + 1) ps
params_from ps k p e = drop_more ps k p (slice_get_within ps k p e) ∙ ap (λ x. x ∷ drop (k + 1) ps) (get_or_from_slice_get ps k p p e)

args_from : (args : List Argument) (k : ℕ) (a : Argument) → k < length args → a ≡ get_or args k a → map passed_of (drop k args) ≡ passed_of a ∷ map passed_of (drop (k + 1) args)
args_from args k a h e = ap (map passed_of) (drop_more args k a h) ∙ ap (λ y. passed_of y ∷ map passed_of (drop (k + 1) args)) (sym e)

-- one more argument
one_more : (names : List (List ℕ)) (ps : List Param) (args : List Argument) (k : ℕ) (p : Param) (a : Argument) (so_far : List Handed) (h : Handed) (all : List Handed) → slice_get ps k ≡ Some p → k < length args → a ≡ get_or args k a
    → h ≡ handed names p (passed_of a) → so_far ++ all_handed names (drop k ps) (map passed_of (drop k args)) ≡ all → (so_far ++ h ∷ []) ++ all_handed names (drop (k + 1) ps) (map passed_of (drop (k + 1) args)) ≡ all
one_more names ps args k p a so_far h all there lt is one was =
    let rest = all_handed names (drop (k + 1) ps) (map passed_of (drop (k + 1) args)) in
    append_assoc so_far (h ∷ []) rest
    ∙ ap (λ (x : Handed). so_far ++ x ∷ rest) one
    ∙ sym (ap (λ (q : List Param). so_far ++ all_handed names q (map passed_of (drop k args))) (params_from ps k p there)
    ∙ ap (λ r. so_far ++ all_handed names (p ∷ drop (k + 1) ps) r) (args_from args k a lt is))
    ∙ was

-- the place of this direction and kind, and the argument for it
pub next_handed : (names : List (List ℕ)) (ps : List Param) (args : List Argument) (k : ℕ) (d : Dir) (m : ParamKind) (a : Argument) (so_far : List Handed) (h : Handed) (all : List Handed) →
    option_map (λ q. q.dir) (slice_get ps k) ≡ Some d → option_map (λ q. q.kind) (slice_get ps k) ≡ Some m → ((p : Param) → p.dir ≡ d → p.kind ≡ m → h ≡ handed names p (passed_of a)) → k < length args → a ≡ get_or args k a
    → so_far ++ all_handed names (drop k ps) (map passed_of (drop k args)) ≡ all → (so_far ++ h ∷ []) ++ all_handed names (drop (k + 1) ps) (map passed_of (drop (k + 1) args)) ≡ all
next_handed names ps args k d m a so_far h all dir kind one lt is was = at (slice_get ps k) refl where
  at : (o : Option Param) → slice_get ps k ≡ o → (so_far ++ h ∷ []) ++ all_handed names (drop (k + 1) ps) (map passed_of (drop (k + 1) args)) ≡ all
  at None e = absurd (let f : None ≡ Some d = ap (option_map (λ (q : Param). q.dir)) (sym e) ∙ dir in cc)
  at (Some p) e = one_more names ps args k p a so_far h all e lt is (one p (dir_is ps k p d e dir) (kind_is ps k p m e kind)) was

none_left : (names : List (List ℕ)) (ps : List Param) → all_handed names ps [] ≡ []
none_left names [] = refl
none_left names (p ∷ ps) = refl

-- past the last place or the last argument
all_done : (names : List (List ℕ)) (ps : List Param) (args : List Argument) (k : ℕ) (so_far : List Handed) (all : List Handed) → (length args ≤ k) → so_far ++ all_handed names (drop k ps) (map passed_of (drop k args)) ≡ all → so_far ≡ all
all_done names ps args k so_far all past was =
    sym (append-nil so_far) ∙ ap (λ (x : List Handed). so_far ++ x) (sym (ap (λ r. all_handed names (drop k ps) (map passed_of r)) (drop_all k args past) ∙ none_left names (drop k ps))) ∙ was

no_place : (names : List (List ℕ)) (ps : List Param) (args : List Argument) (k : ℕ) (so_far : List Handed) (all : List Handed) → (length ps ≤ k) → so_far ++ all_handed names (drop k ps) (map passed_of (drop k args)) ≡ all → so_far ≡ all
no_place names ps args k so_far all past was =
    sym (append-nil so_far) ∙ ap (λ (x : List Handed). so_far ++ x) (sym (ap (λ r. all_handed names r (map passed_of (drop k args))) (drop_all k ps past))) ∙ was

pub no_more : (names : List (List ℕ)) (ps : List Param) (args : List Argument) (k : ℕ) (so_far : List Handed) (all : List Handed) → min (length args) (length ps) ≤ k → so_far ++ all_handed names (drop k ps) (map passed_of (drop k args)) ≡ all → so_far ≡ all
no_more names ps args k so_far all past was = at (cases_lt k (length args)) where
  at : (k < length args) ⊎ (length args ≤ k) → so_far ≡ all
  at (inl lt) = no_place names ps args k so_far all (omega (arith, past)) was
  at (inr ge) = all_done names ps args k so_far all ge was
