-- What may stand in each state.
use Rattle.std.proofs.Common.{◌≡◌, ◌≢◌, ℕ, ◌<◌, ◌≤◌, Bool, true, false, nat_le, if◌then◌else◌, List, [], ◌∷◌, ◌++◌, length, Option, Some, None, refl, ap, ◌∙◌, arith}
use Rattle.std.specs.Option.{option_map}
use Rattle.std.specs.Str.{bytes_eq}
use Rattle.std.proofs.lemmas.Slice.Eq.{bytes_eq-Decides}
use lib.Chars.{codes}
use Rattle.gs_idl.specs.Interface.{Param, Signature}
use Rattle.gs_idl.specs.Lexicon.{IdlSign, word, symbol, bad, finish}
use Rattle.gs_idl.specs.Machine.{State, start, at_title, at_brace, at_ops, at_name, at_paren, at_dir, at_kind, at_param, at_sep, at_semi, closed, ended, whole, step, broken, where_is, dir_of, kind_of, name_rule, clash_rule, param_by, op_by, is_clash, has_param}
use Rattle.gs_idl.specs.Reading.{IsNoWord}
use Rattle.gs_idl.specs.declared.idl.Dir.{Dir}
use Rattle.gs_idl.specs.declared.idl.ParamKind.{ParamKind}
use Rattle.gs_idl.specs.declared.token.Symbol.TheVariants.{OpenBrace, CloseBrace, OpenParen, CloseParen, Comma, Semicolon}
use Rattle.gs_idl.specs.declared.token.IdlKind.{IdlKind}
use Rattle.gs_idl.specs.declared.token.IdlKind.TheVariants.{TooMany, Twice, BadCombination}
use Rattle.std.proofs.lemmas.Bool.{leb-true, leb-false}
use Rattle.gs_idl.proofs.Running.{IsOpen}

pub open_start : IsOpen start
unfolding step
open_start = record { refuses = λ k. refl }

pub open_title : IsOpen at_title
unfolding step
open_title = record { refuses = λ k. refl }

pub open_brace : (x : List ℕ) → IsOpen (at_brace x)
unfolding step
open_brace x = record { refuses = λ k. refl }

pub open_ops : (x : List ℕ) (os : List Signature) → IsOpen (at_ops x os)
unfolding step
open_ops x [] = record { refuses = λ k. refl }
open_ops x (o ∷ os) = record { refuses = λ k. refl }

pub open_name : (x : List ℕ) (os : List Signature) → IsOpen (at_name x os)
unfolding step
open_name x os = record { refuses = λ k. refl }

pub open_paren : (x : List ℕ) (os : List Signature) (f : List ℕ) → IsOpen (at_paren x os f)
unfolding step
open_paren x os f = record { refuses = λ k. refl }

pub open_dir : (x : List ℕ) (os : List Signature) (f : List ℕ) (ps : List Param) → IsOpen (at_dir x os f ps)
unfolding step
open_dir x os f ps = record { refuses = λ k. refl }

pub open_kind : (x : List ℕ) (os : List Signature) (f : List ℕ) (ps : List Param) (d : Dir) → IsOpen (at_kind x os f ps d)
unfolding step
open_kind x os f ps d = record { refuses = λ k. refl }

pub open_param : (x : List ℕ) (os : List Signature) (f : List ℕ) (ps : List Param) (d : Dir) (k : ParamKind) → IsOpen (at_param x os f ps d k)
unfolding step
open_param x os f ps d k = record { refuses = λ k. refl }

pub open_sep : (x : List ℕ) (os : List Signature) (f : List ℕ) (ps : List Param) → IsOpen (at_sep x os f ps)
unfolding step
open_sep x os f ps = record { refuses = λ k. refl }

pub open_semi : (x : List ℕ) (os : List Signature) (f : List ℕ) (ps : List Param) → IsOpen (at_semi x os f ps)
unfolding step
open_semi x os f ps = record { refuses = λ k. refl }

pub open_closed : (x : List ℕ) (os : List Signature) → IsOpen (closed x os)
unfolding step
open_closed x os = record { refuses = λ k. refl }

pub open_ended : (x : List ℕ) (os : List Signature) → IsOpen (ended x os)
unfolding step
open_ended x os = record { refuses = λ k. refl }

-- ---- words that are asked for

same_word : (w : List ℕ) → bytes_eq w w ≡ true
same_word w = (bytes_eq-Decides w w).1 refl

other_word : (b : Bool) (w wanted : List ℕ) (s : State) → bytes_eq w wanted ≡ b → w ≢ wanted → (if b then Some s else None) ≡ None
other_word true w wanted s e n = absurd (n ((bytes_eq-Decides w wanted).0 e))
other_word false w wanted s e n = refl

pub asked : (wanted : List ℕ) (s : State) → where_is wanted wanted s ≡ Some s
asked wanted s = ap (λ (b : Bool). if b then Some s else None) (same_word wanted)

pub not_asked : (w wanted : List ℕ) (s : State) → w ≢ wanted → where_is wanted w s ≡ None
not_asked w wanted s n = other_word (bytes_eq w wanted) w wanted s refl n

-- ---- what may stand where

pub start_goes : step start (word (codes "interface")) ≡ Some at_title
unfolding step
start_goes = asked (codes "interface") at_title

pub start_stops : (g : IdlSign) → g ≢ word (codes "interface") → step start g ≡ None
unfolding step
start_stops (word w) n = not_asked w (codes "interface") at_title (λ e. n (ap word e))
start_stops (symbol s) n = refl
start_stops (bad k) n = refl
start_stops finish n = refl

pub title_goes : (w : List ℕ) → step at_title (word w) ≡ Some (at_brace w)
unfolding step
title_goes w = refl

pub title_stops : (g : IdlSign) → IsNoWord g → step at_title g ≡ None
unfolding step
title_stops (word w) n = absurd n
title_stops (symbol s) n = refl
title_stops (bad k) n = refl
title_stops finish n = refl

pub brace_goes : (x : List ℕ) → step (at_brace x) (symbol OpenBrace) ≡ Some (at_ops x [])
unfolding step
brace_goes x = refl

pub brace_stops : (x : List ℕ) (g : IdlSign) → g ≢ symbol OpenBrace → step (at_brace x) g ≡ None
unfolding step
brace_stops x (word w) n = refl
brace_stops x (symbol OpenBrace) n = absurd (n refl)
brace_stops x (symbol CloseBrace) n = refl
brace_stops x (symbol OpenParen) n = refl
brace_stops x (symbol CloseParen) n = refl
brace_stops x (symbol Comma) n = refl
brace_stops x (symbol Semicolon) n = refl
brace_stops x (bad k) n = refl
brace_stops x finish n = refl

pub start_rule : (g : IdlSign) → broken start g ≡ None
unfolding broken
start_rule g = refl

pub title_rule : (g : IdlSign) → broken at_title g ≡ None
unfolding broken
title_rule g = refl

pub brace_rule : (x : List ℕ) (g : IdlSign) → broken (at_brace x) g ≡ None
unfolding broken
brace_rule x g = refl

-- ---- directions, kinds and names

pub dir_no_word : (x : List ℕ) (os : List Signature) (f : List ℕ) (ps : List Param) (g : IdlSign) → IsNoWord g → step (at_dir x os f ps) g ≡ None
unfolding step
dir_no_word x os f ps (word w) n = absurd n
dir_no_word x os f ps (symbol s) n = refl
dir_no_word x os f ps (bad k) n = refl
dir_no_word x os f ps finish n = refl

pub dir_other : (x : List ℕ) (os : List Signature) (f : List ℕ) (ps : List Param) (w : List ℕ) → dir_of w ≡ None → step (at_dir x os f ps) (word w) ≡ None
unfolding step
dir_other x os f ps w e = ap (option_map (λ d. at_kind x os f ps d)) e

pub dir_goes : (x : List ℕ) (os : List Signature) (f : List ℕ) (ps : List Param) (w : List ℕ) (d : Dir) → dir_of w ≡ Some d → step (at_dir x os f ps) (word w) ≡ Some (at_kind x os f ps d)
unfolding step
dir_goes x os f ps w d e = ap (option_map (λ d. at_kind x os f ps d)) e

many_by : (b : Bool) (n : ℕ) → nat_le 16 n ≡ b → 16 ≤ n → (if b then Some TooMany else None) ≡ Some TooMany
many_by true n e h = refl
many_by false n e h = absurd (let lt : n < 16 = leb-false 16 n e in omega arith)

few_by : (b : Bool) (n : ℕ) → nat_le 16 n ≡ b → n < 16 → (if b then Some TooMany else None) ≡ None
few_by true n e h = absurd (let le : 16 ≤ n = leb-true 16 n e in omega arith)
few_by false n e h = refl

pub dir_many : (x : List ℕ) (os : List Signature) (f : List ℕ) (ps : List Param) (w : List ℕ) → 16 ≤ length ps → broken (at_dir x os f ps) (word w) ≡ Some TooMany
unfolding broken
dir_many x os f ps w h = many_by (nat_le 16 (length ps)) (length ps) refl h

pub dir_few : (x : List ℕ) (os : List Signature) (f : List ℕ) (ps : List Param) (w : List ℕ) → length ps < 16 → broken (at_dir x os f ps) (word w) ≡ None
unfolding broken
dir_few x os f ps w h = few_by (nat_le 16 (length ps)) (length ps) refl h

pub kind_no_word : (x : List ℕ) (os : List Signature) (f : List ℕ) (ps : List Param) (d : Dir) (g : IdlSign) → IsNoWord g → step (at_kind x os f ps d) g ≡ None
unfolding step
kind_no_word x os f ps d (word w) n = absurd n
kind_no_word x os f ps d (symbol s) n = refl
kind_no_word x os f ps d (bad k) n = refl
kind_no_word x os f ps d finish n = refl

pub kind_other : (x : List ℕ) (os : List Signature) (f : List ℕ) (ps : List Param) (d : Dir) (w : List ℕ) → kind_of w ≡ None → step (at_kind x os f ps d) (word w) ≡ None
unfolding step
kind_other x os f ps d w e = ap (option_map (λ k. at_param x os f ps d k)) e

pub kind_goes : (x : List ℕ) (os : List Signature) (f : List ℕ) (ps : List Param) (d : Dir) (w : List ℕ) (k : ParamKind) → kind_of w ≡ Some k → step (at_kind x os f ps d) (word w) ≡ Some (at_param x os f ps d k)
unfolding step
kind_goes x os f ps d w k e = ap (option_map (λ k. at_param x os f ps d k)) e

pub kind_rule : (x : List ℕ) (os : List Signature) (f : List ℕ) (ps : List Param) (d : Dir) (w : List ℕ) (k : ParamKind) (b : Bool) → kind_of w ≡ Some k → is_clash d k ≡ b
    → broken (at_kind x os f ps d) (word w) ≡ (if b then Some BadCombination else None)
unfolding broken
kind_rule x os f ps d w k b e c = ap (clash_rule d) e ∙ ap (λ (t : Bool). if t then Some BadCombination else None) c

pub param_no_word : (x : List ℕ) (os : List Signature) (f : List ℕ) (ps : List Param) (d : Dir) (k : ParamKind) (g : IdlSign) → IsNoWord g → step (at_param x os f ps d k) g ≡ None
unfolding step
param_no_word x os f ps d k (word w) n = absurd n
param_no_word x os f ps d k (symbol s) n = refl
param_no_word x os f ps d k (bad e) n = refl
param_no_word x os f ps d k finish n = refl

pub param_goes : (x : List ℕ) (os : List Signature) (f : List ℕ) (ps : List Param) (d : Dir) (k : ParamKind) (w : List ℕ) → step (at_param x os f ps d k) (word w) ≡ Some (at_sep x os f (ps ++ param_by d k w ∷ []))
unfolding step
param_goes x os f ps d k w = refl

pub param_named : (x : List ℕ) (os : List Signature) (f : List ℕ) (ps : List Param) (d : Dir) (k : ParamKind) (w : List ℕ) (b : Bool) → has_param w ps ≡ b
    → broken (at_param x os f ps d k) (word w) ≡ (if b then Some Twice else None)
unfolding broken
param_named x os f ps d k w b e = ap (λ (t : Bool). if t then Some Twice else None) e

-- ---- the end of a parameter and of a list

pub sep_comma : (x : List ℕ) (os : List Signature) (f : List ℕ) (ps : List Param) → step (at_sep x os f ps) (symbol Comma) ≡ Some (at_dir x os f ps)
unfolding step
sep_comma x os f ps = refl

pub sep_close : (x : List ℕ) (os : List Signature) (f : List ℕ) (ps : List Param) → step (at_sep x os f ps) (symbol CloseParen) ≡ Some (at_semi x os f ps)
unfolding step
sep_close x os f ps = refl

pub sep_stops : (x : List ℕ) (os : List Signature) (f : List ℕ) (ps : List Param) (g : IdlSign) → g ≢ symbol Comma → g ≢ symbol CloseParen → step (at_sep x os f ps) g ≡ None
unfolding step
sep_stops x os f ps (word w) n m = refl
sep_stops x os f ps (symbol OpenBrace) n m = refl
sep_stops x os f ps (symbol CloseBrace) n m = refl
sep_stops x os f ps (symbol OpenParen) n m = refl
sep_stops x os f ps (symbol CloseParen) n m = absurd (m refl)
sep_stops x os f ps (symbol Comma) n m = absurd (n refl)
sep_stops x os f ps (symbol Semicolon) n m = refl
sep_stops x os f ps (bad k) n m = refl
sep_stops x os f ps finish n m = refl

pub sep_rule : (x : List ℕ) (os : List Signature) (f : List ℕ) (ps : List Param) (g : IdlSign) → broken (at_sep x os f ps) g ≡ None
unfolding broken
sep_rule x os f ps g = refl

pub name_no_word : (x : List ℕ) (os : List Signature) (g : IdlSign) → IsNoWord g → step (at_name x os) g ≡ None
unfolding step
name_no_word x os (word w) n = absurd n
name_no_word x os (symbol s) n = refl
name_no_word x os (bad k) n = refl
name_no_word x os finish n = refl

pub name_goes : (x : List ℕ) (os : List Signature) (w : List ℕ) → step (at_name x os) (word w) ≡ Some (at_paren x os w)
unfolding step
name_goes x os w = refl

pub name_broken : (x : List ℕ) (os : List Signature) (w : List ℕ) (r : Option IdlKind) → name_rule os w ≡ r → broken (at_name x os) (word w) ≡ r
unfolding broken
name_broken x os w r e = e

pub paren_goes : (x : List ℕ) (os : List Signature) (f : List ℕ) → step (at_paren x os f) (symbol OpenParen) ≡ Some (at_dir x os f [])
unfolding step
paren_goes x os f = refl

pub paren_stops : (x : List ℕ) (os : List Signature) (f : List ℕ) (g : IdlSign) → g ≢ symbol OpenParen → step (at_paren x os f) g ≡ None
unfolding step
paren_stops x os f (word w) n = refl
paren_stops x os f (symbol OpenBrace) n = refl
paren_stops x os f (symbol CloseBrace) n = refl
paren_stops x os f (symbol OpenParen) n = absurd (n refl)
paren_stops x os f (symbol CloseParen) n = refl
paren_stops x os f (symbol Comma) n = refl
paren_stops x os f (symbol Semicolon) n = refl
paren_stops x os f (bad k) n = refl
paren_stops x os f finish n = refl

pub paren_rule : (x : List ℕ) (os : List Signature) (f : List ℕ) (g : IdlSign) → broken (at_paren x os f) g ≡ None
unfolding broken
paren_rule x os f g = refl

pub semi_goes : (x : List ℕ) (os : List Signature) (f : List ℕ) (ps : List Param) → step (at_semi x os f ps) (symbol Semicolon) ≡ Some (at_ops x (os ++ op_by f ps ∷ []))
unfolding step
semi_goes x os f ps = refl

pub semi_stops : (x : List ℕ) (os : List Signature) (f : List ℕ) (ps : List Param) (g : IdlSign) → g ≢ symbol Semicolon → step (at_semi x os f ps) g ≡ None
unfolding step
semi_stops x os f ps (word w) n = refl
semi_stops x os f ps (symbol OpenBrace) n = refl
semi_stops x os f ps (symbol CloseBrace) n = refl
semi_stops x os f ps (symbol OpenParen) n = refl
semi_stops x os f ps (symbol CloseParen) n = refl
semi_stops x os f ps (symbol Comma) n = refl
semi_stops x os f ps (symbol Semicolon) n = absurd (n refl)
semi_stops x os f ps (bad k) n = refl
semi_stops x os f ps finish n = refl

pub semi_rule : (x : List ℕ) (os : List Signature) (f : List ℕ) (ps : List Param) (g : IdlSign) → broken (at_semi x os f ps) g ≡ None
unfolding broken
semi_rule x os f ps g = refl

-- ---- operations

pub ops_void : (x : List ℕ) (os : List Signature) → step (at_ops x os) (word (codes "void")) ≡ Some (at_name x os)
unfolding step
ops_void x [] = asked (codes "void") (at_name x [])
ops_void x (o ∷ os) = asked (codes "void") (at_name x (o ∷ os))

pub ops_close : (x : List ℕ) (os : List Signature) → 1 ≤ length os → step (at_ops x os) (symbol CloseBrace) ≡ Some (closed x os)
unfolding step
ops_close x [] h = absurd (omega arith)
ops_close x (o ∷ os) h = refl

pub ops_stops : (x : List ℕ) (os : List Signature) (g : IdlSign) → g ≢ word (codes "void") → (g ≡ symbol CloseBrace → os ≡ []) → step (at_ops x os) g ≡ None
unfolding step
ops_stops x [] (word w) n m = not_asked w (codes "void") (at_name x []) (λ e. n (ap word e))
ops_stops x [] (symbol s) n m = refl
ops_stops x [] (bad k) n m = refl
ops_stops x [] finish n m = refl
ops_stops x (o ∷ os) (word w) n m = not_asked w (codes "void") (at_name x (o ∷ os)) (λ e. n (ap word e))
ops_stops x (o ∷ os) (symbol OpenBrace) n m = refl
ops_stops x (o ∷ os) (symbol CloseBrace) n m = absurd (let e : o ∷ os ≡ [] = m refl in cc)
ops_stops x (o ∷ os) (symbol OpenParen) n m = refl
ops_stops x (o ∷ os) (symbol CloseParen) n m = refl
ops_stops x (o ∷ os) (symbol Comma) n m = refl
ops_stops x (o ∷ os) (symbol Semicolon) n m = refl
ops_stops x (o ∷ os) (bad k) n m = refl
ops_stops x (o ∷ os) finish n m = refl

pub ops_rule : (x : List ℕ) (os : List Signature) (g : IdlSign) → broken (at_ops x os) g ≡ None
unfolding broken
ops_rule x os g = refl

-- ---- the end

pub closed_semicolon : (x : List ℕ) (os : List Signature) → step (closed x os) (symbol Semicolon) ≡ Some (ended x os)
unfolding step
closed_semicolon x os = refl

pub closed_finish : (x : List ℕ) (os : List Signature) → step (closed x os) finish ≡ Some (whole false x os)
unfolding step
closed_finish x os = refl

pub closed_stops : (x : List ℕ) (os : List Signature) (g : IdlSign) → g ≢ symbol Semicolon → g ≢ finish → step (closed x os) g ≡ None
unfolding step
closed_stops x os (word w) n m = refl
closed_stops x os (symbol OpenBrace) n m = refl
closed_stops x os (symbol CloseBrace) n m = refl
closed_stops x os (symbol OpenParen) n m = refl
closed_stops x os (symbol CloseParen) n m = refl
closed_stops x os (symbol Comma) n m = refl
closed_stops x os (symbol Semicolon) n m = absurd (n refl)
closed_stops x os (bad k) n m = refl
closed_stops x os finish n m = absurd (m refl)

pub closed_rule : (x : List ℕ) (os : List Signature) (g : IdlSign) → broken (closed x os) g ≡ None
unfolding broken
closed_rule x os g = refl

pub ended_finish : (x : List ℕ) (os : List Signature) → step (ended x os) finish ≡ Some (whole true x os)
unfolding step
ended_finish x os = refl

pub ended_stops : (x : List ℕ) (os : List Signature) (g : IdlSign) → g ≢ finish → step (ended x os) g ≡ None
unfolding step
ended_stops x os (word w) n = refl
ended_stops x os (symbol s) n = refl
ended_stops x os (bad k) n = refl
ended_stops x os finish n = absurd (n refl)

pub ended_rule : (x : List ℕ) (os : List Signature) (g : IdlSign) → broken (ended x os) g ≡ None
unfolding broken
ended_rule x os g = refl

pub some_ops : (first : Bool) (os : List Signature) → first ≡ false → (os ≡ [] → first ≡ true) → 1 ≤ length os
some_ops first [] e h = absurd (let f : first ≡ true = h refl in cc)
some_ops first (o ∷ os) e h = omega arith
