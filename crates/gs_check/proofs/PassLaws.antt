-- A program without a fault passes, node by node.
use Rattle.std.proofs.Common.{◌≡◌, ℕ, ◌<◌, ◌≤◌, Bool, true, false, ◌&&◌, not, List, [], ◌∷◌, ◌++◌, length, Option, Some, None, refl, sym, ap, ◌∙◌, inl, inr, arith, length-append}
use Rattle.std.specs.Prelude.{is_none, is_some, ◌==◌, ◌||◌, if◌then◌else◌}
use Rattle.std.proofs.lemmas.Bool.Decides.{eqb_tells}
use Rattle.gs_tree.specs.declared.tree.VarKind.{VarKind}
use Rattle.gs_tree.specs.declared.tree.VarKind.TheVariants.{Int, Str, Handle}
use Rattle.gs_tree.specs.Program.{Name, Term, num, lit, var, atoi, strcmp, neg, not_, two, Setting, Formatted, Passed, Code, empty, block, set, choose, while, for, open_file, read_line, close_file, barrier, print, print_file, print_str, call, Codes, none, one, MaybeCodes, without, otherwise, Program}
use Rattle.gs_tree.specs.Variables.{declared_kind, term_kind, is_wrong}
use Rattle.gs_tree.specs.Formats.{format_kinds}
use Rattle.gs_idl.specs.Interface.{Param, Signature, op_place, params_at, is_out, is_out_scalar}
use Rattle.gs_check.specs.declared.kind.CheckKind.{CheckKind}
use Rattle.gs_check.specs.declared.kind.Fault.{Fault}
use Rattle.gs_check.specs.Faults.{Vars, ◌then◌, fault_if, name_fault, wrong_fault, inner_fault, term_fault, maybe_term_fault, value_fault, setting_fault, maybe_setting_fault, fit_kinds, is_format, args_fault, format_fault, place_kind, is_variable, repeats, is_no_variable, passed_place_fault, leads_with_leaf, own_fault, passed_fault, all_passed_fault, call_fault, code_fault, codes_fault, else_fault, is_taken, vars_fault, initial_fault, fault_of}
use Rattle.gs_check.specs.Passes.{NameIs, TermIs, TermsAre, SettingPasses, MaybeSettingPasses, MaybeTermIs, FormatPasses, PassedIs, PassedAre, CallPasses, CodePasses, CodesPass, ElsePasses, SettingsPass, VarsPass, ProgramPasses}

-- ---- no fault

both_none : (a b : Option Fault) → (a then b) ≡ None → (a ≡ None) × (b ≡ None)
both_none None b e = (refl, e)
both_none (Some f) b e = absurd cc

not_so : (b : Bool) (line : ℕ) (kind : CheckKind) → fault_if b line kind ≡ None → b ≡ false
not_so true line kind e = absurd cc
not_so false line kind e = refl

not_false : (b : Bool) → not b ≡ false → b ≡ true
not_false true e = refl
not_false false e = absurd cc

neither : (a b : Bool) → (a || b) ≡ false → (a ≡ false) × (b ≡ false)
neither true b e = absurd cc
neither false b e = (refl, e)

-- ---- kinds

kind_right : (k m : VarKind) → is_wrong k (Some m) ≡ false → k ≡ m
kind_right Int Int e = refl
kind_right Int Str e = absurd cc
kind_right Int Handle e = absurd cc
kind_right Str Int e = absurd cc
kind_right Str Str e = refl
kind_right Str Handle e = absurd cc
kind_right Handle Int e = absurd cc
kind_right Handle Str e = absurd cc
kind_right Handle Handle e = refl

declared_right : (k : VarKind) (o : Option VarKind) → is_none o ≡ false → is_wrong k o ≡ false → o ≡ Some k
declared_right k None there e = absurd cc
declared_right k (Some m) there e = ap Some (sym (kind_right k m e))

name_passes : (vars : Vars) (k : VarKind) (name : Name) → name_fault vars k name ≡ None → NameIs vars k name
name_passes vars k name e =
    let parts = both_none _ _ e in
    declared_right k (declared_kind vars name.text) (not_so _ _ _ parts.0) (not_so _ _ _ parts.1)

-- ---- expressions

-- an expression in which no fault is found, and which is of the kind that is wanted
abbrev Inner : Vars → Option Fault → Term → Type 0
Inner vars here t = (here ≡ None) × ((k : VarKind) → is_wrong k (term_kind vars t) ≡ false → TermIs vars k t)

-- a part at which this kind is wanted, where a fault stands at its first leaf with what stood there
part : (vars : Vars) (k : VarKind) (here : Option Fault) (t : Term) → Inner vars (wrong_fault vars k t then here) t → (here ≡ None) × TermIs vars k t
part vars k here t inner =
    let parts = both_none (wrong_fault vars k t) here inner.0 in
    (parts.1, inner.1 k (not_so _ _ _ parts.0))

last_part : (vars : Vars) (k : VarKind) (t : Term) → Inner vars (wrong_fault vars k t) t → TermIs vars k t
last_part vars k t inner = inner.1 k (not_so _ _ _ inner.0)

inner_passes : (vars : Vars) (here : Option Fault) (t : Term) → inner_fault vars here t ≡ None → Inner vars here t
inner_passes vars here (num line v) e = (e, λ k right. kind_right k Int right)
inner_passes vars here (lit line s) e = (e, λ k right. kind_right k Str right)
inner_passes vars here (var name) e =
    let parts = both_none (fault_if (is_none (declared_kind vars name.text)) name.line _) here e in
    (parts.1, λ k right. declared_right k (declared_kind vars name.text) (not_so _ _ _ parts.0) right)
inner_passes vars here (atoi a) e =
    let p = part vars Str here a (inner_passes vars (wrong_fault vars Str a then here) a e) in
    (p.0, λ k right. (kind_right k Int right, p.1))
inner_passes vars here (strcmp a b) e =
    let parts = both_none (inner_fault vars (wrong_fault vars Str a then here) a) (inner_fault vars (wrong_fault vars Str b) b) e in
    let p = part vars Str here a (inner_passes vars (wrong_fault vars Str a then here) a parts.0) in
    let q = last_part vars Str b (inner_passes vars (wrong_fault vars Str b) b parts.1) in
    (p.0, λ k right. (kind_right k Int right, p.1, q))
inner_passes vars here (neg a) e =
    let p = part vars Int here a (inner_passes vars (wrong_fault vars Int a then here) a e) in
    (p.0, λ k right. (kind_right k Int right, p.1))
inner_passes vars here (not_ a) e =
    let p = part vars Int here a (inner_passes vars (wrong_fault vars Int a then here) a e) in
    (p.0, λ k right. (kind_right k Int right, p.1))
inner_passes vars here (two op a b) e =
    let parts = both_none (inner_fault vars (wrong_fault vars Int a then here) a) (inner_fault vars (wrong_fault vars Int b) b) e in
    let p = part vars Int here a (inner_passes vars (wrong_fault vars Int a then here) a parts.0) in
    let q = last_part vars Int b (inner_passes vars (wrong_fault vars Int b) b parts.1) in
    (p.0, λ k right. (kind_right k Int right, p.1, q))

term_passes : (vars : Vars) (k : VarKind) (t : Term) → term_fault vars k t ≡ None → TermIs vars k t
term_passes vars k t e = last_part vars k t (inner_passes vars (wrong_fault vars k t) t e)

maybe_term_passes : (vars : Vars) (k : VarKind) (t : Option Term) → maybe_term_fault vars k t ≡ None → MaybeTermIs vars k t
maybe_term_passes vars k None e = tt
maybe_term_passes vars k (Some t) e = term_passes vars k t e

-- ---- assignments

value_passes : (vars : Vars) (o : Option VarKind) (s : Setting) → declared_kind vars s.to.text ≡ o → is_none o ≡ false → value_fault vars o s.to s.value ≡ None → SettingPasses vars s
value_passes vars None s is there e = absurd cc
value_passes vars (Some Int) s is there e = inl (is, term_passes vars Int s.value e)
value_passes vars (Some Str) s is there e = inr (is, term_passes vars Str s.value e)
value_passes vars (Some Handle) s is there e = absurd cc

setting_passes : (vars : Vars) (s : Setting) → setting_fault vars s ≡ None → SettingPasses vars s
setting_passes vars s e =
    let parts = both_none _ _ e in
    value_passes vars (declared_kind vars s.to.text) s refl (not_so _ _ _ parts.0) parts.1

maybe_setting_passes : (vars : Vars) (s : Option Setting) → maybe_setting_fault vars s ≡ None → MaybeSettingPasses vars s
maybe_setting_passes vars None e = tt
maybe_setting_passes vars (Some s) e = setting_passes vars s e

-- ---- prints

both_true : (a b : Bool) → (a && b) ≡ true → (a ≡ true) × (b ≡ true)
both_true true b e = (refl, e)
both_true false b e = absurd cc

not_true : (b : Bool) → not b ≡ true → b ≡ false
not_true true e = absurd cc
not_true false e = refl

args_pass : (vars : Vars) (kinds : List VarKind) (args : List Term) → fit_kinds vars kinds args ≡ true → args_fault vars args ≡ None → TermsAre vars kinds args
args_pass vars [] [] fit e = tt
args_pass vars [] (t ∷ ts) fit e = absurd cc
args_pass vars (k ∷ ks) [] fit e = absurd cc
args_pass vars (k ∷ ks) (t ∷ ts) fit e =
    let fits = both_true _ _ fit in
    let parts = both_none _ _ e in
    ((inner_passes vars None t parts.0).1 k (not_true _ fits.0), args_pass vars ks ts fits.1 parts.1)

format_by : (vars : Vars) (format : Formatted) (args : List Term) (o : Option (List VarKind)) → format_kinds format.text ≡ o → is_format vars o args ≡ true → args_fault vars args ≡ None → FormatPasses vars format args
format_by vars format args None is fit e = absurd cc
format_by vars format args (Some kinds) is fit e = record { kinds = kinds; takes = is; args_are = args_pass vars kinds args fit e }

format_passes : (vars : Vars) (format : Formatted) (args : List Term) → format_fault vars format args ≡ None → FormatPasses vars format args
format_passes vars format args e =
    let parts = both_none _ _ e in
    format_by vars format args (format_kinds format.text) refl (not_false _ (not_so _ _ _ parts.0)) parts.1

-- ---- task calls

own_by : (vars : Vars) (here : Option Fault) (a : Passed) (b : Bool) → (if b then inner_fault vars here a.value else (here then inner_fault vars None a.value)) ≡ None → Inner vars here a.value
own_by vars here a true e = inner_passes vars here a.value e
own_by vars here a false e = let parts = both_none here (inner_fault vars None a.value) e in (parts.0, (inner_passes vars None a.value parts.1).1)

address_by : (p : Param) (a : Passed) (b : Bool) → is_out_scalar p ≡ b → (if b then not (is_variable a.value) else a.by_address) ≡ false
    → (is_out_scalar p ≡ true → is_variable a.value ≡ true) × (is_out_scalar p ≡ false → a.by_address ≡ false)
address_by p a true is e = (λ out. not_false _ e, λ in_. absurd (let f : true ≡ false = sym is ∙ in_ in cc))
address_by p a false is e = (λ out. absurd (let f : false ≡ true = sym is ∙ out in cc), λ in_. e)

passed_is : (vars : Vars) (p : Param) (a : Passed) → Inner vars (passed_place_fault vars p a) a.value → PassedIs vars p a
passed_is vars p a inner =
    let parts = both_none _ _ inner.0 in
    let address = address_by p a (is_out_scalar p) refl (not_so (is_no_variable p a) _ _ parts.1) in
    record { term = inner.1 (place_kind p.kind) (not_so _ _ _ parts.0); variable = address.0; no_address = address.1 }

no_repeat : (a b : Bool) → (a && b) ≡ false → a ≡ true → b ≡ false
no_repeat true b e out = e
no_repeat false b e out = absurd cc

passed_are : (vars : Vars) (params : List Param) (before : List Passed) (ps : List Param) (args : List Passed) → length ps ≡ length args → all_passed_fault vars params before ps args ≡ None → PassedAre vars params before ps args
passed_are vars params before [] [] same e = tt
passed_are vars params before [] (a ∷ args) same e = absurd (omega arith)
passed_are vars params before (p ∷ ps) [] same e = absurd (omega arith)
passed_are vars params before (p ∷ ps) (a ∷ args) same e =
    let parts = both_none (passed_fault vars params before p a) (all_passed_fault vars params (before ++ a ∷ []) ps args) e in
    let own = both_none _ (own_fault vars (passed_place_fault vars p a) a) parts.0 in
    let inner = own_by vars (passed_place_fault vars p a) a (leads_with_leaf a) own.1 in
    (no_repeat (is_out p.dir) (repeats params before a.value) (not_so _ _ _ own.0), passed_is vars p a inner, passed_are vars params (before ++ a ∷ []) ps args (omega arith) parts.1)

same_length : (m n : ℕ) → not (m == n) ≡ false → m ≡ n
same_length m n e = elim (eqb_tells m n) [ inl same ↦ same.1 | inr other ↦ absurd (let f : true ≡ false = sym (ap not other.0) ∙ e in cc) ]

call_by : (ops : List Signature) (vars : Vars) (op : Name) (args : List Passed) (o : Option ℕ) → op_place ops op.text ≡ o → call_fault ops vars o op.line args ≡ None → CallPasses ops vars op args
call_by ops vars op args None is e = absurd cc
call_by ops vars op args (Some place) is e =
    let parts = both_none _ _ e in
    record { place = place; found = is; args_are = passed_are vars (params_at ops place) [] (params_at ops place) args (same_length _ _ (not_so _ _ _ parts.0)) parts.1 }

call_passes : (ops : List Signature) (vars : Vars) (op : Name) (args : List Passed) → call_fault ops vars (op_place ops op.text) op.line args ≡ None → CallPasses ops vars op args
call_passes ops vars op args e = call_by ops vars op args (op_place ops op.text) refl e

-- ---- statements

mutual
  code_passes : (ops : List Signature) (vars : Vars) (c : Code) → code_fault ops vars c ≡ None → CodePasses ops vars c
  code_passes ops vars (empty line) e = tt
  code_passes ops vars (block line body) e = codes_pass ops vars body e
  code_passes ops vars (set a) e = setting_passes vars a e
  code_passes ops vars (choose line test then_do else_do) e =
      let parts = both_none (term_fault vars Int test then codes_fault ops vars then_do) (else_fault ops vars else_do) e in
      let first = both_none (term_fault vars Int test) (codes_fault ops vars then_do) parts.0 in
      (term_passes vars Int test first.0, codes_pass ops vars then_do first.1, else_passes ops vars else_do parts.1)
  code_passes ops vars (while line test body) e =
      let parts = both_none (term_fault vars Int test) (codes_fault ops vars body) e in
      (term_passes vars Int test parts.0, codes_pass ops vars body parts.1)
  code_passes ops vars (for line first test step body) e =
      let a = both_none (maybe_setting_fault vars first then maybe_term_fault vars Int test then maybe_setting_fault vars step) (codes_fault ops vars body) e in
      let b = both_none (maybe_setting_fault vars first then maybe_term_fault vars Int test) (maybe_setting_fault vars step) a.0 in
      let c = both_none (maybe_setting_fault vars first) (maybe_term_fault vars Int test) b.0 in
      (maybe_setting_passes vars first c.0, maybe_term_passes vars Int test c.1, maybe_setting_passes vars step b.1, codes_pass ops vars body a.1)
  code_passes ops vars (open_file line to path mode) e =
      let parts = both_none (name_fault vars Handle to) (term_fault vars Str path) e in
      (name_passes vars Handle to parts.0, term_passes vars Str path parts.1)
  code_passes ops vars (read_line line got handle to) e =
      let a = both_none (name_fault vars Int got then name_fault vars Handle handle) (name_fault vars Str to) e in
      let b = both_none (name_fault vars Int got) (name_fault vars Handle handle) a.0 in
      (name_passes vars Int got b.0, name_passes vars Handle handle b.1, name_passes vars Str to a.1)
  code_passes ops vars (close_file line handle) e = name_passes vars Handle handle e
  code_passes ops vars (barrier line) e = tt
  code_passes ops vars (print line format args) e = format_passes vars format args e
  code_passes ops vars (print_file line handle format args) e =
      let parts = both_none (name_fault vars Handle handle) (format_fault vars format args) e in
      (name_passes vars Handle handle parts.0, format_passes vars format args parts.1)
  code_passes ops vars (print_str line to format args) e =
      let parts = both_none (name_fault vars Str to) (format_fault vars format args) e in
      (name_passes vars Str to parts.0, format_passes vars format args parts.1)
  code_passes ops vars (call op args) e = call_passes ops vars op args e

  codes_pass : (ops : List Signature) (vars : Vars) (cs : Codes) → codes_fault ops vars cs ≡ None → CodesPass ops vars cs
  codes_pass ops vars none e = tt
  codes_pass ops vars (one code rest) e =
      let parts = both_none (code_fault ops vars code) (codes_fault ops vars rest) e in
      (code_passes ops vars code parts.0, codes_pass ops vars rest parts.1)

  else_passes : (ops : List Signature) (vars : Vars) (m : MaybeCodes) → else_fault ops vars m ≡ None → ElsePasses ops vars m
  else_passes ops vars without e = tt
  else_passes ops vars (otherwise body) e = codes_pass ops vars body e

-- ---- the whole

settings_pass : (vars : Vars) (ss : List Setting) → initial_fault vars ss ≡ None → SettingsPass vars ss
settings_pass vars [] e = tt
settings_pass vars (s ∷ ss) e =
    let parts = both_none (setting_fault vars s) (initial_fault vars ss) e in
    (setting_passes vars s parts.0, settings_pass vars ss parts.1)

pub nothing_there : {A : Type 0} (o : Option A) → is_some o ≡ false → o ≡ None
nothing_there None e = refl
nothing_there (Some x) e = absurd cc

not_full : (n : ℕ) → n ≤ 128 → (n == 128) ≡ false → n < 128
not_full n few e = elim (eqb_tells n 128) [ inl same ↦ absurd (let f : true ≡ false = sym same.0 ∙ e in cc) | inr other ↦ let apart = other.1 in grind arith ]

vars_pass : (ops : List Signature) (before vars : Vars) → length before ≤ 128 → vars_fault ops before vars ≡ None → VarsPass ops before vars
vars_pass ops before [] few e = tt
vars_pass ops before (v ∷ vs) few e =
    let a = both_none (fault_if (is_taken ops before v.0.text) v.0.line _ then fault_if (length before == 128) v.0.line _) (vars_fault ops (before ++ v ∷ []) vs) e in
    let b = both_none (fault_if (is_taken ops before v.0.text) v.0.line _) (fault_if (length before == 128) v.0.line _) a.0 in
    let free = neither (is_some (declared_kind before v.0.text)) (is_some (op_place ops v.0.text)) (not_so _ _ _ b.0) in
    let room = not_full (length before) few (not_so _ _ _ b.1) in
    (nothing_there _ free.0, nothing_there _ free.1, room, vars_pass ops (before ++ v ∷ []) vs (omega (arith, length-append before (v ∷ []))) a.1)

pub program_passes : (ops : List Signature) (p : Program) → fault_of ops p ≡ None → ProgramPasses ops p
program_passes ops p e =
    let a = both_none (vars_fault ops [] p.vars then initial_fault p.vars p.first) (codes_fault ops p.vars p.body) e in
    let b = both_none (vars_fault ops [] p.vars) (initial_fault p.vars p.first) a.0 in
    record { vars = vars_pass ops [] p.vars (omega arith) b.0; first = settings_pass p.vars p.first b.1; body = codes_pass ops p.vars p.body a.1 }
