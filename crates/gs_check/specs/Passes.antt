-- What passed the checks, node by node.
use Rattle.std.specs.Prelude.{◌≡◌, ℕ, ◌<◌, ◌⊎◌, true, false, List, [], ◌∷◌, ◌++◌, length, Option, Some, None}
use Rattle.gs_tree.specs.declared.tree.VarKind.{VarKind}
use Rattle.gs_tree.specs.declared.tree.VarKind.TheVariants.{Int, Str, Handle}
use Rattle.gs_tree.specs.Program.{Name, Term, num, lit, var, atoi, strcmp, neg, not_, two, Setting, Formatted, Passed, Code, empty, block, set, choose, while, for, open_file, read_line, close_file, barrier, print, print_file, print_str, call, Codes, none, one, MaybeCodes, without, otherwise, Program}
use Rattle.gs_tree.specs.Variables.{declared_kind}
use Rattle.gs_tree.specs.Formats.{format_kinds}
use Rattle.gs_idl.specs.Interface.{Param, Signature, op_place, params_at, is_out, is_out_scalar}
use Rattle.gs_check.specs.Faults.{Vars, place_kind, is_variable, repeats}

-- a name is that of a variable of this kind
abbrev pub NameIs : Vars → VarKind → Name → Type 0
NameIs vars kind name = declared_kind vars name.text ≡ Some kind

-- an expression of this kind, with all its parts
abbrev pub TermIs : Vars → VarKind → Term → Type 0
TermIs vars kind (num line v) = kind ≡ Int
TermIs vars kind (lit line s) = kind ≡ Str
TermIs vars kind (var name) = NameIs vars kind name
TermIs vars kind (atoi a) = (kind ≡ Int) × TermIs vars Str a
TermIs vars kind (strcmp a b) = (kind ≡ Int) × TermIs vars Str a × TermIs vars Str b
TermIs vars kind (neg a) = (kind ≡ Int) × TermIs vars Int a
TermIs vars kind (not_ a) = (kind ≡ Int) × TermIs vars Int a
TermIs vars kind (two op a b) = (kind ≡ Int) × TermIs vars Int a × TermIs vars Int b

-- one expression for each kind
abbrev pub TermsAre : Vars → List VarKind → List Term → Type 0
TermsAre vars [] [] = Unit {0}
TermsAre vars [] (t ∷ ts) = ⊥
TermsAre vars (kind ∷ kinds) [] = ⊥
TermsAre vars (kind ∷ kinds) (t ∷ ts) = TermIs vars kind t × TermsAre vars kinds ts

-- an int is set to an int, or a string to a string
abbrev pub SettingPasses : Vars → Setting → Type 0
SettingPasses vars s = (NameIs vars Int s.to × TermIs vars Int s.value)
    ⊎ (NameIs vars Str s.to × TermIs vars Str s.value)

abbrev pub MaybeSettingPasses : Vars → Option Setting → Type 0
MaybeSettingPasses vars None = Unit {0}
MaybeSettingPasses vars (Some s) = SettingPasses vars s

abbrev pub MaybeTermIs : Vars → VarKind → Option Term → Type 0
MaybeTermIs vars kind None = Unit {0}
MaybeTermIs vars kind (Some t) = TermIs vars kind t

-- it is a format, and its arguments are those that it takes
pub record FormatPasses (vars : Vars) (format : Formatted) (args : List Term) : Type 0 where
  pub kinds : List VarKind
  pub takes : format_kinds format.text ≡ Some kinds
  pub args_are : TermsAre vars kinds args

-- an argument at its place: of the place's kind, a variable where the place gives a number or a
-- string, and `&` nowhere else
pub record PassedIs (vars : Vars) (p : Param) (a : Passed) : Type 0 where
  pub term : TermIs vars (place_kind p.kind) a.value
  pub variable : is_out_scalar p ≡ true → is_variable a.value ≡ true
  pub no_address : is_out_scalar p ≡ false → a.by_address ≡ false

-- one argument for each place, after those before; none is a variable that stands in an out place
-- before, where its own is one
abbrev pub PassedAre : Vars → List Param → (before : List Passed) → List Param → List Passed
    → Type 0
PassedAre vars params before [] [] = Unit {0}
PassedAre vars params before [] (a ∷ args) = ⊥
PassedAre vars params before (p ∷ ps) [] = ⊥
PassedAre vars params before (p ∷ ps) (a ∷ args) =
    (is_out p.dir ≡ true → repeats params before a.value ≡ false) × PassedIs vars p a
    × PassedAre vars params (before ++ a ∷ []) ps args

-- a call of an operation that there is
pub record CallPasses (ops : List Signature) (vars : Vars) (op : Name) (args : List Passed) : Type
    0 where
  pub place : ℕ
  pub found : op_place ops op.text ≡ Some place
  pub args_are : PassedAre vars (params_at ops place) [] (params_at ops place) args

abbrev mutual
  pub CodePasses : List Signature → Vars → Code → Type 0
  CodePasses ops vars (empty line) = Unit {0}
  CodePasses ops vars (block line body) = CodesPass ops vars body
  CodePasses ops vars (set a) = SettingPasses vars a
  CodePasses ops vars (choose line test then_do else_do) = TermIs vars Int test
      × CodesPass ops vars then_do × ElsePasses ops vars else_do
  CodePasses ops vars (while line test body) = TermIs vars Int test × CodesPass ops vars body
  CodePasses ops vars (for line first test step body) =
      MaybeSettingPasses vars first × MaybeTermIs vars Int test × MaybeSettingPasses vars step
      × CodesPass ops vars body
  CodePasses ops vars (open_file line to path mode) = NameIs vars Handle to × TermIs vars Str path
  CodePasses ops vars (read_line line got handle to) = NameIs vars Int got
      × NameIs vars Handle handle × NameIs vars Str to
  CodePasses ops vars (close_file line handle) = NameIs vars Handle handle
  CodePasses ops vars (barrier line) = Unit {0}
  CodePasses ops vars (print line format args) = FormatPasses vars format args
  CodePasses ops vars (print_file line handle format args) = NameIs vars Handle handle
      × FormatPasses vars format args
  CodePasses ops vars (print_str line to format args) = NameIs vars Str to
      × FormatPasses vars format args
  CodePasses ops vars (call op args) = CallPasses ops vars op args

  pub CodesPass : List Signature → Vars → Codes → Type 0
  CodesPass ops vars none = Unit {0}
  CodesPass ops vars (one code rest) = CodePasses ops vars code × CodesPass ops vars rest

  pub ElsePasses : List Signature → Vars → MaybeCodes → Type 0
  ElsePasses ops vars without = Unit {0}
  ElsePasses ops vars (otherwise body) = CodesPass ops vars body

abbrev pub SettingsPass : Vars → List Setting → Type 0
SettingsPass vars [] = Unit {0}
SettingsPass vars (s ∷ ss) = SettingPasses vars s × SettingsPass vars ss

-- the variables from one on, after those before: each name is new, and none is an operation's
abbrev pub VarsPass : List Signature → (before : Vars) → Vars → Type 0
VarsPass ops before [] = Unit {0}
VarsPass ops before (v ∷ vs) =
    (declared_kind before v.0.text ≡ None) × (op_place ops v.0.text ≡ None) × (length before < 128)
    × VarsPass ops (before ++ v ∷ []) vs

pub record ProgramPasses (ops : List Signature) (p : Program) : Type 0 where
  pub vars : VarsPass ops [] p.vars
  pub first : SettingsPass p.vars p.first
  pub body : CodesPass ops p.vars p.body
