-- Programs within the limits of depth.
use Rattle.std.specs.Prelude.{ℕ, ◌+◌, ◌<◌, ◌≤◌, Bool, true, false, List, [], ◌∷◌, Option, Some, None}
use Rattle.gs_tree.specs.Program.{Term, var, Setting, Passed, Code, empty, block, set, choose, while, for, open_file, read_line, close_file, barrier, print, print_file, print_str, call, Codes, none, one, MaybeCodes, without, otherwise, Program}
use Rattle.gs_parse.specs.Grammar.{height}

-- a term below so many operators and calls
abbrev pub TermFits : (depth : ℕ) → Term → Type 0
TermFits depth t = depth + height t ≤ 64

abbrev pub TermsFit : List Term → Type 0
TermsFit [] = Unit {0}
TermsFit (t ∷ ts) = TermFits 0 t × TermsFit ts

-- `&` stands before a name alone
abbrev pub AddressFits : Bool → Term → Type 0
AddressFits true (var n) = Unit {0}
AddressFits true _ = ⊥
AddressFits false t = TermFits 0 t

abbrev pub PassedsFit : List Passed → Type 0
PassedsFit [] = Unit {0}
PassedsFit (p ∷ ps) = AddressFits p.by_address p.value × PassedsFit ps

abbrev pub MaybeSettingFits : Option Setting → Type 0
MaybeSettingFits None = Unit {0}
MaybeSettingFits (Some s) = TermFits 0 s.value

abbrev pub MaybeTermFits : Option Term → Type 0
MaybeTermFits None = Unit {0}
MaybeTermFits (Some t) = TermFits 0 t

-- statements within so many others
abbrev mutual
  pub CodeFits : (depth : ℕ) → Code → Type 0
  CodeFits depth (empty line) = depth < 64
  CodeFits depth (block line body) = (depth < 64) × CodesFit (depth + 1) body
  CodeFits depth (set a) = (depth < 64) × TermFits 0 a.value
  CodeFits depth (choose line test then_do else_do) = (depth < 64) × TermFits 0 test × CodesFit (depth + 1) then_do × ElseFits (depth + 1) else_do
  CodeFits depth (while line test body) = (depth < 64) × TermFits 0 test × CodesFit (depth + 1) body
  CodeFits depth (for line first test step body) = (depth < 64) × MaybeSettingFits first × MaybeTermFits test × MaybeSettingFits step × CodesFit (depth + 1) body
  CodeFits depth (open_file line to path mode) = (depth < 64) × TermFits 0 path
  CodeFits depth (read_line line got handle to) = depth < 64
  CodeFits depth (close_file line handle) = depth < 64
  CodeFits depth (barrier line) = depth < 64
  CodeFits depth (print line format args) = (depth < 64) × TermsFit args
  CodeFits depth (print_file line handle format args) = (depth < 64) × TermsFit args
  CodeFits depth (print_str line to format args) = (depth < 64) × TermsFit args
  CodeFits depth (call op args) = (depth < 64) × PassedsFit args

  pub CodesFit : (depth : ℕ) → Codes → Type 0
  CodesFit depth none = Unit {0}
  CodesFit depth (one code rest) = CodeFits depth code × CodesFit depth rest

  pub ElseFits : (depth : ℕ) → MaybeCodes → Type 0
  ElseFits depth without = Unit {0}
  ElseFits depth (otherwise body) = CodesFit depth body

abbrev pub SettingsFit : List Setting → Type 0
SettingsFit [] = Unit {0}
SettingsFit (s ∷ ss) = TermFits 0 s.value × SettingsFit ss

pub record ProgramFits (p : Program) : Type 0 where
  pub first : SettingsFit p.first
  pub body : CodesFit 0 p.body
