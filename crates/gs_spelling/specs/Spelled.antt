-- Programs whose names, numbers and strings can be written in a text.
use Rattle.std.specs.Prelude.{◌≡◌, ℕ, ℤ, pos, ◌≤◌, true, Bool, ◌||◌, List, [], ◌∷◌, length, codes, slice_index, All, Option, Some, None}
use Rattle.gs_tree.specs.Bytes.{is_in, is_letter, is_name_byte, is_plain}
use Rattle.gs_tree.specs.Lexicon.{greatest}
use Rattle.gs_tree.specs.Words.{keyword_of}
use Rattle.gs_tree.specs.Sign.{Sign, ident, number, string}
use Rattle.gs_tree.specs.declared.tree.VarKind.{VarKind}
use Rattle.gs_tree.specs.Program.{Name, Term, num, lit, var, atoi, strcmp, neg, not_, two, Setting, Formatted, Passed, Code, empty, block, set, choose, while, for, open_file, read_line, close_file, barrier, print, print_file, print_str, call, Codes, none, one, MaybeCodes, without, otherwise, Program}

-- a letter or `_`, then letters, digits and `_`, at most 64 bytes, and no keyword
pub record IsName (w : List ℕ) : Type 0 where
  pub first : is_letter (slice_index w 0) ≡ true
  pub bytes : All (λ b. is_name_byte b ≡ true) w
  pub short : length w ≤ 64
  pub no_keyword : keyword_of w ≡ None

-- no sign before it, and within 64 bits
pub record IsNumber (v : ℤ) : Type 0 where
  pub amount : ℕ
  pub is : v ≡ pos amount
  pub within : amount ≤ greatest

-- a byte that may stand in a string, as it is or by an escape
abbrev pub is_held : ℕ → Bool
is_held b = is_plain b || is_in (codes "\n\r\"\\") b

pub record IsString (s : List ℕ) : Type 0 where
  pub bytes : All (λ b. is_held b ≡ true) s
  pub short : length s ≤ 1024

-- of a sign that holds a name, a number or a string
abbrev pub SignSpelled : Sign → Type 0
SignSpelled (ident w) = IsName w
SignSpelled (number v) = IsNumber v
SignSpelled (string s) = IsString s
SignSpelled _ = Unit {0}

abbrev pub TermSpelled : Term → Type 0
TermSpelled (num line v) = IsNumber v
TermSpelled (lit line s) = IsString s
TermSpelled (var n) = IsName n.text
TermSpelled (atoi a) = TermSpelled a
TermSpelled (strcmp a b) = TermSpelled a × TermSpelled b
TermSpelled (neg a) = TermSpelled a
TermSpelled (not_ a) = TermSpelled a
TermSpelled (two op a b) = TermSpelled a × TermSpelled b

abbrev pub TermsSpelled : List Term → Type 0
TermsSpelled [] = Unit {0}
TermsSpelled (t ∷ ts) = TermSpelled t × TermsSpelled ts

abbrev pub SettingSpelled : Setting → Type 0
SettingSpelled s = IsName s.to.text × TermSpelled s.value

abbrev pub MaybeSetting : Option Setting → Type 0
MaybeSetting None = Unit {0}
MaybeSetting (Some s) = SettingSpelled s

abbrev pub MaybeTerm : Option Term → Type 0
MaybeTerm None = Unit {0}
MaybeTerm (Some t) = TermSpelled t

abbrev pub PassedsSpelled : List Passed → Type 0
PassedsSpelled [] = Unit {0}
PassedsSpelled (p ∷ ps) = TermSpelled p.value × PassedsSpelled ps

-- of a print
abbrev pub PrintSpelled : Formatted → List Term → Type 0
PrintSpelled format args = IsString format.text × TermsSpelled args

abbrev mutual
  pub CodeSpelled : Code → Type 0
  CodeSpelled (empty line) = Unit {0}
  CodeSpelled (block line body) = CodesSpelled body
  CodeSpelled (set a) = SettingSpelled a
  CodeSpelled (choose line test then_do else_do) = TermSpelled test × CodesSpelled then_do × ElseSpelled else_do
  CodeSpelled (while line test body) = TermSpelled test × CodesSpelled body
  CodeSpelled (for line first test step body) = MaybeSetting first × MaybeTerm test × MaybeSetting step × CodesSpelled body
  CodeSpelled (open_file line to path mode) = IsName to.text × TermSpelled path
  CodeSpelled (read_line line got handle to) = IsName got.text × IsName handle.text × IsName to.text
  CodeSpelled (close_file line handle) = IsName handle.text
  CodeSpelled (barrier line) = Unit {0}
  CodeSpelled (print line format args) = PrintSpelled format args
  CodeSpelled (print_file line handle format args) = IsName handle.text × PrintSpelled format args
  CodeSpelled (print_str line to format args) = IsName to.text × PrintSpelled format args
  CodeSpelled (call op args) = IsName op.text × PassedsSpelled args

  pub CodesSpelled : Codes → Type 0
  CodesSpelled none = Unit {0}
  CodesSpelled (one code rest) = CodeSpelled code × CodesSpelled rest

  pub ElseSpelled : MaybeCodes → Type 0
  ElseSpelled without = Unit {0}
  ElseSpelled (otherwise body) = CodesSpelled body

abbrev pub VarsSpelled : List (Name × VarKind) → Type 0
VarsSpelled [] = Unit {0}
VarsSpelled (v ∷ vs) = IsName v.0.text × VarsSpelled vs

abbrev pub SettingsSpelled : List Setting → Type 0
SettingsSpelled [] = Unit {0}
SettingsSpelled (s ∷ ss) = SettingSpelled s × SettingsSpelled ss

pub record ProgramSpelled (p : Program) : Type 0 where
  pub vars : VarsSpelled p.vars
  pub first : SettingsSpelled p.first
  pub body : CodesSpelled p.body
