-- The grammar of interface texts: the signs of an interface, and where it breaks a rule.
use Rattle.std.specs.Prelude.{◌≡◌, ◌≢◌, ℕ, ◌+◌, ◌*◌, ◌<◌, ◌≤◌, true, List, [], ◌∷◌, ◌++◌, length, take, map, slice_get, Some, ◌⊎◌}
use Rattle.std.specs.List.{All}
use lib.Chars.{codes}
use Rattle.gs_idl.specs.Interface.{Param, Signature, Interface}
use Rattle.gs_idl.specs.Word.{is_keyword}
use Rattle.gs_idl.specs.Lexicon.{IdlSign, word, symbol, bad, finish, IdlMark, Reads}
use Rattle.gs_idl.specs.declared.idl.Dir.{Dir}
use Rattle.gs_idl.specs.declared.idl.Dir.TheVariants.{Input, Both, Output}
use Rattle.gs_idl.specs.declared.idl.ParamKind.{ParamKind}
use Rattle.gs_idl.specs.declared.idl.ParamKind.TheVariants.{File, Int, Str}
use Rattle.gs_idl.specs.declared.token.Symbol.TheVariants.{OpenBrace, CloseBrace, OpenParen, CloseParen, Comma, Semicolon}
use Rattle.gs_idl.specs.declared.token.IdlKind.{IdlKind}
use Rattle.gs_idl.specs.declared.token.IdlKind.TheVariants.{TooLong, BadCombination, TooMany, Twice, Reserved, Unexpected}

-- ---- the signs of an interface

abbrev pub dir_word : Dir → List ℕ
dir_word Input = codes "in"
dir_word Both = codes "inout"
dir_word Output = codes "out"

abbrev pub kind_word : ParamKind → List ℕ
kind_word File = codes "File"
kind_word Int = codes "int"
kind_word Str = codes "string"

abbrev pub param_signs : Param → List IdlSign
param_signs p = word (dir_word p.dir) ∷ word (kind_word p.kind) ∷ word p.name ∷ []

-- the parameters, the first behind this sign and each other behind a comma
abbrev pub params_signs : IdlSign → List Param → List IdlSign
params_signs lead [] = []
params_signs lead (p ∷ ps) = lead ∷ (param_signs p ++ params_signs (symbol Comma) ps)

abbrev pub op_signs : Signature → List IdlSign
op_signs o = word (codes "void") ∷ word o.name ∷ (params_signs (symbol OpenParen) o.params
    ++ symbol CloseParen ∷ symbol Semicolon ∷ [])

abbrev pub ops_signs : List Signature → List IdlSign
ops_signs [] = []
ops_signs (o ∷ os) = op_signs o ++ ops_signs os

abbrev pub interface_signs : Interface → List IdlSign
interface_signs i = word (codes "interface") ∷ word i.name ∷ symbol OpenBrace
    ∷ (ops_signs i.ops ++ symbol CloseBrace ∷ [])

-- at least one operation, and at least one parameter of each
pub record IsFilled (i : Interface) : Type 0 where
  pub ops : 1 ≤ length i.ops
  pub params : All (λ o. 1 ≤ length o.params) i.ops

-- the signs up to the end are those of this interface, whatever rules it breaks
pub data IsText : List IdlSign → Interface → Type 0 where
  plain : (ts : List IdlSign) (i : Interface) → IsFilled i → ts ≡ interface_signs i ++ finish ∷ []
      → IsText ts i
  ended : (ts : List IdlSign) (i : Interface) → IsFilled i → ts ≡ interface_signs i
      ++ symbol Semicolon ∷ finish ∷ [] → IsText ts i

-- ---- the rules, and the place of the sign that breaks one, from 0

-- of the j-th operation's name
abbrev pub name_place : List Signature → ℕ → ℕ
name_place os j = 4 + length (ops_signs (take j os))

-- of the direction of its a-th parameter. The kind and the name follow
abbrev pub dir_place : List Signature → ℕ → ℕ → ℕ
dir_place os j a = name_place os j + 2 + 4 * a

pub data Breaks : Interface → ℕ → IdlKind → Type 0 where
  many_ops : (i : Interface) (k : ℕ) → 64 < length i.ops → k ≡ name_place i.ops 64
      → Breaks i k TooMany
  many_params : (i : Interface) (k j : ℕ) (o : Signature) → slice_get i.ops j ≡ Some o
      → 16 < length o.params → k ≡ dir_place i.ops j 16 → Breaks i k TooMany
  op_twice : (i : Interface) (k j b : ℕ) (o p : Signature) → slice_get i.ops j ≡ Some o
      → slice_get i.ops b ≡ Some p → j < b → o.name ≡ p.name
      → k ≡ name_place i.ops b → Breaks i k Twice
  param_twice : (i : Interface) (k j a b : ℕ) (o : Signature) (p q : Param)
      → slice_get i.ops j ≡ Some o → slice_get o.params a ≡ Some p → slice_get o.params b ≡ Some q
      → a < b → p.name ≡ q.name → k ≡ dir_place i.ops j b + 2 → Breaks i k Twice
  reserved : (i : Interface) (k j : ℕ) (o : Signature) → slice_get i.ops j ≡ Some o
      → is_keyword o.name ≡ true → k ≡ name_place i.ops j → Breaks i k Reserved
  combination : (i : Interface) (k j a : ℕ) (o : Signature) (p : Param) → slice_get i.ops j ≡ Some o
      → slice_get o.params a ≡ Some p → p.dir ≡ Both → p.kind ≢ File
      → k ≡ dir_place i.ops j a + 1 → Breaks i k BadCombination

abbrev pub IsSound : Interface → Type 0
IsSound i = (k : ℕ) (kind : IdlKind) → Breaks i k kind → ⊥

-- ---- what a text says

abbrev pub signs_of : List IdlMark → List IdlSign
signs_of ms = map (λ m. m.sign) ms

pub record Says (bytes : List ℕ) (i : Interface) : Type 0 where
  pub short : length bytes ≤ 65536
  pub marks : List IdlMark
  pub reads : Reads 1 bytes marks
  pub text : IsText (signs_of marks) i
  pub sound : IsSound i

-- ---- faults

-- a beginning of a text
abbrev pub IsBeginning : List IdlSign → Type 0
IsBeginning p = (more : List IdlSign) × (i : Interface) × IsText (p ++ more) i

abbrev pub refused : IdlSign → IdlKind
refused (bad kind) = kind
refused _ = Unexpected

-- at one place the rule of the first kind counts before that of the second
pub data ComesBefore : IdlKind → IdlKind → Type 0 where
  many_twice : ComesBefore TooMany Twice
  many_reserved : ComesBefore TooMany Reserved
  twice_reserved : ComesBefore Twice Reserved

-- with the sign at this place the signs so far begin no text
pub record IsRefused (ts : List IdlSign) (k : ℕ) (sign : IdlSign) (kind : IdlKind) : Type 0 where
  pub no_beginning : ¬ IsBeginning (take (k + 1) ts)
  pub is : kind ≡ refused sign

-- the signs up to this place begin a text in which the sign here breaks this rule, and none that
-- counts before
pub record BreaksHere (ts : List IdlSign) (k : ℕ) (kind : IdlKind) : Type 0 where
  pub more : List IdlSign
  pub interface : Interface
  pub text : IsText (take (k + 1) ts ++ more) interface
  pub breaks : Breaks interface k kind
  pub first : (other : IdlKind) → ComesBefore other kind → Breaks interface k other → ⊥

-- the signs before this place begin a text in which none of them breaks a rule
pub record IsRight (ts : List IdlSign) (k : ℕ) : Type 0 where
  pub more : List IdlSign
  pub interface : Interface
  pub text : IsText (take k ts ++ more) interface
  pub sound : (j : ℕ) (kind : IdlKind) → j < k → Breaks interface j kind → ⊥

-- the first place at which the signs go wrong
pub record IsFaultAt (ts : List IdlSign) (k : ℕ) (kind : IdlKind) : Type 0 where
  pub sign : IdlSign
  pub here : slice_get ts k ≡ Some sign
  pub before : IsRight ts k
  pub why : IsRefused ts k sign kind ⊎ BreaksHere ts k kind

-- no interface is said, and this is the first fault: the text is too long, or its marks go wrong at
-- a place on this line
pub data IsFault : List ℕ → (line : ℕ) → IdlKind → Type 0 where
  too_long : (bytes : List ℕ) → 65536 < length bytes → IsFault bytes 0 TooLong
  wrong : (bytes : List ℕ) (marks : List IdlMark) (k : ℕ) (mark : IdlMark) (kind : IdlKind)
      → length bytes ≤ 65536 → Reads 1 bytes marks → slice_get marks k ≡ Some mark
      → IsFaultAt (signs_of marks) k kind → ((i : Interface) → Says bytes i → ⊥)
      → IsFault bytes mark.line kind
