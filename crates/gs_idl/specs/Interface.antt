-- An interface: what its operations are called, and what they take.
use Rattle.std.specs.Prelude.{◌≡◌, ℕ, suc, ◌≤◌, Bool, true, false, ◌&&◌, not, List, [], ◌∷◌, length, slice_get, Option, Some, None, option_map, if◌then◌else◌}
use Rattle.std.specs.List.{All}
use Rattle.std.specs.Str.{bytes_eq}
use Rattle.gs_idl.specs.Word.{is_keyword}
use Rattle.gs_idl.specs.declared.idl.Dir.{Dir}
use Rattle.gs_idl.specs.declared.idl.Dir.TheVariants.{Input, Both, Output}
use Rattle.gs_idl.specs.declared.idl.ParamKind.{ParamKind}
use Rattle.gs_idl.specs.declared.idl.ParamKind.TheVariants.{File, Int, Str}

pub record Param : Type 0 where
  pub dir : Dir
  pub kind : ParamKind
  pub name : List ℕ

-- an operation's name and what it takes
pub record Signature : Type 0 where
  pub name : List ℕ
  pub params : List Param

pub record Interface : Type 0 where
  pub name : List ℕ
  pub ops : List Signature

-- ---- sizes

-- 1 to 16 parameters
pub record IsOpSized (o : Signature) : Type 0 where
  pub some : 1 ≤ length o.params
  pub few : length o.params ≤ 16

-- at most 64 operations, and of each the parameters
pub record IsOpsSized (os : List Signature) : Type 0 where
  pub few : length os ≤ 64
  pub each : All IsOpSized os

-- 1 to 64 operations, and of each the parameters
pub record IsSized (i : Interface) : Type 0 where
  pub some : 1 ≤ length i.ops
  pub ops : IsOpsSized i.ops

-- ---- the rules that an interface keeps

-- the parameters of one operation have different names, and an `inout` one is a file
pub record KeepParamRules (ps : List Param) : Type 0 where
  pub apart : (a b : ℕ) (p q : Param) → slice_get ps a ≡ Some p → slice_get ps b ≡ Some q
      → p.name ≡ q.name → a ≡ b
  pub files : (a : ℕ) (p : Param) → slice_get ps a ≡ Some p → p.dir ≡ Both → p.kind ≡ File

-- operations have different names, none of them a keyword of a main program, and of each the
-- parameters keep their rules
pub record KeepRules (os : List Signature) : Type 0 where
  pub apart : (a b : ℕ) (o p : Signature) → slice_get os a ≡ Some o → slice_get os b ≡ Some p
      → o.name ≡ p.name → a ≡ b
  pub free : (a : ℕ) (o : Signature) → slice_get os a ≡ Some o → is_keyword o.name ≡ false
  pub params : (a : ℕ) (o : Signature) → slice_get os a ≡ Some o → KeepParamRules o.params

-- what every interface is that was read
pub record IsWellFormed (i : Interface) : Type 0 where
  pub sized : IsSized i
  pub rules : KeepRules i.ops

-- ---- operations by name and by place

-- the place of the first operation of a name, from 0
abbrev pub op_place : List Signature → List ℕ → Option ℕ
op_place [] name = None
op_place (o ∷ os) name = if bytes_eq o.name name then Some 0 else option_map suc (op_place os name)

-- the first operation of a name
abbrev pub find_op : List Signature → List ℕ → Option Signature
find_op [] name = None
find_op (o ∷ os) name = if bytes_eq o.name name then Some o else find_op os name

abbrev pub name_by : Option Signature → List ℕ
name_by None = []
name_by (Some o) = o.name

abbrev pub params_by : Option Signature → List Param
params_by None = []
params_by (Some o) = o.params

-- the name of the operation at a place; none has the empty name
abbrev pub name_at : List Signature → ℕ → List ℕ
name_at os op = name_by (slice_get os op)

-- the parameters of the operation at a place; none past the last
abbrev pub params_at : List Signature → ℕ → List Param
params_at os op = params_by (slice_get os op)

-- ---- what a place of a call is

abbrev pub is_input : Dir → Bool
is_input Input = true
is_input Both = true
is_input Output = false

abbrev pub is_output : Dir → Bool
is_output Input = false
is_output Both = true
is_output Output = true

-- an output and no input
abbrev pub is_out : Dir → Bool
is_out Input = false
is_out Both = false
is_out Output = true

abbrev pub is_file : ParamKind → Bool
is_file File = true
is_file Int = false
is_file Str = false

-- the operation reads a file here
abbrev pub reads_file : Param → Bool
reads_file p = is_input p.dir && is_file p.kind

-- the operation leaves a file here
abbrev pub writes_file : Param → Bool
writes_file p = is_output p.dir && is_file p.kind

-- the operation leaves a number or a string here
abbrev pub is_out_scalar : Param → Bool
is_out_scalar p = is_out p.dir && not (is_file p.kind)
