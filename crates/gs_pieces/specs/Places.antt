-- What stands at the places of a call, in the code.
use Rattle.std.specs.Prelude.{◌≡◌, ℕ, ◌<◌, ◌≤◌, length, nat_lt, Bool, true, false, List, [], ◌∷◌, map, set, Option, Some, None, Result, Ok, Err, ⊤}
use Rattle.std.specs.declared.vec.Vec.{Vec}
use Rattle.std.specs.declared.alloc.Global.{Global}
use Rattle.gs_idl.specs.Interface.{Param}
use Rattle.gs_idl.specs.declared.idl.ParamKind.{ParamKind}
use Rattle.gs_types.specs.NameTest.{is_name}
use Rattle.gs_types.specs.declared.limits.TheConstants.{NAME_LIMIT}
use Rattle.gs_types.specs.declared.memory.NoMemory.{NoMemory}
use Rattle.gs_types.specs.declared.settings.FaultKind.{FaultKind}
use Rattle.gs_types.specs.declared.value.Value.{Value}
use Rattle.gs_talk.specs.declared.slot.Slot.{Slot}
use Rattle.gs_talk.specs.declared.slot.Slot.TheVariants.{Due}
use Rattle.gs_talk.specs.declared.error.Trouble as code
use Rattle.gs_talk.specs.declared.error.Trouble.TheVariants as trouble
use Rattle.gs_talk.specs.declared.question.CallArg.{CallArg}
use Rattle.gs_talk.specs.declared.question.CallArg.TheVariants as arg
use Rattle.gs_talk.specs.Values.{Trouble, Kind, Need, value_of}
use Rattle.gs_talk.specs.Talk.{Handed, by_value, into, arg_of, out_of, with_name, with_names}
use Rattle.gs_pieces.specs.declared.passed.Passed.{Passed}
use Rattle.gs_pieces.specs.declared.passed.Passed.TheVariants as passed
use Rattle.gs_pieces.specs.declared.read_err.ReadErr.{ReadErr}
use Rattle.gs_pieces.specs.declared.read_err.ReadErr.TheVariants as err

abbrev pub arg_in : Passed → CallArg
arg_in (passed.Given kind v) = arg_of kind v
arg_in (passed.Out kind) = out_of kind

abbrev pub of_value : ParamKind → Result Value Trouble → Result CallArg Trouble
of_value kind (Ok v) = Ok (arg_of kind v)
of_value kind (Err e) = Err e

abbrev pub args_in : List Passed → List CallArg
args_in all = map arg_in all

-- what stands at one place, or the trouble
abbrev pub passed_value : ParamKind → Handed → List Slot → Result CallArg Trouble
passed_value kind (into i) vars = Ok (out_of kind)
passed_value kind (by_value t) vars = of_value kind (value_of t vars)

abbrev pub FindsOne : Result CallArg Trouble → Result Passed code.Trouble → Type 0
FindsOne r (Ok x) = r ≡ Ok (arg_in x)
FindsOne r (Err (trouble.Kind kind)) = r ≡ Err (Kind kind)
FindsOne r (Err (trouble.Need i n place)) = r ≡ Err (Need i n place)
FindsOne r (Err trouble.NoMemory) = ⊤

-- what stands at the places, or the trouble; want of memory says nothing
abbrev pub FindsPassed : Result (List CallArg) Trouble → Result (Vec Passed Global) code.Trouble
    → Type 0
FindsPassed r (Ok all) = r ≡ Ok (args_in all.items)
FindsPassed r (Err (trouble.Kind kind)) = r ≡ Err (Kind kind)
FindsPassed r (Err (trouble.Need i n place)) = r ≡ Err (Need i n place)
FindsPassed r (Err trouble.NoMemory) = ⊤

-- what stands at a place, or what stands against it
abbrev pub Passes : Option FaultKind → CallArg → Result CallArg ReadErr → Type 0
Passes fault a (Ok x) = (fault ≡ None) × (x ≡ a)
Passes fault a (Err (err.Kind kind)) = fault ≡ Some kind
Passes fault a (Err err.NoMemory) = ⊤

abbrev pub PassAll : Option FaultKind → List CallArg → Result (Vec CallArg Global) ReadErr
    → Type 0
PassAll fault args (Ok xs) = (fault ≡ None) × (xs.items ≡ args)
PassAll fault args (Err (err.Kind kind)) = fault ≡ Some kind
PassAll fault args (Err err.NoMemory) = ⊤

-- the file of this name, or what stands against it
abbrev pub PassesFile : Option FaultKind → List ℕ → Result CallArg FaultKind → Type 0
PassesFile fault name (Ok x) = (fault ≡ None) × (x ≡ arg.File name)
PassesFile fault name (Err kind) = fault ≡ Some kind

-- the file at a place, where one is left there
abbrev pub written_first : (leaves : Bool) → Option (List ℕ) → List (List ℕ)
written_first true (Some name) = name ∷ []
written_first true None = []
written_first false o = []

-- the names with the file at a place
abbrev pub with_file : List (List ℕ) → Option (List ℕ) → List (List ℕ)
with_file names None = names
with_file names (Some name) = with_name names name

-- the variable at a place that a value is left in waits for it
abbrev pub pended_one : (n place : ℕ) → Handed → List Slot → List Slot
pended_one n place (by_value t) vars = vars
pended_one n place (into i) vars = set vars i (Due n place)

-- a number of places that an operation has, and that a byte tells
abbrev pub AreFew : ℕ → List Param → Type 0
AreFew n ps = (n ≤ length ps) × (n < 256)

-- the text is this name, or none
abbrev pub NameIs : List ℕ → Option (List ℕ) → Type 0
NameIs text None = is_name text ≡ false
NameIs text (Some name) = (is_name text ≡ true) × (name ≡ text)

-- the names with these, where they are not too many; else they stay
abbrev pub Noted : (old files : List (List ℕ)) → Result Bool NoMemory
    → (new : List (List ℕ)) → Type 0
Noted old files (Ok true) new = (new ≡ with_names old files)
    × (nat_lt NAME_LIMIT (length (with_names old files)) ≡ false)
Noted old files (Ok false) new = (new ≡ old)
    × (nat_lt NAME_LIMIT (length (with_names old files)) ≡ true)
Noted old files (Err e) new = ⊤
