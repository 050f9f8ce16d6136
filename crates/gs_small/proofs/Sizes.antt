-- How long the files are that a task gets.
use Rattle.std.proofs.Common.{◌≡◌, ◌≤◌, ◌+◌, ◌*◌, ◌&&◌, ℕ, zero, suc, Bool, true, false, refl, List, [], ◌∷◌, length, Option, Some, None, arith, if◌then◌else◌, nat_le}
use Rattle.std.proofs.lemmas.Bool.{leb-true}
use Rattle.std.proofs.Math.Nat.{mul-le-mul_right}
use Rattle.std.specs.List.{All}
use Rattle.gs_idl.specs.Interface.{Param, Signature, IsOpSized, IsOpsSized, params_at, is_input, is_file}
use Rattle.gs_idl.specs.declared.idl.Dir.{Dir}
use Rattle.gs_idl.specs.declared.idl.Dir.TheVariants as dir
use Rattle.gs_idl.specs.declared.idl.ParamKind.{ParamKind}
use Rattle.gs_idl.specs.declared.idl.ParamKind.TheVariants as kind
use Rattle.gs_types.specs.declared.limits.TheConstants.{FILE_LIMIT}
use Rattle.gs_types.specs.declared.job.Arg.{Arg}
use Rattle.gs_types.specs.declared.job.Arg.TheVariants.{Given, Both, OutFile, OutInt, OutStr}
use Rattle.gs_policy.specs.declared.limits.TheConstants.{BYTES_LIMIT}
use Rattle.gs_talk.specs.declared.question.CallArg.{CallArg}
use Rattle.gs_talk.specs.declared.question.CallArg.TheVariants as arg
use Rattle.gs_talk.specs.declared.question.Answer.{Answer}
use Rattle.gs_talk.specs.declared.question.Answer.TheVariants.{TooLong}
use Rattle.gs_talk.specs.Seq.{Files, Content, Known, Lost, refused, refused_at, or_next, first_refused, file_given, given, and_all, all_given}
use Rattle.gs_talk_laws.specs.Uses.{FitsParam, AreFit}
use Rattle.gs_history.specs.Ready.{input_lengths, input_bytes}

-- ---- one place

abbrev bytes_of : Option Arg → ℕ
bytes_of None = 0
bytes_of (Some a) = input_lengths (a ∷ [])

-- a file that isn't refused is no longer than a file may be
known_bytes : (length_of : ℕ) (b : Bool) → nat_le length_of FILE_LIMIT ≡ b → (if b then None else Some TooLong) ≡ None → length_of + 0 ≤ FILE_LIMIT
known_bytes length_of true is e = let le = leb-true length_of FILE_LIMIT is in omega arith
known_bytes length_of false is e = absurd cc

file_bytes : (d : Dir) (k : ParamKind) (o : Option Content) → kind.File ≡ k → (if is_input d && is_file k then refused o else None) ≡ None → bytes_of (file_given d o) ≤ FILE_LIMIT
file_bytes d kind.Int o is e = absurd cc
file_bytes d kind.Str o is e = absurd cc
file_bytes dir.Output kind.File o is e = omega arith
file_bytes dir.Input kind.File None is e = omega arith
file_bytes dir.Input kind.File (Some Lost) is e = omega arith
file_bytes dir.Input kind.File (Some (Known bytes)) is e = known_bytes (length bytes) (nat_le (length bytes) FILE_LIMIT) refl e
file_bytes dir.Both kind.File None is e = omega arith
file_bytes dir.Both kind.File (Some Lost) is e = omega arith
file_bytes dir.Both kind.File (Some (Known bytes)) is e = known_bytes (length bytes) (nat_le (length bytes) FILE_LIMIT) refl e

given_bytes : (files : Files) (p : Param) (c : CallArg) → FitsParam p c → refused_at files p c ≡ None → bytes_of (given files p c) ≤ FILE_LIMIT
given_bytes files p (arg.File name) fits e = file_bytes p.dir p.kind (files name) fits.kind e
given_bytes files p (arg.Int v) fits e = omega arith
given_bytes files p (arg.Str s) fits e = omega arith
given_bytes files p arg.OutInt fits e = omega arith
given_bytes files p arg.OutStr fits e = omega arith

-- ---- all places

more_lengths : (a : Arg) (args : List Arg) → input_lengths (a ∷ args) ≤ input_lengths (a ∷ []) + input_lengths args
more_lengths (Given v) args = omega arith
more_lengths (Both bytes) args = omega arith
more_lengths OutFile args = omega arith
more_lengths OutInt args = omega arith
more_lengths OutStr args = omega arith

more_bytes : (o : Option Arg) (rest : Option (List Arg)) → input_bytes (and_all o rest) ≤ bytes_of o + input_bytes rest
more_bytes None rest = omega arith
more_bytes (Some a) None = omega arith
more_bytes (Some a) (Some args) = more_lengths a args

none_refused : (o next : Option Answer) → or_next o next ≡ None → (o ≡ None) × (next ≡ None)
none_refused None next e = (refl, e)
none_refused (Some a) next e = absurd cc

all_bytes : (files : Files) (ps : List Param) (cs : List CallArg) → AreFit cs ps → first_refused files ps cs ≡ None → input_bytes (all_given files ps cs) ≤ length ps * FILE_LIMIT
all_bytes files [] cs fit e = omega arith
all_bytes files (p ∷ ps) [] fit e = omega arith
all_bytes files (p ∷ ps) (c ∷ cs) fit e =
    let none = none_refused (refused_at files p c) (first_refused files ps cs) e in
    let here = given_bytes files p c fit.0 none.0 in
    let rest = all_bytes files ps cs fit.1 none.1 in
    let both = more_bytes (given files p c) (all_given files ps cs) in
    omega arith

-- ---- an operation's places

params_by_place : (ops : List Signature) (op : ℕ) → All IsOpSized ops → length (params_at ops op) ≤ 16
params_by_place [] op each = omega arith
params_by_place (o ∷ ops) zero each = (each 0 o (omega arith)).few
params_by_place (o ∷ ops) (suc op) each = params_by_place ops op (λ k d lt. each (suc k) d (omega arith))

-- a call of an operation of a sized interface, of which no file is refused, gets no more bytes than
-- costs tell apart
pub call_bytes : (ops : List Signature) (files : Files) (op : ℕ) (cs : List CallArg) → IsOpsSized ops → AreFit cs (params_at ops op) → first_refused files (params_at ops op) cs ≡ None → input_bytes (all_given files (params_at ops op) cs) ≤ BYTES_LIMIT
call_bytes ops files op cs sized fit e =
    let some = all_bytes files (params_at ops op) cs fit e in
    let few = mul-le-mul_right FILE_LIMIT (params_by_place ops op sized.each) in
    omega arith
