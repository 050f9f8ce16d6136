-- What a program has called and used, after some answers.
use Rattle.std.specs.Prelude.{◌≡◌, ℕ, ◌+◌, Bool, true, false, List, [], ◌∷◌, ◌++◌, ◌⊎◌, Some, if◌then◌else◌}
use Rattle.std.specs.Bool.{⊤}
use Rattle.gs_idl.specs.Interface.{Param, is_out_scalar, params_at}
use Rattle.gs_idl.specs.declared.idl.ParamKind.{ParamKind}
use Rattle.gs_idl.specs.declared.idl.ParamKind.TheVariants as kind
use Rattle.gs_talk.specs.declared.question.CallArg.{CallArg}
use Rattle.gs_talk.specs.declared.question.CallArg.TheVariants.{File, Int, Str, OutInt, OutStr}
use Rattle.gs_talk.specs.declared.question.Question.{Question}
use Rattle.gs_talk.specs.declared.question.Question.TheVariants.{Call, Use, OpenFile, CloseFile, Barrier, End, Fault, FuelOut}
use Rattle.gs_talk.specs.declared.question.Answer.{Answer}
use Rattle.gs_talk.specs.declared.question.Answer.TheVariants.{Went, Val, Bytes, Absent, TooLong}
use Rattle.gs_talk.specs.Talk.{Given, State, Dialogue, Done, Ask, Stop, Asks, dialogue, talk}
use Rattle.gs_talk_laws.specs.Numbers.{at_number}

-- what stood at the places of each call that went, the task and the place of each use, and how many
-- questions were answered
pub record Told : Type 0 where
  pub calls : List (List CallArg)
  pub uses : List (ℕ × ℕ)
  pub count : ℕ

-- an answer with which a call goes
abbrev pub goes : Answer → Bool
goes Went = true
goes (Val v) = true
goes (Bytes bytes) = true
goes Absent = false
goes TooLong = false

abbrev pub with_call : Question → Answer → List (List CallArg) → List (List CallArg)
with_call (Call op line args) a calls = if goes a then calls ++ args ∷ [] else calls
with_call (Use n place) a calls = calls
with_call (OpenFile name mode line) a calls = calls
with_call (CloseFile name bytes) a calls = calls
with_call Barrier a calls = calls
with_call End a calls = calls
with_call (Fault line fault) a calls = calls
with_call FuelOut a calls = calls

abbrev pub with_use : Question → List (ℕ × ℕ) → List (ℕ × ℕ)
with_use (Use n place) uses = (n, place) ∷ uses
with_use (Call op line args) uses = uses
with_use (OpenFile name mode line) uses = uses
with_use (CloseFile name bytes) uses = uses
with_use Barrier uses = uses
with_use End uses = uses
with_use (Fault line fault) uses = uses
with_use FuelOut uses = uses

abbrev pub with_answer : Question → Answer → Told → Told
with_answer q a h = record {
  calls = with_call q a h.calls;
  uses = with_use q h.uses;
  count = h.count + 1;
}

abbrev pub told_after : Told → Dialogue → List Answer → Told
told_after h (Done n s) answers = h
told_after h (Stop q s) answers = h
told_after h (Ask q s next) [] = h
told_after h (Ask q s next) (a ∷ answers) = told_after (with_answer q a h) (next a) answers

abbrev pub nothing_told : Told
nothing_told = record { calls = []; uses = []; count = 0 }

-- what a program has told after these answers
abbrev pub told : Given → (fuel : ℕ) → List Answer → Told
told t fuel answers = told_after nothing_told (dialogue t fuel) answers

-- ---- uses

-- a number or a string is left here
abbrev pub is_left : CallArg → Bool
is_left OutInt = true
is_left OutStr = true
is_left (File name) = false
is_left (Int v) = false
is_left (Str s) = false

-- task n was called, and leaves a number or a string at the place
pub record IsCalled (calls : List (List CallArg)) (n place : ℕ) : Type 0 where
  pub args : List CallArg
  pub arg : CallArg
  pub called : at_number calls n ≡ Some args
  pub stands : at_number args place ≡ Some arg
  pub left : is_left arg ≡ true

abbrev pub IsIn : List (ℕ × ℕ) → (n place : ℕ) → Type 0
IsIn [] n place = ⊥
IsIn (u ∷ uses) n place = ((u.0 ≡ n) × (u.1 ≡ place)) ⊎ IsIn uses n place

pub record IsDue (h : Told) (n place : ℕ) : Type 0 where
  pub called : IsCalled h.calls n place
  pub unused : IsIn h.uses n place → ⊥

-- each use names a task that was called, at a place where it leaves a number or a string, that was
-- not used before
abbrev pub UsesAreDue : Type 0
UsesAreDue = (t : Given) (fuel : ℕ) (answers : List Answer) (n place : ℕ) (s : State)
    → talk t fuel answers ≡ Asks (Use n place) s → IsDue (told t fuel answers) n place

-- ---- calls

abbrev pub kind_of : CallArg → ParamKind
kind_of (File name) = kind.File
kind_of (Int v) = kind.Int
kind_of (Str s) = kind.Str
kind_of OutInt = kind.Int
kind_of OutStr = kind.Str

-- what stands at a place is of the parameter's kind, and is left there where the parameter is an
-- output alone and no file
pub record FitsParam (p : Param) (a : CallArg) : Type 0 where
  pub kind : kind_of a ≡ p.kind
  pub left : is_left a ≡ is_out_scalar p

abbrev pub AreFit : List CallArg → List Param → Type 0
AreFit [] ps = ⊤
AreFit (a ∷ args) [] = ⊥
AreFit (a ∷ args) (p ∷ ps) = FitsParam p a × AreFit args ps

-- what stands at the places of each call fits the operation's parameters
abbrev pub CallsFit : Type 0
CallsFit = (t : Given) (fuel : ℕ) (answers : List Answer) (op line : ℕ) (args : List CallArg)
    (s : State) → talk t fuel answers ≡ Asks (Call op line args) s
    → AreFit args (params_at t.ops op)
