-- What stands against a call, by looks and lengths.
use Rattle.std.specs.Prelude.{◌≡◌, ℕ, zero, suc, nat_lt, Bool, true, false, List, [], ◌∷◌, length, map, Option, Some, None, if◌then◌else◌}
use Rattle.std.specs.Bool.{⊤}
use Rattle.std.specs.List.{slice_get}
use Rattle.gs_idl.specs.Interface.{Param, reads_file}
use Rattle.gs_types.specs.declared.limits.TheConstants.{FILE_LIMIT}
use Rattle.gs_types.specs.declared.note.Version.{Version}
use Rattle.gs_types.specs.declared.note.Version.TheVariants.{Original, Out, Main}
use Rattle.gs_talk.specs.declared.question.Answer.{Answer}
use Rattle.gs_talk.specs.declared.question.Answer.TheVariants as answer
use Rattle.gs_talk.specs.declared.question.CallArg.{CallArg}
use Rattle.gs_talk.specs.declared.question.CallArg.TheVariants.{File, Int, Str, OutInt, OutStr}
use Rattle.gs_looks.specs.declared.look.Look.{Look}
use Rattle.gs_looks.specs.declared.look.Seen.{Seen}
use Rattle.gs_looks.specs.declared.look.Seen.TheVariants as seen
use Rattle.gs_looks.specs.declared.judging.Judged.{Judged}
use Rattle.gs_looks.specs.declared.judging.Judged.TheVariants.{Fine, Unseen, Absent, TooLong}
use Rattle.gs_looks.specs.Looked.{seen_of}

-- ---- what a call reads

-- the version of a file that is read at a place, where each file has this version
abbrev pub read_at_with : (List ℕ → Version) → (reads : Bool) → CallArg → Option Version
read_at_with version true (File name) = Some (version name)
read_at_with version false (File name) = None
read_at_with version reads (Int v) = None
read_at_with version reads (Str s) = None
read_at_with version reads OutInt = None
read_at_with version reads OutStr = None

-- the versions that a call reads, by its places
abbrev pub read_with : (List ℕ → Version) → List Param → List CallArg → List (Option Version)
read_with version [] args = []
read_with version (p ∷ ps) [] = []
read_with version (p ∷ ps) (a ∷ args) = read_at_with version (reads_file p) a
    ∷ read_with version ps args

abbrev pub reads_by : Option Param → Bool
reads_by None = false
reads_by (Some p) = reads_file p

-- whether a file is read at a place, from 0
abbrev pub reads_at : List Param → ℕ → Bool
reads_at ps i = reads_by (slice_get ps i)

-- ---- what stands against it

abbrev pub judged_length : Option ℕ → Judged
judged_length None = Absent
judged_length (Some len) = if nat_lt FILE_LIMIT len then TooLong else Fine

-- contents are numbered from 1
abbrev pub judged_main : List ℕ → ℕ → Judged
judged_main mains zero = Absent
judged_main mains (suc k) = judged_length (slice_get mains k)

abbrev pub judged_seen : List ℕ → Option Seen → Judged
judged_seen name None = Unseen name
judged_seen name (Some seen.Absent) = Absent
judged_seen name (Some seen.TooLong) = TooLong
judged_seen name (Some (seen.Len len)) = Fine

abbrev pub judged_version : List Look → List ℕ → Version → Judged
judged_version looks mains (Original name) = judged_seen name (seen_of looks name)
judged_version looks mains (Out n place) = Fine
judged_version looks mains (Main k) = judged_main mains k

abbrev pub judged_read : List Look → List ℕ → Option Version → Judged
judged_read looks mains None = Fine
judged_read looks mains (Some v) = judged_version looks mains v

abbrev pub judged_place : (List ℕ → Version) → List Look → List ℕ → (reads : Bool) → CallArg → Judged
judged_place version looks mains reads a = judged_read looks mains (read_at_with version reads a)

abbrev pub or_next : Judged → Judged → Judged
or_next Fine next = next
or_next (Unseen name) next = Unseen name
or_next Absent next = Absent
or_next TooLong next = TooLong

-- the first that stands against it, from the left
abbrev pub judged_call : List Look → List ℕ → List (Option Version) → Judged
judged_call looks mains [] = Fine
judged_call looks mains (v ∷ vs) = or_next (judged_read looks mains v) (judged_call looks mains vs)

-- ---- what it says of the sequential run

-- these are the lengths of what the program closed
abbrev pub AreLengths : List ℕ → List (List ℕ) → Type 0
AreLengths mains closed = mains ≡ map length closed

-- the judgement is the sequential run's answer, unless a file is to be looked at first
abbrev pub IsJudged : Judged → Option Answer → Type 0
IsJudged Fine o = o ≡ None
IsJudged (Unseen name) o = ⊤
IsJudged Absent o = o ≡ Some answer.Absent
IsJudged TooLong o = o ≡ Some answer.TooLong

-- the version of a place is this original
abbrev pub IsReadOriginal : List ℕ → List (Option Version) → Type 0
IsReadOriginal name reads = (i : ℕ) × (slice_get reads i ≡ Some (Some (Original name)))

-- a file that is named is read as an original, and wasn't looked at
abbrev pub IsUnseen : List Look → List (Option Version) → Judged → Type 0
IsUnseen looks reads Fine = ⊤
IsUnseen looks reads (Unseen name) = IsReadOriginal name reads × (seen_of looks name ≡ None)
IsUnseen looks reads Absent = ⊤
IsUnseen looks reads TooLong = ⊤
