-- Judging place by place.
use Rattle.std.proofs.Common.{◌≡◌, refl, sym, ap, ◌∙◌, arith, ℕ, zero, suc, ◌<◌, ◌≤◌, false, List, [], ◌∷◌, length, drop, Some}
use Rattle.std.specs.List.{slice_get}
use Rattle.std.specs.Prelude.{get_or}
use Rattle.std.proofs.lemmas.Option.{slice_get_read}
use Rattle.gs_idl.specs.Interface.{Param, reads_file}
use Rattle.gs_types.specs.declared.note.Version.{Version}
use Rattle.gs_talk.specs.declared.question.CallArg.{CallArg}
use Rattle.gs_talk.specs.declared.question.CallArg.TheVariants.{File, Int, Str, OutInt, OutStr}
use Rattle.gs_looks.specs.declared.look.Look.{Look}
use Rattle.gs_looks.specs.declared.judging.Judged.{Judged}
use Rattle.gs_looks.specs.declared.judging.Judged.TheVariants.{Fine, Unseen, Absent, TooLong}
use Rattle.gs_looks.specs.Judgement.{read_with, reads_at, judged_place, judged_call, or_next}

-- what stands against a call from a place on
abbrev pub from : (List ℕ → Version) → List Look → List ℕ → List Param → List CallArg → ℕ → Judged
from version looks mains ps args i = judged_call looks mains (read_with version (drop i ps) (drop i args))

none_left : (version : List ℕ → Version) (looks : List Look) (mains : List ℕ) (args : List CallArg) → judged_call looks mains (read_with version [] args) ≡ Fine
none_left version looks mains args = refl

fine_read : (version : List ℕ → Version) (looks : List Look) (mains : List ℕ) (a : CallArg) → judged_place version looks mains false a ≡ Fine
fine_read version looks mains (File name) = refl
fine_read version looks mains (Int v) = refl
fine_read version looks mains (Str s) = refl
fine_read version looks mains OutInt = refl
fine_read version looks mains OutStr = refl

-- one place, and then the rest
pub next_place : (version : List ℕ → Version) (looks : List Look) (mains : List ℕ) (ps : List Param) (args : List CallArg) (i : ℕ) (a : CallArg) → slice_get args i ≡ Some a
    → from version looks mains ps args i ≡ or_next (judged_place version looks mains (reads_at ps i) a) (from version looks mains ps args (suc i))
next_place version looks mains ps [] i a e = absurd cc
next_place version looks mains [] (x ∷ args) zero a e = sym (ap (λ (j : Judged). or_next j Fine) (fine_read version looks mains a))
next_place version looks mains (p ∷ ps) (x ∷ args) zero a e = let same : x ≡ a = cc in ap (λ (b : CallArg). or_next (judged_place version looks mains (reads_file p) b) (judged_call looks mains (read_with version ps args))) same
next_place version looks mains [] (x ∷ args) (suc i) a e = sym (ap (λ (j : Judged). or_next j Fine) (fine_read version looks mains a))
next_place version looks mains (p ∷ ps) (x ∷ args) (suc i) a e = next_place version looks mains ps args i a e

past_drop : {A : Type 0} (xs : List A) (i : ℕ) → length xs ≤ i → drop i xs ≡ []
past_drop [] zero le = refl
past_drop [] (suc i) le = refl
past_drop (x ∷ xs) zero le = absurd (omega arith)
past_drop (x ∷ xs) (suc i) le = past_drop xs i (omega arith)

no_args : (version : List ℕ → Version) (looks : List Look) (mains : List ℕ) (ps : List Param) → judged_call looks mains (read_with version ps []) ≡ Fine
no_args version looks mains [] = refl
no_args version looks mains (p ∷ ps) = refl

-- behind the last place
pub at_end : (version : List ℕ → Version) (looks : List Look) (mains : List ℕ) (ps : List Param) (args : List CallArg) (i : ℕ) → length args ≤ i → from version looks mains ps args i ≡ Fine
at_end version looks mains ps args i le = ap (λ (l : List CallArg). judged_call looks mains (read_with version (drop i ps) l)) (past_drop args i le) ∙ no_args version looks mains (drop i ps)

pub stops_here : (j rest : Judged) → (j ≡ Fine → ⊥) → or_next j rest ≡ j
stops_here Fine rest other = absurd (other refl)
stops_here (Unseen name) rest other = refl
stops_here Absent rest other = refl
stops_here TooLong rest other = refl

-- an item that was read
pub item_there : (args : List CallArg) (i : ℕ) (a : CallArg) → i < length args → a ≡ get_or args i a → slice_get args i ≡ Some a
item_there args i a lt e = slice_get_read args (length args) i a refl lt e
