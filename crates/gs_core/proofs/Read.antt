-- What was read answers the opening of a file.
use Rattle.std.proofs.Common.{◌≡◌, ℕ, sym, ap, ◌∙◌, subst, List, Option, Some, Bool, false, nat_le, length, arith, if◌then◌else◌, ◌<◌, le-leb}
use Rattle.gs_types.specs.declared.limits.TheConstants.{FILE_LIMIT}
use Rattle.gs_types.specs.History.{History}
use Rattle.gs_tree.specs.declared.tree.Mode.{Mode}
use Rattle.gs_talk.specs.declared.question.Question.TheVariants as q
use Rattle.gs_talk.specs.declared.question.Answer.{Answer}
use Rattle.gs_talk.specs.declared.question.Answer.TheVariants as said
use Rattle.gs_talk.specs.Talk.{Dialogue, State, Ask}
use Rattle.gs_talk.specs.Seq.{Content, opened}
use Rattle.gs_history.specs.Setup.{Setup, world_at, rest_at}
use Rattle.gs_history.specs.Frontier.{MayGoOn}
use Rattle.gs_tables.specs.Asked.{IsDueAnswer}
use Rattle.gs_core.specs.Stages.{IsLoaded, LoadedOf}
use Rattle.gs_core.specs.Turns.{loaded_answer}
use Rattle.std.proofs.lemmas.Bool.Decides.{nat_tests}
use Rattle.gs_core.specs.declared.stage.Loaded.{Loaded}
use Rattle.gs_core.specs.declared.stage.Loaded.TheVariants as loaded

not_within : (n : ℕ) → FILE_LIMIT < n → nat_le n FILE_LIMIT ≡ false
not_within n lt = grind (arith, nat_tests)

-- the answer to an opening is what was read
opened_as : (c : Option Content) (l : Loaded) → IsLoaded c l → opened c ≡ Some (loaded_answer l)
opened_as c loaded.Absent is = ap opened is
opened_as c loaded.TooLong is = ap opened is.1 ∙ ap (λ (b : Bool). if b then Some (said.Bytes is.0) else Some said.TooLong) (not_within (length is.0) is.2)
opened_as c (loaded.Bytes bytes) is = ap opened is.0 ∙ ap (λ (b : Bool). if b then Some (said.Bytes bytes) else Some said.TooLong) (le-leb (length bytes) FILE_LIMIT is.1)

pub due_content : (s : Setup) (k : ℕ) (h : History) (name : List ℕ) (mode : Mode) (line : ℕ) (st : State) (goes : Answer → Dialogue) (l : Loaded) (a : Answer) → rest_at s k ≡ Ask (q.OpenFile name mode line) st goes → MayGoOn s h k (rest_at s k) → LoadedOf (world_at s k).files l (rest_at s k) → ((c : Option Content) → IsLoaded c l → a ≡ loaded_answer l) → IsDueAnswer s k h (q.OpenFile name mode line) a
due_content s k h name mode line st goes l a rest may loaded same =
    let is : IsLoaded ((world_at s k).files name) l = subst (LoadedOf (world_at s k).files l) rest loaded in
    record {
      may = subst (MayGoOn s h k) rest may;
      says = opened_as ((world_at s k).files name) l is ∙ ap Some (sym (same ((world_at s k).files name) is));
    }
