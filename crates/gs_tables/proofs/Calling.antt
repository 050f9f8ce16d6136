-- What comes of a call, by the judgement.
use Rattle.std.proofs.Common.{◌≡◌, ◌<◌, ◌≤◌, ◌+◌, ℕ, suc, Bool, true, false, refl, sym, ap, ◌∙◌, subst, List, [], ◌++◌, length, map, arith, Option, Some, None, is_some}
use Rattle.gs_idl.specs.Interface.{Param, Signature, params_at, reads_file, writes_file}
use Rattle.gs_types.specs.declared.note.Version.{Version}
use Rattle.gs_types.specs.declared.value.Value.{Value}
use Rattle.gs_types.specs.History.{History, outs_in}
use Rattle.gs_names.specs.Table.{names_in, writes_in}
use Rattle.gs_names.specs.Writes.{latest}
use Rattle.gs_graph.specs.Graph.{actions_in, SameTasks}
use Rattle.gs_graph.specs.declared.graph.Graph.{Graph}
use Rattle.gs_looks.specs.Looked.{looks_in, AreSeen}
use Rattle.gs_looks.specs.Judgement.{AreLengths, IsJudged, read_with}
use Rattle.gs_looks.specs.declared.judging.Judged.{Judged}
use Rattle.gs_talk.specs.declared.question.CallArg.{CallArg}
use Rattle.gs_talk.specs.declared.question.Question.TheVariants.{Call}
use Rattle.gs_talk.specs.declared.question.Answer.{Answer}
use Rattle.gs_talk.specs.Talk.{State, Dialogue, Ask}
use Rattle.gs_talk.specs.Seq.{Files, World, first_refused, went_unless, after_call}
use Rattle.gs_talk.specs.Actions as act
use Rattle.gs_talk.specs.Actions.{Act, acts, act_of, names_where, unless_refused}
use Rattle.gs_talk_laws.specs.Versions.{Written, writings, written_in, written_by, if_goes, read_by}
use Rattle.gs_history.specs.Setup.{Noting, Setup, world_at, rest_at, count_at}
use Rattle.gs_history.specs.Frontier as frontier
use Rattle.gs_history.specs.Frontier.{unfinished, MayAnswer}
use Rattle.gs_history.specs.Refusals.{refused_versions}
use Rattle.gs_history.proofs.Refusing.{calls_by_versions}
use Rattle.gs_tables.specs.Noted.{noting_of, found_in, noting_in, one_unless}
use Rattle.gs_tables.specs.Written.{written_back}
use Rattle.gs_tables.specs.Marks.{named_from, AreMade}
use Rattle.gs_tables.specs.Holds.{Holds}
use Rattle.gs_tables.specs.Asked.{HasGone}
use Rattle.gs_tables.specs.declared.noted.DoneNote.{DoneNote}
use Rattle.gs_tables.specs.declared.tables.Tables.{Tables}
use Rattle.gs_tables.proofs.Keeping.{goes, refused_none, refused_fits, with_nothing}
use Rattle.gs_tables.proofs.Entering.{noted_some}
use Rattle.gs_tables.proofs.Lengthening.{reads_same}
use Rattle.gs_tables.proofs.Reading.{latest_is}

-- ---- room

same_one : (o : Option (List Value)) (b : Bool) → b ≡ is_some o → frontier.one_unless o ≡ one_unless b
same_one None b e = ap one_unless (sym e)
same_one (Some v) b e = ap one_unless (sym e)

some_noting : (o : Option DoneNote) → is_some (Rattle.std.specs.Prelude.option_map noting_of o) ≡ is_some o
some_noting None = refl
some_noting (Some x) = refl

next_open : (t : Tables) (s : Setup) (k : ℕ) (h : History) (n : ℕ) (b : Bool) → Holds t s k h → n ≡ count_at s k + 1 → b ≡ is_some (found_in t.notes n) → t.unfinished + one_unless b ≡ unfinished h (suc (count_at s k))
next_open t s k h n b holds number is =
    let noted : is_some (noting_in t.notes n) ≡ is_some (outs_in h (count_at s k + 1)) = noted_some s (count_at s k + 1) (outs_in h (count_at s k + 1)) (noting_in t.notes n) (ap (noting_in t.notes) number ∙ holds.notes (count_at s k + 1)) (holds.ahead (count_at s k + 1) (omega arith)) in
    let one = same_one (outs_in h (count_at s k + 1)) b (is ∙ sym (some_noting (found_in t.notes n)) ∙ noted) in
    let at : suc (count_at s k) ≡ count_at s k + 1 = omega arith in
    let last = ap (λ (i : ℕ). frontier.one_unless (outs_in h i)) at in
    let before = holds.unfinished_is in omega arith

pub room : (t : Tables) (s : Setup) (k : ℕ) (h : History) (n : ℕ) (b : Bool) → Holds t s k h → n ≡ count_at s k + 1 → b ≡ is_some (found_in t.notes n) → t.unfinished + one_unless b ≤ t.window → unfinished h (suc (count_at s k)) ≤ s.window
room t s k h n b holds number is le = let e = next_open t s k h n b holds number is in let w = holds.window in omega arith

pub no_room : (t : Tables) (s : Setup) (k : ℕ) (h : History) (n : ℕ) (b : Bool) → Holds t s k h → n ≡ count_at s k + 1 → b ≡ is_some (found_in t.notes n) → (t.unfinished + one_unless b ≤ t.window → ⊥) → unfinished h (suc (count_at s k)) ≤ s.window → ⊥
no_room t s k h n b holds number is not le = not (let e = next_open t s k h n b holds number is in let w = holds.window in omega arith)

-- ---- what the call reads

pub judged_args : (t : Tables) (s : Setup) (k : ℕ) (h : History) (ops : List Signature) (op : ℕ) (args items : List CallArg) → Holds t s k h → ops ≡ s.run.texts.ops → items ≡ args
    → read_with (λ x. latest x (writes_in t.names)) (params_at ops op) items ≡ read_by (writings s.run k) (params_at s.run.texts.ops op) args
judged_args t s k h ops op args items holds same is =
    ap (λ (l : List CallArg). read_with (λ x. latest x (writes_in t.names)) (params_at ops op) l) is ∙ ap (λ (l : List Signature). read_with (λ x. latest x (writes_in t.names)) (params_at l op) args) same
    ∙ reads_same (λ x. latest x (writes_in t.names)) (writings s.run k) (latest_is t s k h holds) (params_at s.run.texts.ops op) args

-- the judgement is the sequential run's
abbrev pub Answers : Tables → List ℕ → List Signature → (op : ℕ) → List CallArg → Judged → Type 0
Answers t mains ops op items j = (first : Files) (w : World) → AreSeen (looks_in t.looks) first → AreLengths mains w.closed → IsJudged j (refused_versions first w (read_with (λ x. latest x (writes_in t.names)) (params_at ops op) items))

pub judged_reads : (t : Tables) (s : Setup) (k : ℕ) (h : History) (ops : List Signature) (op : ℕ) (args items : List CallArg) (mains : List ℕ) (result j : Judged) → Holds t s k h → ops ≡ s.run.texts.ops → items ≡ args → mains ≡ t.mains.items → result ≡ j → Answers t mains ops op items result
    → IsJudged j (first_refused (world_at s k).files (params_at s.run.texts.ops op) args)
judged_reads t s k h ops op args items mains result j holds same is lengths e answers =
    let a = answers s.run.files (world_at s k) holds.looks (lengths ∙ holds.mains) in
    let b = subst (λ (l : List (Option Version)). IsJudged result (refused_versions s.run.files (world_at s k) l)) (judged_args t s k h ops op args items holds same is) a in
    subst (λ (i : Judged). IsJudged i (first_refused (world_at s k).files (params_at s.run.texts.ops op) args)) e
    (subst (IsJudged result) (sym (calls_by_versions s.run k (params_at s.run.texts.ops op) args)) b)

-- ---- a file stands against it

same_graph : (g : Graph) → SameTasks g g
same_graph g = record { count = refl; done = λ m. refl; needs = λ m p. refl; ready = refl }

pub answered_refused : (t : Tables) (s : Setup) (k : ℕ) (h : History) (op line : ℕ) (args : List CallArg) (st : State) (next : Answer → Dialogue) (a : Answer) → Holds t s k h → rest_at s k ≡ Ask (Call op line args) st next → MayAnswer s h k (Call op line args)
    → first_refused (world_at s k).files (params_at s.run.texts.ops op) args ≡ Some a → HasGone t s k h next a
answered_refused t s k h op line args st next a holds e may refused =
    let w = world_at s k in
    let ps = params_at s.run.texts.ops op in
    let none : act_of s.run w (Call op line args) ≡ [] = ap (λ (o : Option Answer). unless_refused o (act.Call (length w.tasks + 1) op (names_where reads_file ps args) (names_where writes_file ps args))) refused in
    let writes : written_in s.run.texts.ops w (Call op line args) ≡ [] = ap (λ (o : Option Answer). if_goes o (written_by (length w.tasks + 1) 1 ps args)) refused in
    let closed : (after_call s.run.law s.run.texts.ops op args (first_refused w.files ps args) w).closed ≡ w.closed = ap (λ (o : Option Answer). (after_call s.run.law s.run.texts.ops op args o w).closed) refused in
    goes t t s k h (Call op line args) st next a holds e (record { may = may; says = ap went_unless refused }) (refused_fits s k op line args st next a e refused) (refused_none s k op line args a refused)
    (record { rows = refl; notes = refl; unfinished_is = refl; window = refl; tasks = same_graph t.graph })
    (record {
      mains = holds.mains ∙ sym (ap (map length) closed);
      looks = holds.looks;
      writes = sym (ap (λ (l : List Written). written_back l (writes_in t.names)) writes);
      names = sym (ap (λ (l : List Act). named_from (names_in t.names) l) none);
      made = subst (AreMade (names_in t.names) (actions_in t.graph)) (sym (with_nothing (acts s.run k)) ∙ ap (λ (l : List Act). acts s.run k ++ l) (sym none)) holds.made;
    })
