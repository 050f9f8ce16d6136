-- Tables of a run that has asked nothing.
use Rattle.std.proofs.Common.{◌≡◌, ◌<◌, ◌≤◌, ◌+◌, ◌==◌, ℕ, zero, suc, Bool, true, false, refl, sym, ap, ◌∙◌, subst, List, [], ◌∷◌, length, map, arith, Option, Some, None, is_some, if◌then◌else◌, inl, inr}
use Rattle.std.proofs.lemmas.Bool.Decides.{eqb_tells}
use Rattle.gs_idl.specs.Interface.{KeepRules}
use Rattle.gs_types.specs.declared.value.Value.{Value}
use Rattle.gs_types.specs.declared.note.Version.{Version}
use Rattle.gs_types.specs.History.{History, noted, started, refused, finished, failed, abandoned, outs_in}
use Rattle.gs_graph.specs.Graph.{count_in, done_in, needs_in, actions_in}
use Rattle.gs_looks.specs.Looked.{looks_in}
use Rattle.gs_names.specs.Table.{names_in, writes_in}
use Rattle.gs_talk.specs.Seq.{Task, task_at, seq}
use Rattle.gs_talk.specs.Actions.{acts}
use Rattle.gs_talk_laws.specs.Numbers.{at_number}
use Rattle.gs_talk_laws.specs.Stuck.{AreKnown}
use Rattle.gs_talk_laws.specs.Versions.{writings, readings}
use Rattle.gs_history.specs.Setup.{Noting, Setup, world_at, count_at}
use Rattle.gs_history.specs.Notes.{IsNoted, AreNoted, note_at}
use Rattle.gs_history.specs.Frontier.{IsWithin}
use Rattle.gs_history.specs.Good.{Good}
use Rattle.gs_history.proofs.Ending.{noted_outs}
use Rattle.gs_tables.specs.Noted.{noting_in}
use Rattle.gs_tables.specs.Holds.{Waits, IsAhead, Holds}
use Rattle.gs_tables.specs.declared.tables.Tables.{Tables}

-- a task that nothing is noted of has no note
none_noted : (s : Setup) (xs : List Noting) (h : History) (n : ℕ) → AreNoted s xs h → outs_in h n ≡ None → note_at xs n ≡ None
none_noted s [] h n are e = refl
none_noted s (x ∷ xs) [] n are e = absurd are
none_noted s (x ∷ xs) (noted m outs ∷ h) n are e = elim (eqb_tells m n) [
  | inl same ↦ absurd (let f : Some outs ≡ None = ap (λ (b : Bool). if b then Some outs else outs_in h n) (sym same.0) ∙ e in cc)
  | inr other ↦
      let rest = none_noted s xs h n are.1 (ap (λ (b : Bool). if b then Some outs else outs_in h n) (sym other.0) ∙ e) in
      ap (λ (i : ℕ). if i == n then Some x else note_at xs n) are.0.number ∙ ap (λ (b : Bool). if b then Some x else note_at xs n) other.0 ∙ rest
]
none_noted s (x ∷ xs) (started m w job ∷ h) n are e = absurd are
none_noted s (x ∷ xs) (refused m w ∷ h) n are e = absurd are
none_noted s (x ∷ xs) (finished m outs ∷ h) n are e = absurd are
none_noted s (x ∷ xs) (failed m ∷ h) n are e = absurd are
none_noted s (x ∷ xs) (abandoned ∷ h) n are e = absurd are

ahead_of : (s : Setup) (h : History) (n : ℕ) → AreNoted s s.notes h → (o : Option (List Value)) → outs_in h n ≡ o → IsAhead s n o
ahead_of s h n are None e = none_noted s s.notes h n are e
ahead_of s h n are (Some outs) e = let has = noted_outs s s.notes h n outs are e in (has.note, has.first, has.noted)

good_of : (s : Setup) (h : History) → AreNoted s s.notes h → Good s h
good_of s [] are = are
good_of s (noted n outs ∷ h) are = are
good_of s (started m w job ∷ h) are = absurd (not_so s.notes are)
  where
    not_so : (xs : List Noting) → AreNoted s xs (started m w job ∷ h) → ⊥
    not_so [] is = is
    not_so (x ∷ xs) is = is
good_of s (refused m w ∷ h) are = absurd (not_so s.notes are)
  where
    not_so : (xs : List Noting) → AreNoted s xs (refused m w ∷ h) → ⊥
    not_so [] is = is
    not_so (x ∷ xs) is = is
good_of s (finished m outs ∷ h) are = absurd (not_so s.notes are)
  where
    not_so : (xs : List Noting) → AreNoted s xs (finished m outs ∷ h) → ⊥
    not_so [] is = is
    not_so (x ∷ xs) is = is
good_of s (failed m ∷ h) are = absurd (not_so s.notes are)
  where
    not_so : (xs : List Noting) → AreNoted s xs (failed m ∷ h) → ⊥
    not_so [] is = is
    not_so (x ∷ xs) is = is
good_of s (abandoned ∷ h) are = absurd (not_so s.notes are)
  where
    not_so : (xs : List Noting) → AreNoted s xs (abandoned ∷ h) → ⊥
    not_so [] is = is
    not_so (x ∷ xs) is = is

-- at the beginning there is nothing
record Nothing (s : Setup) : Type 0 where
  tasks : (world_at s 0).tasks ≡ []
  closed : (world_at s 0).closed ≡ []
  reads : readings s.run 0 ≡ []
  writes : writings s.run 0 ≡ []
  acts_are : acts s.run 0 ≡ []

nothing : (s : Setup) → Nothing s
unfolding seq readings writings acts
nothing s = record { tasks = refl; closed = refl; reads = refl; writes = refl; acts_are = refl }

within_none : (s : Setup) (h : History) → IsWithin s h 0
unfolding IsWithin
within_none s h = tt

-- tables without anything but notes
pub record IsFresh (t : Tables) : Type 0 where
  pub rows : t.rows.items ≡ []
  pub mains : t.mains.items ≡ []
  pub looks : looks_in t.looks ≡ []
  pub names : names_in t.names ≡ []
  pub writes : writes_in t.names ≡ []
  pub count : count_in t.graph ≡ 0
  pub needs : (n p : ℕ) → needs_in t.graph n p ≡ false
  pub actions : actions_in t.graph ≡ []
  pub unfinished_is : t.unfinished ≡ 0

pub begins : (t : Tables) (s : Setup) (h : History) → IsFresh t → KeepRules s.run.texts.ops → AreKnown s.run.files → ((n : ℕ) → noting_in t.notes n ≡ note_at s.notes n) → t.window ≡ s.window → AreNoted s s.notes h → Holds t s 0 h
begins t s h fresh rules known notes window are =
    let none = nothing s in
    let count : count_at s 0 ≡ 0 = ap length none.tasks in
    record {
      count = ap length fresh.rows ∙ sym count;
      rows = λ n task rs at_t at_r. absurd (let f : None ≡ Some task = no_task n ∙ sym (ap (λ (l : List Task). task_at l n) none.tasks) ∙ at_t in cc);
      mains = fresh.mains ∙ sym (ap (map length) none.closed);
      looks = rw fresh.looks tt;
      writes = fresh.writes ∙ sym (ap (λ l. Rattle.gs_tables.specs.Written.written_back l []) none.writes);
      names = fresh.names ∙ sym (ap Rattle.gs_tables.specs.Marks.names_of none.acts_are);
      made = rw (fresh.actions, none.acts_are) tt;
      graph = record {
        count = fresh.count ∙ sym count;
        done = λ n pos le. absurd (let c = count in omega arith);
        needs = λ n p rs e. absurd (let f : None ≡ Some rs = no_reads n ∙ sym (ap (λ (l : List (List (Option Version))). at_number l n) none.reads) ∙ e in cc);
      };
      unfinished_is = fresh.unfinished_is ∙ sym (ap (Rattle.gs_history.specs.Frontier.unfinished h) count);
      window = window;
      notes = notes;
      ahead = λ n lt. ahead_of s h n are (outs_in h n) refl;
      within = within_none s h;
      good = good_of s h are;
      fit = λ j lt. absurd (omega arith);
      rules = rules;
      known = known;
    }
  where
    no_task : (n : ℕ) → None ≡ task_at [] n
    no_task zero = refl
    no_task (suc n) = refl

    no_reads : (n : ℕ) → None ≡ at_number {A = List (Option Version)} [] n
    no_reads zero = refl
    no_reads (suc n) = refl
