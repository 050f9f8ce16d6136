-- A call makes a task.
use Rattle.std.proofs.Common.{◌≡◌, ◌<◌, ◌≤◌, ◌+◌, ◌&&◌, ◌==◌, ℕ, zero, suc, Bool, true, false, refl, sym, ap, ◌∙◌, subst, List, [], ◌∷◌, ◌++◌, length, map, arith, Option, Some, None, is_some, length-append, if◌then◌else◌, inl, inr, ◌⊎◌}
use Rattle.std.specs.Prelude.{option_map}
use Rattle.std.specs.List.{slice_get}
use Rattle.std.proofs.lemmas.Bool.{cases_lt, cases_Bool}
use Rattle.std.proofs.lemmas.Bool.Decides.{eqb_tells}
use Rattle.gs_idl.specs.Interface.{Param, params_at, is_output, reads_file, writes_file}
use Rattle.gs_types.specs.declared.note.OutNote.{OutNote}
use Rattle.gs_types.specs.declared.note.Note.{Note}
use Rattle.gs_types.specs.declared.note.Version.{Version}
use Rattle.gs_types.specs.declared.note.Version.TheVariants.{Original, Out, Main}
use Rattle.gs_types.specs.declared.value.Value.{Value}
use Rattle.gs_types.specs.declared.job.Arg.{Arg}
use Rattle.gs_types.specs.History.{History, outs_in}
use Rattle.gs_graph.specs.Numbers.{has}
use Rattle.gs_graph.specs.Edges.{done_too, waiting_too}
use Rattle.gs_graph.specs.Graph.{count_in, done_in, needs_in, actions_in}
use Rattle.gs_graph.specs.declared.graph.Graph.{Graph}
use Rattle.gs_names.specs.Table.{names_in, writes_in}
use Rattle.gs_talk.specs.declared.question.CallArg.{CallArg}
use Rattle.gs_talk.specs.declared.question.CallArg.TheVariants as arg
use Rattle.gs_talk.specs.declared.question.Question.TheVariants.{Call}
use Rattle.gs_talk.specs.declared.question.Answer.{Answer}
use Rattle.gs_talk.specs.declared.question.Answer.TheVariants.{Went}
use Rattle.gs_talk.specs.Talk.{State, Dialogue, Ask}
use Rattle.gs_talk.specs.Seq.{World, Task, task_at, task_of, ran, reply, first_refused, went_unless, after_call}
use Rattle.gs_talk.specs.Actions as act
use Rattle.gs_talk.specs.Actions.{Act, acts, names_where, unless_refused}
use Rattle.gs_talk_laws.specs.Numbers.{at_number}
use Rattle.gs_talk_laws.specs.Versions.{Written, writings, written_by, if_goes, readings, read_by, IsBefore, IsVersionOf}
use Rattle.gs_talk_laws.proofs.Lists.{get_kept, get_last, get_either, get_within}
use Rattle.gs_talk_laws.proofs.Stays.{tasks_read_versions}
use Rattle.gs_history.specs.Setup.{Noting, Setup, world_at, rest_at, count_at}
use Rattle.gs_history.specs.Notes.{note_of, kind_of, gives_first, are_given, is_form, IsNoted, note_at, IsMisfit, NoMisfit}
use Rattle.gs_history.specs.Frontier.{one_unless, unfinished, MayAnswer}
use Rattle.gs_tables.specs.Outs.{first_noted, outs_noted}
use Rattle.gs_tables.specs.Rows.{fixed_lengths, IsRow, row_at}
use Rattle.gs_tables.specs.Noted.{noting_in, noted_outs, misfit_of}
use Rattle.gs_tables.specs.Written.{written_back}
use Rattle.gs_tables.specs.Marks.{with_names, named_by, named_from, names_of, AreMade}
use Rattle.gs_tables.specs.Sources.{sources, feeds}
use Rattle.gs_tables.specs.Holds.{Waits, IsAhead, HasRow, Holds}
use Rattle.gs_tables.specs.Asked.{HasGone}
use Rattle.gs_tables.specs.declared.row.Row.{Row}
use Rattle.gs_tables.specs.declared.tables.Tables.{Tables}
use Rattle.gs_tables.proofs.Moments.{Moved, moved}
use Rattle.gs_tables.proofs.Keeping.{back_both, within_next, fit_next}
use Rattle.gs_tables.proofs.Numbering.{names_then}
use Rattle.gs_tables.proofs.Feeding.{AreEarlier, sources_feed}

-- ---- the notes of a task

both_true : (b c : Bool) → (b && c) ≡ true → (b ≡ true) × (c ≡ true)
both_true true c e = (refl, e)
both_true false c e = absurd cc

eq_true : (a b : ℕ) → (a == b) ≡ true → a ≡ b
eq_true a b e = elim (eqb_tells a b) [ inl same ↦ same.1 | inr other ↦ absurd (let f : false ≡ true = sym other.0 ∙ e in cc) ]

-- notes of this form with these values are the values' notes
form_outs : (place : ℕ) (ps : List Param) (xs : List OutNote) (vs : List Value) → are_given place ps xs ≡ true → map (λ o. o.v) xs ≡ map note_of vs → xs ≡ outs_noted place ps vs
form_outs place [] [] vs f e = refl
form_outs place [] (o ∷ xs) vs f e = absurd cc
form_outs place (p ∷ ps) xs vs f e = of_test (form_outs (suc place) ps) (is_output p.dir) xs vs f e
  where
    given_first : ((ys : List OutNote) (us : List Value) → are_given (suc place) ps ys ≡ true → map (λ o. o.v) ys ≡ map note_of us → ys ≡ outs_noted (suc place) ps us)
        → (ys : List OutNote) (us : List Value) → gives_first place p.kind ys (are_given (suc place) ps) ≡ true → map (λ o. o.v) ys ≡ map note_of us → ys ≡ first_noted place us (outs_noted (suc place) ps)
    given_first more [] us f e = absurd cc
    given_first more (o ∷ ys) [] f e = absurd cc
    given_first more (o ∷ ys) (u ∷ us) f e =
        let a = both_true _ _ f in
        let b = both_true _ _ a.0 in
        let at = eq_true o.place place b.0 in
        let v : o.v ≡ note_of u = cc in
        let rest : map (λ (x : OutNote). x.v) ys ≡ map note_of us = cc in
        let tail = more ys us a.1 rest in
        ap (λ (n : Note). record { place = o.place; v = n } ∷ ys) v ∙ ap (λ (i : ℕ). record { place = i; v = note_of u } ∷ ys) at ∙ ap (λ (l : List OutNote). record { place = place; v = note_of u } ∷ l) tail

    of_test : ((ys : List OutNote) (us : List Value) → are_given (suc place) ps ys ≡ true → map (λ o. o.v) ys ≡ map note_of us → ys ≡ outs_noted (suc place) ps us)
        → (b : Bool) (ys : List OutNote) (us : List Value) → (if b then gives_first place p.kind ys (are_given (suc place) ps) else are_given (suc place) ps ys) ≡ true → map (λ o. o.v) ys ≡ map note_of us
        → ys ≡ (if b then first_noted place us (outs_noted (suc place) ps) else outs_noted (suc place) ps us)
    of_test more true ys us f e = given_first more ys us f e
    of_test more false ys us f e = more ys us f e

-- what the next task's note says, where it is of its form
noted_is : (s : Setup) (n op : ℕ) (ps : List Param) (o : Option (List Value)) (note : Option Noting) → note ≡ note_at s.notes n → misfit_of note op ps ≡ None → IsAhead s n o → noted_outs note ≡ option_map (outs_noted 1 ps) o
noted_is s n op ps None note is fits ahead = ap noted_outs (is ∙ ahead)
noted_is s n op ps (Some vs) None is fits ahead = absurd (let f : None ≡ Some ahead.0 = is ∙ ahead.1 in cc)
noted_is s n op ps (Some vs) (Some x) is fits ahead =
    let same : Some x ≡ Some ahead.0 = is ∙ ahead.1 in
    let one : x ≡ ahead.0 = cc in
    let form = both_true (x.op == op) (are_given 1 ps x.outs) (form_of (is_form x op ps) fits) in
    ap Some (form_outs 1 ps x.outs vs form.1 (ap (λ (y : Noting). map (λ (i : OutNote). i.v) y.outs) one ∙ ahead.2.values))
  where
    form_of : (b : Bool) → (if b then None else Some x.index) ≡ None → b ≡ true
    form_of true e = refl
    form_of false e = absurd cc

-- whether the next task is done is whether it has a note
pub noted_some : (s : Setup) (n : ℕ) (o : Option (List Value)) (note : Option Noting) → note ≡ note_at s.notes n → IsAhead s n o → is_some note ≡ is_some o
noted_some s n None note is ahead = ap is_some (is ∙ ahead)
noted_some s n (Some vs) note is ahead = ap is_some (is ∙ ahead.1)

-- ---- misfits

misfit_none : (x : Noting) (note : Option Noting) (op : ℕ) (ps : List Param) → note ≡ Some x → misfit_of note op ps ≡ None → is_form x op ps ≡ false → ⊥
misfit_none x note op ps is none other =
    let a : misfit_of note op ps ≡ Some x.index = ap (λ (o : Option Noting). misfit_of o op ps) is ∙ ap (λ (b : Bool). if b then None else Some x.index) other in
    let f : None ≡ Some x.index = sym none ∙ a in cc

pub fits_next : (t : Tables) (s : Setup) (k : ℕ) (h : History) (op line n : ℕ) (args : List CallArg) (st : State) (next : Answer → Dialogue) → Holds t s k h → rest_at s k ≡ Ask (Call op line args) st next → n ≡ count_at s k + 1
    → misfit_of (noting_in t.notes n) op (params_at s.run.texts.ops op) ≡ None → NoMisfit s k
fits_next t s k h op line n args st next holds e number none index misfit =
    let note : noting_in t.notes n ≡ Some misfit.note = ap (noting_in t.notes) number ∙ holds.notes (count_at s k + 1) ∙ misfit.noted in
    let other = subst (λ (d : Dialogue). Rattle.gs_history.specs.Notes.OtherNext s k misfit.note d) e misfit.other in
    misfit_none misfit.note (noting_in t.notes n) op (params_at s.run.texts.ops op) note none other.1

pub misfit_next : (t : Tables) (s : Setup) (k : ℕ) (h : History) (op line n index : ℕ) (args : List CallArg) (st : State) (next : Answer → Dialogue) → Holds t s k h → rest_at s k ≡ Ask (Call op line args) st next → n ≡ count_at s k + 1
    → first_refused (world_at s k).files (params_at s.run.texts.ops op) args ≡ None → misfit_of (noting_in t.notes n) op (params_at s.run.texts.ops op) ≡ Some index → IsMisfit s k index
misfit_next t s k h op line n index args st next holds e number goes is = of_note (noting_in t.notes n) refl is
  where
    of_form : (x : Noting) → noting_in t.notes n ≡ Some x → (b : Bool) → is_form x op (params_at s.run.texts.ops op) ≡ b → (if b then None else Some x.index) ≡ Some index → IsMisfit s k index
    of_form x note true form is = absurd cc
    of_form x note false form is = record {
      note = x;
      noted = sym (holds.notes (count_at s k + 1)) ∙ sym (ap (noting_in t.notes) number) ∙ note;
      index_is = cc;
      other = subst (λ (d : Dialogue). Rattle.gs_history.specs.Notes.OtherNext s k x d) (sym e) (goes, form);
    }

    of_note : (o : Option Noting) → noting_in t.notes n ≡ o → misfit_of o op (params_at s.run.texts.ops op) ≡ Some index → IsMisfit s k index
    of_note None note is = absurd cc
    of_note (Some x) note is = of_form x note (is_form x op (params_at s.run.texts.ops op)) refl is

-- ---- the run after the call

pub record Called (s : Setup) (k op : ℕ) (args : List CallArg) (next : Answer → Dialogue) : Type 0 where
  pub rest : rest_at s (suc k) ≡ next Went
  pub tasks : (world_at s (suc k)).tasks ≡ (world_at s k).tasks ++ task_of s.run.law s.run.texts.ops (world_at s k).files op args ∷ []
  pub closed : (world_at s (suc k)).closed ≡ (world_at s k).closed
  pub writes : writings s.run (suc k) ≡ writings s.run k ++ written_by (count_at s k + 1) 1 (params_at s.run.texts.ops op) args
  pub reads : readings s.run (suc k) ≡ readings s.run k ++ read_by (writings s.run k) (params_at s.run.texts.ops op) args ∷ []
  pub acts_are : acts s.run (suc k) ≡ acts s.run k ++ act.Call (count_at s k + 1) op (names_where reads_file (params_at s.run.texts.ops op) args) (names_where writes_file (params_at s.run.texts.ops op) args) ∷ []

pub called : (s : Setup) (k op line : ℕ) (args : List CallArg) (st : State) (next : Answer → Dialogue) → rest_at s k ≡ Ask (Call op line args) st next → first_refused (world_at s k).files (params_at s.run.texts.ops op) args ≡ None → Called s k op args next
called s k op line args st next e goes =
    let ps = params_at s.run.texts.ops op in
    let m = moved s k (Call op line args) st next Went e (ap went_unless goes) in
    let world = m.world ∙ ap (λ (o : Option Answer). after_call s.run.law s.run.texts.ops op args o (world_at s k)) goes in
    record {
      rest = m.rest;
      tasks = ap (λ (w : World). w.tasks) world;
      closed = ap (λ (w : World). w.closed) world;
      writes = m.writes ∙ ap (λ (o : Option Answer). writings s.run k ++ if_goes o (written_by (count_at s k + 1) 1 ps args)) goes;
      reads = m.reads ∙ ap (λ (o : Option Answer). readings s.run k ++ if_goes o (read_by (writings s.run k) ps args ∷ [])) goes;
      acts_are = m.acts_are ∙ ap (λ (o : Option Answer). acts s.run k ++ unless_refused o (act.Call (count_at s k + 1) op (names_where reads_file ps args) (names_where writes_file ps args))) goes;
    }

-- ---- the new tables

-- what the code did
pub record Enters (old new : Tables) (s : Setup) (k op : ℕ) (args : List CallArg) (row : Row) : Type 0 where
  pub rows : new.rows.items ≡ old.rows.items ++ row ∷ []
  pub notes : new.notes ≡ old.notes
  pub looks : new.looks ≡ old.looks
  pub mains : new.mains ≡ old.mains
  pub window : new.window ≡ old.window
  pub writes : writes_in new.names ≡ written_back (written_by (count_at s k + 1) 1 (params_at s.run.texts.ops op) args) (writes_in old.names)
  pub names : names_in new.names ≡ with_names (names_in old.names) (named_by (act.Call (count_at s k + 1) op (names_where reads_file (params_at s.run.texts.ops op) args) (names_where writes_file (params_at s.run.texts.ops op) args)))
  pub made : AreMade (names_in new.names) (actions_in new.graph) (acts s.run k ++ act.Call (count_at s k + 1) op (names_where reads_file (params_at s.run.texts.ops op) args) (names_where writes_file (params_at s.run.texts.ops op) args) ∷ [])
  pub unfinished_is : new.unfinished ≡ old.unfinished + (if is_some row.outs then 0 else 1)
  pub count : count_in new.graph ≡ count_at s k + 1
  pub done : (m : ℕ) → done_in new.graph m ≡ (if (count_at s k + 1) == m then is_some row.outs else done_in old.graph m)
  pub needs : (m p : ℕ) → needs_in new.graph m p ≡ waiting_too (count_at s k + 1) (sources (count_at s k + 1) row.reads) (needs_in old.graph) m p

-- the row is the task's
pub record IsNew (s : Setup) (k op : ℕ) (args : List CallArg) (row : Row) (o : Option (List Value)) : Type 0 where
  pub op_is : row.op ≡ op
  pub called_is : row.called ≡ args
  pub reads_are : row.reads ≡ read_by (writings s.run k) (params_at s.run.texts.ops op) args
  pub kept_are : (xs : List Arg) → (task_of s.run.law s.run.texts.ops (world_at s k).files op args).args ≡ Some xs → row.kept ≡ fixed_lengths (read_by (writings s.run k) (params_at s.run.texts.ops op) args) xs
  pub outs_are : row.outs ≡ option_map (outs_noted 1 (params_at s.run.texts.ops op)) o

one_if : (o : Option (List Value)) (b : Bool) → b ≡ is_some o → one_unless o ≡ (if b then 0 else 1)
one_if None b e = ap (λ (c : Bool). if c then 0 else 1) (sym e)
one_if (Some v) b e = ap (λ (c : Bool). if c then 0 else 1) (sym e)

some_map : {A B : Type 0} (f : A → B) (o : Option A) → is_some (option_map f o) ≡ is_some o
some_map f None = refl
some_map f (Some x) = refl

row_kept : (rows : List Row) (row r : Row) (n : ℕ) → row_at rows n ≡ Some r → row_at (rows ++ row ∷ []) n ≡ Some r
row_kept rows row r zero e = absurd cc
row_kept rows row r (suc n) e = get_kept rows (row ∷ []) n (get_within rows n r e) ∙ e

row_last : (rows : List Row) (row : Row) (n : ℕ) → n ≡ length rows + 1 → row_at (rows ++ row ∷ []) n ≡ Some row
row_last rows row zero e = absurd (omega arith)
row_last rows row (suc n) e = let at : length rows ≡ n = omega arith in ap (slice_get (rows ++ row ∷ [])) (sym at) ∙ get_last rows row

some_same : {A : Type 0} (a b : A) → ◌≡◌ {A = Option A} (Some a) (Some b) → a ≡ b
some_same a b e = cc

number_either : {A : Type 0} (xs : List A) (x : A) (n : ℕ) (y : A) → at_number (xs ++ x ∷ []) n ≡ Some y → (at_number xs n ≡ Some y) ⊎ ((n ≡ length xs + 1) × (x ≡ y))
number_either xs x zero y e = absurd cc
number_either xs x (suc n) y e = elim (get_either xs x n y e) [ inl before ↦ inl before | inr last ↦ inr (let at = last.0 in omega arith, last.1) ]

task_either : (xs : List Task) (x : Task) (n : ℕ) (y : Task) → task_at (xs ++ x ∷ []) n ≡ Some y → (task_at xs n ≡ Some y) ⊎ ((n ≡ length xs + 1) × (x ≡ y))
task_either xs x zero y e = absurd cc
task_either xs x (suc n) y e = elim (get_either xs x n y e) [ inl before ↦ inl before | inr last ↦ inr (let at = last.0 in omega arith, last.1) ]

task_below : (xs : List Task) (n : ℕ) (t : Task) → task_at xs n ≡ Some t → n ≤ length xs
task_below xs zero t e = omega arith
task_below xs (suc n) t e = let lt = get_within xs n t e in omega arith

number_below : {A : Type 0} (xs : List A) (n : ℕ) (t : A) → at_number xs n ≡ Some t → n ≤ length xs
number_below xs zero t e = omega arith
number_below xs (suc n) t e = let lt = get_within xs n t e in omega arith

rows_next : (old new : Tables) (s : Setup) (k op line : ℕ) (h : History) (args : List CallArg) (next : Answer → Dialogue) (row : Row) → Holds old s k h → Called s k op args next → Enters old new s k op args row → IsNew s k op args row (outs_in h (count_at s k + 1)) → length (readings s.run k) ≡ count_at s k
    → (n : ℕ) (task : Task) (rs : List (Option Version)) → task_at (world_at s (suc k)).tasks n ≡ Some task → at_number (readings s.run (suc k)) n ≡ Some rs → HasRow new.rows.items h n task rs
rows_next old new s k op line h args next row holds called enters is_new many n task rs at_t at_r =
    let x = task_of s.run.law s.run.texts.ops (world_at s k).files op args in
    let ps = params_at s.run.texts.ops op in
    let r = read_by (writings s.run k) ps args in
    elim (task_either (world_at s k).tasks x n task (ap (λ (l : List Task). task_at l n) (sym called.tasks) ∙ at_t)) [
      | inl before ↦ elim (number_either (readings s.run k) r n rs (ap (λ (l : List (List (Option Version))). at_number l n) (sym called.reads) ∙ at_r)) [
        | inl earlier ↦
            let has = holds.rows n task rs before earlier in
            record { row = has.row; at = ap (λ (l : List Row). row_at l n) enters.rows ∙ row_kept old.rows.items row has.row n has.at; is = has.is }
        | inr last ↦ absurd (let le = task_below (world_at s k).tasks n task before in let e = last.0 in omega arith)
      ]
      | inr last ↦ elim (number_either (readings s.run k) r n rs (ap (λ (l : List (List (Option Version))). at_number l n) (sym called.reads) ∙ at_r)) [
        | inl earlier ↦ absurd (let le = number_below (readings s.run k) n rs earlier in let e = last.0 in omega arith)
        | inr both ↦
            let at : n ≡ count_at s k + 1 = last.0 in
            let e = last.1 in
            let f = both.1 in
            record {
              row = row;
              at = ap (λ (l : List Row). row_at l n) enters.rows ∙ row_last old.rows.items row n (at ∙ ap (λ (i : ℕ). i + 1) (sym holds.count));
              is = record {
                op = is_new.op_is ∙ ap (λ (t : Task). t.op) e;
                called = is_new.called_is ∙ ap (λ (t : Task). t.called) e;
                read = is_new.reads_are ∙ f;
                kept = λ xs g. is_new.kept_are xs (ap (λ (t : Task). t.args) e ∙ g) ∙ ap (λ (l : List (Option Version)). fixed_lengths l xs) f;
                outs = is_new.outs_are ∙ ap (λ (i : ℕ). option_map (outs_noted 1 ps) (outs_in h i)) (sym at) ∙ ap (λ (t : Task). option_map (outs_noted 1 t.params) (outs_in h n)) e;
              };
            }
      ]
    ]

-- ---- the graph

graph_next : (old new : Tables) (s : Setup) (k op : ℕ) (h : History) (args : List CallArg) (next : Answer → Dialogue) (row : Row) → Holds old s k h → Called s k op args next → Enters old new s k op args row → IsNew s k op args row (outs_in h (count_at s k + 1)) → length (readings s.run k) ≡ count_at s k
    → AreEarlier (count_at s k + 1) row.reads → Waits new.graph s (suc k) h
graph_next old new s k op h args next row holds called enters is_new many early =
    let count : count_at s (suc k) ≡ count_at s k + 1 = ap length called.tasks ∙ length-append (world_at s k).tasks (task_of s.run.law s.run.texts.ops (world_at s k).files op args ∷ []) in
    record {
      count = enters.count ∙ sym count;
      done = λ n pos le. enters.done n ∙ elim (eqb_tells (count_at s k + 1) n) [
        | inl same ↦ ap (λ (b : Bool). if b then is_some row.outs else done_in old.graph n) same.0 ∙ ap is_some is_new.outs_are ∙ some_map (outs_noted 1 (params_at s.run.texts.ops op)) (outs_in h (count_at s k + 1)) ∙ ap (λ (i : ℕ). is_some (outs_in h i)) same.1
        | inr other ↦ ap (λ (b : Bool). if b then is_some row.outs else done_in old.graph n) other.0 ∙ holds.graph.done n pos (let ne = other.1 in below n (count_at s k) (count_at s (suc k)) count le (λ e. ne (sym e)))
      ];
      needs = λ n p rs e. enters.needs n p ∙ elim (number_either (readings s.run k) (read_by (writings s.run k) (params_at s.run.texts.ops op) args) n rs (ap (λ (l : List (List (Option Version))). at_number l n) (sym called.reads) ∙ e)) [
        | inl before ↦ elim (eqb_tells (count_at s k + 1) n) [
          | inl same ↦ absurd (let le = number_below (readings s.run k) n rs before in let f = same.1 in omega arith)
          | inr other ↦ ap (λ (b : Bool). if b then has p (sources (count_at s k + 1) row.reads) else needs_in old.graph n p) other.0 ∙ holds.graph.needs n p rs before
        ]
        | inr last ↦ elim (eqb_tells (count_at s k + 1) n) [
          | inl same ↦ ap (λ (b : Bool). if b then has p (sources (count_at s k + 1) row.reads) else needs_in old.graph n p) same.0 ∙ sources_feed (count_at s k + 1) p row.reads early ∙ ap (feeds p) (is_new.reads_are ∙ last.1)
          | inr other ↦ absurd (other.1 (let f = last.0 in omega arith))
        ]
      ];
    }
  where
    below : (n a b : ℕ) → b ≡ a + 1 → n ≤ b → (n ≡ a + 1 → ⊥) → n ≤ a
    below n a b e le ne = elim (cases_lt a n) [
      | inl lt ↦ absurd (ne (omega arith))
      | inr not ↦ omega arith
    ]

-- ---- all of it

pub entered : (old new : Tables) (s : Setup) (k op line : ℕ) (h : History) (args : List CallArg) (st : State) (next : Answer → Dialogue) (row : Row) → Holds old s k h → rest_at s k ≡ Ask (Call op line args) st next → MayAnswer s h k (Call op line args) → NoMisfit s k
    → first_refused (world_at s k).files (params_at s.run.texts.ops op) args ≡ None → Enters old new s k op args row → IsNew s k op args row (outs_in h (count_at s k + 1)) → length (readings s.run k) ≡ count_at s k → AreEarlier (count_at s k + 1) row.reads → HasGone new s k h next Went
entered old new s k op line h args st next row holds e may fits goes enters is_new many early =
    let to = called s k op line args st next e goes in
    let ps = params_at s.run.texts.ops op in
    let one = act.Call (count_at s k + 1) op (names_where reads_file ps args) (names_where writes_file ps args) in
    let count : count_at s (suc k) ≡ count_at s k + 1 = ap length to.tasks ∙ length-append (world_at s k).tasks (task_of s.run.law s.run.texts.ops (world_at s k).files op args ∷ []) in
    let done : is_some row.outs ≡ is_some (outs_in h (count_at s k + 1)) = ap is_some is_new.outs_are ∙ some_map (outs_noted 1 ps) (outs_in h (count_at s k + 1)) in
    let more = one_if (outs_in h (count_at s k + 1)) (is_some row.outs) done in
    let at : suc (count_at s k) ≡ count_at s k + 1 = omega arith in
    record {
      holds = record {
        count = ap length enters.rows ∙ length-append old.rows.items (row ∷ []) ∙ ap (λ (i : ℕ). i + 1) holds.count ∙ sym count;
        rows = rows_next old new s k op line h args next row holds to enters is_new many;
        mains = ap (λ m. m.items) enters.mains ∙ holds.mains ∙ sym (ap (map length) to.closed);
        looks = subst (λ l. Rattle.gs_looks.specs.Looked.AreSeen (Rattle.gs_looks.specs.Looked.looks_in l) s.run.files) (sym enters.looks) holds.looks;
        writes = enters.writes ∙ ap (written_back (written_by (count_at s k + 1) 1 ps args)) holds.writes ∙ back_both (writings s.run k) (written_by (count_at s k + 1) 1 ps args) [] ∙ sym (ap (λ (l : List Written). written_back l []) to.writes);
        names = enters.names ∙ ap (λ (l : List (List ℕ)). with_names l (named_by one)) holds.names ∙ sym (names_then (acts s.run k) one) ∙ sym (ap names_of to.acts_are);
        made = subst (AreMade (names_in new.names) (actions_in new.graph)) (sym to.acts_are) enters.made;
        graph = graph_next old new s k op h args next row holds to enters is_new many early;
        unfinished_is = enters.unfinished_is ∙ ap (λ (i : ℕ). i + (if is_some row.outs then 0 else 1)) holds.unfinished_is ∙ ap (λ (i : ℕ). unfinished h (count_at s k) + i) (sym more) ∙ ap (λ (i : ℕ). unfinished h (count_at s k) + one_unless (outs_in h i)) (sym at) ∙ sym (ap (unfinished h) (count ∙ sym at));
        window = enters.window ∙ holds.window;
        notes = λ n. ap (λ i. noting_in i n) enters.notes ∙ holds.notes n;
        ahead = λ n lt. holds.ahead n (let c = count in omega arith);
        within = within_next s h k (Call op line args) st next e holds.within may;
        good = holds.good;
        fit = fit_next s k holds.fit fits;
        rules = holds.rules;
        known = holds.known;
      };
      rest = to.rest;
    }

-- ---- what is known of the new task's row

pub outs_next : (t : Tables) (s : Setup) (k op n : ℕ) (h : History) → Holds t s k h → n ≡ count_at s k + 1 → misfit_of (noting_in t.notes n) op (params_at s.run.texts.ops op) ≡ None
    → noted_outs (noting_in t.notes n) ≡ option_map (outs_noted 1 (params_at s.run.texts.ops op)) (outs_in h (count_at s k + 1))
outs_next t s k op n h holds number none =
    noted_is s (count_at s k + 1) op (params_at s.run.texts.ops op) (outs_in h (count_at s k + 1)) (noting_in t.notes n) (ap (noting_in t.notes) number ∙ holds.notes (count_at s k + 1)) none (holds.ahead (count_at s k + 1) (omega arith))
