-- What is noted of a task that is done is what it gives.
use Rattle.std.proofs.Common.{◌≡◌, ◌<◌, ◌≤◌, ◌+◌, ◌&&◌, ◌==◌, ◌≢◌, ℕ, zero, suc, Bool, true, false, not, refl, sym, ap, ◌∙◌, subst, List, [], ◌∷◌, length, arith, Option, Some, None, if◌then◌else◌, inl, inr}
use Rattle.std.specs.Prelude.{option_map}
use Rattle.std.specs.List.{slice_get}
use Rattle.std.proofs.lemmas.Bool.{ne_eqb}
use Rattle.std.proofs.lemmas.Bool.Decides.{eqb_tells}
use Rattle.gs_idl.specs.Interface.{Param, Signature, KeepRules, params_by, params_at, name_at, is_output, is_out, is_file, is_out_scalar}
use Rattle.gs_idl.specs.declared.idl.Dir.{Dir}
use Rattle.gs_idl.specs.declared.idl.Dir.TheVariants.{Input, Both, Output}
use Rattle.gs_idl.specs.declared.idl.ParamKind.{ParamKind}
use Rattle.gs_idl.specs.declared.idl.ParamKind.TheVariants as kind
use Rattle.gs_types.specs.declared.note.Note.{Note}
use Rattle.gs_types.specs.declared.note.OutNote.{OutNote}
use Rattle.gs_types.specs.declared.note.Version.{Version}
use Rattle.gs_types.specs.declared.value.Value.{Value}
use Rattle.gs_types.specs.declared.job.Arg.{Arg}
use Rattle.gs_types.specs.declared.job.Arg.TheVariants.{Given, Both as both_ways, OutFile, OutInt, OutStr}
use Rattle.gs_types.specs.History.{History, outs_in}
use Rattle.gs_talk.specs.declared.question.CallArg.{CallArg}
use Rattle.gs_talk.specs.declared.question.CallArg.TheVariants as arg
use Rattle.gs_talk.specs.Seq.{Run, World, Files, Task, seq, task_at, given, fit, output_at, output_by, output_of, rest_of}
use Rattle.gs_talk_laws.specs.Numbers.{at_number}
use Rattle.gs_talk_laws.specs.Uses.{is_left, FitsParam, AreFit}
use Rattle.gs_talk_laws.specs.Versions.{readings, content_by, all_given_by, IsTaskOf}
use Rattle.gs_talk_laws.proofs.Outputs.{takes, file_takes, fit_taken, fit_given, taken_here, taken_after, given_after, both_given}
use Rattle.gs_talk_laws.proofs.Renaming.{gives_fit}
use Rattle.gs_talk_laws.proofs.Stays.{tasks_read_versions}
use Rattle.gs_history.specs.Setup.{Setup, world_at}
use Rattle.gs_history.specs.Notes.{note_of}
use Rattle.gs_history.proofs.Ending.{done_is_true}
use Rattle.gs_history.proofs.Fitting.{notes_fit}
use Rattle.gs_tables.specs.Outs.{first_noted, outs_noted, noted_at, noted_in}
use Rattle.gs_tables.specs.Rows.{row_at, row_outs}
use Rattle.gs_tables.specs.Holds.{Holds}
use Rattle.gs_tables.specs.declared.row.Row.{Row}
use Rattle.gs_tables.specs.declared.tables.Tables.{Tables}

-- ---- what stands at the places

-- what stands at a place, by some files
abbrev AllGiven : List Param → List CallArg → List Arg → Type 0
AllGiven [] args xs = xs ≡ []
AllGiven (p ∷ ps) [] xs = xs ≡ []
AllGiven (p ∷ ps) (a ∷ args) [] = ⊥
AllGiven (p ∷ ps) (a ∷ args) (x ∷ xs) = ((files : Files) × (given files p a ≡ Some x)) × AllGiven ps args xs

none_some : (xs : List Arg) → ◌≡◌ {A = Option (List Arg)} (Some []) (Some xs) → xs ≡ []
none_some xs e = cc

all_are_given : (first : Files) (w : World) (reads : List (Option Version)) (ps : List Param) (args : List CallArg) (xs : List Arg) → length reads ≡ length args → all_given_by first w reads ps args ≡ Some xs → AllGiven ps args xs
all_are_given first w [] [] args xs many e = none_some xs e
all_are_given first w [] (p ∷ ps) [] xs many e = none_some xs e
all_are_given first w [] (p ∷ ps) (a ∷ args) xs many e = absurd (omega arith)
all_are_given first w (o ∷ reads) [] args xs many e = none_some xs e
all_are_given first w (o ∷ reads) (p ∷ ps) [] xs many e = none_some xs e
all_are_given first w (o ∷ reads) (p ∷ ps) (a ∷ args) xs many e =
    let parts = both_given (given (λ name. content_by first w o) p a) (all_given_by first w reads ps args) xs e in
    subst (λ (ys : List Arg). AllGiven (p ∷ ps) (a ∷ args) ys) parts.4 (((λ name. content_by first w o), parts.2), all_are_given first w reads ps args parts.1 (omega arith) parts.3)

-- ---- which places give something

-- an `inout` parameter is a file
abbrev FileBoth : Param → Type 0
FileBoth p = p.dir ≡ Both → p.kind ≡ kind.File

-- the parameters keep that rule
abbrev AreFileBoth : List Param → Type 0
AreFileBoth ps = (i : ℕ) (p : Param) → slice_get ps i ≡ Some p → FileBoth p

given_takes : (v : Value) (d : Dir) (k : ParamKind) (x : Arg) → Some (Given v) ≡ Some x → false ≡ (is_out d && not (is_file k)) → is_file k ≡ false → (d ≡ Both → k ≡ kind.File) → takes x ≡ is_output d
given_takes v Input k x e left scalar both = let is : Given v ≡ x = cc in ap takes (sym is)
given_takes v Both k x e left scalar both = absurd (let f : is_file k ≡ true = ap is_file (both refl) in cc)
given_takes v Output k x e left scalar both = absurd (let f : false ≡ true = left ∙ ap not scalar in cc)

out_takes : (y : Arg) (d : Dir) (k : ParamKind) (x : Arg) → Some y ≡ Some x → takes y ≡ true → true ≡ (is_out d && not (is_file k)) → takes x ≡ is_output d
out_takes y Input k x e t left = absurd cc
out_takes y Both k x e t left = absurd cc
out_takes y Output k x e t left = let is : y ≡ x = cc in ap takes (sym is) ∙ t

scalar_kind : (p : Param) (a : CallArg) (k : ParamKind) → FitsParam p a → is_file k ≡ false → k ≡ p.kind → is_file p.kind ≡ false
scalar_kind p a k fits e same = ap is_file (sym same) ∙ e

takes_output : (files : Files) (p : Param) (a : CallArg) (x : Arg) → given files p a ≡ Some x → FitsParam p a → FileBoth p → takes x ≡ is_output p.dir
takes_output files p (arg.File name) x e fits both = file_takes p.dir (files name) x e
takes_output files p (arg.Int v) x e fits both = given_takes _ p.dir p.kind x e fits.left (ap is_file (sym fits.kind)) both
takes_output files p (arg.Str s) x e fits both = given_takes _ p.dir p.kind x e fits.left (ap is_file (sym fits.kind)) both
takes_output files p arg.OutInt x e fits both = out_takes OutInt p.dir p.kind x e refl fits.left
takes_output files p arg.OutStr x e fits both = out_takes OutStr p.dir p.kind x e refl fits.left

-- ---- what is noted at a place

-- no place before this one is noted
none_before : (ps : List Param) (outs : List Value) (place j : ℕ) → j < place → noted_at (outs_noted place ps outs) j ≡ None
none_before [] outs place j lt = refl
none_before (p ∷ ps) outs place j lt = of_test (λ vs. none_before ps vs (suc place) j (omega arith)) (is_output p.dir) outs
  where
    here : (v : Value) (vs : List Value) → noted_at (outs_noted (suc place) ps vs) j ≡ None → noted_at (record { place = place; v = note_of v } ∷ outs_noted (suc place) ps vs) j ≡ None
    here v vs more = ap (λ (b : Bool). if b then Some (note_of v) else noted_at (outs_noted (suc place) ps vs) j) (ne_eqb place j (λ e. omega arith)) ∙ more

    of_test : ((vs : List Value) → noted_at (outs_noted (suc place) ps vs) j ≡ None) → (b : Bool) (vs : List Value) → noted_at (if b then first_noted place vs (outs_noted (suc place) ps) else outs_noted (suc place) ps vs) j ≡ None
    of_test more true [] = refl
    of_test more true (v ∷ vs) = here v vs (more vs)
    of_test more false vs = more vs

here_noted : (place : ℕ) (v : Note) (outs : List OutNote) → noted_at (record { place = place; v = v } ∷ outs) place ≡ Some v
here_noted place v outs = elim (eqb_tells place place) [ inl same ↦ ap (λ (b : Bool). if b then Some v else noted_at outs place) same.0 | inr other ↦ absurd (other.1 refl) ]

later_noted : (place j : ℕ) (v : Note) (outs : List OutNote) → place < j → noted_at (record { place = place; v = v } ∷ outs) j ≡ noted_at outs j
later_noted place j v outs lt = ap (λ (b : Bool). if b then Some v else noted_at outs j) (ne_eqb place j (λ e. omega arith))

-- what the places from one on give, as it is noted
abbrev Notes : List Param → List Arg → List Value → (place j : ℕ) → Type 0
Notes ps xs outs place j = noted_at (outs_noted place ps outs) (place + j) ≡ option_map note_of (output_at xs outs (suc j))

given_none : (x : Arg) (xs : List Arg) (outs : List Value) → takes x ≡ false → output_at (x ∷ xs) outs 1 ≡ None
given_none (Given v) xs outs t = refl
given_none (both_ways bytes) xs outs t = absurd cc
given_none OutFile xs outs t = absurd cc
given_none OutInt xs outs t = absurd cc
given_none OutStr xs outs t = absurd cc

taken_notes : (p : Param) (ps : List Param) (x : Arg) (xs : List Arg) (outs : List Value) (place j : ℕ) → is_output p.dir ≡ true → takes x ≡ true → fit (x ∷ xs) outs ≡ true
    → ((vs : List Value) (i : ℕ) → fit xs vs ≡ true → Notes ps xs vs (suc place) i) → Notes (p ∷ ps) (x ∷ xs) outs place j
taken_notes p ps x xs outs place j out t f more =
    let h = fit_taken x xs outs t f in
    let start : noted_at (outs_noted place (p ∷ ps) outs) (place + j) ≡ noted_at (record { place = place; v = note_of h.0 } ∷ outs_noted (suc place) ps h.1) (place + j) =
    ap (λ (b : Bool). noted_at (if b then first_noted place outs (outs_noted (suc place) ps) else outs_noted (suc place) ps outs) (place + j)) out ∙ ap (λ (l : List Value). noted_at (first_noted place l (outs_noted (suc place) ps)) (place + j)) h.2 in
    start ∙ by_place j
  where
    by_place : (i : ℕ) → noted_at (record { place = place; v = note_of (fit_taken x xs outs t f).0 } ∷ outs_noted (suc place) ps (fit_taken x xs outs t f).1) (place + i) ≡ option_map note_of (output_at (x ∷ xs) outs (suc i))
    by_place zero =
        let h = fit_taken x xs outs t f in
        let at : place ≡ place + 0 = omega arith in
        ap (λ (i : ℕ). noted_at (record { place = place; v = note_of h.0 } ∷ outs_noted (suc place) ps h.1) i) (sym at) ∙ here_noted place (note_of h.0) (outs_noted (suc place) ps h.1)
        ∙ sym (ap (option_map note_of) (taken_here x xs outs t ∙ ap (λ (l : List Value). slice_get l 0) h.2))
    by_place (suc i) =
        let h = fit_taken x xs outs t f in
        let at : suc place + i ≡ place + suc i = omega arith in
        later_noted place (place + suc i) (note_of h.0) (outs_noted (suc place) ps h.1) (omega arith)
        ∙ ap (λ (n : ℕ). noted_at (outs_noted (suc place) ps h.1) n) (sym at) ∙ more h.1 i h.3
        ∙ sym (ap (option_map note_of) (taken_after x xs outs i t ∙ ap (λ (l : List Value). output_at xs (rest_of l) (suc i)) h.2))

given_notes : (p : Param) (ps : List Param) (x : Arg) (xs : List Arg) (outs : List Value) (place j : ℕ) → is_output p.dir ≡ false → takes x ≡ false → fit (x ∷ xs) outs ≡ true
    → ((i : ℕ) → fit xs outs ≡ true → Notes ps xs outs (suc place) i) → Notes (p ∷ ps) (x ∷ xs) outs place j
given_notes p ps x xs outs place j out t f more =
    ap (λ (b : Bool). noted_at (if b then first_noted place outs (outs_noted (suc place) ps) else outs_noted (suc place) ps outs) (place + j)) out ∙ by_place j
  where
    by_place : (i : ℕ) → noted_at (outs_noted (suc place) ps outs) (place + i) ≡ option_map note_of (output_at (x ∷ xs) outs (suc i))
    by_place zero = none_before ps outs (suc place) (place + 0) (omega arith) ∙ sym (ap (option_map note_of) (given_none x xs outs t))
    by_place (suc i) =
        let at : suc place + i ≡ place + suc i = omega arith in
        ap (λ (n : ℕ). noted_at (outs_noted (suc place) ps outs) n) (sym at) ∙ more i (fit_given x xs outs t f) ∙ sym (ap (option_map note_of) (given_after x xs outs i t))

rule_next : (p : Param) (ps : List Param) → AreFileBoth (p ∷ ps) → AreFileBoth ps
rule_next p ps rule i q e = rule (suc i) q e

none_more : (ps : List Param) (args : List CallArg) (xs : List Arg) → AllGiven ps args xs → args ≡ [] → xs ≡ []
none_more [] args xs all e = all
none_more (p ∷ ps) [] xs all e = all
none_more (p ∷ ps) (a ∷ args) xs all e = absurd cc

no_outs : (qs : List Param) (i j : ℕ) → noted_at (outs_noted i qs []) j ≡ None
no_outs [] i j = refl
no_outs (q ∷ qs) i j = of_test (no_outs qs (suc i) j) (is_output q.dir)
  where
    of_test : noted_at (outs_noted (suc i) qs []) j ≡ None → (b : Bool) → noted_at (if b then [] else outs_noted (suc i) qs []) j ≡ None
    of_test more true = refl
    of_test more false = more

-- past the call's places nothing is given and nothing is noted
ends_notes : (ps : List Param) (outs : List Value) (place j : ℕ) → fit [] outs ≡ true → Notes ps [] outs place j
ends_notes ps [] place j f = no_outs ps place (place + j)
ends_notes ps (v ∷ outs) place j f = absurd cc

place_notes : (ps : List Param) (args : List CallArg) (xs : List Arg) (outs : List Value) (place j : ℕ) → AllGiven ps args xs → AreFit args ps → AreFileBoth ps → fit xs outs ≡ true → Notes ps xs outs place j
place_notes [] args xs outs place j all fits rule f = subst (λ (l : List Arg). Notes [] l outs place j) (sym all) (ends_notes [] outs place j (ap (λ (l : List Arg). fit l outs) (sym all) ∙ f))
place_notes (p ∷ ps) [] xs outs place j all fits rule f = subst (λ (l : List Arg). Notes (p ∷ ps) l outs place j) (sym all) (ends_notes (p ∷ ps) outs place j (ap (λ (l : List Arg). fit l outs) (sym all) ∙ f))
place_notes (p ∷ ps) (a ∷ args) [] outs place j all fits rule f = absurd all
place_notes (p ∷ ps) (a ∷ args) (x ∷ xs) outs place j all fits rule f =
    let same = takes_output all.0.0 p a x all.0.1 fits.0 (rule 0 p refl) in
    of_test (λ vs i g. place_notes ps args xs vs (suc place) i all.1 fits.1 (rule_next p ps rule) g) (is_output p.dir) refl same
  where
    of_test : ((vs : List Value) (i : ℕ) → fit xs vs ≡ true → Notes ps xs vs (suc place) i) → (b : Bool) → is_output p.dir ≡ b → takes x ≡ is_output p.dir → Notes (p ∷ ps) (x ∷ xs) outs place j
    of_test more true out same = taken_notes p ps x xs outs place j out (same ∙ out) f more
    of_test more false out same = given_notes p ps x xs outs place j out (same ∙ out) f (λ i g. more outs i g)

-- ---- a task that is done

rules_params : (ops : List Signature) (op : ℕ) → KeepRules ops → AreFileBoth (params_at ops op)
rules_params ops op rules = of_op (slice_get ops op) refl
  where
    of_op : (o : Option Signature) → slice_get ops op ≡ o → AreFileBoth (params_by o)
    of_op None e i p there = absurd cc
    of_op (Some g) e i p there = (rules.params op g e).files i p there

pub task_notes : (r : Run) (w : World) (n : ℕ) (t : Task) (reads : List (Option Version)) (outs : List Value) (j : ℕ) → KeepRules r.texts.ops → IsTaskOf r w n t reads → t.outs ≡ Some outs
    → noted_at (outs_noted 1 t.params outs) (suc j) ≡ option_map note_of (output_of (Some t) (suc j))
task_notes r w n t reads outs j rules of gave =
    let f = gives_fit r.law (name_at r.texts.ops t.op) t.args outs (sym of.outs ∙ gave) in
    let all : AllGiven t.params t.called f.0 = all_are_given r.files w reads t.params t.called f.0 of.places (sym of.args ∙ f.1) in
    let rule : AreFileBoth t.params = subst AreFileBoth (sym of.params) (rules_params r.texts.ops t.op rules) in
    let at : suc j ≡ 1 + j = omega arith in
    let to : output_of (Some t) (suc j) ≡ output_at f.0 outs (suc j) = ap (λ (o : Option (List Arg)). output_by o t.outs (suc j)) f.1 ∙ ap (λ (o : Option (List Value)). output_by (Some f.0) o (suc j)) gave in
    ap (noted_at (outs_noted 1 t.params outs)) at ∙ place_notes t.params t.called f.0 outs 1 j all of.fit rule f.2 ∙ sym (ap (option_map note_of) to)

-- a row's outputs by a task
pub row_gave : (tables : Tables) (s : Setup) (k : ℕ) (h : History) (n : ℕ) (t : Task) → Holds tables s k h → task_at (world_at s k).tasks n ≡ Some t → row_outs (row_at tables.rows.items n) ≡ option_map (outs_noted 1 t.params) (outs_in h n)
row_gave tables s k h n t holds at =
    let known = tasks_read_versions s.run k n t at in
    let has = holds.rows n t known.0 at known.1 in
    ap row_outs has.at ∙ has.is.outs

-- what is noted of a task at a place, once it is done, is what it gives there
pub noted_output : (tables : Tables) (s : Setup) (k : ℕ) (h : History) (n j : ℕ) (t : Task) (outs : List Value) → Holds tables s k h → task_at (world_at s k).tasks n ≡ Some t → outs_in h n ≡ Some outs
    → noted_in (row_outs (row_at tables.rows.items n)) (suc j) ≡ option_map note_of (output_of (Some t) (suc j))
noted_output tables s k h n j t outs holds at done =
    let known = tasks_read_versions s.run k n t at in
    let gave = done_is_true s k h n t outs holds.good (notes_fit s k holds.fit) at done in
    ap (λ (o : Option (List OutNote)). noted_in o (suc j)) (row_gave tables s k h n t holds at ∙ ap (option_map (outs_noted 1 t.params)) done)
    ∙ task_notes s.run (world_at s k) n t known.0 outs j holds.rules known.2 gave

-- nothing is noted of a task that isn't done
pub noted_none : (tables : Tables) (s : Setup) (k : ℕ) (h : History) (n place : ℕ) (t : Task) → Holds tables s k h → task_at (world_at s k).tasks n ≡ Some t → outs_in h n ≡ None → noted_in (row_outs (row_at tables.rows.items n)) place ≡ None
noted_none tables s k h n place t holds at none = ap (λ (o : Option (List OutNote)). noted_in o place) (row_gave tables s k h n t holds at ∙ ap (option_map (outs_noted 1 t.params)) none)
