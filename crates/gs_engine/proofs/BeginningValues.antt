-- What is noted of a task, place by place, is what is noted of each of its outputs.
use Rattle.std.proofs.Common.{◌≡◌, ℕ, suc, ◌&&◌, Bool, true, false, not, List, [], ◌∷◌, length, Option, Some, None, refl, sym, ap, subst, ◌∙◌, arith}
use Rattle.std.specs.Prelude.{map, if◌then◌else◌}
use Rattle.std.specs.List.{slice_get}
use Rattle.gs_idl.specs.Interface.{Param, Signature, KeepRules, params_by, params_at, name_at, is_output, is_out, is_file}
use Rattle.gs_idl.specs.declared.idl.Dir.{Dir}
use Rattle.gs_idl.specs.declared.idl.Dir.TheVariants.{Input, Both, Output}
use Rattle.gs_idl.specs.declared.idl.ParamKind.{ParamKind}
use Rattle.gs_idl.specs.declared.idl.ParamKind.TheVariants as kind
use Rattle.gs_types.specs.declared.note.Note.{Note}
use Rattle.gs_types.specs.declared.note.OutNote.{OutNote}
use Rattle.gs_types.specs.declared.note.Version.{Version}
use Rattle.gs_types.specs.declared.value.Value.{Value}
use Rattle.gs_types.specs.declared.job.Arg.{Arg}
use Rattle.gs_types.specs.declared.job.Arg.TheVariants.{Given, OutInt, OutStr}
use Rattle.gs_talk.specs.declared.question.CallArg.{CallArg}
use Rattle.gs_talk.specs.declared.question.CallArg.TheVariants as arg
use Rattle.gs_talk.specs.Seq.{World, Files, Task, seq, given, fit}
use Rattle.gs_talk_laws.specs.Uses.{FitsParam, AreFit}
use Rattle.gs_talk_laws.specs.Versions.{content_by, all_given_by}
use Rattle.gs_talk_laws.proofs.Outputs.{takes, file_takes, fit_taken, fit_given, both_given}
use Rattle.gs_talk_laws.proofs.Renaming.{gives_fit}
use Rattle.gs_talk_laws.proofs.Stays.{tasks_read_versions}
use Rattle.gs_history.specs.Notes.{note_of}
use Rattle.gs_tables.specs.Outs.{first_noted, outs_noted}
use Rattle.gs_life.specs.Origin.{Origin, run_of, IsOutput}

-- the notes without their places
abbrev pub values_of : List OutNote → List Note
values_of notes = map (λ o. o.v) notes

-- ---- what stands at the places

abbrev pub AllGiven : List Param → List CallArg → List Arg → Type 0
AllGiven [] args xs = xs ≡ []
AllGiven (p ∷ ps) [] xs = xs ≡ []
AllGiven (p ∷ ps) (a ∷ args) [] = ⊥
AllGiven (p ∷ ps) (a ∷ args) (x ∷ xs) = ((files : Files) × (given files p a ≡ Some x))
    × AllGiven ps args xs

none_some : (xs : List Arg) → ◌≡◌ {A = Option (List Arg)} (Some []) (Some xs) → xs ≡ []
none_some xs e = cc

pub all_are_given : (first : Files) (w : World) (reads : List (Option Version)) (ps : List Param)
    (args : List CallArg) (xs : List Arg) → length reads ≡ length args
    → all_given_by first w reads ps args ≡ Some xs → AllGiven ps args xs
all_are_given first w [] [] args xs many e = none_some xs e
all_are_given first w [] (p ∷ ps) [] xs many e = none_some xs e
all_are_given first w [] (p ∷ ps) (a ∷ args) xs many e = absurd (omega arith)
all_are_given first w (o ∷ reads) [] args xs many e = none_some xs e
all_are_given first w (o ∷ reads) (p ∷ ps) [] xs many e = none_some xs e
all_are_given first w (o ∷ reads) (p ∷ ps) (a ∷ args) xs many e =
    let parts = both_given (given (λ name. content_by first w o) p a)
    (all_given_by first w reads ps args) xs e in
    subst (λ (ys : List Arg). AllGiven (p ∷ ps) (a ∷ args) ys) parts.4 (
      ((λ name. content_by first w o), parts.2),
      all_are_given first w reads ps args parts.1 (omega arith) parts.3,
    )

-- ---- which places give something

abbrev pub FileBoth : Param → Type 0
FileBoth p = p.dir ≡ Both → p.kind ≡ kind.File

abbrev pub AreFileBoth : List Param → Type 0
AreFileBoth ps = (i : ℕ) (p : Param) → slice_get ps i ≡ Some p → FileBoth p

given_takes : (v : Value) (d : Dir) (k : ParamKind) (x : Arg) → Some (Given v) ≡ Some x
    → false ≡ (is_out d && not (is_file k)) → is_file k ≡ false → (d ≡ Both → k ≡ kind.File)
    → takes x ≡ is_output d
given_takes v Input k x e left scalar both = let is : Given v ≡ x = cc in ap takes (sym is)
given_takes v Both k x e left scalar both =
    absurd (let f : is_file k ≡ true = ap is_file (both refl) in cc)
given_takes v Output k x e left scalar both =
    absurd (let f : false ≡ true = left ∙ ap not scalar in cc)

out_takes : (y : Arg) (d : Dir) (k : ParamKind) (x : Arg) → Some y ≡ Some x → takes y ≡ true
    → true ≡ (is_out d && not (is_file k)) → takes x ≡ is_output d
out_takes y Input k x e t left = absurd cc
out_takes y Both k x e t left = absurd cc
out_takes y Output k x e t left = let is : y ≡ x = cc in ap takes (sym is) ∙ t

pub takes_output : (files : Files) (p : Param) (a : CallArg) (x : Arg) → given files p a ≡ Some x
    → FitsParam p a → FileBoth p → takes x ≡ is_output p.dir
takes_output files p (arg.File name) x e fits both = file_takes p.dir (files name) x e
takes_output files p (arg.Int v) x e fits both =
    given_takes _ p.dir p.kind x e fits.left (ap is_file (sym fits.kind)) both
takes_output files p (arg.Str s) x e fits both =
    given_takes _ p.dir p.kind x e fits.left (ap is_file (sym fits.kind)) both
takes_output files p arg.OutInt x e fits both = out_takes OutInt p.dir p.kind x e refl fits.left
takes_output files p arg.OutStr x e fits both = out_takes OutStr p.dir p.kind x e refl fits.left

pub rules_params : (ops : List Signature) (op : ℕ) → KeepRules ops → AreFileBoth (params_at ops op)
rules_params ops op rules = of_op (slice_get ops op) refl
  where
    of_op : (o : Option Signature) → slice_get ops op ≡ o → AreFileBoth (params_by o)
    of_op None e i p there = absurd cc
    of_op (Some g) e i p there = (rules.params op g e).files i p there

pub rule_next : (p : Param) (ps : List Param) → AreFileBoth (p ∷ ps) → AreFileBoth ps
rule_next p ps rule i q e = rule (suc i) q e

-- ---- the values in order

none_noted : (place : ℕ) (ps : List Param) → outs_noted place ps [] ≡ []
none_noted place [] = refl
none_noted place (p ∷ ps) = of_test (none_noted (suc place) ps) (is_output p.dir)
  where
    of_test : outs_noted (suc place) ps [] ≡ [] → (b : Bool)
        → (if b then first_noted place [] (outs_noted (suc place) ps)
        else outs_noted (suc place) ps []) ≡ []
    of_test more true = refl
    of_test more false = more

-- without a place nothing is given
no_outs : (xs : List Arg) (outs : List Value) → xs ≡ [] → fit xs outs ≡ true → outs ≡ []
no_outs [] [] none f = refl
no_outs [] (v ∷ outs) none f = absurd cc
no_outs (x ∷ xs) outs none f = absurd cc

none_given : (place : ℕ) (ps : List Param) (xs : List Arg) (outs : List Value) → xs ≡ []
    → fit xs outs ≡ true → values_of (outs_noted place ps outs) ≡ map note_of outs
none_given place ps xs outs none f =
    let no = no_outs xs outs none f in
    ap (λ (l : List Value). values_of (outs_noted place ps l)) no
    ∙ ap values_of (none_noted place ps) ∙ sym (ap (map note_of) no)

values_noted : (place : ℕ) (ps : List Param) (args : List CallArg) (xs : List Arg)
    (outs : List Value) → AllGiven ps args xs → AreFit args ps → AreFileBoth ps
    → fit xs outs ≡ true → values_of (outs_noted place ps outs) ≡ map note_of outs
values_noted place [] args xs outs all fits rule f = none_given place [] xs outs all f
values_noted place (p ∷ ps) [] xs outs all fits rule f = none_given place (p ∷ ps) xs outs all f
values_noted place (p ∷ ps) (a ∷ args) [] outs all fits rule f = absurd all
values_noted place (p ∷ ps) (a ∷ args) (x ∷ xs) outs all fits rule f =
    by_test (λ vs g. values_noted (suc place) ps args xs vs all.1 fits.1 (rule_next p ps rule) g)
    (is_output p.dir) (takes_output all.0.0 p a x all.0.1 fits.0 (rule 0 p refl))
  where
    by_test : ((vs : List Value) → fit xs vs ≡ true
        → values_of (outs_noted (suc place) ps vs) ≡ map note_of vs) → (b : Bool) → takes x ≡ b
        → values_of (if b then first_noted place outs (outs_noted (suc place) ps)
        else outs_noted (suc place) ps outs) ≡ map note_of outs
    by_test more true t =
        let h = fit_taken x xs outs t f in
        ap (λ (l : List Value). values_of (first_noted place l (outs_noted (suc place) ps))) h.2
        ∙ ap (λ (l : List Note). note_of h.0 ∷ l) (more h.1 h.3) ∙ sym (ap (map note_of) h.2)
    by_test more false t = more outs (fit_given x xs outs t f)

-- of a task that gave these outputs
pub values_given : (o : Origin) (n : ℕ) (t : Task) (outs : List Value) → KeepRules o.given.ops
    → IsOutput o n t outs → values_of (outs_noted 1 t.params outs) ≡ map note_of outs
values_given o n t outs rules out =
    let r = run_of o out.fuel in
    let known = tasks_read_versions r out.is.moment n t out.is.is in
    let of = known.2 in
    let f = gives_fit r.law (name_at r.texts.ops t.op) t.args outs (sym of.outs ∙ out.gave) in
    let all : AllGiven t.params t.called f.0 =
    all_are_given r.files (seq r out.is.moment).world known.0 t.params t.called f.0 of.places
    (sym of.args ∙ f.1) in
    let rule : AreFileBoth t.params =
    subst AreFileBoth (sym of.params) (rules_params r.texts.ops t.op rules) in
    values_noted 1 t.params t.called f.0 outs all of.fit rule f.2
