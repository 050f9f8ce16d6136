-- The files of what a task gave are its outputs in the sequential run that are files.
use Rattle.std.proofs.Common.{◌≡◌, ◌<◌, ◌+◌, ◌&&◌, ℕ, zero, suc, Bool, true, false, not, refl, sym, ap, ◌∙◌, subst, List, [], ◌∷◌, length, arith, Option, Some, None, if◌then◌else◌, eq-eqb}
use Rattle.std.specs.Prelude.{◌↔◌}
use Rattle.std.specs.List.{zip, slice_get}
use Rattle.std.proofs.lemmas.Bool.{ne_eqb}
use Rattle.gs_idl.specs.Interface.{Param, Signature, KeepRules, params_by, params_at, name_at, is_output, is_out, is_file}
use Rattle.gs_idl.specs.declared.idl.Dir.{Dir}
use Rattle.gs_idl.specs.declared.idl.Dir.TheVariants.{Input, Both, Output}
use Rattle.gs_idl.specs.declared.idl.ParamKind.{ParamKind}
use Rattle.gs_idl.specs.declared.idl.ParamKind.TheVariants as kind
use Rattle.gs_types.specs.declared.note.Version.{Version}
use Rattle.gs_types.specs.declared.value.Value.{Value}
use Rattle.gs_types.specs.declared.value.Value.TheVariants as value
use Rattle.gs_types.specs.declared.job.Arg.{Arg}
use Rattle.gs_types.specs.declared.job.Arg.TheVariants.{Given, Both as both_ways, OutFile, OutInt, OutStr}
use Rattle.gs_talk.specs.declared.question.CallArg.{CallArg}
use Rattle.gs_talk.specs.declared.question.CallArg.TheVariants as arg
use Rattle.gs_talk.specs.Seq.{Run, World, Files, Task, given, fit, output_at, output_by, output_of, rest_of}
use Rattle.gs_talk_laws.specs.Uses.{FitsParam, AreFit}
use Rattle.gs_talk_laws.specs.Versions.{content_by, all_given_by, IsTaskOf}
use Rattle.gs_talk_laws.proofs.Outputs.{takes, file_takes, fit_taken, fit_given, taken_here, taken_after, given_after, both_given}
use Rattle.gs_talk_laws.proofs.Renaming.{gives_fit}
use Rattle.gs_keep.specs.Given.{Placed, PlacedFile, output_places, placed, file_first, files_in, file_at}

-- ---- what stands at the places

-- what stands at a place, by some files
abbrev AllGiven : List Param → List CallArg → List Arg → Type 0
AllGiven [] args xs = xs ≡ []
AllGiven (p ∷ ps) [] xs = xs ≡ []
AllGiven (p ∷ ps) (a ∷ args) [] = ⊥
AllGiven (p ∷ ps) (a ∷ args) (x ∷ xs) = ((files : Files) × (given files p a ≡ Some x))
    × AllGiven ps args xs

none_some : (xs : List Arg) → ◌≡◌ {A = Option (List Arg)} (Some []) (Some xs) → xs ≡ []
none_some xs e = cc

all_are_given : (first : Files) (w : World) (reads : List (Option Version)) (ps : List Param)
    (args : List CallArg) (xs : List Arg) → length reads ≡ length args
    → all_given_by first w reads ps args ≡ Some xs → AllGiven ps args xs
all_are_given first w [] [] args xs many e = none_some xs e
all_are_given first w [] (p ∷ ps) [] xs many e = none_some xs e
all_are_given first w [] (p ∷ ps) (a ∷ args) xs many e = absurd (omega arith)
all_are_given first w (o ∷ reads) [] args xs many e = none_some xs e
all_are_given first w (o ∷ reads) (p ∷ ps) [] xs many e = none_some xs e
all_are_given first w (o ∷ reads) (p ∷ ps) (a ∷ args) xs many e =
    let parts = both_given (given (λ name. content_by first w o) p a)
    (all_given_by first w reads ps args) xs e in
    subst (λ (ys : List Arg). AllGiven (p ∷ ps) (a ∷ args) ys) parts.4 (
      ((λ name. content_by first w o), parts.2),
      all_are_given first w reads ps args parts.1 (omega arith) parts.3,
    )

-- ---- which places give something

-- an `inout` parameter is a file
abbrev FileBoth : Param → Type 0
FileBoth p = p.dir ≡ Both → p.kind ≡ kind.File

abbrev AreFileBoth : List Param → Type 0
AreFileBoth ps = (i : ℕ) (p : Param) → slice_get ps i ≡ Some p → FileBoth p

given_takes : (v : Value) (d : Dir) (k : ParamKind) (x : Arg) → Some (Given v) ≡ Some x
    → false ≡ (is_out d && not (is_file k)) → is_file k ≡ false → (d ≡ Both → k ≡ kind.File)
    → takes x ≡ is_output d
given_takes v Input k x e left scalar both = let is : Given v ≡ x = cc in ap takes (sym is)
given_takes v Both k x e left scalar both =
    absurd (let f : is_file k ≡ true = ap is_file (both refl) in cc)
given_takes v Output k x e left scalar both =
    absurd (let f : false ≡ true = left ∙ ap not scalar in cc)

out_takes : (y : Arg) (d : Dir) (k : ParamKind) (x : Arg) → Some y ≡ Some x → takes y ≡ true
    → true ≡ (is_out d && not (is_file k)) → takes x ≡ is_output d
out_takes y Input k x e t left = absurd cc
out_takes y Both k x e t left = absurd cc
out_takes y Output k x e t left = let is : y ≡ x = cc in ap takes (sym is) ∙ t

takes_output : (files : Files) (p : Param) (a : CallArg) (x : Arg) → given files p a ≡ Some x
    → FitsParam p a → FileBoth p → takes x ≡ is_output p.dir
takes_output files p (arg.File name) x e fits both = file_takes p.dir (files name) x e
takes_output files p (arg.Int v) x e fits both =
    given_takes _ p.dir p.kind x e fits.left (ap is_file (sym fits.kind)) both
takes_output files p (arg.Str s) x e fits both =
    given_takes _ p.dir p.kind x e fits.left (ap is_file (sym fits.kind)) both
takes_output files p arg.OutInt x e fits both = out_takes OutInt p.dir p.kind x e refl fits.left
takes_output files p arg.OutStr x e fits both = out_takes OutStr p.dir p.kind x e refl fits.left

-- ---- the file at a place

abbrev file_of : Option Value → Option (List ℕ)
file_of None = None
file_of (Some (value.File bytes)) = Some bytes
file_of (Some (value.Int v)) = None
file_of (Some (value.Str s)) = None

-- the files that the places from one on give
abbrev given_files : (place : ℕ) → List Param → List Value → List PlacedFile
given_files place ps vs = files_in (zip (output_places place ps) vs)

none_first : (place j : ℕ) (v : Value) (fs : List PlacedFile) → j < place
    → file_at fs j ≡ None → file_at (file_first place v fs) j ≡ None
none_first place j (value.File bytes) fs lt none =
    ap (λ (b : Bool). if b then Some bytes else file_at fs j) (ne_eqb place j (λ e. omega arith))
    ∙ none
none_first place j (value.Int v) fs lt none = none
none_first place j (value.Str s) fs lt none = none

-- no place before this one gives a file
none_before : (ps : List Param) (vs : List Value) (place j : ℕ) → j < place
    → file_at (given_files place ps vs) j ≡ None
none_before [] vs place j lt = refl
none_before (p ∷ ps) vs place j lt =
    of_test (λ us. none_before ps us (suc place) j (omega arith)) (is_output p.dir) vs
  where
    of_test : ((us : List Value) → file_at (given_files (suc place) ps us) j ≡ None) → (b : Bool)
        → (us : List Value)
        → file_at (files_in (zip (if b then place ∷ output_places (suc place) ps
        else output_places (suc place) ps) us)) j ≡ None
    of_test more true [] = refl
    of_test more true (v ∷ us) =
        none_first place j v (given_files (suc place) ps us) lt (more us)
    of_test more false us = more us

here_file : (place : ℕ) (v : Value) (fs : List PlacedFile) → file_at fs place ≡ None
    → file_at (file_first place v fs) place ≡ file_of (Some v)
here_file place (value.File bytes) fs none =
    ap (λ (b : Bool). if b then Some bytes else file_at fs place) (eq-eqb place place refl)
here_file place (value.Int v) fs none = none
here_file place (value.Str s) fs none = none

later_file : (place j : ℕ) (v : Value) (fs : List PlacedFile) → place < j
    → file_at (file_first place v fs) j ≡ file_at fs j
later_file place j (value.File bytes) fs lt =
    ap (λ (b : Bool). if b then Some bytes else file_at fs j) (ne_eqb place j (λ e. omega arith))
later_file place j (value.Int v) fs lt = refl
later_file place j (value.Str s) fs lt = refl

-- the files of the places from one on are the outputs there that are files
abbrev Gives : List Param → List Arg → List Value → (place j : ℕ) → Type 0
Gives ps xs outs place j = file_at (given_files place ps outs) (place + j)
    ≡ file_of (output_at xs outs (suc j))

taken_files : (p : Param) (ps : List Param) (x : Arg) (xs : List Arg) (outs : List Value)
    (place j : ℕ) → is_output p.dir ≡ true → takes x ≡ true → fit (x ∷ xs) outs ≡ true
    → ((vs : List Value) (i : ℕ) → fit xs vs ≡ true → Gives ps xs vs (suc place) i)
    → Gives (p ∷ ps) (x ∷ xs) outs place j
taken_files p ps x xs outs place j out t f more =
    let h = fit_taken x xs outs t f in
    let start : file_at (given_files place (p ∷ ps) outs) (place + j)
    ≡ file_at (file_first place h.0 (given_files (suc place) ps h.1)) (place + j) =
    ap (λ (b : Bool). file_at (files_in (zip (if b then place ∷ output_places (suc place) ps
    else output_places (suc place) ps) outs)) (place + j)) out
    ∙ ap (λ (l : List Value). file_at (files_in (zip (place ∷ output_places (suc place) ps) l))
    (place + j)) h.2 in
    start ∙ by_place j
  where
    by_place : (i : ℕ) → file_at (file_first place (fit_taken x xs outs t f).0
        (given_files (suc place) ps (fit_taken x xs outs t f).1)) (place + i)
        ≡ file_of (output_at (x ∷ xs) outs (suc i))
    by_place zero =
        let h = fit_taken x xs outs t f in
        let fs = given_files (suc place) ps h.1 in
        let at : place ≡ place + 0 = omega arith in
        ap (λ (i : ℕ). file_at (file_first place h.0 fs) i) (sym at)
        ∙ here_file place h.0 fs (none_before ps h.1 (suc place) place (omega arith))
        ∙ sym (ap file_of (taken_here x xs outs t ∙ ap (λ (l : List Value). slice_get l 0) h.2))
    by_place (suc i) =
        let h = fit_taken x xs outs t f in
        let fs = given_files (suc place) ps h.1 in
        let at : suc place + i ≡ place + suc i = omega arith in
        later_file place (place + suc i) h.0 fs (omega arith)
        ∙ ap (λ (n : ℕ). file_at fs n) (sym at) ∙ more h.1 i h.3
        ∙ sym (ap file_of (taken_after x xs outs i t
        ∙ ap (λ (l : List Value). output_at xs (rest_of l) (suc i)) h.2))

given_none : (x : Arg) (xs : List Arg) (outs : List Value) → takes x ≡ false
    → output_at (x ∷ xs) outs 1 ≡ None
given_none (Given v) xs outs t = refl
given_none (both_ways bytes) xs outs t = absurd cc
given_none OutFile xs outs t = absurd cc
given_none OutInt xs outs t = absurd cc
given_none OutStr xs outs t = absurd cc

plain_files : (p : Param) (ps : List Param) (x : Arg) (xs : List Arg) (outs : List Value)
    (place j : ℕ) → is_output p.dir ≡ false → takes x ≡ false → fit (x ∷ xs) outs ≡ true
    → ((i : ℕ) → fit xs outs ≡ true → Gives ps xs outs (suc place) i)
    → Gives (p ∷ ps) (x ∷ xs) outs place j
plain_files p ps x xs outs place j out t f more =
    ap (λ (b : Bool). file_at (files_in (zip (if b then place ∷ output_places (suc place) ps
    else output_places (suc place) ps) outs)) (place + j)) out ∙ by_place j
  where
    by_place : (i : ℕ) → file_at (given_files (suc place) ps outs) (place + i)
        ≡ file_of (output_at (x ∷ xs) outs (suc i))
    by_place zero =
        none_before ps outs (suc place) (place + 0) (omega arith)
        ∙ sym (ap file_of (given_none x xs outs t))
    by_place (suc i) =
        let at : suc place + i ≡ place + suc i = omega arith in
        ap (λ (n : ℕ). file_at (given_files (suc place) ps outs) n) (sym at)
        ∙ more i (fit_given x xs outs t f) ∙ sym (ap file_of (given_after x xs outs i t))

rule_next : (p : Param) (ps : List Param) → AreFileBoth (p ∷ ps) → AreFileBoth ps
rule_next p ps rule i q e = rule (suc i) q e

zip_none : (places : List ℕ) → ◌≡◌ {A = List Placed} (zip places []) []
zip_none [] = refl
zip_none (place ∷ places) = refl

-- past the call's places nothing is given
ends_files : (ps : List Param) (outs : List Value) (place j : ℕ) → fit [] outs ≡ true
    → Gives ps [] outs place j
ends_files ps [] place j f = ap (λ (l : List Placed). file_at (files_in l) (place + j))
    (zip_none (output_places place ps))
ends_files ps (v ∷ outs) place j f = absurd cc

place_files : (ps : List Param) (args : List CallArg) (xs : List Arg) (outs : List Value)
    (place j : ℕ) → AllGiven ps args xs → AreFit args ps → AreFileBoth ps → fit xs outs ≡ true
    → Gives ps xs outs place j
place_files [] args xs outs place j all fits rule f =
    subst (λ (l : List Arg). Gives [] l outs place j) (sym all)
    (ends_files [] outs place j (ap (λ (l : List Arg). fit l outs) (sym all) ∙ f))
place_files (p ∷ ps) [] xs outs place j all fits rule f =
    subst (λ (l : List Arg). Gives (p ∷ ps) l outs place j) (sym all)
    (ends_files (p ∷ ps) outs place j (ap (λ (l : List Arg). fit l outs) (sym all) ∙ f))
place_files (p ∷ ps) (a ∷ args) [] outs place j all fits rule f = absurd all
place_files (p ∷ ps) (a ∷ args) (x ∷ xs) outs place j all fits rule f =
    let same = takes_output all.0.0 p a x all.0.1 fits.0 (rule 0 p refl) in
    of_test (λ vs i g. place_files ps args xs vs (suc place) i all.1 fits.1 (rule_next p ps rule) g)
    (is_output p.dir) refl same
  where
    of_test : ((vs : List Value) (i : ℕ) → fit xs vs ≡ true → Gives ps xs vs (suc place) i)
        → (b : Bool) → is_output p.dir ≡ b → takes x ≡ is_output p.dir
        → Gives (p ∷ ps) (x ∷ xs) outs place j
    of_test more true out same = taken_files p ps x xs outs place j out (same ∙ out) f more
    of_test more false out same =
        plain_files p ps x xs outs place j out (same ∙ out) f (λ i g. more outs i g)

-- ---- a task that is done

rules_params : (ops : List Signature) (op : ℕ) → KeepRules ops → AreFileBoth (params_at ops op)
rules_params ops op rules = of_op (slice_get ops op) refl
  where
    of_op : (o : Option Signature) → slice_get ops op ≡ o → AreFileBoth (params_by o)
    of_op None e i p there = absurd cc
    of_op (Some g) e i p there = (rules.params op g e).files i p there

no_place : (xs : List Arg) (outs : List Value) → output_at xs outs 0 ≡ None
no_place [] outs = refl
no_place (x ∷ xs) outs = refl

files_at : (r : Run) (w : World) (n : ℕ) (t : Task) (reads : List (Option Version))
    (outs : List Value) (k : ℕ) → KeepRules r.texts.ops → IsTaskOf r w n t reads
    → t.outs ≡ Some outs
    → file_at (files_in (placed t.params outs)) k ≡ file_of (output_of (Some t) k)
files_at r w n t reads outs k rules of gave =
    let f = gives_fit r.law (name_at r.texts.ops t.op) t.args outs (sym of.outs ∙ gave) in
    let all : AllGiven t.params t.called f.0 =
    all_are_given r.files w reads t.params t.called f.0 of.places (sym of.args ∙ f.1) in
    let rule : AreFileBoth t.params =
    subst AreFileBoth (sym of.params) (rules_params r.texts.ops t.op rules) in
    let to : output_of (Some t) k ≡ output_at f.0 outs k =
    ap (λ (o : Option (List Arg)). output_by o t.outs k) f.1
    ∙ ap (λ (o : Option (List Value)). output_by (Some f.0) o k) gave in
    by_place f.0 all f.2 rule k ∙ sym (ap file_of to)
  where
    by_place : (xs : List Arg) → AllGiven t.params t.called xs → fit xs outs ≡ true
        → AreFileBoth t.params → (k : ℕ)
        → file_at (given_files 1 t.params outs) k ≡ file_of (output_at xs outs k)
    by_place xs all f rule zero =
        none_before t.params outs 1 0 (omega arith) ∙ sym (ap file_of (no_place xs outs))
    by_place xs all f rule (suc j) =
        let at : suc j ≡ 1 + j = omega arith in
        ap (file_at (given_files 1 t.params outs)) at
        ∙ place_files t.params t.called xs outs 1 j all of.fit rule f

of_file : (o : Option Value) (bytes : List ℕ) → file_of o ≡ Some bytes
    → o ≡ Some (value.File bytes)
of_file None bytes e = absurd (cc)
of_file (Some (value.File b)) bytes e = cc
of_file (Some (value.Int v)) bytes e = absurd (cc)
of_file (Some (value.Str s)) bytes e = absurd (cc)

-- a file is at a place exactly where the task gave that file there
pub task_files : (r : Run) (w : World) (n : ℕ) (t : Task) (reads : List (Option Version))
    (outs : List Value) (k : ℕ) (bytes : List ℕ) → KeepRules r.texts.ops
    → IsTaskOf r w n t reads → t.outs ≡ Some outs
    → (file_at (files_in (placed t.params outs)) k ≡ Some bytes)
    ↔ (output_of (Some t) k ≡ Some (value.File bytes))
task_files r w n t reads outs k bytes rules of gave =
    let same = files_at r w n t reads outs k rules of gave in
    (λ e. of_file (output_of (Some t) k) bytes (sym same ∙ e), λ e. same ∙ ap file_of e)
