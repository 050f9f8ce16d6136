-- A task that isn't lost gives a value at each place that takes one.
use Rattle.std.proofs.Common.{◌≡◌, ℕ, zero, suc, Bool, true, false, refl, sym, ap, ap₂, ◌∙◌, subst, List, [], ◌∷◌, length, Option, Some, None, arith, slice_get}
use Rattle.gs_idl.specs.Interface.{Param, name_at, writes_file}
use Rattle.gs_idl.specs.declared.idl.Dir.{Dir}
use Rattle.gs_idl.specs.declared.idl.Dir.TheVariants.{Input, Both, Output}
use Rattle.gs_types.specs.declared.value.Value.{Value}
use Rattle.gs_types.specs.declared.value.Value.TheVariants as value
use Rattle.gs_types.specs.declared.job.Arg.{Arg}
use Rattle.gs_types.specs.declared.job.Arg.TheVariants.{Given, Both as both_ways, OutFile, OutInt, OutStr}
use Rattle.gs_types.specs.declared.note.Version.{Version}
use Rattle.gs_talk.specs.declared.question.CallArg.{CallArg}
use Rattle.gs_talk.specs.declared.question.CallArg.TheVariants as arg
use Rattle.gs_talk.specs.Seq.{Run, World, Files, Content, Known, Lost, Task, file_given, given, fit, rest_of, output_at, output_by, output_of, content_of, is_file as is_file_value}
use Rattle.gs_talk_laws.specs.Uses.{is_left, FitsParam, AreFit}
use Rattle.gs_talk_laws.specs.Versions.{content_by, all_given_by, IsTaskOf}
use Rattle.gs_talk_laws.proofs.Outputs.{takes, is_of_kind, fit_taken, fit_given, taken_here, taken_after, given_after, both_given, arg_takes, file_writes}
use Rattle.gs_talk_laws.proofs.Renaming.{gives_fit}

-- what stands at a place, by some files
abbrev IsGiven : Param → CallArg → Arg → Type 0
IsGiven p a x = (files : Files) × (given files p a ≡ Some x)

abbrev AllGiven : List Param → List CallArg → List Arg → Type 0
AllGiven [] args xs = xs ≡ []
AllGiven (p ∷ ps) [] xs = xs ≡ []
AllGiven (p ∷ ps) (a ∷ args) [] = ⊥
AllGiven (p ∷ ps) (a ∷ args) (x ∷ xs) = IsGiven p a x × AllGiven ps args xs

none_some : (xs : List Arg) → ◌≡◌ {A = Option (List Arg)} (Some []) (Some xs) → xs ≡ []
none_some xs e = cc

all_are_given : (first : Files) (w : World) (reads : List (Option Version)) (ps : List Param) (args : List CallArg) (xs : List Arg) → length reads ≡ length args → all_given_by first w reads ps args ≡ Some xs → AllGiven ps args xs
all_are_given first w [] [] args xs many e = none_some xs e
all_are_given first w [] (p ∷ ps) [] xs many e = none_some xs e
all_are_given first w [] (p ∷ ps) (a ∷ args) xs many e = absurd (omega arith)
all_are_given first w (o ∷ reads) [] args xs many e = none_some xs e
all_are_given first w (o ∷ reads) (p ∷ ps) [] xs many e = none_some xs e
all_are_given first w (o ∷ reads) (p ∷ ps) (a ∷ args) xs many e =
    let parts = both_given (given (λ name. content_by first w o) p a) (all_given_by first w reads ps args) xs e in
    subst (λ (ys : List Arg). AllGiven (p ∷ ps) (a ∷ args) ys) parts.4 (((λ name. content_by first w o), parts.2), all_are_given first w reads ps args parts.1 (omega arith) parts.3)

-- at a place of a call
pub record Place (ps : List Param) (a : CallArg) (xs : List Arg) (outs : List Value) (j : ℕ) : Type 0 where
  pub param : Param
  pub arg : Arg
  pub files : Files
  pub takes_it : slice_get ps j ≡ Some param
  pub is : given files param a ≡ Some arg
  pub fits : FitsParam param a
  pub gives : takes arg ≡ true → (v : Value) × (output_at xs outs (suc j) ≡ Some v) × (is_of_kind arg v ≡ true)

some_same : (a b : CallArg) → ◌≡◌ {A = Option CallArg} (Some a) (Some b) → a ≡ b
some_same a b e = cc

first_gives : (x : Arg) (xs : List Arg) (outs : List Value) → fit (x ∷ xs) outs ≡ true → takes x ≡ true → (v : Value) × (output_at (x ∷ xs) outs 1 ≡ Some v) × (is_of_kind x v ≡ true)
first_gives x xs outs f t = let h = fit_taken x xs outs t f in (h.0, taken_here x xs outs t ∙ ap (λ l. slice_get l 0) h.2, h.4)

first_place : (p : Param) (ps : List Param) (b a : CallArg) (x : Arg) (xs : List Arg) (outs : List Value) → IsGiven p b x → FitsParam p b → fit (x ∷ xs) outs ≡ true → b ≡ a → Place (p ∷ ps) a (x ∷ xs) outs 0
first_place p ps b a x xs outs h fits f e = record {
  param = p;
  arg = x;
  files = h.0;
  takes_it = refl;
  is = ap (given h.0 p) (sym e) ∙ h.1;
  fits = subst (FitsParam p) e fits;
  gives = first_gives x xs outs f;
}

later_place : (p : Param) (ps : List Param) (a : CallArg) (x : Arg) (xs : List Arg) (outs vs : List Value) (j : ℕ) → output_at (x ∷ xs) outs (suc (suc j)) ≡ output_at xs vs (suc j) → Place ps a xs vs j → Place (p ∷ ps) a (x ∷ xs) outs (suc j)
later_place p ps a x xs outs vs j e h = record {
  param = h.param;
  arg = h.arg;
  files = h.files;
  takes_it = h.takes_it;
  is = h.is;
  fits = h.fits;
  gives = λ t. let g = h.gives t in (g.0, e ∙ g.1, g.2);
}

next_place : (p : Param) (ps : List Param) (a : CallArg) (x : Arg) (xs : List Arg) (outs : List Value) (j : ℕ) → fit (x ∷ xs) outs ≡ true → ((vs : List Value) → fit xs vs ≡ true → Place ps a xs vs j) →
    (b : Bool) → takes x ≡ b → Place (p ∷ ps) a (x ∷ xs) outs (suc j)
next_place p ps a x xs outs j f again true t =
    let h = fit_taken x xs outs t f in
    later_place p ps a x xs outs h.1 j (taken_after x xs outs j t ∙ ap (λ l. output_at xs (rest_of l) (suc j)) h.2) (again h.1 h.3)
next_place p ps a x xs outs j f again false t = later_place p ps a x xs outs outs j (given_after x xs outs j t) (again outs (fit_given x xs outs t f))

place_at : (j : ℕ) (ps : List Param) (args : List CallArg) (xs : List Arg) (a : CallArg) (outs : List Value) → AllGiven ps args xs → AreFit args ps → slice_get args j ≡ Some a → fit xs outs ≡ true → Place ps a xs outs j
place_at j [] [] xs a outs h fits e f = absurd (cc)
place_at j [] (b ∷ args) xs a outs h fits e f = absurd fits
place_at j (p ∷ ps) [] xs a outs h fits e f = absurd (cc)
place_at j (p ∷ ps) (b ∷ args) [] a outs h fits e f = absurd h
place_at zero (p ∷ ps) (b ∷ args) (x ∷ xs) a outs h fits e f = first_place p ps b a x xs outs h.0 fits.0 f (some_same b a e)
place_at (suc j) (p ∷ ps) (b ∷ args) (x ∷ xs) a outs h fits e f = next_place p ps a x xs outs j f (λ vs g. place_at j ps args xs a vs h.1 fits.1 e g) (takes x) refl

-- ---- a task

-- a task that isn't lost, at one of its places
pub record TaskPlace (t : Task) (a : CallArg) (j : ℕ) : Type 0 where
  pub args : List Arg
  pub outs : List Value
  pub given : t.args ≡ Some args
  pub gave : t.outs ≡ Some outs
  pub place : Place t.params a args outs j

pub task_place : (r : Run) (w : World) (n : ℕ) (t : Task) (reads : List (Option Version)) (j : ℕ) (a : CallArg) (outs : List Value) → IsTaskOf r w n t reads → slice_get t.called j ≡ Some a → t.outs ≡ Some outs → TaskPlace t a j
task_place r w n t reads j a outs h e gave =
    let f = gives_fit r.law (name_at r.texts.ops t.op) t.args outs (sym h.outs ∙ gave) in
    let all : AllGiven t.params t.called f.0 = all_are_given r.files w reads t.params t.called f.0 h.places (sym h.args ∙ f.1) in
    record {
      args = f.0;
      outs = outs;
      given = f.1;
      gave = gave;
      place = place_at j t.params t.called f.0 a outs all h.fit e f.2;
    }

pub task_output : (t : Task) (a : CallArg) (j : ℕ) → (h : TaskPlace t a j) → output_of (Some t) (suc j) ≡ output_at h.args h.outs (suc j)
task_output t a j h = ap₂ (λ x o. output_by x o (suc j)) h.given h.gave

left_takes : (files : Files) (p : Param) (a : CallArg) (x : Arg) → is_left a ≡ true → given files p a ≡ Some x → takes x ≡ true
left_takes files p (arg.File name) x left e = absurd (cc)
left_takes files p (arg.Int k) x left e = absurd (cc)
left_takes files p (arg.Str s) x left e = absurd (cc)
left_takes files p arg.OutInt x left e = arg_takes OutInt x true e refl
left_takes files p arg.OutStr x left e = arg_takes OutStr x true e refl

-- a number or a string is left where one is to be
pub left_value : (t : Task) (a : CallArg) (j : ℕ) → is_left a ≡ true → TaskPlace t a j → (v : Value) × (output_of (Some t) (suc j) ≡ Some v)
left_value t a j left h =
    let p = h.place in
    let g = p.gives (left_takes p.files p.param a p.arg left p.is) in
    (g.0, task_output t a j h ∙ g.1)

file_held : (v : Value) → is_file_value v ≡ true → content_of v ≡ Lost → ⊥
file_held (value.File bytes) e c = cc
file_held (value.Int k) e c = cc
file_held (value.Str s) e c = cc

of_kind : (x y : Arg) (v : Value) → ◌≡◌ {A = Option Arg} (Some x) (Some y) → is_of_kind y v ≡ true → is_of_kind x v ≡ true
of_kind x y v e h = let is : x ≡ y = cc in ap (λ z. is_of_kind z v) is ∙ h

file_gives : (d : Dir) (c : Option Content) (x : Arg) (v : Value) → file_given d c ≡ Some x → is_of_kind x v ≡ true → content_of v ≡ Lost → ⊥
file_gives Input None x v e h = absurd (cc)
file_gives Input (Some Lost) x v e h = absurd (cc)
file_gives Input (Some (Known bytes)) x v e h = absurd (let is = of_kind (Given (value.File bytes)) x v e h in cc)
file_gives Both None x v e h = absurd (cc)
file_gives Both (Some Lost) x v e h = absurd (cc)
file_gives Both (Some (Known bytes)) x v e h = file_held v (of_kind (both_ways bytes) x v e h)
file_gives Output c x v e h = file_held v (of_kind OutFile x v e h)

some_param : (p q : Param) → ◌≡◌ {A = Option Param} (Some p) (Some q) → p ≡ q
some_param p q e = cc

-- a file that isn't lost is left where one is to be
pub left_file : (t : Task) (name : List ℕ) (j : ℕ) (p : Param) → slice_get t.params j ≡ Some p → writes_file p ≡ true → TaskPlace t (arg.File name) j → (v : Value) × (output_of (Some t) (suc j) ≡ Some v) × (content_of v ≡ Lost → ⊥)
left_file t name j p at writes h =
    let place = h.place in
    let same : p ≡ place.param = some_param p place.param (sym at ∙ place.takes_it) in
    let takes_one : takes place.arg ≡ true = file_writes place.param name (place.files name) place.arg place.fits place.is ∙ ap writes_file (sym same) ∙ writes in
    let g = place.gives takes_one in
    (g.0, task_output t (arg.File name) j h ∙ g.1, file_gives place.param.dir (place.files name) place.arg g.0 place.is g.2)
