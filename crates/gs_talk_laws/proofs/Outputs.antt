-- The files after a task are what it left at its places.
use Rattle.std.proofs.Common.{◌≡◌, ◌+◌, ◌&&◌, ℕ, suc, Bool, true, false, refl, sym, ap, ◌∙◌, List, [], ◌∷◌, Option, Some, None, arith, slice_get, if◌then◌else◌}
use Rattle.std.specs.Str.{bytes_eq}
use Rattle.gs_idl.specs.Interface.{Param, is_output, is_file, writes_file}
use Rattle.gs_idl.specs.declared.idl.Dir.{Dir}
use Rattle.gs_idl.specs.declared.idl.Dir.TheVariants.{Input, Both, Output}
use Rattle.gs_types.specs.declared.value.Value.{Value}
use Rattle.gs_types.specs.declared.value.Value.TheVariants as value
use Rattle.gs_types.specs.declared.job.Arg.{Arg}
use Rattle.gs_types.specs.declared.job.Arg.TheVariants.{Given, Both as both_ways, OutFile, OutInt, OutStr}
use Rattle.gs_types.specs.declared.note.Version.{Version}
use Rattle.gs_types.specs.declared.note.Version.TheVariants.{Out}
use Rattle.gs_talk.specs.declared.question.CallArg.{CallArg}
use Rattle.gs_talk.specs.declared.question.CallArg.TheVariants as arg
use Rattle.gs_talk.specs.Seq.{Files, Content, Known, Lost, with_file, file_given, given, and_all, all_given, is_file as is_file_value, is_int, is_string, fits_first, fit, content_of, all_lost, set_first, rest_of, all_set, output_at}
use Rattle.gs_talk_laws.specs.Uses.{FitsParam, AreFit}
use Rattle.gs_talk_laws.specs.Versions.{Written, latest_from, written_by, left_by}

-- ---- a lost task

-- what the files hold, by versions
abbrev Holding : Type 0
Holding = Version → Option Content

pub if_same : {A B : Type 0} (f : A → B) (b : Bool) (x y : A) (u v : B) → u ≡ f x → v ≡ f y → (if b then u else v) ≡ f (if b then x else y)
if_same f true x y u v h k = h
if_same f false x y u v h k = k

-- the writings of task n from one place on, behind that of a file at this place
abbrev WrittenBehind : (n place : ℕ) → (name : List ℕ) → Bool → List Written → List Written
WrittenBehind n place name b more = if b then record { name = name; version = Out n place } ∷ more else more

lost_file : (val : Holding) (n place : ℕ) (name x : List ℕ) (ps : List Param) (args : List CallArg) (more : List Written) (files : Files) (v : Version) → Some Lost ≡ val (Out n place) → files x ≡ val v →
    ((files : Files) (v : Version) → files x ≡ val v → all_lost ps args files x ≡ val (latest_from v x more)) →
    (b : Bool) → all_lost ps args (if b then with_file name Lost files else files) x ≡ val (latest_from v x (WrittenBehind n place name b more))
lost_file val n place name x ps args more files v lost e again true =
    again (with_file name Lost files) (if bytes_eq name x then Out n place else v) (if_same val (bytes_eq name x) (Out n place) v (Some Lost) (files x) lost e)
lost_file val n place name x ps args more files v lost e again false = again files v e

pub lost_files : (val : Holding) (n : ℕ) (x : List ℕ) → ((place : ℕ) → Some Lost ≡ val (Out n place)) → (ps : List Param) (args : List CallArg) (place : ℕ) (files : Files) (v : Version) →
    files x ≡ val v → all_lost ps args files x ≡ val (latest_from v x (written_by n place ps args))
lost_files val n x lost [] args place files v e = e
lost_files val n x lost (p ∷ ps) [] place files v e = e
lost_files val n x lost (p ∷ ps) (arg.Int i ∷ args) place files v e = lost_files val n x lost ps args (suc place) files v e
lost_files val n x lost (p ∷ ps) (arg.Str s ∷ args) place files v e = lost_files val n x lost ps args (suc place) files v e
lost_files val n x lost (p ∷ ps) (arg.OutInt ∷ args) place files v e = lost_files val n x lost ps args (suc place) files v e
lost_files val n x lost (p ∷ ps) (arg.OutStr ∷ args) place files v e = lost_files val n x lost ps args (suc place) files v e
lost_files val n x lost (p ∷ ps) (arg.File name ∷ args) place files v e =
    lost_file val n place name x ps args (written_by n (suc place) ps args) files v (lost place) e (lost_files val n x lost ps args (suc place)) (writes_file p)

-- ---- what a place gives

-- an output is taken from the place
abbrev pub takes : Arg → Bool
takes (Given v) = false
takes (both_ways bytes) = true
takes OutFile = true
takes OutInt = true
takes OutStr = true

pub file_takes : (d : Dir) (c : Option Content) (x : Arg) → file_given d c ≡ Some x → takes x ≡ is_output d
file_takes Input None x e = absurd (cc)
file_takes Input (Some (Known bytes)) x e = let is : Given (value.File bytes) ≡ x = cc in ap takes (sym is)
file_takes Input (Some Lost) x e = absurd (cc)
file_takes Both None x e = absurd (cc)
file_takes Both (Some (Known bytes)) x e = let is : both_ways bytes ≡ x = cc in ap takes (sym is)
file_takes Both (Some Lost) x e = absurd (cc)
file_takes Output c x e = let is : OutFile ≡ x = cc in ap takes (sym is)

pub and_true : (b c : Bool) → c ≡ true → (b && c) ≡ b
and_true true c e = e
and_true false c e = refl

-- a file stands at a parameter of a file
pub file_kind : (p : Param) (name : List ℕ) → FitsParam p (arg.File name) → is_file p.kind ≡ true
file_kind p name h = ap is_file (sym h.kind)

pub file_writes : (p : Param) (name : List ℕ) (c : Option Content) (x : Arg) → FitsParam p (arg.File name) → file_given p.dir c ≡ Some x → takes x ≡ writes_file p
file_writes p name c x h e = file_takes p.dir c x e ∙ sym (and_true (is_output p.dir) (is_file p.kind) (file_kind p name h))

-- the kind of what is taken from the place
abbrev pub is_of_kind : Arg → Value → Bool
is_of_kind (Given x) v = false
is_of_kind (both_ways bytes) v = is_file_value v
is_of_kind OutFile v = is_file_value v
is_of_kind OutInt v = is_int v
is_of_kind OutStr v = is_string v

both_true : (b c : Bool) → (b && c) ≡ true → (b ≡ true) × (c ≡ true)
both_true true c e = (refl, e)
both_true false c e = absurd (cc)

first_fits : (test : Value → Bool) (outs : List Value) (rest : List Value → Bool) → fits_first test outs rest ≡ true → (v : Value) × (vs : List Value) × (outs ≡ v ∷ vs) × (rest vs ≡ true) × (test v ≡ true)
first_fits test [] rest e = absurd (cc)
first_fits test (v ∷ outs) rest e = let is = both_true (test v) (rest outs) e in (v, outs, refl, is.1, is.0)

pub fit_taken : (x : Arg) (xs : List Arg) (outs : List Value) → takes x ≡ true → fit (x ∷ xs) outs ≡ true → (v : Value) × (vs : List Value) × (outs ≡ v ∷ vs) × (fit xs vs ≡ true) × (is_of_kind x v ≡ true)
fit_taken (Given v) xs outs t e = absurd (cc)
fit_taken (both_ways bytes) xs outs t e = first_fits is_file_value outs (fit xs) e
fit_taken OutFile xs outs t e = first_fits is_file_value outs (fit xs) e
fit_taken OutInt xs outs t e = first_fits is_int outs (fit xs) e
fit_taken OutStr xs outs t e = first_fits is_string outs (fit xs) e

pub fit_given : (x : Arg) (xs : List Arg) (outs : List Value) → takes x ≡ false → fit (x ∷ xs) outs ≡ true → fit xs outs ≡ true
fit_given (Given v) xs outs t e = e
fit_given (both_ways bytes) xs outs t e = absurd (cc)
fit_given OutFile xs outs t e = absurd (cc)
fit_given OutInt xs outs t e = absurd (cc)
fit_given OutStr xs outs t e = absurd (cc)

pub taken_here : (x : Arg) (xs : List Arg) (outs : List Value) → takes x ≡ true → output_at (x ∷ xs) outs 1 ≡ slice_get outs 0
taken_here (Given v) xs outs t = absurd (cc)
taken_here (both_ways bytes) xs outs t = refl
taken_here OutFile xs outs t = refl
taken_here OutInt xs outs t = refl
taken_here OutStr xs outs t = refl

pub taken_after : (x : Arg) (xs : List Arg) (outs : List Value) (j : ℕ) → takes x ≡ true → output_at (x ∷ xs) outs (suc (suc j)) ≡ output_at xs (rest_of outs) (suc j)
taken_after (Given v) xs outs j t = absurd (cc)
taken_after (both_ways bytes) xs outs j t = refl
taken_after OutFile xs outs j t = refl
taken_after OutInt xs outs j t = refl
taken_after OutStr xs outs j t = refl

pub given_after : (x : Arg) (xs : List Arg) (outs : List Value) (j : ℕ) → takes x ≡ false → output_at (x ∷ xs) outs (suc (suc j)) ≡ output_at xs outs (suc j)
given_after (Given v) xs outs j t = refl
given_after (both_ways bytes) xs outs j t = absurd (cc)
given_after OutFile xs outs j t = absurd (cc)
given_after OutInt xs outs j t = absurd (cc)
given_after OutStr xs outs j t = absurd (cc)

pub both_given : {A : Type 0} (o : Option A) (os : Option (List A)) (xs : List A) → and_all o os ≡ Some xs → (y : A) × (ys : List A) × (o ≡ Some y) × (os ≡ Some ys) × (y ∷ ys ≡ xs)
both_given None os xs e = absurd (cc)
both_given (Some y) None xs e = absurd (cc)
both_given (Some y) (Some ys) xs e = (y, ys, refl, refl, cc)

-- ---- a task that gives

-- from the place on, the outputs of the call are those of the rest
abbrev Rest : (ℕ → Option Value) → (i : ℕ) → List Arg → List Value → Type 0
Rest out i xs outs = (j : ℕ) → out (suc (i + j)) ≡ output_at xs outs (suc j)

rest_given : (out : ℕ → Option Value) (i : ℕ) (x : Arg) (xs : List Arg) (outs : List Value) → takes x ≡ false → Rest out i (x ∷ xs) outs → Rest out (suc i) xs outs
rest_given out i x xs outs t h j = let e : suc (suc i + j) ≡ suc (i + suc j) = omega arith in ap out e ∙ h (suc j) ∙ given_after x xs outs j t

rest_taken : (out : ℕ → Option Value) (i : ℕ) (x : Arg) (xs : List Arg) (outs : List Value) → takes x ≡ true → Rest out i (x ∷ xs) outs → Rest out (suc i) xs (rest_of outs)
rest_taken out i x xs outs t h j = let e : suc (suc i + j) ≡ suc (i + suc j) = omega arith in ap out e ∙ h (suc j) ∙ taken_after x xs outs j t

rest_here : (out : ℕ → Option Value) (i : ℕ) (x : Arg) (xs : List Arg) (outs : List Value) → takes x ≡ true → Rest out i (x ∷ xs) outs → out (suc i) ≡ slice_get outs 0
rest_here out i x xs outs t h = let e : suc i ≡ suc (i + 0) = omega arith in ap out e ∙ h 0 ∙ taken_here x xs outs t

-- what is left of a call that gives these outputs
pub record Left (first : Files) (out : ℕ → Option Value) (i : ℕ) (ps : List Param) (args : List CallArg) (xs : List Arg) (outs : List Value) : Type 0 where
  pub given : all_given first ps args ≡ Some xs
  pub fits : AreFit args ps
  pub fit : fit xs outs ≡ true
  pub rest : Rest out i xs outs

-- what stands at the next place, and what is left behind it
record Next (first : Files) (out : ℕ → Option Value) (i : ℕ) (p : Param) (ps : List Param) (a : CallArg) (args : List CallArg) (outs : List Value) : Type 0 where
  arg : Arg
  is : given first p a ≡ Some arg
  param : FitsParam p a
  others : List Arg
  kept : takes arg ≡ false → Left first out (suc i) ps args others outs
  taken : takes arg ≡ true → (v : Value) × (vs : List Value) × (outs ≡ v ∷ vs) × (out (suc i) ≡ Some v) × Left first out (suc i) ps args others vs

next_taken : (first : Files) (out : ℕ → Option Value) (i : ℕ) (ps : List Param) (args : List CallArg) (y : Arg) (ys : List Arg) (v : Value) (vs : List Value) → all_given first ps args ≡ Some ys → AreFit args ps →
    takes y ≡ true → fit ys vs ≡ true → Rest out i (y ∷ ys) (v ∷ vs) → (out (suc i) ≡ Some v) × Left first out (suc i) ps args ys vs
next_taken first out i ps args y ys v vs given fits t f rest = (rest_here out i y ys (v ∷ vs) t rest, record { given = given; fits = fits; fit = f; rest = rest_taken out i y ys (v ∷ vs) t rest })

next : (first : Files) (out : ℕ → Option Value) (i : ℕ) (p : Param) (ps : List Param) (a : CallArg) (args : List CallArg) (xs : List Arg) (outs : List Value) → Left first out i (p ∷ ps) (a ∷ args) xs outs → Next first out i p ps a args outs
next first out i p ps a args xs outs h =
    let parts = both_given (given first p a) (all_given first ps args) xs h.given in
    let y = parts.0 in
    let ys = parts.1 in
    let fits : fit (y ∷ ys) outs ≡ true = ap (λ l. fit l outs) parts.4 ∙ h.fit in
    let rest : Rest out i (y ∷ ys) outs = λ j. h.rest j ∙ ap (λ l. output_at l outs (suc j)) (sym parts.4) in
    record {
      arg = y;
      is = parts.2;
      param = h.fits.0;
      others = ys;
      kept = λ t. record { given = parts.3; fits = h.fits.1; fit = fit_given y ys outs t fits; rest = rest_given out i y ys outs t rest };
      taken = λ t. let f = fit_taken y ys outs t fits in
          let here = next_taken first out i ps args y ys f.0 f.1 parts.3 h.fits.1 t f.3 (λ j. rest j ∙ ap (λ l. output_at (y ∷ ys) l (suc j)) f.2) in
          (f.0, f.1, f.2, here.0, here.1);
    }

set_file : (val : Holding) (n i : ℕ) (name x : List ℕ) (ps : List Param) (args : List CallArg) (more : List Written) (u : Value) (us : List Value) (files : Files) (v : Version) → Some (content_of u) ≡ val (Out n (suc i)) → files x ≡ val v →
    ((files : Files) (v : Version) → files x ≡ val v → all_set ps args us files x ≡ val (latest_from v x more)) → (outs : List Value) → outs ≡ u ∷ us →
    all_set ps args (rest_of outs) (set_first name outs files) x ≡ val (latest_from v x (record { name = name; version = Out n (suc i) } ∷ more))
set_file val n i name x ps args more u us files v here e again outs is =
    rw is (again (with_file name (content_of u) files) (if bytes_eq name x then Out n (suc i) else v) (if_same val (bytes_eq name x) (Out n (suc i)) v (Some (content_of u)) (files x) here e))

file_set : (val : Holding) (n : ℕ) (x : List ℕ) (out : ℕ → Option Value) → ((place : ℕ) → left_by (out place) ≡ val (Out n place)) →
    (first : Files) (i : ℕ) (p : Param) (ps : List Param) (name : List ℕ) (args : List CallArg) (more : List Written) (outs : List Value) (files : Files) (v : Version) → files x ≡ val v → Next first out i p ps (arg.File name) args outs →
    ((xs : List Arg) (outs : List Value) (files : Files) (v : Version) → Left first out (suc i) ps args xs outs → files x ≡ val v → all_set ps args outs files x ≡ val (latest_from v x more)) →
    (b : Bool) → writes_file p ≡ b →
    (if b then all_set ps args (rest_of outs) (set_first name outs files) else all_set ps args outs files) x ≡ val (latest_from v x (WrittenBehind n (suc i) name b more))
file_set val n x out link first i p ps name args more outs files v e h again true w =
    let t = h.taken (file_writes p name (first name) h.arg h.param h.is ∙ w) in
    set_file val n i name x ps args more t.0 t.1 files v (ap left_by (sym t.3) ∙ link (suc i)) e (λ files v. again h.others t.1 files v t.4) outs t.2
file_set val n x out link first i p ps name args more outs files v e h again false w =
    again h.others outs files v (h.kept (file_writes p name (first name) h.arg h.param h.is ∙ w)) e

-- an output that is no file changes no file
scalar_set : (val : Holding) (x : List ℕ) (out : ℕ → Option Value) (first : Files) (i : ℕ) (p : Param) (ps : List Param) (a : CallArg) (args : List CallArg) (more : List Written) (outs : List Value) (files : Files) (v : Version) → files x ≡ val v →
    (h : Next first out i p ps a args outs) → takes h.arg ≡ true →
    ((xs : List Arg) (outs : List Value) (files : Files) (v : Version) → Left first out (suc i) ps args xs outs → files x ≡ val v → all_set ps args outs files x ≡ val (latest_from v x more)) →
    all_set ps args (rest_of outs) files x ≡ val (latest_from v x more)
scalar_set val x out first i p ps a args more outs files v e h taken again =
    let t = h.taken taken in
    rw t.2 (again h.others t.1 files v t.4 e)

pub arg_takes : (x y : Arg) (b : Bool) → Some x ≡ Some y → takes x ≡ b → takes y ≡ b
arg_takes x y b e h = let is : x ≡ y = cc in ap takes (sym is) ∙ h

pub set_files : (val : Holding) (n : ℕ) (x : List ℕ) (out : ℕ → Option Value) → ((place : ℕ) → left_by (out place) ≡ val (Out n place)) →
    (first : Files) (ps : List Param) (args : List CallArg) (i : ℕ) (xs : List Arg) (outs : List Value) (files : Files) (v : Version) → Left first out i ps args xs outs → files x ≡ val v →
    all_set ps args outs files x ≡ val (latest_from v x (written_by n (suc i) ps args))
set_files val n x out link first [] args i xs outs files v h e = e
set_files val n x out link first (p ∷ ps) [] i xs outs files v h e = e
set_files val n x out link first (p ∷ ps) (arg.Int k ∷ args) i xs outs files v h e =
    let here = next first out i p ps (arg.Int k) args xs outs h in
    set_files val n x out link first ps args (suc i) here.others outs files v (here.kept (arg_takes (Given (value.Int k)) here.arg false here.is refl)) e
set_files val n x out link first (p ∷ ps) (arg.Str s ∷ args) i xs outs files v h e =
    let here = next first out i p ps (arg.Str s) args xs outs h in
    set_files val n x out link first ps args (suc i) here.others outs files v (here.kept (arg_takes (Given (value.Str s)) here.arg false here.is refl)) e
set_files val n x out link first (p ∷ ps) (arg.OutInt ∷ args) i xs outs files v h e =
    let here = next first out i p ps arg.OutInt args xs outs h in
    scalar_set val x out first i p ps arg.OutInt args (written_by n (suc (suc i)) ps args) outs files v e here (arg_takes OutInt here.arg true here.is refl) (set_files val n x out link first ps args (suc i))
set_files val n x out link first (p ∷ ps) (arg.OutStr ∷ args) i xs outs files v h e =
    let here = next first out i p ps arg.OutStr args xs outs h in
    scalar_set val x out first i p ps arg.OutStr args (written_by n (suc (suc i)) ps args) outs files v e here (arg_takes OutStr here.arg true here.is refl) (set_files val n x out link first ps args (suc i))
set_files val n x out link first (p ∷ ps) (arg.File name ∷ args) i xs outs files v h e =
    file_set val n x out link first i p ps name args (written_by n (suc (suc i)) ps args) outs files v e (next first out i p ps (arg.File name) args xs outs h) (set_files val n x out link first ps args (suc i)) (writes_file p) refl
