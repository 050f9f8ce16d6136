-- Calls place by place.
use Rattle.std.proofs.Common.{◌≡◌, ◌<◌, ◌≤◌, ◌+◌, ℕ, zero, suc, Bool, true, false, refl, sym, ap, ◌∙◌, List, [], ◌∷◌, ◌++◌, length, take, drop, arith, Option, Some, None, if◌then◌else◌}
use Rattle.std.specs.Prelude.{min}
use Rattle.std.specs.List.{slice_get}
use Rattle.gs_idl.specs.Interface.{Param, reads_file, writes_file}
use Rattle.gs_types.specs.declared.note.Version.{Version}
use Rattle.gs_types.specs.declared.note.Version.TheVariants.{Out}
use Rattle.gs_names.specs.Writes.{Write}
use Rattle.gs_talk.specs.declared.question.CallArg.{CallArg}
use Rattle.gs_talk.specs.declared.question.CallArg.TheVariants.{File, Int, Str, OutInt, OutStr}
use Rattle.gs_talk.specs.Actions.{cons_if, names_where}
use Rattle.gs_talk_laws.specs.Versions.{Written, written_at, written_by}
use Rattle.gs_looks.specs.Judgement.{read_at_with, read_with, reads_at}
use Rattle.gs_tables.specs.Marks.{file_test, takes, names_one, writes_at}
use Rattle.gs_tables.specs.Written.{written_back, written_one}

some_same : {A : Type 0} (a b : A) → ◌≡◌ {A = Option A} (Some a) (Some b) → a ≡ b
some_same a b e = cc

-- ---- what is read

pub reads_next : (version : List ℕ → Version) (i : ℕ) (ps : List Param) (args : List CallArg) (a : CallArg) → i < length ps → slice_get args i ≡ Some a
    → read_with version (take (suc i) ps) (take (suc i) args) ≡ read_with version (take i ps) (take i args) ++ read_at_with version (reads_at ps i) a ∷ []
reads_next version i [] args a lt e = absurd (omega arith)
reads_next version i (p ∷ ps) [] a lt e = absurd cc
reads_next version zero (p ∷ ps) (x ∷ args) a lt e = let same = some_same x a e in ap (λ (y : CallArg). read_at_with version (reads_file p) y ∷ []) same
reads_next version (suc i) (p ∷ ps) (x ∷ args) a lt e = ap (λ (l : List (Option Version)). read_at_with version (reads_file p) x ∷ l) (reads_next version i ps args a (omega arith) e)

pub reads_all : (version : List ℕ → Version) (m : ℕ) (ps : List Param) (args : List CallArg) → min (length args) (length ps) ≤ m → read_with version (take m ps) (take m args) ≡ read_with version ps args
reads_all version zero [] args le = refl
reads_all version (suc m) [] args le = refl
reads_all version zero (p ∷ ps) [] le = refl
reads_all version (suc m) (p ∷ ps) [] le = refl
reads_all version zero (p ∷ ps) (a ∷ args) le = absurd (omega arith)
reads_all version (suc m) (p ∷ ps) (a ∷ args) le = ap (λ (l : List (Option Version)). read_at_with version (reads_file p) a ∷ l) (reads_all version m ps args (omega arith))

-- ---- the names of files

one_name : (b : Bool) (name : List ℕ) → cons_if b name [] ≡ names_one b (File name)
one_name true name = refl
one_name false name = refl

behind : (b : Bool) (name : List ℕ) (xs ys : List (List ℕ)) → cons_if b name (xs ++ ys) ≡ cons_if b name xs ++ ys
behind true name xs ys = refl
behind false name xs ys = refl

takes_is : (reads : Bool) (p : Param) (ps : List Param) → takes reads (p ∷ ps) 0 ≡ file_test reads p
takes_is true p ps = refl
takes_is false p ps = refl

takes_next : (reads : Bool) (p : Param) (ps : List Param) (i : ℕ) → takes reads (p ∷ ps) (suc i) ≡ takes reads ps i
takes_next true p ps i = refl
takes_next false p ps i = refl

first_name : (test : Param → Bool) (p : Param) (a : CallArg) → names_where test (p ∷ []) (a ∷ []) ≡ names_one (test p) a
first_name test p (File name) = one_name (test p) name
first_name test p (Int v) = refl
first_name test p (Str s) = refl
first_name test p OutInt = refl
first_name test p OutStr = refl

name_first : (test : Param → Bool) (p : Param) (ps : List Param) (x : CallArg) (args : List CallArg) (ys zs : List (List ℕ)) → names_where test ps args ≡ ys ++ zs
    → (more : List Param) (rest : List CallArg) → names_where test more rest ≡ ys → names_where test (p ∷ ps) (x ∷ args) ≡ names_where test (p ∷ more) (x ∷ rest) ++ zs
name_first test p ps (File name) args ys zs e more rest f = ap (cons_if (test p) name) e ∙ behind (test p) name ys zs ∙ ap (λ (l : List (List ℕ)). cons_if (test p) name l ++ zs) (sym f)
name_first test p ps (Int v) args ys zs e more rest f = e ∙ ap (λ (l : List (List ℕ)). l ++ zs) (sym f)
name_first test p ps (Str s) args ys zs e more rest f = e ∙ ap (λ (l : List (List ℕ)). l ++ zs) (sym f)
name_first test p ps OutInt args ys zs e more rest f = e ∙ ap (λ (l : List (List ℕ)). l ++ zs) (sym f)
name_first test p ps OutStr args ys zs e more rest f = e ∙ ap (λ (l : List (List ℕ)). l ++ zs) (sym f)

pub names_next : (reads : Bool) (i : ℕ) (ps : List Param) (args : List CallArg) (a : CallArg) → i < length ps → slice_get args i ≡ Some a
    → names_where (file_test reads) (take (suc i) ps) (take (suc i) args) ≡ names_where (file_test reads) (take i ps) (take i args) ++ names_one (takes reads ps i) a
names_next reads i [] args a lt e = absurd (omega arith)
names_next reads i (p ∷ ps) [] a lt e = absurd cc
names_next reads zero (p ∷ ps) (x ∷ args) a lt e = first_name (file_test reads) p x ∙ ap (names_one (file_test reads p)) (some_same x a e) ∙ ap (λ (b : Bool). names_one b a) (sym (takes_is reads p ps))
names_next reads (suc i) (p ∷ ps) (x ∷ args) a lt e =
    name_first (file_test reads) p (take (suc i) ps) x (take (suc i) args) (names_where (file_test reads) (take i ps) (take i args)) (names_one (takes reads ps i) a) (names_next reads i ps args a (omega arith) e) (take i ps) (take i args) refl
    ∙ ap (λ (b : Bool). names_where (file_test reads) (p ∷ take i ps) (x ∷ take i args) ++ names_one b a) (sym (takes_next reads p ps i))

name_all : (test : Param → Bool) (p : Param) (ps more : List Param) (x : CallArg) (args rest : List CallArg) → names_where test ps args ≡ names_where test more rest → names_where test (p ∷ ps) (x ∷ args) ≡ names_where test (p ∷ more) (x ∷ rest)
name_all test p ps more (File name) args rest e = ap (cons_if (test p) name) e
name_all test p ps more (Int v) args rest e = e
name_all test p ps more (Str s) args rest e = e
name_all test p ps more OutInt args rest e = e
name_all test p ps more OutStr args rest e = e

pub names_all : (test : Param → Bool) (m : ℕ) (ps : List Param) (args : List CallArg) → min (length args) (length ps) ≤ m → names_where test (take m ps) (take m args) ≡ names_where test ps args
names_all test zero [] args le = refl
names_all test (suc m) [] args le = refl
names_all test zero (p ∷ ps) [] le = refl
names_all test (suc m) (p ∷ ps) [] le = refl
names_all test zero (p ∷ ps) (a ∷ args) le = absurd (omega arith)
names_all test (suc m) (p ∷ ps) (a ∷ args) le = name_all test p (take m ps) ps a (take m args) args (names_all test m ps args (omega arith))

-- ---- what is left

one_written : (n place : ℕ) (p : Param) (a : CallArg) (more : List Written) (ws : List Write) → written_back (written_at n place p a more) ws ≡ written_back more (written_one n place (writes_file p) a ws)
one_written n place p (File name) more ws = of_test (writes_file p)
  where
    of_test : (b : Bool) → written_back (if b then record { name = name; version = Out n place } ∷ more else more) ws ≡ written_back more (written_one n place b (File name) ws)
    of_test true = refl
    of_test false = refl
one_written n place p (Int v) more ws = refl
one_written n place p (Str s) more ws = refl
one_written n place p OutInt more ws = refl
one_written n place p OutStr more ws = refl

pub written_next : (n i place : ℕ) (ps : List Param) (args : List CallArg) (a : CallArg) (ws : List Write) → i < length ps → slice_get args i ≡ Some a
    → written_back (written_by n place (take (suc i) ps) (take (suc i) args)) ws ≡ written_one n (place + i) (writes_at ps i) a (written_back (written_by n place (take i ps) (take i args)) ws)
written_next n i place [] args a ws lt e = absurd (omega arith)
written_next n i place (p ∷ ps) [] a ws lt e = absurd cc
written_next n zero place (p ∷ ps) (x ∷ args) a ws lt e =
    let at : place ≡ place + 0 = omega arith in
    one_written n place p x [] ws ∙ ap (λ (y : CallArg). written_one n place (writes_file p) y ws) (some_same x a e) ∙ ap (λ (j : ℕ). written_one n j (writes_file p) a ws) at
written_next n (suc i) place (p ∷ ps) (x ∷ args) a ws lt e =
    let at : suc place + i ≡ place + suc i = omega arith in
    one_written n place p x (written_by n (suc place) (take (suc i) ps) (take (suc i) args)) ws
    ∙ written_next n i (suc place) ps args a (written_one n place (writes_file p) x ws) (omega arith) e
    ∙ ap (written_one n (suc place + i) (writes_at ps i) a) (sym (one_written n place p x (written_by n (suc place) (take i ps) (take i args)) ws))
    ∙ ap (λ (j : ℕ). written_one n j (writes_at ps i) a (written_back (written_at n place p x (written_by n (suc place) (take i ps) (take i args))) ws)) at

at_all : (n place : ℕ) (p : Param) (x : CallArg) (more rest : List Written) → more ≡ rest → written_at n place p x more ≡ written_at n place p x rest
at_all n place p x more rest e = ap (written_at n place p x) e

pub written_all : (n m place : ℕ) (ps : List Param) (args : List CallArg) → min (length args) (length ps) ≤ m → written_by n place (take m ps) (take m args) ≡ written_by n place ps args
written_all n zero place [] args le = refl
written_all n (suc m) place [] args le = refl
written_all n zero place (p ∷ ps) [] le = refl
written_all n (suc m) place (p ∷ ps) [] le = refl
written_all n zero place (p ∷ ps) (a ∷ args) le = absurd (omega arith)
written_all n (suc m) place (p ∷ ps) (a ∷ args) le = at_all n place p a (written_by n (suc place) (take m ps) (take m args)) (written_by n (suc place) ps args) (written_all n m (suc place) ps args (omega arith))
