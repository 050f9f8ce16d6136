-- Each name that is written is among the names of the actions.
use Rattle.std.proofs.Common.{◌≡◌, ◌++◌, ℕ, zero, suc, Bool, true, false, refl, sym, ap, ◌∙◌, List, [], ◌∷◌, map, Option, Some, None, if◌then◌else◌, inl, inr, ◌⊎◌}
use Rattle.std.specs.Prelude.{bytes_eq, ◌||◌}
use Rattle.std.specs.List.{slice_get, list_any}
use Rattle.std.proofs.lemmas.List.{map-append}
use Rattle.std.proofs.lemmas.Slice.Eq.{bytes_eq-Decides}
use Rattle.gs_idl.specs.Interface.{Param, params_at, reads_file, writes_file}
use Rattle.gs_types.specs.declared.note.Version.TheVariants.{Out}
use Rattle.gs_names.specs.Writes.{with_name}
use Rattle.gs_talk.specs.declared.question.CallArg.{CallArg}
use Rattle.gs_talk.specs.declared.question.CallArg.TheVariants as arg
use Rattle.gs_talk.specs.declared.question.Question.{Question}
use Rattle.gs_talk.specs.declared.question.Question.TheVariants as q
use Rattle.gs_talk.specs.declared.question.Answer.{Answer}
use Rattle.gs_talk.specs.Talk.{Dialogue, Done, Ask, Stop}
use Rattle.gs_talk.specs.Seq.{Run, World, seq, first_refused}
use Rattle.gs_talk.specs.Actions.{Act, Call, Write, act_of, acts, acts_by, names_where, cons_if, unless_refused}
use Rattle.gs_talk_laws.specs.Versions.{Written, writings, written_in, written_next, written_by, if_goes}
use Rattle.gs_tables.specs.Gate.{written_names}
use Rattle.gs_tables.specs.Marks.{with_names, named_by, named_from, names_of}
use Rattle.gs_tables.proofs.Numbering.{names_then}

abbrev IsAmong : List ℕ → List (List ℕ) → Type 0
IsAmong x xs = list_any (bytes_eq x) xs ≡ true

-- ---- lists

pub flip_test : (a b : List ℕ) → bytes_eq a b ≡ false → bytes_eq b a ≡ false
flip_test a b e = by_test (bytes_eq b a) refl
  where
    by_test : (t : Bool) → bytes_eq b a ≡ t → t ≡ false
    by_test false f = refl
    by_test true f = let g : bytes_eq a b ≡ true = (bytes_eq-Decides a b).1 (sym ((bytes_eq-Decides b a).0 f)) in let h : false ≡ true = sym e ∙ g in cc

or_not : (b : Bool) → b ≡ false → b || false ≡ true → ⊥
or_not false e h = cc
or_not true e h = cc

any_last : (test : List ℕ → Bool) (xs : List (List ℕ)) (x : List ℕ) → test x ≡ false → list_any test (xs ++ x ∷ []) ≡ true → list_any test xs ≡ true
any_last test [] x other is = absurd (or_not (test x) other is)
any_last test (y ∷ xs) x other is = by_test (test y) (any_last test xs x other) is
  where
    by_test : (b : Bool) → (list_any test (xs ++ x ∷ []) ≡ true → list_any test xs ≡ true) → b || list_any test (xs ++ x ∷ []) ≡ true → b || list_any test xs ≡ true
    by_test true rest h = refl
    by_test false rest h = rest h

pub any_with : (test : List ℕ → Bool) (xs : List (List ℕ)) (x : List ℕ) → test x ≡ false → list_any test (with_name xs x) ≡ true → list_any test xs ≡ true
any_with test xs x other is = by_test (list_any (bytes_eq x) xs) is
  where
    by_test : (b : Bool) → list_any test (if b then xs else xs ++ x ∷ []) ≡ true → list_any test xs ≡ true
    by_test true h = h
    by_test false h = any_last test xs x other h

or_right : (b c : Bool) → c ≡ true → b || c ≡ true
or_right true c e = refl
or_right false c e = e

or_left : (b c : Bool) → b ≡ true → b || c ≡ true
or_left true c e = refl
or_left false c e = absurd cc

pub any_at : (xs : List (List ℕ)) (i : ℕ) (x : List ℕ) → slice_get xs i ≡ Some x → list_any (bytes_eq x) xs ≡ true
any_at [] i x e = absurd cc
any_at (y ∷ xs) zero x e = or_left (bytes_eq x y) (list_any (bytes_eq x) xs) ((bytes_eq-Decides x y).1 cc)
any_at (y ∷ xs) (suc i) x e = or_right (bytes_eq x y) (list_any (bytes_eq x) xs) (any_at xs i x e)

any_left : (test : List ℕ → Bool) (xs ys : List (List ℕ)) → list_any test xs ≡ true → list_any test (xs ++ ys) ≡ true
any_left test [] ys is = absurd cc
any_left test (z ∷ xs) ys is = by_test (test z) (any_left test xs ys) is
  where
    by_test : (b : Bool) → (list_any test xs ≡ true → list_any test (xs ++ ys) ≡ true) → b || list_any test xs ≡ true → b || list_any test (xs ++ ys) ≡ true
    by_test true rest h = refl
    by_test false rest h = rest h

any_right : (test : List ℕ → Bool) (xs ys : List (List ℕ)) → list_any test ys ≡ true → list_any test (xs ++ ys) ≡ true
any_right test [] ys is = is
any_right test (z ∷ xs) ys is = or_right (test z) (list_any test (xs ++ ys)) (any_right test xs ys is)

any_either : (test : List ℕ → Bool) (xs ys : List (List ℕ)) → list_any test (xs ++ ys) ≡ true → (list_any test xs ≡ true) ⊎ (list_any test ys ≡ true)
any_either test [] ys is = inr is
any_either test (z ∷ xs) ys is = by_test (test z) (any_either test xs ys) is
  where
    by_test : (b : Bool) → (list_any test (xs ++ ys) ≡ true → (list_any test xs ≡ true) ⊎ (list_any test ys ≡ true)) → b || list_any test (xs ++ ys) ≡ true → (b || list_any test xs ≡ true) ⊎ (list_any test ys ≡ true)
    by_test true rest h = inl refl
    by_test false rest h = rest h

-- ---- names, each once

keeps_one : (x : List ℕ) (xs : List (List ℕ)) (y : List ℕ) → IsAmong x xs → IsAmong x (with_name xs y)
keeps_one x xs y is = by_test (list_any (bytes_eq y) xs)
  where
    by_test : (b : Bool) → IsAmong x (if b then xs else xs ++ y ∷ [])
    by_test true = is
    by_test false = any_left (bytes_eq x) xs (y ∷ []) is

adds_one : (x : List ℕ) (xs : List (List ℕ)) (y : List ℕ) → bytes_eq x y ≡ true → IsAmong x (with_name xs y)
adds_one x xs y same = by_test (list_any (bytes_eq y) xs) refl
  where
    by_test : (b : Bool) → list_any (bytes_eq y) xs ≡ b → IsAmong x (if b then xs else xs ++ y ∷ [])
    by_test true e = ap (λ (z : List ℕ). list_any (bytes_eq z) xs) ((bytes_eq-Decides x y).0 same) ∙ e
    by_test false e = any_right (bytes_eq x) xs (y ∷ []) (or_left (bytes_eq x y) false same)

keeps_all : (x : List ℕ) (xs ys : List (List ℕ)) → IsAmong x xs → IsAmong x (with_names xs ys)
keeps_all x xs [] is = is
keeps_all x xs (y ∷ ys) is = keeps_all x (with_name xs y) ys (keeps_one x xs y is)

adds_all : (x : List ℕ) (xs ys : List (List ℕ)) → IsAmong x ys → IsAmong x (with_names xs ys)
adds_all x xs [] is = absurd cc
adds_all x xs (y ∷ ys) is = by_test (bytes_eq x y) refl (adds_all x (with_name xs y) ys) is
  where
    by_test : (b : Bool) → bytes_eq x y ≡ b → (IsAmong x ys → IsAmong x (with_names (with_name xs y) ys)) → b || list_any (bytes_eq x) ys ≡ true → IsAmong x (with_names (with_name xs y) ys)
    by_test true e rest h = keeps_all x (with_name xs y) ys (adds_one x xs y e)
    by_test false e rest h = rest h

from_either : (x : List ℕ) (xs ys : List (List ℕ)) → IsAmong x (with_names xs ys) → IsAmong x xs ⊎ IsAmong x ys
from_either x xs [] is = inl is
from_either x xs (y ∷ ys) is = elim (from_either x (with_name xs y) ys is) [
  | inl first ↦ by_test (bytes_eq x y) refl first
  | inr more ↦ inr (or_right (bytes_eq x y) (list_any (bytes_eq x) ys) more)
]
  where
    by_test : (b : Bool) → bytes_eq x y ≡ b → IsAmong x (with_name xs y) → IsAmong x xs ⊎ (bytes_eq x y || list_any (bytes_eq x) ys ≡ true)
    by_test true e h = inr (or_left (bytes_eq x y) (list_any (bytes_eq x) ys) e)
    by_test false e h = inl (any_with (bytes_eq x) xs y e h)

-- ---- the names of actions

keeps_acts : (x : List ℕ) (xs : List (List ℕ)) (more : List Act) → IsAmong x xs → IsAmong x (named_from xs more)
keeps_acts x xs [] is = is
keeps_acts x xs (a ∷ more) is = keeps_acts x (with_names xs (named_by a)) more (keeps_all x xs (named_by a) is)

named_both : (names : List (List ℕ)) (xs ys : List Act) → named_from names (xs ++ ys) ≡ named_from (named_from names xs) ys
named_both names [] ys = refl
named_both names (a ∷ xs) ys = named_both (with_names names (named_by a)) xs ys

stays_named : (x : List ℕ) (xs ys : List Act) → IsAmong x (names_of xs) → IsAmong x (names_of (xs ++ ys))
stays_named x xs ys is = ap (list_any (bytes_eq x)) (named_both [] xs ys) ∙ keeps_acts x (names_of xs) ys is

named_last : (x : List ℕ) (xs : List Act) (a : Act) → IsAmong x (named_by a) → IsAmong x (names_of (xs ++ a ∷ []))
named_last x xs a is = ap (list_any (bytes_eq x)) (names_then xs a) ∙ adds_all x (names_of xs) (named_by a) is

-- ---- what is written is named

abbrev written_name : Written → List ℕ
written_name w = w.name

call_writes : (n place : ℕ) (ps : List Param) (args : List CallArg) → map written_name (written_by n place ps args) ≡ names_where writes_file ps args
call_writes n place [] args = refl
call_writes n place (p ∷ ps) [] = refl
call_writes n place (p ∷ ps) (arg.File name ∷ args) = by_test (writes_file p) (call_writes n (suc place) ps args)
  where
    by_test : (b : Bool) → map written_name (written_by n (suc place) ps args) ≡ names_where writes_file ps args
        → map written_name (if b then (record { name = name; version = Out n place }) ∷ written_by n (suc place) ps args else written_by n (suc place) ps args) ≡ cons_if b name (names_where writes_file ps args)
    by_test true rest = ap (λ (l : List (List ℕ)). name ∷ l) rest
    by_test false rest = rest
call_writes n place (p ∷ ps) (arg.Int v ∷ args) = call_writes n (suc place) ps args
call_writes n place (p ∷ ps) (arg.Str s ∷ args) = call_writes n (suc place) ps args
call_writes n place (p ∷ ps) (arg.OutInt ∷ args) = call_writes n (suc place) ps args
call_writes n place (p ∷ ps) (arg.OutStr ∷ args) = call_writes n (suc place) ps args

call_names : (x : List ℕ) (o : Option Answer) (xs : List Act) (n op : ℕ) (reads writes : List (List ℕ)) (ws : List Written) → map written_name ws ≡ writes
    → IsAmong x (map written_name (if_goes o ws)) → IsAmong x (names_of (xs ++ unless_refused o (Call n op reads writes)))
call_names x None xs n op reads writes ws same is = named_last x xs (Call n op reads writes) (any_right (bytes_eq x) reads writes (ap (list_any (bytes_eq x)) (sym same) ∙ is))
call_names x (Some a) xs n op reads writes ws same is = absurd cc

question_names : (x : List ℕ) (r : Run) (w : World) (xs : List Act) (y : Question) → IsAmong x (map written_name (written_in r.texts.ops w y)) → IsAmong x (names_of (xs ++ act_of r w y))
question_names x r w xs (q.Call op line args) is = let ps = params_at r.texts.ops op in call_names x (first_refused w.files ps args) xs _ op (names_where reads_file ps args) (names_where writes_file ps args) (written_by _ 1 ps args) (call_writes _ 1 ps args) is
question_names x r w xs (q.CloseFile name bytes) is = named_last x xs (Write name) is
question_names x r w xs (q.Use n place) is = absurd cc
question_names x r w xs (q.OpenFile name mode line) is = absurd cc
question_names x r w xs q.Barrier is = absurd cc
question_names x r w xs q.End is = absurd cc
question_names x r w xs (q.Fault line kind) is = absurd cc
question_names x r w xs q.FuelOut is = absurd cc

next_names : (x : List ℕ) (r : Run) (w : World) (xs : List Act) (d : Dialogue) → IsAmong x (map written_name (written_next r w d)) → IsAmong x (names_of (xs ++ acts_by r w d))
next_names x r w xs (Done n st) is = absurd cc
next_names x r w xs (Ask y st next) is = question_names x r w xs y is
next_names x r w xs (Stop y st) is = absurd cc

all_named : (r : Run) (k : ℕ) (x : List ℕ) → IsAmong x (map written_name (writings r k)) → IsAmong x (names_of (acts r k))
unfolding writings acts
all_named r zero x is = absurd cc
all_named r (suc k) x is =
    let more = written_next r (seq r k).world (seq r k).rest in
    elim (any_either (bytes_eq x) (map written_name (writings r k)) (map written_name more) (ap (list_any (bytes_eq x)) (sym (map-append written_name (writings r k) more)) ∙ is)) [
      | inl before ↦ stays_named x (acts r k) (acts_by r (seq r k).world (seq r k).rest) (all_named r k x before)
      | inr last ↦ next_names x r (seq r k).world (acts r k) (seq r k).rest last
    ]

pub is_numbered : (r : Run) (k : ℕ) (x : List ℕ) → list_any (bytes_eq x) (written_names (writings r k)) ≡ true → list_any (bytes_eq x) (names_of (acts r k)) ≡ true
is_numbered r k x is = elim (from_either x [] (map written_name (writings r k)) is) [
  | inl none ↦ absurd cc
  | inr among ↦ all_named r k x among
]
