-- The first note of each task.
use Rattle.std.proofs.Common.{◌≡◌, ◌==◌, ℕ, Bool, true, false, refl, sym, ap, ◌∙◌, List, [], ◌∷◌, ◌++◌, map, nat_eq, Option, Some, None, is_some, if◌then◌else◌, cond, inl, inr}
use Rattle.std.specs.Prelude.{option_map}
use Rattle.std.proofs.lemmas.List.{map-append}
use Rattle.std.proofs.lemmas.Bool.Decides.{eqb_tells, nat_tests}
use Rattle.gs_history.specs.Setup.{Noting}
use Rattle.gs_history.specs.Notes.{note_at}
use Rattle.gs_tables.specs.Noted.{noting_of}
use Rattle.gs_tables.specs.declared.noted.DoneNote.{DoneNote}

abbrev pub or_last : Option Noting → Noting → ℕ → Option Noting
or_last (Some y) x n = Some y
or_last None x n = if x.n == n then Some x else None

at_last : (xs : List Noting) (x : Noting) (n : ℕ) → note_at (xs ++ x ∷ []) n ≡ or_last (note_at xs n) x n
at_last [] x n = refl
at_last (y ∷ xs) x n = of_test (at_last xs x n) (y.n == n)
  where
    of_test : note_at (xs ++ x ∷ []) n ≡ or_last (note_at xs n) x n → (b : Bool) → (if b then Some y else note_at (xs ++ x ∷ []) n) ≡ or_last (if b then Some y else note_at xs n) x n
    of_test e true = refl
    of_test e false = e

pub noted_last : (xs : List DoneNote) (x : DoneNote) (n : ℕ) → note_at (map noting_of (xs ++ x ∷ [])) n ≡ or_last (note_at (map noting_of xs) n) (noting_of x) n
noted_last xs x n = ap (λ (l : List Noting). note_at l n) (map-append noting_of xs (x ∷ [])) ∙ at_last (map noting_of xs) (noting_of x) n

-- one that has a note keeps it
pub kept_last : (o : Option Noting) (x : Noting) (n : ℕ) → (x.n ≡ n → is_some o ≡ true) → or_last o x n ≡ o
kept_last (Some y) x n has = refl
kept_last None x n has = elim (eqb_tells x.n n) [
  | inl same ↦ absurd (let f = has same.1 in cc)
  | inr other ↦ ap (λ (b : Bool). if b then Some x else None) other.0
]

pub put_last : (o : Option Noting) (x : Noting) (n : ℕ) → (x.n ≡ n → o ≡ None) → or_last o x n ≡ (if x.n == n then Some x else o)
put_last None x n none = refl
put_last (Some y) x n none = elim (eqb_tells x.n n) [
  | inl same ↦ absurd (let f = none same.1 in cc)
  | inr other ↦ sym (ap (λ (b : Bool). if b then Some x else Some y) other.0)
]

by_test : (b : Bool) (x : DoneNote) (o : Option DoneNote) → option_map noting_of (cond b (Some x) o) ≡ (if b then Some (noting_of x) else option_map noting_of o)
by_test true x o = refl
by_test false x o = refl

none_noting : (o : Option DoneNote) → is_some o ≡ false → option_map noting_of o ≡ None
none_noting None e = refl
none_noting (Some x) e = absurd cc

some_noting : (o : Option DoneNote) → is_some o ≡ true → is_some (option_map noting_of o) ≡ true
some_noting None e = absurd cc
some_noting (Some x) e = refl

-- one note more, which is looked up by its task
pub with_note : (found : ℕ → Option DoneNote) (after : ℕ → Option DoneNote) (xs : List DoneNote) (x : DoneNote) → ((n : ℕ) → option_map noting_of (found n) ≡ note_at (map noting_of xs) n) → is_some (found x.n) ≡ false
    → ((n : ℕ) → after n ≡ cond (nat_eq x.n n) (Some x) (found n)) → (n : ℕ) → option_map noting_of (after n) ≡ note_at (map noting_of (xs ++ x ∷ [])) n
with_note found after xs x before absent put n =
    let none : x.n ≡ n → note_at (map noting_of xs) n ≡ None = λ e. sym (before n) ∙ ap (λ (i : ℕ). option_map noting_of (found i)) (sym e) ∙ none_noting (found x.n) absent in
    ap (option_map noting_of) (put n) ∙ by_test (nat_eq x.n n) x (found n) ∙ ap (λ (o : Option Noting). if x.n == n then Some (noting_of x) else o) (before n)
    ∙ sym (put_last (note_at (map noting_of xs) n) (noting_of x) n none) ∙ sym (noted_last xs x n)

pub without_note : (found : ℕ → Option DoneNote) (xs : List DoneNote) (x : DoneNote) → ((n : ℕ) → option_map noting_of (found n) ≡ note_at (map noting_of xs) n) → is_some (found x.n) ≡ true
    → (n : ℕ) → option_map noting_of (found n) ≡ note_at (map noting_of (xs ++ x ∷ [])) n
without_note found xs x before there n =
    let has : x.n ≡ n → is_some (note_at (map noting_of xs) n) ≡ true = λ e. ap is_some (sym (before n)) ∙ ap (λ (i : ℕ). is_some (option_map noting_of (found i))) (sym e) ∙ some_noting (found x.n) there in
    before n ∙ sym (kept_last (note_at (map noting_of xs) n) (noting_of x) n has) ∙ sym (noted_last xs x n)
