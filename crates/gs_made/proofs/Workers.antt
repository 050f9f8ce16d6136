-- The workers that are made are said, and take everything.
use Rattle.std.proofs.Common.{◌≡◌, ℕ, zero, suc, ◌≤◌, Bool, true, false, not, List, [], ◌∷◌, length, refl, sym, lit<, lit≤, arith}
use Rattle.std.specs.Prelude.{codes}
use Rattle.std.specs.List.{list_all}
use Rattle.std.proofs.lemmas.Bool.{and_parts}
use Rattle.std.proofs.lemmas.Fmt.{decimal_digit}
use Rattle.std.proofs.lemmas.List.Elements.{All-nil, All-cons}
use Rattle.std.proofs.lemmas.List.Sums.{AllPass-from_list_all}
use Rattle.gs_types.specs.NameTest.{is_name, name_takes}
use Rattle.gs_broker.specs.Text.{is_feed, is_hash, is_word_byte, NonePass, AreLines, last, more, bare, IsWord, AreWords, last_word, word_more, HasWords, Parts, words_of, HasParts, IsSlots, Entry, IsRight, LineSays, nothing, worker, LinesSay, no_line, line_more, Says}
use Rattle.gs_broker.specs.Text as t
use Rattle.gs_report.specs.Generator.{workers_text}
use Rattle.gs_made.specs.Texts.{self_interface, self_worker, self_workers}
use Rattle.gs_made.specs.Laws.{SaysWorkers, EachTakesAll}

-- ---- the words of a line

none_pass : (test : ℕ → Bool) (bytes : List ℕ) → list_all (λ b. not (test b)) bytes ≡ true → NonePass test bytes
none_pass test [] h = All-nil (λ b. test b ≡ false)
none_pass test (b ∷ bytes) h =
    let parts = and_parts (not (test b)) (list_all (λ b. not (test b)) bytes) h in
    All-cons (λ b. test b ≡ false) b bytes (not_true (test b) parts.0) (none_pass test bytes parts.1)
  where
    not_true : (t : Bool) → not t ≡ true → t ≡ false
    not_true true e = absurd cc
    not_true false e = refl

is_word : (w : List ℕ) → 1 ≤ length w → list_all is_word_byte w ≡ true → IsWord w
is_word w some h = record { some = some; each = AllPass-from_list_all is_word_byte w h }

abbrev line_of : ℕ → List ℕ
line_of name = name ∷ codes " 4 in *"

abbrev parts_of : ℕ → Parts
parts_of name = record { name = name ∷ []; slots = codes "4"; program = codes "in"; operations = codes "*" ∷ [] }

words_a : AreWords (line_of 97) (words_of (parts_of 97))
words_a =
    word_more (line_of 97) (codes "a") (codes "4 in *") 32 _ refl (is_word (codes "a") (lit≤ tt) refl) refl (
    word_more (codes "4 in *") (codes "4") (codes "in *") 32 _ refl (is_word (codes "4") (lit≤ tt) refl) refl (
    word_more (codes "in *") (codes "in") (codes "*") 32 _ refl (is_word (codes "in") (lit≤ tt) refl) refl (
    last_word (codes "*") (is_word (codes "*") (lit≤ tt) refl))))

words_b : AreWords (line_of 98) (words_of (parts_of 98))
words_b =
    word_more (line_of 98) (codes "b") (codes "4 in *") 32 _ refl (is_word (codes "b") (lit≤ tt) refl) refl (
    word_more (codes "4 in *") (codes "4") (codes "in *") 32 _ refl (is_word (codes "4") (lit≤ tt) refl) refl (
    word_more (codes "in *") (codes "in") (codes "*") 32 _ refl (is_word (codes "in") (lit≤ tt) refl) refl (
    last_word (codes "*") (is_word (codes "*") (lit≤ tt) refl))))

four : IsSlots (codes "4") 4
four = record { some = lit≤ tt; few = lit≤ tt; spelled = sym (decimal_digit 4 (lit< tt)) }

right : (name : ℕ) → list_all (λ b. not (is_hash b)) (line_of name) ≡ true → AreWords (line_of name) (words_of (parts_of name)) → is_name (name ∷ []) ≡ true
    → IsRight self_interface.ops (line_of name) (parts_of name) 4
right name plain words is = record {
  parts = record { words = record { content = line_of name; before = bare (line_of name) (none_pass is_hash (line_of name) plain); parted = words }; form = refl };
  name = name_takes (name ∷ []) is;
  digits = four;
  known = refl;
}

right_a : IsRight self_interface.ops (line_of 97) (parts_of 97) 4
unfolding is_name
right_a = right 97 refl words_a refl

right_b : IsRight self_interface.ops (line_of 98) (parts_of 98) 4
unfolding is_name
right_b = right 98 refl words_b refl

-- ---- the lines

all_lines : AreLines workers_text (line_of 97 ∷ line_of 98 ∷ [] ∷ [])
all_lines =
    more workers_text (line_of 97) (codes "b 4 in *\n") _ refl (none_pass is_feed (line_of 97) refl)
    (more (codes "b 4 in *\n") (line_of 98) [] _ refl (none_pass is_feed (line_of 98) refl)
    (last [] (none_pass is_feed [] refl)))

empty_line : HasWords [] []
empty_line = record { content = []; before = bare [] (none_pass is_hash [] refl); parted = t.AreWords.none }

abbrev first : List Entry
first = self_worker (codes "a") ∷ []

all_said : LinesSay self_interface.ops (line_of 97 ∷ line_of 98 ∷ [] ∷ []) [] self_workers
all_said =
    line_more (line_of 97) _ [] first self_workers (worker [] (parts_of 97) 4 right_a refl (lit< tt))
    (line_more (line_of 98) _ first self_workers self_workers (worker first (parts_of 98) 4 right_b refl (lit< tt))
    (line_more [] [] self_workers self_workers self_workers (nothing self_workers empty_line) (no_line self_workers)))

pub says_workers : SaysWorkers
says_workers = record { short = lit≤ tt; lines = _; parted = all_lines; said = all_said; some = lit≤ tt }

-- ---- what they take

pub each_takes_all : EachTakesAll
each_takes_all zero zero w o = refl
each_takes_all zero (suc zero) w o = refl
each_takes_all (suc zero) zero w o = refl
each_takes_all (suc zero) (suc zero) w o = refl
each_takes_all (suc (suc n)) op w o = absurd (omega arith)
each_takes_all zero (suc (suc n)) w o = absurd (omega arith)
each_takes_all (suc zero) (suc (suc n)) w o = absurd (omega arith)
