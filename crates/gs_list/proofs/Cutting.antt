-- The lines of a text, what stands before a comment, and the words of a line: each is what cutting gives.
use Rattle.std.proofs.Common.{◌≡◌, ℕ, suc, ◌+◌, ◌<◌, ◌≤◌, Bool, true, false, List, [], ◌∷◌, ◌++◌, length, take, drop, get_or, refl, sym, ap, subst, ◌∙◌, arith, inl, inr, append_assoc, if◌then◌else◌, filter, map}
use Rattle.std.specs.Prelude.{◌==◌, not, ◌||◌, ◌&&◌}
use Rattle.std.specs.List.{All, AllWithin, HoldsAt, slice_split, onto_first, list_all}
use Rattle.std.proofs.lemmas.Bool.Decides.{eqb_tells, nat_tests}
use Rattle.std.proofs.lemmas.List.{append-nil, get_or-take, length-take, length-map, take-append-drop}
use Rattle.std.proofs.lemmas.List.Elements.{All-nil, All-push, All-weaker}
use Rattle.std.proofs.lemmas.List.Splits.{slice_split-cons_yes, slice_split_none, slice_split_at, length-slice_split}
use Rattle.std.proofs.lemmas.List.Sums.{count_by-le-length}
use Rattle.std.proofs.Math.Seq.{drop-cons}
use denote.Ref.{Bor}
use Rattle.gs_list.specs.Lines.{is_feed, is_hash, is_blank, is_word_byte, may_stand, NonePass, AreLines, last, more, IsContent, bare, commented, IsWord, AreWords, none, blank, last_word, word_more, HasWords, HasBadByte}

-- bytes in front of the first part
joins : List ℕ → List (List ℕ) → List (List ℕ)
joins w [] = w ∷ []
joins w (p ∷ ps) = (w ++ p) ∷ ps

joins_first : (w : List ℕ) (x : ℕ) (ps : List (List ℕ)) → joins w (onto_first x ps) ≡ joins (w ++ x ∷ []) ps
unfolding joins
joins_first w x [] = refl
joins_first w x (p ∷ ps) = ap (λ (v : List ℕ). v ∷ ps) (sym (append_assoc w (x ∷ []) p))

joins_split : (test : ℕ → Bool) (xs : List ℕ) → joins [] (slice_split test xs) ≡ slice_split test xs
unfolding joins
joins_split test [] = refl
joins_split test (x ∷ xs) = here (test x)
  where
    first : (ps : List (List ℕ)) → joins [] (onto_first x ps) ≡ onto_first x ps
    first [] = refl
    first (p ∷ ps) = refl

    here : (t : Bool) → joins [] (if t then [] ∷ slice_split test xs else onto_first x (slice_split test xs)) ≡ (if t then [] ∷ slice_split test xs else onto_first x (slice_split test xs))
    here true = refl
    here false = first (slice_split test xs)

snoc : (w xs : List ℕ) (x : ℕ) → (w ++ x ∷ []) ++ xs ≡ w ++ x ∷ xs
snoc w xs x = append_assoc w (x ∷ []) xs

-- ---- lines

is_ten : (x : ℕ) → is_feed x ≡ true → x ≡ 10
is_ten x e = elim (eqb_tells x 10) [ inl is ↦ is.1 | inr isnt ↦ absurd (let f = isnt.0 in cc) ]

lines_on : (xs w : List ℕ) → NonePass is_feed w → AreLines (w ++ xs) (joins w (slice_split is_feed xs))
unfolding joins
lines_on [] w free = subst (λ (v : List ℕ). AreLines v (v ∷ [])) (sym (append-nil w)) (last w free)
lines_on (x ∷ xs) w free = here (is_feed x) refl (λ v none_v. lines_on xs v none_v)
  where
    here : (t : Bool) → is_feed x ≡ t → ((v : List ℕ) → NonePass is_feed v → AreLines (v ++ xs) (joins v (slice_split is_feed xs))) → AreLines (w ++ x ∷ xs) (joins w (if t then [] ∷ slice_split is_feed xs else onto_first x (slice_split is_feed xs)))
    here true e on =
        let rest = subst (AreLines xs) (joins_split is_feed xs) (on [] (All-nil (λ (b : ℕ). is_feed b ≡ false))) in
        let ten = ap (λ (b : ℕ). w ++ b ∷ xs) (is_ten x e) in
        subst (λ (v : List ℕ). AreLines (w ++ x ∷ xs) (v ∷ slice_split is_feed xs)) (sym (append-nil w)) (more (w ++ x ∷ xs) w xs (slice_split is_feed xs) ten free rest)
    here false e on =
        let one = on (w ++ x ∷ []) (All-push (λ (b : ℕ). is_feed b ≡ false) w x free e) in
        subst (λ (v : List ℕ). AreLines v (joins w (onto_first x (slice_split is_feed xs)))) (snoc w xs x)
        (subst (AreLines ((w ++ x ∷ []) ++ xs)) (sym (joins_first w x (slice_split is_feed xs))) one)

-- cutting at the line feeds gives lines
pub lines_split : (xs : List ℕ) → AreLines xs (slice_split is_feed xs)
lines_split xs = subst (AreLines xs) (joins_split is_feed xs) (lines_on xs [] (All-nil (λ (b : ℕ). is_feed b ≡ false)))

-- and there are no others
pub lines_are : (bytes : List ℕ) (lines : List (List ℕ)) → AreLines bytes lines → lines ≡ slice_split is_feed bytes
lines_are bytes lines (last line free) = sym (slice_split_none is_feed line free)
lines_are bytes lines (more b line rest ls e free r) =
    ap (λ (v : List (List ℕ)). line ∷ v) (lines_are rest ls r) ∙ sym (slice_split_at is_feed line 10 rest free refl) ∙ ap (slice_split is_feed) (sym e)

-- ---- comments

first_of : List (List ℕ) → List ℕ
first_of [] = []
first_of (p ∷ ps) = p

content_is : (line content : List ℕ) → IsContent line content → content ≡ first_of (slice_split is_hash line)
unfolding first_of
content_is line content (bare l free) = ap first_of (sym (slice_split_none is_hash l free))
content_is line content (commented l c after e free) = ap first_of (sym (slice_split_at is_hash c 35 after free refl) ∙ ap (slice_split is_hash) (sym e))

-- a line has one content
pub content_one : (line a b : List ℕ) → IsContent line a → IsContent line b → a ≡ b
content_one line a b p q = content_is line a p ∙ sym (content_is line b q)

-- the front up to the first `#`
pub content_front : (line : List ℕ) (i : ℕ) → i < length line → HoldsAt (λ b. is_hash b ≡ true) line i → AllWithin (λ b. is_hash b ≡ false) line 0 i → IsContent line (take i line)
content_front line i lt at before =
    let hash : get_or line i 0 ≡ 35 = elim (eqb_tells (get_or line i 0) 35) [ inl is ↦ is.1 | inr isnt ↦ absurd (let f = isnt.0 in let t = at 0 in cc) ] in
    let parts : line ≡ take i line ++ 35 ∷ drop (suc i) line =
    sym (take-append-drop i line) ∙ ap (λ (v : List ℕ). take i line ++ v) (drop-cons line i 0 lt ∙ ap (λ (b : ℕ). b ∷ drop (suc i) line) hash) in
    commented line (take i line) (drop (suc i) line) parts
    (λ k d lt_k.
    let low : k < i = let t = length-take i line in omega arith in
    ap is_hash (get_or-take i line k d low) ∙ before k d (omega arith) low)

-- ---- words

abbrev pub is_kept : List ℕ → Bool
is_kept w = not (length w == 0)

kept : List (List ℕ) → List (List ℕ)
kept ps = filter is_kept ps

kept_none : (ps : List (List ℕ)) → kept (joins [] ps) ≡ kept ps
unfolding joins kept
kept_none [] = refl
kept_none (p ∷ ps) = refl

IsWordBytes : List ℕ → Type 0
IsWordBytes w = All (λ b. is_word_byte b ≡ true) w

kept_some : (w : List ℕ) (ps : List (List ℕ)) → 1 ≤ length w → kept (w ∷ ps) ≡ w ∷ kept ps
unfolding kept
kept_some w ps lt = ap (λ (t : Bool). if t then w ∷ kept ps else kept ps) (some (length w) lt)
  where
    some : (n : ℕ) → 1 ≤ n → not (n == 0) ≡ true
    some n le = grind (arith, nat_tests)

only_word : (w : List ℕ) → IsWordBytes w → AreWords w (kept (w ∷ []))
unfolding kept IsWordBytes
only_word [] all = none
only_word (x ∷ xs) all = subst (AreWords (x ∷ xs)) (sym (kept_some (x ∷ xs) [] (omega arith))) (last_word (x ∷ xs) (record { some = omega arith; each = all }))

word_then : (w rest : List ℕ) (x : ℕ) (ps : List (List ℕ)) → IsWordBytes w → is_blank x ≡ true → AreWords rest (kept ps) → AreWords (w ++ x ∷ rest) (kept (w ∷ ps))
unfolding kept IsWordBytes
word_then [] rest x ps all e r = blank x rest (kept ps) e r
word_then (y ∷ ys) rest x ps all e r =
    subst (AreWords ((y ∷ ys) ++ x ∷ rest)) (sym (kept_some (y ∷ ys) ps (omega arith)))
    (word_more ((y ∷ ys) ++ x ∷ rest) (y ∷ ys) rest x (kept ps) refl (record { some = omega arith; each = all }) e r)

words_on : (xs w : List ℕ) → list_all may_stand xs ≡ true → IsWordBytes w → AreWords (w ++ xs) (kept (joins w (slice_split is_blank xs)))
unfolding joins kept IsWordBytes
words_on [] w may all = subst (λ (v : List ℕ). AreWords v (kept (v ∷ []))) (sym (append-nil w)) (only_word w all)
words_on (x ∷ xs) w may all = here (is_blank x) refl may (λ v may_xs all_v. words_on xs v may_xs all_v)
  where
    here : (t : Bool) → is_blank x ≡ t → ((t || is_word_byte x) && list_all may_stand xs) ≡ true
        → ((v : List ℕ) → list_all may_stand xs ≡ true → IsWordBytes v → AreWords (v ++ xs) (kept (joins v (slice_split is_blank xs))))
        → AreWords (w ++ x ∷ xs) (kept (joins w (if t then [] ∷ slice_split is_blank xs else onto_first x (slice_split is_blank xs))))
    here true e m on =
        let rest = subst (AreWords xs) (kept_none (slice_split is_blank xs)) (on [] m (All-nil (λ (b : ℕ). is_word_byte b ≡ true))) in
        subst (λ (v : List ℕ). AreWords (w ++ x ∷ xs) (kept (v ∷ slice_split is_blank xs))) (sym (append-nil w)) (word_then w xs x (slice_split is_blank xs) all e rest)
    here false e m on =
        let parts = both (is_word_byte x) (list_all may_stand xs) m in
        let one = on (w ++ x ∷ []) parts.1 (All-push (λ (b : ℕ). is_word_byte b ≡ true) w x all parts.0) in
        subst (λ (v : List ℕ). AreWords v (kept (joins w (onto_first x (slice_split is_blank xs))))) (snoc w xs x)
        (subst (λ (v : List (List ℕ)). AreWords ((w ++ x ∷ []) ++ xs) (kept v)) (sym (joins_first w x (slice_split is_blank xs))) one)
      where
        both : (a b : Bool) → (a && b) ≡ true → (a ≡ true) × (b ≡ true)
        both true b h = (refl, h)
        both false b h = absurd cc

-- cutting at the blanks gives words, between which nothing may stand
pub words_split : (xs : List ℕ) → list_all may_stand xs ≡ true → AreWords xs (filter is_kept (slice_split is_blank xs))
unfolding kept IsWordBytes
words_split xs may = subst (AreWords xs) (kept_none (slice_split is_blank xs)) (words_on xs [] may (All-nil (λ (b : ℕ). is_word_byte b ≡ true)))

not_blank : (b : ℕ) → is_word_byte b ≡ true → is_blank b ≡ false
not_blank b e = grind (arith, nat_tests)

free_of : (w : List ℕ) → IsWord w → NonePass is_blank w
free_of w is = All-weaker (λ (b : ℕ). is_word_byte b ≡ true) (λ (b : ℕ). is_blank b ≡ false) not_blank w is.each

words_are : (bytes : List ℕ) (words : List (List ℕ)) → AreWords bytes words → words ≡ kept (slice_split is_blank bytes)
unfolding kept
words_are bytes words none = refl
words_are bytes words (blank b rest ws e r) = words_are rest ws r ∙ sym (ap kept (slice_split-cons_yes is_blank b rest e))
words_are bytes words (last_word w is) = sym (ap kept (slice_split_none is_blank w (free_of w is)) ∙ kept_some w [] is.some)
words_are bytes words (word_more bs w rest b ws e is t r) =
    ap (λ (v : List (List ℕ)). w ∷ v) (words_are rest ws r)
    ∙ sym (kept_some w (slice_split is_blank rest) is.some)
    ∙ sym (ap kept (ap (slice_split is_blank) e ∙ slice_split_at is_blank w b rest (free_of w is) t))

-- a line's content has one list of words
pub words_one : (bytes : List ℕ) (a b : List (List ℕ)) → AreWords bytes a → AreWords bytes b → a ≡ b
words_one bytes a b p q = words_are bytes a p ∙ sym (words_are bytes b q)

-- ---- where there are words, each byte may stand

all_stand : (w rest : List ℕ) → IsWordBytes w → list_all may_stand rest ≡ true → list_all may_stand (w ++ rest) ≡ true
unfolding IsWordBytes
all_stand [] rest all e = e
all_stand (x ∷ xs) rest all e = stand (is_blank x) (is_word_byte x) (list_all may_stand (xs ++ rest)) (all 0 0 (omega arith)) (all_stand xs rest (λ k d lt. all (suc k) d (omega arith)) e)
  where
    stand : (a b c : Bool) → b ≡ true → c ≡ true → ((a || b) && c) ≡ true
    stand true b c p q = q
    stand false true c p q = q
    stand false false c p q = absurd cc

pub words_stand : (bytes : List ℕ) (words : List (List ℕ)) → AreWords bytes words → list_all may_stand bytes ≡ true
unfolding IsWordBytes
words_stand bytes words none = refl
words_stand bytes words (blank b rest ws e r) = stand (is_blank b) (is_word_byte b) (list_all may_stand rest) e (words_stand rest ws r)
  where
    stand : (a b c : Bool) → a ≡ true → c ≡ true → ((a || b) && c) ≡ true
    stand true b c p q = q
    stand false b c p q = absurd cc
words_stand bytes words (last_word w is) = ap (list_all may_stand) (sym (append-nil w)) ∙ all_stand w [] is.each refl
words_stand bytes words (word_more bs w rest b ws e is t r) =
    ap (list_all may_stand) e ∙ all_stand w (b ∷ rest) is.each (stand (is_blank b) (is_word_byte b) (list_all may_stand rest) t (words_stand rest ws r))
  where
    stand : (a b c : Bool) → a ≡ true → c ≡ true → ((a || b) && c) ≡ true
    stand true b c p q = q
    stand false b c p q = absurd cc

-- there are no more lines than bytes and one
pub few_lines : (bytes : List ℕ) (lines : List (Bor (List ℕ))) → map (λ w. w.now) lines ≡ slice_split is_feed bytes → length lines ≤ length bytes + 1
few_lines bytes lines e =
    let n = ap length e in
    let m = length-slice_split is_feed bytes in
    let k = length-map lines (λ (w : Bor (List ℕ)). w.now) in
    let b = count_by-le-length is_feed bytes in omega arith

-- a text has one list of lines
pub lines_one : (bytes : List ℕ) (a b : List (List ℕ)) → AreLines bytes a → AreLines bytes b → a ≡ b
lines_one bytes a b p q = lines_are bytes a p ∙ sym (lines_are bytes b q)

-- a line has one list of words
pub has_one : (line : List ℕ) (a b : List (List ℕ)) → HasWords line a → HasWords line b → a ≡ b
has_one line a b p q =
    words_one q.content a b (subst (λ (c : List ℕ). AreWords c a) (content_one line p.content q.content p.before q.before) p.parted) q.parted

-- a line with words has no byte that may not stand
pub has_no_bad : (line : List ℕ) (words : List (List ℕ)) → HasWords line words → HasBadByte line → ⊥
has_no_bad line words p q =
    let stand = words_stand p.content words p.parted in
    let same = ap (list_all may_stand) (content_one line p.content q.content p.before q.before) in
    let bad = q.bad in absurd cc
