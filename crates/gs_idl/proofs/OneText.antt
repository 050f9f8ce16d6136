-- Bytes have one list of marks, which ends with its last sign.
use Rattle.std.proofs.Common.{◌≡◌, ℕ, ◌+◌, ◌<◌, ◌≤◌, not, List, [], ◌∷◌, length, take, drop, Option, Some, None, refl, sym, ap, subst, ◌∙◌, arith, inl, inr, ◌⊎◌}
use Rattle.std.specs.List.{count_by}
use Rattle.gs_idl.specs.Word.{is_word_byte}
use Rattle.gs_idl.specs.Lexicon.{word, symbol, bad, finish, IdlMark, mark, is_feed, Beginning, a_blank, a_feed, a_word, a_line_comment, a_comment, a_symbol, nothing, begins, front, behind, close_at, Reads, finished, blank, feed, line_comment, comment, open_comment, worded, long, signed, bad_byte}
use Rattle.gs_idl.specs.Grammar.{signs_of}
use Rattle.gs_idl.specs.declared.token.IdlKind.TheVariants.{BadByte, OpenComment, LongName}
use Rattle.gs_idl.proofs.Faults.{Closing, closing_more}

abbrev CommentMarks : ℕ → List ℕ → List IdlMark → Option ℕ → Type 0
CommentMarks line us ms None = ms ≡ mark line (bad OpenComment) ∷ []
CommentMarks line us ms (Some n) = Reads (line + count_by is_feed (take n us)) (drop (n + 2) us) ms

abbrev CommentOf : ℕ → List ℕ → List IdlMark → Type 0
CommentOf line [] ms = ⊥
CommentOf line (c ∷ us) ms = CommentMarks line us ms (close_at us)

abbrev WordOf : ℕ → ℕ → List ℕ → List IdlMark → Type 0
WordOf line b rest ms =
    ((length (front is_word_byte rest) < 64) × (more : List IdlMark) × (ms ≡ mark line (word (b ∷ front is_word_byte rest)) ∷ more) × Reads line (behind is_word_byte rest) more)
    ⊎ ((64 ≤ length (front is_word_byte rest)) × (ms ≡ mark line (bad LongName) ∷ []))

-- what the marks are, by what begins first
abbrev MarksBy : Beginning → ℕ → ℕ → List ℕ → List IdlMark → Type 0
MarksBy a_blank line b rest ms = Reads line rest ms
MarksBy a_feed line b rest ms = Reads (line + 1) rest ms
MarksBy a_word line b rest ms = WordOf line b rest ms
MarksBy a_line_comment line b rest ms = Reads line (behind (λ c. not (is_feed c)) rest) ms
MarksBy a_comment line b rest ms = CommentOf line rest ms
MarksBy (a_symbol s) line b rest ms = (more : List IdlMark) × (ms ≡ mark line (symbol s) ∷ more) × Reads line rest more
MarksBy nothing line b rest ms = ms ≡ mark line (bad BadByte) ∷ []

by : (what : Beginning) (line b : ℕ) (rest : List ℕ) (ms : List IdlMark) → begins b rest ≡ what → MarksBy what line b rest ms → MarksBy (begins b rest) line b rest ms
by what line b rest ms e m = subst (λ (w : Beginning). MarksBy w line b rest ms) (sym e) m

marks_by : (line b : ℕ) (rest : List ℕ) (ms : List IdlMark) → Reads line (b ∷ rest) ms → MarksBy (begins b rest) line b rest ms
marks_by line b rest ms (blank l c us ns h r) = by a_blank line b rest ms h r
marks_by line b rest ms (feed l c us ns h r) = by a_feed line b rest ms h r
marks_by line b rest ms (line_comment l c us ns h r) = by a_line_comment line b rest ms h r
marks_by line b rest ms (comment l c d n us ns h e r) = by a_comment line b rest ms h (subst (CommentMarks line us ms) (sym e) r)
marks_by line b rest ms (open_comment l c d us h e) = by a_comment line b rest ms h (subst (CommentMarks line us ms) (sym e) refl)
marks_by line b rest ms (worded l c us ns h lt r) = by a_word line b rest ms h (inl (lt, ns, refl, r))
marks_by line b rest ms (long l c us h le) = by a_word line b rest ms h (inr (le, refl))
marks_by line b rest ms (signed l c us s ns h r) = by (a_symbol s) line b rest ms h (ns, refl, r)
marks_by line b rest ms (bad_byte l c us h) = by nothing line b rest ms h refl

marks_at : (what : Beginning) (line b : ℕ) (rest : List ℕ) (ms : List IdlMark) → begins b rest ≡ what → Reads line (b ∷ rest) ms → MarksBy what line b rest ms
marks_at what line b rest ms e r = subst (λ (w : Beginning). MarksBy w line b rest ms) e (marks_by line b rest ms r)

empty_marks : (line : ℕ) (ms : List IdlMark) → Reads line [] ms → ms ≡ mark line finish ∷ []
empty_marks line ms (finished l) = refl

more_same : (m : IdlMark) (ms : List IdlMark) (ns : List IdlMark) (rest : List IdlMark) → ns ≡ m ∷ rest → ms ≡ rest → m ∷ ms ≡ ns
more_same m ms ns rest e f = ap (λ (xs : List IdlMark). m ∷ xs) f ∙ sym e

pub one_marks : (line : ℕ) (bytes : List ℕ) (ms ns : List IdlMark) → Reads line bytes ms → Reads line bytes ns → ms ≡ ns
one_marks line bytes ms ns (finished l) q = sym (empty_marks line ns q)
one_marks line bytes ms ns (blank l b rest ms' h r) q = one_marks l rest ms' ns r (marks_at a_blank l b rest ns h q)
one_marks line bytes ms ns (feed l b rest ms' h r) q = one_marks (l + 1) rest ms' ns r (marks_at a_feed l b rest ns h q)
one_marks line bytes ms ns (line_comment l b rest ms' h r) q = one_marks l (behind (λ c. not (is_feed c)) rest) ms' ns r (marks_at a_line_comment l b rest ns h q)
one_marks line bytes ms ns (comment l b c n rest ms' h e r) q =
    one_marks (l + count_by is_feed (take n rest)) (drop (n + 2) rest) ms' ns r (subst (CommentMarks l rest ns) e (marks_at a_comment l b (c ∷ rest) ns h q))
one_marks line bytes ms ns (open_comment l b c rest h e) q = sym (let m : CommentMarks l rest ns None = subst (CommentMarks l rest ns) e (marks_at a_comment l b (c ∷ rest) ns h q) in m)
one_marks line bytes ms ns (worded l b rest ms' h lt r) q =
    elim (marks_at a_word l b rest ns h q) [
      | inl u ↦ more_same (mark l (word (b ∷ front is_word_byte rest))) ms' ns u.1 u.2 (one_marks l (behind is_word_byte rest) ms' u.1 r u.3)
      | inr u ↦ absurd (omega (arith, u.0))
    ]
one_marks line bytes ms ns (long l b rest h le) q =
    elim (marks_at a_word l b rest ns h q) [ inl u ↦ absurd (omega (arith, u.0)) | inr u ↦ sym u.1 ]
one_marks line bytes ms ns (signed l b rest s ms' h r) q =
    let u = marks_at (a_symbol s) l b rest ns h q in
    more_same (mark l (symbol s)) ms' ns u.0 u.1 (one_marks l rest ms' u.0 r u.2)
one_marks line bytes ms ns (bad_byte l b rest h) q = sym (marks_at nothing l b rest ns h q)

-- the marks end with the only sign that is a last one
pub marks_close : (line : ℕ) (bytes : List ℕ) (ms : List IdlMark) → Reads line bytes ms → Closing (signs_of ms)
marks_close line bytes ms (finished l) = tt
marks_close line bytes ms (blank l b rest ms' h r) = marks_close l rest ms' r
marks_close line bytes ms (feed l b rest ms' h r) = marks_close (l + 1) rest ms' r
marks_close line bytes ms (line_comment l b rest ms' h r) = marks_close l (behind (λ c. not (is_feed c)) rest) ms' r
marks_close line bytes ms (comment l b c n rest ms' h e r) = marks_close (l + count_by is_feed (take n rest)) (drop (n + 2) rest) ms' r
marks_close line bytes ms (open_comment l b c rest h e) = tt
marks_close line bytes ms (worded l b rest ms' h lt r) = closing_more (word (b ∷ front is_word_byte rest)) (signs_of ms') (λ f. f) (marks_close l (behind is_word_byte rest) ms' r)
marks_close line bytes ms (long l b rest h le) = tt
marks_close line bytes ms (signed l b rest s ms' h r) = closing_more (symbol s) (signs_of ms') (λ f. f) (marks_close l rest ms' r)
marks_close line bytes ms (bad_byte l b rest h) = tt
