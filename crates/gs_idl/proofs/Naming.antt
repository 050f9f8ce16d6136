-- The names of what a text says are identifiers.
use Rattle.std.proofs.Common.{◌≡◌, ℕ, ◌+◌, ◌<◌, Bool, true, false, cond, not, ◌==◌, if◌then◌else◌, List, [], ◌∷◌, ◌++◌, length, take, drop, refl, subst}
use Rattle.std.specs.List.{AllPass, prefix_len, count_by}
use Rattle.std.proofs.lemmas.List.Elements.{All-nil, All-cons}
use Rattle.std.proofs.Math.Numerals.{one-add}
use Rattle.gs_idl.specs.Interface.{Param, Signature, Interface}
use Rattle.gs_idl.specs.Word.{is_letter, is_word_byte}
use Rattle.gs_idl.specs.Lexicon.{IdlSign, word, symbol, bad, finish, IdlMark, is_blank, is_feed, Beginning, a_blank, a_feed, a_word, after_slash, symbol_or_nothing, begins, front, behind, Reads, finished, blank, feed, line_comment, comment, open_comment, worded, long, signed, bad_byte}
use Rattle.gs_idl.specs.Grammar.{signs_of, params_signs, op_signs, ops_signs, interface_signs, IsText, plain, ended}
use Rattle.gs_idl.specs.declared.token.Symbol.TheVariants.{CloseBrace, OpenParen, CloseParen, Comma, Semicolon}

-- 1 to 64 letters, digits and `_`, of which the first is no digit
pub record IsName (w : List ℕ) : Type 0 where
  pub head : ℕ
  pub tail : List ℕ
  pub is : w ≡ head ∷ tail
  pub first : (rest : List ℕ) → begins head rest ≡ a_word
  pub each : AllPass is_word_byte tail
  pub short : length tail < 64

abbrev pub ParamsNamed : List Param → Type 0
ParamsNamed [] = Unit {0}
ParamsNamed (p ∷ ps) = IsName p.name × ParamsNamed ps

abbrev pub OpsNamed : List Signature → Type 0
OpsNamed [] = Unit {0}
OpsNamed (o ∷ os) = IsName o.name × ParamsNamed o.params × OpsNamed os

-- ---- the words of a list of signs are names

abbrev pub Worded : List IdlSign → Type 0
Worded [] = Unit {0}
Worded (word w ∷ gs) = IsName w × Worded gs
Worded (symbol s ∷ gs) = Worded gs
Worded (bad k ∷ gs) = Worded gs
Worded (finish ∷ gs) = Worded gs

back_of : (gs hs : List IdlSign) → Worded (gs ++ hs) → Worded hs
back_of [] hs h = h
back_of (word w ∷ gs) hs h = back_of gs hs h.1
back_of (symbol s ∷ gs) hs h = back_of gs hs h
back_of (bad k ∷ gs) hs h = back_of gs hs h
back_of (finish ∷ gs) hs h = back_of gs hs h

front_of : (gs hs : List IdlSign) → Worded (gs ++ hs) → Worded gs
front_of [] hs h = tt
front_of (word w ∷ gs) hs h = (h.0, front_of gs hs h.1)
front_of (symbol s ∷ gs) hs h = front_of gs hs h
front_of (bad k ∷ gs) hs h = front_of gs hs h
front_of (finish ∷ gs) hs h = front_of gs hs h

params_named : (s : IdlSign) (ps : List Param) → Worded (params_signs s ps) → ParamsNamed ps
params_named s [] h = tt
params_named (word w) (p ∷ ps) h = (h.1.1.1.0, params_named (symbol Comma) ps h.1.1.1.1)
params_named (symbol s) (p ∷ ps) h = (h.1.1.0, params_named (symbol Comma) ps h.1.1.1)
params_named (bad e) (p ∷ ps) h = (h.1.1.0, params_named (symbol Comma) ps h.1.1.1)
params_named finish (p ∷ ps) h = (h.1.1.0, params_named (symbol Comma) ps h.1.1.1)

ops_named : (os : List Signature) → Worded (ops_signs os) → OpsNamed os
ops_named [] h = tt
ops_named (o ∷ os) h =
    let op = front_of (op_signs o) (ops_signs os) h in
    (op.1.0, params_named (symbol OpenParen) o.params (front_of (params_signs (symbol OpenParen) o.params) (symbol CloseParen ∷ symbol Semicolon ∷ []) op.1.1), ops_named os (back_of (op_signs o) (ops_signs os) h))

abbrev pub Named : Interface → Type 0
Named i = IsName i.name × OpsNamed i.ops

interface_named : (i : Interface) → Worded (interface_signs i) → Named i
interface_named i h = (h.1.0, ops_named i.ops (front_of (ops_signs i.ops) (symbol CloseBrace ∷ []) h.1.1))

text_named : (gs : List IdlSign) (i : Interface) → IsText gs i → Worded gs → Named i
text_named gs i (plain ts i' f e) h = interface_named i' (front_of (interface_signs i') (finish ∷ []) (subst Worded e h))
text_named gs i (ended ts i' f e) h = interface_named i' (front_of (interface_signs i') (symbol Semicolon ∷ finish ∷ []) (subst Worded e h))

-- ---- the words of a text are names

letter_by : (p q r s : Bool) (x y : Beginning) → (x ≡ a_word → ⊥) → (y ≡ a_word → ⊥) → (if p then a_blank else if q then a_feed else if r then a_word else if s then x else y) ≡ a_word
    → (p ≡ false) × (q ≡ false) × (r ≡ true)
letter_by true q r s x y n m e = absurd cc
letter_by false true r s x y n m e = absurd cc
letter_by false false true s x y n m e = (refl, refl, refl)
letter_by false false false true x y n m e = absurd (n e)
letter_by false false false false x y n m e = absurd (m e)

begins_by : (p q r s : Bool) (x y : Beginning) → p ≡ false → q ≡ false → r ≡ true → (if p then a_blank else if q then a_feed else if r then a_word else if s then x else y) ≡ a_word
begins_by true q r s x y e f g = absurd cc
begins_by false true r s x y e f g = absurd cc
begins_by false false true s x y e f g = refl
begins_by false false false s x y e f g = absurd cc

if_not : (t : Bool) (x y : Beginning) → (x ≡ a_word → ⊥) → (y ≡ a_word → ⊥) → (if t then x else y) ≡ a_word → ⊥
if_not true x y n m = n
if_not false x y n m = m

slash_no_word : (rest : List ℕ) → after_slash rest ≡ a_word → ⊥
slash_no_word [] e = cc
slash_no_word (c ∷ rest) e = if_not (c == 47) _ _ (λ h. cc) (if_not (c == 42) _ _ (λ h. cc) (λ h. cc)) e

symbol_no_word : (b : ℕ) → symbol_or_nothing b ≡ a_word → ⊥
symbol_no_word b =
    if_not (b == 123) _ _ (λ e. cc) (if_not (b == 125) _ _ (λ e. cc) (if_not (b == 40) _ _ (λ e. cc) (if_not (b == 41) _ _ (λ e. cc) (if_not (b == 44) _ _ (λ e. cc) (if_not (b == 59) _ _ (λ e. cc) (λ e. cc))))))

-- what begins a word begins one whatever follows
pub letter_first : (b : ℕ) (rest other : List ℕ) → begins b rest ≡ a_word → begins b other ≡ a_word
unfolding begins
letter_first b rest other e =
    let l = letter_by (is_blank b) (is_feed b) (is_letter b) (b == 47) (after_slash rest) (symbol_or_nothing b) (slash_no_word rest) (symbol_no_word b) e in
    begins_by (is_blank b) (is_feed b) (is_letter b) (b == 47) (after_slash other) (symbol_or_nothing b) l.0 l.1 l.2

front_by : (p : ℕ → Bool) (x : ℕ) (xs : List ℕ) (b : Bool) → p x ≡ b → AllPass p (take (prefix_len p xs) xs) → AllPass p (take (cond b (1 + prefix_len p xs) 0) (x ∷ xs))
front_by p x xs true e h = rw (one-add (prefix_len p xs)) (All-cons (λ y. p y ≡ true) x (take (prefix_len p xs) xs) e h)
front_by p x xs false e h = All-nil (λ y. p y ≡ true)

pub front_passes : (p : ℕ → Bool) (xs : List ℕ) → AllPass p (front p xs)
front_passes p [] = All-nil (λ y. p y ≡ true)
front_passes p (x ∷ xs) = front_by p x xs (p x) refl (front_passes p xs)

pub words_named : (line : ℕ) (bytes : List ℕ) (ms : List IdlMark) → Reads line bytes ms → Worded (signs_of ms)
words_named line bytes ms (finished l) = tt
words_named line bytes ms (blank l b rest ms' h r) = words_named l rest ms' r
words_named line bytes ms (feed l b rest ms' h r) = words_named (l + 1) rest ms' r
words_named line bytes ms (line_comment l b rest ms' h r) = words_named l (behind (λ c. not (is_feed c)) rest) ms' r
words_named line bytes ms (comment l b c n rest ms' h e r) = words_named (l + count_by is_feed (take n rest)) (drop (n + 2) rest) ms' r
words_named line bytes ms (open_comment l b c rest h e) = tt
words_named line bytes ms (worded l b rest ms' h lt r) =
    (record { head = b; tail = front is_word_byte rest; is = refl; first = λ other. letter_first b rest other h; each = front_passes is_word_byte rest; short = lt }, words_named l (behind is_word_byte rest) ms' r)
words_named line bytes ms (long l b rest h le) = tt
words_named line bytes ms (signed l b rest s ms' h r) = words_named l rest ms' r
words_named line bytes ms (bad_byte l b rest h) = tt

pub named : (line : ℕ) (bytes : List ℕ) (ms : List IdlMark) (i : Interface) → Reads line bytes ms → IsText (signs_of ms) i → Named i
named line bytes ms i r t = text_named (signs_of ms) i t (words_named line bytes ms r)
