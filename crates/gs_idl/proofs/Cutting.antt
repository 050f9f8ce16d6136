-- What the steps through a text are of its marks.
use Rattle.std.proofs.Common.{◌≡◌, ℕ, zero, suc, ◌+◌, ◌<◌, ◌≤◌, Bool, true, false, not, cond, if◌then◌else◌, ◌==◌, List, [], ◌∷◌, length, take, drop, get_or, Option, Some, None, refl, sym, ap, subst, ◌∙◌, arith, drop-cons, length-drop}
use Rattle.std.proofs.lemmas.Bool.{eqb-true}
use Rattle.std.proofs.Math.Numerals.{one-add, add-one}
use Rattle.std.proofs.lemmas.List.{length-take-le, length-take, drop_all}
use Rattle.std.proofs.lemmas.List.Sums.{count_by-le-length, count_by_more_yes, count_by_more_no}
use Rattle.std.specs.List.{prefix_len, count_by}
use Rattle.std.specs.Option.{option_map}
use Rattle.gs_idl.specs.Word.{is_letter, is_word_byte}
use Rattle.gs_idl.specs.Lexicon.{IdlMark, mark, word, bad, is_feed, is_blank, Beginning, symbol_or_nothing, finish, nothing, begins, a_word, a_comment, a_line_comment, a_blank, a_feed, a_symbol, closes, close_at, front, Reads, worded, long, comment, open_comment, line_comment, blank, feed, signed, symbol, bad_byte, finished}
use Rattle.gs_idl.specs.Token.{IsBeginning, further}
use Rattle.gs_idl.specs.declared.token.Symbol.{Symbol}
use Rattle.gs_idl.specs.declared.token.IdlKind.TheVariants.{LongName, OpenComment, BadByte}

-- ---- words

prefix_within : (test : ℕ → Bool) (xs : List ℕ) → prefix_len test xs ≤ length xs
prefix_within test [] = omega arith
prefix_within test (x ∷ xs) = elim (test x) as (λ b. cond b (1 + prefix_len test xs) 0 ≤ suc (length xs)) [ true ↦ omega (arith, prefix_within test xs) | false ↦ omega arith ]

front_length : (test : ℕ → Bool) (xs : List ℕ) → length (front test xs) ≡ prefix_len test xs
front_length test xs = length-take-le (prefix_len test xs) xs (prefix_within test xs)

pub some_begins : (what : Beginning) (bytes : List ℕ) → IsBeginning what bytes → 1 ≤ length bytes
some_begins what [] h = absurd h
some_begins what (b ∷ rest) h = omega arith

pub word_fits : (bytes : List ℕ) (n : ℕ) → IsBeginning a_word bytes → n ≤ length (drop 1 bytes) → 1 + n ≤ length bytes
word_fits bytes n h le = omega (arith, some_begins a_word bytes h, length-drop 1 bytes)

-- the bytes are a word, and then the rest
abbrev pub CutsWord : (line : ℕ) (bytes text rest : List ℕ) → Type 0
CutsWord line bytes text rest = ((ms : List IdlMark) → Reads line rest ms → Reads line bytes (mark line (word text) ∷ ms)) × (length rest < length bytes)

found_here : (line b n : ℕ) (rest : List ℕ) → begins b rest ≡ a_word → n ≡ prefix_len is_word_byte rest → suc n ≤ 64 → CutsWord line (b ∷ rest) (b ∷ take n rest) (drop n rest)
found_here line b n rest h e short = (
  λ ms r. subst (λ (k : ℕ). Reads line (b ∷ rest) (mark line (word (b ∷ take k rest)) ∷ ms)) (sym e)
      (worded line b rest ms h (omega (arith, front_length is_word_byte rest)) (subst (λ (k : ℕ). Reads line (drop k rest) ms) e r)),
  omega (arith, length-drop n rest),
)

pub word_found : (line n : ℕ) (bytes text rest : List ℕ) → IsBeginning a_word bytes → n ≡ prefix_len is_word_byte (drop 1 bytes) → 1 + n ≤ 64
    → text ≡ take (1 + n) bytes → rest ≡ drop (1 + n) bytes → CutsWord line bytes text rest
word_found line n [] text rest h e short t r = absurd h
word_found line n (b ∷ us) text rest h e short t r =
    let t' : text ≡ b ∷ take n us = t ∙ ap (λ (k : ℕ). take k (b ∷ us)) (one-add n) in
    let r' : rest ≡ drop n us = r ∙ ap (λ (k : ℕ). drop k (b ∷ us)) (one-add n) in
    subst (λ (x : List ℕ). CutsWord line (b ∷ us) x rest) (sym t') (subst (λ (x : List ℕ). CutsWord line (b ∷ us) (b ∷ take n us) x) (sym r') (found_here line b n us h e (omega arith)))

pub word_long : (line n : ℕ) (bytes : List ℕ) → IsBeginning a_word bytes → n ≡ prefix_len is_word_byte (drop 1 bytes) → 64 < 1 + n
    → Reads line bytes (mark line (bad LongName) ∷ [])
word_long line n [] h e far = absurd h
word_long line n (b ∷ rest) h e far =
    let same : n ≡ prefix_len is_word_byte rest = e in
    long line b rest h (omega (arith, front_length is_word_byte rest))

-- ---- comments

close_cons : (b : ℕ) (rest : List ℕ) → close_at (b ∷ rest) ≡ (if closes (b ∷ rest) then Some 0 else option_map suc (close_at rest))
unfolding close_at
close_cons b rest = refl

pub close_none : close_at [] ≡ None
unfolding close_at
close_none = refl

first_of_drop : (i : ℕ) (xs : List ℕ) → i < length xs → drop i xs ≡ get_or xs i 0 ∷ drop (i + 1) xs
first_of_drop i xs h = rw (add-one i) (drop-cons xs i 0 h)

pub close_here : (i : ℕ) (xs : List ℕ) → i < length xs → closes (drop i xs) ≡ true → close_at (drop i xs) ≡ Some 0
close_here i xs h e =
    let is = first_of_drop i xs h in
    let t : closes (get_or xs i 0 ∷ drop (i + 1) xs) ≡ true = subst (λ (ys : List ℕ). closes ys ≡ true) is e in
    ap close_at is ∙ close_cons (get_or xs i 0) (drop (i + 1) xs) ∙ ap (λ (b : Bool). if b then Some 0 else option_map suc (close_at (drop (i + 1) xs))) t

pub close_later : (i : ℕ) (xs : List ℕ) → i < length xs → closes (drop i xs) ≡ false → close_at (drop i xs) ≡ option_map suc (close_at (drop (i + 1) xs))
close_later i xs h e =
    let is = first_of_drop i xs h in
    let t : closes (get_or xs i 0 ∷ drop (i + 1) xs) ≡ false = subst (λ (ys : List ℕ). closes ys ≡ false) is e in
    ap close_at is ∙ close_cons (get_or xs i 0) (drop (i + 1) xs) ∙ ap (λ (b : Bool). if b then Some 0 else option_map suc (close_at (drop (i + 1) xs))) t

shifted : (i : ℕ) (o : Option ℕ) → further i (option_map suc o) ≡ further (i + 1) o
shifted i None = refl
shifted i (Some n) = ap Some (let e : i + suc n ≡ (i + 1) + n = omega arith in e)

pub close_step : (i : ℕ) (xs : List ℕ) → i < length xs → closes (drop i xs) ≡ false → close_at xs ≡ further i (close_at (drop i xs))
    → close_at xs ≡ further (i + 1) (close_at (drop (i + 1) xs))
close_step i xs h e was = was ∙ ap (further i) (close_later i xs h e) ∙ shifted i (close_at (drop (i + 1) xs))

pub close_found : (i : ℕ) (xs : List ℕ) → i < length xs → closes (drop i xs) ≡ true → close_at xs ≡ further i (close_at (drop i xs)) → Some i ≡ close_at xs
close_found i xs h e was = sym (was ∙ ap (further i) (close_here i xs h e) ∙ ap Some (let f : i + 0 ≡ i = omega arith in f))

pub close_missing : (i : ℕ) (xs : List ℕ) → length xs ≤ i → close_at xs ≡ further i (close_at (drop i xs)) → None ≡ close_at xs
close_missing i xs h was = sym (was ∙ ap (further i) (ap close_at (drop_all i xs h) ∙ close_none))

pub closes_two : (xs : List ℕ) → closes xs ≡ true → 2 ≤ length xs
closes_two [] e = absurd cc
closes_two (x ∷ []) e = absurd cc
closes_two (x ∷ y ∷ xs) e = omega arith

either : {A : Type 0} (P : A → Type 0) (t : Bool) (x y : A) → P x → P y → P (if t then x else y)
either P true x y h k = h
either P false x y h k = k

abbrev IsNoComment : Beginning → Type 0
IsNoComment x = x ≡ a_comment → ⊥

symbol_no_comment : (b : ℕ) → IsNoComment (symbol_or_nothing b)
symbol_no_comment b =
    either IsNoComment (b == 123) _ _ (λ e. cc) (either IsNoComment (b == 125) _ _ (λ e. cc) (either IsNoComment (b == 40) _ _ (λ e. cc) (either IsNoComment (b == 41) _ _ (λ e. cc) (either IsNoComment (b == 44) _ _ (λ e. cc) (either IsNoComment (b == 59) _ _ (λ e. cc) (λ e. cc))))))

no_comment_alone : (b : ℕ) → IsNoComment (begins b [])
unfolding begins
no_comment_alone b =
    either IsNoComment (is_blank b) _ _ (λ e. cc) (either IsNoComment (is_feed b) _ _ (λ e. cc) (either IsNoComment (is_letter b) _ _ (λ e. cc) (either IsNoComment (b == 47) _ _ (λ e. cc) (symbol_no_comment b))))

pub two_begin : (bytes : List ℕ) → IsBeginning a_comment bytes → 2 ≤ length bytes
two_begin [] h = absurd h
two_begin (b ∷ []) h = absurd (no_comment_alone b h)
two_begin (b ∷ c ∷ rest) h = omega arith

-- the bytes are passed, up to the rest on the next line
abbrev pub Passes : (line : ℕ) (bytes : List ℕ) (next : ℕ) (rest : List ℕ) → Type 0
Passes line bytes next rest = ((ms : List IdlMark) → Reads next rest ms → Reads line bytes ms) × (length rest < length bytes) × (next + length rest ≤ line + length bytes)

feeds_within : (n : ℕ) (xs : List ℕ) → count_by is_feed (take n xs) ≤ n
feeds_within n xs = omega (arith, count_by-le-length is_feed (take n xs), length-take n xs)

closed_here : (line b c n : ℕ) (rest : List ℕ) → begins b (c ∷ rest) ≡ a_comment → close_at rest ≡ Some n → n + 2 ≤ length rest
    → Passes line (b ∷ c ∷ rest) (line + count_by is_feed (take n rest)) (drop (n + 2) rest)
closed_here line b c n rest h e within =
    (λ ms r. comment line b c n rest ms h e r, omega (arith, length-drop (n + 2) rest), omega (arith, length-drop (n + 2) rest, feeds_within n rest))

pub comment_closed : (line n feeds : ℕ) (bytes inside rest : List ℕ) → IsBeginning a_comment bytes → inside ≡ drop 2 bytes → Some n ≡ close_at inside → feeds ≡ count_by is_feed (take n inside)
    → n + 2 ≤ length inside → rest ≡ drop (n + 4) bytes → Passes line bytes (line + feeds) rest
comment_closed line n feeds [] inside rest h i e f le r = absurd h
comment_closed line n feeds (b ∷ []) inside rest h i e f le r = absurd (no_comment_alone b h)
comment_closed line n feeds (b ∷ c ∷ us) inside rest h i e f le r =
    let inside_is : inside ≡ us = i in
    let d : n + 4 ≡ suc (suc (n + 2)) = omega arith in
    let rest_is : rest ≡ drop (n + 2) us = r ∙ ap (λ (k : ℕ). drop k (b ∷ c ∷ us)) d in
    let feeds_is : feeds ≡ count_by is_feed (take n us) = f ∙ ap (λ (x : List ℕ). count_by is_feed (take n x)) inside_is in
    let here = closed_here line b c n us h (ap close_at (sym inside_is) ∙ sym e) (subst (λ (x : List ℕ). n + 2 ≤ length x) inside_is le) in
    subst (λ (x : List ℕ). Passes line (b ∷ c ∷ us) (line + feeds) x) (sym rest_is) (subst (λ (k : ℕ). Passes line (b ∷ c ∷ us) (line + k) (drop (n + 2) us)) (sym feeds_is) here)

pub comment_open : (line : ℕ) (bytes inside : List ℕ) → IsBeginning a_comment bytes → inside ≡ drop 2 bytes → None ≡ close_at inside → Reads line bytes (mark line (bad OpenComment) ∷ [])
comment_open line [] inside h i e = absurd h
comment_open line (b ∷ []) inside h i e = absurd (no_comment_alone b h)
comment_open line (b ∷ c ∷ rest) inside h i e = open_comment line b c rest h (let is : inside ≡ rest = i in ap close_at (sym is) ∙ sym e)

counted_as : (n i : ℕ) (xs : List ℕ) (t : Bool) → i < length xs → n ≡ count_by is_feed (take i xs) → is_feed (get_or xs i 0) ≡ t → n + cond t 1 0 ≡ count_by is_feed (take (i + 1) xs)
counted_as n i xs true h e is = omega (arith, count_by_more_yes is_feed xs i 0 h is)
counted_as n i xs false h e is = omega (arith, count_by_more_no is_feed xs i 0 h is)

pub counted_more : (m n i : ℕ) (xs : List ℕ) → i < length xs → n ≡ count_by is_feed (take i xs) → m ≡ n + cond (is_feed (get_or xs i 0)) 1 0 → m ≡ count_by is_feed (take (i + 1) xs)
counted_more m n i xs h e is = is ∙ counted_as n i xs (is_feed (get_or xs i 0)) h e refl

pub cond_few : (t : Bool) → cond t 1 0 ≤ 1
cond_few true = omega arith
cond_few false = omega arith

-- ---- other pieces

pub split_one : (bytes rest : List ℕ) → 1 ≤ length bytes → rest ≡ drop 1 bytes → bytes ≡ get_or bytes 0 0 ∷ rest
split_one [] rest h e = absurd (omega arith)
split_one (b ∷ us) rest h e = ap (λ (x : List ℕ). b ∷ x) (sym e)

pub some_left : (n : ℕ) → false ≡ (n == 0) → 1 ≤ n
some_left zero e = absurd (let f : false ≡ true = e in cc)
some_left (suc n) e = omega arith

pub closes_within : (i : ℕ) (xs rest : List ℕ) → rest ≡ drop i xs → closes rest ≡ true → i + 2 ≤ length xs
closes_within i xs rest e h = let le : 2 ≤ length (drop i xs) = subst (λ (x : List ℕ). 2 ≤ length x) e (closes_two rest h) in omega (arith, length-drop i xs)

pub comment_fits : (n : ℕ) (bytes inside : List ℕ) → inside ≡ drop 2 bytes → n + 2 ≤ length inside → n + 4 ≤ length bytes
comment_fits n bytes inside e h = let le : n + 2 ≤ length (drop 2 bytes) = subst (λ (x : List ℕ). n + 2 ≤ length x) e h in omega (arith, length-drop 2 bytes)

pub nothing_left : (line : ℕ) (bytes : List ℕ) → true ≡ (length bytes == 0) → Reads line bytes (mark line finish ∷ [])
nothing_left line [] e = finished line
nothing_left line (b ∷ bytes) e = absurd (let f : length (b ∷ bytes) ≡ 0 = eqb-true (length (b ∷ bytes)) 0 (sym e) in omega arith)

pub line_passed : (line b n : ℕ) (bytes rest left : List ℕ) → bytes ≡ b ∷ rest → begins b rest ≡ a_line_comment → n ≡ prefix_len (λ c. not (is_feed c)) rest → left ≡ drop n rest → Passes line bytes line left
line_passed line b n bytes rest left is h e r =
    let r' : left ≡ drop (prefix_len (λ c. not (is_feed c)) rest) rest = r ∙ ap (λ (k : ℕ). drop k rest) e in
    let here : Passes line (b ∷ rest) line (drop (prefix_len (λ c. not (is_feed c)) rest) rest) =
    (λ ms q. line_comment line b rest ms h q, omega (arith, length-drop (prefix_len (λ c. not (is_feed c)) rest) rest), omega (arith, length-drop (prefix_len (λ c. not (is_feed c)) rest) rest)) in
    subst (λ (x : List ℕ). Passes line x line left) (sym is) (subst (λ (x : List ℕ). Passes line (b ∷ rest) line x) (sym r') here)

pub blank_passed : (line b : ℕ) (bytes rest : List ℕ) → bytes ≡ b ∷ rest → begins b rest ≡ a_blank → Passes line bytes line rest
blank_passed line b bytes rest is h =
    let here : Passes line (b ∷ rest) line rest = (λ ms q. blank line b rest ms h q, omega arith, omega arith) in
    subst (λ (x : List ℕ). Passes line x line rest) (sym is) here

pub feed_passed : (line b : ℕ) (bytes rest : List ℕ) → bytes ≡ b ∷ rest → begins b rest ≡ a_feed → Passes line bytes (line + 1) rest
feed_passed line b bytes rest is h =
    let here : Passes line (b ∷ rest) (line + 1) rest = (λ ms q. feed line b rest ms h q, omega arith, omega arith) in
    subst (λ (x : List ℕ). Passes line x (line + 1) rest) (sym is) here

pub symbol_found : (line b : ℕ) (bytes rest : List ℕ) (s : Symbol) → bytes ≡ b ∷ rest → begins b rest ≡ a_symbol s
    → ((ms : List IdlMark) → Reads line rest ms → Reads line bytes (mark line (symbol s) ∷ ms)) × (length rest < length bytes)
symbol_found line b bytes rest s is h =
    let here : ((ms : List IdlMark) → Reads line rest ms → Reads line (b ∷ rest) (mark line (symbol s) ∷ ms)) × (length rest < length (b ∷ rest)) = (λ ms q. signed line b rest s ms h q, omega arith) in
    subst (λ (x : List ℕ). ((ms : List IdlMark) → Reads line rest ms → Reads line x (mark line (symbol s) ∷ ms)) × (length rest < length x)) (sym is) here

pub bad_found : (line b : ℕ) (bytes rest : List ℕ) → bytes ≡ b ∷ rest → begins b rest ≡ nothing → Reads line bytes (mark line (bad BadByte) ∷ [])
bad_found line b bytes rest is h = subst (λ (x : List ℕ). Reads line x (mark line (bad BadByte) ∷ [])) (sym is) (bad_byte line b rest h)
