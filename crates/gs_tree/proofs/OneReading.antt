-- A text has one list of tokens at most.
use Rattle.std.proofs.Common.{◌≡◌, ◌≢◌, ℕ, pos, ◌+◌, ◌<◌, ◌≤◌, ◌⊎◌, inl, inr, Bool, true, false, ◌&&◌, List, [], ◌∷◌, length, take, drop, slice_index, eqb, refl, ap, sym, ◌∙◌, subst, arith}
use Rattle.std.specs.Prelude.{nat_le, count_by, if◌then◌else◌}
use Rattle.std.specs.List.{take_while}
use Rattle.std.proofs.lemmas.Bool.{eqb-true, ne_eqb, eq-eqb, cases_lt, le-leb}
use Rattle.std.proofs.lemmas.Bool.Decides.{leb_tells}
use Rattle.std.proofs.Math.Dec.{leb}
use Rattle.gs_tree.specs.declared.token.LexKind.{LexKind}
use Rattle.gs_tree.specs.declared.token.LexKind.TheVariants.{BadByte, OpenComment, LongName, BadNumber, WideNumber}
use Rattle.gs_tree.specs.Bytes.{is_blank, is_in_line, is_line_feed, is_letter, is_digit, is_name_byte, is_double, is_single, leading, decimal, EndsAt, EndsFirst}
use Rattle.gs_tree.specs.Quoted.{Quotes, Quoted, closed, broken}
use Rattle.gs_tree.specs.Lexeme.{Kind, Lexeme, word, numeral, literal, symbol}
use Rattle.gs_tree.specs.Lexicon.{greatest, is_include, IsGap, IsToken, IsFault, Lexes, end, gap, token, stop, IsLexed}
use Rattle.gs_tree.specs.Lexicon as grammar
use Rattle.gs_tree.proofs.Classes.{include_first}
use Rattle.gs_tree.proofs.ByteClasses.{IsApart, letter-blank, digit-blank, digit-letter, single-apart, double-apart, slash-apart, quote-apart, hash-apart, hash-double, is_blank-line_feed}
use Rattle.gs_tree.proofs.OneString.{quotes_once}

-- what stands first
data First : Type 0 where
  a_gap : (count lines : ℕ) (stays_fresh : Bool) → First
  a_token : Kind → (count : ℕ) → First
  a_fault : LexKind → First

-- how it begins
data Class : Type 0 where
  line_ends : Class
  blanks : Class
  letters : Class
  digits : Class
  quotes : Class
  line_comments : Class
  block_comments : Class
  doubles : Class
  singles : Class
  includes : Class
  others : Class

opening : (includes : Bool) (a b : ℕ) → Class
opening i a b =
    if eqb a 10 then line_ends else (if is_blank a then blanks else (if is_letter a then letters else (if is_digit a then digits else (
    if eqb a 34 then quotes else (if eqb a 47 && eqb b 47 then line_comments else (if eqb a 47 && eqb b 42 then block_comments else (
    if is_double a b then doubles else (if is_single a then singles else (if i then includes else others)))))))))

no_line_end : (a : ℕ) → is_blank a ≡ false → eqb a 10 ≡ false
no_line_end a h = ne_eqb a 10 (λ e. let f : is_blank 10 ≡ false = subst (λ (x : ℕ). is_blank x ≡ false) e h in let y = is_blank-line_feed in cc)

open_line_end : (i : Bool) (a b : ℕ) → a ≡ 10 → opening i a b ≡ line_ends
unfolding opening
open_line_end i a b e = rw e refl

open_blank : (i : Bool) (a b : ℕ) → is_blank a ≡ true → a ≢ 10 → opening i a b ≡ blanks
unfolding opening
open_blank i a b h n = let n' = ne_eqb a 10 n in rw (n', h) refl

open_letter : (i : Bool) (a b : ℕ) → is_letter a ≡ true → opening i a b ≡ letters
unfolding opening
open_letter i a b h = let k = letter-blank a h in let n = no_line_end a k in rw (n, k, h) refl

open_digit : (i : Bool) (a b : ℕ) → is_digit a ≡ true → opening i a b ≡ digits
unfolding opening
open_digit i a b h = let k = digit-blank a h in let n = no_line_end a k in let l = digit-letter a h in rw (n, k, l, h) refl

open_quote : (i : Bool) (a b : ℕ) → a ≡ 34 → opening i a b ≡ quotes
unfolding opening
open_quote i a b e = let k = quote-apart.0 in let l = quote-apart.1 in let d = quote-apart.2 in rw (e, k, l, d) refl

open_line_comment : (i : Bool) (a b : ℕ) → a ≡ 47 → b ≡ 47 → opening i a b ≡ line_comments
unfolding opening
open_line_comment i a b e f =
    let k = slash-apart.no_blank in let l = slash-apart.no_letter in let d = slash-apart.no_digit in rw (e, f, k, l, d) refl

open_block_comment : (i : Bool) (a b : ℕ) → a ≡ 47 → b ≡ 42 → opening i a b ≡ block_comments
unfolding opening
open_block_comment i a b e f =
    let k = slash-apart.no_blank in let l = slash-apart.no_letter in let d = slash-apart.no_digit in rw (e, f, k, l, d) refl

open_double : (i : Bool) (a b : ℕ) → is_double a b ≡ true → opening i a b ≡ doubles
unfolding opening
open_double i a b h =
    let o = (double-apart a b h).0 in
    let n = no_line_end a o.no_blank in let k = o.no_blank in let l = o.no_letter in let d = o.no_digit in let u = o.no_quote in let s = (double-apart a b h).1 in
    rw (n, k, l, d, u, s, h) refl

both_false : (x : Bool) (a b v : ℕ) → eqb a 47 ≡ x → (a ≡ 47 → b ≢ v) → (x && eqb b v) ≡ false
both_false true a b v e h = ne_eqb b v (h (eqb-true a 47 e))
both_false false a b v e h = refl

open_rest : (i : Bool) (a b : ℕ) → IsApart a → (a ≡ 47 → (b ≢ 47) × (b ≢ 42)) → is_double a b ≡ false → opening i a b ≡ (if is_single a then singles else (if i then includes else others))
unfolding opening
open_rest i a b o c h =
    let n = no_line_end a o.no_blank in let k = o.no_blank in let l = o.no_letter in let d = o.no_digit in let u = o.no_quote in
    let x = both_false (eqb a 47) a b 47 refl (λ e. (c e).0) in
    let y = both_false (eqb a 47) a b 42 refl (λ e. (c e).1) in
    rw (n, k, l, d, u, x, y, h) refl

open_single : (i : Bool) (a b : ℕ) → is_single a ≡ true → is_double a b ≡ false → (a ≡ 47 → (b ≢ 47) × (b ≢ 42)) → opening i a b ≡ singles
open_single i a b h n c = open_rest i a b (single-apart a h) c n ∙ (rw h refl)

both_tests : (x y : Bool) → x ≡ false → y ≡ true → (if x then singles else (if y then includes else others)) ≡ includes
both_tests x y e f = rw (e, f) refl

open_include : (f : Bool) (bytes : List ℕ) → is_include f bytes ≡ true → opening (is_include f bytes) (slice_index bytes 0) (slice_index bytes 1) ≡ includes
open_include f bytes h =
    let e = include_first f bytes h in
    let o : IsApart (slice_index bytes 0) = subst (λ (x : ℕ). IsApart x) (sym e) hash-apart.0 in
    let s : is_single (slice_index bytes 0) ≡ false = subst (λ (x : ℕ). is_single x ≡ false) (sym e) hash-apart.1 in
    let d : is_double (slice_index bytes 0) (slice_index bytes 1) ≡ false = subst (λ (x : ℕ). is_double x (slice_index bytes 1) ≡ false) (sym e) (hash-double (slice_index bytes 1)) in
    open_rest (is_include f bytes) (slice_index bytes 0) (slice_index bytes 1) o (λ g. absurd (omega arith)) d ∙ both_tests (is_single (slice_index bytes 0)) (is_include f bytes) s h

quoted_first : Quoted → First
quoted_first (closed value count) = a_token (literal value) (1 + count)
quoted_first (broken kind) = a_fault kind

-- what stands first, where it begins so
Meant : Bool → List ℕ → Class → First → Type 0
Meant f bytes line_ends x = x ≡ a_gap 1 1 true
Meant f bytes blanks x = x ≡ a_gap 1 0 f
Meant f bytes letters x = x ≡ (if nat_le (leading is_name_byte bytes) 64 then a_token word (leading is_name_byte bytes) else a_fault LongName)
Meant f bytes digits x =
    x ≡ (if eqb (slice_index bytes 0) 48 && is_digit (slice_index bytes 1) then a_fault BadNumber else (
    if nat_le (decimal (take_while is_digit bytes)) greatest then a_token (numeral (pos (decimal (take_while is_digit bytes)))) (leading is_digit bytes) else a_fault WideNumber))
Meant f bytes quotes x = (q : Quoted) × (Quotes 1024 (drop 1 bytes) q) × (x ≡ quoted_first q)
Meant f bytes line_comments x = x ≡ a_gap (2 + leading is_in_line (drop 2 bytes)) 0 false
Meant f bytes block_comments x =
    ((n : ℕ) × (EndsFirst (drop 2 bytes) n) × (x ≡ a_gap (2 + n + 2) (count_by is_line_feed (take n (drop 2 bytes))) false))
    ⊎ (((k : ℕ) → ¬ EndsAt (drop 2 bytes) k) × (x ≡ a_fault OpenComment))
Meant f bytes doubles x = x ≡ a_token symbol 2
Meant f bytes singles x = x ≡ a_token symbol 1
Meant f bytes includes x = x ≡ a_gap (leading is_in_line bytes) 0 false
Meant f bytes others x = (0 < length bytes) × (x ≡ a_fault BadByte)

ends_once : (bytes : List ℕ) (n m : ℕ) → EndsFirst bytes n → EndsFirst bytes m → (n < m) ⊎ (m ≤ n) → (m < n) ⊎ (n ≤ m) → n ≡ m
ends_once bytes n m a b (inl h) other = absurd (b.before n h a.here)
ends_once bytes n m a b (inr h) (inl k) = absurd (a.before m k b.here)
ends_once bytes n m a b (inr h) (inr k) = omega arith

meant_once : (f : Bool) (bytes : List ℕ) (c : Class) (x y : First) → Meant f bytes c x → Meant f bytes c y → x ≡ y
unfolding Meant
meant_once f bytes line_ends x y a b = a ∙ sym b
meant_once f bytes blanks x y a b = a ∙ sym b
meant_once f bytes letters x y a b = a ∙ sym b
meant_once f bytes digits x y a b = a ∙ sym b
meant_once f bytes quotes x y a b = a.2 ∙ ap quoted_first (quotes_once 1024 (drop 1 bytes) a.0 b.0 a.1 b.1) ∙ sym b.2
meant_once f bytes line_comments x y a b = a ∙ sym b
meant_once f bytes block_comments x y (inl a) (inl b) =
    let e = ends_once (drop 2 bytes) a.0 b.0 a.1 b.1 (cases_lt a.0 b.0) (cases_lt b.0 a.0) in
    a.2 ∙ ap (λ n. a_gap (2 + n + 2) (count_by is_line_feed (take n (drop 2 bytes))) false) e ∙ sym b.2
meant_once f bytes block_comments x y (inl a) (inr b) = absurd (b.0 a.0 a.1.here)
meant_once f bytes block_comments x y (inr a) (inl b) = absurd (a.0 b.0 b.1.here)
meant_once f bytes block_comments x y (inr a) (inr b) = a.1 ∙ sym b.1
meant_once f bytes doubles x y a b = a ∙ sym b
meant_once f bytes singles x y a b = a ∙ sym b
meant_once f bytes includes x y a b = a ∙ sym b
meant_once f bytes others x y a b = a.1 ∙ sym b.1

-- what stands first in these bytes
Stands : Bool → List ℕ → First → Type 0
Stands f bytes x = Meant f bytes (opening (is_include f bytes) (slice_index bytes 0) (slice_index bytes 1)) x

stands : (f : Bool) (bytes : List ℕ) (c : Class) (x : First) → opening (is_include f bytes) (slice_index bytes 0) (slice_index bytes 1) ≡ c → Meant f bytes c x → Stands f bytes x
unfolding Stands
stands f bytes c x e h = subst (λ k. Meant f bytes k x) (sym e) h

gap_stands : (f g : Bool) (bytes : List ℕ) (n m : ℕ) → IsGap f bytes n m g → Stands f bytes (a_gap n m g)
unfolding Meant
gap_stands f g bytes n m (grammar.IsGap.blank r b h e) = stands f bytes blanks _ (open_blank _ _ _ h e) refl
gap_stands f g bytes n m (grammar.IsGap.line_end r b e) = stands f bytes line_ends _ (open_line_end _ _ _ e) refl
gap_stands f g bytes n m (grammar.IsGap.line_comment r b d e) = stands f bytes line_comments _ (open_line_comment _ _ _ d e) refl
gap_stands f g bytes n m (grammar.IsGap.block_comment r b k d e h) = stands f bytes block_comments _ (open_block_comment _ _ _ d e) (inl (k, h, refl))
gap_stands f g bytes n m (grammar.IsGap.include r b h) = stands f bytes includes _ (open_include f bytes h) refl

within_limit : (a b : ℕ) (x y : First) → a ≤ b → x ≡ (if nat_le a b then x else y)
within_limit a b x y h = let e = le-leb a b h in rw e refl

beyond_limit : (a b : ℕ) (x y : First) → b < a → y ≡ (if nat_le a b then x else y)
beyond_limit a b x y h = by_test (leb a b) (leb_tells a b)
  where
    by_test : (t : Bool) → ((t ≡ true) × (a ≤ b)) ⊎ ((t ≡ false) × (b < a)) → y ≡ (if t then x else y)
    by_test t (inl (e, l)) = absurd (omega arith)
    by_test t (inr (e, l)) = rw e refl

past_zero : (a b : ℕ) (x y z : First) → (a ≡ 48 → is_digit b ≡ false) → x ≡ z → x ≡ (if eqb a 48 && is_digit b then y else z)
past_zero a b x y z h e = by_test (eqb a 48) (eqb-true a 48)
  where
    by_test : (t : Bool) → (t ≡ true → a ≡ 48) → x ≡ (if t && is_digit b then y else z)
    by_test true k = let d = h (k refl) in rw d e
    by_test false k = e

leading_zero : (a b : ℕ) (x y : First) → a ≡ 48 → is_digit b ≡ true → x ≡ (if eqb a 48 && is_digit b then x else y)
leading_zero a b x y e d = let t = eq-eqb a 48 e in rw (t, d) refl

zero_digit : (a : ℕ) → a ≡ 48 → is_digit a ≡ true
unfolding is_digit
zero_digit a e = rw e refl

slash_single : (a : ℕ) → a ≡ 47 → is_single a ≡ true
unfolding is_single
slash_single a e = rw e refl

open_other : (i : Bool) (a b : ℕ) → IsApart a → is_double a b ≡ false → is_single a ≡ false → i ≡ false → opening i a b ≡ others
open_other i a b o d s n = open_rest i a b o (λ e. let y = slash_single a e in absurd (cc)) d ∙ (rw (s, n) refl)

token_stands : (f : Bool) (bytes : List ℕ) (kind : Kind) (n : ℕ) → IsToken bytes kind n → Stands f bytes (a_token kind n)
unfolding Meant quoted_first
token_stands f bytes kind n (grammar.IsToken.name b h few) = stands f bytes letters _ (open_letter _ _ _ h) (within_limit _ _ _ _ few)
token_stands f bytes kind n (grammar.IsToken.number b h one few) = stands f bytes digits _ (open_digit _ _ _ h) (past_zero _ _ _ _ _ one (within_limit _ _ _ _ few))
token_stands f bytes kind n (grammar.IsToken.string b v k e h) = stands f bytes quotes _ (open_quote _ _ _ e) (closed v k, h, refl)
token_stands f bytes kind n (grammar.IsToken.double b h) = stands f bytes doubles _ (open_double _ _ _ h) refl
token_stands f bytes kind n (grammar.IsToken.single b h one c) = stands f bytes singles _ (open_single _ _ _ h one c) refl

fault_stands : (f : Bool) (bytes : List ℕ) (kind : LexKind) → IsFault f bytes kind → Stands f bytes (a_fault kind)
unfolding Meant quoted_first
fault_stands f bytes kind (grammar.IsFault.comment r b d e h) = stands f bytes block_comments _ (open_block_comment _ _ _ d e) (inr (h, refl))
fault_stands f bytes kind (grammar.IsFault.long_name r b h many) = stands f bytes letters _ (open_letter _ _ _ h) (beyond_limit _ _ _ _ many)
fault_stands f bytes kind (grammar.IsFault.zero_first r b e d) = stands f bytes digits _ (open_digit _ _ _ (zero_digit (slice_index bytes 0) e)) (leading_zero _ _ _ _ e d)
fault_stands f bytes kind (grammar.IsFault.wide r b h one many) = stands f bytes digits _ (open_digit _ _ _ h) (past_zero _ _ _ _ _ one (beyond_limit _ _ _ _ many))
fault_stands f bytes kind (grammar.IsFault.string r b k e h) = stands f bytes quotes _ (open_quote _ _ _ e) (broken k, h, refl)
fault_stands f bytes kind (grammar.IsFault.byte r b some no_blank no_letter no_digit no_quote no_double no_single no_include) =
    stands f bytes others _ (open_other (is_include f bytes) (slice_index bytes 0) (slice_index bytes 1) (record { no_blank = no_blank; no_letter = no_letter; no_digit = no_digit; no_quote = ne_eqb (slice_index bytes 0) 34 no_quote }) no_double no_single no_include) (some, refl)

once : (f : Bool) (bytes : List ℕ) (x y : First) → Stands f bytes x → Stands f bytes y → x ≡ y
unfolding Stands
once f bytes x y a b = meant_once f bytes (opening (is_include f bytes) (slice_index bytes 0) (slice_index bytes 1)) x y a b

-- nothing stands where no byte is left
none_stands : (f : Bool) (bytes : List ℕ) (x : First) → length bytes ≡ 0 → Stands f bytes x → ⊥
unfolding Meant Stands opening is_blank is_letter is_digit is_double is_single
none_stands f [] x e h = at_end f (is_include f []) refl h
  where
    at_end : (f : Bool) (i : Bool) → is_include f [] ≡ i → Meant f [] (if i then includes else others) x → ⊥
    at_end f true q h = absurd (let z = include_first f [] q in omega arith)
    at_end f false q h = omega (arith, h.0)
none_stands f (b ∷ bytes) x e h = omega arith

-- what the rest says is one thing
reads_once : (at line : ℕ) (f : Bool) (bytes : List ℕ) (a b : List Lexeme) → Lexes at line f bytes a → Lexes at line f bytes b → a ≡ b
reads_once at line f bytes a b (end t l g s e) (end t' l' g' s' e') = refl
reads_once at line f bytes a b (end t l g s e) (gap t' l' n m g' k s' y h r) = absurd (none_stands f bytes _ e (gap_stands f k bytes n m h))
reads_once at line f bytes a b (end t l g s e) (token t' l' n g' s' kind y h r) = absurd (none_stands f bytes _ e (token_stands f bytes kind n h))
reads_once at line f bytes a b (end t l g s e) (stop t' l' g' s' kind h) = absurd (none_stands f bytes _ e (fault_stands f bytes kind h))
reads_once at line f bytes a b (gap t l n m g k s x h r) (end t' l' g' s' e) = absurd (none_stands f bytes _ e (gap_stands f k bytes n m h))
reads_once at line f bytes a b (gap t l n m g k s x h r) (gap t' l' n' m' g' k' s' y h' r') =
    let e = once f bytes _ _ (gap_stands f k bytes n m h) (gap_stands f k' bytes n' m' h') in
    let en : n ≡ n' = cc in
    let em : m ≡ m' = cc in
    let ek : k ≡ k' = cc in
    let r2 : Lexes (at + n) (line + m) k (drop n bytes) y = rw (en, em, ek) r' in
    reads_once (at + n) (line + m) k (drop n bytes) x y r r2
reads_once at line f bytes a b (gap t l n m g k s x h r) (token t' l' n' g' s' kind y h' r') = absurd (let e = once f bytes _ _ (gap_stands f k bytes n m h) (token_stands f bytes kind n' h') in cc)
reads_once at line f bytes a b (gap t l n m g k s x h r) (stop t' l' g' s' kind h') = absurd (let e = once f bytes _ _ (gap_stands f k bytes n m h) (fault_stands f bytes kind h') in cc)
reads_once at line f bytes a b (token t l n g s kind x h r) (end t' l' g' s' e) = absurd (none_stands f bytes _ e (token_stands f bytes kind n h))
reads_once at line f bytes a b (token t l n g s kind x h r) (gap t' l' n' m' g' k' s' y h' r') = absurd (let e = once f bytes _ _ (token_stands f bytes kind n h) (gap_stands f k' bytes n' m' h') in cc)
reads_once at line f bytes a b (token t l n g s kind x h r) (token t' l' n' g' s' kind' y h' r') =
    let e = once f bytes _ _ (token_stands f bytes kind n h) (token_stands f bytes kind' n' h') in
    let en : n ≡ n' = cc in
    let ek : kind ≡ kind' = cc in
    let r2 : Lexes (at + n) line false (drop n bytes) y = rw en r' in
    let rest = reads_once (at + n) line false (drop n bytes) x y r r2 in
    rw (ek, en, rest) refl
reads_once at line f bytes a b (token t l n g s kind x h r) (stop t' l' g' s' kind' h') = absurd (let e = once f bytes _ _ (token_stands f bytes kind n h) (fault_stands f bytes kind' h') in cc)
reads_once at line f bytes a b (stop t l g s kind h) (end t' l' g' s' e) = absurd (none_stands f bytes _ e (fault_stands f bytes kind h))
reads_once at line f bytes a b (stop t l g s kind h) (gap t' l' n' m' g' k' s' y h' r') = absurd (let e = once f bytes _ _ (fault_stands f bytes kind h) (gap_stands f k' bytes n' m' h') in cc)
reads_once at line f bytes a b (stop t l g s kind h) (token t' l' n' g' s' kind' y h' r') = absurd (let e = once f bytes _ _ (fault_stands f bytes kind h) (token_stands f bytes kind' n' h') in cc)
reads_once at line f bytes a b (stop t l g s kind h) (stop t' l' g' s' kind' h') =
    let e = once f bytes _ _ (fault_stands f bytes kind h) (fault_stands f bytes kind' h') in
    let ek : kind ≡ kind' = cc in
    rw ek refl

-- a text has one list of tokens at most
pub one_reading : (text : List ℕ) (a b : List Lexeme) → IsLexed text a → IsLexed text b → a ≡ b
one_reading text a b h k = reads_once 0 1 true text a b h k
