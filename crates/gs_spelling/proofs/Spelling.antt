-- The names, numbers and strings of a text are spelled.
use Rattle.std.proofs.Common.{◌≡◌, ℕ, ◌+◌, ◌-◌, ◌<◌, ◌≤◌, Bool, true, false, eqb, List, [], ◌∷◌, length, length-take, take, drop, drop-drop, slice_index, get_or-take, Option, Some, None, refl, ap, ◌∙◌, subst, arith}
use Rattle.std.specs.Prelude.{All, if◌then◌else◌}
use Rattle.std.specs.List.{take_while, prefix_len, AllPass}
use Rattle.std.proofs.lemmas.List.Sums.{prefix_len_passes}
use Rattle.std.proofs.lemmas.List.Elements.{All-nil, All-cons}
use Rattle.gs_tree.specs.declared.sign.Keyword.{Keyword}
use Rattle.gs_tree.specs.declared.sign.Keyword.TheVariants.{Main}
use Rattle.gs_tree.specs.declared.sign.Symbol.{Symbol}
use Rattle.gs_tree.specs.declared.sign.Symbol.TheVariants.{PlusPlus}
use Rattle.gs_tree.specs.Bytes.{is_plain, is_letter, is_name_byte, is_digit, decimal, leading}
use Rattle.gs_tree.specs.Quoted.{Quotes, Quoted, closed, broken, after, closes, goes_on, breaks, Spells}
use Rattle.gs_tree.specs.Quoted as q
use Rattle.gs_tree.specs.Lexeme.{Kind, Lexeme}
use Rattle.gs_tree.specs.Lexicon.{greatest, IsToken, Lexes, end, gap, token, stop}
use Rattle.gs_tree.specs.Lexicon as grammar
use Rattle.gs_tree.specs.Words.{keyword_of, single_of, double_of}
use Rattle.gs_tree.specs.Signs.{sign_of_keyword, sign_of_symbol, sign_of_word, sign_of_found, sign_of_bytes, sign_by, sign_of}
use Rattle.gs_tree.proofs.Classes.{class_within, is_letter-zero, is_name_byte-letter, leading-some, take-leading}
use Rattle.gs_spelling.specs.Spelled.{is_held, SignSpelled}
use Rattle.gs_spelling.specs.Laws.{signs_in, TextsAreSpelled}

-- a keyword's sign holds nothing
keyword_spelled : (k : Keyword) → SignSpelled (sign_of_keyword k)
keyword_spelled Main = tt
keyword_spelled _ = tt

-- a symbol's sign holds nothing
symbol_spelled : (s : Symbol) → SignSpelled (sign_of_symbol s)
symbol_spelled PlusPlus = tt
symbol_spelled _ = tt

-- nor does that of a symbol that is sought
found_spelled : (o : Option Symbol) → SignSpelled (sign_of_found o)
found_spelled (Some s) = symbol_spelled s
found_spelled None = tt

-- nor does that of a symbol's bytes
bytes_spelled : (bytes : List ℕ) → SignSpelled (sign_of_bytes bytes)
bytes_spelled [] = tt
bytes_spelled (a ∷ []) = found_spelled (single_of a)
bytes_spelled (a ∷ b ∷ []) = found_spelled (double_of a b)
bytes_spelled (a ∷ b ∷ c ∷ rest) = tt

-- a front's bytes are of its class
front_passes : (p : ℕ → Bool) (bytes : List ℕ) → AllPass p (take_while p bytes)
front_passes p bytes = λ k d h.
    let within : k < prefix_len p bytes = omega (arith, length-take (prefix_len p bytes) bytes) in
    rw (get_or-take (prefix_len p bytes) bytes k d within) (prefix_len_passes p bytes k d within)

-- a front of bytes of a name is a keyword or a name
name_spelled : (bytes : List ℕ) (found : Option Keyword) → is_letter (slice_index bytes 0) ≡ true → leading is_name_byte bytes ≤ 64 →
    keyword_of (take_while is_name_byte bytes) ≡ found → SignSpelled (sign_of_word (take_while is_name_byte bytes) found)
name_spelled bytes (Some k) l h e = keyword_spelled k
name_spelled bytes None l h e =
    let some = leading-some is_name_byte bytes (class_within is_letter bytes 0 is_letter-zero l) (is_name_byte-letter (slice_index bytes 0) l) in
    let within : 0 < prefix_len is_name_byte bytes = omega (arith, length-take (prefix_len is_name_byte bytes) bytes) in
    let same : slice_index (take_while is_name_byte bytes) 0 ≡ slice_index bytes 0 = get_or-take (prefix_len is_name_byte bytes) bytes 0 0 within in
    record { first = ap (λ (b : ℕ). is_letter b) same ∙ l; bytes = front_passes is_name_byte bytes; short = h; no_keyword = e }

-- what an escape stands for may stand in a string
escape_held : (n t r k d : Bool) (v : ℕ) →
    (if n then Some 10 else (if t then Some 9 else (if r then Some 13 else (if k then Some 92 else (if d then Some 34 else None))))) ≡ Some v → is_held v ≡ true
unfolding is_plain
escape_held true t r k d v e = let f : 10 ≡ v = cc in subst (λ (x : ℕ). is_held x ≡ true) f refl
escape_held false true r k d v e = let f : 9 ≡ v = cc in subst (λ (x : ℕ). is_held x ≡ true) f refl
escape_held false false true k d v e = let f : 13 ≡ v = cc in subst (λ (x : ℕ). is_held x ≡ true) f refl
escape_held false false false true d v e = let f : 92 ≡ v = cc in subst (λ (x : ℕ). is_held x ≡ true) f refl
escape_held false false false false true v e = let f : 34 ≡ v = cc in subst (λ (x : ℕ). is_held x ≡ true) f refl
escape_held false false false false false v e = absurd (cc)

-- a byte of a value may stand in a string
spells_held : (bytes : List ℕ) (v count : ℕ) → Spells bytes v count → is_held v ≡ true
spells_held bytes v count (q.Spells.plain b e) = rw e refl
spells_held bytes v count (q.Spells.escape b x e f) =
    let c = slice_index bytes 1 in
    escape_held (eqb c 110) (eqb c 116) (eqb c 114) (eqb c 92) (eqb c 34) x f

-- what is said of a string that closes
abbrev Held : (room : ℕ) → Quoted → Type 0
Held room (closed s count) = All (λ b. is_held b ≡ true) s × (length s ≤ room)
Held room (broken kind) = Unit {0}

-- so it goes on with one byte more
held_more : (room v count : ℕ) (said : Quoted) → 0 < room → is_held v ≡ true → Held (room - 1) said → Held room (after v count said)
held_more room v count (closed s n) some h rest = (All-cons (λ b. is_held b ≡ true) v s h rest.0, omega (arith, rest.1))
held_more room v count (broken kind) some h rest = tt

-- the value of a string is held
quotes_held : (room : ℕ) (bytes : List ℕ) (said : Quoted) → Quotes room bytes said → Held room said
quotes_held room bytes said (closes r b e) = (All-nil (λ v. is_held v ≡ true), omega arith)
quotes_held room bytes said (goes_on r v count b rest some here h) =
    held_more room v count rest some (spells_held bytes v count here) (quotes_held (room - 1) (drop count bytes) rest h)
quotes_held room bytes said (breaks r b kind f) = tt

-- a token's sign is spelled
token_spelled : (bytes : List ℕ) (kind : Kind) (count : ℕ) → IsToken bytes kind count → SignSpelled (sign_by (take count bytes) kind)
token_spelled bytes kind count (grammar.IsToken.name b l h) =
    rw take-leading (name_spelled bytes (keyword_of (take_while is_name_byte bytes)) l h refl)
token_spelled bytes kind count (grammar.IsToken.number b d z h) = record { amount = decimal (take_while is_digit bytes); is = refl; within = h }
token_spelled bytes kind count (grammar.IsToken.string b value n e h) =
    let held : Held 1024 (closed value n) = quotes_held 1024 (drop 1 bytes) (closed value n) h in
    record { bytes = held.0; short = held.1 }
token_spelled bytes kind count (grammar.IsToken.double b e) = bytes_spelled (take 2 bytes)
token_spelled bytes kind count (grammar.IsToken.single b e f g) = bytes_spelled (take 1 bytes)

-- the sign at a place of a text
sign_spelled : (text bytes : List ℕ) (at count line : ℕ) (kind : Kind) → bytes ≡ drop at text → IsToken bytes kind count →
    let x : Lexeme = record { kind = kind; from = at; to = at + count; line = line } in SignSpelled (sign_of text x)
sign_spelled text bytes at count line kind e here =
    let n : at + count - at ≡ count = omega arith in
    rw (n, ← e) (token_spelled bytes kind count here)

-- so are the signs of the rest of a text
lexed_spelled : (text : List ℕ) (at line : ℕ) (is_fresh : Bool) (bytes : List ℕ) (found : List Lexeme) → Lexes at line is_fresh bytes found → bytes ≡ drop at text →
    All SignSpelled (signs_in text found)
lexed_spelled text at line is_fresh bytes found (end a l f b z) e = All-nil SignSpelled
lexed_spelled text at line is_fresh bytes found (gap a l count lines f g b more here rest) e =
    lexed_spelled text (at + count) (line + lines) g (drop count bytes) found rest (ap (λ (r : List ℕ). drop count r) e ∙ drop-drop count at text)
lexed_spelled text at line is_fresh bytes found (token a l count f b kind more here rest) e =
    All-cons SignSpelled _ (signs_in text more) (sign_spelled text bytes at count line kind e here)
    (lexed_spelled text (at + count) line false (drop count bytes) more rest (ap (λ (r : List ℕ). drop count r) e ∙ drop-drop count at text))
lexed_spelled text at line is_fresh bytes found (stop a l f b kind here) e = All-cons SignSpelled _ [] tt (All-nil SignSpelled)

-- so are those of a text
pub texts_are_spelled : TextsAreSpelled
texts_are_spelled text found h = lexed_spelled text 0 1 true text found h refl
