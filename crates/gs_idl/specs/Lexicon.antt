-- What the bytes of an interface text are as marks: words, symbols, and the end or the first byte
-- or comment that is no mark.
use Rattle.std.specs.Prelude.{◌≡◌, ℕ, suc, ◌+◌, ◌<◌, ◌≤◌, Bool, false, ◌&&◌, ◌||◌, ◌==◌, not, if◌then◌else◌, List, [], ◌∷◌, length, take, drop, Option, Some, None, option_map}
use Rattle.std.specs.List.{count_by, prefix_len}
use Rattle.gs_idl.specs.Word.{is_letter, is_word_byte}
use Rattle.gs_idl.specs.declared.token.Symbol.{Symbol}
use Rattle.gs_idl.specs.declared.token.Symbol.TheVariants.{OpenBrace, CloseBrace, OpenParen, CloseParen, Comma, Semicolon}
use Rattle.gs_idl.specs.declared.token.IdlKind.{IdlKind}
use Rattle.gs_idl.specs.declared.token.IdlKind.TheVariants.{BadByte, OpenComment, LongName}

pub data IdlSign : Type 0 where
  word : List ℕ → IdlSign
  symbol : Symbol → IdlSign
  bad : IdlKind → IdlSign
  finish : IdlSign

pub record IdlMark : Type 0 where
  pub line : ℕ
  pub sign : IdlSign

abbrev pub mark : ℕ → IdlSign → IdlMark
mark line sign = record { line = line; sign = sign }

-- a line feed
abbrev pub is_feed : ℕ → Bool
is_feed b = b == 10

-- a space, a tab or a carriage return
abbrev pub is_blank : ℕ → Bool
is_blank b = b == 32 || b == 9 || b == 13

-- ---- what begins at a byte

pub data Beginning : Type 0 where
  a_blank : Beginning
  a_feed : Beginning
  a_word : Beginning
  a_line_comment : Beginning
  a_comment : Beginning
  a_symbol : Symbol → Beginning
  nothing : Beginning

abbrev pub symbol_or_nothing : ℕ → Beginning
symbol_or_nothing b = if b == 123 then a_symbol OpenBrace else if b == 125 then a_symbol CloseBrace
    else if b == 40 then a_symbol OpenParen else if b == 41 then a_symbol CloseParen else if b == 44
    then a_symbol Comma else if b == 59 then a_symbol Semicolon else nothing

-- a slash begins a comment where a slash or a star follows
abbrev pub after_slash : List ℕ → Beginning
after_slash [] = nothing
after_slash (c ∷ rest) = if c == 47 then a_line_comment else if c == 42 then a_comment else nothing

-- what begins with this byte where these follow
unfoldable pub begins : ℕ → List ℕ → Beginning
begins b rest = if is_blank b then a_blank else if is_feed b then a_feed else if is_letter b
    then a_word else if b == 47 then after_slash rest else symbol_or_nothing b

-- ---- how far it goes

-- the bytes that pass a test, from the front on, and those behind them
abbrev pub front : (ℕ → Bool) → List ℕ → List ℕ
front test bytes = take (prefix_len test bytes) bytes

abbrev pub behind : (ℕ → Bool) → List ℕ → List ℕ
behind test bytes = drop (prefix_len test bytes) bytes

-- a star and a slash stand at the front
abbrev pub closes : List ℕ → Bool
closes [] = false
closes (b ∷ []) = false
closes (b ∷ c ∷ rest) = b == 42 && c == 47

-- how many bytes stand before the first star and slash
unfoldable pub close_at : List ℕ → Option ℕ
close_at [] = None
close_at (b ∷ rest) = if closes (b ∷ rest) then Some 0 else option_map suc (close_at rest)

-- ---- the marks

-- The bytes, of which the first stands on this line, are these marks. An identifier goes as far as
-- its bytes do, a comment of two slashes to the end of its line, and any other to the first star
-- and slash behind its first two bytes.
pub data Reads : (line : ℕ) → List ℕ → List IdlMark → Type 0 where
  finished : (line : ℕ) → Reads line [] (mark line finish ∷ [])
  blank : (line b : ℕ) (rest : List ℕ) (ms : List IdlMark) → begins b rest ≡ a_blank
      → Reads line rest ms → Reads line (b ∷ rest) ms
  feed : (line b : ℕ) (rest : List ℕ) (ms : List IdlMark) → begins b rest ≡ a_feed
      → Reads (line + 1) rest ms → Reads line (b ∷ rest) ms
  line_comment : (line b : ℕ) (rest : List ℕ) (ms : List IdlMark) → begins b rest ≡ a_line_comment
      → Reads line (behind (λ c. not (is_feed c)) rest) ms → Reads line (b ∷ rest) ms
  comment : (line b c n : ℕ) (rest : List ℕ) (ms : List IdlMark) → begins b (c ∷ rest) ≡ a_comment
      → close_at rest ≡ Some n
      → Reads (line + count_by is_feed (take n rest)) (drop (n + 2) rest) ms
      → Reads line (b ∷ c ∷ rest) ms
  open_comment : (line b c : ℕ) (rest : List ℕ) → begins b (c ∷ rest) ≡ a_comment
      → close_at rest ≡ None
      → Reads line (b ∷ c ∷ rest) (mark line (bad OpenComment) ∷ [])
  worded : (line b : ℕ) (rest : List ℕ) (ms : List IdlMark) → begins b rest ≡ a_word
      → length (front is_word_byte rest) < 64
      → Reads line (behind is_word_byte rest) ms
      → Reads line (b ∷ rest) (mark line (word (b ∷ front is_word_byte rest)) ∷ ms)
  long : (line b : ℕ) (rest : List ℕ) → begins b rest ≡ a_word
      → 64 ≤ length (front is_word_byte rest)
      → Reads line (b ∷ rest) (mark line (bad LongName) ∷ [])
  signed : (line b : ℕ) (rest : List ℕ) (s : Symbol) (ms : List IdlMark)
      → begins b rest ≡ a_symbol s → Reads line rest ms
      → Reads line (b ∷ rest) (mark line (symbol s) ∷ ms)
  bad_byte : (line b : ℕ) (rest : List ℕ) → begins b rest ≡ nothing
      → Reads line (b ∷ rest) (mark line (bad BadByte) ∷ [])
