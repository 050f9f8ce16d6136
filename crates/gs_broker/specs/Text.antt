-- The grammar of worker lists: what a text says line by line, and where it first goes wrong.
use Rattle.std.specs.Prelude.{◌≡◌, ◌≢◌, ℕ, suc, ◌<◌, ◌≤◌, Bool, true, false, ◌&&◌, ◌||◌, ◌==◌, not, nat_le, List, [], ◌∷◌, ◌++◌, length, map, is_some}
use Rattle.std.specs.List.{All, list_all, list_any}
use Rattle.std.specs.Str.{bytes_eq}
use Rattle.std.specs.Fmt.{decimal}
use lib.Chars.{codes}
use Rattle.gs_types.specs.Name.{IsName}
use Rattle.gs_types.specs.declared.limits.TheConstants.{SLOT_LIMIT, TEXT_LIMIT, WORKER_LIMIT}
use Rattle.gs_idl.specs.Interface.{Signature, op_place}
use Rattle.gs_broker.specs.declared.kind.TheConstants.{PROGRAM_LENGTH}
use Rattle.gs_broker.specs.declared.kind.WorkersKind.{WorkersKind}
use Rattle.gs_broker.specs.declared.kind.WorkersKind.TheVariants.{TooLong, BadByte, BadLine, BadName, BadSlots, UnknownOp, Twice, TooMany, Empty}

-- ---- lines, comments and words

abbrev pub is_feed : ℕ → Bool
is_feed b = b == 10

abbrev pub is_hash : ℕ → Bool
is_hash b = b == 35

-- a space, a tab or a carriage return
abbrev pub is_blank : ℕ → Bool
is_blank b = b == 32 || b == 9 || b == 13

abbrev pub is_word_byte : ℕ → Bool
is_word_byte b = nat_le 33 b && nat_le b 126

-- what may stand outside a comment
abbrev pub may_stand : ℕ → Bool
may_stand b = is_blank b || is_word_byte b

abbrev pub NonePass : (ℕ → Bool) → List ℕ → Type 0
NonePass test bytes = All (λ b. test b ≡ false) bytes

-- the lines of a text: a line feed ends a line, and the next one begins behind it
pub data AreLines : List ℕ → List (List ℕ) → Type 0 where
  last : (line : List ℕ) → NonePass is_feed line → AreLines line (line ∷ [])
  more : (bytes line rest : List ℕ) (lines : List (List ℕ)) → bytes ≡ line ++ 10 ∷ rest
      → NonePass is_feed line → AreLines rest lines → AreLines bytes (line ∷ lines)

-- what stands on a line before its comment, which a `#` begins
pub data IsContent : List ℕ → List ℕ → Type 0 where
  bare : (line : List ℕ) → NonePass is_hash line → IsContent line line
  commented : (line content comment : List ℕ) → line ≡ content ++ 35 ∷ comment
      → NonePass is_hash content → IsContent line content

pub record IsWord (word : List ℕ) : Type 0 where
  pub some : 1 ≤ length word
  pub each : All (λ b. is_word_byte b ≡ true) word

-- the words that blanks part
pub data AreWords : List ℕ → List (List ℕ) → Type 0 where
  none : AreWords [] []
  blank : (b : ℕ) (rest : List ℕ) (words : List (List ℕ)) → is_blank b ≡ true
      → AreWords rest words → AreWords (b ∷ rest) words
  last_word : (word : List ℕ) → IsWord word → AreWords word (word ∷ [])
  word_more : (bytes word rest : List ℕ) (b : ℕ) (words : List (List ℕ))
      → bytes ≡ word ++ b ∷ rest → IsWord word → is_blank b ≡ true → AreWords rest words
      → AreWords bytes (word ∷ words)

-- the words of a line, before its comment
pub record HasWords (line : List ℕ) (words : List (List ℕ)) : Type 0 where
  pub content : List ℕ
  pub before : IsContent line content
  pub parted : AreWords content words

-- ---- the parts of a worker's line

pub record Parts : Type 0 where
  pub name : List ℕ
  pub slots : List ℕ
  pub program : List ℕ
  pub operations : List (List ℕ)

abbrev pub words_of : Parts → List (List ℕ)
words_of p = p.name ∷ p.slots ∷ p.program ∷ p.operations

abbrev pub stands : List ℕ → List (List ℕ) → Bool
stands word words = list_any (bytes_eq word) words

-- `*`, which stands for each operation
abbrev pub star : List ℕ
star = codes "*"

-- `*` alone
abbrev pub is_star : List (List ℕ) → Bool
is_star [] = false
is_star (o ∷ []) = bytes_eq o star
is_star (o ∷ p ∷ os) = false

-- one word or more, and a `*` only alone
abbrev pub are_operations : List (List ℕ) → Bool
are_operations words = nat_le 1 (length words) && (is_star words || not (stands star words))

abbrev pub are_in_form : Parts → Bool
are_in_form p = are_operations p.operations && nat_le (length p.program) PROGRAM_LENGTH

-- the words of the line are these parts, in form
pub record HasParts (line : List ℕ) (p : Parts) : Type 0 where
  pub words : HasWords line (words_of p)
  pub form : are_in_form p ≡ true

-- the decimal of a number from 1 on that a worker may have
pub record IsSlots (word : List ℕ) (slots : ℕ) : Type 0 where
  pub some : 1 ≤ slots
  pub few : slots ≤ SLOT_LIMIT
  pub spelled : word ≡ decimal slots

-- each word is the name of an operation
abbrev pub are_each_known : List Signature → List (List ℕ) → Bool
are_each_known ops words = list_all (λ w. is_some (op_place ops w)) words

abbrev pub are_known : List Signature → List (List ℕ) → Bool
are_known ops words = is_star words || are_each_known ops words

-- no word stands twice
abbrev pub are_distinct : List (List ℕ) → Bool
are_distinct [] = true
are_distinct (w ∷ ws) = not (stands w ws) && are_distinct ws

-- for each operation of the interface whether the words give it
abbrev pub taken : List Signature → List (List ℕ) → List Bool
taken ops words = map (λ o. is_star words || stands o.name words) ops

-- ---- what a line says

-- a worker, and for each operation of the interface whether it takes it
pub record Entry : Type 0 where
  pub name : List ℕ
  pub slots : ℕ
  pub program : List ℕ
  pub takes : List Bool

abbrev pub entry_by : List Signature → Parts → ℕ → Entry
entry_by ops p slots = record {
  name = p.name;
  slots = slots;
  program = p.program;
  takes = taken ops p.operations;
}

-- an earlier worker has the name, or an operation stands again
abbrev pub is_twice : List Entry → Parts → Bool
is_twice before p =
    stands p.name (map (λ e. e.name) before) || not (are_distinct p.operations)

-- the line's parts are right by themselves
pub record IsRight (ops : List Signature) (line : List ℕ) (p : Parts) (slots : ℕ) : Type 0 where
  pub parts : HasParts line p
  pub name : IsName p.name
  pub digits : IsSlots p.slots slots
  pub known : are_known ops p.operations ≡ true

-- behind these workers the line says nothing, or one worker more
pub data LineSays (ops : List Signature) (line : List ℕ) : List Entry → List Entry → Type 0 where
  nothing : (before : List Entry) → HasWords line [] → LineSays ops line before before
  worker : (before : List Entry) (p : Parts) (slots : ℕ) → IsRight ops line p slots
      → is_twice before p ≡ false → length before < WORKER_LIMIT
      → LineSays ops line before (before ++ entry_by ops p slots ∷ [])

-- the first fault of a line behind these workers: what comes before it in the order is right
pub data IsLineFault (ops : List Signature) (line : List ℕ) (before : List Entry) :
    WorkersKind → Type 0 where
  bad_byte : (content : List ℕ) → IsContent line content → list_all may_stand content ≡ false
      → IsLineFault ops line before BadByte
  bad_line : (words : List (List ℕ)) → HasWords line words → words ≢ []
      → ((p : Parts) → words ≡ words_of p → are_in_form p ≡ false)
      → IsLineFault ops line before BadLine
  bad_name : (p : Parts) → HasParts line p → (IsName p.name → ⊥)
      → IsLineFault ops line before BadName
  bad_slots : (p : Parts) → HasParts line p → IsName p.name
      → ((slots : ℕ) → IsSlots p.slots slots → ⊥) → IsLineFault ops line before BadSlots
  unknown_op : (p : Parts) (slots : ℕ) → HasParts line p → IsName p.name
      → IsSlots p.slots slots → are_known ops p.operations ≡ false
      → IsLineFault ops line before UnknownOp
  twice : (p : Parts) (slots : ℕ) → IsRight ops line p slots → is_twice before p ≡ true
      → IsLineFault ops line before Twice
  too_many : (p : Parts) (slots : ℕ) → IsRight ops line p slots → is_twice before p ≡ false
      → WORKER_LIMIT ≤ length before → IsLineFault ops line before TooMany

-- ---- what a text says

-- the lines say these workers, one line behind the other
pub data LinesSay (ops : List Signature) :
    List (List ℕ) → List Entry → List Entry → Type 0 where
  no_line : (before : List Entry) → LinesSay ops [] before before
  line_more : (line : List ℕ) (lines : List (List ℕ)) (before middle after : List Entry)
      → LineSays ops line before middle → LinesSay ops lines middle after
      → LinesSay ops (line ∷ lines) before after

-- the text is short enough, and its lines say these workers, of which there is one or more
pub record Says (ops : List Signature) (bytes : List ℕ) (workers : List Entry) : Type 0 where
  pub short : length bytes ≤ TEXT_LIMIT
  pub lines : List (List ℕ)
  pub parted : AreLines bytes lines
  pub said : LinesSay ops lines [] workers
  pub some : 1 ≤ length workers

-- the first line that goes wrong is this one, from 1
pub record GoesWrong (ops : List Signature) (lines : List (List ℕ)) (number : ℕ)
    (kind : WorkersKind) : Type 0 where
  pub front : List (List ℕ)
  pub line : List ℕ
  pub rest : List (List ℕ)
  pub place : lines ≡ front ++ line ∷ rest
  pub count : number ≡ suc (length front)
  pub before : List Entry
  pub said : LinesSay ops front [] before
  pub fault : IsLineFault ops line before kind

-- the text's first fault, with its line: a text that is too long and one without workers go wrong
-- on line 0
pub data IsFault (ops : List Signature) (bytes : List ℕ) : ℕ → WorkersKind → Type 0 where
  too_long : TEXT_LIMIT < length bytes → IsFault ops bytes 0 TooLong
  wrong : (lines : List (List ℕ)) (number : ℕ) (kind : WorkersKind)
      → length bytes ≤ TEXT_LIMIT → AreLines bytes lines → GoesWrong ops lines number kind
      → IsFault ops bytes number kind
  empty : (lines : List (List ℕ)) → length bytes ≤ TEXT_LIMIT → AreLines bytes lines
      → LinesSay ops lines [] [] → IsFault ops bytes 0 Empty
