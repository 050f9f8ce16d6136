-- The grammar of durations files: what a text says line by line, and where it first goes wrong.
use Rattle.std.specs.Prelude.{◌≡◌, ◌≢◌, ℕ, suc, ◌<◌, ◌≤◌, List, [], ◌∷◌, ◌++◌, length, map, replicate, unwrap_or, Option, Some, None, slice_get, slice_set, slice_index}
use Rattle.std.specs.Str.Parse.{IsNumeral, digits_value}
use Rattle.gs_types.specs.declared.limits.TheConstants.{TEXT_LIMIT}
use Rattle.gs_idl.specs.Interface.{Signature, op_place}
use Rattle.gs_list.specs.Lines.{AreLines, HasWords, HasBadByte}
use Rattle.gs_plan.specs.declared.kind.TheConstants.{DURATION_LIMIT}
use Rattle.gs_plan.specs.declared.kind.DurKind.{DurKind}
use Rattle.gs_plan.specs.declared.kind.DurKind.TheVariants.{TooLong, BadByte, BadLine, UnknownOp, BadNumber, Twice}
use Rattle.gs_plan.specs.declared.kind.DurErr.{DurErr}
use Rattle.gs_plan.specs.declared.kind.DurErr.TheVariants.{At, NoMemory}

-- a decimal without a leading 0, from 1 to the limit
pub record IsDuration (word : List ℕ) (d : ℕ) : Type 0 where
  pub digits : IsNumeral 10 word
  pub bare : slice_index word 0 ≢ 48
  pub says : d ≡ digits_value 10 word
  pub few : d ≤ DURATION_LIMIT

-- for each operation the duration that the lines so far give it
abbrev pub Given : Type 0
Given = List (Option ℕ)

-- ---- what a line says

-- the line says nothing, or gives an operation that has none a duration
pub data LineSays (ops : List Signature) (line : List ℕ) : Given → Given → Type 0 where
  nothing : (before : Given) → HasWords line [] → LineSays ops line before before
  duration : (before : Given) (name digits : List ℕ) (op d : ℕ) → HasWords line (name ∷ digits ∷ [])
      → op_place ops name ≡ Some op → IsDuration digits d → slice_get before op ≡ Some None
      → LineSays ops line before (slice_set before op (Some d))

-- the first fault of a line: what comes before it in the order is right
pub data IsLineFault (ops : List Signature) (line : List ℕ) (before : Given) :
    DurKind → Type 0 where
  bad_byte : HasBadByte line → IsLineFault ops line before BadByte
  bad_line : (words : List (List ℕ)) → HasWords line words → words ≢ []
      → ((name digits : List ℕ) → words ≢ name ∷ digits ∷ []) → IsLineFault ops line before BadLine
  unknown_op : (name digits : List ℕ) → HasWords line (name ∷ digits ∷ [])
      → op_place ops name ≡ None → IsLineFault ops line before UnknownOp
  bad_number : (name digits : List ℕ) (op : ℕ) → HasWords line (name ∷ digits ∷ [])
      → op_place ops name ≡ Some op → ((d : ℕ) → IsDuration digits d → ⊥)
      → IsLineFault ops line before BadNumber
  twice : (name digits : List ℕ) (op d e : ℕ) → HasWords line (name ∷ digits ∷ [])
      → op_place ops name ≡ Some op → IsDuration digits d → slice_get before op ≡ Some (Some e)
      → IsLineFault ops line before Twice

-- ---- what a text says

-- the lines say this, one line behind the other
pub data LinesSay (ops : List Signature) : List (List ℕ) → Given → Given → Type 0 where
  no_line : (before : Given) → LinesSay ops [] before before
  line_more : (line : List ℕ) (lines : List (List ℕ)) (before middle after : Given)
      → LineSays ops line before middle → LinesSay ops lines middle after
      → LinesSay ops (line ∷ lines) before after

-- no operation has a duration yet
abbrev pub none_given : List Signature → Given
none_given ops = replicate (length ops) None

-- an operation without a line has the duration 1
abbrev pub durations_by : Given → List ℕ
durations_by given = map (λ d. unwrap_or d 1) given

-- the text is short enough, and its lines say these durations, one for each operation
pub record Says (ops : List Signature) (bytes durations : List ℕ) : Type 0 where
  pub short : length bytes ≤ TEXT_LIMIT
  pub lines : List (List ℕ)
  pub parted : AreLines bytes lines
  pub given : Given
  pub said : LinesSay ops lines (none_given ops) given
  pub each : durations ≡ durations_by given

-- the first line that goes wrong is this one, from 1
pub record GoesWrong (ops : List Signature) (lines : List (List ℕ)) (number : ℕ) (kind : DurKind) :
    Type 0 where
  pub front : List (List ℕ)
  pub line : List ℕ
  pub rest : List (List ℕ)
  pub place : lines ≡ front ++ line ∷ rest
  pub count : number ≡ suc (length front)
  pub before : Given
  pub said : LinesSay ops front (none_given ops) before
  pub fault : IsLineFault ops line before kind

-- the text's first fault, with its line: a text that is too long goes wrong on line 0
pub data IsFault (ops : List Signature) (bytes : List ℕ) : ℕ → DurKind → Type 0 where
  too_long : TEXT_LIMIT < length bytes → IsFault ops bytes 0 TooLong
  wrong : (lines : List (List ℕ)) (number : ℕ) (kind : DurKind)
      → length bytes ≤ TEXT_LIMIT → AreLines bytes lines → GoesWrong ops lines number kind
      → IsFault ops bytes number kind

-- the text says no durations, and this is its first fault
pub record IsRefused (ops : List Signature) (bytes : List ℕ) (line : ℕ) (kind : DurKind) :
    Type 0 where
  pub fault : IsFault ops bytes line kind
  pub nothing : (durations : List ℕ) → Says ops bytes durations → ⊥

-- a fault, or want of memory, which no text causes
abbrev pub IsUnread : List Signature → List ℕ → DurErr → Type 0
IsUnread ops bytes (At line kind) = IsRefused ops bytes line kind
IsUnread ops bytes NoMemory = Unit {0}

-- one duration for each operation, each from 1 to the limit
pub record AreDurations (ops : ℕ) (durations : List ℕ) : Type 0 where
  pub count : length durations ≡ ops
  pub each : (k : ℕ) → k < ops →
      (1 ≤ slice_index durations k) × (slice_index durations k ≤ DURATION_LIMIT)
