-- The formats of names, values and versions.
use Rattle.std.specs.Prelude.{ℕ, ℤ, zero, suc, Bool, true, false, ◌&&◌, nat_lt, nat_le, List, [], ◌∷◌, length, Option, Some, None}
use Rattle.std.specs.List.{list_all}
use Rattle.gs_types.specs.Bytes.{is_text_byte}
use Rattle.gs_types.specs.NameTest.{is_name}
use Rattle.gs_types.specs.declared.limits.TheConstants.{FILE_LIMIT, STRING_LIMIT, TEXT_LIMIT, TASK_LIMIT, ACTION_LIMIT, PARAMETER_LIMIT, OPERATION_LIMIT}
use Rattle.gs_types.specs.declared.note.Note.{Note}
use Rattle.gs_types.specs.declared.note.Note.TheVariants as notes
use Rattle.gs_types.specs.declared.note.OutNote.{OutNote}
use Rattle.gs_types.specs.declared.note.VarNote.{VarNote}
use Rattle.gs_types.specs.declared.note.FinalNote.{FinalNote}
use Rattle.gs_types.specs.declared.note.Version.{Version}
use Rattle.gs_types.specs.declared.note.Version.TheVariants as versions
use Rattle.gs_idl.specs.Word.{is_letter, is_word_byte}
use Rattle.gs_fields.specs.Format.{Format, byte, four, eight, eight_signed, bytes, never, pair, only, via, tagged, counted}

abbrev pub within : ℕ → ℕ → ℕ → Bool
within low high n = nat_le low n && nat_le n high

-- a number of this format that is at most the limit
abbrev pub up_to : ℕ → Format ℕ → Format ℕ
up_to limit f = only (λ n. nat_le n limit) f

-- a file's name
abbrev pub name : Format (List ℕ)
name = only is_name bytes

-- an interface or a program
abbrev pub source : Format (List ℕ)
source = only (λ b. nat_le (length b) TEXT_LIMIT) bytes

-- a task's number
abbrev pub task : Format ℕ
task = only (within 1 TASK_LIMIT) four

-- a place of an operation
abbrev pub place : Format ℕ
place = only (within 1 PARAMETER_LIMIT) byte

-- an operation's number
abbrev pub operation : Format ℕ
operation = only (λ n. nat_lt n OPERATION_LIMIT) byte

-- a file's length
abbrev pub file_len : Format ℕ
file_len = up_to FILE_LIMIT eight

-- ---- values

-- the bytes are a string
abbrev pub is_string : List ℕ → Bool
is_string b = nat_le (length b) STRING_LIMIT && list_all is_text_byte b

abbrev pub note_tag : Note → ℕ
note_tag (notes.File len) = 1
note_tag (notes.Int v) = 2
note_tag (notes.Str s) = 3

abbrev pub file_part : Note → Option ℕ
file_part (notes.File len) = Some len
file_part (notes.Int v) = None
file_part (notes.Str s) = None

abbrev pub int_part : Note → Option ℤ
int_part (notes.File len) = None
int_part (notes.Int v) = Some v
int_part (notes.Str s) = None

abbrev pub str_part : Note → Option (List ℕ)
str_part (notes.File len) = None
str_part (notes.Int v) = None
str_part (notes.Str s) = Some s

-- tag 1 a file's length, tag 2 a number, tag 3 a string
abbrev pub note_as : ℕ → Format Note
note_as zero = never
note_as (suc zero) = via notes.File file_part file_len
note_as (suc (suc zero)) = via notes.Int int_part eight_signed
note_as (suc (suc (suc zero))) = via notes.Str str_part (only is_string bytes)
note_as (suc (suc (suc (suc t)))) = never

abbrev pub note : Format Note
note = tagged note_tag note_as

-- ---- outputs

abbrev pub put_out : ℕ × Note → OutNote
put_out p = record { place = p.0; v = p.1 }

abbrev pub out_parts : OutNote → Option (ℕ × Note)
out_parts o = Some (o.place, o.v)

abbrev pub out : Format OutNote
out = via put_out out_parts (pair place note)

-- each place is above the one before
abbrev pub rising : ℕ → List OutNote → Bool
rising low [] = true
rising low (o ∷ os) = nat_lt low o.place && rising o.place os

abbrev pub outs : Format (List OutNote)
outs = only (rising 0) (counted byte out)

-- ---- variables

abbrev pub begins_with_letter : List ℕ → Bool
begins_with_letter [] = false
begins_with_letter (b ∷ w) = is_letter b

-- a letter or `_`, then letters, digits and `_`, 1 to 64 bytes
abbrev pub is_identifier : List ℕ → Bool
is_identifier w = nat_le (length w) 64 && (begins_with_letter w && list_all is_word_byte w)

-- a number or a string
abbrev pub is_scalar : Note → Bool
is_scalar (notes.File len) = false
is_scalar (notes.Int v) = true
is_scalar (notes.Str s) = true

abbrev pub put_var : List ℕ × Note → VarNote
put_var p = record { name = p.0; v = p.1 }

abbrev pub var_parts : VarNote → Option (List ℕ × Note)
var_parts v = Some (v.name, v.v)

abbrev pub var : Format VarNote
var = via put_var var_parts (pair (only is_identifier bytes) (only is_scalar note))

-- ---- versions

abbrev pub version_tag : Version → ℕ
version_tag (versions.Original x) = 0
version_tag (versions.Out n k) = 1
version_tag (versions.Main k) = 2

abbrev pub out_of : ℕ × ℕ → Version
out_of p = versions.Out p.0 p.1

abbrev pub task_part : Version → Option (ℕ × ℕ)
task_part (versions.Original x) = None
task_part (versions.Out n k) = Some (n, k)
task_part (versions.Main k) = None

abbrev pub main_part : Version → Option ℕ
main_part (versions.Original x) = None
main_part (versions.Out n k) = None
main_part (versions.Main k) = Some k

-- tag 1 an output of a task at a place, tag 2 a content that the main program wrote
abbrev pub version_as : ℕ → Format Version
version_as zero = never
version_as (suc zero) = via out_of task_part (pair task place)
version_as (suc (suc zero)) = via versions.Main main_part (only (within 1 ACTION_LIMIT) four)
version_as (suc (suc (suc t))) = never

abbrev pub version : Format Version
version = tagged version_tag version_as

-- ---- finals

abbrev pub put_final : ℕ × (Version × ℕ) → FinalNote
put_final p = record { name = p.0; version = p.1.0; len = p.1.1 }

abbrev pub final_parts : FinalNote → Option (ℕ × (Version × ℕ))
final_parts f = Some (f.name, (f.version, f.len))

abbrev pub final : Format FinalNote
final = via put_final final_parts (pair four (pair version file_len))
