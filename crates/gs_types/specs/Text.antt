-- Why bytes are no string of the main program.
use Rattle.std.specs.Prelude.{◌≡◌, ℕ, ◌<◌, ◌≤◌, false, List, length, slice_index}
use Rattle.gs_types.specs.Bytes.{is_text_byte, ReadsTo, IsText}
use Rattle.gs_types.specs.declared.limits.TheConstants.{STRING_LIMIT}
use Rattle.gs_types.specs.declared.text.TextErr.{TextErr}
use Rattle.gs_types.specs.declared.text.TextErr.TheVariants.{Long, BadByte, NoMemory}

-- why bytes are no string: too many of them, else the first that is none of a string
abbrev pub IsTextErr : List ℕ → TextErr → Type 0
IsTextErr bytes (Long len) = (len ≡ length bytes) × (STRING_LIMIT < length bytes)
IsTextErr bytes (BadByte at) = (length bytes ≤ STRING_LIMIT) × (at < length bytes)
    × (is_text_byte (slice_index bytes at) ≡ false) × ReadsTo bytes at
IsTextErr bytes NoMemory = IsText bytes
