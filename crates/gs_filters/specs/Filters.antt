-- The law of built-in operations on files.
use Rattle.std.specs.Prelude.{◌≡◌, ℕ, suc, ◌-◌, ℤ, pos, Bool, true, ◌&&◌, nat_le, nat_eq, List, [], ◌∷◌, ◌++◌, length, take, drop, filter, map, reverse, Option, Some, None, option_map, option_and_then, if◌then◌else◌}
use Rattle.std.specs.List.{list_all, starts_with}
use Rattle.sha2.specs.Sha256.{sha256}
use Rattle.hex.specs.Hex.{encode_lower}
use Rattle.gs_types.specs.Bytes.{is_text_byte}
use Rattle.gs_types.specs.Job.{Meaning}
use Rattle.gs_types.specs.declared.limits.TheConstants.{FILE_LIMIT, STRING_LIMIT}
use Rattle.gs_types.specs.declared.value.Value.{Value}
use Rattle.gs_types.specs.declared.value.Value.TheVariants.{Int, Str, File}
use Rattle.gs_lines.specs.Lines.{lines, file_of, first_of, without_repeats, numbered}
use Rattle.gs_lines.specs.Number.{fits_64, sum_from}
use Rattle.gs_lines.specs.Order.{rising}
use Rattle.gs_lines.specs.Words.{word_at}
use Rattle.gs_filters.specs.Operations.{operation_named}
use Rattle.gs_filters.specs.declared.operation.Operation.{Operation}
use Rattle.gs_filters.specs.declared.operation.Operation.TheVariants.{Copy, Cat, Append, Put, Head, Tail, Split, Starts, Sorted, Merge, Uniq, Reverse, Number, Column, Sum, Count, First, Digest}

-- ---- one file, two files, or a string

abbrev pub one : List ℕ → Option (List Value)
one bytes = Some (File bytes ∷ [])

abbrev pub two : List ℕ → List ℕ → Option (List Value)
two first second = Some (File first ∷ File second ∷ [])

abbrev pub text : List ℕ → Option (List Value)
text bytes = Some (Str bytes ∷ [])

-- ---- what each operation gives, by its inputs; with other inputs it gives none

abbrev pub of_file : Operation → List ℕ → Option (List Value)
of_file Copy a = one a
of_file Sorted a = one (file_of (rising (lines a)))
of_file Uniq a = one (file_of (without_repeats None (lines a)))
of_file Reverse a = one (file_of (reverse (lines a)))
of_file Number a = one (file_of (numbered 1 (lines a)))
of_file Sum a = option_map (λ sum. Int sum ∷ []) (sum_from (pos 0) (lines a))
of_file Count a = Some (Int (pos (length (lines a))) ∷ Int (pos (length a)) ∷ [])
of_file First a = text (first_of (lines a))
of_file Digest a = text (encode_lower (sha256 a))
of_file _ a = None

abbrev pub of_files : Operation → List ℕ → List ℕ → Option (List Value)
of_files Cat a b = one (a ++ b)
of_files Append a b = one (a ++ b)
of_files Merge a b = one (file_of (rising (lines a ++ lines b)))
of_files _ a b = None

abbrev pub of_number : Operation → List ℕ → ℤ → Option (List Value)
of_number Head a (pos n) = one (file_of (take n (lines a)))
of_number Tail a (pos n) = one (file_of (drop (length (lines a) - n) (lines a)))
of_number Split a (pos n) = two (file_of (take n (lines a))) (file_of (drop n (lines a)))
of_number Column a (pos (suc place)) = one (file_of (map (word_at place) (lines a)))
of_number _ a n = None

abbrev pub of_file_and_string : Operation → List ℕ → List ℕ → Option (List Value)
of_file_and_string Starts a s =
    one (file_of (filter (λ line. starts_with nat_eq line s) (lines a)))
of_file_and_string _ a s = None

abbrev pub of_string : Operation → List ℕ → Option (List Value)
of_string Put s = one (s ++ 10 ∷ [])
of_string _ s = None

abbrev pub outputs : List Value → Operation → Option (List Value)
outputs (File a ∷ []) operation = of_file operation a
outputs (File a ∷ File b ∷ []) operation = of_files operation a b
outputs (File a ∷ Int n ∷ []) operation = of_number operation a n
outputs (File a ∷ Str s ∷ []) operation = of_file_and_string operation a s
outputs (Str s ∷ []) operation = of_string operation s
outputs _ operation = None

-- ---- outputs past a limit count as none

abbrev pub is_text : List ℕ → Bool
is_text bytes = nat_le (length bytes) STRING_LIMIT && list_all is_text_byte bytes

abbrev pub is_within : Value → Bool
is_within (Int v) = fits_64 v
is_within (Str s) = is_text s
is_within (File bytes) = nat_le (length bytes) FILE_LIMIT

abbrev pub kept : List Value → Option (List Value)
kept outs = if list_all is_within outs then Some outs else None

-- ---- the law

abbrev pub filters : Meaning
filters name ins = option_and_then kept (option_and_then (outputs ins) (operation_named name))

-- a digest is within the limit of a string, and each of its bytes is one of a string
abbrev pub DigestIsText : Type 0
DigestIsText = (a : List ℕ) → is_text (encode_lower (sha256 a)) ≡ true
