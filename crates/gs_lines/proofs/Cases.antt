-- What the definitions say of small files.
use Rattle.std.proofs.Common.{◌≡◌, ◌-◌, ◌^◌, pos, negsuc, refl, [], ◌∷◌, Some, None}
use Rattle.std.specs.Prelude.{codes}
use Rattle.gs_lines.specs.Lines.{lines, file_of, first_of, without_repeats}
use Rattle.gs_lines.specs.Number.{number_in, sum_from}
use Rattle.gs_lines.specs.Order.{rising}
use Rattle.gs_lines.specs.Words.{words, word_at}

-- ---- lines

empty_file : lines [] ≡ []
empty_file = refl

last_line_open : lines (codes "b\na\nb") ≡ codes "b" ∷ codes "a" ∷ codes "b" ∷ []
last_line_open = refl

empty_lines : lines (codes "\na\n\n") ≡ [] ∷ codes "a" ∷ [] ∷ []
empty_lines = refl

carriage_return : lines (codes "a\r\n") ≡ codes "a\r" ∷ []
carriage_return = refl

any_byte : lines (0 ∷ 10 ∷ 255 ∷ []) ≡ (0 ∷ []) ∷ (255 ∷ []) ∷ []
any_byte = refl

closed_file : file_of (lines (codes "b\na\nb")) ≡ codes "b\na\nb\n"
closed_file = refl

first_line : first_of (lines (codes "\na")) ≡ []
first_line = refl

no_first_line : first_of (lines []) ≡ []
no_first_line = refl

-- ---- in another order

repeats_kept : rising (codes "b" ∷ codes "a" ∷ codes "b" ∷ []) ≡ codes "a" ∷ codes "b" ∷ codes "b" ∷
    []
repeats_kept = refl

shorter_first : rising ((255 ∷ []) ∷ codes "ab" ∷ codes "a" ∷ (0 ∷ []) ∷ [] ∷ []) ≡ [] ∷ (0 ∷ []) ∷
    codes "a" ∷ codes "ab" ∷ (255 ∷ []) ∷ []
shorter_first = refl

only_neighbours : without_repeats None (codes "a" ∷ codes "a" ∷ codes "b" ∷ codes "a" ∷ []) ≡ codes
    "a" ∷ codes "b" ∷ codes "a" ∷ []
only_neighbours = refl

empty_repeats : without_repeats None ([] ∷ [] ∷ codes "a" ∷ []) ≡ [] ∷ codes "a" ∷ []
empty_repeats = refl

-- ---- words

runs : words (codes " ab\t c  ") ≡ codes "ab" ∷ codes "c" ∷ []
runs = refl

other_white : words (codes "a\rb") ≡ codes "a\rb" ∷ []
other_white = refl

no_words : words (codes " \t") ≡ []
no_words = refl

second_word : word_at 1 (codes "a  bb c") ≡ codes "bb"
second_word = refl

past_last_word : word_at 2 (codes "a bb") ≡ []
past_last_word = refl

-- ---- numbers

negative : number_in (codes "-5") ≡ Some (negsuc 4)
negative = refl

zeros : number_in (codes "0012") ≡ Some (pos 12)
zeros = refl

minus_nothing : number_in (codes "-0") ≡ Some (pos 0)
minus_nothing = refl

greatest : number_in (codes "9223372036854775807") ≡ Some (pos (2 ^ 63 - 1))
greatest = refl

past_greatest : number_in (codes "9223372036854775808") ≡ None
past_greatest = refl

least : number_in (codes "-9223372036854775808") ≡ Some (negsuc (2 ^ 63 - 1))
least = refl

past_least : number_in (codes "-9223372036854775809") ≡ None
past_least = refl

twenty_digits : number_in (codes "00000000000000000001") ≡ None
twenty_digits = refl

plus : number_in (codes "+1") ≡ None
plus = refl

two_signs : number_in (codes "--1") ≡ None
two_signs = refl

sign_alone : number_in (codes "-") ≡ None
sign_alone = refl

nothing : number_in [] ≡ None
nothing = refl

carriage_return_in_number : number_in (codes "1\r") ≡ None
carriage_return_in_number = refl

sum_of_two : sum_from (pos 0) (lines (codes "12\n-5\n")) ≡ Some (pos 7)
sum_of_two = refl

sum_of_none : sum_from (pos 0) (lines []) ≡ Some (pos 0)
sum_of_none = refl

back_within : sum_from (pos 0) (lines (codes "9223372036854775807\n1\n-1\n")) ≡ None
back_within = refl

always_within : sum_from (pos 0) (lines (codes "9223372036854775807\n-1\n1\n")) ≡ Some (pos (2 ^ 63
    - 1))
always_within = refl

empty_line_in_sum : sum_from (pos 0) (lines (codes "1\n\n2\n")) ≡ None
empty_line_in_sum = refl
