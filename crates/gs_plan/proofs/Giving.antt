-- What the steps of reading a line of a durations file make of it.
use Rattle.std.proofs.Common.{◌≡◌, ◌≢◌, ℕ, zero, suc, ◌+◌, ◌<◌, ◌≤◌, true, false, List, [], ◌∷◌, ◌++◌, length, take, drop, get_or, Option, Some, None, refl, sym, ap, subst, ◌∙◌, arith, replicate, unwrap_or, slice_set}
use Rattle.std.specs.Prelude.{◌==◌, is_some, MatchOption, slice_index}
use Rattle.std.proofs.lemmas.Bool.Decides.{nat_tests}
use Rattle.std.proofs.lemmas.List.{length-take, length-map}
use Rattle.std.specs.Str.Parse.{IsNumeral, digits_value}
use Rattle.std.proofs.lemmas.Str.{digit_value_digit}
use Rattle.std.proofs.lemmas.Str.Parse.{digit_from_value, digits_value-take-le}
use Rattle.std.proofs.lemmas.Int.Digits.{digits_value_more}
use denote.Ref.{Bor}
use Rattle.gs_idl.specs.Interface.{Signature}
use Rattle.gs_list.specs.Lines.{HasWords, spelled}
use Rattle.gs_plan.specs.declared.kind.TheConstants.{DURATION_LIMIT}
use Rattle.gs_plan.specs.Durations.{Given, IsDuration, LineSays, nothing, duration, LinesSay, no_line, line_more, IsLineFault, none_given, durations_by, AreDurations}
use Rattle.gs_plan.specs.Reading.{IsStop, err_at, IsLinesStop}
use Rattle.gs_plan.specs.declared.line.Stop.{Stop}
use Rattle.gs_plan.specs.declared.line.Stop.TheVariants.{Fault, Memory}

-- ---- options

pub of_none : {A : Type 0} (o : Option A) (P : Type 0) (Q : A → Type 0) → MatchOption o P Q → o ≡ None → P
of_none None P Q m e = m
of_none (Some a) P Q m e = absurd cc

pub of_some : {A : Type 0} (o : Option A) (P : Type 0) (Q : A → Type 0) (x : A) → MatchOption o P Q → o ≡ Some x → Q x
of_some None P Q x m e = absurd cc
of_some (Some a) P Q x m e = let same : a ≡ x = cc in subst Q same m

pub is_some_of : (o : Option ℕ) → true ≡ is_some o → (e : ℕ) × (o ≡ Some e)
is_some_of None h = absurd cc
is_some_of (Some e) h = (e, refl)

pub is_none_of : (o : Option ℕ) → false ≡ is_some o → o ≡ None
is_none_of None h = refl
is_none_of (Some e) h = absurd cc

-- ---- whether there are words

pub no_words : (line : List ℕ) (words : List (Bor (List ℕ))) → HasWords line (spelled words) → true ≡ (length words == 0) → HasWords line []
no_words line [] are e = are
no_words line (w ∷ ws) are e = absurd (more (length ws) e)
  where
    more : (n : ℕ) → true ≡ (suc n == 0) → ⊥
    more n e = grind (arith, nat_tests)

pub some_words : (words : List (Bor (List ℕ))) → false ≡ (length words == 0) → spelled words ≢ []
some_words [] e none = let z : (0 == 0) ≡ true = refl in absurd cc
some_words (w ∷ ws) e none = absurd cc

-- ---- line after line

lines_more : (ops : List Signature) (xs : List (List ℕ)) (line : List ℕ) (a b c : Given) → LinesSay ops xs a b → LineSays ops line b c → LinesSay ops (xs ++ line ∷ []) a c
lines_more ops xs line a b c (no_line d) says = line_more line [] d c c says (no_line c)
lines_more ops xs line a b c (line_more l ls d e f first rest) says = line_more l (ls ++ line ∷ []) d e c first (lines_more ops ls line e f c rest says)

line_more_at : (lines : List (Bor (List ℕ))) (i : ℕ) (d : Bor (List ℕ)) → i < length lines → take (i + 1) (spelled lines) ≡ take i (spelled lines) ++ (get_or lines i d).now ∷ []
line_more_at [] i d lt = absurd (omega arith)
line_more_at (x ∷ xs) zero d lt = refl
line_more_at (x ∷ xs) (suc i) d lt =
    let e : suc i + 1 ≡ suc (i + 1) = omega arith in
    ap (λ (n : ℕ). take n (spelled (x ∷ xs))) e ∙ ap (λ (ws : List (List ℕ)). x.now ∷ ws) (line_more_at xs i d (omega arith))

pub one_line_more : (ops : List Signature) (lines : List (Bor (List ℕ))) (i : ℕ) (d : Bor (List ℕ)) (a b c : Given) → i < length lines → LinesSay ops (take i (spelled lines)) a b → LineSays ops (get_or lines i d).now b c → LinesSay ops (take (i + 1) (spelled lines)) a c
one_line_more ops lines i d a b c lt said says =
    subst (λ (xs : List (List ℕ)). LinesSay ops xs a c) (sym (line_more_at lines i d lt)) (lines_more ops (take i (spelled lines)) (get_or lines i d).now a b c said says)

parts_at : (lines : List (Bor (List ℕ))) (i : ℕ) (d : Bor (List ℕ)) → i < length lines → spelled lines ≡ take i (spelled lines) ++ (get_or lines i d).now ∷ drop (suc i) (spelled lines)
parts_at [] i d lt = absurd (omega arith)
parts_at (x ∷ xs) zero d lt = refl
parts_at (x ∷ xs) (suc i) d lt = ap (λ (ws : List (List ℕ)). x.now ∷ ws) (parts_at xs i d (omega arith))

pub stops_at : (ops : List Signature) (lines : List (Bor (List ℕ))) (i : ℕ) (d : Bor (List ℕ)) (before : Given) (stop : Stop) → i < length lines → LinesSay ops (take i (spelled lines)) (none_given ops) before → IsStop (IsLineFault ops (get_or lines i d).now before) stop → IsLinesStop ops (spelled lines) (err_at stop (i + 1))
stops_at ops lines i d before (Fault kind) lt said fault = record {
  front = take i (spelled lines);
  line = (get_or lines i d).now;
  rest = drop (suc i) (spelled lines);
  place = parts_at lines i d lt;
  count = (let n = length-take i (spelled lines) in let m = length-map lines (λ (w : Bor (List ℕ)). w.now) in omega arith);
  before = before;
  said = said;
  fault = fault;
}
stops_at ops lines i d before Memory lt said fault = tt

-- ---- each operation has a duration within the limit

Within : Option ℕ → Type 0
Within None = Unit {0}
Within (Some d) = (1 ≤ d) × (d ≤ DURATION_LIMIT)

AllWithin : Given → Type 0
AllWithin [] = Unit {0}
AllWithin (o ∷ os) = Within o × AllWithin os

within_none : (n : ℕ) → AllWithin (replicate n None)
unfolding AllWithin Within
within_none zero = tt
within_none (suc n) = (tt, within_none n)

within_set : (given : Given) (i : ℕ) (o : Option ℕ) → AllWithin given → Within o → AllWithin (slice_set given i o)
unfolding AllWithin
within_set [] i o all is = tt
within_set (x ∷ xs) zero o all is = (is, all.1)
within_set (x ∷ xs) (suc i) o all is = (all.0, within_set xs i o all.1 is)

length_set : (given : Given) (i : ℕ) (o : Option ℕ) → length (slice_set given i o) ≡ length given
length_set [] i o = refl
length_set (x ∷ xs) zero o = refl
length_set (x ∷ xs) (suc i) o = ap suc (length_set xs i o)

-- a decimal that doesn't begin with 0 is no zero
some_value : (word : List ℕ) → IsNumeral 10 word → slice_index word 0 ≢ 48 → 1 ≤ digits_value 10 word
some_value [] is bare = absurd (omega (arith, is.0))
some_value (c ∷ cs) is bare =
    let digit = digit_value_digit c (digit_from_value c is.1.0) in
    let first = digits_value_more 10 (c ∷ cs) 0 (omega arith) in
    let least = digits_value-take-le 10 (c ∷ cs) 1 (omega arith) in
    omega (arith, digit, first, least, bare)

some_duration : (word : List ℕ) (d : ℕ) → IsDuration word d → 1 ≤ d
some_duration word d is = omega (arith, is.says, some_value word is.digits is.bare)

within_line : (ops : List Signature) (line : List ℕ) (a b : Given) → LineSays ops line a b → AllWithin a → AllWithin b × (length b ≡ length a)
unfolding Within
within_line ops line a b (nothing before has) all = (all, refl)
within_line ops line a b (duration before name digits op d has place is free) all =
    (within_set before op (Some d) all (some_duration digits d is, is.few), length_set before op (Some d))

within_lines : (ops : List Signature) (lines : List (List ℕ)) (a b : Given) → LinesSay ops lines a b → AllWithin a → AllWithin b × (length b ≡ length a)
within_lines ops lines a b (no_line before) all = (all, refl)
within_lines ops lines a b (line_more line rest before middle after first more) all =
    let one = within_line ops line before middle first all in
    let two = within_lines ops rest middle after more one.0 in
    (two.0, two.1 ∙ one.1)

each_within : (given : Given) (k : ℕ) → AllWithin given → k < length given → (1 ≤ slice_index (durations_by given) k) × (slice_index (durations_by given) k ≤ DURATION_LIMIT)
unfolding AllWithin Within
each_within [] k all lt = absurd (omega arith)
each_within (None ∷ os) zero all lt = (omega arith, omega arith)
each_within (Some d ∷ os) zero all lt = all.0
each_within (o ∷ os) (suc k) all lt = each_within os k all.1 (omega arith)

pub length_none : (n : ℕ) → length (replicate {A = Option ℕ} n None) ≡ n
length_none zero = refl
length_none (suc n) = ap suc (length_none n)

pub are_durations : (ops : List Signature) (lines : List (List ℕ)) (given : Given) (durations : List ℕ) → LinesSay ops lines (none_given ops) given → durations ≡ durations_by given → AreDurations (length ops) durations
are_durations ops lines given durations said each =
    let all = within_lines ops lines (none_given ops) given said (within_none (length ops)) in
    let count : length given ≡ length ops = all.1 ∙ length_none (length ops) in
    subst (AreDurations (length ops)) (sym each) (record {
      count = length-map given (λ (o : Option ℕ). unwrap_or o 1) ∙ count;
      each = λ k lt. each_within given k all.0 (omega arith);
    })
