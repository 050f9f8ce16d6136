-- Outputs that fit their places, as a test.
use Rattle.std.proofs.Common.{◌≡◌, ℕ, suc, Bool, true, List, [], ◌∷◌, length, refl, ap, ◌∙◌, arith}
use Rattle.std.specs.Prelude.{◌&&◌, nat_le}
use Rattle.std.specs.List.{list_all}
use Rattle.std.proofs.lemmas.Bool.{le-leb}
use Rattle.gs_types.specs.Bytes.{is_text_byte, ReadsTo}
use Rattle.gs_types.specs.Job.{Fit}
use Rattle.gs_types.specs.declared.limits.TheConstants.{FILE_LIMIT, STRING_LIMIT}
use Rattle.gs_types.specs.declared.value.Value.{Value}
use Rattle.gs_types.specs.declared.value.Value.TheVariants as value
use Rattle.gs_types.specs.declared.job.Arg.{Arg}
use Rattle.gs_types.specs.declared.job.Arg.TheVariants.{Given, Both, OutFile, OutInt, OutStr}
use Rattle.gs_talk.specs.Seq.{fit, is_file, is_int, is_string}

and_both : (a b : Bool) → a ≡ true → b ≡ true → (a && b) ≡ true
and_both a b x y = ap (λ c. c && b) x ∙ y

all_bytes : (s : List ℕ) → ReadsTo s (length s) → list_all is_text_byte s ≡ true
all_bytes [] reads = refl
all_bytes (b ∷ s) reads = and_both (is_text_byte b) (list_all is_text_byte s)
    (reads 0 (omega arith)) (all_bytes s (λ k lt. reads (suc k) (omega arith)))

file_fits : (v : Value) (args : List Arg) (outs : List Value) → Fit (OutFile ∷ args) (v ∷ outs)
    → is_file v ≡ true
file_fits (value.File bytes) args outs f = le-leb (length bytes) FILE_LIMIT f.0
file_fits (value.Int n) args outs f = absurd f.0
file_fits (value.Str s) args outs f = absurd f.0

int_fits : (v : Value) (args : List Arg) (outs : List Value) → Fit (OutInt ∷ args) (v ∷ outs)
    → is_int v ≡ true
int_fits (value.Int n) args outs f = refl
int_fits (value.File bytes) args outs f = absurd f.0
int_fits (value.Str s) args outs f = absurd f.0

str_fits : (v : Value) (args : List Arg) (outs : List Value) → Fit (OutStr ∷ args) (v ∷ outs)
    → is_string v ≡ true
str_fits (value.Str s) args outs f = and_both (nat_le (length s) STRING_LIMIT)
    (list_all is_text_byte s) (le-leb (length s) STRING_LIMIT f.0.short) (all_bytes s f.0.each)
str_fits (value.File bytes) args outs f = absurd f.0
str_fits (value.Int n) args outs f = absurd f.0

pub fit_true : (args : List Arg) (outs : List Value) → Fit args outs → fit args outs ≡ true
fit_true [] [] f = refl
fit_true [] (v ∷ outs) f = absurd f
fit_true (Given v ∷ args) outs f = fit_true args outs f
fit_true (Both bytes ∷ args) [] f = absurd f
fit_true (Both bytes ∷ args) (v ∷ outs) f = and_both (is_file v) (fit args outs)
    (file_fits v args outs f) (fit_true args outs f.1)
fit_true (OutFile ∷ args) [] f = absurd f
fit_true (OutFile ∷ args) (v ∷ outs) f = and_both (is_file v) (fit args outs)
    (file_fits v args outs f) (fit_true args outs f.1)
fit_true (OutInt ∷ args) [] f = absurd f
fit_true (OutInt ∷ args) (v ∷ outs) f = and_both (is_int v) (fit args outs)
    (int_fits v args outs f) (fit_true args outs f.1)
fit_true (OutStr ∷ args) [] f = absurd f
fit_true (OutStr ∷ args) (v ∷ outs) f = and_both (is_string v) (fit args outs)
    (str_fits v args outs f) (fit_true args outs f.1)
