-- What a job takes, place by place.
use Rattle.std.proofs.Common.{◌≡◌, ℕ, ◌+◌, ◌<◌, zero, suc, refl, ap, List, [], ◌∷◌, ◌++◌, length, take, get_or, add-one, arith, ◌∙◌}
use Rattle.gs_types.specs.Job.{inputs}
use Rattle.gs_types.specs.declared.value.Value.{Value}
use Rattle.gs_types.specs.declared.value.Value.TheVariants.{File}
use Rattle.gs_types.specs.declared.job.Arg.{Arg}
use Rattle.gs_types.specs.declared.job.Arg.TheVariants.{Given, Both, OutFile, OutInt, OutStr}

pub inputs-append : (xs ys : List Arg) → inputs (xs ++ ys) ≡ inputs xs ++ inputs ys
inputs-append [] ys = refl
inputs-append (Given v ∷ xs) ys = ap (λ (vs : List Value). v ∷ vs) (inputs-append xs ys)
inputs-append (Both bytes ∷ xs) ys = ap (λ (vs : List Value). File bytes ∷ vs) (inputs-append xs ys)
inputs-append (OutFile ∷ xs) ys = inputs-append xs ys
inputs-append (OutInt ∷ xs) ys = inputs-append xs ys
inputs-append (OutStr ∷ xs) ys = inputs-append xs ys

-- a list up to the next place
take_next : (xs : List Arg) (i : ℕ) (d : Arg) → i < length xs → take (i + 1) xs ≡ take i xs ++ get_or xs i d ∷ []
take_next [] i d lt = absurd (omega arith)
take_next (x ∷ xs) zero d lt = refl
take_next (x ∷ xs) (suc i) d lt = rw add-one (let e = take_next xs i d (omega arith) in rw add-one at (ap (λ (ys : List Arg). x ∷ ys) e))

pub inputs-take_next : (xs : List Arg) (i : ℕ) (d : Arg) → i < length xs → inputs (take (i + 1) xs) ≡ inputs (take i xs) ++ inputs (get_or xs i d ∷ [])
inputs-take_next xs i d lt = ap inputs (take_next xs i d lt) ∙ inputs-append (take i xs) (get_or xs i d ∷ [])
