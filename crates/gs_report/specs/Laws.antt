-- What the two operations give for a task, and that it fits the task's places.
use Rattle.std.specs.Prelude.{ℕ, ℤ, List, [], ◌∷◌, ◌++◌, codes}
use Rattle.std.specs.Fmt.{signed_decimal}
use Rattle.sha2.specs.Sha256.{sha256}
use Rattle.gs_types.specs.Job.{Gives}
use Rattle.gs_types.specs.declared.job.Arg.TheVariants.{Given, Both, OutFile}
use Rattle.gs_types.specs.declared.value.Value.TheVariants.{Int, File}
use Rattle.gs_report.specs.Generator.{self_gives}

-- `hash` gives the digest of its first file followed by its second
abbrev pub HashGives : Type 0
HashGives = (a b : List ℕ) → Gives self_gives (codes "hash")
    (Given (File a) ∷ Given (File b) ∷ OutFile ∷ []) (File (sha256 (a ++ b)) ∷ [])

-- `mark` gives the digest of its file followed by the decimal of its number
abbrev pub MarkGives : Type 0
MarkGives = (f : List ℕ) (i : ℤ) → Gives self_gives (codes "mark")
    (Both f ∷ Given (Int i) ∷ []) (File (sha256 (f ++ signed_decimal i)) ∷ [])
