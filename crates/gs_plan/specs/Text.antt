-- The text of a plan.
use Rattle.std.specs.Prelude.{ℕ, List, [], ◌∷◌, ◌++◌, codes}
use Rattle.std.specs.List.{flat_map}
use Rattle.std.specs.Fmt.{decimal}
use Rattle.gs_plan.specs.declared.table.Placed.{Placed}
use Rattle.gs_plan.specs.declared.table.Plan.{Plan}

-- `task N slot S start T end U`
abbrev pub row_line : Placed → List ℕ
row_line r = codes "task " ++ decimal r.n ++ codes " slot " ++ decimal r.slot
    ++ codes " start " ++ decimal r.start ++ codes " end " ++ decimal r.end ++ 10 ∷ []

-- a word, a blank and a number
abbrev pub number_line : List ℕ → ℕ → List ℕ
number_line word n = word ++ 32 ∷ decimal n ++ 10 ∷ []

-- `chain`, with a blank and a number for each of its tasks
abbrev pub chain_line : List ℕ → List ℕ
chain_line chain = codes "chain" ++ flat_map (λ n. 32 ∷ decimal n) chain ++ 10 ∷ []

-- a line for each task, and then the last end, the work, the chain and its length
abbrev pub text_of : Plan → List ℕ
text_of p = flat_map row_line p.tasks ++ number_line (codes "end") p.end
    ++ number_line (codes "work") p.work ++ chain_line p.chain
    ++ number_line (codes "length") p.length
