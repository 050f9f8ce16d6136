-- Operators that stand, or don't, at a place of a text.
use Rattle.std.specs.Prelude.{◌≡◌, ◌≢◌, ℕ, List, [], ◌∷◌, ⊤}
use Rattle.gs_tree.specs.declared.tree.Op.{Op}
use Rattle.gs_tree.specs.Sign.{Mark}
use Rattle.gs_parse.specs.Symbols.{binding, operator}

-- an operator of this level stands here
unfoldable pub IsOperator : (level : ℕ) → Op → (here next : List Mark) → Type 0
IsOperator level op here next = (x : Mark) × (here ≡ x ∷ next) × (binding x.sign ≡ level) × (operator x.sign ≡ op)

-- none does
unfoldable pub NoOperator : (level : ℕ) → List Mark → Type 0
NoOperator level [] = ⊤
NoOperator level (x ∷ xs) = binding x.sign ≢ level
