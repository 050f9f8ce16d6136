-- What it is that a list of signs begins with the text of a rule; the texts of the program; and where a text goes wrong.
use Rattle.std.specs.Prelude.{◌≡◌, ℕ, ◌+◌, ◌<◌, ◌≤◌, List, [], ◌∷◌, ◌++◌, take as first, length}
use Rattle.gs_tree.specs.Sign.{Mark}
use Rattle.gs_tree.specs.Program.{Program}
use Rattle.gs_parse.specs.Notation.{Kind, Value, Part, program, kind_of, Fit, unfit, too_deep, fit, Rule, gives, take, may, read}
use Rattle.gs_parse.specs.Grammar.{rule}

-- The grammar with its limits of depth, or without them.
pub data Limits : Type 0 where
  limited : Limits
  unlimited : Limits

abbrev pub Accepts : Limits → Fit → Type 0
Accepts l fit = Unit
Accepts limited too_deep = ⊥
Accepts unlimited too_deep = Unit
Accepts l unfit = ⊥

abbrev pub Refuses : Limits → Fit → Type 0
Refuses l fit = ⊥
Refuses limited too_deep = Unit
Refuses unlimited too_deep = ⊥
Refuses l unfit = Unit

-- how the next sign fits; the end of the text fits nowhere
abbrev pub next_fit : (Mark → Fit) → List Mark → Fit
next_fit fits [] = unfit
next_fit fits (x ∷ xs) = fits x

-- The signs begin with a text of the rule, which says the value, and the rest follows.
pub data Says : Limits → (k : Kind) → Rule k → List Mark → Value k → List Mark → Type 0 where
  given : (l : Limits) (k : Kind) (v : Value k) (ts : List Mark) → Says l k (gives v) ts v ts
  taken : (l : Limits) (k : Kind) (fits : Mark → Fit) (next : Mark → Rule k) (x : Mark) (xs : List Mark) (v : Value k) (rest : List Mark) →
      Accepts l (fits x) → Says l k (next x) xs v rest → Says l k (take fits next) (x ∷ xs) v rest
  chosen : (l : Limits) (k : Kind) (fits : Mark → Fit) (next : Mark → Rule k) (other : Rule k) (x : Mark) (xs : List Mark) (v : Value k) (rest : List Mark) →
      Accepts l (fits x) → Says l k (next x) xs v rest → Says l k (may fits next other) (x ∷ xs) v rest
  passed : (l : Limits) (k : Kind) (fits : Mark → Fit) (next : Mark → Rule k) (other : Rule k) (ts : List Mark) (v : Value k) (rest : List Mark) →
      next_fit fits ts ≡ unfit → Says l k other ts v rest → Says l k (may fits next other) ts v rest
  part : (l : Limits) (k : Kind) (n : Part) (next : Value (kind_of n) → Rule k) (ts us : List Mark) (w : Value (kind_of n)) (v : Value k) (rest : List Mark) →
      Says l (kind_of n) (rule n) ts w us → Says l k (next w) us v rest → Says l k (read n next) ts v rest

-- A text says a program.
abbrev pub SaysProgram : Limits → List Mark → Program → Type 0
SaysProgram l ts p = Says l (kind_of program) (rule program) ts p []

-- The signs are a beginning of a text of the grammar.
abbrev pub IsBeginning : Limits → List Mark → Type 0
IsBeginning l ts = (more : List Mark) × (p : Program) × SaysProgram l (ts ++ more) p

-- A text says nothing, and its sign k is the first with which the signs so far are no beginning; or k is its end.
pub record IsFaultAt (ts : List Mark) (k : ℕ) : Type 0 where
  pub within : k ≤ length ts
  pub before : IsBeginning limited (first k ts)
  pub here : k < length ts → ¬ IsBeginning limited (first (k + 1) ts)
  pub whole : (p : Program) → ¬ SaysProgram limited ts p

-- A rule's reading can't go on at the rest, since the next sign does not fit.
pub data Stops : Limits → (k : Kind) → Rule k → List Mark → Fit → List Mark → Type 0 where
  at_take : (l : Limits) (k : Kind) (fits : Mark → Fit) (next : Mark → Rule k) (ts : List Mark) →
      Refuses l (next_fit fits ts) → Stops l k (take fits next) ts (next_fit fits ts) ts
  at_may : (l : Limits) (k : Kind) (fits : Mark → Fit) (next : Mark → Rule k) (other : Rule k) (ts : List Mark) →
      Refuses l (next_fit fits ts) → next_fit fits ts ≡ too_deep → Stops l k (may fits next other) ts (next_fit fits ts) ts
  after_taken : (l : Limits) (k : Kind) (fits : Mark → Fit) (next : Mark → Rule k) (x : Mark) (xs : List Mark) (w : Fit) (rest : List Mark) →
      Accepts l (fits x) → Stops l k (next x) xs w rest → Stops l k (take fits next) (x ∷ xs) w rest
  after_chosen : (l : Limits) (k : Kind) (fits : Mark → Fit) (next : Mark → Rule k) (other : Rule k) (x : Mark) (xs : List Mark) (w : Fit) (rest : List Mark) →
      Accepts l (fits x) → Stops l k (next x) xs w rest → Stops l k (may fits next other) (x ∷ xs) w rest
  after_passed : (l : Limits) (k : Kind) (fits : Mark → Fit) (next : Mark → Rule k) (other : Rule k) (ts : List Mark) (w : Fit) (rest : List Mark) →
      next_fit fits ts ≡ unfit → Stops l k other ts w rest → Stops l k (may fits next other) ts w rest
  inside : (l : Limits) (k : Kind) (n : Part) (next : Value (kind_of n) → Rule k) (ts : List Mark) (w : Fit) (rest : List Mark) →
      Stops l (kind_of n) (rule n) ts w rest → Stops l k (read n next) ts w rest
  after_part : (l : Limits) (k : Kind) (n : Part) (next : Value (kind_of n) → Rule k) (ts us : List Mark) (v : Value (kind_of n)) (w : Fit) (rest : List Mark) →
      Says l (kind_of n) (rule n) ts v us → Stops l k (next v) us w rest → Stops l k (read n next) ts w rest
