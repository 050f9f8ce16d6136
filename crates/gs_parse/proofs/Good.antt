-- What a rule has to be so that a reader that looks one sign ahead never errs.
use Rattle.std.proofs.Common.{◌≡◌, ◌<◌, ℕ, List, [], ◌∷◌, ◌++◌, Bool, true, false, ◌⊎◌}
use Rattle.gs_tree.specs.Sign.{Sign, Mark, int_, char_, file_, else_, ident, less_equal, greater_equal, equal_equal, not_equal, and_and, or_or, plus, minus, star, slash, percent, less, greater}
use Rattle.gs_parse.specs.Notation.{Kind, Value, Part, kind_of, Fit, unfit, Rule, gives, take, may, read, level, tail, printing, rest_of, stmts, names, decls, starts}
use Rattle.gs_parse.specs.Grammar.{rule}
use Rattle.gs_parse.specs.Reading.{Limits, limited, unlimited, Accepts, Says}

-- a sign that takes part in no repetition and no option that may be left out at a part's end
abbrev pub closes : Sign → Bool
closes (ident s) = false
closes int_ = false
closes char_ = false
closes file_ = false
closes else_ = false
closes less_equal = false
closes greater_equal = false
closes equal_equal = false
closes not_equal = false
closes and_and = false
closes or_or = false
closes plus = false
closes minus = false
closes star = false
closes slash = false
closes percent = false
closes less = false
closes greater = false
closes _ = true

-- what follows begins with such a sign, if with any
abbrev pub Closing : List Mark → Type 0
Closing [] = Unit {0}
Closing (x ∷ xs) = closes x.sign ≡ true

abbrev pub Rejects : (Mark → Fit) → Type 0
Rejects f = (x : Mark) → closes x.sign ≡ true → f x ≡ unfit

abbrev pub eats : Part → Bool
eats (tail t d g a) = false
eats (rest_of d x) = false
eats (decls d) = false
eats (starts d) = false
eats _ = true

-- a rule that takes a sign at least
abbrev pub Eats : (k : Kind) → Rule k → Type 0
Eats k (gives v) = ⊥
Eats k (take f n) = Unit {0}
Eats k (may f n o) = Eats k o
Eats k (read n next) = eats n ≡ true

-- a sign that fits, and closes if it has to
abbrev pub Pick : (l : Limits) (shut : Bool) → (Mark → Fit) → Type 0
Pick l shut f = (x : Mark) × (shut ≡ true → closes x.sign ≡ true) × Accepts l (f x)

-- a part that has an end which begins with a closing sign, or none
abbrev pub shuts : Part → Bool
shuts (names k d) = false
shuts printing = false
shuts _ = true

abbrev pub Room : (l : Limits) → (depth : ℕ) → Type 0
Room limited depth = depth < 64
Room unlimited depth = Unit {0}

abbrev pub Fine : (l : Limits) → Part → Type 0
Fine l (level t d g) = Room l d
Fine l (stmts d c so_far) = closes c ≡ true
Fine l _ = Unit {0}

-- what has to be shown of a rule; `shut` where an end of it has to begin with a closing sign
abbrev pub Good : (l : Limits) (shut : Bool) (k : Kind) → Rule k → Type 0
Good l shut k (gives v) = Unit {0}
Good l shut k (take f n) = Pick l shut f × ((x : Mark) → Accepts l (f x) → Good l false k (n x))
Good l shut k (may f n o) =
    ((Rejects f × Good l true k o) ⊎ (Eats k o × Pick l shut f × Good l false k o)) × ((x : Mark) → Accepts l (f x) → Good l false k (n x))
Good l shut k (read n next) = Fine l n × (shut ≡ true → shuts n ≡ true) × ((v : Value (kind_of n)) → Good l true k (next v))

-- signs that end a rule's text
pub record Ends (l : Limits) (shut : Bool) (k : Kind) (r : Rule k) : Type 0 where
  pub last : List Mark
  pub value : Value k
  pub closing : shut ≡ true → (more : List Mark) → Closing more → Closing (last ++ more)
  pub says : (more : List Mark) → Closing more → Says l k r (last ++ more) value more

-- what is shown of all parts
pub record AllGood : Type 0 where
  pub good : (l : Limits) (n : Part) → Fine l n → Good l (shuts n) (kind_of n) (rule n)
  pub ends : (l : Limits) (n : Part) → Fine l n → Ends l (shuts n) (kind_of n) (rule n)
  pub eating : (n : Part) → eats n ≡ true → Eats (kind_of n) (rule n)
