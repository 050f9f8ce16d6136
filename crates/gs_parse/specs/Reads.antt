-- What the reader's functions promise: where they stand in a text, and what they read from there.
use Rattle.std.specs.Prelude.{◌≡◌, ℕ, ◌+◌, ◌≤◌, IfOk, List, [], ◌∷◌, Option, Some, None, Result, Ok, Err, Bool, true, false, drop, map, ⊤}
use Rattle.gs_tree.specs.Cut.{marks_in}
use Rattle.gs_tree.specs.Program.{Name, Term, Passed, two, var}
use Rattle.gs_tree.specs.Shown.{mark_shown}
use Rattle.gs_tree.specs.Sign.{Sign, Mark}
use Rattle.gs_tree.specs.View.{name_of, formatted_of, passed_of, setting_of, term_of}
use Rattle.gs_tree.specs.declared.tree.Op.{Op}
use Rattle.gs_tree.specs.declared.tree.Assign.{Assign}
use Rattle.gs_tree.specs.declared.tree.Ident.{Ident}
use Rattle.gs_tree.specs.declared.tree.Format.{Format}
use Rattle.gs_tree.specs.declared.tree.Argument.{Argument}
use Rattle.gs_tree.specs.declared.tree.Expr.{Expr}
use Rattle.gs_parse.specs.Symbols.{name_at, text_of}
use Rattle.gs_tree.specs.declared.list.Tokens.{Tokens}
use Rattle.gs_tree.specs.declared.sign.Mark as rust
use Rattle.std.specs.declared.vec.Vec.{Vec}
use Rattle.std.specs.declared.alloc.Global.{Global}
use Rattle.gs_parse.specs.declared.terms.Printing.{Printing}
use Rattle.gs_parse.specs.declared.build.Operand.{Operand}
use Rattle.gs_parse.specs.declared.stop.Stop.{Stop}
use Rattle.gs_parse.specs.declared.stop.Stop.TheVariants.{NoMemory, Unfit, TooDeep}
use Rattle.gs_parse.specs.Notation.{Kind, Value, Lined, Printed, a_term, level, unfit, too_deep, fit, Rule}
use Rattle.gs_tree.specs.declared.tree.Mode.{Mode}
use Rattle.gs_parse.specs.Grammar.{rule, height, is, is_mode, mode_of}
use Rattle.gs_parse.specs.Reading.{limited, Says, Stops, next_fit}

-- the signs from a token on
unfoldable pub left : Tokens → ℕ → List Mark
left tokens at = drop at (marks_in tokens)

-- what stands at a token
abbrev pub Shows : Option rust.Mark → (here next : List Mark) → Type 0
Shows None here next = here ≡ []
Shows (Some m) here next = here ≡ mark_shown m ∷ next

-- a sign stands here, or not
abbrev pub Stands : Sign → (here : List Mark) → (stands : Bool) → (next : List Mark) → Type 0
Stands s here true next = (x : Mark) × (here ≡ x ∷ next) × (is s x ≡ fit)
Stands s here false next = next_fit (is s) here ≡ unfit

-- a sign was taken, or does not stand here
unfoldable pub Takes : Sign → (old : List Mark) → (taken : Bool) → (new : List Mark) → Type 0
Takes s old true new = (x : Mark) × (old ≡ x ∷ new) × (is s x ≡ fit)
Takes s old false new = (next_fit (is s) old ≡ unfit) × (new ≡ old)

unfoldable pub Expects : {A : Type 0} → Sign → (A → Mark → Type 0) → (old : List Mark) → Result A Stop → (new : List Mark) → Type 0
Expects s P old (Ok a) new = (x : Mark) × (old ≡ x ∷ new) × (is s x ≡ fit) × P a x
Expects s P old (Err Unfit) new = (next_fit (is s) old ≡ unfit) × (new ≡ old)
Expects s P old (Err TooDeep) new = ⊥
Expects s P old (Err NoMemory) new = ⊤

abbrev pub Anything : {A : Type 0} → A → Mark → Type 0
Anything a x = ⊤

-- a rule was read, as far as it goes
unfoldable pub Reads : {A : Type 0} → (k : Kind) → Rule k → (A → Value k) → (old : List Mark) → Result A Stop → (new : List Mark) → Type 0
Reads k r view old (Ok a) new = Says limited k r old (view a) new
Reads k r view old (Err Unfit) new = Stops limited k r old unfit new
Reads k r view old (Err TooDeep) new = Stops limited k r old too_deep new
Reads k r view old (Err NoMemory) new = ⊤

abbrev pub line_of : List Mark → ℕ
line_of [] = 0
line_of (x ∷ xs) = x.line

-- a name was taken, or a format
abbrev pub IsNamed : Ident → Mark → Type 0
IsNamed id x = name_at x ≡ name_of id

abbrev pub IsFormat : Format → Mark → Type 0
IsFormat f x = record { line = x.line; text = text_of x.sign } ≡ formatted_of f

abbrev pub lined : List Mark → Expr → Lined
lined old e = record { line = line_of old; term = term_of e }

abbrev pub seen : List Mark → Operand → Lined
seen old r = lined old r.e

-- an expression of a level was read, as far as it goes, with its height, for which there is room
pub record ReadsLevel (tightness depth groups : ℕ) (tokens : Tokens) (old : ℕ) (result : Result Operand Stop) (new : ℕ) : Type 0 where
  pub reads : Reads a_term (rule (level tightness depth groups)) (seen (left tokens old)) (left tokens old) result (left tokens new)
  pub room : IfOk result (λ r. depth + r.height ≤ 64)
  pub height_is : IfOk result (λ r. r.height ≡ height (term_of r.e))
  pub onward : old ≤ new

-- a sign and its line stand first
abbrev pub IsFirst : (line : ℕ) → Sign → (here next : List Mark) → Type 0
IsFirst line s here next = here ≡ record { line = line; sign = s } ∷ next

abbrev pub terms_in : Vec Expr Global → List Term
terms_in v = map term_of v.items

abbrev pub printed_of : Printing → Printed
printed_of p = record { format = formatted_of p.format; args = map term_of p.args.items }

abbrev pub passes_in : Vec Argument Global → List Passed
passes_in v = map passed_of v.items

-- an assignment of `n op by` to n, where there is memory for it
unfoldable pub Changes : Op → Name → Term → Result Assign Stop → Type 0
Changes op n by (Ok a) = setting_of a ≡ record { to = n; value = two op (var n) by }
Changes op n by (Err stop) = stop ≡ NoMemory

-- a mode was taken, or none stands here
unfoldable pub TakesMode : (old : List Mark) → Result Mode Stop → (new : List Mark) → Type 0
TakesMode old (Ok m) new = (x : Mark) × (old ≡ x ∷ new) × (is_mode x ≡ fit) × (mode_of x.sign ≡ m)
TakesMode old (Err Unfit) new = (next_fit is_mode old ≡ unfit) × (new ≡ old)
TakesMode old (Err _) new = ⊥
