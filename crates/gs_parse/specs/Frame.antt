-- What the readers of declarations and of the program's frame promise.
use Rattle.std.specs.Prelude.{◌≡◌, Bool, true, false, List, ◌∷◌, Option, Some, None, Result, Ok, Err, map}
use Rattle.std.specs.declared.vec.Vec.{Vec}
use Rattle.std.specs.declared.alloc.Global.{Global}
use Rattle.gs_tree.specs.Program.{Name, Setting, Program}
use Rattle.gs_tree.specs.Sign.{Sign, Mark, main_, return_, semicolon}
use Rattle.gs_tree.specs.View.{name_of, setting_of}
use Rattle.gs_tree.specs.declared.tree.Assign.{Assign}
use Rattle.gs_tree.specs.declared.tree.Var.{Var}
use Rattle.gs_tree.specs.declared.tree.VarKind.{VarKind}
use Rattle.gs_parse.specs.declared.stop.Stop.{Stop}
use Rattle.gs_parse.specs.declared.stop.Stop.TheVariants.{Unfit}
use Rattle.gs_parse.specs.declared.vars.Declarations.{Declarations}
use Rattle.gs_parse.specs.Notation.{Kind, Value, Declared, a_program, unfit, fit, Rule, take, may}
use Rattle.gs_parse.specs.Grammar.{begins_declaration, kind_named, zero_fit, is, is_zero, word, after_main, program_end}
use Rattle.gs_parse.specs.Reading.{next_fit}
use Rattle.gs_parse.specs.Reads.{Reads}

abbrev pub var_of : Var → Name × VarKind
var_of v = (name_of v.name, v.kind)

abbrev pub vars_in : Vec Var Global → List (Name × VarKind)
vars_in v = map var_of v.items

abbrev pub settings_in : Vec Assign Global → List Setting
settings_in v = map setting_of v.items

abbrev pub declared_of : Declarations → Declared
declared_of d = record { vars = map var_of d.vars.items; first = map setting_of d.first.items }

-- what reads the rest of a rule has read the rule
abbrev pub Onward : {A : Type 0} → (k : Kind) → (whole rest : Rule k) → (A → Value k) → (old mid : List Mark) → Type 0
Onward {A} k whole rest view old mid = (result : Result A Stop) (new : List Mark) → Reads k rest view mid result new → Reads k whole view old result new

-- the first part of a rule was read, as far as it goes, and the rest stands next
unfoldable pub Begins : {A B : Type 0} → (k : Kind) → (whole rest : Rule k) → (A → Value k) → (old : List Mark) → Result B Stop → (new : List Mark) → Type 0
Begins k whole rest view old (Ok b) new = Onward k whole rest view old new
Begins k whole rest view old (Err stop) new = Reads k whole view old (Err stop) new

-- a type was taken, or none stands here
unfoldable pub TakesType : (old : List Mark) → Option VarKind → (new : List Mark) → Type 0
TakesType old (Some kind) new = (x : Mark) × (old ≡ x ∷ new) × (begins_declaration x ≡ fit) × (kind_named x.sign ≡ kind)
TakesType old None new = (next_fit begins_declaration old ≡ unfit) × (new ≡ old)

-- a `0` was taken, or none stands here
unfoldable pub TakesZero : {A : Type 0} → (old : List Mark) → Result A Stop → (new : List Mark) → Type 0
TakesZero old (Ok u) new = (x : Mark) × (old ≡ x ∷ new) × (is_zero x ≡ fit)
TakesZero old (Err Unfit) new = (next_fit is_zero old ≡ unfit) × (new ≡ old)
TakesZero old (Err _) new = ⊥

-- whether a sign is `0`
abbrev pub IsZero : (zero : Bool) → Sign → Type 0
IsZero true s = zero_fit s ≡ fit
IsZero false s = zero_fit s ≡ unfit

-- from `main` on
abbrev pub main_rule : Rule a_program
main_rule = word main_ after_main

-- after the call of `GS_Off`
abbrev pub return_rule : Program → Rule a_program
return_rule p = may (is return_) (λ x. take is_zero (λ y. word semicolon (program_end p))) (program_end p)
