-- The declared variables, and the kinds of expressions.
use Rattle.std.specs.Prelude.{ℕ, Bool, true, false, not, List, [], ◌∷◌, Option, Some, None, if◌then◌else◌}
use Rattle.std.specs.Str.{bytes_eq}
use Rattle.gs_tree.specs.declared.tree.VarKind.{VarKind}
use Rattle.gs_tree.specs.declared.tree.VarKind.TheVariants.{Int, Str, Handle}
use Rattle.gs_tree.specs.Program.{Name, Term, num, lit, var, atoi, strcmp, neg, not_, two}

-- the kind of the variable of a name
abbrev pub declared_kind : List (Name × VarKind) → List ℕ → Option VarKind
declared_kind [] name = None
declared_kind (v ∷ vs) name = if bytes_eq v.0.text name then Some v.1 else declared_kind vs name

abbrev pub same_kind : VarKind → VarKind → Bool
same_kind Int Int = true
same_kind Str Str = true
same_kind Handle Handle = true
same_kind a b = false

-- an expression's kind; None for a variable that isn't declared, which has the kind that is wanted
abbrev pub term_kind : List (Name × VarKind) → Term → Option VarKind
term_kind vars (num line v) = Some Int
term_kind vars (lit line s) = Some Str
term_kind vars (var name) = declared_kind vars name.text
term_kind vars (atoi a) = Some Int
term_kind vars (strcmp a b) = Some Int
term_kind vars (neg a) = Some Int
term_kind vars (not_ a) = Some Int
term_kind vars (two op a b) = Some Int

-- it isn't of the kind that is wanted
abbrev pub is_wrong : (wanted : VarKind) → Option VarKind → Bool
is_wrong wanted None = false
is_wrong wanted (Some kind) = not (same_kind wanted kind)

-- the line of an expression's first leaf
abbrev pub first_line : Term → ℕ
first_line (num line v) = line
first_line (lit line s) = line
first_line (var name) = name.line
first_line (atoi a) = first_line a
first_line (strcmp a b) = first_line a
first_line (neg a) = first_line a
first_line (not_ a) = first_line a
first_line (two op a b) = first_line a

-- an expression whose first sign is its first leaf; grouping is not seen
abbrev pub begins_with_leaf : Term → Bool
begins_with_leaf (num line v) = true
begins_with_leaf (lit line s) = true
begins_with_leaf (var name) = true
begins_with_leaf (atoi a) = false
begins_with_leaf (strcmp a b) = false
begins_with_leaf (neg a) = false
begins_with_leaf (not_ a) = false
begins_with_leaf (two op a b) = begins_with_leaf a
