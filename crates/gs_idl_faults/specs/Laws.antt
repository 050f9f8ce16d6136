-- The law of an interface text's fault.
use Rattle.std.specs.Prelude.{◌≡◌, ℕ, List}
use Rattle.gs_idl.specs.Grammar.{IsFault}
use Rattle.gs_idl.specs.declared.token.IdlKind.{IdlKind}

-- a text's fault has one line and one kind
abbrev pub OneFault : Type 0
OneFault =
    (text : List ℕ) (line other : ℕ) (kind others : IdlKind) → IsFault text line kind
    → IsFault text other others → (line ≡ other) × (kind ≡ others)
