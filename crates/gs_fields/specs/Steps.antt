-- What one call of a reader did.
use Rattle.std.specs.Prelude.{◌≡◌, ℕ, ◌+◌, true, List, ◌++◌, length, Option, Some, None, Result, Ok, Err, IfOk}
use Rattle.gs_fields.specs.declared.fields.Short.{Short}
use Rattle.gs_fields.specs.Fields.{Reader}
use Rattle.gs_fields.specs.Format.{Format}

-- it moved past the field, or it stayed and says where it stands
abbrev pub Steps : {X Y : Type 0} → (X → Y) → Reader → Reader → Result X Short → Option (Y × List ℕ)
    → Type 0
Steps view was now (Ok x) found = (found ≡ Some (view x, now.rest))
    × (now.at + length now.rest ≡ was.at + length was.rest)
Steps view was now (Err e) found = (found ≡ None) × (now ≡ was) × (e.at ≡ was.at)

-- it gave what is seen as y
abbrev pub Gave : {X Y : Type 0} → (X → Y) → Result X Short → Y → Type 0
Gave view (Ok x) y = view x ≡ y
Gave view (Err e) y = ⊥

-- it read a field of this format: what it read is spelled so, and what is spelled so it reads,
-- whatever follows
pub record ReadsField {X Y : Type 0} (f : Format Y) (view : X → Y) (was now : Reader)
    (result : Result X Short) : Type 0 where
  pub steps : Steps view was now result (f.read was.rest)
  pub found : IfOk result (λ x. (was.rest ≡ f.spell (view x) ++ now.rest)
      × (f.fits (view x) ≡ true))
  pub again : (y : Y) (more : List ℕ) → f.fits y ≡ true → was.rest ≡ f.spell y ++ more
      → Gave view result y × (now.rest ≡ more)
