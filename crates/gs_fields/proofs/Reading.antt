-- What a call read is what was written, and what was written is read.
use Rattle.std.proofs.Common.{◌≡◌, ℕ, true, List, ◌++◌, Option, Some, None, Result, Ok, Err, sym, ap, ◌∙◌}
use Rattle.std.specs.Prelude.{IfOk}
use Rattle.gs_types.specs.Bytes.{IsBytes}
use Rattle.gs_fields.specs.declared.fields.Short.{Short}
use Rattle.gs_fields.specs.Fields.{Reader}
use Rattle.gs_fields.specs.Format.{Format}
use Rattle.gs_fields.specs.Steps.{Steps, Gave, ReadsField}
use Rattle.gs_fields.proofs.Laws.{Law}

abbrev pair_of : {Y : Type 0} → Y → List ℕ → Option (Y × List ℕ)
pair_of y r = Some (y, r)

abbrev tuple_of : {Y : Type 0} → Y → List ℕ → Y × List ℕ
tuple_of y r = (y, r)

some_is : {A : Type 0} (x y : A) → Some x ≡ Some y → x ≡ y
some_is x y e = cc

parts_are : {Y : Type 0} (a b : Y) (r t : List ℕ) → pair_of a r ≡ pair_of b t → (b ≡ a) × (t ≡ r)
parts_are {Y = Y} a b r t e =
    let p : tuple_of b t ≡ tuple_of a r = some_is _ _ (sym e) in
    (ap (λ (x : Y × List ℕ). x.0) p, ap (λ (x : Y × List ℕ). x.1) p)

found_so : {X Y : Type 0} (f : Format Y) (law : Law f) (view : X → Y) (was now : Reader) (r : Result X Short) → IsBytes was.rest → Steps view was now r (f.read was.rest) → IfOk r (λ x. (was.rest ≡ f.spell (view x) ++ now.rest) × (f.fits (view x) ≡ true))
found_so f law view was now (Ok x) h s = let t = law.takes was.rest (view x, now.rest) h s.0 in (t.parts, t.fits)
found_so f law view was now (Err e) h s = tt

again_so : {X Y : Type 0} (f : Format Y) (law : Law f) (view : X → Y) (was now : Reader) (r : Result X Short) (y : Y) (more : List ℕ) → Steps view was now r (f.read was.rest) → f.fits y ≡ true → was.rest ≡ f.spell y ++ more → Gave view r y × (now.rest ≡ more)
again_so f law view was now (Ok x) y more s fits is =
    let e : f.read was.rest ≡ pair_of y more = ap f.read is ∙ law.again y more fits in
    parts_are y (view x) more now.rest (sym e ∙ s.0)
again_so f law view was now (Err d) y more s fits is =
    let e : f.read was.rest ≡ pair_of y more = ap f.read is ∙ law.again y more fits in
    let n : pair_of y more ≡ None = sym e ∙ s.0 in absurd cc

pub reads_field : {X Y : Type 0} (f : Format Y) (law : Law f) (view : X → Y) (was now : Reader) (r : Result X Short) → IsBytes was.rest → Steps view was now r (f.read was.rest) → ReadsField f view was now r
reads_field f law view was now r h s = record {
  steps = s;
  found = found_so f law view was now r h s;
  again = λ y more fits is. again_so f law view was now r y more s fits is;
}
