-- The first fault counts.
use Rattle.std.proofs.Common.{◌≡◌, Bool, true, false, ap, Option, Some}
use Rattle.std.specs.Option.{option_or}
use Rattle.gs_types.specs.declared.settings.FaultKind.{FaultKind}
use Rattle.gs_talk.specs.Talk.{fault_if}

pub stands_first : (b : Bool) (kind : FaultKind) (more : Option FaultKind) → b ≡ true → option_or (fault_if b kind) more ≡ Some kind
stands_first b kind more e = ap (λ (x : Bool). option_or (fault_if x kind) more) e

pub stands_not : (b : Bool) (kind : FaultKind) (more : Option FaultKind) → b ≡ false → option_or (fault_if b kind) more ≡ more
stands_not b kind more e = ap (λ (x : Bool). option_or (fault_if x kind) more) e
