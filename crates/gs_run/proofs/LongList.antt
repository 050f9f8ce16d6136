-- A worker list that is too long.
use Rattle.std.proofs.Common.{◌≡◌, ℕ, ◌<◌, List, length, Option, Err, refl, sym, subst, arith}
use Rattle.gs_idl.specs.Interface.{Signature}
use Rattle.gs_broker.specs.Text.{Entry, Says, too_long}
use Rattle.gs_broker.specs.declared.kind.WorkersKind.TheVariants.{TooLong}
use Rattle.gs_run.specs.Judging.{IsTextOf, ListOf}
use Rattle.gs_run.specs.Texts.{IsBeyond}
use Rattle.gs_run.specs.declared.kinds.TextKind.TheVariants as kind
use Rattle.gs_run.specs.declared.refusal.Refusal.{Refusal}
use Rattle.gs_run.specs.declared.refusal.Refusal.TheVariants.{BadText}
use Rattle.gs_run.specs.declared.texts.Text.{Text}
use Rattle.gs_run.specs.declared.texts.Text.TheVariants.{Long}

says_none : (ops : List Signature) (text : List ℕ) → 65536 < length text → (ws : List Entry)
    → Says ops text ws → ⊥
says_none ops text long ws says = let short = says.short in absurd (omega (arith, long, short))

pub long_list : (ops : List Signature) (file : Option (List ℕ)) (name : List ℕ) (t : Text)
    (r : Refusal) → t ≡ Long → r ≡ BadText name 0 (kind.Workers TooLong) → IsTextOf file t
    → ListOf ops file name (Err r)
long_list ops file name t r at is of =
    let beyond : IsBeyond file = subst (IsTextOf file) at of in
    subst (λ (x : Refusal). ListOf ops file name (Err x)) (sym is) (
      refl,
      (
        beyond.0,
        beyond.1,
        record {
          fault = too_long beyond.2;
          nothing = says_none ops beyond.0 beyond.2;
        },
      ),
    )
