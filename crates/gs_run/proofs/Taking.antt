-- Whether some worker of a list takes an operation.
use Rattle.std.proofs.Common.{◌≡◌, ℕ, zero, suc, ◌+◌, ◌<◌, ◌≤◌, Bool, true, false, ◌||◌, List, [], ◌∷◌, length, drop, refl, sym, ◌∙◌, ap, arith}
use Rattle.std.specs.Prelude.{slice_get}
use Rattle.gs_broker.specs.Text.{Entry}
use Rattle.gs_broker.specs.TextLaws.{takes_by}
use Rattle.gs_run.specs.Unserved.{is_taken}

-- from one worker on: this one, or one from the next on
pub taken_next : (ws : List Entry) (op w : ℕ) → w < length ws
    → is_taken (drop w ws) op ≡ (takes_by (slice_get ws w) op || is_taken (drop (suc w) ws) op)
taken_next [] op w lt = absurd (omega (arith, lt))
taken_next (e ∷ ws) op zero lt = refl
taken_next (e ∷ ws) op (suc w) lt = taken_next ws op w (omega (arith, lt))

or_true : (b : Bool) → (true || b) ≡ true
or_true b = refl

or_false : (b : Bool) → (false || b) ≡ b
or_false b = refl

pub taken_here : (ws : List Entry) (op w : ℕ) → w < length ws
    → takes_by (slice_get ws w) op ≡ true → is_taken (drop w ws) op ≡ true
taken_here ws op w lt is = taken_next ws op w lt
    ∙ ap (λ (b : Bool). b || is_taken (drop (suc w) ws) op) is

pub taken_later : (ws : List Entry) (op w : ℕ) → w < length ws
    → takes_by (slice_get ws w) op ≡ false
    → is_taken (drop (w + 1) ws) op ≡ is_taken (drop w ws) op
taken_later ws op w lt is =
    let next : w + 1 ≡ suc w = omega arith in
    ap (λ (n : ℕ). is_taken (drop n ws) op) next ∙ sym (taken_next ws op w lt
    ∙ ap (λ (b : Bool). b || is_taken (drop (suc w) ws) op) is)

pub taken_none : (ws : List Entry) (op w : ℕ) → length ws ≤ w → is_taken (drop w ws) op ≡ false
taken_none [] op zero le = refl
taken_none [] op (suc w) le = refl
taken_none (e ∷ ws) op zero le = absurd (omega (arith, le))
taken_none (e ∷ ws) op (suc w) le = taken_none ws op w (omega (arith, le))
