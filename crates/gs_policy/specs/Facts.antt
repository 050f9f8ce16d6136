-- What a policy keeps of its closure: `may` says where it may be called, `gives` what it answers.
use Rattle.std.specs.Prelude.{◌≡◌, ℕ}
use Rattle.gs_policy.specs.Cost.{Cost, IsInRange}
use mathlib.Core.HLevel.{Π_prop}
use mathlib.Core.HProp.{IsProp-prop}

-- that the closure may be called has one proof at most, so that a struct may keep it
abbrev pub AreFacts : (ℕ → ℕ → ℕ → Type 0) → Type 0
AreFacts may = (op worker bytes : ℕ) → IsProp (may op worker bytes)

-- in the range the closure may be called
abbrev pub IsCallable : (ℕ → ℕ → ℕ → Type 0) → Type 0
IsCallable may = (op worker bytes : ℕ) → IsInRange op worker bytes → may op worker bytes

-- in the range the closure answers the cost
abbrev pub Answers : (ℕ → ℕ → ℕ → ℕ → Type 0) → Cost → Type 0
Answers gives cost =
    (op worker bytes c : ℕ) →
    IsInRange op worker bytes → gives op worker bytes c → c ≡ cost op worker bytes

pub AreFacts-prop : (may : ℕ → ℕ → ℕ → Type 0) → IsProp (AreFacts may)
AreFacts-prop may = Π_prop (λ op. Π_prop (λ worker. Π_prop (λ bytes. IsProp-prop)))

pub IsCallable-prop : (may : ℕ → ℕ → ℕ → Type 0) → AreFacts may → IsProp (IsCallable may)
IsCallable-prop may are =
    Π_prop (λ op. Π_prop (λ worker. Π_prop (λ bytes. Π_prop (λ _. are op worker bytes))))
