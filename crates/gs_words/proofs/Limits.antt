-- The numbers that a reading gives are within their limits.
use Rattle.std.proofs.Common.{◌≡◌, refl, sym, subst, ℕ, ◌≤◌, List, [], ◌∷◌, Option, Some, None, arith}
use Rattle.std.specs.Option.{unwrap_or}
use Rattle.gs_types.specs.declared.limits.TheConstants.{TRIES_LIMIT, TRIES_DEFAULT}
use Rattle.gs_types.specs.declared.settings.Settings.{Settings}
use Rattle.gs_words.specs.declared.given.Flag.TheVariants.{Fuel, Window, Tries}
use Rattle.gs_words.specs.Words.{Choice, AreOptions, number_of, IsRun}

tries_given : (ws : List (List ℕ)) (os : List Choice) (n : ℕ) → AreOptions ws os
    → number_of Tries os ≡ Some n → (1 ≤ n) × (n ≤ TRIES_LIMIT)
tries_given ws [] n are is = absurd cc
tries_given [] (o ∷ os) n are is = absurd are
tries_given (w ∷ []) (o ∷ os) n are is = absurd are
tries_given (w ∷ v ∷ ws) ((Fuel, m) ∷ os) n are is = tries_given ws os n are.2 is
tries_given (w ∷ v ∷ ws) ((Window, m) ∷ os) n are is = tries_given ws os n are.2 is
tries_given (w ∷ v ∷ ws) ((Tries, m) ∷ os) n are is =
    let same : m ≡ n = cc in
    (subst (λ (x : ℕ). 1 ≤ x) same are.1.some, subst (λ (x : ℕ). x ≤ TRIES_LIMIT) same are.1.within)

tries_else : (o : Option ℕ) → ((n : ℕ) → o ≡ Some n → (1 ≤ n) × (n ≤ TRIES_LIMIT))
    → (1 ≤ unwrap_or o TRIES_DEFAULT) × (unwrap_or o TRIES_DEFAULT ≤ TRIES_LIMIT)
tries_else (Some n) within = within n refl
tries_else None within = (omega arith, omega arith)

pub tries_within : (ws : List (List ℕ)) (idl program workers : List ℕ) (settings : Settings)
    → IsRun ws idl program workers settings
    → (1 ≤ settings.tries) × (settings.tries ≤ TRIES_LIMIT)
tries_within ws idl program workers settings run =
    subst (λ (x : Settings). (1 ≤ x.tries) × (x.tries ≤ TRIES_LIMIT)) (sym run.settings_are)
    (tries_else (number_of Tries run.choices) (λ n is. tries_given run.more run.choices n run.options is))
