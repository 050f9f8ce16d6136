use Rattle.std.proofs.Common.{◌≡◌, ℕ, zero, suc, refl, List, [], ◌∷◌, drop, add-one}
use Rattle.gs_site.specs.declared.turn.Turn.{Turn}
use Rattle.gs_site.proofs.turn.place_behind.Goals as goal

drop_next : (i : ℕ) (xs : List Turn) → drop (suc i) xs ≡ drop 1 (drop i xs)
drop_next zero xs = refl
drop_next (suc i) [] = refl
drop_next (suc i) (x ∷ xs) = drop_next i xs

pub returns-then-at-script : goal.returns-then-at-script
returns-then-at-script c = rw add-one (drop_next c.args.at c.args.script.now)
