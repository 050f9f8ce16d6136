use Rattle.std.proofs.Common.{◌≡◌, ◌∙◌, ◌-◌, ℕ, suc, true, false, List, [], ◌∷◌, length, get_or, take, sym, refl, arith}
use Rattle.std.specs.Prelude.{◌==◌}
use Rattle.gs_proc.specs.Line.{without_end}
use Rattle.gs_proc.proofs.Lines.{cut, uncut}
use Rattle.gs_proc.proofs.number.without_line_feed.Goals as goal

then_cut : (bytes : List ℕ) → (get_or bytes (length bytes - 1) 0 == 10) ≡ true → take (length bytes - 1) bytes ≡ without_end bytes
then_cut [] feed = absurd (cc)
then_cut (b ∷ bytes) feed = let e : suc (length (b ∷ bytes) - 1) ≡ length (b ∷ bytes) = omega arith in cut (b ∷ bytes) (length (b ∷ bytes) - 1) e feed

else_uncut : (bytes : List ℕ) → (get_or bytes (length bytes - 1) 0 == 10) ≡ false → bytes ≡ without_end bytes
else_uncut [] other = refl
else_uncut (b ∷ bytes) other = let e : suc (length (b ∷ bytes) - 1) ≡ length (b ∷ bytes) = omega arith in uncut (b ∷ bytes) (length (b ∷ bytes) - 1) e other

pub returns-then-ends_in_line_feed : goal.returns-then-ends_in_line_feed
returns-then-ends_in_line_feed c = then_cut c.args.bytes.now (sym c.ends_in_line_feed.ensures ∙ c.if-ends_in_line_feed.true)

pub returns-else-ends_in_line_feed : goal.returns-else-ends_in_line_feed
returns-else-ends_in_line_feed c = else_uncut c.args.bytes.now (sym c.ends_in_line_feed.ensures ∙ c.if-ends_in_line_feed.false)
