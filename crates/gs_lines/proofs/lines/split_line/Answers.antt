use Rattle.std.proofs.Common.{◌≡◌, ◌∙◌, ℕ, ◌+◌, ◌-◌, sym, ap, List, [], ◌∷◌, length, take, drop, arith}
use Rattle.std.proofs.lemmas.List.{take_rest}
use Rattle.gs_lines.specs.Lines.{lines}
use Rattle.gs_lines.proofs.LineLemmas.{lines_at, lines_one}
use Rattle.gs_lines.proofs.lines.split_line.Goals as goal

pub returns-in-Some : goal.returns-in-Some
returns-in-Some c =
    let bytes = c.args.bytes.now in
    let at = c.in-Some.at in
    lines_at bytes at c.in-Some.ensures.0.high c.in-Some.ensures.1 (λ k lt.
    c.in-Some.ensures.0.before k (omega arith) lt)
    ∙ ap (λ (rest : List ℕ). take at bytes ∷ lines rest) (sym (take_rest bytes (at + 1)))

nothing_left : (bytes : List ℕ) (n : ℕ) → lines (take (n - n) (drop n bytes)) ≡ []
nothing_left bytes n = let e : n - n ≡ 0 = omega arith in ap (λ (k : ℕ). lines (take k (drop n
    bytes))) e

pub returns-in-None : goal.returns-in-None
returns-in-None c =
    let bytes = c.args.bytes.now in
    lines_one bytes c.requires (λ k lt. c.in-None.ensures k (omega arith) lt)
    ∙ ap (λ (ls : List (List ℕ)). bytes ∷ ls) (sym (nothing_left bytes (length bytes)))
