use Rattle.std.proofs.Common.{◌<◌, ◌∙◌, sym, ap, ℕ, List, ◌∷◌, take, drop, arith}
use Rattle.std.specs.List.{prefix_len}
use Rattle.std.proofs.lemmas.List.{take_rest}
use Rattle.gs_lines.specs.Words.{words}
use Rattle.gs_lines.proofs.WordLemmas.{no_blank, words-take, words-none}
use Rattle.gs_lines.proofs.words.split_word.Goals as goal

pub returns-then-end-eq0 : goal.returns-then-end-eq0
returns-then-end-eq0 c = words-none c.args.line.now c.requires (sym
    c.length_of_word-end.ensures.value ∙ c.if-end-eq0.true)

pub returns : goal.returns
returns c =
    let line = c.args.line.now in
    let end = c.length_of_word-end.ensures.value in
    let some : 0 < prefix_len no_blank line = omega (arith, c.if-end-eq0.false, end) in
    words-take line some ∙ ap (λ (n : ℕ). take n line ∷ words (drop n line)) (sym end)
    ∙ ap (λ (rest : List ℕ). take c.length_of_word-end.result line ∷ words rest) (sym (take_rest
    line c.length_of_word-end.result))
