use Rattle.std.proofs.Common.{◌∙◌, ap, ℕ, drop}
use Rattle.std.specs.List.{prefix_len}
use Rattle.std.proofs.lemmas.List.{take_rest}
use Rattle.gs_lines.specs.Words.{is_blank, words}
use Rattle.gs_lines.proofs.WordLemmas.{words-drop, prefix_len-drop}
use Rattle.gs_lines.proofs.words.behind_blanks.Goals as goal

pub returns-clause-words : goal.returns-clause-words
returns-clause-words c =
    let line = c.args.line.now in
    ap words (take_rest line c.blanks.result) ∙ ap (λ (n : ℕ). words (drop n line))
    c.blanks.ensures.value ∙ words-drop line

pub returns-clause-start : goal.returns-clause-start
returns-clause-start c =
    let line = c.args.line.now in
    ap (prefix_len is_blank) (take_rest line c.blanks.result) ∙ ap (λ (n : ℕ). prefix_len is_blank
    (drop n line)) c.blanks.ensures.value ∙ prefix_len-drop line
