use Rattle.std.proofs.Common.{◌≡◌, ◌∙◌, sym, refl, ◌+◌, subst, drop, [], List, ℕ}
use lib.Chars.{codes}
use Rattle.gs_idl.specs.Lexicon.{word, symbol}
use Rattle.gs_idl.specs.Machine.{run, start, at_title, at_brace, at_ops}
use Rattle.gs_idl.specs.Reading.{signs}
use Rattle.gs_idl.specs.declared.token.Symbol.TheVariants.{OpenBrace}
use Rattle.gs_idl.proofs.Running.{passes, not_passed_halts, no_word_halts, after_halts}
use Rattle.gs_idl.proofs.Steps.{open_start, open_title, open_brace, start_goes, start_stops, start_rule, title_goes, title_stops, title_rule, brace_goes, brace_stops, brace_rule}
use Rattle.gs_idl.proofs.reader.read_title.Goals as goal

pub returns-in-Err-clause-moves : goal.returns-in-Err-clause-moves
returns-in-Err-clause-moves c = not_passed_halts (signs c.args.tokens.now) c.args.at.now c.pass_word.new.at start _ c.in-Err.stop open_start start_stops c.in-Err.ensures.passed

pub returns-in-Err-word_at-clause-moves : goal.returns-in-Err-word_at-clause-moves
returns-in-Err-word_at-clause-moves c =
    let gs = signs c.args.tokens.now in
    let first = passes gs c.args.at.now c.pass_word.new.at start at_title (word (codes "interface")) open_start c.in_default.ensures.passed.0 start_goes (start_rule _) c.in_default.ensures.passed.1 (λ f. refl) in
    after_halts gs c.args.at.now c.pass_word.new.at c.pass_word.new.at start at_title c.in-Err-word_at.stop first (no_word_halts gs c.pass_word.new.at at_title c.in-Err-word_at.stop open_title title_stops c.in-Err-word_at.ensures.named)

pub returns-in-Err-copied-clause-moves : goal.returns-in-Err-copied-clause-moves
returns-in-Err-copied-clause-moves c = rw c.in-Err-copied.ensures tt

pub returns-in-Err-pass_symbol-clause-moves : goal.returns-in-Err-pass_symbol-clause-moves
returns-in-Err-pass_symbol-clause-moves c =
    let gs = signs c.args.tokens.now in
    let w = c.in-Ok.word.now in
    let first = passes gs c.args.at.now c.pass_word.new.at start at_title (word (codes "interface")) open_start c.in_default.ensures.passed.0 start_goes (start_rule _) c.in_default.ensures.passed.1 (λ f. refl) in
    let second = passes gs c.pass_word.new.at (c.pass_word.new.at + 1) at_title (at_brace w) (word w) open_title c.in-Ok.ensures.named (title_goes w) (title_rule (word w)) refl (λ f. refl) in
    after_halts gs c.args.at.now (c.pass_word.new.at + 1) c.pass_symbol.new.at start (at_brace w) c.in-Err-pass_symbol.stop (first ∙ second)
    (not_passed_halts gs (c.pass_word.new.at + 1) c.pass_symbol.new.at (at_brace w) (symbol OpenBrace) c.in-Err-pass_symbol.stop (open_brace w) (brace_stops w) c.in-Err-pass_symbol.ensures.passed)

pub returns-clause-moves : goal.returns-clause-moves
returns-clause-moves c =
    let gs = signs c.args.tokens.now in
    let w = c.in-Ok.word.now in
    let first = passes gs c.args.at.now c.pass_word.new.at start at_title (word (codes "interface")) open_start c.in_default.ensures.passed.0 start_goes (start_rule _) c.in_default.ensures.passed.1 (λ f. refl) in
    let second = passes gs c.pass_word.new.at (c.pass_word.new.at + 1) at_title (at_brace w) (word w) open_title c.in-Ok.ensures.named (title_goes w) (title_rule (word w)) refl (λ f. refl) in
    let third = passes gs (c.pass_word.new.at + 1) c.pass_symbol.new.at (at_brace w) (at_ops w []) (symbol OpenBrace) (open_brace w) c.in_default-pass_symbol.ensures.passed.0 (brace_goes w) (brace_rule w (symbol OpenBrace)) c.in_default-pass_symbol.ensures.passed.1 (λ f. refl) in
    subst (λ (v : List ℕ). run c.args.at.now start (drop c.args.at.now gs) ≡ run c.pass_symbol.new.at (at_ops v []) (drop c.pass_symbol.new.at gs)) (sym c.in-Ok-copied.ensures) (first ∙ second ∙ third)
