use Rattle.std.proofs.Common.{ap, ℕ, Bor, List, [], Option, Some, None}
use Rattle.std.specs.Prelude.{unwrap_or}
use Rattle.std.proofs.lemmas.Iterator.Consumers.{nth_from_yields_List, YieldsList-from_first}
use Rattle.gs_lines.specs.Words.{words}
use Rattle.gs_lines.proofs.words.word_at.Goals as goal

pub returns-in-Some : goal.returns-in-Some
returns-in-Some c =
    let line = c.args.line.now in
    let gives = nth_from_yields_List (Some c.in-Some.word) c.nth.new.self c.args.place
    c.in-Some.ensures.ran (YieldsList-from_first (λ (w : Bor (List ℕ)). w.now) (λ (ws : List
    (List ℕ)). ws) (words line) c.of.ensures) in
    ap (λ (o : Option (List ℕ)). unwrap_or o []) gives

pub returns-in-None : goal.returns-in-None
returns-in-None c =
    let line = c.args.line.now in
    let gives = nth_from_yields_List None c.nth.new.self c.args.place c.in-None.ensures.ran
    (YieldsList-from_first (λ (w : Bor (List ℕ)). w.now) (λ (ws : List (List ℕ)). ws) (words
    line) c.of.ensures) in
    ap (λ (o : Option (List ℕ)). unwrap_or o []) gives
