use Rattle.std.proofs.Common.{ap, ◌∙◌}
use Rattle.std.specs.Prelude.{◌==◌}
use Rattle.gs_parse.specs.Symbols.{place}
use Rattle.gs_tree.specs.Shown.{sign_shown}
use Rattle.gs_parse.proofs.Looks.{no_text_keyword, no_text_symbol}
use Rattle.gs_parse.proofs.name.text_in.Goals as goal

pub returns-in-Keyword : goal.returns-in-Keyword
returns-in-Keyword c = ap (λ z. place (sign_shown z) == 27) c.in-Keyword.is ∙ no_text_keyword c.in-Keyword.field-0

pub returns-in-Symbol : goal.returns-in-Symbol
returns-in-Symbol c = ap (λ z. place (sign_shown z) == 27) c.in-Symbol.is ∙ no_text_symbol c.in-Symbol.field-0
