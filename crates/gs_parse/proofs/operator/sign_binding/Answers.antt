use Rattle.std.proofs.Common.{ap, ◌∙◌, sym}
use Rattle.gs_parse.specs.Symbols.{binding}
use Rattle.gs_tree.specs.Shown.{sign_shown}
use Rattle.gs_parse.proofs.Levels.{no_binding_keyword}
use Rattle.gs_parse.proofs.operator.sign_binding.Goals as goal

pub returns-in-Keyword : goal.returns-in-Keyword
returns-in-Keyword c = no_binding_keyword c.in-Keyword.field-0 ∙ sym (ap (λ z. binding (sign_shown z)) c.in-Keyword.is)
