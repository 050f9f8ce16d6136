-- The productions and the reader's grammar say the same.
use Rattle.std.proofs.Common.{refl}
use Rattle.gs_tree.specs.Signs.{marks_of}
use Rattle.gs_parse.proofs.Faults.{one_meaning}
use Rattle.gs_parse.specs.Reading.{limited, unlimited}
use Rattle.gs_grammar.specs.Laws.{OneProgram, SameLimited, SameTexts, SameUnlimited}
use Rattle.gs_grammar.proofs.ProgramMean.{whole_program}
use Rattle.gs_grammar.proofs.ProgramSaid.{program_said}

pub same_unlimited : SameUnlimited
same_unlimited ts p = (λ h. program_said h (λ q. absurd (cc)), λ h. (whole_program unlimited ts p h).says)

pub same_limited : SameLimited
same_limited ts p = (λ h. program_said h.0 (λ q. h.1), λ h. let w = whole_program limited ts p h in (w.says, w.fits refl))

pub same_texts : SameTexts
same_texts text p = (
  λ h. record { short = h.short; tokens = h.tokens; cut = h.cut; says = program_said h.says (λ q. h.fits) },
  λ h. let w = whole_program limited (marks_of text h.tokens) p h.says in record { short = h.short; tokens = h.tokens; cut = h.cut; says = w.says; fits = w.fits refl },
)

pub one_program : OneProgram
one_program ts p q h g = one_meaning unlimited ts p q (program_said h (λ e. absurd (cc))) (program_said g (λ e. absurd (cc)))
