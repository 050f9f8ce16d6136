-- The printed form of what a text says is a text that says the same but for the lines, and nothing else.
use Rattle.std.proofs.Common.{ap, ◌∙◌}
use Rattle.gs_tree.specs.Printed.{printed}
use Rattle.gs_tree.specs.Signs.{marks_of}
use Rattle.gs_tree.specs.Unlined.{unlined}
use Rattle.gs_spelling.specs.Spelled.{ProgramSpelled}
use Rattle.gs_spelling.proofs.Programs.{prints_its_signs}
use Rattle.gs_spelling.proofs.Spelling.{texts_are_spelled}
use Rattle.gs_parse.proofs.Texts.{one_program}
use Rattle.gs_parse.specs.Fits.{ProgramFits}
use Rattle.gs_reprint.specs.Laws.{ReadsBack, PrintsOnce}
use Rattle.gs_reprint.proofs.AgainProgram.{says_again}
use Rattle.gs_reprint.proofs.WithinProgram.{reads_within}

-- the printed form of what a text says, where it isn't too long, says the same but for the lines
pub reads_back : ReadsBack
reads_back text p t short =
    let good : ProgramSpelled p × ProgramFits p = reads_within (marks_of text t.tokens) p (texts_are_spelled text t.tokens t.cut) t.says in
    let cut = prints_its_signs p good.0 in
    let again = says_again p (marks_of (printed p) cut.0) good.1 cut.2 in
    (again.0, record { short = short; tokens = cut.0; cut = cut.1; says = again.1 }, again.2)

-- whatever the printed form says, where it isn't too long, is what the text says but for the lines
pub prints_once : PrintsOnce
prints_once text p q t short u =
    let back = reads_back text p t short in
    ap unlined (one_program (printed p) q back.0 u back.1) ∙ back.2
