use Rattle.std.proofs.lemmas.Fmt.{IsAscii-from_digits}
use Rattle.std.proofs.lemmas.Str.{IsUtf8-from_ascii}
use Rattle.gs_plan.proofs.line.duration_in.Goals as goal

pub returns-in_default : goal.returns-in_default
returns-in_default c = λ d is.
    absurd (c.in_default.ensures.cases.0 (IsUtf8-from_ascii c.args.word.now (IsAscii-from_digits c.args.word.now is.digits.1)))
