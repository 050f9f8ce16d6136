use Rattle.std.proofs.Common.{◌≡◌, List, ℕ, Some, ap, sym, ◌∙◌}
use Rattle.gs_talk.specs.declared.question.CallArg.{CallArg}
use Rattle.gs_talk.specs.declared.question.CallArg.TheVariants as arg
use Rattle.gs_talk.specs.Values.{text_of}
use Rattle.gs_talk.specs.Talk.{file_fault, file_at, arg_of}
use Rattle.gs_idl.specs.declared.idl.ParamKind.{ParamKind}
use Rattle.gs_pieces.specs.Places.{arg_in}
use Rattle.gs_main.specs.Seen.{given_of, state_of}
use Rattle.gs_main.proofs.work.Work.call_arg.Goals as goal

pub returns-in-Ok-file_arg : goal.returns-in-Ok-file_arg
returns-in-Ok-file_arg c = λ p dir kind.
    let t = given_of c.args.script.now in
    let s = state_of c.args.self.now in
    let is : arg_in c.args.at.now ≡ arg.File (text_of c.in-Given.v) = ap arg_in c.in-Given.is ∙ ap (λ (k : ParamKind). arg_of k c.in-Given.v) c.in-File-of.is in
    let h = c.in-Ok-file_arg.ensures p dir kind in (
      ap (λ (x : CallArg). file_fault t s p (file_at x)) is ∙ ap (λ (x : List ℕ). file_fault t s p (Some x)) (sym c.text_of.ensures) ∙ h.0,
      h.1 ∙ ap (λ (x : List ℕ). arg.File x) c.text_of.ensures ∙ sym is,
    )

pub returns-in-Err-file_arg : goal.returns-in-Err-file_arg
returns-in-Err-file_arg c = λ p dir kind.
    let t = given_of c.args.script.now in
    let s = state_of c.args.self.now in
    let is : arg_in c.args.at.now ≡ arg.File (text_of c.in-Given.v) = ap arg_in c.in-Given.is ∙ ap (λ (k : ParamKind). arg_of k c.in-Given.v) c.in-File-of.is in
    ap (λ (x : CallArg). file_fault t s p (file_at x)) is ∙ ap (λ (x : List ℕ). file_fault t s p (Some x)) (sym c.text_of.ensures) ∙ c.in-Err-file_arg.ensures p dir kind
