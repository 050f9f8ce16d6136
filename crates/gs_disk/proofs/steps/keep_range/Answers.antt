use Rattle.std.proofs.Common.{[], ◌∷◌, ◌++◌, length, sym, ◌∙◌, ap}
use Rattle.gs_disk.specs.declared.now.Touch.TheVariants.{Written}
use Rattle.gs_disk.proofs.steps.keep_range.Goals as goal

pub returns-clause-kept : goal.returns-clause-kept
returns-clause-kept c = record {
  file = c.in-Some.file.now;
  stood = sym c.in-Some.ensures;
  before = c.in_ok-before.before;
  part = c.in_ok-before.ensures;
  touched = c.in_ok-push.ensures.items ∙ ap (λ n. c.args.now.now.touched.items ++ Written n c.args.at c.args.len c.in_ok-before.before (length c.in-Some.file.now) ∷ []) c.copy.ensures;
}
