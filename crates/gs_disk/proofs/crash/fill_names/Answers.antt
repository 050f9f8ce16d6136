use Rattle.std.proofs.Common.{⊎_elim, ◌∙◌}
use Rattle.gs_disk.specs.Mem.{names_of}
use Rattle.std.proofs.Common.{[], ◌∷◌}
use Rattle.gs_disk.proofs.Images.{is_among_or}
use Rattle.gs_disk.proofs.Filling.{outside_more, outside_joined}
use Rattle.gs_disk.proofs.crash.fill_names.Goals as goal

pub loop-touch-preserved : goal.loop-touch-preserved
loop-touch-preserved c = record {
  named = λ x past. ⊎_elim
      (λ out. c.in_ok-fill_name.ensures.others x out ∙ c.loop-touch.invariant.named x (λ first. past (outside_joined c.args.touched.now c.loop-touch.touch-index c.touch-item.result x c.loop-touch-test.true c.touch-item.is first out)))
      (λ within. c.in_ok-fill_name.ensures.named x within)
      (is_among_or (names_of (c.touch-item.result ∷ [])) x);
  others = λ x out.
      let both = outside_more c.args.touched.now c.loop-touch.touch-index c.touch-item.result x c.loop-touch-test.true c.touch-item.is out in
      c.in_ok-fill_name.ensures.others x both.1 ∙ c.loop-touch.invariant.others x both.0;
}
