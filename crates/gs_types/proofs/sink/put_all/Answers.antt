use Rattle.std.proofs.Common.{◌≡◌, ◌++◌, ◌+◌, ◌-◌, length, take, drop, ◌∙◌, sym, ap, append_assoc, arith, List, ℕ}
use Rattle.std.proofs.Math.Seq.{take-add}
use Rattle.std.proofs.lemmas.List.{take_all, length-drop}
use Rattle.gs_types.proofs.sink.put_all.Goals as goal

grown : (old mid new bytes : List ℕ) (done n : ℕ) → mid ≡ old ++ take done bytes → new ≡ mid ++ take n (take (length bytes - done) (drop done bytes)) → new ≡ old ++ take (done + n) bytes
grown old mid new bytes done n was is =
    let whole : take (length bytes - done) (drop done bytes) ≡ drop done bytes = take_all (length bytes - done) (drop done bytes) (omega (arith, length-drop done bytes)) in
    is ∙ ap (λ (l : List ℕ). mid ++ take n l) whole ∙ ap (λ (l : List ℕ). l ++ take n (drop done bytes)) was ∙ append_assoc old (take done bytes) (take n (drop done bytes)) ∙ ap (λ (l : List ℕ). old ++ l) (sym (take-add done n bytes))

pub loop-done-preserved : goal.loop-done-preserved
loop-done-preserved g c = record {
  within = let part = c.in_ok-done.ensures.part.0 in omega (arith, length-drop c.loop-done.done c.args.bytes.now, take_all (length c.args.bytes.now - c.loop-done.done) (drop c.loop-done.done c.args.bytes.now) (omega (arith, length-drop c.loop-done.done c.args.bytes.now)));
  rise = omega (arith, c.loop-done.invariant.rise, c.write.ensures.cause.rise);
  written = λ told. grown _ _ _ c.args.bytes.now c.loop-done.done c.in_ok-done.field-0 (c.loop-done.invariant.written told) (c.in_ok-done.ensures.written told);
}
