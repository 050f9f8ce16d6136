use Rattle.std.proofs.Common.{◌≡◌, ◌++◌, ℕ, ◌*◌, ◌+◌, List, replicate, ap, ◌∙◌, append_assoc, arith}
use Rattle.std.proofs.lemmas.List.{replicate-append-replicate}
use Rattle.gs_tree.specs.Printed.{indent_text}
use Rattle.gs_tree.proofs.put.put_indent.Goals as goal

-- one level more
indent_text-more : (n : ℕ) → indent_text n ++ replicate 4 32 ≡ indent_text (n + 1)
indent_text-more n =
    let e : 4 * n + 4 ≡ 4 * (n + 1) = omega arith in
    replicate-append-replicate (4 * n) 4 32 ∙ ap (λ k. replicate k 32) e

more : (new old start : List ℕ) (n : ℕ) → new ≡ old ++ replicate 4 32 → old ≡ start ++ indent_text n → new ≡ start ++ indent_text (n + 1)
more new old start n e f = e ∙ ap (λ r. r ++ replicate 4 32) f ∙ append_assoc start (indent_text n) (replicate 4 32) ∙ ap (λ r. start ++ r) (indent_text-more n)

pub loop-preserved : goal.loop-preserved
loop-preserved c = more c.put.new.out.items c.loop.out.items c.args.out.now.items c.loop.counter c.in_ok-put.ensures c.loop.invariant
