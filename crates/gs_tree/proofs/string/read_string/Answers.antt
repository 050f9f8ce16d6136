use Rattle.std.proofs.Common.{◌≡◌, ◌+◌, ◌-◌, ◌∷◌, [], ◌++◌, ℕ, drop, vec_len, arith, length-drop, subst}
use Rattle.std.proofs.lemmas.List.{take_rest}
use Rattle.gs_tree.specs.Quoted.{Quotes, breaks, broken}
use Rattle.gs_tree.proofs.Strings.{reads_more, reads_end}
use Rattle.gs_tree.proofs.string.read_string.Goals as goal

pub pieces-preserved : goal.pieces-preserved
pieces-preserved c =
    let p = simp take_rest at c.in-Byte.ensures in
    let rest_length = length-drop c.pieces.at c.args.rest.now in
    let items : c.push.new.self.items ≡ c.pieces.value.items ++ c.in-Byte.b ∷ [] = c.in_ok-push-in-Byte.ensures.items in
    let len : vec_len c.push.new.self ≡ vec_len c.pieces.value + 1 = c.in_ok-push-in-Byte.ensures.len in
    let room : 1024 - vec_len c.push.new.self ≡ (1024 - c.len.result) - 1 = omega arith in
    record {
      within = omega (arith, p.3);
      short = omega (arith, p.0);
      reads = λ q h.
          let h' = subst (λ (r : ℕ). Quotes r (drop (c.pieces.at + c.in-Byte.count) c.args.rest.now) q) room h in
          rw items (reads_more c.args.rest.now c.pieces.value.items 1024 (1024 - c.len.result) c.pieces.at c.in-Byte.b c.in-Byte.count p.0 p.1 (rw c.len.ensures c.pieces.invariant.reads) q h');
    }

pub returns-in-End-clause-reads : goal.returns-in-End-clause-reads
returns-in-End-clause-reads c =
    reads_end c.args.rest.now c.pieces.value.items 1024 (1024 - vec_len c.pieces.value) c.pieces.at c.pieces.invariant.reads (simp take_rest at c.in-End.ensures)

pub returns-in-Fault-clause-reads : goal.returns-in-Fault-clause-reads
returns-in-Fault-clause-reads c = c.pieces.invariant.reads (broken c.in-Fault.kind) (breaks _ _ c.in-Fault.kind (rw (← c.len.ensures) (simp take_rest at c.in-Fault.ensures)))
