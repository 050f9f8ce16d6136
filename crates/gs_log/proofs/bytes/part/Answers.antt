use Rattle.std.proofs.Common.{ℕ, List, take, drop, length, ◌-◌, take_all, length-drop, sym, subst, arith}
use Rattle.gs_types.specs.Bytes.{IsBytes}
use Rattle.gs_log.proofs.Kept.{part_bytes}
use Rattle.gs_log.proofs.bytes.part.Goals as goal

pub returns-clause-bytes : goal.returns-clause-bytes
returns-clause-bytes c =
    subst (λ (rest : List ℕ). IsBytes (take c.args.len rest)) (sym (take_all (length c.args.piece.now - c.args.start) (drop c.args.start c.args.piece.now) (omega (arith, length-drop c.args.start c.args.piece.now))))
    (part_bytes c.args.len c.args.start c.args.piece.now (λ i. omega (arith, c.type_inv.piece i)))
