use Rattle.std.proofs.Common.{nat_eq, ℕ, ◌+◌, sym, subst, ◌∙◌, take}
use Rattle.std.specs.HashMap.{get}
use Rattle.gs_plan.specs.Scan.{AddsReads}
use Rattle.gs_plan.specs.declared.ties.Ties.{Ties}
use Rattle.gs_plan.proofs.Scanning.{reads_step, reads_skip, reads_all}
use Rattle.gs_plan.proofs.scan.read_files.Goals as goal
use Rattle.gs_plan.proofs.scan.read_files.Goals.{in-Some+in_ok-add_pair, in_default}

pub loop-name-preserved : goal.loop-name-preserved
loop-name-preserved c =
    let w = λ (name : ℕ). get nat_eq c.args.writers.now name in
    let i = c.loop-name.name-index in
    elim c.match-writer_of.branch [
      | in-Some+in_ok-add_pair b ↦
          subst (λ (t : Ties). AddsReads w (take (i + 1) c.args.reads.now) c.args.task c.args.ties.now t) (sym b.ties-is)
          (reads_step w c.args.reads.now i c.args.task b.in-Some.writer c.args.ties.now c.loop-name.ties b.add_pair.new.ties c.loop-name-test.true c.loop-name.invariant (sym c.writer_of.ensures ∙ b.in-Some.is) b.in_ok-add_pair.ensures)
      | in_default b ↦
          subst (λ (t : Ties). AddsReads w (take (i + 1) c.args.reads.now) c.args.task c.args.ties.now t) (sym b.ties-is)
          (reads_skip w c.args.reads.now i c.args.task c.args.ties.now c.loop-name.ties c.loop-name-test.true c.loop-name.invariant (sym c.writer_of.ensures ∙ b.in_default.is))
    ]

pub returns : goal.returns
returns c = reads_all (λ name. get nat_eq c.args.writers.now name) c.args.reads.now c.loop-name.name-index c.args.task c.args.ties.now c.loop-name.ties c.loop-name-test.false c.loop-name.invariant
