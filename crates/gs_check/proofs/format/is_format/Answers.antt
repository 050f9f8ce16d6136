use Rattle.std.proofs.Common.{◌≡◌, ◌+◌, true, false, map, drop, sym, ◌∙◌, ap, length-drop, arith}
use Rattle.std.proofs.lemmas.List.{take_rest, drop-drop, drop_all}
use Rattle.gs_tree.specs.View.{term_of, var_of}
use Rattle.gs_tree.specs.Formats.{format_kinds}
use Rattle.gs_check.specs.Faults.{is_format}
use Rattle.gs_tree.specs.Variables.{is_wrong, term_kind}
use Rattle.gs_check.proofs.Fitting.{step_value, stop_value, stop_short, at_end}
use Rattle.gs_check.proofs.format.is_format.Goals as goal
use Rattle.gs_check.proofs.format.is_format.Goals.{then-used-args-via-then-used-args, then-used-args-via-else-used-args+then-is_wrong}

pub bytes-preserved-in-Plain : goal.bytes-preserved-in-Plain
bytes-preserved-in-Plain c =
    let e = simp (take_rest, drop-drop) at c.in-Plain.ensures in
    record {
      within = omega arith;
      few = c.bytes.invariant.few;
      same = rw (← e) c.bytes.invariant.same;
    }

pub bytes-preserved-in-Percent : goal.bytes-preserved-in-Percent
bytes-preserved-in-Percent c =
    let h = simp (take_rest, drop-drop) at c.in-Percent.ensures in
    let rest_length = length-drop c.bytes.at c.args.format.now in
    record {
      within = omega (arith, h.0);
      few = c.bytes.invariant.few;
      same = rw (← h.1) c.bytes.invariant.same;
    }

pub returns-then-used-args : goal.returns-then-used-args
returns-then-used-args c =
    let h = simp (take_rest, drop-drop) at c.in-Value.ensures in
    let vars = map var_of c.args.vars.now in
    let kinds = format_kinds (drop (c.bytes.at + 2) c.args.format.now) in
    let args = c.args.args.now in
    let before = ap (λ r. is_format vars r (map term_of (drop c.bytes.used args))) (sym h.1) ∙ c.bytes.invariant.same in
    elim c.then-used-args.branch [
      | then-used-args-via-then-used-args w ↦ sym (stop_short vars c.in-Value.kind kinds args c.bytes.used (omega arith)) ∙ before
      | then-used-args-via-else-used-args+then-is_wrong w ↦
          let wrong : is_wrong c.in-Value.kind (term_kind vars (term_of w.index-args-used.result)) ≡ true = rw (← w.expr_kind.ensures) (sym w.is_wrong.ensures ∙ w.if-is_wrong.true) in
          sym (stop_value vars c.in-Value.kind kinds args c.bytes.used w.index-args-used.result (omega arith) w.index-args-used.is wrong) ∙ before
    ]

pub bytes-preserved : goal.bytes-preserved
bytes-preserved c =
    let h = simp (take_rest, drop-drop) at c.in-Value.ensures in
    let rest_length = length-drop c.bytes.at c.args.format.now in
    let vars = map var_of c.args.vars.now in
    let kinds = format_kinds (drop (c.bytes.at + 2) c.args.format.now) in
    let args = c.args.args.now in
    let before = ap (λ r. is_format vars r (map term_of (drop c.bytes.used args))) (sym h.1) ∙ c.bytes.invariant.same in
    let right : is_wrong c.in-Value.kind (term_kind vars (term_of c.index-args-used.result)) ≡ false =
    rw (← c.expr_kind.ensures) (sym c.is_wrong.ensures ∙ c.if-is_wrong.false) in
    record {
      within = omega (arith, h.0);
      few = omega arith;
      same = sym (step_value vars c.in-Value.kind kinds args c.bytes.used c.index-args-used.result (omega arith) c.index-args-used.is right) ∙ before;
    }

pub returns : goal.returns
returns c =
    let vars = map var_of c.args.vars.now in
    let args = c.args.args.now in
    let rest = drop_all c.bytes.at c.args.format.now (omega arith) in
    sym (at_end vars args c.bytes.used c.bytes.invariant.few)
    ∙ ap (λ r. is_format vars (format_kinds r) (map term_of (drop c.bytes.used args))) (sym rest) ∙ c.bytes.invariant.same
