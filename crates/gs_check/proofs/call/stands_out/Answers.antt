use Rattle.std.proofs.Common.{◌≡◌, true, false, map, drop, sym, ap, ◌∙◌, inl, inr, arith}
use Rattle.std.proofs.lemmas.Option.{slice_get_cases}
use Rattle.std.proofs.lemmas.List.{drop_all}
use Rattle.gs_idl.specs.Interface.{params_at, is_out}
use Rattle.gs_tree.specs.View.{term_of, passed_of}
use Rattle.gs_check.specs.Faults.{is_variable_of, stands_out}
use Rattle.gs_check.proofs.Calling.{dir_is, stands_here, stands_later, stands_nowhere, first_false, second_false}
use Rattle.gs_check.proofs.call.stands_out.Goals as goal
use Rattle.gs_check.proofs.call.stands_out.Goals.{else-is_out-via-then-is_out+else-is_variable_of, else-is_out-via-else-is_out}

pub returns-then-is_variable_of : goal.returns-then-is_variable_of
returns-then-is_variable_of c =
    let params = params_at c.args.idl.now.ops c.args.op in
    elim (slice_get_cases params c.loop-k.k).1 [
      | inl x ↦
          let shown = dir_is params c.loop-k.k x.0 c.param-dir.result.0 x.2 c.param-dir.ensures.dir in
          let output : is_out x.0.dir ≡ true = rw (← shown) (sym c.is_out.ensures ∙ c.if-is_out.true) in
          let variable : is_variable_of c.args.name.now (term_of c.index-before-k.result.e) ≡ true = rw c.index-before-k.is (sym c.is_variable_of.ensures ∙ c.if-is_variable_of.true) in
          sym (stands_here params c.args.before.now c.loop-k.k x.0 c.index-before-k.result c.args.name.now x.2 (omega arith) c.index-before-k.is output variable)
          ∙ c.loop-k.invariant
      | inr x ↦ absurd (omega arith)
    ]

pub loop-k-preserved : goal.loop-k-preserved
loop-k-preserved c =
    let params = params_at c.args.idl.now.ops c.args.op in
    let before = c.args.before.now in
    let name = c.args.name.now in
    elim (slice_get_cases params c.loop-k.k).1 [
      | inl x ↦
          let shown = dir_is params c.loop-k.k x.0 c.param-dir.result.0 x.2 c.param-dir.ensures.dir in
          elim c.else-is_out.branch [
            | else-is_out-via-then-is_out+else-is_variable_of w ↦
                let variable : is_variable_of name (term_of w.index-before-k.result.e) ≡ false = rw w.index-before-k.is (sym w.is_variable_of.ensures ∙ w.if-is_variable_of.false) in
                sym (stands_later params before c.loop-k.k x.0 w.index-before-k.result name x.2 (omega arith) w.index-before-k.is (second_false (is_out x.0.dir) _ variable))
                ∙ c.loop-k.invariant
            | else-is_out-via-else-is_out w ↦
                let output : is_out x.0.dir ≡ false = rw (← shown) (sym c.is_out.ensures ∙ w.if-is_out.false) in
                elim (slice_get_cases before c.loop-k.k).1 [
                  | inl y ↦
                      sym (stands_later params before c.loop-k.k x.0 y.0 name x.2 (omega arith) (sym y.3) (first_false _ (is_variable_of name (term_of y.0.e)) output))
                      ∙ c.loop-k.invariant
                  | inr y ↦ absurd (omega arith)
                ]
          ]
      | inr x ↦ absurd (omega arith)
    ]

pub returns : goal.returns
returns c =
    let params = params_at c.args.idl.now.ops c.args.op in
    let rest = drop_all c.loop-k.k c.args.before.now (omega arith) in
    sym (ap (λ r. stands_out (drop c.loop-k.k params) (map passed_of r) c.args.name.now) rest ∙ stands_nowhere (drop c.loop-k.k params) c.args.name.now) ∙ c.loop-k.invariant
