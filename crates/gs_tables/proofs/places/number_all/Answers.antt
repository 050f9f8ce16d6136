use Rattle.std.proofs.Common.{◌≡◌, ◌∙◌, sym, ap, subst, ◌<◌, ◌≤◌, ◌+◌, ◌++◌, ℕ, List, suc, length, take, arith}
use Rattle.std.specs.Prelude.{min}
use Rattle.gs_idl.specs.Interface.{params_at}
use Rattle.gs_names.specs.Table.{names_in}
use Rattle.gs_talk.specs.Actions.{names_where}
use Rattle.gs_looks.proofs.Placing.{item_there}
use Rattle.gs_tables.specs.Marks.{with_names, file_test, takes, names_one, AreNumbers}
use Rattle.gs_tables.proofs.Calls.{names_next, names_all}
use Rattle.gs_tables.proofs.Numbering.{with_both}
use Rattle.gs_tables.proofs.places.number_all.Goals as goal

pub loop-i-preserved : goal.loop-i-preserved
loop-i-preserved c =
    let test = file_test c.args.reads in
    let ps = params_at c.args.idl.now.ops c.args.op in
    let args = c.args.args.now in
    let i = c.loop-i.i in
    let count = c.place_count-i-end.ensures.count in
    let below = c.loop-i-test.true in
    let there = item_there args i c.index-args-i.result (omega arith) c.index-args-i.is in
    let done = names_where test (take i ps) (take i args) in
    let one = names_one (takes c.args.reads ps i) c.index-args-i.result in
    let at : suc i ≡ i + 1 = omega arith in
    let next : done ++ one ≡ names_where test (take (i + 1) ps) (take (i + 1) args) = sym (names_next c.args.reads i ps args c.index-args-i.result (omega arith) there) ∙ ap (λ (k : ℕ). names_where test (take k ps) (take k args)) at in
    let e = c.in_ok-number_one.ensures in
    let taken = c.takes_at.ensures in
    let old = names_in c.args.table.now in
    record {
      names = e.names ∙ ap (λ b. with_names (names_in c.loop-i.table) (names_one b c.index-args-i.result)) taken ∙ ap (λ (l : List (List ℕ)). with_names l one) c.loop-i.invariant.names ∙ with_both done old one ∙ ap (with_names old) next;
      numbers = subst (λ (l : List (List ℕ)). AreNumbers (names_in c.number_one.new.table) c.number_one.new.numbers l) next (subst (λ b. AreNumbers (names_in c.number_one.new.table) c.number_one.new.numbers (done ++ names_one b c.index-args-i.result)) taken (e.numbers done c.loop-i.invariant.numbers));
      writes = e.writes ∙ c.loop-i.invariant.writes;
      spare = e.spare ∙ c.loop-i.invariant.spare;
    }

pub returns-clause-names : goal.returns-clause-names
returns-clause-names c =
    let count = c.place_count-i-end.ensures.count in
    c.loop-i.invariant.names ∙ ap (with_names (names_in c.args.table.now)) (names_all (file_test c.args.reads) c.loop-i.i (params_at c.args.idl.now.ops c.args.op) c.args.args.now (omega (arith, c.loop-i-test.false)))

pub returns-clause-numbers : goal.returns-clause-numbers
returns-clause-numbers c =
    let count = c.place_count-i-end.ensures.count in
    subst (λ (l : List (List ℕ)). AreNumbers (names_in c.loop-i.table) c.loop-i.numbers l) (names_all (file_test c.args.reads) c.loop-i.i (params_at c.args.idl.now.ops c.args.op) c.args.args.now (omega (arith, c.loop-i-test.false))) c.loop-i.invariant.numbers
