use Rattle.std.proofs.Common.{◌≡◌, ◌∙◌, sym, ap, ◌<◌, ◌≤◌, ◌+◌, ℕ, List, suc, length, take, arith}
use Rattle.std.specs.Prelude.{min}
use Rattle.gs_idl.specs.Interface.{params_at}
use Rattle.gs_names.specs.Table.{writes_in}
use Rattle.gs_names.specs.Writes.{Write}
use Rattle.gs_talk_laws.specs.Versions.{Written, written_by}
use Rattle.gs_looks.proofs.Placing.{item_there}
use Rattle.gs_tables.specs.Marks.{writes_at}
use Rattle.gs_tables.specs.Written.{written_back, written_one}
use Rattle.gs_tables.proofs.Calls.{written_next, written_all}
use Rattle.gs_tables.proofs.places.write_all.Goals as goal

pub loop-i-preserved : goal.loop-i-preserved
loop-i-preserved c =
    let ps = params_at c.args.idl.now.ops c.args.op in
    let args = c.args.args.now in
    let i = c.loop-i.i in
    let count = c.place_count-count.ensures.count in
    let below = c.loop-i-test.true in
    let there = item_there args i c.index-args-i.result (omega arith) c.index-args-i.is in
    let old = writes_in c.reserve.new.self in
    let at : suc i ≡ i + 1 = omega arith in
    let place : i + 1 ≡ 1 + i = omega arith in
    let next = written_next c.args.n i 1 ps args c.index-args-i.result old (omega arith) there in
    let e = c.write_one.ensures in
    let spare = c.loop-i.invariant.spare in
    let less = e.spare in
    record {
      names = e.names ∙ c.loop-i.invariant.names;
      writes = e.writes ∙ ap (λ b. written_one c.args.n (i + 1) b c.index-args-i.result (writes_in c.loop-i.table)) c.writes_at.ensures
          ∙ ap (λ (l : List Write). written_one c.args.n (i + 1) (writes_at ps i) c.index-args-i.result l) c.loop-i.invariant.writes
          ∙ ap (λ (k : ℕ). written_one c.args.n k (writes_at ps i) c.index-args-i.result (written_back (written_by c.args.n 1 (take i ps) (take i args)) old)) place
          ∙ sym next ∙ ap (λ (k : ℕ). written_back (written_by c.args.n 1 (take k ps) (take k args)) old) at;
      spare = omega arith;
    }

pub returns-clause-writes : goal.returns-clause-writes
returns-clause-writes c =
    let count = c.place_count-count.ensures.count in
    c.loop-i.invariant.writes ∙ ap (λ (l : List Written). written_back l (writes_in c.reserve.new.self)) (written_all c.args.n c.loop-i.i 1 (params_at c.args.idl.now.ops c.args.op) c.args.args.now (omega (arith, c.loop-i-test.false))) ∙ ap (written_back (written_by c.args.n 1 (params_at c.args.idl.now.ops c.args.op) c.args.args.now)) c.reserve.ensures.writes
