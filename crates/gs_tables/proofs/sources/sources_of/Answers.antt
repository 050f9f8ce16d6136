use Rattle.std.proofs.Common.{◌≡◌, ◌∙◌, refl, sym, ap, ◌<◌, ◌+◌, ◌++◌, ℕ, List, suc, length, take, arith}
use Rattle.std.proofs.lemmas.Option.{slice_get_read}
use Rattle.gs_tables.specs.Sources.{source_of, sources}
use Rattle.gs_tables.proofs.Amounts.{sources_next}
use Rattle.gs_tables.proofs.sources.sources_of.Goals as goal

pub loop-v-preserved : goal.loop-v-preserved
loop-v-preserved c =
    let i = c.loop-v.v-index in
    let there = slice_get_read c.args.reads.now (length c.args.reads.now) i c.v-item.result refl c.loop-v-test.true c.v-item.is in
    let next = sources_next c.args.n i c.args.reads.now c.v-item.result there in
    let at : suc i ≡ i + 1 = omega arith in
    let e = c.in_ok-add_source.ensures in
    (e.items ∙ ap (λ (l : List ℕ). l ++ source_of c.args.n c.v-item.result) c.loop-v.invariant.0 ∙ sym next ∙ ap (λ (k : ℕ). sources c.args.n (take k c.args.reads.now)) at, e.earlier)
