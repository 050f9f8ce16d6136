use Rattle.std.proofs.Common.{◌≡◌, ◌<◌, ◌+◌, ◌∷◌, [], ◌++◌, ℕ, List, refl, sym, ap, ◌∙◌, length, map, arith}
use Rattle.std.proofs.lemmas.List.{map-append, length-map}
use Rattle.gs_types.specs.declared.note.Version.TheVariants.{Main}
use Rattle.gs_names.specs.Table.{names_in, writes_in}
use Rattle.gs_names.specs.Writes.{Write}
use Rattle.gs_talk.specs.Actions.{acts}
use Rattle.gs_talk.specs.declared.question.Question.TheVariants as q
use Rattle.gs_history.specs.Setup.{world_at}
use Rattle.gs_tables.specs.Marks.{with_names, AreMade}
use Rattle.gs_tables.specs.Table.{mains_in}
use Rattle.gs_tables.proofs.Keeping.{goes, plain_none, plain_fits}
use Rattle.gs_tables.proofs.tables.Tables.closed.Goals as goal

pub returns-clause-went : goal.returns-clause-went
unfolding mains_in
returns-clause-went c = λ s k h bytes next holds asked len.
    let x = q.CloseFile c.args.name.now bytes in
    let m = c.in_ok-mark_write.ensures in
    let r = c.reserve.ensures in
    let w = c.write.ensures in
    let closed = (world_at s k).closed in
    let count : length c.args.self.now.mains.items ≡ length closed = ap length holds.mains ∙ length-map closed length in
    let number : c.in-Some.k ≡ length closed + 1 = c.in-Some.ensures.number ∙ ap (λ (i : ℕ). i + 1) count in
    let old = names_in c.args.self.now.names in
    goes c.args.self.now _ s k h x asked.0 next _ holds asked.1 (record { may = tt; says = refl }) (plain_fits s k x asked.0 next asked.1 tt) (plain_none s k x tt)
    (record { rows = refl; notes = refl; unfinished_is = refl; window = refl; tasks = m.tasks })
    (record {
      mains = c.in_ok-push.ensures.items ∙ ap (λ (l : List ℕ). l ++ c.args.len ∷ []) holds.mains ∙ ap (λ (i : ℕ). map length closed ++ i ∷ []) len ∙ sym (map-append length closed (bytes ∷ []));
      looks = holds.looks;
      writes = w.writes ∙ ap (λ (l : List Write). (c.args.name.now, Main c.in-Some.k) ∷ l) (m.writes ∙ r.writes) ∙ ap (λ (i : ℕ). (c.args.name.now, Main i) ∷ writes_in c.args.self.now.names) number;
      names = w.names ∙ m.names ∙ ap (λ (l : List (List ℕ)). with_names l (c.args.name.now ∷ [])) r.names;
      made = rw w.names (m.made (acts s.run k) (rw r.names holds.made));
    })
