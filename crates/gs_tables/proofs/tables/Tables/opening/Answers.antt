use Rattle.std.proofs.Common.{◌≡◌, refl, sym, ap, ◌∙◌, subst, length, ℕ, List, Option, Some, None}
use Rattle.gs_types.specs.declared.note.Note.{Note}
use Rattle.gs_types.specs.declared.note.Version.{Version}
use Rattle.gs_types.specs.declared.note.Version.TheVariants.{Original, Out, Main}
use Rattle.gs_talk_laws.specs.Versions.{closed_as}
use Rattle.gs_history.specs.Frontier.{IsThere}
use Rattle.gs_history.specs.Setup.{world_at}
use Rattle.gs_tables.specs.Outs.{noted_in, noted_length}
use Rattle.gs_tables.specs.Rows.{row_at, row_outs}
use Rattle.gs_tables.specs.Lengths.{main_length}
use Rattle.gs_tables.specs.declared.row.Row.{Row}
use Rattle.gs_tables.proofs.Reading.{latest_is, opens, main_stored, main_there, out_there, out_waits}
use Rattle.gs_tables.proofs.tables.Tables.opening.Goals as goal

pub returns-in-Original : goal.returns-in-Original
returns-in-Original c = λ s k h mode line next holds asked.
    let e = sym c.in-Original.is ∙ c.current.ensures ∙ latest_is c.args.self.now s k h holds c.args.name.now in
    (subst (IsThere h) e tt, e, (c.in-Original.name, refl))

pub returns-in-Main : goal.returns-in-Main
returns-in-Main c = λ s k h mode line next holds asked.
    let table = sym c.current.ensures ∙ c.in-Main.is in
    let e = sym c.in-Main.is ∙ c.current.ensures ∙ latest_is c.args.self.now s k h holds c.args.name.now in
    let stored = main_stored s k c.in-Main.k c.args.name.now (opens c.args.self.now s k h c.args.name.now (Main c.in-Main.k) holds table) in
    let length_is = c.main_length-len.ensures ∙ ap (λ (l : List ℕ). main_length l c.in-Main.k) c.deref.ensures.value ∙ main_there c.args.self.now s k h c.in-Main.k stored.0 holds stored.1 in
    (subst (IsThere h) e tt, e, (stored.0, ap closed_as stored.1, length_is))

pub returns-in-Some : goal.returns-in-Some
returns-in-Some c = λ s k h mode line next holds asked.
    let table = sym c.current.ensures ∙ c.in-Out.is in
    let e = sym c.in-Out.is ∙ c.current.ensures ∙ latest_is c.args.self.now s k h holds c.args.name.now in
    let is = opens c.args.self.now s k h c.args.name.now (Out c.in-Out.n c.in-Out.place) holds table in
    let note = ap (λ (rs : List Row). noted_in (row_outs (row_at rs c.in-Out.n)) c.in-Out.place) (sym c.deref-in-Out.ensures.value) ∙ sym c.in-Some.ensures in
    let done = out_waits c.args.self.now s k h c.in-Out.n c.in-Out.place c.args.name.now holds is c.in-Some.v.now note in
    let left = out_there c.args.self.now s k h c.in-Out.n c.in-Out.place c.args.name.now holds is done in
    let same : Some c.in-Some.v.now ≡ Some _ = sym note ∙ left.noted in
    (subst (IsThere h) e done, e, (left.bytes, left.holds, c.noted_length.ensures ∙ ap noted_length same))

pub returns-in-None : goal.returns-in-None
returns-in-None c = λ s k h mode line next holds asked there.
    let table = sym c.current.ensures ∙ c.in-Out.is in
    let e = sym c.in-Out.is ∙ c.current.ensures ∙ latest_is c.args.self.now s k h holds c.args.name.now in
    let is = opens c.args.self.now s k h c.args.name.now (Out c.in-Out.n c.in-Out.place) holds table in
    let note = ap (λ (rs : List Row). noted_in (row_outs (row_at rs c.in-Out.n)) c.in-Out.place) (sym c.deref-in-Out.ensures.value) ∙ sym c.in-None.ensures in
    let left = out_there c.args.self.now s k h c.in-Out.n c.in-Out.place c.args.name.now holds is (subst (IsThere h) (sym e) there) in
    let f : None ≡ Some _ = sym note ∙ left.noted in cc
