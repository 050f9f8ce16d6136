use Rattle.std.proofs.Common.{◌≡◌, ◌∙◌, refl, sym, subst, arith, inl, Some, is_some, true}
use Rattle.gs_tables.specs.Table.{looked_in}
use Rattle.gs_core.specs.Core.{Turned, IsOnce}
use Rattle.gs_core.specs.Turns.{IsTurn}
use Rattle.gs_core.proofs.Going.{kept_same, once_taken}
use Rattle.gs_core.proofs.Resting.{rest_lost, rest_none, before_at, lost_looks}
use Rattle.gs_core.proofs.Settled.{some_lost}
use Rattle.gs_core.proofs.machine.Core.advance.Goals as goal

pub returns-then-is_some-clause-advanced : goal.returns-then-is_some-clause-advanced
returns-then-is_some-clause-advanced c = λ s k h stands.
    let self = c.args.self.now in
    let is : is_some self.lost ≡ true = sym c.is_some.ensures ∙ c.if-is_some.true in (
      k,
      record {
        later = omega arith;
        stands = record { bears = stands.bears; made = stands.made; talks = stands.talks; rest = rest_lost self.lost self.stage self.asked s k h is stands.rest };
        due = λ losses fit. absurd (some_lost self.lost self.stage self.asked s k h is losses fit stands.rest);
        before = λ ne. absurd (ne refl);
        looks = inl (refl, lost_looks self.lost self.stage self.asked s k h (looked_in self.tables) is stands.rest);
        once = λ same. tt;
      },
    )

pub returns-in-Some-clause-advanced : goal.returns-in-Some-clause-advanced
returns-in-Some-clause-advanced c = λ s k h stands.
    let old = c.args.self.now in
    let mid = c.loop-i.self in
    let i = c.loop-i.invariant in
    let far = i.stands s k h stands in
    let m = far.0 in
    let e = c.in_ok-step.ensures in
    let new = c.turn.new.self in
    let x = c.in-Some.step in
    let turn : IsTurn mid.stage mid new (Some x) = subst (IsTurn mid.stage mid new) c.in-Some.is e.turn in
    let turned : Turned new s m h (Some x) = subst (Turned new s m h) c.in-Some.is (e.turned s m h i.calm i.answered far.2) in (
      m,
      record {
        later = far.1;
        stands = turned.0;
        due = turned.1;
        before = λ ne. before_at mid.stage mid.asked s m h (rest_none mid.lost mid.stage mid.asked s m h i.calm far.2.rest);
        looks = kept_same old mid new k m far.3 turn.looks;
        once = λ same. once_taken x old.stage (subst (IsOnce x) (far.4 same) turn.once);
      },
    )
