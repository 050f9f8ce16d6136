use Rattle.std.proofs.Common.{◌≡◌, ◌+◌, ◌<◌, ℕ, List, [], ◌∷◌, ◌++◌, length, sym, ◌∙◌, ap, subst, arith}
use Rattle.gs_log.specs.declared.limits.TheConstants.{MAX_RECORDS}
use Rattle.gs_log.specs.declared.place.Place.{Place}
use Rattle.gs_log.specs.Kept.{pieces_of, payloads_in, IsKept}
use Rattle.gs_log.proofs.Records.{length-records-le}
use Rattle.gs_log.proofs.Kept.{pieces_push, length-pieces, payloads_wider, kept_wider, list_more, kept_more}
use Rattle.std.specs.Prelude.{Result, Ok, Err, OnErr}
use Rattle.gs_log.proofs.log.Log.keep.Goals as goal

pub invariant_of-self-in_err-push-2 : goal.invariant_of-self-in_err-push-2
invariant_of-self-in_err-push-2 c =
    let ps = pieces_of c.self.inside.pieces.items in
    let places = c.self.inside.places.items in
    let pieces : pieces_of c.push.new.self.items ≡ ps ++ c.args.closed.items ∷ [] = ap pieces_of c.in_ok-push.ensures.items ∙ pieces_push c.self.inside.pieces.items c.args.closed in
    subst (λ (qs : List (List ℕ)). IsKept qs c.push-2.new.self.items c.self.inside.end) (sym pieces) (subst (λ (at : List Place). IsKept (ps ++ c.args.closed.items ∷ []) at c.self.inside.end) (sym c.in_err-push-2.ensures.items) (kept_wider ps c.args.closed.items places c.self.inside.end c.self.invariant))

pub overflow_add-self-2 : goal.overflow_add-self-2
overflow_add-self-2 c = omega (arith, c.self.invariant.fits.place, c.self.invariant.fits.few, length-records-le (payloads_in (pieces_of c.self.inside.pieces.items) c.self.inside.places.items) c.self.invariant.fits.small, c.requires.small)

pub invariant_of-self-2 : goal.invariant_of-self-2
invariant_of-self-2 c =
    let ps = pieces_of c.self.inside.pieces.items in
    let places = c.self.inside.places.items in
    let pieces : pieces_of c.push.new.self.items ≡ ps ++ c.args.closed.items ∷ [] = ap pieces_of c.in_ok-push.ensures.items ∙ pieces_push c.self.inside.pieces.items c.args.closed in
    let is : c.len.result ≡ length ps = omega (arith, c.len.ensures, c.self.inside.pieces.ok.0, length-pieces c.self.inside.pieces.items) in
    let room : length (payloads_in ps places) < MAX_RECORDS = subst (λ (l : List (List ℕ)). length l < MAX_RECORDS) (sym c.self.view_is) c.requires.room in
    subst (λ (qs : List (List ℕ)). IsKept qs c.push-2.new.self.items (c.self.inside.end + (5 + length c.args.payload.now))) (sym pieces) (subst (λ (at : List Place). IsKept (ps ++ c.args.closed.items ∷ []) at (c.self.inside.end + (5 + length c.args.payload.now))) (sym c.in_ok-push-2.ensures.items)
    (kept_more ps c.args.closed.items c.args.payload.now places c.self.inside.end c.len.result is c.requires.spelled c.self.invariant c.requires.small room))

pub returns-clause-list : goal.returns-clause-list
returns-clause-list c =
    let ps = pieces_of c.self.inside.pieces.items in
    let places = c.self.inside.places.items in
    let pieces : pieces_of c.push.new.self.items ≡ ps ++ c.args.closed.items ∷ [] = ap pieces_of c.in_ok-push.ensures.items ∙ pieces_push c.self.inside.pieces.items c.args.closed in
    let is : c.len.result ≡ length ps = omega (arith, c.len.ensures, c.self.inside.pieces.ok.0, length-pieces c.self.inside.pieces.items) in
    (λ i. payloads_in (pieces i) (c.in_ok-push-2.ensures.items i)) ∙ list_more ps c.args.closed.items c.args.payload.now places c.self.inside.end c.len.result is c.requires.spelled c.self.invariant ∙ ap (λ (l : List (List ℕ)). l ++ c.args.payload.now ∷ []) c.self.view_is

on_err : {X Y : Type 0} (r : Result X Y) (P : Type 0) → P → OnErr r P
on_err (Ok x) P p = tt
on_err (Err e) P p = p

pub returns-in_err-push-2-clause-same : goal.returns-in_err-push-2-clause-same
returns-in_err-push-2-clause-same c =
    let ps = pieces_of c.self.inside.pieces.items in
    let places = c.self.inside.places.items in
    let pieces : pieces_of c.push.new.self.items ≡ ps ++ c.args.closed.items ∷ [] = ap pieces_of c.in_ok-push.ensures.items ∙ pieces_push c.self.inside.pieces.items c.args.closed in
    on_err c.from_residual-in_err-push-2.result _ ((λ i. payloads_in (pieces i) (c.in_err-push-2.ensures.items i)) ∙ payloads_wider ps c.args.closed.items places c.self.invariant.inside ∙ c.self.view_is)
