use Rattle.std.proofs.Common.{◌≡◌, ◌<◌, ◌≤◌, ◌+◌, ℕ, List, [], get_or, length, take, drop, sym, ◌∙◌, ap, subst, arith}
use Rattle.gs_log.specs.Kept.{pieces_of, piece_at, payload_at, IsInside}
use Rattle.gs_log.specs.declared.place.Place.{Place}
use Rattle.gs_log.proofs.Kept.{length-payloads, length-pieces, inside_at, payload_of, piece_of}
use Rattle.gs_log.proofs.log.Log.payload.Goals as goal

pub index-place-requires : goal.index-place-requires
index-place-requires c = omega (arith, c.requires, ap length c.self.view_is, length-payloads (pieces_of c.self.inside.pieces.items) c.self.inside.places.items, c.self.inside.places.ok.0)

pub index-requires : goal.index-requires
index-requires c =
    let ps = pieces_of c.self.inside.pieces.items in
    let lt : c.args.i < length c.self.inside.places.items = omega (arith, c.requires, ap length c.self.view_is, length-payloads ps c.self.inside.places.items) in
    let inside = subst (λ (p : Place). IsInside ps p) (sym c.index-place.ensures) (inside_at ps c.self.inside.places.items c.args.i c.index-place.result.now lt c.self.invariant.inside) in
    omega (arith, inside.piece, length-pieces c.self.inside.pieces.items, c.self.inside.pieces.ok.0)

pub part-requires : goal.part-requires
part-requires c =
    let ps = pieces_of c.self.inside.pieces.items in
    let lt : c.args.i < length c.self.inside.places.items = omega (arith, c.requires, ap length c.self.view_is, length-payloads ps c.self.inside.places.items) in
    let inside = subst (λ (p : Place). IsInside ps p) (sym c.index-place.ensures) (inside_at ps c.self.inside.places.items c.args.i c.index-place.result.now lt c.self.invariant.inside) in
    let in_pieces : c.index-place.result.now.piece < length c.self.inside.pieces.items = omega (arith, inside.piece, length-pieces c.self.inside.pieces.items) in
    let piece : c.deref.result.now ≡ piece_at ps c.index-place.result.now.piece = c.deref.ensures.value ∙ ap (λ v. v.items) c.index.ensures ∙ sym (piece_of c.self.inside.pieces.items c.index-place.result.now.piece c.index.result.now in_pieces) in
    subst (λ (l : List ℕ). c.index-place.result.now.start + c.index-place.result.now.len ≤ length l) (sym piece) inside.whole

pub returns-clause-value : goal.returns-clause-value
returns-clause-value c =
    let ps = pieces_of c.self.inside.pieces.items in
    let lt : c.args.i < length c.self.inside.places.items = omega (arith, c.requires, ap length c.self.view_is, length-payloads ps c.self.inside.places.items) in
    let inside = subst (λ (p : Place). IsInside ps p) (sym c.index-place.ensures) (inside_at ps c.self.inside.places.items c.args.i c.index-place.result.now lt c.self.invariant.inside) in
    let in_pieces : c.index-place.result.now.piece < length c.self.inside.pieces.items = omega (arith, inside.piece, length-pieces c.self.inside.pieces.items) in
    let piece : c.deref.result.now ≡ piece_at ps c.index-place.result.now.piece = c.deref.ensures.value ∙ ap (λ v. v.items) c.index.ensures ∙ sym (piece_of c.self.inside.pieces.items c.index-place.result.now.piece c.index.result.now in_pieces) in
    c.part.ensures.value ∙ ap (λ (l : List ℕ). take c.index-place.result.now.len (drop c.index-place.result.now.start l)) piece
    ∙ ap (λ (p : Place). payload_at ps p) c.index-place.ensures ∙ sym (payload_of ps c.self.inside.places.items c.args.i c.index-place.result.now lt) ∙ ap (λ (l : List (List ℕ)). get_or l c.args.i []) c.self.view_is
