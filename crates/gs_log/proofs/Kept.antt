-- The payloads as parts of pieces.
use Rattle.std.proofs.Common.{◌≡◌, ◌⊎◌, inl, inr, ℕ, zero, suc, ◌+◌, ◌<◌, ◌≤◌, List, [], ◌∷◌, ◌++◌, length, get_or, take, drop, refl, sym, ◌∙◌, ap, subst, arith, append_assoc, length-append, Vec}
use Rattle.std.specs.declared.alloc.Global.{Global}
use Rattle.std.specs.Int.{w32, to_le_bytes}
use Rattle.std.proofs.lemmas.List.{take_at, drop_at, drop-drop}
use Rattle.std.proofs.lemmas.Grind.{common_steps}
use Rattle.gs_types.specs.Bytes.{IsBytes}
use Rattle.gs_log.specs.Grammar.{Begins}
use Rattle.gs_log.specs.declared.limits.TheConstants.{MAX_PAYLOAD, MAX_RECORDS}
use Rattle.gs_log.specs.Fits.{Fits}
use Rattle.gs_log.specs.Kept.{pieces_of, piece_at, payload_at, payloads_in, IsInside, AreInside, IsKept}
use Rattle.gs_log.proofs.Records.{fits_push}
use Rattle.gs_log.specs.declared.place.Place.{Place}

pub piece_push : (ps : List (List ℕ)) (p : List ℕ) (i : ℕ) → i < length ps → piece_at (ps ++ p ∷ []) i ≡ piece_at ps i
piece_push [] p i lt = absurd (omega arith)
piece_push (q ∷ ps) p zero lt = refl
piece_push (q ∷ ps) p (suc i) lt = piece_push ps p i (omega arith)

pub piece_last : (ps : List (List ℕ)) (p : List ℕ) (i : ℕ) → i ≡ length ps → piece_at (ps ++ p ∷ []) i ≡ p
piece_last [] p zero is = refl
piece_last [] p (suc i) is = absurd (omega arith)
piece_last (q ∷ ps) p zero is = absurd (omega arith)
piece_last (q ∷ ps) p (suc i) is = piece_last ps p i (omega arith)

inside_wider : (ps : List (List ℕ)) (p : List ℕ) (at : Place) → IsInside ps at → IsInside (ps ++ p ∷ []) at
inside_wider ps p at i = record { piece = omega (arith, i.piece, length-append ps (p ∷ [])); whole = subst (λ (l : List ℕ). at.start + at.len ≤ length l) (sym (piece_push ps p at.piece i.piece)) i.whole }

pub insides_wider : (ps : List (List ℕ)) (p : List ℕ) (places : List Place) → AreInside ps places → AreInside (ps ++ p ∷ []) places
insides_wider ps p [] are = tt
insides_wider ps p (at ∷ places) are = (inside_wider ps p at are.0, insides_wider ps p places are.1)

pub insides_push : (ps : List (List ℕ)) (places : List Place) (at : Place) → AreInside ps places → IsInside ps at → AreInside ps (places ++ at ∷ [])
insides_push ps [] at are is = (is, tt)
insides_push ps (q ∷ places) at are is = (are.0, insides_push ps places at are.1 is)

pub payloads_wider : (ps : List (List ℕ)) (p : List ℕ) (places : List Place) → AreInside ps places → payloads_in (ps ++ p ∷ []) places ≡ payloads_in ps places
payloads_wider ps p [] are = refl
payloads_wider ps p (at ∷ places) are = λ i. take at.len (drop at.start (piece_push ps p at.piece are.0.piece i)) ∷ payloads_wider ps p places are.1 i

pub payloads_push : (ps : List (List ℕ)) (places : List Place) (at : Place) → payloads_in ps (places ++ at ∷ []) ≡ payloads_in ps places ++ payload_at ps at ∷ []
payloads_push ps [] at = refl
payloads_push ps (q ∷ places) at = ap (λ (l : List (List ℕ)). payload_at ps q ∷ l) (payloads_push ps places at)

pub length-payloads : (ps : List (List ℕ)) (places : List Place) → length (payloads_in ps places) ≡ length places
length-payloads ps [] = refl
length-payloads ps (at ∷ places) = omega (arith, length-payloads ps places)

pub inside_at : (ps : List (List ℕ)) (places : List Place) (i : ℕ) (d : Place) → i < length places → AreInside ps places → IsInside ps (get_or places i d)
inside_at ps [] i d lt are = absurd (omega arith)
inside_at ps (at ∷ places) zero d lt are = are.0
inside_at ps (at ∷ places) (suc i) d lt are = inside_at ps places i d (omega arith) are.1

pub payload_of : (ps : List (List ℕ)) (places : List Place) (i : ℕ) (d : Place) → i < length places → get_or (payloads_in ps places) i [] ≡ payload_at ps (get_or places i d)
payload_of ps [] i d lt = absurd (omega arith)
payload_of ps (at ∷ places) zero d lt = refl
payload_of ps (at ∷ places) (suc i) d lt = payload_of ps places i d (omega arith)

pub piece_of : (vs : List (Vec ℕ Global)) (i : ℕ) (d : Vec ℕ Global) → i < length vs → piece_at (pieces_of vs) i ≡ (get_or vs i d).items
piece_of [] i d lt = absurd (omega arith)
piece_of (v ∷ vs) zero d lt = refl
piece_of (v ∷ vs) (suc i) d lt = piece_of vs i d (omega arith)

pub pieces_push : (vs : List (Vec ℕ Global)) (v : Vec ℕ Global) → pieces_of (vs ++ v ∷ []) ≡ pieces_of vs ++ v.items ∷ []
pieces_push [] v = refl
pieces_push (w ∷ vs) v = ap (λ (l : List (List ℕ)). w.items ∷ l) (pieces_push vs v)

pub length-pieces : (vs : List (Vec ℕ Global)) → length (pieces_of vs) ≡ length vs
length-pieces [] = refl
length-pieces (v ∷ vs) = omega (arith, length-pieces vs)

-- a record's payload is four bytes behind its gate
drop_drop : (a b : ℕ) (l : List ℕ) → drop (a + b) l ≡ drop b (drop a l)
drop_drop a b l = sym (drop-drop b a l)

pub begun : (bytes payload : List ℕ) (at : ℕ) → Begins payload (drop (at + 1) bytes) → take (length payload) (drop (at + 1 + 4) bytes) ≡ payload
begun bytes payload at b =
    let rest : drop (at + 1 + 4) bytes ≡ payload ++ b.log = drop_drop (at + 1) 4 bytes ∙ ap (λ (l : List ℕ). drop 4 l) b.is ∙ drop_at (to_le_bytes w32 (length payload)) (payload ++ b.log) 4 refl in
    ap (λ (l : List ℕ). take (length payload) l) rest ∙ take_at payload b.log (length payload) refl

pub kept_wider : (ps : List (List ℕ)) (p : List ℕ) (places : List Place) (end : ℕ) → IsKept ps places end → IsKept (ps ++ p ∷ []) places end
kept_wider ps p places end k = record { fits = subst (λ (l : List (List ℕ)). Fits l end) (sym (payloads_wider ps p places k.inside)) k.fits; inside = insides_wider ps p places k.inside }

-- one record more
module _ (ps : List (List ℕ)) (closed payload : List ℕ) (places : List Place) (end piece : ℕ) (is : piece ≡ length ps) (spelled : closed ≡ (to_le_bytes w32 (length payload) ++ payload) ++ 0 ∷ []) (k : IsKept ps places end) where
  abbrev pub place : Place
  place = record { piece = piece; start = 4; len = length payload }

  part : payload_at (ps ++ closed ∷ []) place ≡ payload
  part =
      let rest : drop 4 closed ≡ payload ++ 0 ∷ [] = ap (λ (l : List ℕ). drop 4 l) (spelled ∙ append_assoc (to_le_bytes w32 (length payload)) payload (0 ∷ [])) ∙ drop_at (to_le_bytes w32 (length payload)) (payload ++ 0 ∷ []) 4 refl in
      ap (λ (l : List ℕ). take (length payload) (drop 4 l)) (piece_last ps closed piece is) ∙ ap (λ (l : List ℕ). take (length payload) l) rest ∙ take_at payload (0 ∷ []) (length payload) refl

  pub list_more : payloads_in (ps ++ closed ∷ []) (places ++ place ∷ []) ≡ payloads_in ps places ++ payload ∷ []
  list_more = payloads_push (ps ++ closed ∷ []) places place ∙ (λ i. payloads_wider ps closed places k.inside i ++ part i ∷ [])

  within : IsInside (ps ++ closed ∷ []) place
  within = record {
    piece = omega (arith, is, length-append ps (closed ∷ []));
    whole = subst (λ (l : List ℕ). 4 + length payload ≤ length l) (sym (piece_last ps closed piece is)) (omega (arith, ap length spelled, length-append (to_le_bytes w32 (length payload) ++ payload) (0 ∷ []), length-append (to_le_bytes w32 (length payload)) payload));
  }

  pub kept_more : length payload ≤ MAX_PAYLOAD → length (payloads_in ps places) < MAX_RECORDS → IsKept (ps ++ closed ∷ []) (places ++ place ∷ []) (end + (5 + length payload))
  kept_more small room = record {
    fits = subst (λ (l : List (List ℕ)). Fits l (end + (5 + length payload))) (sym list_more) (fits_push (payloads_in ps places) payload end k.fits small room);
    inside = insides_push (ps ++ closed ∷ []) places place (insides_wider ps closed places k.inside) within;
  }

-- a part of bytes is bytes
pub part_bytes : (n m : ℕ) (l : List ℕ) → IsBytes l → IsBytes (take n (drop m l))
part_bytes n m l bytes i = elim (le_or n i) [ inl out ↦ omega (arith, past n (drop m l) i out) | inr lt ↦ omega (arith, within n (drop m l) i lt, dropped m l i, bytes (m + i)) ]
  where
    le_or : (a b : ℕ) → (a ≤ b) ⊎ (b < a)
    le_or a b = grind arith

    past : (n : ℕ) (l : List ℕ) (k : ℕ) → n ≤ k → get_or (take n l) k 0 ≡ 0
    past n l k le = grind (arith, common_steps)

    within : (n : ℕ) (l : List ℕ) (k : ℕ) → k < n → get_or (take n l) k 0 ≡ get_or l k 0
    within n l k lt = grind (arith, common_steps)

    dropped : (m : ℕ) (l : List ℕ) (i : ℕ) → get_or (drop m l) i 0 ≡ get_or l (m + i) 0
    dropped m l i = grind (arith, common_steps)
