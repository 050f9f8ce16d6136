-- How the payloads are kept: each is a part of one of the pieces that were read or written.
use Rattle.std.specs.Prelude.{ℕ, zero, suc, ◌+◌, ◌<◌, ◌≤◌, List, [], ◌∷◌, length, take, drop, map, Vec}
use Rattle.std.specs.declared.alloc.Global.{Global}
use Rattle.gs_log.specs.Grammar.{IsLog}
use Rattle.gs_log.specs.Fits.{Fits}
use Rattle.gs_log.specs.declared.place.Place.{Place}

abbrev pub pieces_of : List (Vec ℕ Global) → List (List ℕ)
pieces_of vs = map (λ v. v.items) vs

abbrev pub piece_at : List (List ℕ) → ℕ → List ℕ
piece_at [] i = []
piece_at (piece ∷ pieces) zero = piece
piece_at (piece ∷ pieces) (suc i) = piece_at pieces i

abbrev pub payload_at : List (List ℕ) → Place → List ℕ
payload_at pieces p = take p.len (drop p.start (piece_at pieces p.piece))

abbrev pub payloads_in : List (List ℕ) → List Place → List (List ℕ)
payloads_in pieces [] = []
payloads_in pieces (p ∷ places) = payload_at pieces p ∷ payloads_in pieces places

-- the place is within its piece
pub record IsInside (pieces : List (List ℕ)) (p : Place) : Type 0 where
  pub piece : p.piece < length pieces
  pub whole : p.start + p.len ≤ length (piece_at pieces p.piece)

abbrev pub AreInside : List (List ℕ) → List Place → Type 0
AreInside pieces [] = Unit {0}
AreInside pieces (p ∷ places) = IsInside pieces p × AreInside pieces places

-- the closed gate of the log is at `end`, and each payload is within its piece
pub record IsKept (pieces : List (List ℕ)) (places : List Place) (end : ℕ) : Type 0 where
  pub fits : Fits (payloads_in pieces places) end
  pub inside : AreInside pieces places

-- these places of some bytes are those of a log's payloads
pub record HasPlaces (bytes : List ℕ) (places : List Place) (end : ℕ) : Type 0 where
  pub log : IsLog (payloads_in (bytes ∷ []) places) bytes
  pub kept : IsKept (bytes ∷ []) places end
