-- Reading on in a string.
use Rattle.std.proofs.Common.{◌≡◌, ℕ, ◌+◌, ◌-◌, ◌<◌, List, [], ◌∷◌, ◌++◌, drop, slice_index, subst, ap, sym, refl, append_assoc, append-nil, arith}
use Rattle.std.proofs.lemmas.List.{drop-drop}
use Rattle.gs_tree.specs.Quoted.{Quoted, closed, broken, after, Spells, Quotes, closes, goes_on}

-- what a string says, after a part of its value that takes so many bytes
abbrev pub following : (value : List ℕ) (count : ℕ) → Quoted → Quoted
following v n (closed value count) = closed (v ++ value) (n + count)
following v n (broken kind) = broken kind

following-nothing : (q : Quoted) → following [] 0 q ≡ q
following-nothing (closed value count) = ap (λ n. closed value n) (omega arith)
following-nothing (broken kind) = refl

following-after : (v : List ℕ) (n b m : ℕ) (q : Quoted) → following v n (after b m q) ≡ following (v ++ b ∷ []) (n + m) q
following-after v n b m (closed value count) = grind (arith, append_assoc)
following-after v n b m (broken kind) = refl

-- before the first byte
pub reads_all : (bytes : List ℕ) (room : ℕ) (q : Quoted) → Quotes room (drop 0 bytes) q → Quotes room bytes (following [] 0 q)
reads_all bytes room q h = subst (λ r. Quotes room bytes r) (sym (following-nothing q)) h

-- one byte more of the value
pub reads_more : (bytes v : List ℕ) (room rest_room at b m : ℕ) → 0 < rest_room → Spells (drop at bytes) b m →
    ((q : Quoted) → Quotes rest_room (drop at bytes) q → Quotes room bytes (following v at q)) →
    (q : Quoted) → Quotes (rest_room - 1) (drop (at + m) bytes) q → Quotes room bytes (following (v ++ b ∷ []) (at + m) q)
reads_more bytes v room rest_room at b m some s so_far q h =
    let h' : Quotes (rest_room - 1) (drop m (drop at bytes)) q = rw drop-drop h in
    subst (λ r. Quotes room bytes r) (following-after v at b m q) (so_far (after b m q) (goes_on rest_room b m (drop at bytes) q some s h'))

-- the closing quote
pub reads_end : (bytes v : List ℕ) (room rest_room at : ℕ) →
    ((q : Quoted) → Quotes rest_room (drop at bytes) q → Quotes room bytes (following v at q)) →
    slice_index (drop at bytes) 0 ≡ 34 → Quotes room bytes (closed v (at + 1))
reads_end bytes v room rest_room at so_far e =
    subst (λ r. Quotes room bytes (closed r (at + 1))) (append-nil v) (so_far (closed [] 1) (closes rest_room (drop at bytes) e))
