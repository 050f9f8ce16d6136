-- A tree of keys: each node above the leaves has the least key of its two.
use Rattle.std.specs.Prelude.{◌≡◌, ℕ, ◌+◌, ◌*◌, ◌^◌, ◌<◌, ◌≤◌, List, length, drop, slice_index, min}

-- the nodes as a heap lays them out, from node 1 on; the second half of them are the leaves
pub record IsTree (nodes : List ℕ) (levels : ℕ) : Type 0 where
  pub whole : length nodes ≡ 2 * 2 ^ levels
  pub least : (node : ℕ) → 0 < node → node < 2 ^ levels → slice_index nodes node
      ≡ min (slice_index nodes (2 * node)) (slice_index nodes (2 * node + 1))

-- the keys of the leaves
abbrev pub leaves : List ℕ → ℕ → List ℕ
leaves nodes levels = drop (2 ^ levels) nodes

-- no key is less, and one is this
pub record IsLeast (keys : List ℕ) (key : ℕ) : Type 0 where
  pub least : (k : ℕ) → k < length keys → key ≤ slice_index keys k
  pub reached : (k : ℕ) × (k < length keys) × (slice_index keys k ≡ key)

-- the first place with a key within the limit
pub record IsFirstWithin (keys : List ℕ) (limit place : ℕ) : Type 0 where
  pub inside : place < length keys
  pub within : slice_index keys place ≤ limit
  pub before : (k : ℕ) → k < place → limit < slice_index keys k
