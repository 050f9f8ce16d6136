-- The bytes of a log:
--
--     log = closed | 01 len payload log
--
-- `closed` is one byte other than 1, followed by any bytes. `len` is four bytes, the lowest first,
-- and `payload` has that many bytes, at most 2^25. A log has at most 32,767 records.
use Rattle.std.specs.Prelude.{◌≡◌, ◌≢◌, ◌⊎◌, ℕ, ◌≤◌, List, [], ◌∷◌, ◌++◌, length, Option, MatchOption}
use Rattle.gs_log.specs.declared.limits.TheConstants.{MAX_PAYLOAD, MAX_RECORDS}
use Rattle.std.specs.Int.{w32, to_le_bytes}

-- the bytes are spelled by these payloads
abbrev pub Spells : List (List ℕ) → List ℕ → Type 0
Spells [] bytes = (gate : ℕ) × (behind : List ℕ) × (gate ≢ 1) × (bytes ≡ gate ∷ behind)
Spells (payload ∷ payloads) bytes = (log : List ℕ) × (length payload ≤ MAX_PAYLOAD)
    × (bytes ≡ 1 ∷ (to_le_bytes w32 (length payload) ++ payload ++ log)) × Spells payloads log

-- the bytes are a log with this list
pub record IsLog (list : List (List ℕ)) (bytes : List ℕ) : Type 0 where
  pub few : length list ≤ MAX_RECORDS
  pub spelled : Spells list bytes

-- open records of these payloads
abbrev pub records : List (List ℕ) → List ℕ
records [] = []
records (payload ∷ payloads) = 1 ∷ (to_le_bytes w32 (length payload) ++ payload ++ records payloads)

-- none of them is too long
abbrev pub AreSmall : List (List ℕ) → Type 0
AreSmall [] = Unit {0}
AreSmall (payload ∷ payloads) = (length payload ≤ MAX_PAYLOAD) × AreSmall payloads

-- a whole record of this payload begins behind an open gate, and some byte follows
pub record Begins (payload behind : List ℕ) : Type 0 where
  pub small : length payload ≤ MAX_PAYLOAD
  pub log : List ℕ
  pub follows : 1 ≤ length log
  pub is : behind ≡ to_le_bytes w32 (length payload) ++ payload ++ log

-- behind n records there is no log: it is empty, or an open gate, with too many records before it
-- or with no whole record
abbrev pub Breaks : ℕ → List ℕ → Type 0
Breaks n bytes = ((n ≡ 0) × (bytes ≡ []))
    ⊎ ((behind : List ℕ) × (bytes ≡ 1 ∷ behind)
    × ((n ≡ MAX_RECORDS) ⊎ ((payload : List ℕ) → Begins payload behind → ⊥)))

-- the bytes are no log, and the gate of the first record that doesn't fit is at this place
pub record BreaksAt (bytes : List ℕ) (at : ℕ) : Type 0 where
  pub before : List (List ℕ)
  pub rest : List ℕ
  pub is : bytes ≡ records before ++ rest
  pub few : length before ≤ MAX_RECORDS
  pub small : AreSmall before
  pub place : at ≡ length (records before)
  pub breaks : Breaks (length before) rest

-- the same of a file, which may be absent
abbrev pub IsNoLog : Option (List ℕ) → ℕ → Type 0
IsNoLog file at = MatchOption file (at ≡ 0) (λ bytes. BreaksAt bytes at)
