-- Which bytes are a file's name on the disk.
use Rattle.std.specs.Prelude.{◌≡◌, ◌≢◌, ℕ, ◌<◌, ◌≤◌, Bool, true, ◌&&◌, ◌||◌, nat_le, ◌==◌, List, ◌∷◌, length, slice_index}

-- a letter, a digit, `.`, `_` or `-`
abbrev pub is_name_byte : ℕ → Bool
is_name_byte b = (nat_le 48 b && nat_le b 57) || (nat_le 65 b && nat_le b 90)
    || (nat_le 97 b && nat_le b 122) || b == 46 || b == 95 || b == 45

-- each byte below this place is one of a name
abbrev pub NamedTo : List ℕ → ℕ → Type 0
NamedTo bytes end = (k : ℕ) → k < end → is_name_byte (slice_index bytes k) ≡ true

-- 1 to 200 bytes, each one of a name
pub record IsDiskName (bytes : List ℕ) : Type 0 where
  pub some : 1 ≤ length bytes
  pub short : length bytes ≤ 200
  pub allowed : NamedTo bytes (length bytes)

-- a user's file: its name doesn't begin with `.`
pub record IsUser (name : List ℕ) : Type 0 where
  pub undotted : (rest : List ℕ) → name ≢ 46 ∷ rest

-- a file of the store: its name begins with `.gs.`
pub record IsStore (name : List ℕ) : Type 0 where
  pub rest : List ℕ
  pub is : name ≡ 46 ∷ 103 ∷ 115 ∷ 46 ∷ rest

-- no file is both
pub user_or_store : (name : List ℕ) → IsUser name → IsStore name → ⊥
user_or_store name user store = user.undotted (103 ∷ 115 ∷ 46 ∷ store.rest) store.is
