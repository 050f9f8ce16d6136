-- Formats: which values have a spelling, what it is, and how a value is read from the front.
use Rattle.std.specs.Prelude.{ℕ, ℤ, pos, negsuc, ◌^◌, zero, suc, Bool, true, false, ◌&&◌, List, [], ◌∷◌, ◌++◌, length, Option, Some, None, nat_lt, ◌==◌, if◌then◌else◌}
use Rattle.std.specs.Int.{w32, w64}
use Rattle.gs_fields.specs.Fields.{◌>>=◌, byte_at, number_at, signed_at, blob_at, number, blob, signed}

pub record Format (A : Type 0) : Type 0 where
  pub fits : A → Bool
  pub spell : A → List ℕ
  pub read : List ℕ → Option (A × List ℕ)

-- one byte
abbrev pub byte : Format ℕ
byte = record { fits = λ n. nat_lt n 256; spell = λ n. n ∷ []; read = byte_at }

-- four bytes
abbrev pub four : Format ℕ
four = record { fits = λ n. nat_lt n (2 ^ 32); spell = number w32; read = number_at w32 }

-- eight bytes
abbrev pub eight : Format ℕ
eight = record { fits = λ n. nat_lt n (2 ^ 64); spell = number w64; read = number_at w64 }

-- a length and so many bytes
abbrev pub bytes : Format (List ℕ)
bytes = record { fits = λ b. nat_lt (length b) (2 ^ 32); spell = blob; read = blob_at }

abbrev pub fits_signed : ℤ → Bool
fits_signed (pos n) = nat_lt n (2 ^ 63)
fits_signed (negsuc n) = nat_lt n (2 ^ 63)

-- eight bytes in two's complement
abbrev pub eight_signed : Format ℤ
eight_signed = record { fits = fits_signed; spell = signed; read = signed_at }

-- no bytes
abbrev pub empty : Format (Unit {0})
empty = record { fits = λ _. true; spell = λ _. []; read = λ b. Some (tt, b) }

-- this byte
abbrev pub exactly : ℕ → Format (Unit {0})
exactly k = record {
  fits = λ _. true;
  spell = λ _. k ∷ [];
  read = λ b. byte_at b
      >>= λ t. if t.0 == k then Some (tt, t.1) else None;
}

-- nothing is spelled
abbrev pub never : {A : Type 0} → Format A
never = record { fits = λ _. false; spell = λ _. []; read = λ _. None }

-- one after the other
abbrev pub pair : {A B : Type 0} → Format A → Format B → Format (A × B)
pair f g = record {
  fits = λ x. f.fits x.0 && g.fits x.1;
  spell = λ x. f.spell x.0 ++ g.spell x.1;
  read = λ b. f.read b >>= λ x. g.read x.1 >>= λ y. Some ((x.0, y.0), y.1);
}

-- only the values that pass a test
abbrev pub only : {A : Type 0} → (A → Bool) → Format A → Format A
only ok f = record {
  fits = λ x. f.fits x && ok x;
  spell = f.spell;
  read = λ b. f.read b >>= λ x. if ok x.0 then Some x else None;
}

-- the same seen as another type, of which it may be a part
abbrev pub via : {A X : Type 0} → (A → X) → (X → Option A) → Format A → Format X
via put get f = record {
  fits = λ x. elim (get x) [ Some a ↦ f.fits a | None ↦ false ];
  spell = λ x. elim (get x) [ Some a ↦ f.spell a | None ↦ [] ];
  read = λ b. f.read b >>= λ a. Some (put a.0, a.1);
}

-- a byte that says which format follows
abbrev pub tagged : {X : Type 0} → (X → ℕ) → (ℕ → Format X) → Format X
tagged tag_of at = record {
  fits = λ x. nat_lt (tag_of x) 256 && (at (tag_of x)).fits x;
  spell = λ x. tag_of x ∷ (at (tag_of x)).spell x;
  read = λ b. byte_at b >>= λ t. (at t.0).read t.1 >>= λ x. if tag_of x.0 == t.0 then Some x
      else None;
}

-- that many, one after the other
abbrev pub times : {A : Type 0} → Format A → ℕ → List ℕ → Option (List A × List ℕ)
times f zero b = Some ([], b)
times f (suc n) b = f.read b >>= λ x. times f n x.1 >>= λ xs. Some (x.0 ∷ xs.0, xs.1)

abbrev pub all_fit : {A : Type 0} → Format A → List A → Bool
all_fit f [] = true
all_fit f (x ∷ xs) = f.fits x && all_fit f xs

abbrev pub spell_all : {A : Type 0} → Format A → List A → List ℕ
spell_all f [] = []
spell_all f (x ∷ xs) = f.spell x ++ spell_all f xs

-- a count and that many
abbrev pub counted : {A : Type 0} → Format ℕ → Format A → Format (List A)
counted c f = record {
  fits = λ xs. c.fits (length xs) && all_fit f xs;
  spell = λ xs. c.spell (length xs) ++ spell_all f xs;
  read = λ b. c.read b >>= λ n. times f n.0 n.1;
}

-- all of the bytes
abbrev pub whole : {A : Type 0} → Format A → List ℕ → Option A
whole f b = f.read b >>= λ x. elim x.1 [ [] ↦ Some x.0 | _ ↦ None ]
