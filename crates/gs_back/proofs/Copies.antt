-- A copy grows by a piece.
use Rattle.std.proofs.Common.{◌≡◌, ◌≢◌, ℕ, ◌+◌, ◌<◌, ◌≤◌, List, [], ◌∷◌, ◌++◌, length, take, drop, Option, Some, None, IfSome, sym, ◌∙◌, ap, subst, arith}
use Rattle.std.specs.Prelude.{option_map}
use Rattle.std.proofs.Math.Seq.{take-add}
use Rattle.std.proofs.lemmas.List.{take-take, take_at, drop_all, append-nil, length-take-le, length-drop}
use Rattle.gs_disk.specs.Folder.{Folder, DiskState, KeepsOthers, Tears, IsRead, Same, overwritten}
use Rattle.gs_disk.specs.Moments.{Passes}
use Rattle.gs_disk.specs.Going.{AreAmong, keeps, keeps_none, keeps_files, keeps_started, keeps_same, keeps_write}
use Rattle.gs_store.specs.Spans.{TouchesOnly}

-- the copy so far: of a file with these bytes the first `at`
pub record IsCopied (from to : List ℕ) (at : ℕ) (f g : Folder) (bytes : List ℕ) : Type 0 where
  pub within : at ≤ length bytes
  pub copied : g to ≡ Some (take at bytes)

grown : (at n : ℕ) (bytes piece : List ℕ) → at ≤ length bytes
    → piece ≡ take n (drop at bytes)
    → overwritten at piece (take at bytes) ≡ take (at + n) bytes
grown at n bytes piece le same =
    let d : drop (at + length piece) (take at bytes) ≡ [] = drop_all (at + length piece)
    (take at bytes) (omega (arith, length-take-le at bytes le)) in
    ap (λ (l : List ℕ). l ++ piece ++ drop (at + length piece) (take at bytes))
    (take-take at at bytes (omega arith))
    ∙ ap (λ (l : List ℕ). take at bytes ++ piece ++ l) d
    ∙ append-nil (take at bytes ++ piece)
    ∙ ap (λ (l : List ℕ). take at bytes ++ l) same
    ∙ sym (take-add at n bytes)

-- what a read put at the front of the buffer
front : (at n : ℕ) (bytes old new : List ℕ) → IsRead at n (Some bytes) old new
    → take n new ≡ take n (drop at bytes)
front at n bytes old new read =
    ap (take n) read.1
    ∙ take_at (take n (drop at bytes)) (drop n old) n
    (length-take-le n (drop at bytes) (omega (arith, length-drop at bytes, read.0)))

pub piece_set : (at n : ℕ) (from to bytes old new : List ℕ) (f g h k : Folder) → from ≢ to
    → f from ≡ Some bytes → KeepsOthers (to ∷ []) f g → IsCopied from to at f g bytes
    → IsRead at n (g from) old new → h ≡ g
    → IfSome (h to) (λ was. k to ≡ Some (overwritten at (take n new) was))
    → IsCopied from to (at + n) f k bytes
piece_set at n from to bytes old new f g h k apart file others here read same wrote =
    let is : IsRead at n (Some bytes) old new =
    subst (λ (o : Option (List ℕ)). IsRead at n o old new)
    (others.each from (apart, tt) ∙ file) read in
    let w : k to ≡ Some (overwritten at (take n new) (take at bytes)) = subst
    (λ (o : Option (List ℕ)). IfSome o (λ was. k to ≡ Some (overwritten at (take n new) was)))
    (ap (λ (w : Folder). w to) same ∙ here.copied) wrote in
    let le = here.within in
    record {
      within = omega (arith, is.0);
      copied = w ∙ ap (λ (l : List ℕ). Some l)
          (grown at n bytes (take n new) le (front at n bytes old new is));
    }

-- a file that has this length has these bytes
pub bytes_of : (file : Option (List ℕ)) (len : ℕ) → option_map length file ≡ Some len
    → (bytes : List ℕ) × (file ≡ Some bytes) × (length bytes ≡ len)
bytes_of None len e = absurd cc
bytes_of (Some bytes) len e = (bytes, refl_of bytes, len_of bytes len e)
  where
    refl_of : (bytes : List ℕ) → Some bytes ≡ Some bytes
    refl_of bytes = cc

    len_of : (bytes : List ℕ) (len : ℕ) → option_map length (Some bytes) ≡ Some len
        → length bytes ≡ len
    len_of bytes len e = cc

-- nothing is left to read only at the end
pub read_on : (at n len : ℕ) (bytes old new : List ℕ) → IsRead at n (Some bytes) old new
    → at < length bytes → 1 ≤ length old → 1 ≤ n
read_on at n len bytes old new read lt room = omega (arith, read.0)

pub piece_touches : (to : List ℕ) (a b c d : DiskState) (at n : ℕ)
    → TouchesOnly (to ∷ []) a b
    → Passes Same b c → c.folder ≡ b.folder → Passes (Tears to at n) c d
    → Tears to at n c.folder d.folder → TouchesOnly (to ∷ []) a d
piece_touches to a b c d at n one read same write torn = record {
  reads = record {
    each = λ x out. torn.others.each x out ∙ ap (λ (w : Folder). w x) same
        ∙ one.reads.each x out;
  };
  images = keeps_write (to ∷ []) to at n a c d (keeps_same (to ∷ []) a b c one.images read)
      write
      (λ x out. out);
}

pub read_touches : (names : List (List ℕ)) (a b c : DiskState) → TouchesOnly names a b
    → Passes Same b c → c.folder ≡ b.folder → TouchesOnly names a c
read_touches names a b c one read same = record {
  reads = record { each = λ x out. ap (λ (w : Folder). w x) same ∙ one.reads.each x out };
  images = keeps_same names a b c one.images read;
}

pub then_touches : (names few : List (List ℕ)) (a b c : DiskState) → AreAmong few names
    → TouchesOnly names a b → TouchesOnly few b c → TouchesOnly names a c
then_touches names few a b c among one two = record {
  reads = keeps names few among a.folder b.folder c.folder one.reads two.reads;
  images = keeps_files names few a b c one.images two.images among;
}

pub none_touched : (names : List (List ℕ)) (s : DiskState) → TouchesOnly names s s
none_touched names s = record {
  reads = keeps_none names s.folder;
  images = keeps_started names s;
}
