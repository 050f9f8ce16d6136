-- Bytes are a log with one list, or no log at one place.
use Rattle.std.proofs.Common.{◌≡◌, inl, inr, ℕ, ◌+◌, ◌≤◌, List, [], ◌∷◌, ◌++◌, length, take, drop, Option, Some, None, refl, sym, ◌∙◌, ap, subst, arith, append_assoc, length-append}
use Rattle.std.specs.Int.{w32, to_le_bytes, from_le_bytes}
use Rattle.std.proofs.lemmas.List.{take_at, drop_at}
use Rattle.std.proofs.lemmas.Nat.{from_le_bytes-to_le_bytes_4}
use Rattle.gs_disk.specs.Folder.{Folder}
use Rattle.gs_log.specs.declared.limits.TheConstants.{MAX_PAYLOAD, MAX_RECORDS}
use Rattle.gs_log.specs.Names.{log_name, mark_name}
use Rattle.gs_log.specs.Grammar.{Spells, IsLog, records, AreSmall, Breaks, BreaksAt, IsNoLog}
use Rattle.gs_log.specs.Holding.{Holds}
use Rattle.std.specs.Prelude.{IsSome}

split : (a b c d : List ℕ) → length a ≡ length b → a ++ c ≡ b ++ d → (a ≡ b) × (c ≡ d)
split a b c d size same = (
  sym (take_at a c (length b) size) ∙ ap (λ (l : List ℕ). take (length b) l) same
      ∙ take_at b d (length b) refl,
  sym (drop_at a c (length b) size) ∙ ap (λ (l : List ℕ). drop (length b) l) same
      ∙ drop_at b d (length b) refl,
)

same_record : (p q l m : List ℕ) → length p ≤ MAX_PAYLOAD → length q ≤ MAX_PAYLOAD
    → 1 ∷ (to_le_bytes w32 (length p) ++ p ++ l) ≡ 1 ∷ (to_le_bytes w32 (length q) ++ q ++ m)
    → (p ≡ q) × (l ≡ m)
same_record p q l m one two same =
    let tails : to_le_bytes w32 (length p) ++ (p ++ l) ≡ to_le_bytes w32 (length q)
    ++ (q ++ m) = cc in
    let heads = split (to_le_bytes w32 (length p)) (to_le_bytes w32 (length q)) (p ++ l)
    (q ++ m) refl tails in
    let size : length p ≡ length q = sym (from_le_bytes-to_le_bytes_4 (length p) (omega arith))
    ∙ ap (λ (b : List ℕ). from_le_bytes w32 b) heads.0 ∙ from_le_bytes-to_le_bytes_4 (length q)
    (omega arith) in
    split p q l m size heads.1

some_head : (g : ℕ) (x y : List ℕ) → g ∷ x ≡ 1 ∷ y → g ≡ 1
some_head g x y e = cc

none_head : (g : ℕ) (x : List ℕ) → [] ≡ g ∷ x → ⊥
none_head g x e = cc

-- a log has one list
pub one : (a b : List (List ℕ)) (bytes : List ℕ) → Spells a bytes → Spells b bytes → a ≡ b
one [] [] bytes s t = refl
one [] (q ∷ b) bytes s t = absurd (s.2 (some_head s.0 s.1 _ (sym s.3 ∙ t.2)))
one (p ∷ a) [] bytes s t = absurd (t.2 (some_head t.0 t.1 _ (sym t.3 ∙ s.2)))
one (p ∷ a) (q ∷ b) bytes s t =
    let same = same_record p q s.0 t.0 s.1 t.1 (sym s.2 ∙ t.2) in
    let rest : a ≡ b = one a b t.0 (subst (Spells a) same.1 s.3) t.3 in
    λ i. same.0 i ∷ rest i

-- what is behind these records is a log of the other payloads
strip : (before list : List (List ℕ)) (bytes rest : List ℕ) → Spells list bytes → AreSmall before
    → bytes ≡ records before ++ rest → (left : List (List ℕ))
    × (length list ≡ length before + length left) × Spells left rest
strip [] list bytes rest s small is = (list, omega arith, subst (Spells list) is s)
strip (p ∷ before) [] bytes rest s small is = absurd (s.2 (some_head s.0 s.1 _ (sym s.3 ∙ is)))
strip (p ∷ before) (q ∷ list) bytes rest s small is =
    let same = same_record q p s.0 (records before ++ rest) s.1 small.0
    (sym s.2 ∙ is ∙ ap (λ (l : List ℕ). 1 ∷ l) (append_assoc (to_le_bytes w32 (length p))
    (p ++ records before) rest ∙ ap (λ (l : List ℕ). to_le_bytes w32 (length p) ++ l)
    (append_assoc p (records before) rest))) in
    let more = strip before list s.0 rest s.3 small.1 same.1 in
    (more.0, omega (arith, more.1), more.2)

not_empty : (list : List (List ℕ)) (bytes : List ℕ) → Spells list bytes → 1 ≤ length bytes
not_empty [] bytes s = omega (arith, ap length s.3)
not_empty (p ∷ list) bytes s = omega (arith, ap length s.2)

ends_here : (left : List (List ℕ)) (n : ℕ) (rest : List ℕ) → n + length left ≤ MAX_RECORDS
    → Spells left rest → Breaks n rest → ⊥
ends_here [] n rest few s (inl none) = none_head s.0 s.1 (sym none.1 ∙ s.3)
ends_here (q ∷ left) n rest few s (inl none) = none_head 1 _ (sym none.1 ∙ s.2)
ends_here [] n rest few s (inr (behind, is, why)) = s.2 (some_head s.0 s.1 behind (sym s.3 ∙ is))
ends_here (q ∷ left) n rest few s (inr (behind, is, inl full)) = absurd (omega arith)
ends_here (q ∷ left) n rest few s (inr (behind, is, inr none)) = none q
    (record {
      small = s.1;
      log = s.0;
      follows = not_empty left s.0 s.3;
      is = tail_of (sym is ∙ s.2);
    })
  where
    tail_of : {x y : List ℕ} → 1 ∷ x ≡ 1 ∷ y → x ≡ y
    tail_of e = cc

pub no_log : (list : List (List ℕ)) (bytes : List ℕ) (at : ℕ) → IsLog list bytes → BreaksAt bytes at
    → ⊥
no_log list bytes at log b =
    let left = strip b.before list bytes b.rest log.spelled b.small b.is in
    ends_here left.0 (length b.before) b.rest (omega (arith, left.1, log.few)) left.2 b.breaks

-- what stands where a log breaks is not empty, but at its very beginning
not_ended : (n : ℕ) (rest : List ℕ) → 1 ≤ n → Breaks n rest → 1 ≤ length rest
not_ended n rest some (inl none) = absurd (omega (arith, none.0))
not_ended n rest some (inr (behind, is, why)) = omega (arith, ap length is)

long_more : (front rest : List ℕ) → 1 ≤ length rest → 1 ≤ length (front ++ rest)
long_more front rest some = omega (arith, length-append front rest)

-- a whole record doesn't break
goes_on : (n : ℕ) (q : List ℕ) (b : List (List ℕ)) (r s : List ℕ) → n + (1 + length b) ≤ MAX_RECORDS
    → length q ≤ MAX_PAYLOAD → r ≡ records (q ∷ b) ++ s → Breaks (n + (1 + length b)) s → Breaks n r
    → ⊥
goes_on n q b r s few small is more (inl none) = none_head 1 _ (sym none.1 ∙ is)
goes_on n q b r s few small is more (inr (behind, opens, inl full)) = absurd (omega arith)
goes_on n q b r s few small is more (inr (behind, opens, inr none)) = none q (record {
  small = small;
  log = records b ++ s;
  follows = long_more (records b) s (not_ended (n + (1 + length b)) s (omega arith) more);
  is = tail_of (sym opens ∙ is) ∙ append_assoc (to_le_bytes w32 (length q)) (q ++ records b) s
      ∙ ap (λ (l : List ℕ). to_le_bytes w32 (length q) ++ l) (append_assoc q (records b) s);
})
  where
    tail_of : {x y : List ℕ} → 1 ∷ x ≡ 1 ∷ y → x ≡ y
    tail_of e = cc

one_break : (n : ℕ) (a b : List (List ℕ)) (bytes r s : List ℕ) → bytes ≡ records a ++ r
    → bytes ≡ records b ++ s → AreSmall a → AreSmall b → n + length a ≤ MAX_RECORDS
    → n + length b ≤ MAX_RECORDS → Breaks (n + length a) r → Breaks (n + length b) s
    → length (records a) ≡ length (records b)
one_break n [] [] bytes r s is_a is_b small_a small_b few_a few_b end_a end_b = refl
one_break n [] (q ∷ b) bytes r s is_a is_b small_a small_b few_a few_b end_a end_b =
    absurd (goes_on n q b r s (omega arith) small_b.0 (sym is_a ∙ is_b)
    (subst (λ (m : ℕ). Breaks m s) (omega arith) end_b)
    (subst (λ (m : ℕ). Breaks m r) (omega arith) end_a))
one_break n (p ∷ a) [] bytes r s is_a is_b small_a small_b few_a few_b end_a end_b =
    absurd (goes_on n p a s r (omega arith) small_a.0 (sym is_b ∙ is_a)
    (subst (λ (m : ℕ). Breaks m r) (omega arith) end_a)
    (subst (λ (m : ℕ). Breaks m s) (omega arith) end_b))
one_break n (p ∷ a) (q ∷ b) bytes r s is_a is_b small_a small_b few_a few_b end_a end_b =
    let same = same_record p q (records a ++ r) (records b ++ s) small_a.0 small_b.0
    (sym (spelled_out p a r) ∙ sym is_a ∙ is_b ∙ spelled_out q b s) in
    let rest = one_break (n + 1) a b (records a ++ r) r s refl same.1 small_a.1 small_b.1
    (omega arith) (omega arith) (subst (λ (m : ℕ). Breaks m r) (omega arith) end_a)
    (subst (λ (m : ℕ). Breaks m s) (omega arith) end_b) in
    omega (
      arith,
      rest,
      ap length same.0,
      length-append (to_le_bytes w32 (length p))
          (p ++ records a),
      length-append p (records a),
      length-append (to_le_bytes w32 (length q))
          (q ++ records b),
      length-append q (records b),
    )
  where
    spelled_out : (p : List ℕ) (a : List (List ℕ)) (r : List ℕ) → records (p ∷ a) ++ r ≡ 1
        ∷ (to_le_bytes w32 (length p) ++ p ++ (records a ++ r))
    spelled_out p a r = ap (λ (l : List ℕ). 1 ∷ l) (append_assoc (to_le_bytes w32 (length p))
        (p ++ records a) r ∙ ap (λ (l : List ℕ). to_le_bytes w32 (length p) ++ l)
        (append_assoc p (records a) r))

-- a bad log has one place
pub one_place : (bytes : List ℕ) (at and_at : ℕ) → BreaksAt bytes at → BreaksAt bytes and_at
    → at ≡ and_at
one_place bytes at and_at a b =
    let same = one_break 0 a.before b.before bytes a.rest b.rest a.is b.is a.small b.small
    (omega (arith, a.few)) (omega (arith, b.few))
    (subst (λ (m : ℕ). Breaks m a.rest) (omega arith) a.breaks)
    (subst (λ (m : ℕ). Breaks m b.rest) (omega arith) b.breaks) in
    a.place ∙ same ∙ sym b.place

-- the same of a file
pub one_place_of : (file : Option (List ℕ)) (at and_at : ℕ) → IsNoLog file at → IsNoLog file and_at
    → at ≡ and_at
one_place_of None at and_at a b = a ∙ sym b
one_place_of (Some bytes) at and_at a b = one_place bytes at and_at a b

-- a folder has one list
pub one_list_held : (a b : List (List ℕ)) (folder : Folder) → Holds a folder → Holds b folder
    → a ≡ b
one_list_held a b folder h k =
    let same : k.bytes ≡ h.bytes = some_one k.bytes h.bytes (sym k.file ∙ h.file) in
    one a b h.bytes h.log.spelled (subst (Spells b) same k.log.spelled)
  where
    some_one : (x y : List ℕ) → Some x ≡ Some y → x ≡ y
    some_one x y e = cc

-- the list stays where the mark and the log stay
pub stays_held : (list : List (List ℕ)) (old new : Folder) → new mark_name ≡ old mark_name
    → new log_name ≡ old log_name → Holds list old → Holds list new
stays_held list old new mark log h = record {
  marked = subst (λ (o : Option (List ℕ)). IsSome o)
      (sym mark) h.marked;
  bytes = h.bytes;
  file = log ∙ h.file;
  log = h.log;
}
