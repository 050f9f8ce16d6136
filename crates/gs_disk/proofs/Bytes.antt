-- What a write, whole or torn, does to a file's bytes.
use Rattle.std.proofs.Common.{◌≡◌, ◌⊎◌, inl, inr, ⊎_elim, ℕ, ◌+◌, ◌<◌, ◌≤◌, List, length, take, drop, get_or, min, ◌-◌, take_all, length-take-le, le_refl, refl, sym, ◌∙◌, ap, arith}
use Rattle.std.proofs.lemmas.List.{ext_get_or}
use Rattle.std.proofs.lemmas.Grind.{common_steps}
use Rattle.gs_disk.specs.Folder.{Torn, overwritten}

pub torn_overwritten : (at : ℕ) (bytes old : List ℕ) → at ≤ length old → Torn at (length bytes) old (overwritten at bytes old)
torn_overwritten at bytes old le = record {
  no_shorter = grind (arith, common_steps);
  before = λ within. grind (arith, common_steps);
  beyond = λ past. grind (arith, common_steps);
  after = λ within. grind (arith, common_steps);
  no_longer = λ within. grind (arith, common_steps);
}

pub length_overwritten : (at : ℕ) (bytes old : List ℕ) → at ≤ length old → at + length bytes ≤ length old → length (overwritten at bytes old) ≡ length old
length_overwritten at bytes old le within = grind (arith, common_steps)

pub longer_overwritten : (at : ℕ) (bytes old : List ℕ) → at ≤ length old → length old ≤ length (overwritten at bytes old)
longer_overwritten at bytes old le = grind (arith, common_steps)

pub overwritten_at : (at : ℕ) (bytes old : List ℕ) (k : ℕ) → at ≤ length old → k < length old → (k < at) ⊎ (at + length bytes ≤ k) → get_or (overwritten at bytes old) k 0 ≡ get_or old k 0
overwritten_at at bytes old k le lt (inl below) = grind (arith, common_steps)
overwritten_at at bytes old k le lt (inr above) = grind (arith, common_steps)

pub overwritten_in : (at : ℕ) (bytes old : List ℕ) (k : ℕ) → at ≤ length old → at ≤ k → k < at + length bytes → get_or (overwritten at bytes old) k 0 ≡ get_or bytes (k - at) 0
overwritten_in at bytes old k le from lt = grind (arith, common_steps)

part_at : (at n : ℕ) (file : List ℕ) (k : ℕ) → at ≤ k → k < at + n → k < length file → get_or (take n (drop at file)) (k - at) 0 ≡ get_or file k 0
part_at at n file k from lt short = grind (arith, common_steps)

part_length : (at n : ℕ) (file : List ℕ) → at ≤ length file → length (take n (drop at file)) ≡ min n (length file - at)
part_length at n file le = grind (arith, common_steps)

pub three_ways : (k a b : ℕ) → (k < a) ⊎ ((a ≤ k) × (k < b)) ⊎ (b ≤ k)
three_ways k a b = elim (le_or a k) [ inl from ↦ elim (le_or b k) [ inl above ↦ inr (inr above) | inr lt ↦ inr (inl (from, lt)) ] | inr below ↦ inl below ]
  where
    le_or : (a b : ℕ) → (a ≤ b) ⊎ (b < a)
    le_or a b = grind arith

-- a range put back into bytes that differ nowhere else
put_back : (at n : ℕ) (file base : List ℕ) → at ≤ length file → length base ≡ length file → ((k : ℕ) → k < length file → (k < at) ⊎ (at + n ≤ k) → get_or base k 0 ≡ get_or file k 0) → overwritten at (take n (drop at file)) base ≡ file
put_back at n file base le size same = ext_get_or 0 _ _ long each
  where
    inside : at + length (take n (drop at file)) ≤ length base
    inside = omega (arith, part_length at n file le, size)

    long : length (overwritten at (take n (drop at file)) base) ≡ length file
    long = length_overwritten at (take n (drop at file)) base (omega (arith, size)) inside ∙ size

    each : (k : ℕ) → k < length (overwritten at (take n (drop at file)) base) → get_or (overwritten at (take n (drop at file)) base) k 0 ≡ get_or file k 0
    each k lt =
        let short : k < length file = omega (arith, long) in
        elim (three_ways k at (at + length (take n (drop at file)))) [
          | inl below ↦ overwritten_at at (take n (drop at file)) base k (omega (arith, size)) (omega (arith, size)) (inl below) ∙ same k short (inl below)
          | inr (inl within) ↦ overwritten_in at (take n (drop at file)) base k (omega (arith, size)) within.0 within.1 ∙ part_at at n file k within.0 (omega (arith, within.1, part_length at n file le)) short
          | inr (inr above) ↦ overwritten_at at (take n (drop at file)) base k (omega (arith, size)) (omega (arith, size)) (inr above) ∙ same k short (inr (omega (arith, above, part_length at n file le)))
        ]

pub unwritten_all : (at : ℕ) (bytes part file : List ℕ) → at ≤ length file → part ≡ take (length bytes) (drop at file) → overwritten at part (take (length file) (overwritten at bytes file)) ≡ file
unwritten_all at bytes part file le is =
    let size : length (take (length file) (overwritten at bytes file)) ≡ length file = length-take-le (length file) (overwritten at bytes file) (longer_overwritten at bytes file le) in
    ap (λ (l : List ℕ). overwritten at l (take (length file) (overwritten at bytes file))) is
    ∙ put_back at (length bytes) file (take (length file) (overwritten at bytes file)) le size (λ k lt apart. get_or-take (length file) (overwritten at bytes file) k lt ∙ overwritten_at at bytes file k le lt apart)
  where
    get_or-take : (n : ℕ) (l : List ℕ) (k : ℕ) → k < n → get_or (take n l) k 0 ≡ get_or l k 0
    get_or-take n l k lt = grind (arith, common_steps)

pub unwritten_none : (at n : ℕ) (part file : List ℕ) → at ≤ length file → part ≡ take n (drop at file) → overwritten at part (take (length file) file) ≡ file
unwritten_none at n part file le is =
    ap (λ (l : List ℕ). overwritten at l (take (length file) file)) is ∙ ap (λ (l : List ℕ). overwritten at (take n (drop at file)) l) (take_all (length file) file (le_refl _))
    ∙ put_back at n file file le refl (λ k lt apart. refl)

pub length_part : (at n : ℕ) (part file : List ℕ) → at ≤ length file → part ≡ take n (drop at file) → at + length part ≤ length file
length_part at n part file le is = grind (arith, common_steps)

-- what a file may have been before a write that was torn: old in the range that was written
module _ (at n : ℕ) (old base : List ℕ) (room : length old ≤ length base) where
  abbrev pub mid : List ℕ
  mid = overwritten at (take n (drop at old)) base

  pub length_mid : length mid ≡ length base
  length_mid = grind (arith, common_steps)

  pub mid_in : (k : ℕ) → at ≤ k → k < at + n → k < length old → get_or mid k 0 ≡ get_or old k 0
  mid_in k le lt short = grind (arith, common_steps)

  pub mid_past : length base ≤ at → mid ≡ base
  mid_past past = grind (arith, common_steps)

  part_short : length (take n (drop at old)) ≤ n
  part_short = grind (arith, common_steps)

  pub mid_out : (k : ℕ) → k < length base → (k < at) ⊎ (at + n ≤ k) → get_or mid k 0 ≡ get_or base k 0
  mid_out k lt (inl below) = ⊎_elim
      (λ (le : at ≤ length base). overwritten_at at (take n (drop at old)) base k le lt (inl below))
      (λ (past : length base ≤ at). ap (λ (l : List ℕ). get_or l k 0) (mid_past past))
      (le_or at (length base))
    where
      le_or : (a b : ℕ) → (a ≤ b) ⊎ (b ≤ a)
      le_or a b = grind arith
  mid_out k lt (inr above) = overwritten_at at (take n (drop at old)) base k (omega arith) lt (inr (omega (arith, part_short)))

  pub torn_mid : (new : List ℕ) → base ≡ take (length base) new → length base ≤ length new → (at + n ≤ length base → length new ≡ length base) → Torn at n mid new
  torn_mid new front le whole = record {
    no_shorter = omega (arith, length_mid);
    before = λ within. front_same within;
    beyond = λ past. ap (λ (m : ℕ). take m new) length_mid ∙ sym front ∙ sym (mid_past (omega (arith, past, length_mid)));
    after = λ within. back_same within;
    no_longer = λ within. whole (omega (arith, length_mid)) ∙ sym length_mid;
  }
    where
      front_same : at ≤ length mid → take at new ≡ take at mid
      front_same within = grind (arith, common_steps, length_mid)

      get_or-drop : (m : ℕ) (l : List ℕ) (i : ℕ) → get_or (drop m l) i 0 ≡ get_or l (m + i) 0
      get_or-drop m l i = grind (arith, common_steps)

      in_base : (i : ℕ) → i < length (drop (at + n) mid) → at + n + i < length base
      in_base i lt = grind (arith, common_steps, length_mid)

      drop_mid : at + n ≤ length base → drop (at + n) mid ≡ drop (at + n) base
      drop_mid fits = ext_get_or 0 _ _ (grind (arith, common_steps, length_mid)) (λ i lt. get_or-drop (at + n) mid i ∙ mid_out (at + n + i) (in_base i lt) (inr (omega arith)) ∙ sym (get_or-drop (at + n) base i))

      back_same : at + n ≤ length mid → drop (at + n) new ≡ drop (at + n) mid
      back_same within =
          let fits : at + n ≤ length base = omega (arith, length_mid) in
          let all : base ≡ new = front ∙ take_all (length base) new (omega (arith, whole fits)) in
          ap (λ (l : List ℕ). drop (at + n) l) (sym all) ∙ sym (drop_mid fits)
