-- Filling what was written since the last sync.
use Rattle.std.proofs.Math.Seq.{take-suc}
use Rattle.std.proofs.Common.{◌≡◌, ◌≢◌, ◌⊎◌, inl, inr, ⊎_elim, ℕ, ◌+◌, ◌<◌, ◌≤◌, List, [], ◌∷◌, ◌++◌, length, take, get_or, add-one, Option, Some, None, refl, sym, ◌∙◌, ap, subst, arith}
use Rattle.gs_disk.specs.Folder.{Folder, Outside, overwritten}
use Rattle.gs_disk.specs.Images.{Range, Unsynced, Unwritten, MayRead, MayStand, IsLeft, IsImage}
use Rattle.gs_disk.specs.Crash.{IsFilled, FillsFile, HasByte, FillsRange, IsKept}
use Rattle.gs_disk.specs.Mem.{Puts, names_of, ranges_of, unsynced_of, reads}
use Rattle.gs_disk.specs.Steps.{Undone, LeadBack, TellsAll, IsSound, LeavesBy}
use Rattle.gs_disk.specs.declared.crash.Keep.{Keep}
use Rattle.gs_disk.specs.declared.crash.Keep.TheVariants.{Nothing, All, Byte}
use Rattle.gs_disk.specs.declared.now.Now.{Now}
use Rattle.gs_disk.specs.declared.now.Touch.{Touch}
use Rattle.gs_disk.specs.declared.now.Touch.TheVariants.{Renamed, Written}
use Rattle.gs_disk.proofs.Bytes.{three_ways}
use Rattle.gs_disk.proofs.Images.{one_or_other, may_stand_same}
use Rattle.gs_disk.proofs.Undoing.{puts_one}
use Rattle.gs_disk.proofs.Kept.{names_push, ranges_push}

-- the byte was written or not
unwritten_or : (rs : List Range) (x : List ℕ) (k : ℕ) → Unwritten rs x k ⊎ (Unwritten rs x k → ⊥)
unwritten_or [] x k = inl tt
unwritten_or (r ∷ rs) x k = ⊎_elim
    (λ here. ⊎_elim (λ rest. inl (here, rest)) (λ past. inr (λ un. past un.1)) (unwritten_or rs x k))
    (λ past. inr (λ un. past un.0))
    (beside_or r x k)
  where
    beside_or : (r : Range) (x : List ℕ) (k : ℕ) → (r.name ≡ x → r.at ≤ k → k < r.at + r.len → ⊥) ⊎ ((r.name ≡ x → r.at ≤ k → k < r.at + r.len → ⊥) → ⊥)
    beside_or r x k = ⊎_elim
        (λ same. elim (three_ways k r.at (r.at + r.len)) [
          | inl below ↦ inl (λ e from lt. absurd (omega arith))
          | inr (inl within) ↦ inr (λ beside. beside same within.0 within.1)
          | inr (inr above) ↦ inl (λ e from lt. absurd (omega arith))
        ])
        (λ other. inl (λ e from lt. other e))
        (one_or_other r.name x)

unwritten_join : (rs ss : List Range) (x : List ℕ) (k : ℕ) → Unwritten rs x k → Unwritten ss x k → Unwritten (rs ++ ss) x k
unwritten_join [] ss x k one two = two
unwritten_join (r ∷ rs) ss x k one two = (one.0, unwritten_join rs ss x k one.1 two)

unwritten_part : (rs ss : List Range) (x : List ℕ) (k : ℕ) → Unwritten (rs ++ ss) x k → Unwritten rs x k × Unwritten ss x k
unwritten_part [] ss x k un = (tt, un)
unwritten_part (r ∷ rs) ss x k un = let rest = unwritten_part rs ss x k un.1 in ((un.0, rest.0), rest.1)

is_filled_then : (rs ss : List Range) (x : List ℕ) (b : ℕ) (f g h : List ℕ) → IsFilled rs x b f g → IsFilled ss x b g h → IsFilled (rs ++ ss) x b f h
is_filled_then rs ss x b f g h one two = record {
  long = two.long ∙ one.long;
  kept = λ k lt un. let both = unwritten_part rs ss x k un in two.kept k (omega (arith, one.long)) both.1 ∙ one.kept k lt both.0;
  filled = λ k lt past. ⊎_elim
      (λ un. two.kept k (omega (arith, one.long)) un ∙ one.filled k lt (λ first. past (unwritten_join rs ss x k first un)))
      (λ over. two.filled k (omega (arith, one.long)) over)
      (unwritten_or ss x k);
}

pub filled_then : (rs ss : List Range) (x : List ℕ) (b : ℕ) (f g h : Option (List ℕ)) → FillsFile rs x b f g → FillsFile ss x b g h → FillsFile (rs ++ ss) x b f h
filled_then rs ss x b None g h one two = subst (λ (o : Option (List ℕ)). FillsFile ss x b o h) one two
filled_then rs ss x b (Some bytes) g h one two =
    let next = subst (λ (o : Option (List ℕ)). FillsFile ss x b o h) one.1 two in
    (next.0, next.1, is_filled_then rs ss x b bytes one.0 next.0 one.2 next.2)

pub filled_none : (x : List ℕ) (b : ℕ) (f : Option (List ℕ)) → FillsFile [] x b f f
filled_none x b None = refl
filled_none x b (Some bytes) = (bytes, refl, record { long = refl; kept = λ k lt un. refl; filled = λ k lt past. absurd (past tt) })

filled_here : (name : List ℕ) (at len b : ℕ) (f g : Option (List ℕ)) → FillsRange at len b f g → FillsFile (record { name = name; at = at; len = len } ∷ []) name b f g
filled_here name at len b None g fill = fill
filled_here name at len b (Some bytes) g fill = (
  fill.0,
  fill.1,
  record {
    long = fill.2.long;
    kept = λ k lt un. elim (three_ways k at (at + len)) [
      | inl below ↦ fill.2.kept k lt (inl below)
      | inr (inl within) ↦ absurd (un.0 refl within.0 within.1)
      | inr (inr above) ↦ fill.2.kept k lt (inr above)
    ];
    filled = λ k lt past. elim (three_ways k at (at + len)) [
      | inl below ↦ absurd (past (λ e from to. absurd (omega arith), tt))
      | inr (inl within) ↦ fill.2.filled k lt within.0 within.1
      | inr (inr above) ↦ absurd (past (λ e from to. absurd (omega arith), tt))
    ];
  },
)

filled_other : (r : Range) (x : List ℕ) (b : ℕ) (f : Option (List ℕ)) → r.name ≢ x → FillsFile (r ∷ []) x b f f
filled_other r x b None other = refl
filled_other r x b (Some bytes) other = (bytes, refl, record { long = refl; kept = λ k lt un. refl; filled = λ k lt past. absurd (past (λ e from to. other e, tt)) })

pub filled_range : (name : List ℕ) (at len b : ℕ) (old new : Folder) → ((x : List ℕ) → x ≢ name → new x ≡ old x) → FillsRange at len b (old name) (new name)
    → (x : List ℕ) → FillsFile (record { name = name; at = at; len = len } ∷ []) x b (old x) (new x)
filled_range name at len b old new others here x = ⊎_elim
    (λ same. subst (λ (y : List ℕ). FillsFile (record { name = name; at = at; len = len } ∷ []) y b (old y) (new y)) (sym same) (filled_here name at len b (old name) (new name) here))
    (λ other. subst (λ (o : Option (List ℕ)). FillsFile (record { name = name; at = at; len = len } ∷ []) x b (old x) o) (sym (others x other)) (filled_other (record { name = name; at = at; len = len }) x b (old x) (λ same. other (sym same))))
    (one_or_other x name)

-- what is filled may be left
filled_read : (rs : List Range) (x : List ℕ) (b : ℕ) (old file left : List ℕ) → MayRead rs x old file → IsFilled rs x b file left → MayRead rs x old left
filled_read rs x b old file left m fill = record {
  no_shorter = omega (arith, m.no_shorter, fill.long);
  no_longer = λ by. fill.long ∙ m.no_longer by;
  kept = λ k lt un. fill.kept k (omega (arith, m.no_shorter)) un ∙ m.kept k lt un;
}

filled_stand : (rs : List Range) (x : List ℕ) (b : ℕ) (old file left : Option (List ℕ)) → MayStand rs x old file → FillsFile rs x b file left → MayStand rs x old left
filled_stand rs x b None file left m fill = subst (λ (o : Option (List ℕ)). FillsFile rs x b o left) m fill
filled_stand rs x b (Some bytes) file left m fill =
    let filled = subst (λ (o : Option (List ℕ)). FillsFile rs x b o left) m.1 fill in
    (filled.0, filled.1, filled_read rs x b bytes m.0 filled.0 m.2 filled.2)

pub byte_left : (b : ℕ) (u : Unsynced) (reads left : Folder) → IsLeft u reads → HasByte b u reads left → IsLeft u left
byte_left b u reads left stands has = record { each = λ x out. filled_stand u.written x b (u.synced x) (reads x) (left x) (stands.each x out) (has.others x out) }

-- a call undone makes one folder
some_one : (a b : List ℕ) → Some a ≡ Some b → a ≡ b
some_one a b e = cc

pub undone_one : (t : Touch) (newer a b : Folder) → Undone t newer a → Undone t newer b → a ≡ b
undone_one (Renamed name before) newer a b one two = puts_one name _ newer a b one two
undone_one (Written name at len before end) newer a b one two =
    let same : two.0 ≡ one.0 = some_one two.0 one.0 (sym two.1 ∙ one.1) in
    puts_one name _ newer a b one.4 (subst (λ (f : List ℕ). Puts name (Some (overwritten at before.items (take end f))) newer b) same two.4)

-- names with one touch more
pub named_then : (ns ms : List (List ℕ)) (x : List ℕ) → Outside (ns ++ ms) x → Outside ns x × Outside ms x
named_then [] ms x out = (tt, out)
named_then (n ∷ ns) ms x out = let rest = named_then ns ms x out.1 in ((out.0, rest.0), rest.1)

pub named_join : (ns ms : List (List ℕ)) (x : List ℕ) → Outside ns x → Outside ms x → Outside (ns ++ ms) x
named_join [] ms x one two = two
named_join (n ∷ ns) ms x one two = (one.0, named_join ns ms x one.1 two)

pub take_more : {A : Type 0} → (ts : List A) (i : ℕ) (t : A) → i < length ts → t ≡ get_or ts i t → take (i + 1) ts ≡ take i ts ++ t ∷ []
take_more ts i t lt is = ap (λ (n : ℕ). take n ts) (add-one i) ∙ take-suc ts i t lt ∙ ap (λ x. take i ts ++ x ∷ []) (sym is)

pub filled_more : (ts : List Touch) (i : ℕ) (t : Touch) (x : List ℕ) (b : ℕ) (f g h : Option (List ℕ)) → i < length ts → t ≡ get_or ts i t → FillsFile (ranges_of (take i ts)) x b f g → FillsFile (ranges_of (t ∷ [])) x b g h → FillsFile (ranges_of (take (i + 1) ts)) x b f h
filled_more ts i t x b f g h lt is one two = subst (λ (us : List Touch). FillsFile (ranges_of us) x b f h) (sym (take_more ts i t lt is))
    (subst (λ (rs : List Range). FillsFile rs x b f h) (sym (ranges_push (take i ts) t)) (filled_then (ranges_of (take i ts)) (ranges_of (t ∷ [])) x b f g h one two))

pub outside_more : (ts : List Touch) (i : ℕ) (t : Touch) (x : List ℕ) → i < length ts → t ≡ get_or ts i t → Outside (names_of (take (i + 1) ts)) x → Outside (names_of (take i ts)) x × Outside (names_of (t ∷ [])) x
outside_more ts i t x lt is out = named_then (names_of (take i ts)) (names_of (t ∷ [])) x (subst (λ (ns : List (List ℕ)). Outside ns x) (names_push (take i ts) t) (subst (λ (us : List Touch). Outside (names_of us) x) (take_more ts i t lt is) out))

pub outside_joined : (ts : List Touch) (i : ℕ) (t : Touch) (x : List ℕ) → i < length ts → t ≡ get_or ts i t → Outside (names_of (take i ts)) x → Outside (names_of (t ∷ [])) x → Outside (names_of (take (i + 1) ts)) x
outside_joined ts i t x lt is one two = subst (λ (us : List Touch). Outside (names_of us) x) (sym (take_more ts i t lt is)) (subst (λ (ns : List (List ℕ)). Outside ns x) (sym (names_push (take i ts) t)) (named_join (names_of (take i ts)) (names_of (t ∷ [])) x one two))

pub leads_one : (ts : List Touch) (newest a b : Folder) → LeadBack ts newest a → LeadBack ts newest b → a ≡ b
leads_one [] newest a b one two = one ∙ sym two
leads_one (t ∷ ts) newest a b one two =
    let same = leads_one ts newest one.0 two.0 one.1 two.1 in
    undone_one t two.0 a b (subst (λ (f : Folder). Undone t f a) same one.2) two.2

-- what `crash` keeps, and that it is an image
pub kept_by : (keep : Keep) (now : Now) (left : Folder) → TellsAll now → LeavesBy keep now.touched.items (reads now) left → IsKept keep (unsynced_of now) (reads now) left
kept_by Nothing now left told by = leads_one now.touched.items (reads now) left (unsynced_of now).synced by told.leads
kept_by All now left told by = by
kept_by (Byte b) now left told by = record {
  renamed = λ x within. by.renamed x (subst (λ (ns : List (List ℕ)). Outside ns x → ⊥) (sym told.names) within);
  others = λ x out. subst (λ (rs : List Range). FillsFile rs x b (reads now x) (left x)) told.ranges (by.others x (subst (λ (ns : List (List ℕ)). Outside ns x) (sym told.names) out));
}

pub image_by : (keep : Keep) (now : Now) (left : Folder) → IsSound now → IsKept keep (unsynced_of now) (reads now) left → IsImage (unsynced_of now) (reads now) left
image_by Nothing now left sound kept = inr (subst (IsLeft (unsynced_of now)) (sym kept) (record { each = λ x out. may_stand_same (unsynced_of now).written x ((unsynced_of now).synced x) }))
image_by All now left sound kept = inl kept
image_by (Byte b) now left sound kept = inr (byte_left b (unsynced_of now) (reads now) left sound.stands kept)
