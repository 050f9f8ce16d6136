-- What leads from what reads back to the folder of the last sync.
use Rattle.std.proofs.Common.{◌≡◌, ◌≢◌, ◌⊎◌, inl, inr, ⊎_elim, cond, true, false, ℕ, ◌≤◌, List, [], ◌∷◌, ◌++◌, length, take, drop, Option, Some, option_map, Vec, refl, sym, ◌∙◌, ap, subst, arith}
use Rattle.std.specs.declared.alloc.Global.{Global}
use Rattle.gs_disk.specs.Folder.{Folder, KeepsOthers, overwritten}
use Rattle.std.specs.Prelude.{filter}
use Rattle.gs_disk.specs.Images.{Range}
use Rattle.gs_disk.specs.Mem.{Puts, names_of, ranges_of, touched_name, is_other}
use Rattle.gs_disk.specs.Steps.{Undone, LeadBack}
use Rattle.gs_disk.specs.declared.now.Touch.{Touch}
use Rattle.gs_disk.specs.declared.now.Touch.TheVariants.{Renamed, Written}
use Rattle.gs_disk.proofs.Images.{one_or_other, at_name, at_here, at_other, is_beside, is_one}
use Rattle.gs_disk.proofs.Bytes.{unwritten_all, unwritten_none, length_part, longer_overwritten}

-- one call more
pub leads_push : (ts : List Touch) (t : Touch) (newer older synced : Folder) → LeadBack ts older synced → Undone t newer older → LeadBack (ts ++ t ∷ []) newer synced
leads_push [] t newer older synced leads undone = (newer, refl, subst (λ (f : Folder). Undone t newer f) (sym leads) undone)
leads_push (u ∷ ts) t newer older synced leads undone = (leads.0, leads_push ts t newer older leads.0 leads.1 undone, leads.2)

-- the last call, apart
pub leads_last : (ts : List Touch) (t : Touch) (newer synced : Folder) → LeadBack (ts ++ t ∷ []) newer synced → (older : Folder) × LeadBack ts older synced × Undone t newer older
leads_last [] t newer synced leads = (synced, refl, subst (λ (f : Folder). Undone t f synced) leads.1 leads.2)
leads_last (u ∷ ts) t newer synced leads = let rest = leads_last ts t newer leads.0 leads.1 in (rest.0, (leads.0, rest.1, leads.2), rest.2)

pub undone_renamed : (name : List ℕ) (before : Option (Vec ℕ Global)) (older newer : Folder) → option_map (λ v. v.items) before ≡ older name → KeepsOthers (name ∷ []) older newer → Undone (Renamed name before) newer older
undone_renamed name before older newer stood others = record { here = sym stood; others = λ x other. sym (others.each x (other, tt)) }

pub undone_written : (name : List ℕ) (at : ℕ) (bytes file : List ℕ) (before : Vec ℕ Global) (older newer : Folder) → older name ≡ Some file → at ≤ length file → before.items ≡ take (length bytes) (drop at file) → (newer ≡ older) ⊎ Puts name (Some (overwritten at bytes file)) older newer
    → Undone (Written name at (length bytes) before (length file)) newer older
undone_written name at bytes file before older newer stood room part (inl same) = (
  file,
  ap (λ (f : Folder). f name) same ∙ stood,
  length_part at (length bytes) before.items file room part,
  omega arith,
  record { here = stood ∙ ap (λ (l : List ℕ). Some l) (sym (unwritten_none at (length bytes) before.items file room part)); others = λ x other. ap (λ (f : Folder). f x) (sym same) },
)
undone_written name at bytes file before older newer stood room part (inr put) = (
  overwritten at bytes file,
  put.here,
  length_part at (length bytes) before.items file room part,
  longer_overwritten at bytes file room,
  record { here = stood ∙ ap (λ (l : List ℕ). Some l) (sym (unwritten_all at bytes before.items file room part)); others = λ x other. sym (put.others x other) },
)

-- what a change at one name makes is one folder
pub puts_one : (name : List ℕ) (file : Option (List ℕ)) (newer a b : Folder) → Puts name file newer a → Puts name file newer b → a ≡ b
puts_one name file newer a b one two = λ i x. same x i
  where
    same : (x : List ℕ) → a x ≡ b x
    same x = elim (one_or_other x name) [ inl here ↦ ap (λ (y : List ℕ). a y) here ∙ one.here ∙ sym two.here ∙ sym (ap (λ (y : List ℕ). b y) here) | inr other ↦ one.others x other ∙ sym (two.others x other) ]

-- a synced file that is put there

-- a change at another name goes the same way beside a file that is put there
puts_beside : (name n : List ℕ) (put file : Option (List ℕ)) (newer older : Folder) → name ≢ n → Puts n file newer older → Puts n file (at_name name put newer) (at_name name put older)
puts_beside name n put file newer older other p = record {
  here = at_other name put older n (λ same. other (sym same)) ∙ p.here;
  others = λ x apart. ⊎_elim
      (λ same. subst (λ (y : List ℕ). at_name name put older y ≡ at_name name put newer y) (sym same) (at_here name put older ∙ sym (at_here name put newer)))
      (λ beside. at_other name put older x beside ∙ p.others x apart ∙ sym (at_other name put newer x beside))
      (one_or_other x name);
}

undone_beside : (name : List ℕ) (put : Option (List ℕ)) (t : Touch) (newer older : Folder) → name ≢ touched_name t → Undone t newer older → Undone t (at_name name put newer) (at_name name put older)
undone_beside name put (Renamed n before) newer older other u = puts_beside name n put (option_map (λ v. v.items) before) newer older other u
undone_beside name put (Written n at len before end) newer older other u =
    (u.0, at_other name put newer n (λ same. other (sym same)) ∙ u.1, u.2, u.3, puts_beside name n put (Some (overwritten at before.items (take end u.0))) newer older other u.4)

puts_under : (name : List ℕ) (put file : Option (List ℕ)) (newer older : Folder) → Puts name file newer older → at_name name put older ≡ at_name name put newer
puts_under name put file newer older p = λ i x. same x i
  where
    same : (x : List ℕ) → at_name name put older x ≡ at_name name put newer x
    same x = ⊎_elim
        (λ here. subst (λ (y : List ℕ). at_name name put older y ≡ at_name name put newer y) (sym here) (at_here name put older ∙ sym (at_here name put newer)))
        (λ beside. at_other name put older x beside ∙ p.others x beside ∙ sym (at_other name put newer x beside))
        (one_or_other x name)

undone_under : (name : List ℕ) (put : Option (List ℕ)) (t : Touch) (newer older : Folder) → name ≡ touched_name t → Undone t newer older → at_name name put older ≡ at_name name put newer
undone_under name put (Renamed n before) newer older same u = puts_under name put (option_map (λ v. v.items) before) newer older (subst (λ (m : List ℕ). Puts m (option_map (λ v. v.items) before) newer older) (sym same) u)
undone_under name put (Written n at len before end) newer older same u = puts_under name put (Some (overwritten at before.items (take end u.0))) newer older (subst (λ (m : List ℕ). Puts m (Some (overwritten at before.items (take end u.0))) newer older) (sym same) u.4)

abbrev pub touches_without : List ℕ → List Touch → List Touch
touches_without name ts = filter (λ t. is_other name (touched_name t)) ts

pub leads_added : (name : List ℕ) (put : Option (List ℕ)) (ts : List Touch) (newest synced : Folder) → LeadBack ts newest synced → LeadBack (touches_without name ts) (at_name name put newest) (at_name name put synced)
leads_added name put [] newest synced leads = ap (λ (f : Folder). at_name name put f) leads
leads_added name put (t ∷ ts) newest synced leads =
    let rest = leads_added name put ts newest leads.0 leads.1 in
    elim (is_other name (touched_name t)) as (λ b. is_other name (touched_name t) ≡ b → LeadBack (cond b (t ∷ touches_without name ts) (touches_without name ts)) (at_name name put newest) (at_name name put synced)) [
      | true ↦ λ e. (at_name name put leads.0, rest, undone_beside name put t leads.0 synced (is_beside name (touched_name t) e) leads.2)
      | false ↦ λ e. subst (λ (f : Folder). LeadBack (touches_without name ts) (at_name name put newest) f) (sym (undone_under name put t leads.0 synced (is_one name (touched_name t) e) leads.2)) rest
    ] refl

pub put_is : (name : List ℕ) (file : Option (List ℕ)) (old new : Folder) → Puts name file old new → new ≡ at_name name file old
put_is name file old new p = puts_one name file old new (at_name name file old) p (record { here = at_here name file old; others = λ x other. at_other name file old x other })

pub names_without : (name : List ℕ) (ts : List Touch) → names_of (touches_without name ts) ≡ filter (is_other name) (names_of ts)
names_without name [] = refl
names_without name (Renamed n before ∷ ts) = elim (is_other name n) as (λ b. names_of (cond b (Renamed n before ∷ touches_without name ts) (touches_without name ts)) ≡ cond b (n ∷ filter (is_other name) (names_of ts)) (filter (is_other name) (names_of ts))) [
  | true ↦ ap (λ (l : List (List ℕ)). n ∷ l) (names_without name ts)
  | false ↦ names_without name ts
]
names_without name (Written n at len before end ∷ ts) = elim (is_other name n) as (λ b. names_of (cond b (Written n at len before end ∷ touches_without name ts) (touches_without name ts)) ≡ filter (is_other name) (names_of ts)) [
  | true ↦ names_without name ts
  | false ↦ names_without name ts
]

pub ranges_left : (name : List ℕ) (ts : List Touch) → ranges_of (touches_without name ts) ≡ filter (λ r. is_other name r.name) (ranges_of ts)
ranges_left name [] = refl
ranges_left name (Renamed n before ∷ ts) = elim (is_other name n) as (λ b. ranges_of (cond b (Renamed n before ∷ touches_without name ts) (touches_without name ts)) ≡ filter (λ r. is_other name r.name) (ranges_of ts)) [
  | true ↦ ranges_left name ts
  | false ↦ ranges_left name ts
]
ranges_left name (Written n at len before end ∷ ts) = elim (is_other name n) as (λ b. ranges_of (cond b (Written n at len before end ∷ touches_without name ts) (touches_without name ts)) ≡ cond b (record { name = n; at = at; len = len } ∷ filter (λ r. is_other name r.name) (ranges_of ts)) (filter (λ r. is_other name r.name) (ranges_of ts))) [
  | true ↦ ap (λ (l : List Range). record { name = n; at = at; len = len } ∷ l) (ranges_left name ts)
  | false ↦ ranges_left name ts
]
