-- The files of the finals' versions.
use Rattle.std.proofs.Common.{◌≡◌, ℕ, zero, suc, ◌+◌, ◌<◌, ◌≤◌, List, [], ◌∷◌, ◌++◌, length, get_or, take, Option, Some, Result, Ok, Err, refl, sym, ap, subst, ◌∙◌, arith}
use Rattle.std.specs.Prelude.{All, IfErr, option_map}
use Rattle.std.specs.Bool.{⊤}
use Rattle.std.proofs.lemmas.List.{take_all}
use Rattle.gs_types.specs.declared.note.Version.{Version}
use Rattle.gs_types.specs.declared.note.FinalNote.{FinalNote}
use Rattle.gs_disk.specs.Folder.{Folder, KeepsOthers}
use Rattle.gs_log.specs.Names.{log_name}
use Rattle.gs_store.specs.Apart.{log_not_version}
use Rattle.gs_store.specs.Names.{version_name, IsKept}
use Rattle.gs_store.specs.Versions.{Kept, len_of, IsStanding, AllStand, IsFirstLost, finals_kept}
use Rattle.gs_store.specs.Told.{IsOutside}
use Rattle.gs_store.specs.declared.err.StoreErr.{StoreErr}
use Rattle.gs_store.specs.declared.err.StoreErr.TheVariants as stores
use Rattle.gs_store.specs.declared.err.StoreErr.TheVariants.{LostVersion}
use Rattle.gs_store.proofs.Checking.{stand_more, refuses_files}
use Rattle.gs_back.specs.Finals.{finals_in, kept_of}
use Rattle.gs_history.specs.Setup.{Setup}
use Rattle.gs_tables.specs.Gate.{AreFinals}
use Rattle.gs_life.specs.Stands.{IsHeld}
use Rattle.gs_finish.specs.declared.halt.Halt.{Halt}
use Rattle.gs_finish.specs.declared.halt.Halt.TheVariants.{Disk, NoMemory, Lost}
use Rattle.gs_finish.specs.Finishing.{LacksFinal, IsNotLost}
use Rattle.gs_finish.specs.Halting.{Lacks, halt_of}
use Rattle.gs_engine.specs.Reading.{LacksLength}
use Rattle.gs_engine.specs.Sealing.{LacksKept}
use Rattle.gs_engine.proofs.Settling.{found_lacks}

-- ---- one after the other

abbrev kept_of_one : FinalNote → Kept
kept_of_one f = (f.version, f.len)

kept_at : (fs : List FinalNote) (i : ℕ) (f : FinalNote) → i < length fs → f ≡ get_or fs i f
    → (i < length (finals_kept fs)) × (kept_of_one f ≡ get_or (finals_kept fs) i (kept_of_one f))
kept_at [] i f lt is = absurd (omega (arith, lt))
kept_at (g ∷ fs) zero f lt is = (omega arith, ap kept_of_one is)
kept_at (g ∷ fs) (suc i) f lt is =
    let r = kept_at fs i f (omega (arith, lt)) is in (omega (arith, r.0), r.1)

kept_many : (fs : List FinalNote) → length (finals_kept fs) ≡ length fs
kept_many [] = refl
kept_many (f ∷ fs) = ap suc (kept_many fs)

-- one more stands
pub stand_next : (folder now : Folder) (fs : List FinalNote) (i : ℕ) (f : FinalNote)
    → i < length fs → f ≡ get_or fs i f → now ≡ folder → IsStanding now f.version f.len
    → AllStand folder (take i (finals_kept fs)) → AllStand folder (take (i + 1) (finals_kept fs))
stand_next folder now fs i f lt is same stands all =
    let at = kept_at fs i f lt is in
    stand_more folder now (finals_kept fs) i (kept_of_one f) at.0 at.1 same stands all

pub all_stand : (folder : Folder) (fs : List FinalNote) (i : ℕ) → length fs ≤ i
    → AllStand folder (take i (finals_kept fs)) → AllStand folder (finals_kept fs)
all_stand folder fs i le all =
    let many = kept_many fs in
    let enough : length (finals_kept fs) ≤ i = omega (arith, le, many) in
    subst (AllStand folder) (take_all i (finals_kept fs) enough) all

len_is : (n m : ℕ) → Some n ≡ Some m → n ≡ m
len_is n m e = cc

-- or the next is the first that doesn't
pub lacks_next : (folder now : Folder) (fs : List FinalNote) (i : ℕ) (f : FinalNote) (e : Halt)
    → i < length fs → f ≡ get_or fs i f → now ≡ folder → Lacks now f.version (Some f.len) e
    → AllStand folder (take i (finals_kept fs)) → LacksKept folder (finals_kept fs) e
lacks_next folder now fs i f Disk lt is same lacks all = tt
lacks_next folder now fs i f NoMemory lt is same lacks all = tt
lacks_next folder now fs i f (Lost v len found) lt is same lacks all =
    let at = kept_at fs i f lt is in
    refuses_files folder now (finals_kept fs) i (kept_of_one f) (LostVersion v len found) at.0 at.1
    same
    (lacks.0, sym (len_is f.len len lacks.1), lacks.2, λ same. lacks.3 (same ∙ lacks.1)) all

-- ---- what stands isn't lost

stand_at : (folder : Folder) (before behind : List Kept) (v : Version) (kept : ℕ)
    → AllStand folder (before ++ (v, kept) ∷ behind) → len_of folder v ≡ Some kept
stand_at folder [] behind v kept all = all.0
stand_at folder (k ∷ before) behind v kept all = stand_at folder before behind v kept all.1

not_first : (folder : Folder) (ks : List Kept) (v : Version) (kept : ℕ) (found : Option ℕ)
    → AllStand folder ks → IsFirstLost folder ks v kept found → ⊥
not_first folder ks v kept found all first =
    first.lost (first.is
    ∙ stand_at folder first.before first.behind v kept (subst (AllStand folder) first.parts all))

pub never_lacks : (folder : Folder) (ks : List Kept) (e : Halt) → AllStand folder ks
    → LacksKept folder ks e → IsNotLost e
never_lacks folder ks Disk all lacks = tt
never_lacks folder ks NoMemory all lacks = tt
never_lacks folder ks (Lost v kept found) all lacks =
    absurd (not_first folder ks v kept found all lacks)

-- ---- the file of a version that is lost lacks its length

pub lacks_length : (folder now : Folder) (ks : List Kept) (e : Halt) → now ≡ folder
    → LacksKept folder ks e → LacksLength now e
lacks_length folder now ks Disk same lacks = tt
lacks_length folder now ks NoMemory same lacks = tt
lacks_length folder now ks (Lost v kept found) same lacks =
    (lacks.is ∙ ap (λ (f : Folder). len_of f v) (sym same), lacks.lost)

pub none_lost_lacks : {T : Type 0} (folder : Folder) (r : Result T Halt) → IfErr r IsNotLost
    → IfErr r (LacksLength folder)
none_lost_lacks folder (Ok x) not = tt
none_lost_lacks folder (Err e) not = found_lacks folder e not

-- ---- of finals

finals_same : (names : List (List ℕ)) (fs : List FinalNote)
    → kept_of (finals_in names fs) ≡ finals_kept fs
finals_same names [] = refl
finals_same names (f ∷ fs) =
    ap (λ (l : List Kept). (f.version, f.len) ∷ l) (finals_same names fs)

pub never_lacks_final : {T : Type 0} (folder : Folder) (names : List (List ℕ))
    (fs : List FinalNote) (r : Result T Halt) → AllStand folder (finals_kept fs)
    → IfErr r (LacksFinal folder (finals_in names fs)) → IfErr r IsNotLost
never_lacks_final folder names fs (Ok x) all lacks = tt
never_lacks_final folder names fs (Err Disk) all lacks = tt
never_lacks_final folder names fs (Err NoMemory) all lacks = tt
never_lacks_final folder names fs (Err (Lost v kept found)) all lacks =
    absurd (not_first folder (kept_of (finals_in names fs)) v kept found
    (subst (AllStand folder) (sym (finals_same names fs)) all) lacks)

-- an error of the disk, or want of memory
pub outside_not_lost : (e : StoreErr) (h : Halt) → h ≡ halt_of e → IsOutside e → IsNotLost h
outside_not_lost e h is outside = subst IsNotLost (sym is) (by_error e outside)
  where
    by_error : (e : StoreErr) → IsOutside e → IsNotLost (halt_of e)
    by_error (stores.BadLog at) outside = tt
    by_error (stores.BadRecord index) outside = tt
    by_error (LostVersion v kept found) outside = absurd outside
    by_error stores.DiskFault outside = tt
    by_error stores.NoMemory outside = tt

-- ---- they stand where the log was written

-- each final's version is one that is kept
abbrev pub AreKept : List FinalNote → Type 0
AreKept [] = ⊤
AreKept (f ∷ fs) = IsKept f.version × AreKept fs

pub stand_logged : (f g : Folder) (fs : List FinalNote) → AreKept fs
    → KeepsOthers (log_name ∷ []) f g → AllStand f (finals_kept fs) → AllStand g (finals_kept fs)
stand_logged f g [] kept others all = tt
stand_logged f g (x ∷ fs) kept others all = (
  ap (option_map length) (others.each (version_name x.version)
      (λ same. log_not_version x.version kept.0 (sym same), tt))
      ∙ all.0,
  stand_logged f g fs kept.1 others all.1,
)

-- ---- what is held has its length

later_held : (s : Setup) (k : ℕ) (f : Folder) (g : FinalNote) (fs : List FinalNote)
    → All (IsHeld s k f) (g ∷ fs) → All (IsHeld s k f) fs
later_held s k f g fs held j d lt = held (suc j) d (omega (arith, lt))

first_held : (s : Setup) (k : ℕ) (f : Folder) (g : FinalNote) (fs : List FinalNote)
    → All (IsHeld s k f) (g ∷ fs) → IsHeld s k f g
first_held s k f g fs held = held 0 g (omega arith)

pub held_stand : (s : Setup) (k : ℕ) (names xs : List (List ℕ)) (fs : List FinalNote) (f : Folder)
    → AreFinals s k names xs fs → All (IsHeld s k f) fs → AllStand f (finals_kept fs)
held_stand s k names [] [] f are held = tt
held_stand s k names [] (g ∷ fs) f are held = absurd are
held_stand s k names (x ∷ xs) [] f are held = absurd are
held_stand s k names (x ∷ xs) (g ∷ fs) f are held = (
  ap (option_map length) (first_held s k f g fs held are.0.bytes are.0.content)
      ∙ ap Some (sym are.0.len),
  held_stand s k names xs fs f are.1 (later_held s k f g fs held),
)
