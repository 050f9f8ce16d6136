-- The version files that entries name, with their lengths.
use Rattle.std.specs.Prelude.{◌≡◌, ◌≢◌, ◌⊎◌, ℕ, List, [], ◌∷◌, ◌++◌, length, Option, Some, option_map}
use Rattle.std.proofs.Common.{inl, inr, ⊎_elim}
use Rattle.gs_types.specs.declared.note.Version.{Version}
use Rattle.gs_types.specs.declared.note.Version.TheVariants.{Out}
use Rattle.gs_types.specs.declared.note.Note.{Note}
use Rattle.gs_types.specs.declared.note.Note.TheVariants.{File, Int, Str}
use Rattle.gs_types.specs.declared.note.OutNote.{OutNote}
use Rattle.gs_types.specs.declared.note.FinalNote.{FinalNote}
use Rattle.gs_disk.specs.Folder.{Folder}
use Rattle.gs_entries.specs.declared.entry.Entry.{Entry}
use Rattle.gs_entries.specs.declared.entry.Entry.TheVariants as made
use Rattle.gs_store.specs.Names.{version_name}

-- a version, and the length of its file
abbrev pub Kept : Type 0
Kept = Version × ℕ

abbrev pub kept_at : ℕ → ℕ → Note → List Kept → List Kept
kept_at n k (File len) more = (Out n k, len) ∷ more
kept_at n k (Int v) more = more
kept_at n k (Str s) more = more

-- the files among a task's outputs, in order of places
abbrev pub outs_kept : ℕ → List OutNote → List Kept
outs_kept n [] = []
outs_kept n (o ∷ os) = kept_at n o.place o.v (outs_kept n os)

abbrev pub finals_kept : List FinalNote → List Kept
finals_kept [] = []
finals_kept (f ∷ fs) = (f.version, f.len) ∷ finals_kept fs

abbrev pub kept_by : Entry → List Kept
kept_by (made.Header t) = []
kept_by (made.Done n op os) = outs_kept n os
kept_by (made.Gate g) = finals_kept g.finals
kept_by made.Closed = []

-- the versions that entries name, in the order of the entries
abbrev pub kept_in : List Entry → List Kept
kept_in [] = []
kept_in (e ∷ es) = kept_by e ++ kept_in es

abbrev pub Among : Version → List Kept → Type 0
Among v [] = ⊥
Among v (k ∷ ks) = (v ≡ k.0) ⊎ Among v ks

-- an entry names this version
abbrev pub Names : Version → Entry → Type 0
Names v e = Among v (kept_by e)

abbrev pub Named : Version → List Entry → Type 0
Named v [] = ⊥
Named v (e ∷ es) = Names v e ⊎ Named v es

pub named_push : (v : Version) (es : List Entry) (e : Entry) → Named v (es ++ e ∷ [])
    → Named v es ⊎ Names v e
named_push v [] e named = ⊎_elim inr absurd named
named_push v (f ∷ es) e named =
    ⊎_elim (λ h. inl (inl h)) (λ h. ⊎_elim (λ k. inl (inr k)) inr (named_push v es e h))
    named

-- the length of a version's file, where it is present
abbrev pub len_of : Folder → Version → Option ℕ
len_of folder v = option_map length (folder (version_name v))

-- the file is present with this length
abbrev pub IsStanding : Folder → Version → ℕ → Type 0
IsStanding folder v len = len_of folder v ≡ Some len

-- each of these files is present with its length
abbrev pub AllStand : Folder → List Kept → Type 0
AllStand folder [] = Unit {0}
AllStand folder (k ∷ ks) = IsStanding folder k.0 k.1 × AllStand folder ks

-- the first of these files that is absent or has another length than this one that was kept
pub record IsFirstLost (folder : Folder) (ks : List Kept) (v : Version) (kept : ℕ)
    (found : Option ℕ) : Type 0 where
  pub before : List Kept
  pub behind : List Kept
  pub parts : ks ≡ before ++ (v, kept) ∷ behind
  pub fine : AllStand folder before
  pub is : found ≡ len_of folder v
  pub lost : found ≢ Some kept
