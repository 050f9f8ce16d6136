-- What a run's steps do to the user's files: nothing, at every moment.
use Rattle.std.proofs.Common.{◌≡◌, ℕ, List, [], ◌∷◌, Result, subst, sym, ⊎_elim}
use Rattle.gs_disk.specs.Folder.{Folder, DiskState, Same}
use Rattle.gs_disk.specs.Going.{always_started, always_same, always_then, always_wider}
use Rattle.gs_disk.specs.Moments.{EachNow, Passes, Always}
use Rattle.gs_types.specs.declared.note.Version.{Version}
use Rattle.gs_entries.specs.declared.entry.Entry.{Entry}
use Rattle.gs_entries.specs.declared.entry.Entry.TheVariants as made
use Rattle.gs_entries.specs.declared.entry.Texts.{Texts}
use Rattle.gs_store.specs.Keeps.{Base, Keeps, KeepsEither}
use Rattle.gs_store.specs.Spans.{Agreed, Adds}
use Rattle.gs_store.specs.State.{StoreState, IsDiskOf}
use Rattle.gs_store.specs.Told.{PutsVersion}
use Rattle.gs_store.specs.declared.err.StoreErr.{StoreErr}
use Rattle.gs_keep.specs.Given.{PlacedFile}
use Rattle.gs_keep.specs.Kept.{KeepsOrDone, KeepsOutputs}
use Rattle.gs_engine.specs.Users.{HasUsers, UsersStay}

-- ---- steps

pub stay_same : (a b : DiskState) → Passes Same a b → UsersStay a b
stay_same a b passes users each =
    always_same (HasUsers users) a a b (always_started (HasUsers users) a each) passes

pub stay_here : (a : DiskState) → UsersStay a a
stay_here a users each = always_started (HasUsers users) a each

pub stay_then : (a b c : DiskState) → UsersStay a b → UsersStay b c → UsersStay a c
stay_then a b c one two users each =
    let first = one users each in
    always_then (HasUsers users) a b c first (two users first.now)

-- ---- calls of the store

-- what the images agree on, with these users' files
abbrev base_with : Folder → Base → Base
base_with users base = record { free = []; users = users; outs = base.outs }

keeps_with : (users : Folder) (es : List Entry) (s : DiskState) → (agreed : Agreed es s)
    → EachNow (HasUsers users) s → EachNow (Keeps (base_with users agreed.0) es) s
keeps_with users es s agreed each image left =
    let k = agreed.1 image left in
    record {
      entries = k.entries;
      user_files = λ x user out. each image left x user;
      versions = k.versions;
    }

users_of : (users : Folder) (base : Base) (es : List Entry) (image : Folder)
    → Keeps (base_with users base) es image → HasUsers users image
users_of users base es image k x user = k.user_files x user tt

pub stay_puts : {T : Type 0} (store : StoreState) (v : Version) (bytes : List ℕ)
    (a b : DiskState) (r : Result T StoreErr) → IsDiskOf store a → PutsVersion store v bytes a b r
    → UsersStay a b
stay_puts store v bytes a b r disk puts users each =
    let base = disk.agreed.0 in
    always_wider (Keeps (base_with users base) store.entries) (HasUsers users) a b
    (puts.any_moment (base_with users base) (keeps_with users store.entries a disk.agreed each))
    (λ image k. users_of users base store.entries image k)

pub stay_keeps : {T : Type 0} (store : StoreState) (e : Entry) (n : ℕ) (files : List PlacedFile)
    (a b : DiskState) (r : Result T StoreErr) → IsDiskOf store a
    → KeepsOutputs store e n files a b r → UsersStay a b
stay_keeps store e n files a b r disk keeps users each =
    let base = disk.agreed.0 in
    always_wider (KeepsOrDone store.entries e n files (base_with users base)) (HasUsers users) a b
    (keeps.any_moment (base_with users base) (keeps_with users store.entries a disk.agreed each))
    (λ image k. ⊎_elim (λ kept. users_of users base store.entries image kept)
    (λ done x user. done.kept.user_files x user tt) k)

-- the first entry names no version
pub stay_adds : (t : Texts) (a b : DiskState) → Agreed [] a → Adds [] (made.Header t) a b
    → UsersStay a b
stay_adds t a b agreed adds users each =
    let base = agreed.0 in
    always_wider (KeepsEither (base_with users base) [] (made.Header t)) (HasUsers users) a b
    (adds (base_with users base) (keeps_with users [] a agreed each) (λ v kept names. absurd names))
    (λ image k. ⊎_elim (λ kept. users_of users base [] image kept)
    (λ more x user. more.user_files x user tt) k)
