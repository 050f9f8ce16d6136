-- An entry is added.
use Rattle.std.proofs.Common.{◌≡◌, ℕ, true, List, [], ◌∷◌, ◌++◌, Option, Some, Result, Ok, Err, sym, ap, subst, ◌∙◌}
use Rattle.std.specs.Prelude.{is_some, OnOk}
use Rattle.gs_disk.specs.Folder.{Folder, DiskState}
use Rattle.gs_disk.specs.Moments.{Leaves, LeavesOnly, EachNow}
use Rattle.gs_log.specs.Names.{mark_name}
use Rattle.gs_log.specs.Holding.{Holds}
use Rattle.gs_entries.specs.Entries.{entry, Spells}
use Rattle.gs_entries.specs.declared.entry.Entry.{Entry}
use Rattle.gs_store.specs.declared.err.StoreErr.{StoreErr}
use Rattle.gs_store.specs.Keeps.{spelled, spelled_push}
use Rattle.gs_store.specs.Spans.{Added, agreed_holds, appended, appended_after, added_agreed}
use Rattle.gs_store.specs.State.{StoreState, IsLogOf, IsDiskOf, with_entry}
use Rattle.gs_store.specs.Told.{AddsEntry, Appends}

-- the disk of the store with the entry
added_disk : {T E : Type 0} (r : Result T E) (store : StoreState) (e : Entry) (a b : DiskState)
    → Leaves a a.folder → IsDiskOf store a → OnOk r (Added store.entries e a b)
    → OnOk r (LeavesOnly b.folder b)
    → OnOk r (Holds (spelled store.entries ++ entry.spell e ∷ []) b.folder)
    → OnOk r (IsDiskOf (with_entry store e) b)
added_disk (Ok x) store e a b reads disk added only held = record {
  agreed = added_agreed store.entries e a b reads disk.agreed added;
  mark = λ image left. ap (λ (f : Folder). is_some (f mark_name)) (only image left)
      ∙ held.marked;
}
added_disk (Err x) store e a b reads disk added only held = tt

adds_spelled : (r : Result (Unit {0}) StoreErr) (store : StoreState) (e : Entry) (a b : DiskState)
    → Leaves a a.folder → IsDiskOf store a
    → Appends (spelled store.entries) (entry.spell e) a b r → AddsEntry store e a b r
adds_spelled r store e a b reads disk h =
    let after = appended_after r store.entries e a b reads h.others h.held h.only in
    record {
      any_moment = appended store.entries e a b reads h.any_moment h.images;
      after = after;
      only = h.only;
      others = h.others;
      disk = added_disk r store e a b reads disk after h.only h.held;
    }

pub adds : (r : Result (Unit {0}) StoreErr) (store : StoreState) (e : Entry)
    (list : List (List ℕ)) (payload : List ℕ) (a b : DiskState) → Leaves a a.folder
    → IsDiskOf store a → list ≡ spelled store.entries → payload ≡ entry.spell e
    → Appends list payload a b r → AddsEntry store e a b r
adds r store e list payload a b reads disk ls ps h =
    adds_spelled r store e a b reads disk
    (subst (λ (l : List (List ℕ)). Appends l (entry.spell e) a b r) ls
    (subst (λ (p : List ℕ). Appends list p a b r) ps h))

pub adds_failed : (r : Result (Unit {0}) StoreErr) (failure : StoreErr) (store : StoreState)
    (e : Entry) (a b : DiskState) → AddsEntry store e a b r
    → AddsEntry {T = Unit {0}} store e a b (Err failure)
adds_failed r failure store e a b h = record {
  any_moment = h.any_moment;
  after = tt;
  only = tt;
  others = h.others;
  disk = tt;
}

pub adds_done : (r : Result (Unit {0}) StoreErr) (x : Unit {0}) (store : StoreState) (e : Entry)
    (a b : DiskState) → r ≡ Ok x → AddsEntry store e a b r
    → AddsEntry {T = Unit {0}} store e a b (Ok tt)
adds_done r x store e a b is h =
    let k = subst (AddsEntry {T = Unit {0}} store e a b) is h in
    record {
      any_moment = k.any_moment;
      after = k.after;
      only = k.only;
      others = k.others;
      disk = k.disk;
    }

-- a log that stands is that of the entries
pub log_of_some : (o : Option (List (List ℕ))) (list : List (List ℕ)) (es : List Entry)
    → o ≡ Some list → IsLogOf o es → list ≡ spelled es
log_of_some o list es is of = subst (λ (p : Option (List (List ℕ))). IsLogOf p es) is of

pub log_pushed : (list more : List (List ℕ)) (payload : List ℕ) (es fs : List Entry) (e : Entry)
    → list ≡ spelled es → Spells e payload → more ≡ list ++ payload ∷ [] → fs ≡ es
    ++ e ∷ []
    → more ≡ spelled fs
log_pushed list more payload es fs e ls ps ms fs_is =
    let p = spelled_push es e in let q = ps.is in let r = ap spelled fs_is in cc

-- the disk of a marked store holds its log
pub holds_log : (store : StoreState) (s : DiskState) (list : List (List ℕ))
    → store.marked ≡ true
    → list ≡ spelled store.entries → IsDiskOf store s → EachNow (Holds list) s
holds_log store s list marked ls disk =
    subst (λ (l : List (List ℕ)). EachNow (Holds l) s) (sym ls)
    (agreed_holds store.entries s (λ image left. disk.mark image left ∙ marked) disk.agreed)

-- the log's list, by the store's own entries
pub list_is : (store : StoreState) (o : Option (List (List ℕ))) (list : List (List ℕ))
    (es : List Entry) → es ≡ store.entries → o ≡ Some list → IsLogOf o es
    → list ≡ spelled store.entries
list_is store o list es same is of = log_of_some o list es is of ∙ ap spelled same
