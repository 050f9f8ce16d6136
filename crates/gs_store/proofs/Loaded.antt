-- A store that was loaded.
use Rattle.std.proofs.Common.{◌≡◌, ℕ, true, false, List, [], Option, Some, None, Ok, refl, sym, ap, subst, ◌∙◌, inl, inr}
use Rattle.std.specs.Prelude.{is_some}
use Rattle.gs_disk.specs.Folder.{Folder, DiskState, Same}
use Rattle.gs_disk.specs.Moments.{LeavesOnly, Passes}
use Rattle.gs_log.specs.Names.{mark_name}
use Rattle.gs_log.specs.Holding.{Holds}
use Rattle.gs_entries.specs.Order.{records}
use Rattle.gs_entries.specs.declared.entry.Entry.{Entry}
use Rattle.gs_store.specs.Names.{version_name}
use Rattle.gs_store.specs.Versions.{Kept, AllStand, kept_in}
use Rattle.gs_store.specs.Keeps.{spelled, Base, Keeps}
use Rattle.gs_store.specs.State.{StoreState, IsDiskOf}
use Rattle.gs_store.specs.Loading.{IsReadFrom, IsStoreOf, IsLogIn, IsLoaded}

abbrev base_of : Folder → Base
base_of folder = record { free = []; users = folder; outs = λ v. folder (version_name v) }

only_same : (a b : DiskState) → LeavesOnly a.folder a → Passes Same a b
    → b.folder ≡ a.folder
    → LeavesOnly b.folder b
only_same a b only passes same image left =
    let from = passes.now image left in from.2.is ∙ only from.0 from.1 ∙ sym same

loaded_disk : (store : StoreState) (s : DiskState) → IsStoreOf store s.folder
    → LeavesOnly s.folder s → IsDiskOf store s
loaded_disk store s st only = record {
  agreed = (
    base_of s.folder,
    λ image left. subst (Keeps (base_of s.folder) store.entries) (sym (only image left))
        (record {
          entries = st.entries;
          user_files = λ x user out. refl;
          versions =
              λ v kept named. refl;
        }),
  );
  mark = λ image left. subst (λ (f : Folder). is_some (f mark_name) ≡ store.marked)
      (sym (only image left)) st.mark;
}

none_at : (es : List Entry) (folder : Folder) → folder mark_name ≡ None → es ≡ []
    → IsStoreOf (record { marked = false; entries = es }) folder
unfolding spelled
none_at es folder none is = record {
  mark = ap is_some none;
  entries = inr (none, is);
  read = subst (λ (l : List Entry). records [] (spelled l) ≡ Ok l) (sym is) refl;
  files = subst (λ (l : List Entry). AllStand folder (kept_in l)) (sym is) tt;
}

pub none_loaded : (o : Option (List (List ℕ))) (es : List Entry) (s : DiskState)
    → IsLogIn s.folder o → o ≡ None → es ≡ [] → LeavesOnly s.folder s
    → IsLoaded s (record { marked = false; entries = es })
none_loaded o es s found is none only =
    let store : StoreState = record { marked = false; entries = es } in
    let of = none_at es s.folder (subst (IsLogIn s.folder) is found) none in
    record { found = of; disk = loaded_disk store s of only; only = only }

some_store : (opened now : Folder) (list : List (List ℕ)) (es : List Entry) (kept : List Kept)
    → Holds list opened → IsReadFrom list es → kept ≡ kept_in es → AllStand opened kept
    → now ≡ opened → IsStoreOf (record { marked = true; entries = es }) now
some_store opened now list es kept held read ks stand same =
    subst (IsStoreOf (record { marked = true; entries = es })) (sym same) (record {
      mark = held.marked;
      entries = inl (subst (λ (l : List (List ℕ)). Holds l opened) read.is held);
      read = subst (λ (l : List (List ℕ)). records [] l ≡ Ok es) read.is read.read;
      files = subst (AllStand opened) ks stand;
    })

pub some_loaded : (a b : DiskState) (list : List (List ℕ)) (es : List Entry) (kept : List Kept)
    → Holds list a.folder → LeavesOnly a.folder a → IsReadFrom list es → kept ≡ kept_in es
    → AllStand a.folder kept → Passes Same a b → b.folder ≡ a.folder
    → IsLoaded b (record { marked = true; entries = es })
some_loaded a b list es kept held only read ks stand passes same =
    let store : StoreState = record { marked = true; entries = es } in
    let of = some_store a.folder b.folder list es kept held read ks stand same in
    let one = only_same a b only passes same in
    record { found = of; disk = loaded_disk store b of one; only = one }

pub held_by : (o : Option (List (List ℕ))) (list : List (List ℕ)) (folder : Folder)
    → IsLogIn folder o → o ≡ Some list → Holds list folder
held_by o list folder found is = subst (IsLogIn folder) is found

-- a call that changes nothing keeps the disk of a store
pub disk_same : (store : StoreState) (a b : DiskState) → Passes Same a b → IsDiskOf store a
    → IsDiskOf store b
disk_same store a b passes disk = record {
  agreed = (
    disk.agreed.0,
    λ image left.
        let from = passes.now image left in
        subst (Keeps disk.agreed.0 store.entries) (sym from.2.is) (disk.agreed.1 from.0 from.1),
  );
  mark = λ image left.
      let from = passes.now image left in
      ap (λ (f : Folder). is_some (f mark_name)) from.2.is ∙ disk.mark from.0 from.1;
}
