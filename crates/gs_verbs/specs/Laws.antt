-- A folder has one store, or none in some way.
use Rattle.std.specs.Prelude.{◌≡◌}
use Rattle.gs_disk.specs.Folder.{Folder}
use Rattle.gs_store.specs.State.{StoreState}
use Rattle.gs_store.specs.Loading.{IsStoreOf}
use Rattle.gs_verbs.specs.Finding.{IsBad}
use Rattle.gs_verbs.specs.declared.stops.BadStore.{BadStore}

-- a folder has the entries of one store at most
abbrev pub HasOneStore : Type 0
HasOneStore = (folder : Folder) (a b : StoreState) → IsStoreOf a folder → IsStoreOf b folder
    → a.entries ≡ b.entries

-- a folder that has a store has none of the ways to have none
abbrev pub HasNoBadStore : Type 0
HasNoBadStore = (folder : Folder) (a : StoreState) (bad : BadStore) → IsStoreOf a folder
    → IsBad folder bad → ⊥
