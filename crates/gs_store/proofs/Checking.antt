-- Files that are checked one after the other.
use Rattle.std.proofs.Common.{◌≡◌, ◌≢◌, ℕ, suc, ◌+◌, ◌<◌, List, [], ◌∷◌, ◌++◌, length, get_or, take, drop, drop-cons, Option, Some, sym, ap, subst, ◌∙◌}
use Rattle.std.proofs.lemmas.List.{take_more, take-append-drop}
use Rattle.gs_types.specs.declared.note.Version.{Version}
use Rattle.gs_disk.specs.Folder.{Folder}
use Rattle.gs_store.specs.Versions.{Kept, len_of, AllStand, IsFirstLost}
use Rattle.gs_store.specs.Loading.{RefusesFile, RefusesFiles}
use Rattle.gs_store.specs.declared.err.StoreErr.{StoreErr}
use Rattle.gs_store.specs.declared.err.StoreErr.TheVariants.{BadLog, BadRecord, LostVersion, DiskFault, NoMemory}

stand_push : (folder : Folder) (ks : List Kept) (k : Kept) → AllStand folder ks
    → len_of folder k.0 ≡ Some k.1 → AllStand folder (ks ++ k ∷ [])
stand_push folder [] k all is = (is, tt)
stand_push folder (j ∷ ks) k all is = (all.0, stand_push folder ks k all.1 is)

pub stand_more : (folder now : Folder) (ks : List Kept) (i : ℕ) (k : Kept) → i < length ks
    → k ≡ get_or ks i k → now ≡ folder → len_of now k.0 ≡ Some k.1
    → AllStand folder (take i ks) → AllStand folder (take (i + 1) ks)
stand_more folder now ks i k lt is same len all =
    let here : len_of folder k.0 ≡ Some k.1 =
    subst (λ (f : Folder). len_of f k.0 ≡ Some k.1) same len in
    let more : take (i + 1) ks ≡ take i ks ++ k ∷ [] = take_more ks i k lt
    ∙ ap (λ (j : Kept). take i ks ++ j ∷ []) (sym is) in
    subst (λ (l : List Kept). AllStand folder l) (sym more)
    (stand_push folder (take i ks) k all here)

pair_is : (v w : Version) (n m : ℕ) → v ≡ w → n ≡ m → let a : Kept = (v, n) in
    let b : Kept = (w, m) in a ≡ b
pair_is v w n m p q = λ i. (p i, q i)

lost_at : (folder : Folder) (ks : List Kept) (i : ℕ) (k : Kept) (v : Version) (kept : ℕ)
    (found : Option ℕ) → i < length ks → k ≡ get_or ks i k → (v ≡ k.0) × (kept ≡ k.1)
    × (found ≡ len_of folder k.0) × (found ≢ Some k.1) → AllStand folder (take i ks)
    → IsFirstLost folder ks v kept found
lost_at folder ks i k v kept found lt is h all = record {
  before = take i ks;
  behind = drop (suc i) ks;
  parts = sym (take-append-drop i ks)
      ∙ ap (λ (l : List Kept). take i ks ++ l) (drop-cons ks i k lt
      ∙ ap (λ (j : Kept). j ∷ drop (suc i) ks) (sym is
      ∙ sym (pair_is v k.0 kept k.1 h.0 h.1)));
  fine = all;
  is = h.2 ∙ ap (len_of folder) (sym h.0);
  lost = λ e. h.3 (e ∙ ap (λ (n : ℕ). Some n) h.1);
}

pub refuses_files : (folder now : Folder) (ks : List Kept) (i : ℕ) (k : Kept) (e : StoreErr)
    → i < length ks → k ≡ get_or ks i k → now ≡ folder → RefusesFile now k.0 k.1 e
    → AllStand folder (take i ks) → RefusesFiles folder ks e
refuses_files folder now ks i k (BadLog at) lt is same h all = h
refuses_files folder now ks i k (BadRecord index) lt is same h all = h
refuses_files folder now ks i k (LostVersion v kept found) lt is same h all =
    lost_at folder ks i k v kept found lt is
    (subst (λ (f : Folder). RefusesFile f k.0 k.1 (LostVersion v kept found)) same h) all
refuses_files folder now ks i k DiskFault lt is same h all = tt
refuses_files folder now ks i k NoMemory lt is same h all = tt
