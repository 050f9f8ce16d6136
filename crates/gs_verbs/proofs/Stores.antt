-- A folder has one store, or none in some way.
use Rattle.std.proofs.Common.{◌≡◌, inl, inr, refl, sym, ap, ◌∙◌, subst, ℕ, List, [], ◌∷◌, ◌++◌, length, Option, Some, None, Result, Ok, Err}
use Rattle.std.specs.Prelude.{IsSome}
use Rattle.gs_disk.specs.Folder.{Folder}
use Rattle.gs_log.specs.Names.{log_name, mark_name}
use Rattle.gs_log.specs.Grammar.{IsNoLog}
use Rattle.gs_log.specs.Holding.{Holds}
use Rattle.gs_log.specs.OneList.{no_log, one_list_held}
use Rattle.gs_entries.specs.Order.{accepted, records, IsFirst}
use Rattle.gs_entries.specs.declared.entry.Entry.{Entry}
use Rattle.gs_entries.specs.declared.entry.Entry.TheVariants as made
use Rattle.gs_types.specs.declared.note.Version.{Version}
use Rattle.gs_report.specs.Report.{kept_of}
use Rattle.gs_store.specs.Keeps.{spelled, HasEntries}
use Rattle.gs_store.specs.Versions.{Kept, len_of, AllStand, outs_kept, finals_kept, kept_in, IsFirstLost}
use Rattle.gs_verbs.specs.Laws.{HasOneStore, HasNoBadStore}
use Rattle.gs_verbs.specs.declared.stops.BadStore.TheVariants.{Log, Record, Lost}

not_none : {A : Type 0} (o : Option A) → IsSome o → o ≡ None → ⊥
not_none (Some x) some e = absurd cc
not_none None some e = absurd cc

some_is : (x y : List ℕ) → Some x ≡ Some y → x ≡ y
some_is x y e = cc

-- ---- one store

lists_same : (f : Folder) (es fs : List Entry) → HasEntries es f → HasEntries fs f
    → spelled es ≡ spelled fs
lists_same f es fs (inl h) (inl k) = one_list_held (spelled es) (spelled fs) f h k
lists_same f es fs (inl h) (inr none) = absurd (not_none (f mark_name) h.marked none.0)
lists_same f es fs (inr none) (inl k) = absurd (not_none (f mark_name) k.marked none.0)
lists_same f es fs (inr none) (inr nothing) = ap spelled (none.1 ∙ sym nothing.1)

abbrev ok_of : List Entry → Result (List Entry) ℕ
ok_of es = Ok es

entries_same : (es fs : List Entry) → records [] (spelled es) ≡ Ok es
    → records [] (spelled fs) ≡ Ok fs → spelled es ≡ spelled fs → es ≡ fs
entries_same es fs a b same =
    let both : ok_of es ≡ ok_of fs = sym a ∙ ap (records []) same ∙ b in cc

pub has_one : HasOneStore
has_one f a b s t = entries_same a.entries b.entries s.read t.read
    (lists_same f a.entries b.entries s.entries t.entries)

-- ---- none in some way

records_next : (es : List Entry) (p : List ℕ) (ps : List (List ℕ)) (o : Option Entry)
    → accepted es p ≡ o
    → records es (p ∷ ps) ≡ elim o as (λ _. Result (List Entry) ℕ) [
      | Some e ↦
          records (es ++ e ∷ []) ps
      | None ↦ Err (length es)
    ]
records_next es p ps o is =
    ap (λ (x : Option Entry). elim x as (λ _. Result (List Entry) ℕ) [
      | Some e ↦
          records (es ++ e ∷ []) ps
      | None ↦ Err (length es)
    ]) is

abbrev err_of : ℕ → Result (List Entry) ℕ
err_of n = Err n

not_ok : (n : ℕ) (es : List Entry) → err_of n ≡ ok_of es → ⊥
not_ok n es e = absurd cc

-- payloads of which one is no entry behind the others aren't read
stuck : (before : List (List ℕ)) (es read all : List Entry) (bad : List ℕ)
    (behind : List (List ℕ)) → records es before ≡ Ok read → accepted read bad ≡ None
    → records es (before ++ bad ∷ behind) ≡ Ok all → ⊥
stuck [] es read all bad behind fine refused whole =
    let same : es ≡ read = cc in
    let none : accepted es bad ≡ None = ap (λ (l : List Entry). accepted l bad) same ∙ refused in
    not_ok (length es) all (sym (records_next es bad behind None none) ∙ whole)
stuck (p ∷ before) es read all bad behind fine refused whole =
    elim (accepted es p) as (λ o. accepted es p ≡ o → ⊥) [
      | None ↦ λ is. not_ok (length es) read (sym (records_next es p before None is) ∙ fine)
      | Some e ↦ λ is. stuck before (es ++ e ∷ []) read all bad behind
          (sym (records_next es p before (Some e) is) ∙ fine) refused
          (sym (records_next es p (before ++ bad ∷ behind) (Some e) is) ∙ whole)
    ] refl

no_bad_record : (list : List (List ℕ)) (es : List Entry) (index : ℕ) → IsFirst list index
    → records [] list ≡ Ok es → ⊥
no_bad_record list es index first read =
    stuck first.before [] first.read es first.bad first.behind first.fine first.refused
    (ap (records []) (sym first.parts) ∙ read)

stands_at : (f : Folder) (before behind : List Kept) (v : Version) (kept : ℕ)
    → AllStand f (before ++ (v, kept) ∷ behind) → len_of f v ≡ Some kept
stands_at f [] behind v kept all = all.0
stands_at f (k ∷ before) behind v kept all = stands_at f before behind v kept all.1

-- where all stand, none is lost
pub none_lost : (f : Folder) (ks : List Kept) (v : Version) (kept : ℕ) (found : Option ℕ)
    → AllStand f ks → IsFirstLost f ks v kept found → ⊥
none_lost f ks v kept found all lost =
    lost.lost (lost.is
    ∙ stands_at f lost.before lost.behind v kept (subst (AllStand f) lost.parts all))

no_bad_log : (f : Folder) (es : List Entry) (at : ℕ) → HasEntries es f → IsSome (f mark_name)
    → IsNoLog (f log_name) at → ⊥
no_bad_log f es at (inl h) some bad =
    no_log (spelled es) h.bytes at h.log (subst (λ (o : Option (List ℕ)). IsNoLog o at) h.file bad)
no_bad_log f es at (inr none) some bad = not_none (f mark_name) some none.0

held_entries : (f : Folder) (list : List (List ℕ)) (es : List Entry) → Holds list f
    → HasEntries es f → list ≡ spelled es
held_entries f list es k (inl h) = one_list_held list (spelled es) f k h
held_entries f list es k (inr none) = absurd (not_none (f mark_name) k.marked none.0)

pub has_no_bad : HasNoBadStore
has_no_bad f a (Log at) s bad = no_bad_log f a.entries at s.entries bad.0 bad.1
has_no_bad f a (Record index) s bad =
    let same = held_entries f bad.list a.entries bad.held s.entries in
    no_bad_record bad.list a.entries index bad.first (ap (records []) same ∙ s.read)
has_no_bad f a (Lost v kept found) s bad =
    let same = held_entries f (spelled bad.es) a.entries bad.held s.entries in
    let es_are = entries_same bad.es a.entries bad.read s.read same in
    none_lost f (kept_in bad.es) v kept found
    (subst (λ (l : List Entry). AllStand f (kept_in l)) (sym es_are) s.files) bad.first

-- ---- the finals among the versions that are named

front_stands : (f : Folder) (ks more : List Kept) → AllStand f (ks ++ more) → AllStand f ks
front_stands f [] more all = tt
front_stands f (k ∷ ks) more all = (all.0, front_stands f ks more all.1)

back_stands : (f : Folder) (ks more : List Kept) → AllStand f (ks ++ more) → AllStand f more
back_stands f [] more all = all
back_stands f (k ∷ ks) more all = back_stands f ks more all.1

pub finals_stand : (f : Folder) (es : List Entry) → AllStand f (kept_in es)
    → AllStand f (kept_of es)
finals_stand f [] all = tt
finals_stand f (made.Header t ∷ es) all = finals_stand f es all
finals_stand f (made.Done n op os ∷ es) all =
    finals_stand f es (back_stands f (outs_kept n os) (kept_in es) all)
finals_stand f (made.Gate g ∷ es) all =
    front_stands f (finals_kept g.finals) (kept_in es) all
finals_stand f (made.Closed ∷ es) all = finals_stand f es all
