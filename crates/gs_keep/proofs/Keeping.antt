-- The outputs of a task as it is kept.
use Rattle.std.proofs.Common.{◌≡◌, ◌<◌, ◌≤◌, ◌^◌, ℕ, true, false, sym, ap, ◌∙◌, subst, List, map, length, arith, Result, Ok, Err}
use Rattle.std.specs.List.{zip}
use Rattle.gs_idl.specs.Interface.{Param}
use Rattle.gs_types.specs.declared.note.Version.{Version}
use Rattle.gs_types.specs.declared.note.OutNote.{OutNote}
use Rattle.gs_types.specs.declared.value.Value.{Value}
use Rattle.gs_disk.specs.Folder.{DiskState}
use Rattle.gs_fields.specs.Format.{all_fit}
use Rattle.gs_entries.specs.Notes as formats
use Rattle.gs_entries.specs.Entries.{entry}
use Rattle.gs_entries.specs.Order.{stage_of, has_done}
use Rattle.gs_entries.specs.declared.entry.Stage.TheVariants as stages
use Rattle.gs_entries.specs.declared.entry.Entry.TheVariants as made
use Rattle.gs_store.specs.declared.err.StoreErr.{StoreErr}
use Rattle.gs_store.specs.State.{StoreState}
use Rattle.gs_store.specs.Versions.{Among, Names, outs_kept}
use Rattle.gs_store.specs.Told.{AddsEntry}
use Rattle.gs_store.proofs.Putting.{out_unnamed}
use Rattle.gs_tables.specs.Outs.{outs_noted}
use Rattle.gs_keep.specs.Given.{output_places, placed, noted, AreAbove, files_in, done_entry}
use Rattle.gs_keep.specs.Kept.{PutsFiles, KeepsOutputs}
use Rattle.gs_keep.proofs.Noting.{noted_in_order, places_rise, places_fit, places_few, done_fits}
use Rattle.gs_keep.proofs.Reading.{places_small, puts_so}
use Rattle.gs_keep.proofs.Joining.{IsFile, named_file, Stands, stand, joined, joined_failed}

-- the notes that were made are those of the entry
pub notes_are : (ps : List Param) (vs : List Value) (places : List ℕ) (notes : List OutNote)
    → places ≡ output_places 1 ps → notes ≡ map noted (zip places vs)
    → notes ≡ outs_noted 1 ps vs
notes_are ps vs places notes ds is =
    is ∙ ap (λ (l : List ℕ). map noted (zip l vs)) ds ∙ sym (noted_in_order 1 ps vs)

-- the entry of these notes is within the limits
pub fits_so : (n op : ℕ) (ps : List Param) (vs : List Value) (places : List ℕ)
    (notes made_of : List OutNote) → 1 ≤ n → n ≤ 10000 → op < 64 → length ps ≤ 16
    → places ≡ output_places 1 ps → notes ≡ map noted (zip places vs)
    → all_fit formats.out notes ≡ true → made_of ≡ notes
    → entry.fits (made.Done n op made_of) ≡ true
fits_so n op ps vs places notes made_of low high known few ds is fit same =
    let least = places_few 1 ps in
    done_fits n op places vs made_of low high known (omega (arith, ap length ds))
    (subst (AreAbove 0) (sym ds) (places_rise 0 1 ps (omega arith))) (same ∙ is)
    (ap (all_fit formats.out) same ∙ fit)

-- the files that were put are those of the outputs
puts_are : (store : StoreState) (n : ℕ) (ps : List Param) (vs : List Value) (places : List ℕ)
    (notes : List OutNote) (a b : DiskState) → places ≡ output_places 1 ps
    → PutsFiles store n (files_in (zip places vs)) a b (Ok notes)
    → PutsFiles {T = Unit {0}} store n (files_in (placed ps vs)) a b (Ok tt)
puts_are store n ps vs places notes a b ds puts =
    puts_so notes tt store n (files_in (placed ps vs)) a b
    (subst (λ (l : List ℕ). PutsFiles store n (files_in (zip l vs)) a b (Ok notes)) ds puts)

adds_are : (r : Result (Unit {0}) StoreErr) (store s : StoreState) (n op : ℕ) (ps : List Param)
    (vs : List Value) (notes : List OutNote) (b d : DiskState) → s ≡ store
    → notes ≡ outs_noted 1 ps vs → AddsEntry s (made.Done n op notes) b d r
    → AddsEntry store (done_entry n op ps vs) b d r
adds_are r store s n op ps vs notes b d same is adds =
    subst (λ (l : List OutNote). AddsEntry store (made.Done n op l) b d r) is
    (subst (λ (t : StoreState). AddsEntry t (made.Done n op notes) b d r) same adds)

entry_fits : (n op : ℕ) (ps : List Param) (vs : List Value) (notes : List OutNote)
    → notes ≡ outs_noted 1 ps vs → entry.fits (made.Done n op notes) ≡ true
    → entry.fits (done_entry n op ps vs) ≡ true
entry_fits n op ps vs notes is fits =
    subst (λ (l : List OutNote). entry.fits (made.Done n op l) ≡ true) is fits

stands_so : (store : StoreState) (n op : ℕ) (ps : List Param) (vs : List Value)
    (a b : DiskState)
    → PutsFiles {T = Unit {0}} store n (files_in (placed ps vs)) a b (Ok tt)
    → Stands n (files_in (placed ps vs)) (done_entry n op ps vs) b.folder
stands_so store n op ps vs a b puts base =
    stand n op (output_places 1 ps) vs (outs_noted 1 ps vs) base b.folder
    (places_rise 0 1 ps (omega arith)) (noted_in_order 1 ps vs) puts.read

-- the outputs are kept
pub kept_so : {T : Type 0} (kept : T) (r : Result (Unit {0}) StoreErr) (x : Unit {0})
    (store s : StoreState) (n op : ℕ) (ps : List Param) (vs : List Value) (places : List ℕ)
    (notes made_of : List OutNote) (a b d : DiskState) → n < 2 ^ 32 → length ps ≤ 16
    → entry.fits (made.Done n op made_of) ≡ true → stage_of store.entries ≡ stages.Running
    → has_done store.entries n ≡ false → s ≡ store
    → places ≡ output_places 1 ps → made_of ≡ outs_noted 1 ps vs
    → PutsFiles store n (files_in (zip places vs)) a b (Ok notes) → r ≡ Ok x
    → AddsEntry s (made.Done n op made_of) b d r
    → KeepsOutputs store (done_entry n op ps vs) n (files_in (placed ps vs)) a d (Ok kept)
kept_so kept r x store s n op ps vs places notes made_of a b d small few fits run undone same ds
    is puts ok adds =
    let put = puts_are store n ps vs places notes a b ds puts in
    let added = adds_are r store s n op ps vs made_of b d same is adds in
    joined kept r x store n (done_entry n op ps vs) (files_in (placed ps vs)) a b d small
    (places_small (output_places 1 ps) vs (places_fit 1 ps (omega arith) (omega arith)))
    (entry_fits n op ps vs made_of is fits)
    (λ k named. out_unnamed store.entries n k run undone named) put
    (stands_so store n op ps vs a b put) ok added

-- or the entry was not added
pub kept_failed : {T : Type 0} (failure : StoreErr) (r : Result (Unit {0}) StoreErr)
    (store s : StoreState) (n op : ℕ) (ps : List Param) (vs : List Value) (places : List ℕ)
    (notes made_of : List OutNote) (a b d : DiskState)
    → entry.fits (made.Done n op made_of) ≡ true → stage_of store.entries ≡ stages.Running
    → has_done store.entries n ≡ false → s ≡ store
    → places ≡ output_places 1 ps → made_of ≡ outs_noted 1 ps vs
    → PutsFiles store n (files_in (zip places vs)) a b (Ok notes)
    → AddsEntry s (made.Done n op made_of) b d r
    → KeepsOutputs {T = T} store (done_entry n op ps vs) n (files_in (placed ps vs)) a d
    (Err failure)
kept_failed failure r store s n op ps vs places notes made_of a b d fits run undone same ds is puts
    adds =
    let put = puts_are store n ps vs places notes a b ds puts in
    let added = adds_are r store s n op ps vs made_of b d same is adds in
    joined_failed failure r store n (done_entry n op ps vs) (files_in (placed ps vs)) a b d
    (entry_fits n op ps vs made_of is fits)
    (λ k named. out_unnamed store.entries n k run undone named) put
    (stands_so store n op ps vs a b put) added

-- ---- what the entry names

-- a version that the entry of a task's outputs names is one of its files
pub entry_names : (n op : ℕ) (ps : List Param) (vs : List Value) (v : Version)
    → Names v (done_entry n op ps vs) → IsFile n (files_in (placed ps vs)) v
entry_names n op ps vs v names =
    named_file n 0 (output_places 1 ps) vs v (places_rise 0 1 ps (omega arith))
    (subst (λ (l : List OutNote). Among v (outs_kept n l)) (noted_in_order 1 ps vs) names)
