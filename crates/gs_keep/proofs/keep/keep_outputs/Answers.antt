use Rattle.std.proofs.Common.{◌≡◌, ◌≤◌, true, sym, ap, subst, ◌∙◌, List, ℕ, length, arith}
use Rattle.std.specs.List.{zip}
use Rattle.gs_types.specs.declared.note.OutNote.{OutNote}
use Rattle.gs_idl.specs.Interface.{params_at}
use Rattle.gs_fields.specs.Format.{all_fit}
use Rattle.gs_entries.specs.Notes.{place}
use Rattle.gs_entries.specs.declared.entry.Entry.TheVariants as made
use Rattle.gs_store.specs.Versions.{AllStand, outs_kept}
use Rattle.gs_store.specs.State.{StoreState, with_entry}
use Rattle.gs_keep.specs.Given.{AreAbove}
use Rattle.gs_keep.proofs.Noting.{places_rise, places_fit, all_stand}
use Rattle.gs_keep.proofs.Keeping.{notes_are, fits_so, kept_so, kept_failed}
use Rattle.gs_keep.proofs.keep.keep_outputs.Goals as goal

pub put_outputs-requires-clause-fit : goal.put_outputs-requires-clause-fit
put_outputs-requires-clause-fit g c =
    let ps = params_at c.args.idl.now.ops c.args.op in
    let few : length ps ≤ 16 = c.in_ok-places.ensures.few in
    subst (λ (l : List ℕ). all_fit place l ≡ true)
    (sym (c.deref.ensures.value ∙ c.in_ok-places.ensures.places))
    (places_fit 1 ps (omega arith) (omega arith))

pub put_outputs-requires-clause-rise : goal.put_outputs-requires-clause-rise
put_outputs-requires-clause-rise g c =
    let ps = params_at c.args.idl.now.ops c.args.op in
    subst (AreAbove 0) (sym (c.deref.ensures.value ∙ c.in_ok-places.ensures.places))
    (places_rise 0 1 ps (omega arith))

pub done-requires-clause-fits : goal.done-requires-clause-fits
done-requires-clause-fits g c =
    let ps = params_at c.args.idl.now.ops c.args.op in
    let ds = c.deref.ensures.value ∙ c.in_ok-places.ensures.places in
    fits_so c.args.n c.args.op ps c.args.outs.now c.deref.result.now c.in-Ok.notes
    c.into_vec.result.items c.requires.numbered.0 c.requires.numbered.1
    c.in_ok-places.ensures.in_limit c.in_ok-places.ensures.few ds c.in-Ok.ensures.notes
    c.in-Ok.ensures.fit c.into_vec.ensures

pub done-requires-clause-files_stand : goal.done-requires-clause-files_stand
done-requires-clause-files_stand g c = λ told.
    let folder = (g.D.Disk.state c.put_outputs.new.disk).folder in
    let xs = zip c.deref.result.now c.args.outs.now in
    subst (λ (l : List OutNote). AllStand folder (outs_kept c.args.n l))
    (sym (c.into_vec.ensures ∙ c.in-Ok.ensures.notes))
    (all_stand c.args.n xs folder (c.in-Ok.ensures.puts told).read)

pub returns-in-Ok-done-clause-notes : goal.returns-in-Ok-done-clause-notes
returns-in-Ok-done-clause-notes g c =
    let ps = params_at c.args.idl.now.ops c.args.op in
    c.in_ok-kept.ensures ∙ c.items.ensures
    ∙ notes_are ps c.args.outs.now c.deref.result.now c.in-Ok.notes
    (c.deref.ensures.value ∙ c.in_ok-places.ensures.places) c.in-Ok.ensures.notes

pub returns-in-Ok-done-clause-store : goal.returns-in-Ok-done-clause-store
returns-in-Ok-done-clause-store g c =
    let ps = params_at c.args.idl.now.ops c.args.op in
    let is = c.into_vec.ensures ∙ notes_are ps c.args.outs.now c.deref.result.now c.in-Ok.notes
    (c.deref.ensures.value ∙ c.in_ok-places.ensures.places) c.in-Ok.ensures.notes in
    c.in-Ok-done.ensures.store
    ∙ ap (λ (s : StoreState). with_entry s (made.Done c.args.n c.args.op c.into_vec.result.items))
    c.put_outputs.ensures.same
    ∙ ap (λ (l : List OutNote). with_entry c.args.store.now (made.Done c.args.n c.args.op l)) is

pub returns-in-Ok-done-clause-keeps : goal.returns-in-Ok-done-clause-keeps
returns-in-Ok-done-clause-keeps g c = λ told.
    let ps = params_at c.args.idl.now.ops c.args.op in
    let ds = c.deref.ensures.value ∙ c.in_ok-places.ensures.places in
    let is = c.into_vec.ensures ∙ notes_are ps c.args.outs.now c.deref.result.now c.in-Ok.notes ds
    c.in-Ok.ensures.notes in
    let fits = fits_so c.args.n c.args.op ps c.args.outs.now c.deref.result.now c.in-Ok.notes
    c.into_vec.result.items c.requires.numbered.0 c.requires.numbered.1
    c.in_ok-places.ensures.in_limit c.in_ok-places.ensures.few ds c.in-Ok.ensures.notes
    c.in-Ok.ensures.fit c.into_vec.ensures in
    kept_so c.in_ok-kept.kept c.done.result c.in-Ok-done.field-0 c.args.store.now
    c.put_outputs.new.store c.args.n c.args.op ps c.args.outs.now c.deref.result.now c.in-Ok.notes
    c.into_vec.result.items (g.D.Disk.state c.args.disk.now)
    (g.D.Disk.state c.put_outputs.new.disk) (g.D.Disk.state c.done.new.disk) (omega arith)
    c.in_ok-places.ensures.few fits c.requires.running c.requires.not_done
    c.put_outputs.ensures.same ds
    is (c.in-Ok.ensures.puts told) c.in-Ok-done.is (c.done.ensures.adds told)

pub returns-clause-keeps : goal.returns-clause-keeps
returns-clause-keeps g c = λ told.
    let ps = params_at c.args.idl.now.ops c.args.op in
    let ds = c.deref.ensures.value ∙ c.in_ok-places.ensures.places in
    let is = c.into_vec.ensures ∙ notes_are ps c.args.outs.now c.deref.result.now c.in-Ok.notes ds
    c.in-Ok.ensures.notes in
    let fits = fits_so c.args.n c.args.op ps c.args.outs.now c.deref.result.now c.in-Ok.notes
    c.into_vec.result.items c.requires.numbered.0 c.requires.numbered.1
    c.in_ok-places.ensures.in_limit c.in_ok-places.ensures.few ds c.in-Ok.ensures.notes
    c.in-Ok.ensures.fit c.into_vec.ensures in
    kept_failed c.in-Err-done.failure c.done.result c.args.store.now c.put_outputs.new.store
    c.args.n c.args.op ps c.args.outs.now c.deref.result.now c.in-Ok.notes
    c.into_vec.result.items (g.D.Disk.state c.args.disk.now)
    (g.D.Disk.state c.put_outputs.new.disk) (g.D.Disk.state c.done.new.disk) fits
    c.requires.running c.requires.not_done c.put_outputs.ensures.same ds is (c.in-Ok.ensures.puts told)
    (c.done.ensures.adds told)
