-- The disk of a store whose results were brought back.
use Rattle.std.proofs.Common.{◌≡◌, true, List, ◌++◌, Result, Ok, Err, sym, ap, ◌∙◌, inl, inr}
use Rattle.std.specs.Prelude.{is_some, IfOk}
use Rattle.gs_disk.specs.Folder.{Folder, DiskState}
use Rattle.gs_disk.specs.Moments.{Leaves, EachNow}
use Rattle.gs_log.specs.Names.{mark_name}
use Rattle.gs_entries.specs.Order.{stage_of}
use Rattle.gs_entries.specs.declared.entry.Entry.{Entry}
use Rattle.gs_entries.specs.declared.entry.Entry.TheVariants as made
use Rattle.gs_entries.specs.declared.entry.Stage.TheVariants as stages
use Rattle.gs_store.specs.Keeps.{HasEntries, Base, Keeps}
use Rattle.gs_store.specs.State.{StoreState, IsDiskOf, with_entry}
use Rattle.gs_back.specs.Finals.{finals_of, names_of}
use Rattle.gs_back.specs.Told.{WritesBack}
use Rattle.gs_back.specs.declared.err.BackErr.{BackErr}
use Rattle.gs_life.proofs.Closing.{outside_left, outside_right}
use Rattle.gs_life.proofs.Images.{stage_after}
use Rattle.gs_finish.specs.declared.halt.Halt.{Halt}

-- a folder with the entries of a run that has ended has the mark
marked_if : (es : List Entry) (f : Folder) → stage_of es ≡ stages.Gated → HasEntries es f
    → is_some (f mark_name) ≡ true
marked_if es f gated (inl h) = h.marked
marked_if es f gated (inr none) =
    let e : stages.Fresh ≡ stages.Gated = sym (ap stage_of none.1) ∙ gated in absurd cc

pub disk_back : {T : Type 0} (store : StoreState) (a b : DiskState) (r : Result T BackErr)
    → Leaves a a.folder → stage_of store.entries ≡ stages.Gated → IsDiskOf store a
    → WritesBack store.entries a b r → IsDiskOf store b
disk_back store a b r reads gated disk told =
    let es = store.entries in
    let names = names_of (finals_of es) in
    let was = disk.agreed.0 in
    let base : Base =
    record { free = names ++ was.free; users = was.users; outs = was.outs } in
    let begun : EachNow (Keeps base es) a = λ image left.
    let k = disk.agreed.1 image left in record {
      entries = k.entries;
      user_files = λ x user out. k.user_files x user (outside_right x names was.free out);
      versions = k.versions;
    } in
    let kept = told.any_moment base (λ x out. outside_left x names was.free out) begun in
    let marked : store.marked ≡ true =
    sym (disk.mark a.folder reads)
    ∙ marked_if es a.folder gated (disk.agreed.1 a.folder reads).entries in
    record {
      agreed = (base, kept.now);
      mark = λ image left. marked_if es image gated (kept.now image left).entries ∙ sym marked;
    }

pub stage_closed : (r : Result StoreState Halt) (store : StoreState)
    → stage_of store.entries ≡ stages.Gated → IfOk r (λ s. s ≡ with_entry store made.Closed)
    → IfOk r (λ s. stage_of s.entries ≡ stages.Closed)
stage_closed (Ok s) store gated is =
    ap (λ (t : StoreState). stage_of t.entries) is
    ∙ stage_after store.entries made.Closed stages.Gated gated
stage_closed (Err e) store gated is = tt
