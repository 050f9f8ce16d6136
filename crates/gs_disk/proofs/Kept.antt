-- How a disk in memory keeps the trait's clauses on images.
use Rattle.std.proofs.Common.{◌≡◌, ◌⊎◌, inl, inr, ⊎_elim, ℕ, ◌≤◌, List, [], ◌∷◌, ◌++◌, length, take, drop, Option, Some, None, refl, sym, ◌∙◌, ap, subst, arith}
use Rattle.std.specs.declared.snapshot.Snapshot.{Snapshot}
use Rattle.gs_disk.specs.Folder.{Folder, DiskState, KeepsOthers, TornFile, Tears, Same, MayWrite, overwritten}
use Rattle.std.specs.Prelude.{IsTrue, IsSome, is_some, filter}
use Rattle.gs_disk.specs.Moments.{LeavesOnly, EachNow, Comes, Passes, Remembers}
use Rattle.gs_disk.specs.Images.{Range, Unsynced, IsLeft, IsImage}
use Rattle.gs_disk.specs.Mem.{folder_of, Puts, names_of, ranges_of, done_by, done_of, Done, unsynced_in, unsynced_of, files_of, settled, with_removal, is_other, reads, Held, behind, LeftBehind}
use Rattle.gs_disk.specs.Steps.{LeadBack, TellsAll, IsSound, Stays, KeepsName, Renames, KeepsRange, Writes, Adds}
use Rattle.gs_disk.specs.declared.now.Touch.{Touch}
use Rattle.gs_disk.specs.declared.now.Touch.TheVariants.{Renamed, Written}
use Rattle.gs_disk.specs.declared.now.Now.{Now}
use Rattle.gs_disk.specs.declared.now.Past.{Past}
use Rattle.gs_disk.specs.declared.now.Past.TheVariants.{Then}
use Rattle.gs_disk.proofs.Bytes.{torn_overwritten}
use Rattle.gs_disk.proofs.Images.{Follows, renamed_follows, written_follows, settled_at, settled_only, stands_renamed, stands_written, stands_settled, tears_same, at_name, file_put, file_put_in, added_follows, stands_added, added_here}
use Rattle.gs_disk.proofs.Undoing.{leads_push, undone_renamed, undone_written, names_without, ranges_left, touches_without, leads_added, put_is}

-- the disk that holds this
abbrev pub disk_of : Now → Past → ℕ → ℕ → DiskState
disk_of now past faults refusals = record {
  folder = reads now;
  moment = length (behind past);
  left_since = λ t image. IsImage (unsynced_of now) (reads now) image ⊎ LeftBehind (behind past) t image;
  faults = faults;
  refusals = refusals;
}

none_behind : (past : List Held) (t : ℕ) (image : Folder) → length past ≤ t → LeftBehind past t image → ⊥
none_behind [] t image le left = left
none_behind (was ∷ before) t image le (inl here) = absurd (omega (arith, here.0))
none_behind (was ∷ before) t image le (inr there) = none_behind before t image (omega arith) there

-- a call that was noted
pub passes : (step : Folder → Folder → Type 0) (old new : Now) (was : Snapshot Now) → was.value ≡ old → (past : Snapshot Past) (f r g s : ℕ) → Follows step (unsynced_of old) (reads old) (unsynced_of new) (reads new)
    → (later : Past) → later ≡ Then was past → Passes step (disk_of old past.value f r) (disk_of new later g s)
passes step old new was is past f r g s back later e = subst (λ (l : Past). Passes step (disk_of old past.value f r) (disk_of new l g s)) (sym e) record {
  later = omega arith;
  since = λ t image le left. ⊎_elim (λ now. inr (comes image now)) (⊎_elim (λ h. inl (inl (subst (λ (n : Now). IsImage (unsynced_of n) (reads n) image) is h.1))) (λ h. inl (inr h))) left;
  now = λ image left. ⊎_elim (comes image) (⊎_elim (λ h. absurd (omega (arith, h.0))) (λ h. absurd (none_behind (behind past.value) _ image (omega arith) h))) left;
}
  where
    comes : (image : Folder) → IsImage (unsynced_of new) (reads new) image → Comes step (disk_of old past.value f r) image
    comes image now = let b = back image now in (b.0, inl b.1, b.2)

pub remembers : (old new : Now) (was : Snapshot Now) → was.value ≡ old → (past : Snapshot Past) (f r g s : ℕ) (later : Past) → later ≡ Then was past → Remembers (disk_of old past.value f r) (disk_of new later g s)
remembers old new was is past f r g s later e = subst (λ (l : Past). Remembers (disk_of old past.value f r) (disk_of new l g s)) (sym e) record {
  keeps = λ t image le left. inr (⊎_elim (λ now. inl (le, subst (λ (n : Now). IsImage (unsynced_of n) (reads n) image) (sym is) now)) inr left);
  counts = λ t image le left. ⊎_elim inl (⊎_elim (λ h. absurd (omega (arith, h.0))) (λ h. absurd (none_behind (behind past.value) _ image (omega arith) h))) left;
}

-- a call that changes nothing and isn't noted
pub passes_same : (now : Now) (past : Past) (f r g s : ℕ) → Passes Same (disk_of now past f r) (disk_of now past g s)
passes_same now past f r g s = record { later = omega arith; since = λ t image le left. inl left; now = λ image left. (image, left, record { is = refl }) }

pub remembers_same : (now : Now) (past : Past) (f r g s : ℕ) → Remembers (disk_of now past f r) (disk_of now past g s)
remembers_same now past f r g s = record { keeps = λ t image le left. left; counts = λ t image le left. ⊎_elim inl (λ h. absurd (none_behind (behind past) _ image (omega arith) h)) left }

-- after a sync
pub leaves_only : (new : Now) (past : Past) (g s : ℕ) → done_of new ≡ settled (files_of new.files) → LeavesOnly (reads new) (disk_of new past g s)
leaves_only new past g s done image left = ⊎_elim (λ now. settled_only (reads new) image (subst (λ (u : Unsynced). IsImage u (reads new) image) (ap unsynced_in done) now)) (λ h. absurd (none_behind (behind past) _ image (omega arith) h)) left

-- what the calls make of the images

same_images : (old new : Now) → Stays old new → unsynced_of new ≡ unsynced_of old
same_images old new stays = ap (λ since. unsynced_in (done_by since)) stays.since

same_reads : (old new : Now) → Stays old new → reads new ≡ reads old
same_reads old new stays = ap folder_of stays.files

pub stays_follows : (step : Folder → Folder → Type 0) → ((f : Folder) → step f f) → (old new : Now) → Stays old new → Follows step (unsynced_of old) (reads old) (unsynced_of new) (reads new)
stays_follows step same old new stays image left =
    (image, subst (λ (f : Folder). IsImage (unsynced_of old) f image) (same_reads old new stays) (subst (λ (u : Unsynced). IsImage u (reads new) image) (same_images old new stays) left), same image)

pub stays_sound : (old new : Now) → Stays old new → IsSound old → IsSound new
stays_sound old new stays sound = record {
  whole = λ is.
      let was = sound.whole (subst IsTrue stays.is_whole is) in
      let done = same_images old new stays in
      record {
        names = ap names_of stays.touched ∙ was.names ∙ sym (ap (λ (u : Unsynced). u.renamed) done);
        ranges = ap ranges_of stays.touched ∙ was.ranges ∙ sym (ap (λ (u : Unsynced). u.written) done);
        leads = subst (λ (u : Unsynced). LeadBack new.touched.items (reads new) u.synced) (sym done)
            (subst (λ (ts : List Touch). LeadBack ts (reads new) (unsynced_of old).synced) (sym stays.touched)
            (subst (λ (f : Folder). LeadBack old.touched.items f (unsynced_of old).synced) (sym (same_reads old new stays)) was.leads));
      };
  stands = subst (λ (f : Folder). IsLeft (unsynced_of new) f) (sym (same_reads old new stays)) (subst (λ (u : Unsynced). IsLeft u (reads old)) (sym (same_images old new stays)) sound.stands);
}

pub names_push : (ts : List Touch) (t : Touch) → names_of (ts ++ t ∷ []) ≡ names_of ts ++ names_of (t ∷ [])
names_push [] t = refl
names_push (Renamed name before ∷ ts) t = ap (λ (l : List (List ℕ)). name ∷ l) (names_push ts t)
names_push (Written name at len before end ∷ ts) t = names_push ts t

pub ranges_push : (ts : List Touch) (t : Touch) → ranges_of (ts ++ t ∷ []) ≡ ranges_of ts ++ ranges_of (t ∷ [])
ranges_push [] t = refl
ranges_push (Renamed name before ∷ ts) t = ranges_push ts t
ranges_push (Written name at len before end ∷ ts) t = ap (λ (l : List Range). record { name = name; at = at; len = len } ∷ l) (ranges_push ts t)

nothing_more : {A : Type 0} → (xs : List A) → xs ++ [] ≡ xs
nothing_more [] = refl
nothing_more (x ∷ xs) = ap (λ l. x ∷ l) (nothing_more xs)

pub renames_follows : (name : List ℕ) (old new : Now) → Renames name old new → Follows (KeepsOthers (name ∷ [])) (unsynced_of old) (reads old) (unsynced_of new) (reads new)
renames_follows name old new r = subst (λ (u : Unsynced). Follows (KeepsOthers (name ∷ [])) (unsynced_of old) (reads old) u (reads new)) (sym (ap unsynced_in r.done)) (renamed_follows (unsynced_of old) name (reads old) (reads new) r.others)

renames_whole : (name : List ℕ) (old new : Now) → Renames name old new → TellsAll old → KeepsName name old new → TellsAll new
renames_whole name old new r was kept = record {
  names = ap names_of kept.touched ∙ names_push old.touched.items (Renamed name kept.before) ∙ ap (λ (l : List (List ℕ)). l ++ name ∷ []) was.names ∙ sym (ap (λ (d : Done). d.renamed) r.done);
  ranges = ap ranges_of kept.touched ∙ ranges_push old.touched.items (Renamed name kept.before) ∙ nothing_more (ranges_of old.touched.items) ∙ was.ranges ∙ sym (ap (λ (d : Done). d.written) r.done);
  leads = subst (λ (d : Done). LeadBack new.touched.items (reads new) (folder_of d.synced)) (sym r.done)
      (subst (λ (ts : List Touch). LeadBack ts (reads new) (unsynced_of old).synced) (sym kept.touched)
      (leads_push old.touched.items (Renamed name kept.before) (reads new) (reads old) (unsynced_of old).synced was.leads (undone_renamed name kept.before (reads old) (reads new) kept.stood r.others)));
}

pub renames_sound : (name : List ℕ) (old new : Now) → Renames name old new → IsSound old → IsSound new
renames_sound name old new r sound = record {
  whole = λ is. let kept = r.kept is in renames_whole name old new r (sound.whole kept.0) kept.1;
  stands = subst (λ (u : Unsynced). IsLeft u (reads new)) (sym (ap unsynced_in r.done)) (stands_renamed (unsynced_of old) name (reads old) (reads new) sound.stands r.others);
}

changed : (name : List ℕ) (at : ℕ) (bytes : List ℕ) (old new : Now) → (w : Writes name at bytes old new) → (reads new ≡ reads old) ⊎ Puts name (Some (overwritten at bytes w.file)) (reads old) (reads new)
changed name at bytes old new w = ⊎_elim (λ same. inl (ap folder_of same)) inr w.change

pub write_tears : (name : List ℕ) (at : ℕ) (bytes : List ℕ) (old new : Now) → Writes name at bytes old new → Tears name at (length bytes) (reads old) (reads new)
write_tears name at bytes old new w = ⊎_elim
    (λ same. subst (λ (f : Folder). Tears name at (length bytes) (reads old) f) (sym same) (record { others = record { each = λ x out. refl }; file = tears_same at (length bytes) (reads old name) }))
    (λ put. record {
      others = record { each = λ x out. put.others x out.0 };
      file = subst (λ (o : Option (List ℕ)). TornFile at (length bytes) o (reads new name)) (sym w.stood) (overwritten at bytes w.file, put.here, torn_overwritten at bytes w.file w.room);
    })
    (changed name at bytes old new w)

pub write_follows : (name : List ℕ) (at : ℕ) (bytes : List ℕ) (old new : Now) → Writes name at bytes old new → Follows (Tears name at (length bytes)) (unsynced_of old) (reads old) (unsynced_of new) (reads new)
write_follows name at bytes old new w = subst (λ (u : Unsynced). Follows (Tears name at (length bytes)) (unsynced_of old) (reads old) u (reads new)) (sym (ap unsynced_in w.done))
    (written_follows (unsynced_of old) (record { name = name; at = at; len = length bytes }) (reads old) (reads new) (write_tears name at bytes old new w))

some_one : (a b : List ℕ) → Some a ≡ Some b → a ≡ b
some_one a b e = cc

writes_whole : (name : List ℕ) (at : ℕ) (bytes : List ℕ) (old new : Now) → (w : Writes name at bytes old new) → TellsAll old → KeepsRange name at (length bytes) old new → TellsAll new
writes_whole name at bytes old new w was kept =
    let same : kept.file ≡ w.file = some_one kept.file w.file (sym kept.stood ∙ w.stood) in
    let touched : new.touched.items ≡ old.touched.items ++ Written name at (length bytes) kept.before (length w.file) ∷ [] = kept.touched ∙ ap (λ (f : List ℕ). old.touched.items ++ Written name at (length bytes) kept.before (length f) ∷ []) same in
    let part : kept.before.items ≡ take (length bytes) (drop at w.file) = kept.part ∙ ap (λ (f : List ℕ). take (length bytes) (drop at f)) same in
    record {
      names = ap names_of touched ∙ names_push old.touched.items (Written name at (length bytes) kept.before (length w.file)) ∙ nothing_more (names_of old.touched.items) ∙ was.names ∙ sym (ap (λ (d : Done). d.renamed) w.done);
      ranges = ap ranges_of touched ∙ ranges_push old.touched.items (Written name at (length bytes) kept.before (length w.file)) ∙ ap (λ (l : List Range). l ++ record { name = name; at = at; len = length bytes } ∷ []) was.ranges ∙ sym (ap (λ (d : Done). d.written) w.done);
      leads = subst (λ (d : Done). LeadBack new.touched.items (reads new) (folder_of d.synced)) (sym w.done)
          (subst (λ (ts : List Touch). LeadBack ts (reads new) (unsynced_of old).synced) (sym touched)
          (leads_push old.touched.items (Written name at (length bytes) kept.before (length w.file)) (reads new) (reads old) (unsynced_of old).synced was.leads
          (undone_written name at bytes w.file kept.before (reads old) (reads new) w.stood w.room part (changed name at bytes old new w))));
    }

pub write_sound : (name : List ℕ) (at : ℕ) (bytes : List ℕ) (old new : Now) → Writes name at bytes old new → IsSound old → IsSound new
write_sound name at bytes old new w sound = record {
  whole = λ is. let kept = w.kept is in writes_whole name at bytes old new w (sound.whole kept.0) kept.1;
  stands = subst (λ (u : Unsynced). IsLeft u (reads new)) (sym (ap unsynced_in w.done)) (stands_written (unsynced_of old) name at bytes w.file (reads old) (reads new) sound.stands w.stood w.room (changed name at bytes old new w));
}

-- the clauses of the calls

-- a removal goes by whether the file was present
abbrev pub Removes : List ℕ → Now → Now → Option (List ℕ) → Type 0
Removes name old new None = Stays old new
Removes name old new (Some bytes) = Renames name old new

pub removes : (name : List ℕ) (old new : Now) → (reads old name ≡ None → Stays old new) → (IsSome (reads old name) → Renames name old new) → Removes name old new (reads old name)
removes name old new absent present = elim (reads old name) as (λ o. reads old name ≡ o → Removes name old new o) [ None ↦ λ e. absent e | Some bytes ↦ λ e. present (ap (λ (o : Option (List ℕ)). is_some o) e) ] refl

pub remove_follows : (name : List ℕ) (old new : Now) (file : Option (List ℕ)) → Removes name old new file → Follows (KeepsOthers (name ∷ [])) (unsynced_of old) (reads old) (unsynced_of new) (reads new)
remove_follows name old new None went = stays_follows (KeepsOthers (name ∷ [])) (λ f. record { each = λ x out. refl }) old new went
remove_follows name old new (Some bytes) went = renames_follows name old new went

pub remove_sound : (name : List ℕ) (old new : Now) (file : Option (List ℕ)) → Removes name old new file → IsSound old → IsSound new
remove_sound name old new None went sound = stays_sound old new went sound
remove_sound name old new (Some bytes) went sound = renames_sound name old new went sound

pub remove_others : (name : List ℕ) (old new : Now) (file : Option (List ℕ)) → Removes name old new file → KeepsOthers (name ∷ []) (reads old) (reads new)
remove_others name old new None went = record { each = λ x out. ap (λ (f : Folder). f x) (same_reads old new went) }
remove_others name old new (Some bytes) went = went.others

pub remove_done : (name : List ℕ) (old new : Now) (file : Option (List ℕ)) → Removes name old new file → done_of new ≡ with_removal name file (done_of old)
remove_done name old new None went = ap done_by went.since
remove_done name old new (Some bytes) went = went.done

pub same_follows : (old new : Now) → Stays old new → Follows Same (unsynced_of old) (reads old) (unsynced_of new) (reads new)
same_follows old new stays = stays_follows Same (λ f. record { is = refl }) old new stays

-- the files of the sync are those that read, and nothing was done since
pub settled_now : (new : Now) → done_of new ≡ settled (files_of new.files) → unsynced_of new ≡ settled_at (reads new)
settled_now new done = ap unsynced_in done

pub settles_follows : (old new : Now) → reads new ≡ reads old → done_of new ≡ settled (files_of new.files) → Follows Same (unsynced_of old) (reads old) (unsynced_of new) (reads new)
settles_follows old new same done image left =
    (reads old, inl refl, record { is = settled_only (reads new) image (subst (λ (u : Unsynced). IsImage u (reads new) image) (settled_now new done) left) ∙ same })

pub settled_sound : (new : Now) → done_of new ≡ settled (files_of new.files) → new.touched.items ≡ [] → IsSound new
settled_sound new done none = record {
  whole = λ is. record {
    names = ap names_of none ∙ sym (ap (λ (d : Done). d.renamed) done);
    ranges = ap ranges_of none ∙ sym (ap (λ (d : Done). d.written) done);
    leads = subst (λ (ts : List Touch). LeadBack ts (reads new) (unsynced_of new).synced) (sym none) (ap (λ (d : Done). folder_of d.synced) done);
  };
  stands = subst (λ (u : Unsynced). IsLeft u (reads new)) (sym (settled_now new done)) (stands_settled (reads new));
}

-- a file that is put there
pub added_is : (name bytes : List ℕ) (old new : Now) → Adds name bytes old new → unsynced_of new ≡ file_put name bytes (unsynced_of old)
added_is name bytes old new a = ap unsynced_in a.done ∙ file_put_in name bytes (done_of old)

pub adds_follows : (name bytes : List ℕ) (old new : Now) → Adds name bytes old new → Follows (KeepsOthers (name ∷ [])) (unsynced_of old) (reads old) (unsynced_of new) (reads new)
adds_follows name bytes old new a = subst (λ (u : Unsynced). Follows (KeepsOthers (name ∷ [])) (unsynced_of old) (reads old) u (reads new)) (sym (added_is name bytes old new a)) (added_follows (unsynced_of old) name bytes (reads old) (reads new) a.put)

adds_whole : (name bytes : List ℕ) (old new : Now) → Adds name bytes old new → TellsAll old → TellsAll new
adds_whole name bytes old new a was = record {
  names = ap names_of a.touched ∙ names_without name old.touched.items ∙ ap (λ (l : List (List ℕ)). filter (is_other name) l) was.names ∙ sym (ap (λ (d : Done). d.renamed) a.done);
  ranges = ap ranges_of a.touched ∙ ranges_left name old.touched.items ∙ ap (λ (l : List Range). filter (λ r. is_other name r.name) l) was.ranges ∙ sym (ap (λ (d : Done). d.written) a.done);
  leads = subst (λ (u : Unsynced). LeadBack new.touched.items (reads new) u.synced) (sym (added_is name bytes old new a))
      (subst (λ (ts : List Touch). LeadBack ts (reads new) (at_name name (Some bytes) (unsynced_of old).synced)) (sym a.touched)
      (subst (λ (f : Folder). LeadBack (touches_without name old.touched.items) f (at_name name (Some bytes) (unsynced_of old).synced)) (sym (put_is name (Some bytes) (reads old) (reads new) a.put))
      (leads_added name (Some bytes) old.touched.items (reads old) (unsynced_of old).synced was.leads)));
}

pub adds_sound : (name bytes : List ℕ) (old new : Now) → Adds name bytes old new → IsSound old → IsSound new
adds_sound name bytes old new a sound = record {
  whole = λ is. adds_whole name bytes old new a (sound.whole (subst IsTrue a.is_whole is));
  stands = subst (λ (u : Unsynced). IsLeft u (reads new)) (sym (added_is name bytes old new a)) (stands_added (unsynced_of old) name bytes (reads old) (reads new) sound.stands a.put);
}

pub adds_here : (name bytes : List ℕ) (old new : Now) (past : Past) (g s : ℕ) → Adds name bytes old new → EachNow (λ image. image name ≡ Some bytes) (disk_of new past g s)
adds_here name bytes old new past g s a image left = ⊎_elim
    (λ now. added_here (unsynced_of old) name bytes (reads new) image a.put.here (subst (λ (u : Unsynced). IsImage u (reads new) image) (added_is name bytes old new a) now))
    (λ h. absurd (none_behind (behind past) _ image (omega arith) h))
    left

-- a write has its file
pub room_of : (at n : ℕ) (file : Option (List ℕ)) → MayWrite at n file → (bytes : List ℕ) × (file ≡ Some bytes) × (at ≤ length bytes)
room_of at n None may = absurd may
room_of at n (Some bytes) may = (bytes, refl, may.0)
