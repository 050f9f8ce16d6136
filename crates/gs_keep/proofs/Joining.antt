-- The files of a task, and then its entry.
use Rattle.std.proofs.Common.{◌≡◌, ◌<◌, ◌^◌, ℕ, Bool, true, refl, sym, ap, ◌∙◌, subst, List, [], ◌∷◌, map, arith, Option, Some, Result, Ok, Err, inl, inr, ⊎_elim, eq-eqb, if◌then◌else◌}
use Rattle.std.specs.List.{zip}
use Rattle.std.proofs.lemmas.Bool.{ne_eqb}
use Rattle.std.proofs.lemmas.Bool.Decides.{eqb_tells}
use Rattle.gs_types.specs.declared.note.Version.{Version}
use Rattle.gs_types.specs.declared.note.Version.TheVariants.{Original, Out, Main}
use Rattle.gs_types.specs.declared.note.OutNote.{OutNote}
use Rattle.gs_types.specs.declared.value.Value.{Value}
use Rattle.gs_types.specs.declared.value.Value.TheVariants as value
use Rattle.gs_disk.specs.Folder.{Folder, DiskState, KeepsOthers}
use Rattle.gs_disk.specs.Moments.{EachNow, Always}
use Rattle.gs_disk.specs.Going.{always_then, always_wider}
use Rattle.gs_log.specs.Names.{log_name}
use Rattle.gs_entries.specs.Entries.{entry}
use Rattle.gs_entries.specs.declared.entry.Entry.{Entry}
use Rattle.gs_entries.specs.declared.entry.Entry.TheVariants as made
use Rattle.gs_store.specs.declared.err.StoreErr.{StoreErr}
use Rattle.gs_store.specs.Names.{out_name, version_name, IsKept}
use Rattle.gs_store.specs.Apart.{log_not_version}
use Rattle.gs_store.specs.Versions.{Among, Named, outs_kept}
use Rattle.gs_store.specs.Keeps.{Base, Keeps, KeepsEither}
use Rattle.gs_store.specs.Spans.{Stand, Stays, Adds}
use Rattle.gs_store.specs.State.{StoreState}
use Rattle.gs_store.specs.Told.{AddsEntry}
use Rattle.gs_keep.specs.Given.{PlacedFile, AreAbove, noted, files_in, file_at, file_names, AreRead}
use Rattle.gs_keep.proofs.Reading.{AreBelow}
use Rattle.gs_keep.specs.Kept.{PutsFiles, outs_with, with_files, KeepsOrDone, KeepsOutputs}

-- ---- no entry names the task's files

-- no entry names a version file of this task
abbrev pub Unnamed : ℕ → List Entry → Type 0
Unnamed n es = (k : ℕ) → Named (Out n k) es → ⊥

-- other versions are to be as before
pub same_outs : (n : ℕ) (files : List PlacedFile) (outs : Version → Option (List ℕ))
    (es : List Entry) (v : Version) → Unnamed n es → IsKept v → Named v es
    → outs_with n files outs v ≡ outs v
same_outs n files outs es (Original x) unnamed kept named = refl
same_outs n files outs es (Main k) unnamed kept named = refl
same_outs n files outs es (Out m k) unnamed kept named = elim (eqb_tells m n) [
  | inl same ↦ absurd (unnamed k (subst (λ (i : ℕ). Named (Out i k) es) same.1 named))
  | inr other ↦ ap (λ (b : Bool). if b then file_at files k else outs (Out m k)) other.0
]

to_files : (n : ℕ) (files : List PlacedFile) (base : Base) (es : List Entry) (image : Folder)
    → Unnamed n es → Keeps base es image → Keeps (with_files n files base) es image
to_files n files base es image unnamed k = record {
  entries = k.entries;
  user_files = k.user_files;
  versions = λ v kept named. k.versions v kept named
      ∙ sym (same_outs n files base.outs es v unnamed kept named);
}

from_files : (n : ℕ) (files : List PlacedFile) (base : Base) (es : List Entry) (image : Folder)
    → Unnamed n es → Keeps (with_files n files base) es image → Keeps base es image
from_files n files base es image unnamed k = record {
  entries = k.entries;
  user_files = k.user_files;
  versions = λ v kept named. k.versions v kept named
      ∙ same_outs n files base.outs es v unnamed kept named;
}

-- ---- what the new entry names

-- the version is one of these files of task n
pub record IsFile (n : ℕ) (files : List PlacedFile) (v : Version) : Type 0 where
  pub place : ℕ
  pub bytes : List ℕ
  pub is : v ≡ Out n place
  pub at : file_at files place ≡ Some bytes

-- these places are all above one
abbrev AreAll : ℕ → List PlacedFile → Type 0
AreAll low [] = Unit {0}
AreAll low (f ∷ fs) = (low < f.0) × AreAll f.0 fs

at_above : (low : ℕ) (fs : List PlacedFile) (k : ℕ) (bytes : List ℕ) → AreAll low fs
    → file_at fs k ≡ Some bytes → low < k
at_above low [] k bytes above at = absurd (cc)
at_above low (f ∷ fs) k bytes above at = elim (eqb_tells f.0 k) [
  | inl same ↦ subst (λ (i : ℕ). low < i) same.1 above.0
  | inr other ↦
      let more = at_above f.0 fs k bytes above.1
      (sym (ap (λ (b : Bool). if b then Some f.1 else file_at fs k) other.0) ∙ at) in
      omega (arith, above.0)
]

files_above : (low : ℕ) (places : List ℕ) (vs : List Value) → AreAbove low places
    → AreAll low (files_in (zip places vs))
files_above low [] vs above = tt
files_above low (place ∷ places) [] above = tt
files_above low (place ∷ places) (v ∷ vs) above =
    of_value v (files_above place places vs above.1)
  where
    wider : (fs : List PlacedFile) → AreAll place fs → AreAll low fs
    wider [] more = tt
    wider (f ∷ fs) more = (omega (arith, above.0, more.0), more.1)

    of_value : (v : Value) → AreAll place (files_in (zip places vs))
        → AreAll low (files_in ((place, v) ∷ zip places vs))
    of_value (value.File bytes) more = (above.0, more)
    of_value (value.Int i) more = wider (files_in (zip places vs)) more
    of_value (value.Str s) more = wider (files_in (zip places vs)) more

here_at : (place : ℕ) (bytes : List ℕ) (fs : List PlacedFile)
    → file_at ((place, bytes) ∷ fs) place ≡ Some bytes
here_at place bytes fs = ap (λ (b : Bool). if b then Some bytes else file_at fs place)
    (eq-eqb place place refl)

later_at : (low place : ℕ) (bytes more : List ℕ) (fs : List PlacedFile) → low < place
    → file_at fs place ≡ Some more → file_at ((low, bytes) ∷ fs) place ≡ Some more
later_at low place bytes more fs lt at =
    ap (λ (b : Bool). if b then Some bytes else file_at fs place)
    (ne_eqb low place (λ e. omega arith)) ∙ at

-- a version that the notes name is one of the files
pub named_file : (n low : ℕ) (places : List ℕ) (vs : List Value) (v : Version)
    → AreAbove low places → Among v (outs_kept n (map noted (zip places vs)))
    → IsFile n (files_in (zip places vs)) v
named_file n low [] vs v above among = absurd among
named_file n low (place ∷ places) [] v above among = absurd among
named_file n low (place ∷ places) (x ∷ vs) v above among =
    of_value x (named_file n place places vs v above.1) among
  where
    of_value : (x : Value)
        → (Among v (outs_kept n (map noted (zip places vs)))
        → IsFile n (files_in (zip places vs)) v)
        → Among v (outs_kept n (map noted ((place, x) ∷ zip places vs)))
        → IsFile n (files_in ((place, x) ∷ zip places vs)) v
    of_value (value.File bytes) more among = ⊎_elim (λ is. record {
      place = place;
      bytes = bytes;
      is = is;
      at = here_at place bytes (files_in (zip places vs));
    }) (λ h. let f = more h in record {
      place = f.place;
      bytes = f.bytes;
      is = f.is;
      at =
          later_at place f.place bytes f.bytes (files_in (zip places vs))
          (at_above place (files_in (zip places vs)) f.place f.bytes
          (files_above place places vs above.1) f.at) f.at;
    }) among
    of_value (value.Int i) more among = more among
    of_value (value.Str s) more among = more among

-- a file reads as its bytes
pub read_at : (n : ℕ) (fs : List PlacedFile) (folder : Folder) (k : ℕ) (bytes : List ℕ)
    → AreRead n fs folder → file_at fs k ≡ Some bytes → folder (out_name n k) ≡ Some bytes
read_at n [] folder k bytes read at = absurd (cc)
read_at n (f ∷ fs) folder k bytes read at = elim (eqb_tells f.0 k) [
  | inl same ↦
      ap (λ (i : ℕ). folder (out_name n i)) (sym same.1) ∙ read.0
      ∙ sym (ap (λ (b : Bool). if b then Some f.1 else file_at fs k) same.0) ∙ at
  | inr other ↦ read_at n fs folder k bytes read.1
      (sym (ap (λ (b : Bool). if b then Some f.1 else file_at fs k) other.0) ∙ at)
]

-- what the new entry names reads as it is to be
pub stand : (n op : ℕ) (places : List ℕ) (vs : List Value) (notes : List OutNote) (base : Base)
    (folder : Folder) → AreAbove 0 places → notes ≡ map noted (zip places vs)
    → AreRead n (files_in (zip places vs)) folder
    → Stand (with_files n (files_in (zip places vs)) base) (made.Done n op notes) folder
stand n op places vs notes base folder above is read v kept names =
    let f = named_file n 0 places vs v above
    (subst (λ (l : List OutNote). Among v (outs_kept n l)) is names) in
    let files = files_in (zip places vs) in
    let outs = outs_with n files base.outs in
    ap (λ (w : Version). folder (version_name w)) f.is
    ∙ read_at n files folder f.place f.bytes read f.at ∙ sym f.at
    ∙ sym (ap (λ (b : Bool). if b then file_at files f.place else base.outs (Out n f.place))
    (eq-eqb n n refl))
    ∙ sym (ap outs f.is)

-- ---- one after the other

joined_others : (n : ℕ) (fs : List PlacedFile) (f g h : Folder)
    → KeepsOthers (file_names n fs) f g → KeepsOthers (log_name ∷ []) g h
    → KeepsOthers (log_name ∷ file_names n fs) f h
joined_others n fs f g h one two = record {
  each = λ x out. two.each x (out.0, tt) ∙ one.each x out.1;
}

read_logged : (n : ℕ) (fs : List PlacedFile) (f g : Folder) → n < 2 ^ 32 → AreBelow 256 fs
    → KeepsOthers (log_name ∷ []) f g → AreRead n fs f → AreRead n fs g
read_logged n [] f g small low step read = tt
read_logged n (x ∷ fs) f g small low step read = (
  step.each (out_name n x.0)
      (λ same. log_not_version (Out n x.0) (small, low.0) (sym same), tt) ∙ read.0,
  read_logged n fs f g small low.1 step read.1,
)

-- what the new entry names reads as it is to be, whatever else is to be
abbrev pub Stands : (n : ℕ) → List PlacedFile → Entry → Folder → Type 0
Stands n files e folder = (base : Base) → Stand (with_files n files base) e folder

now_files : (es : List Entry) (n : ℕ) (files : List PlacedFile) (base : Base) (a b : DiskState)
    → Unnamed n es → Stays es a b → EachNow (Keeps base es) a
    → EachNow (Keeps (with_files n files base) es) b
now_files es n files base a b unnamed stay stands =
    (stay (with_files n files base)
    (λ image left. to_files n files base es image unnamed (stands image left))).now

joined_moments : (es : List Entry) (n : ℕ) (e : Entry) (files : List PlacedFile)
    (a b d : DiskState) → entry.fits e ≡ true → Unnamed n es → Stands n files e b.folder
    → Stays es a b → Adds es e b d
    → (base : Base) → EachNow (Keeps base es) a → Always (KeepsOrDone es e n files base) a d
joined_moments es n e files a b d fits unnamed stand stay adds base stands =
    let other = with_files n files base in
    let both = KeepsOrDone es e n files base in
    let first = always_wider (Keeps base es) both a b (stay base stands) (λ f k. inl k) in
    let last = adds other (now_files es n files base a b unnamed stay stands) (stand base) in
    always_then both a b d first
    (always_wider (KeepsEither other es e) both b d last
    (λ f k. ⊎_elim (λ h. inl (from_files n files base es f unnamed h))
    (λ h. inr (record { kept = h; fits = fits })) k))

-- the entry was added behind the files
pub joined : {T : Type 0} (kept : T) (r : Result (Unit {0}) StoreErr) (x : Unit {0})
    (store : StoreState) (n : ℕ) (e : Entry) (files : List PlacedFile) (a b d : DiskState)
    → n < 2 ^ 32 → AreBelow 256 files → entry.fits e ≡ true → Unnamed n store.entries
    → PutsFiles {T = Unit {0}} store n files a b (Ok tt) → Stands n files e b.folder
    → r ≡ Ok x → AddsEntry store e b d r
    → KeepsOutputs store e n files a d (Ok kept)
joined kept r x store n e files a b d small low fits unnamed puts stand is adds =
    let added = subst (AddsEntry {T = Unit {0}} store e b d) is adds in
    record {
      any_moment =
          joined_moments store.entries n e files a b d fits unnamed stand puts.any_moment
          added.any_moment;
      after = λ base stands image left. record {
        kept =
            added.after (with_files n files base)
            (now_files store.entries n files base a b unnamed puts.any_moment stands)
            (stand base) image left;
        fits = fits;
      };
      only = added.only;
      read = read_logged n files b.folder d.folder small low added.others puts.read;
      others =
          joined_others n files a.folder b.folder d.folder puts.others added.others;
      disk = added.disk;
    }

-- adding the entry behind the files failed
pub joined_failed : {T : Type 0} (failure : StoreErr) (r : Result (Unit {0}) StoreErr)
    (store : StoreState) (n : ℕ) (e : Entry) (files : List PlacedFile) (a b d : DiskState)
    → entry.fits e ≡ true → Unnamed n store.entries
    → PutsFiles {T = Unit {0}} store n files a b (Ok tt) → Stands n files e b.folder
    → AddsEntry store e b d r
    → KeepsOutputs {T = T} store e n files a d (Err failure)
joined_failed failure r store n e files a b d fits unnamed puts stand adds = record {
  any_moment =
      joined_moments store.entries n e files a b d fits unnamed stand puts.any_moment
      adds.any_moment;
  after = tt;
  only = tt;
  read = tt;
  others = joined_others n files a.folder b.folder d.folder puts.others adds.others;
  disk = tt;
}

-- there is no entry
pub not_joined : {T U : Type 0} (failure : StoreErr) (r : Result U StoreErr) (store : StoreState)
    (n : ℕ) (e : Entry) (files : List PlacedFile) (a b : DiskState) → PutsFiles store n files a b r
    → KeepsOutputs {T = T} store e n files a b (Err failure)
not_joined failure r store n e files a b puts = record {
  any_moment = λ base stands. always_wider (Keeps base store.entries)
      (KeepsOrDone store.entries e n files base) a b (puts.any_moment base stands)
      (λ f k. inl k);
  after = tt;
  only = tt;
  read = tt;
  others = record { each = λ x out. puts.others.each x out.1 };
  disk = tt;
}
