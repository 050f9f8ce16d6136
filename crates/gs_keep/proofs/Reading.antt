-- Files of a task, put one after the other.
use Rattle.std.proofs.Common.{◌≡◌, ◌≢◌, ◌+◌, ◌<◌, ◌^◌, ℕ, zero, suc, refl, sym, ap, ◌∙◌, subst, List, [], ◌∷◌, ◌++◌, length, take, drop, get_or, arith, true, ltb, min, Result, Ok, Err}
use Rattle.std.specs.Prelude.{OnOk}
use Rattle.std.specs.List.{zip}
use Rattle.std.proofs.lemmas.Bool.{ltb-true}
use Rattle.std.proofs.lemmas.List.{take_more, take-append-drop}
use Rattle.std.proofs.lemmas.Slice.Zip.{length-zip, get_or-zip}
use Rattle.std.proofs.Math.Seq.{take-length}
use Rattle.gs_types.specs.declared.note.Version.TheVariants.{Out}
use Rattle.gs_types.specs.declared.value.Value.{Value}
use Rattle.gs_types.specs.declared.value.Value.TheVariants as value
use Rattle.gs_disk.specs.Folder.{Folder, DiskState, KeepsOthers}
use Rattle.gs_disk.specs.Going.{AreAmong, always_started, always_then, keeps, keeps_none}
use Rattle.gs_fields.specs.Format.{all_fit}
use Rattle.gs_entries.specs.Notes.{place}
use Rattle.gs_entries.proofs.Loop.{both}
use Rattle.gs_entries.specs.declared.entry.Entry.{Entry}
use Rattle.gs_store.specs.declared.err.StoreErr.{StoreErr}
use Rattle.gs_store.specs.Names.{out_name}
use Rattle.gs_store.specs.Apart.{version_apart}
use Rattle.gs_store.specs.Keeps.{Keeps}
use Rattle.gs_store.specs.Spans.{Stays}
use Rattle.gs_store.specs.State.{StoreState, IsDiskOf}
use Rattle.gs_store.specs.Told.{PutsVersion}
use Rattle.gs_keep.specs.Given.{Placed, PlacedFile, AreAbove, files_in, file_names, AreRead}
use Rattle.gs_keep.specs.Kept.{PutsFiles}

-- ---- names and lists

out_is : (n j k : ℕ) → Out n j ≡ Out n k → j ≡ k
out_is n j k e = cc

names_apart : (n j k : ℕ) → n < 2 ^ 32 → j < k → k < 2 ^ 8 → out_name n j ≢ out_name n k
names_apart n j k small less low =
    version_apart (Out n j) (Out n k) (small, omega arith) (small, low)
    (λ same. let e = out_is n j k same in omega arith)

-- each of these files is at a place below this one
abbrev pub AreBelow : ℕ → List PlacedFile → Type 0
AreBelow k [] = Unit {0}
AreBelow k (f ∷ fs) = (f.0 < k) × AreBelow k fs

read_stays : (n k : ℕ) (fs : List PlacedFile) (f g : Folder) → n < 2 ^ 32 → k < 2 ^ 8
    → AreBelow k fs → KeepsOthers (out_name n k ∷ []) f g → AreRead n fs f → AreRead n fs g
read_stays n k [] f g small low below step read = tt
read_stays n k (x ∷ fs) f g small low below step read = (
  step.each (out_name n x.0) (names_apart n x.0 k small below.0 low, tt) ∙ read.0,
  read_stays n k fs f g small low below.1 step read.1,
)

read_push : (n : ℕ) (fs gs : List PlacedFile) (folder : Folder) → AreRead n fs folder
    → AreRead n gs folder → AreRead n (fs ++ gs) folder
read_push n [] gs folder read more = more
read_push n (f ∷ fs) gs folder read more = (read.0, read_push n fs gs folder read.1 more)

-- names that are out of all are out of the first and out of the last
first_among : (n : ℕ) (fs gs : List PlacedFile)
    → AreAmong (file_names n fs) (file_names n (fs ++ gs))
first_among n [] gs x out = tt
first_among n (f ∷ fs) gs x out = (out.0, first_among n fs gs x out.1)

last_among : (n : ℕ) (fs gs : List PlacedFile)
    → AreAmong (file_names n gs) (file_names n (fs ++ gs))
last_among n [] gs x out = out
last_among n (f ∷ fs) gs x out = last_among n fs gs x out.1

keeps_wider : (names few : List (List ℕ)) (f g : Folder) → AreAmong few names
    → KeepsOthers few f g → KeepsOthers names f g
keeps_wider names few f g among step = record { each = λ x out. step.each x (among x out) }

-- ---- one after the other

stays_then : (es : List Entry) (a b d : DiskState) → Stays es a b → Stays es b d → Stays es a d
stays_then es a b d one two base stands =
    let first = one base stands in
    always_then (Keeps base es) a b d first (two base first.now)

-- before the first
pub puts_none : {T : Type 0} (r : Result T StoreErr) (store : StoreState) (n : ℕ) (s : DiskState)
    → IsDiskOf store s → PutsFiles store n [] s s r
puts_none (Ok x) store n s disk = record {
  any_moment = λ base stands. always_started (Keeps base store.entries) s stands;
  read = tt;
  others = keeps_none [] s.folder;
  disk = disk;
}
puts_none (Err e) store n s disk = record {
  any_moment = λ base stands. always_started (Keeps base store.entries) s stands;
  read = tt;
  others = keeps_none [] s.folder;
  disk = disk;
}

-- the one file of a place
pub puts_one : {T : Type 0} (r : Result T StoreErr) (store : StoreState) (n place : ℕ)
    (bytes : List ℕ) (a b : DiskState) → PutsVersion store (Out n place) bytes a b r
    → PutsFiles store n ((place, bytes) ∷ []) a b r
puts_one (Ok x) store n place bytes a b h = record {
  any_moment = h.any_moment;
  read = (h.put, tt);
  others = h.others;
  disk = h.disk;
}
puts_one (Err e) store n place bytes a b h = record {
  any_moment = h.any_moment;
  read = tt;
  others = h.others;
  disk = h.disk;
}

-- an answer behind these files, by which no more of them need to read
puts_behind : {T U : Type 0} (r : Result T StoreErr) (q : Result U StoreErr) (store : StoreState)
    (n : ℕ) (fs gs : List PlacedFile) (a b : DiskState)
    → OnOk q (AreRead n (fs ++ gs) b.folder)
    → PutsFiles store n fs a b r → PutsFiles store n (fs ++ gs) a b q
puts_behind r q store n fs gs a b read h = record {
  any_moment = h.any_moment;
  read = read;
  others =
      keeps_wider (file_names n (fs ++ gs)) (file_names n fs) a.folder b.folder
      (first_among n fs gs) h.others;
  disk = h.disk;
}

-- an answer of another type
pub puts_so : {T U : Type 0} (x : T) (y : U) (store : StoreState) (n : ℕ)
    (fs : List PlacedFile) (a b : DiskState) → PutsFiles {T = T} store n fs a b (Ok x)
    → PutsFiles {T = U} store n fs a b (Ok y)
puts_so x y store n fs a b h = record {
  any_moment = h.any_moment;
  read = h.read;
  others = h.others;
  disk = h.disk;
}

-- the files of one place more
abbrev files_at : ℕ → Value → List PlacedFile
files_at place v = files_in ((place, v) ∷ [])

read_behind : {T : Type 0} (r : Result T StoreErr) (n place : ℕ) (v : Value)
    (fs : List PlacedFile) (f g : Folder) → n < 2 ^ 32 → place < 2 ^ 8 → AreBelow place fs
    → KeepsOthers (file_names n (files_at place v)) f g → AreRead n fs f
    → OnOk r (AreRead n (files_at place v) g) → OnOk r (AreRead n (fs ++ files_at place v) g)
read_behind (Err e) n place v fs f g small low below step read here = tt
read_behind (Ok x) n place v fs f g small low below step read here =
    read_push n fs (files_at place v) g (stayed v step) here
  where
    stayed : (v : Value) → KeepsOthers (file_names n (files_at place v)) f g → AreRead n fs g
    stayed (value.File bytes) step = read_stays n place fs f g small low below step read
    stayed (value.Int i) step = same_read fs read
      where
        same_read : (fs : List PlacedFile) → AreRead n fs f → AreRead n fs g
        same_read [] read = tt
        same_read (h ∷ fs) read = (step.each (out_name n h.0) tt ∙ read.0, same_read fs read.1)
    stayed (value.Str s) step = same_read fs read
      where
        same_read : (fs : List PlacedFile) → AreRead n fs f → AreRead n fs g
        same_read [] read = tt
        same_read (h ∷ fs) read = (step.each (out_name n h.0) tt ∙ read.0, same_read fs read.1)

-- one place more
pub puts_then : {T U : Type 0} (x : T) (r : Result U StoreErr) (store : StoreState)
    (n place : ℕ) (v : Value) (fs : List PlacedFile) (a b d : DiskState) → n < 2 ^ 32
    → place < 2 ^ 8 → AreBelow place fs
    → PutsFiles store n fs a b (Ok x)
    → PutsFiles store n (files_in ((place, v) ∷ [])) b d r
    → PutsFiles store n (fs ++ files_in ((place, v) ∷ [])) a d r
puts_then x r store n place v fs a b d small low below one two = record {
  any_moment = stays_then store.entries a b d one.any_moment two.any_moment;
  read = read_behind r n place v fs b.folder d.folder small low below two.others one.read two.read;
  others = joined;
  disk = two.disk;
}
  where
    joined : KeepsOthers (file_names n (fs ++ files_at place v)) a.folder d.folder
    joined =
        let gs = files_at place v in
        keeps (file_names n (fs ++ gs)) (file_names n gs) (last_among n fs gs) a.folder b.folder
        d.folder
        (keeps_wider (file_names n (fs ++ gs)) (file_names n fs) a.folder b.folder
        (first_among n fs gs) one.others) two.others

-- ---- the files of the outputs so far

pub files_push : (xs ys : List Placed) → files_in (xs ++ ys) ≡ files_in xs ++ files_in ys
files_push [] ys = refl
files_push (x ∷ xs) ys = of_value x.1 (files_push xs ys)
  where
    of_value : (v : Value) → files_in (xs ++ ys) ≡ files_in xs ++ files_in ys
        → files_in ((x.0, v) ∷ (xs ++ ys)) ≡ files_in ((x.0, v) ∷ xs) ++ files_in ys
    of_value (value.File bytes) more =
        ap (λ (l : List PlacedFile). (x.0, bytes) ∷ l) more
    of_value (value.Int i) more = more
    of_value (value.Str s) more = more

above_at : (low : ℕ) (places : List ℕ) (i : ℕ) → AreAbove low places → i < length places
    → low < get_or places i 0
above_at low [] i above lt = absurd (omega arith)
above_at low (place ∷ places) zero above lt = above.0
above_at low (place ∷ places) (suc i) above lt =
    let more = above_at place places i above.1 (omega arith) in omega (arith, above.0)

-- the files of the places before one are below it
pub files_below : (low : ℕ) (places : List ℕ) (vs : List Value) (i : ℕ) → AreAbove low places
    → i < length places → AreBelow (get_or places i 0) (files_in (take i (zip places vs)))
files_below low places vs zero above lt = tt
files_below low [] vs (suc i) above lt = tt
files_below low (place ∷ places) [] (suc i) above lt = tt
files_below low (place ∷ places) (v ∷ vs) (suc i) above lt =
    of_value v (above_at place places i above.1 (omega arith))
    (files_below place places vs i above.1 (omega arith))
  where
    of_value : (v : Value) → place < get_or places i 0
        → AreBelow (get_or places i 0) (files_in (take i (zip places vs)))
        → AreBelow (get_or places i 0) (files_in ((place, v) ∷ take i (zip places vs)))
    of_value (value.File bytes) less more = (less, more)
    of_value (value.Int x) less more = more
    of_value (value.Str s) less more = more

-- ---- the outputs one by one

-- one output more
pub taken_more : (places : List ℕ) (vs : List Value) (i : ℕ) (v : Value) → i < length places
    → i < length vs → v ≡ get_or vs i v
    → take (i + 1) (zip places vs) ≡ take i (zip places vs) ++ (get_or places i 0, v) ∷ []
taken_more places vs i v here there is =
    let d : Placed = (0, v) in
    take_more (zip places vs) i d (omega (arith, length-zip places vs))
    ∙ ap (λ (x : Placed). take i (zip places vs) ++ x ∷ [])
    (get_or-zip places vs i d here there ∙ ap (λ (w : Value). (get_or places i 0, w)) (sym is))

pub files_more : (places : List ℕ) (vs : List Value) (i : ℕ) (v : Value) → i < length places
    → i < length vs → v ≡ get_or vs i v
    → files_in (take (i + 1) (zip places vs))
    ≡ files_in (take i (zip places vs)) ++ files_in ((get_or places i 0, v) ∷ [])
files_more places vs i v here there is =
    ap files_in (taken_more places vs i v here there is)
    ∙ files_push (take i (zip places vs)) ((get_or places i 0, v) ∷ [])

pub files_all : (xs : List Placed) (i : ℕ)
    → files_in (take i xs) ++ files_in (drop i xs) ≡ files_in xs
files_all xs i = sym (files_push (take i xs) (drop i xs)) ∙ ap files_in (take-append-drop i xs)

pub taken_all : (places : List ℕ) (vs : List Value) (i : ℕ)
    → i ≡ min (length places) (length vs) → take i (zip places vs) ≡ zip places vs
taken_all places vs i is =
    ap (λ (j : ℕ). take j (zip places vs)) (is ∙ sym (length-zip places vs))
    ∙ take-length (zip places vs)

-- each place is a byte
pub places_small : (places : List ℕ) (vs : List Value) → all_fit place places ≡ true
    → AreBelow 256 (files_in (zip places vs))
places_small [] vs fit = tt
places_small (k ∷ places) [] fit = tt
places_small (k ∷ places) (v ∷ vs) fit =
    let parts = both (place.fits k) (all_fit place places) fit in
    of_value v (ltb-true k 256 (both (ltb k 256) _ parts.0).0) (places_small places vs parts.1)
  where
    of_value : (v : Value) → k < 256 → AreBelow 256 (files_in (zip places vs))
        → AreBelow 256 (files_in ((k, v) ∷ zip places vs))
    of_value (value.File bytes) here more = (here, more)
    of_value (value.Int i) here more = more
    of_value (value.Str s) here more = more

-- a place of an output is one
pub all_fit_at : (places : List ℕ) (i : ℕ) → all_fit place places ≡ true → i < length places
    → place.fits (get_or places i 0) ≡ true
all_fit_at [] i fit lt = absurd (omega arith)
all_fit_at (k ∷ places) zero fit lt = (both (place.fits k) (all_fit place places) fit).0
all_fit_at (k ∷ places) (suc i) fit lt =
    all_fit_at places i (both (place.fits k) (all_fit place places) fit).1 (omega arith)

-- the files of one output more
pub puts_step : {T : Type 0} (r : Result T StoreErr) (store s : StoreState) (n : ℕ)
    (places : List ℕ) (vs : List Value) (i : ℕ) (v : Value) (a b d : DiskState) → s ≡ store
    → n < 2 ^ 32 → all_fit place places ≡ true → AreAbove 0 places → i < length places
    → i < length vs → v ≡ get_or vs i v
    → PutsFiles {T = Unit {0}} store n (files_in (take i (zip places vs))) a b (Ok tt)
    → PutsFiles s n (files_in ((get_or places i 0, v) ∷ [])) b d r
    → PutsFiles store n (files_in (take (i + 1) (zip places vs))) a d r
puts_step r store s n places vs i v a b d same small fit rise here there is one two =
    let k = get_or places i 0 in
    let low = ltb-true k 256 (both (ltb k 256) _ (all_fit_at places i fit here)).0 in
    subst (λ (fs : List PlacedFile). PutsFiles store n fs a d r)
    (sym (files_more places vs i v here there is))
    (puts_then tt r store n k v (files_in (take i (zip places vs))) a b d small low
    (files_below 0 places vs i rise here) one
    (subst (λ (t : StoreState). PutsFiles t n (files_in ((k, v) ∷ [])) b d r) same two))

-- an answer at some of the outputs
pub puts_short : {T U : Type 0} (r : Result T StoreErr) (q : Result U StoreErr)
    (store : StoreState) (n : ℕ) (xs : List Placed) (i : ℕ) (a d : DiskState)
    → OnOk q (AreRead n (files_in xs) d.folder)
    → PutsFiles store n (files_in (take i xs)) a d r → PutsFiles store n (files_in xs) a d q
puts_short r q store n xs i a d read h =
    let all = files_all xs i in
    subst (λ (fs : List PlacedFile). PutsFiles store n fs a d q) all
    (puts_behind r q store n (files_in (take i xs)) (files_in (drop i xs)) a d
    (subst (λ (fs : List PlacedFile). OnOk q (AreRead n fs d.folder)) (sym all) read) h)

-- the answer at all outputs
pub puts_all : {T : Type 0} (y : T) (store : StoreState) (n : ℕ) (places : List ℕ)
    (vs : List Value) (i : ℕ) (a d : DiskState) → i ≡ min (length places) (length vs)
    → PutsFiles {T = Unit {0}} store n (files_in (take i (zip places vs))) a d (Ok tt)
    → PutsFiles store n (files_in (zip places vs)) a d (Ok y)
puts_all y store n places vs i a d is h =
    puts_so tt y store n (files_in (zip places vs)) a d
    (subst (λ (xs : List Placed). PutsFiles {T = Unit {0}} store n (files_in xs) a d (Ok tt))
    (taken_all places vs i is) h)
