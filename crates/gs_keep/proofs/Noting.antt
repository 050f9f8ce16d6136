-- What is noted of outputs, and that the entry is within the limits.
use Rattle.std.proofs.Common.{◌≡◌, ◌+◌, ◌<◌, ◌≤◌, ◌^◌, ℕ, zero, suc, Bool, true, false, refl, sym, ap, ◌∙◌, subst, List, [], ◌∷◌, ◌++◌, map, length, drop, arith, append_assoc, Some, if◌then◌else◌, leb, ltb}
use Rattle.std.specs.Prelude.{option_map}
use Rattle.std.specs.List.{All, zip, slice_get}
use Rattle.std.proofs.lemmas.Bool.{lt-ltb, le-leb, and_from}
use Rattle.std.proofs.lemmas.List.{length-map}
use Rattle.gs_idl.specs.Interface.{Param, Signature, IsOpSized, params_at, is_output}
use Rattle.gs_idl.specs.declared.idl.Dir.{Dir}
use Rattle.gs_types.specs.declared.note.OutNote.{OutNote}
use Rattle.gs_types.specs.declared.value.Value.{Value}
use Rattle.gs_types.specs.declared.value.Value.TheVariants as value
use Rattle.gs_disk.specs.Folder.{Folder}
use Rattle.gs_fields.specs.Format.{byte, all_fit, counted}
use Rattle.gs_entries.specs.Notes as formats
use Rattle.gs_entries.specs.Notes.{rising, task, operation, outs}
use Rattle.gs_entries.proofs.Loop.{both}
use Rattle.gs_entries.specs.Entries.{entry}
use Rattle.gs_entries.specs.declared.entry.Entry.TheVariants as made
use Rattle.gs_store.specs.Versions.{AllStand, outs_kept}
use Rattle.gs_tables.specs.Outs.{first_noted, outs_noted}
use Rattle.gs_keep.specs.Given.{output_places, Placed, noted, AreAbove, files_in, AreRead}

-- ---- the notes by the places

-- outputs are noted in order at the places that give something
pub noted_in_order : (place : ℕ) (ps : List Param) (vs : List Value)
    → outs_noted place ps vs ≡ map noted (zip (output_places place ps) vs)
noted_in_order place [] vs = refl
noted_in_order place (p ∷ ps) vs = of_test (noted_in_order (suc place) ps) (is_output p.dir) vs
  where
    of_test : ((vs : List Value)
        → outs_noted (suc place) ps vs ≡ map noted (zip (output_places (suc place) ps) vs))
        → (b : Bool) (vs : List Value)
        → (if b then first_noted place vs (outs_noted (suc place) ps)
        else outs_noted (suc place) ps vs)
        ≡ map noted (zip (if b then place ∷ output_places (suc place) ps
        else output_places (suc place) ps) vs)
    of_test more true [] = refl
    of_test more true (v ∷ vs) = ap (λ (l : List OutNote). noted (place, v) ∷ l) (more vs)
    of_test more false vs = more vs

-- ---- the places

above_less : (low high : ℕ) (places : List ℕ) → low < high → AreAbove high places
    → AreAbove low places
above_less low high [] lt above = tt
above_less low high (place ∷ places) lt above = (omega (arith, above.0), above.1)

pub places_rise : (low place : ℕ) (ps : List Param) → low < place
    → AreAbove low (output_places place ps)
places_rise low place [] lt = tt
places_rise low place (p ∷ ps) lt =
    of_test (places_rise place (suc place) ps (omega arith))
    (places_rise low (suc place) ps (omega arith)) (is_output p.dir)
  where
    of_test : AreAbove place (output_places (suc place) ps)
        → AreAbove low (output_places (suc place) ps) → (b : Bool)
        → AreAbove low (if b then place ∷ output_places (suc place) ps
        else output_places (suc place) ps)
    of_test here later true = (lt, here)
    of_test here later false = later

place_fits : (place : ℕ) → 1 ≤ place → place ≤ 16 → formats.place.fits place ≡ true
place_fits place low high =
    and_from (ltb place 256) _ (lt-ltb place 256 (omega arith))
    (and_from (leb 1 place) (leb place 16) (le-leb 1 place low) (le-leb place 16 high))

pub places_fit : (place : ℕ) (ps : List Param) → 1 ≤ place → place + length ps ≤ 17
    → all_fit formats.place (output_places place ps) ≡ true
places_fit place [] low high = refl
places_fit place (p ∷ ps) low high =
    of_test (places_fit (suc place) ps (omega arith) (omega arith)) (is_output p.dir)
  where
    of_test : all_fit formats.place (output_places (suc place) ps) ≡ true → (b : Bool)
        → all_fit formats.place (if b then place ∷ output_places (suc place) ps
        else output_places (suc place) ps) ≡ true
    of_test more true =
        and_from (formats.place.fits place) _ (place_fits place low (omega arith)) more
    of_test more false = more

pub places_few : (place : ℕ) (ps : List Param)
    → length (output_places place ps) ≤ length ps
places_few place [] = omega arith
places_few place (p ∷ ps) = of_test (places_few (suc place) ps) (is_output p.dir)
  where
    of_test : length (output_places (suc place) ps) ≤ length ps → (b : Bool)
        → length (if b then place ∷ output_places (suc place) ps
        else output_places (suc place) ps) ≤ suc (length ps)
    of_test more true = omega arith
    of_test more false = omega arith

-- ---- the entry

zip_few : (places : List ℕ) (vs : List Value) → length (zip places vs) ≤ length places
zip_few [] vs = omega arith
zip_few (place ∷ places) [] = omega arith
zip_few (place ∷ places) (v ∷ vs) = let more = zip_few places vs in omega arith

noted_rise : (low : ℕ) (places : List ℕ) (vs : List Value) → AreAbove low places
    → rising low (map noted (zip places vs)) ≡ true
noted_rise low [] vs above = refl
noted_rise low (place ∷ places) [] above = refl
noted_rise low (place ∷ places) (v ∷ vs) above =
    and_from (ltb low place) _ (lt-ltb low place above.0) (noted_rise place places vs above.1)

-- the entry of outputs that are noted in order is within the limits
pub done_fits : (n op : ℕ) (places : List ℕ) (vs : List Value) (notes : List OutNote) → 1 ≤ n
    → n ≤ 10000 → op < 64 → length places ≤ 16 → AreAbove 0 places
    → notes ≡ map noted (zip places vs)
    → all_fit formats.out notes ≡ true → entry.fits (made.Done n op notes) ≡ true
unfolding entry
done_fits n op places vs notes low high known few above is fit =
    and_from (task.fits n) _
    (and_from (ltb n (2 ^ 32)) _ (lt-ltb n (2 ^ 32) (omega arith))
    (and_from (leb 1 n) _ (le-leb 1 n low) (le-leb n 10000 high)))
    (and_from (operation.fits op) _
    (and_from (ltb op 256) _ (lt-ltb op 256 (omega arith)) (lt-ltb op 64 known))
    (and_from ((counted byte formats.out).fits notes) _
    (and_from (ltb (length notes) 256) _ (lt-ltb (length notes) 256 few_notes) fit)
    (subst (λ (l : List OutNote). rising 0 l ≡ true) (sym is) (noted_rise 0 places vs above))))
  where
    few_notes : length notes < 256
    few_notes = omega (
      arith,
      ap length is,
      length-map (zip places vs) noted,
      zip_few places vs,
    )

-- ---- the files

-- the files of the notes stand with their lengths where they read as their bytes
pub all_stand : (n : ℕ) (xs : List Placed) (folder : Folder) → AreRead n (files_in xs) folder
    → AllStand folder (outs_kept n (map noted xs))
all_stand n [] folder read = tt
all_stand n (x ∷ xs) folder read = of_value x.1 read (all_stand n xs folder)
  where
    of_value : (v : Value) → AreRead n (files_in ((x.0, v) ∷ xs)) folder
        → (AreRead n (files_in xs) folder → AllStand folder (outs_kept n (map noted xs)))
        → AllStand folder (outs_kept n (map noted ((x.0, v) ∷ xs)))
    of_value (value.File bytes) read more =
        (ap (option_map length) read.0, more read.1)
    of_value (value.Int v) read more = more read
    of_value (value.Str s) read more = more read

-- ---- the places one by one

-- the next place, by the direction of its parameter
pub places_next : (place i : ℕ) (ps : List Param) (d : Dir)
    → option_map (λ p. p.dir) (slice_get ps i) ≡ Some d
    → output_places place (drop i ps) ≡ (if is_output d
    then place ∷ output_places (suc place) (drop (suc i) ps)
    else output_places (suc place) (drop (suc i) ps))
places_next place i [] d is = absurd (cc)
places_next place zero (p ∷ ps) d is =
    let same : p.dir ≡ d = cc in
    ap (λ (e : Dir). if is_output e then place ∷ output_places (suc place) ps
    else output_places (suc place) ps) same
places_next place (suc i) (p ∷ ps) d is = places_next place i ps d is

places_at : (ps : List Param) (i : ℕ) (d : Dir)
    → option_map (λ p. p.dir) (slice_get ps i) ≡ Some d
    → output_places (i + 1) (drop i ps) ≡ (if is_output d
    then (i + 1) ∷ output_places (i + 1 + 1) (drop (i + 1) ps)
    else output_places (i + 1 + 1) (drop (i + 1) ps))
places_at ps i d is =
    let a : suc (i + 1) ≡ i + 1 + 1 = omega arith in
    let b : suc i ≡ i + 1 = omega arith in
    places_next (i + 1) i ps d is
    ∙ ap (λ (q : List ℕ). if is_output d then (i + 1) ∷ q else q)
    (ap (λ (k : ℕ). output_places k (drop (suc i) ps)) a
    ∙ ap (λ (k : ℕ). output_places (i + 1 + 1) (drop k ps)) b)

-- a parameter that gives something
pub places_pushed : (items : List ℕ) (ps : List Param) (i : ℕ) (d : Dir) (whole : List ℕ)
    → option_map (λ p. p.dir) (slice_get ps i) ≡ Some d → is_output d ≡ true
    → items ++ output_places (i + 1) (drop i ps) ≡ whole
    → (items ++ (i + 1) ∷ []) ++ output_places (i + 1 + 1) (drop (i + 1) ps) ≡ whole
places_pushed items ps i d whole is out so_far =
    let next = output_places (i + 1 + 1) (drop (i + 1) ps) in
    append_assoc items ((i + 1) ∷ []) next
    ∙ ap (λ (q : List ℕ). items ++ q)
    (sym (places_at ps i d is ∙ ap (λ (b : Bool). if b then (i + 1) ∷ next else next) out))
    ∙ so_far

-- one that gives nothing
pub places_kept : (items : List ℕ) (ps : List Param) (i : ℕ) (d : Dir) (whole : List ℕ)
    → option_map (λ p. p.dir) (slice_get ps i) ≡ Some d → is_output d ≡ false
    → items ++ output_places (i + 1) (drop i ps) ≡ whole
    → items ++ output_places (i + 1 + 1) (drop (i + 1) ps) ≡ whole
places_kept items ps i d whole is out so_far =
    let next = output_places (i + 1 + 1) (drop (i + 1) ps) in
    ap (λ (q : List ℕ). items ++ q)
    (sym (places_at ps i d is ∙ ap (λ (b : Bool). if b then (i + 1) ∷ next else next) out))
    ∙ so_far

-- operations have few parameters
pub params_few : (ops : List Signature) (op : ℕ) → All IsOpSized ops → op < length ops
    → length (params_at ops op) ≤ 16
params_few [] op each lt = absurd (omega arith)
params_few (o ∷ ops) zero each lt = (each 0 o (omega arith)).few
params_few (o ∷ ops) (suc op) each lt =
    params_few ops op (λ k d less. each (suc k) d (omega arith)) (omega arith)

-- ---- the notes one by one

all_fit_push : (notes : List OutNote) (o : OutNote) → all_fit formats.out notes ≡ true
    → formats.out.fits o ≡ true → all_fit formats.out (notes ++ o ∷ []) ≡ true
all_fit_push [] o fit here = and_from (formats.out.fits o) true here refl
all_fit_push (x ∷ notes) o fit here =
    let parts = both (formats.out.fits x) (all_fit formats.out notes) fit in
    and_from (formats.out.fits x) _ parts.0 (all_fit_push notes o parts.1 here)

pub fit_more : (old new : List OutNote) (o : OutNote) → new ≡ old ++ o ∷ []
    → all_fit formats.out old ≡ true → formats.out.fits o ≡ true
    → all_fit formats.out new ≡ true
fit_more old new o is fit here = ap (all_fit formats.out) is ∙ all_fit_push old o fit here

noted_push : (xs : List Placed) (x : Placed) → map noted (xs ++ x ∷ [])
    ≡ map noted xs ++ noted x ∷ []
noted_push [] x = refl
noted_push (y ∷ xs) x = ap (λ (l : List OutNote). noted y ∷ l) (noted_push xs x)

-- the note of one output more
pub noted_more : (old new : List OutNote) (o : OutNote) (xs ys : List Placed) (x : Placed)
    → new ≡ old ++ o ∷ [] → old ≡ map noted xs → o ≡ noted x → ys ≡ xs ++ x ∷ []
    → new ≡ map noted ys
noted_more old new o xs ys x is so_far here more =
    is ∙ ap (λ (l : List OutNote). l ++ o ∷ []) so_far
    ∙ ap (λ (p : OutNote). map noted xs ++ p ∷ []) here ∙ sym (noted_push xs x)
    ∙ sym (ap (map noted) more)
