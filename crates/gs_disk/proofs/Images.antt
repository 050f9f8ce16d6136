-- How the images go on: what was an image before a call, for each image after it.
use Rattle.std.proofs.Common.{◌≡◌, ◌≢◌, ◌⊎◌, inl, inr, ⊎_elim, ℕ, ◌+◌, ◌<◌, ◌≤◌, List, [], ◌∷◌, ◌++◌, length, take, get_or, take_all, length-take-le, le_refl, Option, Some, None, cond, true, false, refl, sym, ◌∙◌, ap, subst, arith}
use Rattle.std.specs.Prelude.{Bool, bytes_eq, filter, slice_index}
use Rattle.std.proofs.Math.Bool.{not}
use Rattle.std.proofs.lemmas.Slice.Eq.{bytes_eq-Decides}
use Rattle.std.proofs.lemmas.List.{ext_get_or}
use Rattle.std.proofs.lemmas.Grind.{common_steps}
use Rattle.gs_disk.specs.Folder.{Folder, Outside, KeepsOthers, Torn, TornFile, Tears, overwritten}
use Rattle.std.specs.Ordering.{nat_cmp}
use Rattle.std.specs.Cmp.Lexicographic.{slice_cmp}
use Rattle.std.specs.BTreeMap.{is_at}
use Rattle.std.proofs.lemmas.Map.Text.{is_eq-slice_cmp}
use Rattle.gs_disk.specs.Mem.{Files, folder_of, Puts, is_other, Done, unsynced_in, with_file}
use Rattle.gs_disk.proofs.Bytes.{mid, length_mid, mid_in, mid_out, torn_mid, three_ways, overwritten_at, length_overwritten, longer_overwritten}
use Rattle.gs_disk.specs.Images.{Range, Unsynced, Unwritten, EndsBy, MayRead, MayStand, IsLeft, IsImage}

-- two names are one or not
pub one_or_other : (a b : List ℕ) → (a ≡ b) ⊎ (a ≢ b)
one_or_other a b = elim (bytes_eq a b) as (λ t. bytes_eq a b ≡ t → (a ≡ b) ⊎ (a ≢ b)) [ true ↦ λ e. inl ((bytes_eq-Decides a b).0 e) | false ↦ λ e. inr (λ same. no_both a b e ((bytes_eq-Decides a b).1 same)) ] refl
  where
    no_both : (a b : List ℕ) → bytes_eq a b ≡ false → bytes_eq a b ≡ true → ⊥
    no_both a b e f = cc

-- what stands in a folder but at one name
pub at_name : List ℕ → Option (List ℕ) → Folder → Folder
at_name name file folder x = cond (bytes_eq name x) file (folder x)

pub at_here : (name : List ℕ) (file : Option (List ℕ)) (folder : Folder) → at_name name file folder name ≡ file
unfolding at_name
at_here name file folder = rw ((bytes_eq-Decides name name).1 refl) refl

pub at_other : (name : List ℕ) (file : Option (List ℕ)) (folder : Folder) (x : List ℕ) → x ≢ name → at_name name file folder x ≡ folder x
unfolding at_name
at_other name file folder x other = elim (bytes_eq name x) as (λ t. bytes_eq name x ≡ t → cond t file (folder x) ≡ folder x) [ true ↦ λ e. absurd (other (sym ((bytes_eq-Decides name x).0 e))) | false ↦ λ e. refl ] refl

pub is_among_or : (names : List (List ℕ)) (x : List ℕ) → Outside names x ⊎ (Outside names x → ⊥)
is_among_or [] x = inl tt
is_among_or (n ∷ names) x = ⊎_elim (λ same. inr (λ out. out.0 same)) (λ other. ⊎_elim (λ out. inl (other, out)) (λ within. inr (λ out. within out.1)) (is_among_or names x)) (one_or_other x n)

pub outside_push : (names : List (List ℕ)) (name x : List ℕ) → Outside (names ++ name ∷ []) x → Outside names x × (x ≢ name)
outside_push [] name x out = (tt, out.0)
outside_push (n ∷ names) name x out = let rest = outside_push names name x out.1 in ((out.0, rest.0), rest.1)

pub outside_pushed : (names : List (List ℕ)) (name x : List ℕ) → Outside names x → x ≢ name → Outside (names ++ name ∷ []) x
outside_pushed [] name x out other = (other, tt)
outside_pushed (n ∷ names) name x out other = (out.0, outside_pushed names name x out.1 other)

-- the byte k of the file x is none of this range
abbrev pub Beside : Range → List ℕ → ℕ → Type 0
Beside r x k = r.name ≡ x → r.at ≤ k → k < r.at + r.len → ⊥

pub unwritten_push : (rs : List Range) (r : Range) (x : List ℕ) (k : ℕ) → Unwritten (rs ++ r ∷ []) x k → Unwritten rs x k × Beside r x k
unwritten_push [] r x k un = (tt, un.0)
unwritten_push (q ∷ rs) r x k un = let rest = unwritten_push rs r x k un.1 in ((un.0, rest.0), rest.1)

pub unwritten_pushed : (rs : List Range) (r : Range) (x : List ℕ) (k : ℕ) → Unwritten rs x k → Beside r x k → Unwritten (rs ++ r ∷ []) x k
unwritten_pushed [] r x k un beside = (beside, tt)
unwritten_pushed (q ∷ rs) r x k un beside = (un.0, unwritten_pushed rs r x k un.1 beside)

pub ends_push : (rs : List Range) (r : Range) (x : List ℕ) (end : ℕ) → EndsBy (rs ++ r ∷ []) x end → EndsBy rs x end × (r.name ≡ x → r.at + r.len ≤ end)
ends_push [] r x end by = (tt, by.0)
ends_push (q ∷ rs) r x end by = let rest = ends_push rs r x end by.1 in ((by.0, rest.0), rest.1)

pub ends_pushed : (rs : List Range) (r : Range) (x : List ℕ) (end : ℕ) → EndsBy rs x end → (r.name ≡ x → r.at + r.len ≤ end) → EndsBy (rs ++ r ∷ []) x end
ends_pushed [] r x end by more = (more, tt)
ends_pushed (q ∷ rs) r x end by more = (by.0, ends_pushed rs r x end by.1 more)

pub ends_or : (rs : List Range) (x : List ℕ) (end : ℕ) → EndsBy rs x end ⊎ (EndsBy rs x end → ⊥)
ends_or [] x end = inl tt
ends_or (r ∷ rs) x end = ⊎_elim
    (λ here. ⊎_elim (λ rest. inl (here, rest)) (λ past. inr (λ by. past by.1)) (ends_or rs x end))
    (λ past. inr (λ by. past by.0))
    (ends_one r x end)
  where
    le_or : (a b : ℕ) → (a ≤ b) ⊎ (b < a)
    le_or a b = grind arith

    ends_one : (r : Range) (x : List ℕ) (end : ℕ) → (r.name ≡ x → r.at + r.len ≤ end) ⊎ ((r.name ≡ x → r.at + r.len ≤ end) → ⊥)
    ends_one r x end = ⊎_elim
        (λ same. ⊎_elim (λ le. inl (λ e. le)) (λ lt. inr (λ by. let le = by same in omega arith)) (le_or (r.at + r.len) end))
        (λ other. inl (λ e. absurd (other e)))
        (one_or_other r.name x)

pub may_read_same : (rs : List Range) (x bytes : List ℕ) → MayRead rs x bytes bytes
may_read_same rs x bytes = record { no_shorter = omega arith; no_longer = λ by. refl; kept = λ k lt un. refl }

pub may_stand_same : (rs : List Range) (x : List ℕ) (file : Option (List ℕ)) → MayStand rs x file file
may_stand_same rs x None = refl
may_stand_same rs x (Some bytes) = (bytes, refl, may_read_same rs x bytes)

-- more may stand where more was written
pub may_read_more : (rs : List Range) (r : Range) (x old new : List ℕ) → MayRead rs x old new → MayRead (rs ++ r ∷ []) x old new
may_read_more rs r x old new m = record {
  no_shorter = m.no_shorter;
  no_longer = λ by. m.no_longer (ends_push rs r x (length old) by).0;
  kept = λ k lt un. m.kept k lt (unwritten_push rs r x k un).0;
}

-- and no more where another file was
pub may_read_other : (rs : List Range) (r : Range) (x old new : List ℕ) → r.name ≢ x → MayRead (rs ++ r ∷ []) x old new → MayRead rs x old new
may_read_other rs r x old new other m = record {
  no_shorter = m.no_shorter;
  no_longer = λ by. m.no_longer (ends_pushed rs r x (length old) by (λ same. absurd (other same)));
  kept = λ k lt un. m.kept k lt (unwritten_pushed rs r x k un (λ same. absurd (other same)));
}

pub may_stand_more : (rs : List Range) (r : Range) (x : List ℕ) (old new : Option (List ℕ)) → MayStand rs x old new → MayStand (rs ++ r ∷ []) x old new
may_stand_more rs r x None new m = m
may_stand_more rs r x (Some bytes) new m = (m.0, m.1, may_read_more rs r x bytes m.0 m.2)

pub may_stand_other : (rs : List Range) (r : Range) (x : List ℕ) (old new : Option (List ℕ)) → r.name ≢ x → MayStand (rs ++ r ∷ []) x old new → MayStand rs x old new
may_stand_other rs r x None new other m = m
may_stand_other rs r x (Some bytes) new other m = (m.0, m.1, may_read_other rs r x bytes m.0 other m.2)

-- where nothing was written, nothing changed
may_stand_none : (x : List ℕ) (old new : Option (List ℕ)) → MayStand [] x old new → new ≡ old
may_stand_none x None new m = m
may_stand_none x (Some bytes) new m = m.1 ∙ ap (λ (l : List ℕ). Some l) (ext_get_or 0 m.0 bytes (m.2.no_longer tt) (λ i lt. m.2.kept i (omega (arith, m.2.no_longer tt)) tt))

-- each image after a call was one before it, and then a step
abbrev pub Follows : (Folder → Folder → Type 0) → Unsynced → Folder → Unsynced → Folder → Type 0
Follows step u reads v new = (image : Folder) → IsImage v new image → (before : Folder) × IsImage u reads before × step before image

pub renamed_follows : (u : Unsynced) (name : List ℕ) (reads new : Folder) → KeepsOthers (name ∷ []) reads new → Follows (KeepsOthers (name ∷ [])) u reads (record u { renamed = u.renamed ++ name ∷ [] }) new
renamed_follows u name reads new others image (inl is) = (reads, inl refl, subst (KeepsOthers (name ∷ []) reads) (sym is) others)
renamed_follows u name reads new others image (inr left) = (at_name name (u.synced name) image, inr (record { each = each }), record { each = λ x out. sym (at_other name (u.synced name) image x out.0) })
  where
    each : (x : List ℕ) → Outside u.renamed x → MayStand u.written x (u.synced x) (at_name name (u.synced name) image x)
    each x out = ⊎_elim
        (λ same. subst (λ (y : List ℕ). MayStand u.written y (u.synced y) (at_name name (u.synced name) image y)) (sym same)
        (subst (λ (o : Option (List ℕ)). MayStand u.written name (u.synced name) o) (sym (at_here name (u.synced name) image)) (may_stand_same u.written name (u.synced name))))
        (λ other. subst (λ (o : Option (List ℕ)). MayStand u.written x (u.synced x) o) (sym (at_other name (u.synced name) image x other)) (left.each x (outside_pushed u.renamed name x out other)))
        (one_or_other x name)

pub tears_same : (at n : ℕ) (file : Option (List ℕ)) → TornFile at n file file
tears_same at n None = refl
tears_same at n (Some bytes) = (bytes, refl, record { no_shorter = omega arith; before = λ le. refl; beyond = λ le. take_all (length bytes) bytes (le_refl _); after = λ le. refl; no_longer = λ le. refl })

-- what a file's bytes may have been before a torn write
pub may_read_before : (rs : List Range) (r : Range) (old new : List ℕ) → MayRead (rs ++ r ∷ []) r.name old new → (middle : List ℕ) × MayRead rs r.name old middle × Torn r.at r.len middle new
may_read_before rs r old new m = ⊎_elim by_old by_new (ends_or rs r.name (length old))
  where
    middle : (base : List ℕ) → length old ≤ length base → base ≡ take (length base) new → length base ≤ length new → (r.at + r.len ≤ length base → length new ≡ length base) → (EndsBy rs r.name (length old) → length base ≡ length old)
        → (middle : List ℕ) × MayRead rs r.name old middle × Torn r.at r.len middle new
    middle base room front le whole long = (
      mid r.at r.len old base room,
      record {
        no_shorter = omega (arith, length_mid r.at r.len old base room);
        no_longer = λ by. length_mid r.at r.len old base room ∙ long by;
        kept = λ k lt un. kept base room front k lt un;
      },
      torn_mid r.at r.len old base room new front le whole,
    )
      where
        get_or-take : (n : ℕ) (l : List ℕ) (k : ℕ) → k < n → get_or (take n l) k 0 ≡ get_or l k 0
        get_or-take n l k lt = grind (arith, common_steps)

        from_new : (base : List ℕ) → length old ≤ length base → base ≡ take (length base) new → (k : ℕ) → k < length old → get_or base k 0 ≡ get_or new k 0
        from_new base room front k lt = ap (λ (l : List ℕ). get_or l k 0) front ∙ get_or-take (length base) new k (omega arith)

        kept : (base : List ℕ) (room : length old ≤ length base) → base ≡ take (length base) new → (k : ℕ) → k < length old → Unwritten rs r.name k → slice_index (mid r.at r.len old base room) k ≡ slice_index old k
        kept base room front k lt un = elim (three_ways k r.at (r.at + r.len)) [
          | inl below ↦ mid_out r.at r.len old base room k (omega arith) (inl below) ∙ from_new base room front k lt ∙ m.kept k lt (unwritten_pushed rs r r.name k un (λ same from to. absurd (omega arith)))
          | inr (inl within) ↦ mid_in r.at r.len old base room k within.0 within.1 lt
          | inr (inr above) ↦ mid_out r.at r.len old base room k (omega arith) (inr above) ∙ from_new base room front k lt ∙ m.kept k lt (unwritten_pushed rs r r.name k un (λ same from to. absurd (omega arith)))
        ]

    by_old : EndsBy rs r.name (length old) → (middle : List ℕ) × MayRead rs r.name old middle × Torn r.at r.len middle new
    by_old ends =
        let size : length (take (length old) new) ≡ length old = length-take-le (length old) new m.no_shorter in
        middle (take (length old) new) (omega (arith, size)) (ap (λ (k : ℕ). take k new) (sym size)) (omega (arith, size, m.no_shorter)) (λ fits. m.no_longer (ends_pushed rs r r.name (length old) ends (λ same. omega (arith, fits, size))) ∙ sym size) (λ by. size)

    by_new : (EndsBy rs r.name (length old) → ⊥) → (middle : List ℕ) × MayRead rs r.name old middle × Torn r.at r.len middle new
    by_new past = middle new m.no_shorter (sym (take_all (length new) new (le_refl _))) (le_refl _) (λ fits. refl) (λ by. absurd (past by))

abbrev pub TornFrom : Unsynced → Range → Folder → Type 0
TornFrom u r image = (before : Folder) × IsLeft u before × Tears r.name r.at r.len before image

torn_at : (u : Unsynced) (r : Range) (image : Folder) → IsLeft (record u { written = u.written ++ r ∷ [] }) image → (old : List ℕ) → u.synced r.name ≡ Some old → MayStand (u.written ++ r ∷ []) r.name (Some old) (image r.name) → TornFrom u r image
torn_at u r image left old is stand =
    let middle = may_read_before u.written r old stand.0 stand.2 in (
      at_name r.name (Some middle.0) image,
      record {
        each = λ x out. ⊎_elim
            (λ same. subst (λ (y : List ℕ). MayStand u.written y (u.synced y) (at_name r.name (Some middle.0) image y)) (sym same)
            (subst (λ (o : Option (List ℕ)). MayStand u.written r.name (u.synced r.name) o) (sym (at_here r.name (Some middle.0) image))
            (subst (λ (o : Option (List ℕ)). MayStand u.written r.name o (Some middle.0)) (sym is) (middle.0, refl, middle.1))))
            (λ other. subst (λ (o : Option (List ℕ)). MayStand u.written x (u.synced x) o) (sym (at_other r.name (Some middle.0) image x other)) (may_stand_other u.written r x (u.synced x) (image x) (λ same. other (sym same)) (left.each x out)))
            (one_or_other x r.name);
      },
      record {
        others = record { each = λ x out. sym (at_other r.name (Some middle.0) image x out.0) };
        file = subst (λ (o : Option (List ℕ)). TornFile r.at r.len o (image r.name)) (sym (at_here r.name (Some middle.0) image)) (stand.0, stand.1, middle.2);
      },
    )

torn_left : (u : Unsynced) (r : Range) (image : Folder) → IsLeft (record u { written = u.written ++ r ∷ [] }) image → TornFrom u r image
torn_left u r image left = ⊎_elim outside within (is_among_or u.renamed r.name)
  where
    other_left : (x : List ℕ) → Outside u.renamed x → x ≢ r.name → MayStand u.written x (u.synced x) (image x)
    other_left x out other = may_stand_other u.written r x (u.synced x) (image x) (λ same. other (sym same)) (left.each x out)

    itself : Tears r.name r.at r.len image image
    itself = record { others = record { each = λ x out. refl }; file = tears_same r.at r.len (image r.name) }

    within : (Outside u.renamed r.name → ⊥) → TornFrom u r image
    within among = (image, record { each = λ x out. other_left x out (λ same. among (subst (Outside u.renamed) same out)) }, itself)

    absent : Outside u.renamed r.name → u.synced r.name ≡ None → TornFrom u r image
    absent out is = (
      image,
      record {
        each = λ x o. ⊎_elim
            (λ same. subst (λ (y : List ℕ). MayStand u.written y (u.synced y) (image y)) (sym same)
            (subst (λ (f : Option (List ℕ)). MayStand u.written r.name f (image r.name)) (sym is)
            (subst (λ (f : Option (List ℕ)). MayStand (u.written ++ r ∷ []) r.name f (image r.name)) is (left.each r.name out))))
            (other_left x o)
            (one_or_other x r.name);
      },
      itself,
    )

    outside : Outside u.renamed r.name → TornFrom u r image
    outside out = elim (u.synced r.name) as (λ f. u.synced r.name ≡ f → TornFrom u r image) [
      | None ↦ λ is. absent out is
      | Some old ↦ λ is. torn_at u r image left old is (subst (λ (f : Option (List ℕ)). MayStand (u.written ++ r ∷ []) r.name f (image r.name)) is (left.each r.name out))
    ] refl

pub written_follows : (u : Unsynced) (r : Range) (reads new : Folder) → Tears r.name r.at r.len reads new → Follows (Tears r.name r.at r.len) u reads (record u { written = u.written ++ r ∷ [] }) new
written_follows u r reads new tears image (inl is) = (reads, inl refl, subst (Tears r.name r.at r.len reads) (sym is) tears)
written_follows u r reads new tears image (inr left) = let from = torn_left u r image left in (from.0, inr from.1, from.2)

-- after a sync that succeeded
abbrev pub settled_at : Folder → Unsynced
settled_at reads = record { synced = reads; renamed = []; written = [] }

pub settled_only : (reads image : Folder) → IsImage (settled_at reads) reads image → image ≡ reads
settled_only reads image (inl is) = is
settled_only reads image (inr left) = λ i x. may_stand_none x (reads x) (image x) (left.each x tt) i

-- what reads stays one that may be left
pub stands_renamed : (u : Unsynced) (name : List ℕ) (reads new : Folder) → IsLeft u reads → KeepsOthers (name ∷ []) reads new → IsLeft (record u { renamed = u.renamed ++ name ∷ [] }) new
stands_renamed u name reads new left others = record {
  each = λ x out.
      let apart = outside_push u.renamed name x out in
      subst (λ (o : Option (List ℕ)). MayStand u.written x (u.synced x) o) (sym (others.each x (apart.1, tt))) (left.each x apart.0);
}

stands_more : (u : Unsynced) (r : Range) (reads : Folder) → IsLeft u reads → IsLeft (record u { written = u.written ++ r ∷ [] }) reads
stands_more u r reads left = record { each = λ x out. may_stand_more u.written r x (u.synced x) (reads x) (left.each x out) }

may_read_after : (rs : List Range) (name : List ℕ) (at : ℕ) (bytes old file : List ℕ) → MayRead rs name old file → at ≤ length file → MayRead (rs ++ record { name = name; at = at; len = length bytes } ∷ []) name old (overwritten at bytes file)
may_read_after rs name at bytes old file m le = record {
  no_shorter = omega (arith, m.no_shorter, longer_overwritten at bytes file le);
  no_longer = λ by.
      let both = ends_push rs (record { name = name; at = at; len = length bytes }) name (length old) by in
      let same : length file ≡ length old = m.no_longer both.0 in
      length_overwritten at bytes file le (omega (arith, both.1 refl, same)) ∙ same;
  kept = λ k lt un.
      let both = unwritten_push rs (record { name = name; at = at; len = length bytes }) name k un in
      kept k lt both.0 both.1;
}
  where
    kept : (k : ℕ) → k < length old → Unwritten rs name k → Beside (record { name = name; at = at; len = length bytes }) name k → get_or (overwritten at bytes file) k 0 ≡ get_or old k 0
    kept k lt un beside = elim (three_ways k at (at + length bytes)) [
      | inl below ↦ overwritten_at at bytes file k le (omega (arith, m.no_shorter)) (inl below) ∙ m.kept k lt un
      | inr (inl within) ↦ absurd (beside refl within.0 within.1)
      | inr (inr above) ↦ overwritten_at at bytes file k le (omega (arith, m.no_shorter)) (inr above) ∙ m.kept k lt un
    ]

may_stand_after : (rs : List Range) (name : List ℕ) (at : ℕ) (bytes file : List ℕ) (old : Option (List ℕ)) → MayStand rs name old (Some file) → at ≤ length file → MayStand (rs ++ record { name = name; at = at; len = length bytes } ∷ []) name old (Some (overwritten at bytes file))
may_stand_after rs name at bytes file None m le = absurd (cc)
may_stand_after rs name at bytes file (Some old) m le =
    let is : file ≡ m.0 = cc in
    (overwritten at bytes file, refl, may_read_after rs name at bytes old file (subst (λ (l : List ℕ). MayRead rs name old l) (sym is) m.2) le)

pub stands_written : (u : Unsynced) (name : List ℕ) (at : ℕ) (bytes file : List ℕ) (reads new : Folder) → IsLeft u reads → reads name ≡ Some file → at ≤ length file → (new ≡ reads) ⊎ Puts name (Some (overwritten at bytes file)) reads new
    → IsLeft (record u { written = u.written ++ record { name = name; at = at; len = length bytes } ∷ [] }) new
stands_written u name at bytes file reads new left stood le (inl same) = subst (IsLeft (record u { written = u.written ++ record { name = name; at = at; len = length bytes } ∷ [] })) (sym same) (stands_more u (record { name = name; at = at; len = length bytes }) reads left)
stands_written u name at bytes file reads new left stood le (inr put) = record { each = each }
  where
    each : (x : List ℕ) → Outside u.renamed x → MayStand (u.written ++ record { name = name; at = at; len = length bytes } ∷ []) x (u.synced x) (new x)
    each x out = ⊎_elim
        (λ same. subst (λ (y : List ℕ). MayStand (u.written ++ record { name = name; at = at; len = length bytes } ∷ []) y (u.synced y) (new y)) (sym same)
        (subst (λ (o : Option (List ℕ)). MayStand (u.written ++ record { name = name; at = at; len = length bytes } ∷ []) name (u.synced name) o) (sym put.here)
        (may_stand_after u.written name at bytes file (u.synced name) (subst (λ (o : Option (List ℕ)). MayStand u.written name (u.synced name) o) stood (left.each name (subst (Outside u.renamed) same out))) le)))
        (λ other. subst (λ (o : Option (List ℕ)). MayStand (u.written ++ record { name = name; at = at; len = length bytes } ∷ []) x (u.synced x) o) (sym (put.others x other)) (may_stand_more u.written (record { name = name; at = at; len = length bytes }) x (u.synced x) (reads x) (left.each x out)))
        (one_or_other x name)

pub stands_settled : (reads : Folder) → IsLeft (settled_at reads) reads
stands_settled reads = record { each = λ x out. may_stand_same [] x (reads x) }

-- what is left of a list without one name

pub is_one : (a b : List ℕ) → is_other a b ≡ false → a ≡ b
is_one a b same = elim (bytes_eq a b) as (λ t. bytes_eq a b ≡ t → not t ≡ false → a ≡ b) [ true ↦ λ e f. (bytes_eq-Decides a b).0 e | false ↦ λ e f. absurd (cc (f)) ] refl same

pub is_beside : (a b : List ℕ) → is_other a b ≡ true → a ≢ b
is_beside a b other same = elim (bytes_eq a b) as (λ t. bytes_eq a b ≡ t → not t ≡ true → ⊥) [ true ↦ λ e f. cc (f) | false ↦ λ e f. no_both a b e ((bytes_eq-Decides a b).1 same) ] refl other
  where
    no_both : (a b : List ℕ) → bytes_eq a b ≡ false → bytes_eq a b ≡ true → ⊥
    no_both a b e f = cc

pub outside_without : (name : List ℕ) (names : List (List ℕ)) (x : List ℕ) → x ≢ name → Outside (filter (is_other name) names) x → Outside names x
outside_without name [] x other out = tt
outside_without name (n ∷ names) x other out = elim (is_other name n) as (λ t. is_other name n ≡ t → Outside (cond t (n ∷ filter (is_other name) names) (filter (is_other name) names)) x → Outside (n ∷ names) x) [
  | true ↦ λ e o. (o.0, outside_without name names x other o.1)
  | false ↦ λ e o. (λ same. other (same ∙ sym (is_one name n e)), outside_without name names x other o)
] refl out

pub outside_fewer : (name : List ℕ) (names : List (List ℕ)) (x : List ℕ) → Outside names x → Outside (filter (is_other name) names) x
outside_fewer name [] x out = tt
outside_fewer name (n ∷ names) x out = elim (is_other name n) as (λ t. Outside (cond t (n ∷ filter (is_other name) names) (filter (is_other name) names)) x) [
  | true ↦ (out.0, outside_fewer name names x out.1)
  | false ↦ outside_fewer name names x out.1
]

abbrev pub ranges_without : List ℕ → List Range → List Range
ranges_without name rs = filter (λ r. is_other name r.name) rs

unwritten_fewer : (name : List ℕ) (rs : List Range) (x : List ℕ) (k : ℕ) → Unwritten rs x k → Unwritten (ranges_without name rs) x k
unwritten_fewer name [] x k un = tt
unwritten_fewer name (r ∷ rs) x k un = elim (is_other name r.name) as (λ t. Unwritten (cond t (r ∷ ranges_without name rs) (ranges_without name rs)) x k) [
  | true ↦ (un.0, unwritten_fewer name rs x k un.1)
  | false ↦ unwritten_fewer name rs x k un.1
]

unwritten_without : (name : List ℕ) (rs : List Range) (x : List ℕ) (k : ℕ) → x ≢ name → Unwritten (ranges_without name rs) x k → Unwritten rs x k
unwritten_without name [] x k other un = tt
unwritten_without name (r ∷ rs) x k other un = elim (is_other name r.name) as (λ t. is_other name r.name ≡ t → Unwritten (cond t (r ∷ ranges_without name rs) (ranges_without name rs)) x k → Unwritten (r ∷ rs) x k) [
  | true ↦ λ e u. (u.0, unwritten_without name rs x k other u.1)
  | false ↦ λ e u. (λ same. absurd (other (sym same ∙ sym (is_one name r.name e))), unwritten_without name rs x k other u)
] refl un

ends_fewer : (name : List ℕ) (rs : List Range) (x : List ℕ) (end : ℕ) → EndsBy rs x end → EndsBy (ranges_without name rs) x end
ends_fewer name [] x end by = tt
ends_fewer name (r ∷ rs) x end by = elim (is_other name r.name) as (λ t. EndsBy (cond t (r ∷ ranges_without name rs) (ranges_without name rs)) x end) [
  | true ↦ (by.0, ends_fewer name rs x end by.1)
  | false ↦ ends_fewer name rs x end by.1
]

ends_without : (name : List ℕ) (rs : List Range) (x : List ℕ) (end : ℕ) → x ≢ name → EndsBy (ranges_without name rs) x end → EndsBy rs x end
ends_without name [] x end other by = tt
ends_without name (r ∷ rs) x end other by = elim (is_other name r.name) as (λ t. is_other name r.name ≡ t → EndsBy (cond t (r ∷ ranges_without name rs) (ranges_without name rs)) x end → EndsBy (r ∷ rs) x end) [
  | true ↦ λ e b. (b.0, ends_without name rs x end other b.1)
  | false ↦ λ e b. (λ same. absurd (other (sym same ∙ sym (is_one name r.name e))), ends_without name rs x end other b)
] refl by

may_stand_without : (name : List ℕ) (rs : List Range) (x : List ℕ) (old new : Option (List ℕ)) → MayStand (ranges_without name rs) x old new → MayStand rs x old new
may_stand_without name rs x None new m = m
may_stand_without name rs x (Some bytes) new m = (
  m.0,
  m.1,
  record {
    no_shorter = m.2.no_shorter;
    no_longer = λ by. m.2.no_longer (ends_fewer name rs x (length bytes) by);
    kept = λ k lt un. m.2.kept k lt (unwritten_fewer name rs x k un);
  },
)

may_stand_beside : (name : List ℕ) (rs : List Range) (x : List ℕ) (old new : Option (List ℕ)) → x ≢ name → MayStand rs x old new → MayStand (ranges_without name rs) x old new
may_stand_beside name rs x None new other m = m
may_stand_beside name rs x (Some bytes) new other m = (
  m.0,
  m.1,
  record {
    no_shorter = m.2.no_shorter;
    no_longer = λ by. m.2.no_longer (ends_without name rs x (length bytes) other by);
    kept = λ k lt un. m.2.kept k lt (unwritten_without name rs x k other un);
  },
)

-- a synced file was put there

abbrev pub file_put : List ℕ → List ℕ → Unsynced → Unsynced
file_put name bytes u = record { synced = at_name name (Some bytes) u.synced; renamed = filter (is_other name) u.renamed; written = ranges_without name u.written }

folder_put : (name bytes : List ℕ) (files : Files) → folder_of ((name, bytes) ∷ files) ≡ at_name name (Some bytes) (folder_of files)
unfolding at_name
folder_put name bytes files = λ i x. same x i
  where
    swapped : (a b : List ℕ) → bytes_eq a b ≡ bytes_eq b a
    swapped a b = elim (bytes_eq a b) as (λ t. bytes_eq a b ≡ t → t ≡ bytes_eq b a) [
      | true ↦ λ e. sym ((bytes_eq-Decides b a).1 (sym ((bytes_eq-Decides a b).0 e)))
      | false ↦ λ e. elim (bytes_eq b a) as (λ t. bytes_eq b a ≡ t → false ≡ t) [ true ↦ λ f. sym e ∙ (bytes_eq-Decides a b).1 (sym ((bytes_eq-Decides b a).0 f)) | false ↦ λ f. refl ] refl
    ] refl

    same : (x : List ℕ) → cond (is_at (slice_cmp nat_cmp x) name) (Some bytes) (folder_of files x) ≡ cond (bytes_eq name x) (Some bytes) (folder_of files x)
    same x = ap (λ (t : Bool). cond t (Some bytes) (folder_of files x)) (is_eq-slice_cmp x name ∙ swapped x name)

pub file_put_in : (name bytes : List ℕ) (d : Done) → unsynced_in (with_file name bytes d) ≡ file_put name bytes (unsynced_in d)
file_put_in name bytes d = λ i. record { synced = folder_put name bytes d.synced i; renamed = filter (is_other name) d.renamed; written = ranges_without name d.written }

pub added_follows : (u : Unsynced) (name bytes : List ℕ) (reads new : Folder) → Puts name (Some bytes) reads new → Follows (KeepsOthers (name ∷ [])) u reads (file_put name bytes u) new
added_follows u name bytes reads new put image (inl is) = (reads, inl refl, record { each = λ x out. ap (λ (f : Folder). f x) is ∙ put.others x out.0 })
added_follows u name bytes reads new put image (inr left) = (at_name name (u.synced name) image, inr (record { each = each }), record { each = λ x out. sym (at_other name (u.synced name) image x out.0) })
  where
    each : (x : List ℕ) → Outside u.renamed x → MayStand u.written x (u.synced x) (at_name name (u.synced name) image x)
    each x out = ⊎_elim
        (λ same. subst (λ (y : List ℕ). MayStand u.written y (u.synced y) (at_name name (u.synced name) image y)) (sym same)
        (subst (λ (o : Option (List ℕ)). MayStand u.written name (u.synced name) o) (sym (at_here name (u.synced name) image)) (may_stand_same u.written name (u.synced name))))
        (λ other. subst (λ (o : Option (List ℕ)). MayStand u.written x (u.synced x) o) (sym (at_other name (u.synced name) image x other))
        (may_stand_without name u.written x (u.synced x) (image x)
        (subst (λ (o : Option (List ℕ)). MayStand (ranges_without name u.written) x o (image x)) (at_other name (Some bytes) u.synced x other) (left.each x (outside_fewer name u.renamed x out)))))
        (one_or_other x name)

pub stands_added : (u : Unsynced) (name bytes : List ℕ) (reads new : Folder) → IsLeft u reads → Puts name (Some bytes) reads new → IsLeft (file_put name bytes u) new
stands_added u name bytes reads new left put = record { each = each }
  where
    each : (x : List ℕ) → Outside (filter (is_other name) u.renamed) x → MayStand (ranges_without name u.written) x (at_name name (Some bytes) u.synced x) (new x)
    each x out = ⊎_elim
        (λ same. subst (λ (y : List ℕ). MayStand (ranges_without name u.written) y (at_name name (Some bytes) u.synced y) (new y)) (sym same)
        (subst (λ (o : Option (List ℕ)). MayStand (ranges_without name u.written) name o (new name)) (sym (at_here name (Some bytes) u.synced))
        (subst (λ (o : Option (List ℕ)). MayStand (ranges_without name u.written) name (Some bytes) o) (sym put.here) (may_stand_same (ranges_without name u.written) name (Some bytes)))))
        (λ other. subst (λ (o : Option (List ℕ)). MayStand (ranges_without name u.written) x o (new x)) (sym (at_other name (Some bytes) u.synced x other))
        (subst (λ (o : Option (List ℕ)). MayStand (ranges_without name u.written) x (u.synced x) o) (sym (put.others x other))
        (may_stand_beside name u.written x (u.synced x) (reads x) other (left.each x (outside_without name u.renamed x other out)))))
        (one_or_other x name)

-- no write of that name is left
ends_at : (name : List ℕ) (rs : List Range) (end : ℕ) → EndsBy (ranges_without name rs) name end
ends_at name [] end = tt
ends_at name (r ∷ rs) end = elim (is_other name r.name) as (λ t. is_other name r.name ≡ t → EndsBy (cond t (r ∷ ranges_without name rs) (ranges_without name rs)) name end) [
  | true ↦ λ e. (λ same. absurd (is_beside name r.name e (sym same)), ends_at name rs end)
  | false ↦ λ e. ends_at name rs end
] refl

unwritten_at : (name : List ℕ) (rs : List Range) (k : ℕ) → Unwritten (ranges_without name rs) name k
unwritten_at name [] k = tt
unwritten_at name (r ∷ rs) k = elim (is_other name r.name) as (λ t. is_other name r.name ≡ t → Unwritten (cond t (r ∷ ranges_without name rs) (ranges_without name rs)) name k) [
  | true ↦ λ e. (λ same. absurd (is_beside name r.name e (sym same)), unwritten_at name rs k)
  | false ↦ λ e. unwritten_at name rs k
] refl

outside_at : (name : List ℕ) (names : List (List ℕ)) → Outside (filter (is_other name) names) name
outside_at name [] = tt
outside_at name (n ∷ names) = elim (is_other name n) as (λ t. is_other name n ≡ t → Outside (cond t (n ∷ filter (is_other name) names) (filter (is_other name) names)) name) [
  | true ↦ λ e. (is_beside name n e, outside_at name names)
  | false ↦ λ e. outside_at name names
] refl

pub added_here : (u : Unsynced) (name bytes : List ℕ) (new image : Folder) → new name ≡ Some bytes → IsImage (file_put name bytes u) new image → image name ≡ Some bytes
added_here u name bytes new image here (inl is) = ap (λ (f : Folder). f name) is ∙ here
added_here u name bytes new image here (inr left) =
    let m : MayStand (ranges_without name u.written) name (Some bytes) (image name) = subst (λ (o : Option (List ℕ)). MayStand (ranges_without name u.written) name o (image name)) (at_here name (Some bytes) u.synced) (left.each name (outside_at name u.renamed)) in
    let size : length m.0 ≡ length bytes = m.2.no_longer (ends_at name u.written (length bytes)) in
    m.1 ∙ ap (λ (l : List ℕ). Some l) (ext_get_or 0 m.0 bytes size (λ i lt. m.2.kept i (omega (arith, size)) (unwritten_at name u.written i)))
