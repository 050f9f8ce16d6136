-- Lists item by item.
use Rattle.std.proofs.Common.{◌≡◌, ◌<◌, ◌≤◌, ◌+◌, ◌&&◌, ◌==◌, ℕ, zero, suc, Bool, true, false, refl, sym, ap, ◌∙◌, List, [], ◌∷◌, ◌++◌, length, take, drop, arith, nat_eq, Option, Some, None, if◌then◌else◌}
use Rattle.std.specs.Prelude.{min, get_or, option_map}
use Rattle.std.proofs.lemmas.Bool.Decides.{nat_tests}
use Rattle.std.specs.List.{slice_get}
use Rattle.gs_idl.specs.Interface.{Param, is_output}
use Rattle.gs_idl.specs.declared.idl.Dir.{Dir}
use Rattle.gs_idl.specs.declared.idl.ParamKind.{ParamKind}
use Rattle.gs_types.specs.declared.note.Version.{Version}
use Rattle.gs_types.specs.declared.note.OutNote.{OutNote}
use Rattle.gs_history.specs.Notes.{gives_first, are_given}
use Rattle.gs_talk.specs.declared.question.CallArg.{CallArg}
use Rattle.gs_tables.specs.Rows.{given_length, read_lengths}
use Rattle.gs_tables.specs.Noted.{given_at}
use Rattle.gs_tables.specs.Sources.{source_of, sources}
use Rattle.gs_tables.specs.Starts.{is_both, both_at, start_arg, start_args_by}
use Rattle.gs_tables.specs.declared.row.Row.{Row}
use Rattle.gs_tables.specs.declared.row.StartArg.{StartArg}

some_same : {A : Type 0} (a b : A) → ◌≡◌ {A = Option A} (Some a) (Some b) → a ≡ b
some_same a b e = cc

pub lengths_next : (rows : List Row) (i : ℕ) (reads : List (Option Version)) (kept : List ℕ) (v : Option Version) (n : ℕ) → slice_get reads i ≡ Some v → slice_get kept i ≡ Some n
    → read_lengths rows (drop i reads) (drop i kept) ≡ n + given_length rows v + read_lengths rows (drop (suc i) reads) (drop (suc i) kept)
lengths_next rows i [] kept v n e f = absurd cc
lengths_next rows i (w ∷ reads) [] v n e f = absurd cc
lengths_next rows zero (w ∷ reads) (m ∷ kept) v n e f =
    let a = some_same w v e in
    let b = some_same m n f in
    ap (λ (x : Option Version). m + given_length rows x + read_lengths rows reads kept) a ∙ ap (λ (x : ℕ). x + given_length rows v + read_lengths rows reads kept) b
lengths_next rows (suc i) (w ∷ reads) (m ∷ kept) v n e f = lengths_next rows i reads kept v n e f

pub lengths_end : (rows : List Row) (i : ℕ) (reads : List (Option Version)) (kept : List ℕ) → min (length reads) (length kept) ≤ i → read_lengths rows (drop i reads) (drop i kept) ≡ 0
lengths_end rows zero [] kept le = refl
lengths_end rows (suc i) [] kept le = refl
lengths_end rows zero (v ∷ reads) [] le = refl
lengths_end rows (suc i) (v ∷ reads) [] le = none (drop i reads)
  where
    none : (l : List (Option Version)) → read_lengths rows l [] ≡ 0
    none [] = refl
    none (v ∷ l) = refl
lengths_end rows zero (v ∷ reads) (n ∷ kept) le = absurd (omega arith)
lengths_end rows (suc i) (v ∷ reads) (n ∷ kept) le = lengths_end rows i reads kept (omega arith)

pub sources_next : (n i : ℕ) (reads : List (Option Version)) (v : Option Version) → slice_get reads i ≡ Some v → sources n (take (suc i) reads) ≡ sources n (take i reads) ++ source_of n v
sources_next n i [] v e = absurd cc
sources_next n zero (w ∷ reads) v e = let same = some_same w v e in ap (λ (x : Option Version). source_of n x ++ []) same ∙ with_none (source_of n v)
  where
    with_none : (l : List ℕ) → l ++ [] ≡ l
    with_none [] = refl
    with_none (x ∷ l) = ap (λ (r : List ℕ). x ∷ r) (with_none l)
sources_next n (suc i) (w ∷ reads) v e = ap (λ (l : List ℕ). source_of n w ++ l) (sources_next n i reads v e) ∙ three (source_of n w) (sources n (take i reads)) (source_of n v)
  where
    three : (a b c : List ℕ) → a ++ (b ++ c) ≡ (a ++ b) ++ c
    three [] b c = refl
    three (x ∷ a) b c = ap (λ (r : List ℕ). x ∷ r) (three a b c)

pub starts_next : (rows : List Row) (i : ℕ) (ps : List Param) (reads : List (Option Version)) (kept : List ℕ) (called : List CallArg) (v : Option Version) (n : ℕ) (a : CallArg)
    → slice_get reads i ≡ Some v → slice_get kept i ≡ Some n → slice_get called i ≡ Some a
    → start_args_by rows (drop i ps) (drop i reads) (drop i kept) (drop i called) ≡ start_arg rows v n (both_at ps i) a ∷ start_args_by rows (drop (suc i) ps) (drop (suc i) reads) (drop (suc i) kept) (drop (suc i) called)
starts_next rows i ps [] kept called v n a e f g = absurd cc
starts_next rows i ps (w ∷ reads) [] called v n a e f g = absurd cc
starts_next rows i ps (w ∷ reads) (m ∷ kept) [] v n a e f g = absurd cc
starts_next rows zero [] (w ∷ reads) (m ∷ kept) (b ∷ called) v n a e f g =
    let x = some_same w v e in
    let y = some_same m n f in
    let z = some_same b a g in cc
starts_next rows zero (p ∷ ps) (w ∷ reads) (m ∷ kept) (b ∷ called) v n a e f g =
    let x = some_same w v e in
    let y = some_same m n f in
    let z = some_same b a g in cc
starts_next rows (suc i) [] (w ∷ reads) (m ∷ kept) (b ∷ called) v n a e f g = starts_none i reads kept called e f g
  where
    starts_none : (j : ℕ) (rs : List (Option Version)) (ks : List ℕ) (cs : List CallArg) → slice_get rs j ≡ Some v → slice_get ks j ≡ Some n → slice_get cs j ≡ Some a
        → start_args_by rows [] (drop j rs) (drop j ks) (drop j cs) ≡ start_arg rows v n false a ∷ start_args_by rows [] (drop (suc j) rs) (drop (suc j) ks) (drop (suc j) cs)
    starts_none j [] ks cs e f g = absurd cc
    starts_none j (r ∷ rs) [] cs e f g = absurd cc
    starts_none j (r ∷ rs) (k ∷ ks) [] e f g = absurd cc
    starts_none zero (r ∷ rs) (k ∷ ks) (x ∷ cs) e f g = let p = some_same r v e in let q = some_same k n f in let s = some_same x a g in cc
    starts_none (suc j) (r ∷ rs) (k ∷ ks) (x ∷ cs) e f g = starts_none j rs ks cs e f g
starts_next rows (suc i) (p ∷ ps) (w ∷ reads) (m ∷ kept) (b ∷ called) v n a e f g = starts_next rows i ps reads kept called v n a e f g

pub starts_end : (rows : List Row) (i : ℕ) (ps : List Param) (reads : List (Option Version)) (kept : List ℕ) (called : List CallArg) → min (min (length reads) (length kept)) (length called) ≤ i
    → start_args_by rows (drop i ps) (drop i reads) (drop i kept) (drop i called) ≡ []
starts_end rows i ps reads kept called le = ends (drop i ps) (drop i reads) (drop i kept) (drop i called) (left reads kept called i le)
  where
    left : (rs : List (Option Version)) (ks : List ℕ) (cs : List CallArg) (j : ℕ) → min (min (length rs) (length ks)) (length cs) ≤ j → min (min (length (drop j rs)) (length (drop j ks))) (length (drop j cs)) ≡ 0
    left rs ks cs zero le = omega arith
    left [] ks cs (suc j) le = omega arith
    left (r ∷ rs) [] cs (suc j) le = omega arith
    left (r ∷ rs) (k ∷ ks) [] (suc j) le = omega arith
    left (r ∷ rs) (k ∷ ks) (x ∷ cs) (suc j) le = left rs ks cs j (omega arith)

    ends : (qs : List Param) (rs : List (Option Version)) (ks : List ℕ) (cs : List CallArg) → min (min (length rs) (length ks)) (length cs) ≡ 0 → start_args_by rows qs rs ks cs ≡ []
    ends qs [] ks cs e = refl
    ends qs (r ∷ rs) [] cs e = refl
    ends qs (r ∷ rs) (k ∷ ks) [] e = refl
    ends [] (r ∷ rs) (k ∷ ks) (x ∷ cs) e = absurd (omega arith)
    ends (q ∷ qs) (r ∷ rs) (k ∷ ks) (x ∷ cs) e = absurd (omega arith)

-- ---- notes

pub get_there : (xs : List ℕ) (i d : ℕ) → i < length xs → slice_get xs i ≡ Some (get_or xs i d)
get_there [] i d lt = absurd (omega arith)
get_there (x ∷ xs) zero d lt = refl
get_there (x ∷ xs) (suc i) d lt = get_there xs i d (omega arith)

at_place : (b : Bool) (place : ℕ) (k : ParamKind) (os : List OutNote) (more : List OutNote → Bool) → (if b then gives_first place k os more else more os) ≡ given_at b place k os more
at_place true place k os more = refl
at_place false place k os more = refl

place_by : (i place : ℕ) (ps : List Param) (os : List OutNote) (d : Dir) (k : ParamKind) → option_map (λ p. p.dir) (slice_get ps i) ≡ Some d → option_map (λ p. p.kind) (slice_get ps i) ≡ Some k
    → are_given place (drop i ps) os ≡ given_at (is_output d) place k os (are_given (suc place) (drop (suc i) ps))
place_by i place [] os d k e f = absurd cc
place_by zero place (p ∷ ps) os d k e f =
    let dir : p.dir ≡ d = cc in
    let kind : p.kind ≡ k = cc in
    at_place (is_output p.dir) place p.kind os (are_given (suc place) ps) ∙ ap (λ (x : Dir). given_at (is_output x) place p.kind os (are_given (suc place) ps)) dir ∙ ap (λ (x : ParamKind). given_at (is_output d) place x os (are_given (suc place) ps)) kind
place_by (suc i) place (p ∷ ps) os d k e f = place_by i place ps os d k e f

pub place_step : (i : ℕ) (ps : List Param) (os : List OutNote) (d : Dir) (k : ParamKind) → option_map (λ p. p.dir) (slice_get ps i) ≡ Some d → option_map (λ p. p.kind) (slice_get ps i) ≡ Some k
    → are_given (suc i) (drop i ps) os ≡ given_at (is_output d) (suc i) k os (are_given (suc (suc i)) (drop (suc i) ps))
place_step i ps os d k e f = place_by i (suc i) ps os d k e f

no_params : (place i : ℕ) (ps : List Param) (os : List OutNote) → length ps ≤ i → are_given place (drop i ps) os ≡ are_given place [] os
no_params place zero [] os le = refl
no_params place (suc i) [] os le = refl
no_params place zero (p ∷ ps) os le = absurd (omega arith)
no_params place (suc i) (p ∷ ps) os le = no_params place i ps os (omega arith)

no_outs : (place next : ℕ) (outs : List OutNote) → next ≤ length outs → are_given place [] (drop next outs) ≡ nat_eq next (length outs)
no_outs place zero [] le = refl
no_outs place zero (o ∷ outs) le = sym (grind (arith, nat_tests))
no_outs place (suc next) [] le = absurd (omega arith)
no_outs place (suc next) (o ∷ outs) le = no_outs place next outs (omega arith) ∙ same next (length outs)
  where
    same : (a b : ℕ) → nat_eq a b ≡ nat_eq (suc a) (suc b)
    same a b = grind (arith, nat_tests)

pub given_end : (i next : ℕ) (ps : List Param) (outs : List OutNote) → length ps ≤ i → next ≤ length outs → are_given (suc i) (drop i ps) (drop next outs) ≡ nat_eq next (length outs)
given_end i next ps outs le within = no_params (suc i) i ps (drop next outs) le ∙ no_outs (suc i) next outs within
