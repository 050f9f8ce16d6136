-- What stands at the places of a call, one after the other.
use Rattle.std.proofs.Common.{◌≡◌, ℕ, ◌+◌, ◌<◌, ◌≤◌, zero, suc, Bool, true, false, List, [], ◌∷◌, ◌++◌, length, drop, map, get_or, slice_get, take, Option, Some, None, Result, Ok, Err, refl, sym, ap, ◌∙◌, append_assoc, arith, le_refl, ◌-◌, ◌||◌}
use mathlib.Core.Path.{fun_ext}
use Rattle.std.specs.Prelude.{option_map, if◌then◌else◌}
use Rattle.std.specs.Option.{option_or}
use Rattle.std.specs.List.{list_any}
use Rattle.std.specs.Str.{bytes_eq}
use Rattle.std.proofs.lemmas.List.{drop_more, drop_all, append-nil, take-append-le, take_rest, take_more, map-append}
use Rattle.std.proofs.lemmas.Option.{get_or_from_slice_get, slice_get_within}
use Rattle.std.proofs.lemmas.Cmp.{nat_list_eq_equiv}
use Rattle.gs_idl.specs.Interface.{Param, writes_file}
use Rattle.gs_idl.specs.declared.idl.Dir.{Dir}
use Rattle.gs_idl.specs.declared.idl.ParamKind.{ParamKind}
use Rattle.gs_types.specs.declared.value.Value.{Value}
use Rattle.gs_talk.specs.declared.slot.Slot.{Slot}
use Rattle.gs_talk.specs.declared.question.CallArg.{CallArg}
use Rattle.gs_talk.specs.declared.error.Trouble as code
use Rattle.gs_talk.specs.declared.error.Trouble.TheVariants as trouble
use Rattle.gs_talk.specs.Values.{Trouble, Kind, Need, value_of}
use Rattle.gs_types.specs.declared.settings.FaultKind.{FaultKind}
use Rattle.gs_pieces.specs.declared.read_err.ReadErr.{ReadErr}
use Rattle.gs_pieces.specs.declared.read_err.ReadErr.TheVariants as err
use Rattle.gs_talk.specs.Talk.{Given, State, file_fault, files_fault, Handed, by_value, into, file_at, cons_some, files_in, has_twice, written_in, with_name, with_names, pended}
use Rattle.gs_talk.specs.Passed.{arg_before, value_first, passed_values}
use Rattle.gs_pieces.specs.Places.{Passes, PassAll, FindsOne, FindsPassed, passed_value, of_value, written_first, with_file, pended_one}

-- the values so far, and then these
abbrev pub after_args : List CallArg → Result (List CallArg) Trouble → Result (List CallArg) Trouble
after_args so_far (Ok more) = Ok (so_far ++ more)
after_args so_far (Err e) = Err e

-- a value, and then these
abbrev and_then : Result CallArg Trouble → Result (List CallArg) Trouble → Result (List CallArg) Trouble
and_then (Ok a) r = arg_before a r
and_then (Err e) r = Err e

value_then : (kind : ParamKind) (r : Result Value Trouble) (more : Result (List CallArg) Trouble) → value_first kind r more ≡ and_then (of_value kind r) more
value_then kind (Ok v) more = refl
value_then kind (Err e) more = refl

one_then : (p : Param) (ps : List Param) (h : Handed) (args : List Handed) (vars : List Slot) → passed_values (p ∷ ps) (h ∷ args) vars ≡ and_then (passed_value p.kind h vars) (passed_values ps args vars)
one_then p ps (into i) args vars = refl
one_then p ps (by_value t) args vars = value_then p.kind (value_of t vars) (passed_values ps args vars)

after_more : (so_far : List CallArg) (a : CallArg) (r : Result (List CallArg) Trouble) → after_args (so_far ++ a ∷ []) r ≡ after_args so_far (arg_before a r)
after_more so_far a (Ok more) = ap (λ (xs : List CallArg). Ok xs) (append_assoc so_far (a ∷ []) more)
after_more so_far a (Err e) = refl

pub param_from : (ps : List Param) (k : ℕ) (p : Param) → slice_get ps k ≡ Some p → drop k ps ≡ p ∷ drop (k + 1) ps
param_from ps k p e = drop_more ps k p (slice_get_within ps k p e) ∙ ap (λ x. x ∷ drop (k + 1) ps) (get_or_from_slice_get ps k p p e)

pub some_param : (ps : List Param) (k : ℕ) (kind : ParamKind) → option_map (λ q. q.kind) (slice_get ps k) ≡ Some kind → (p : Param) × (slice_get ps k ≡ Some p) × (p.kind ≡ kind)
some_param ps k kind shown = at (slice_get ps k) refl where
  at : (o : Option Param) → slice_get ps k ≡ o → (p : Param) × (slice_get ps k ≡ Some p) × (p.kind ≡ kind)
  at None e = absurd (let f : None ≡ Some kind = ap (option_map (λ (q : Param). q.kind)) (sym e) ∙ shown in cc)
  at (Some p) e = let f : Some p.kind ≡ Some kind = ap (option_map (λ (q : Param). q.kind)) (sym e) ∙ shown in (p, e, cc)

-- the place of this direction and kind
pub place_of_both : (ps : List Param) (k : ℕ) (dir : Dir) (kind : ParamKind) → option_map (λ q. q.dir) (slice_get ps k) ≡ Some dir → option_map (λ q. q.kind) (slice_get ps k) ≡ Some kind →
    (p : Param) × (slice_get ps k ≡ Some p) × (p.dir ≡ dir) × (p.kind ≡ kind)
place_of_both ps k dir kind has_dir shown =
    let p = some_param ps k kind shown in
    let d : Some p.0.dir ≡ Some dir = ap (option_map (λ (q : Param). q.dir)) (sym p.1) ∙ has_dir in
    (p.0, p.1, cc, p.2)

-- the places from k on, by what stands at place k
passed_at : {X : Type 0} (view : X → Handed) (ps : List Param) (args : List X) (vars : List Slot) (k : ℕ) (kind : ParamKind) (a : X) → option_map (λ q. q.kind) (slice_get ps k) ≡ Some kind → k < length args → a ≡ get_or args k a →
    passed_values (drop k ps) (map view (drop k args)) vars ≡ and_then (passed_value kind (view a) vars) (passed_values (drop (k + 1) ps) (map view (drop (k + 1) args)) vars)
passed_at {X} view ps args vars k kind a shown lt is =
    let p = some_param ps k kind shown in
    ap (λ (qs : List Param). passed_values qs (map view (drop k args)) vars) (param_from ps k p.0 p.1)
    ∙ ap (λ (xs : List X). passed_values (p.0 ∷ drop (k + 1) ps) (map view xs) vars) (drop_more args k a lt)
    ∙ ap (λ (x : X). passed_values (p.0 ∷ drop (k + 1) ps) (view x ∷ map view (drop (k + 1) args)) vars) (sym is)
    ∙ one_then p.0 (drop (k + 1) ps) (view a) (map view (drop (k + 1) args)) vars
    ∙ ap (λ (m : ParamKind). and_then (passed_value m (view a) vars) (passed_values (drop (k + 1) ps) (map view (drop (k + 1) args)) vars)) p.2

pub passed_more : {X : Type 0} (view : X → Handed) (ps : List Param) (args : List X) (vars : List Slot) (k : ℕ) (kind : ParamKind) (a : X) (so_far : List CallArg) (b : CallArg) (all : Result (List CallArg) Trouble) →
    option_map (λ q. q.kind) (slice_get ps k) ≡ Some kind → k < length args → a ≡ get_or args k a → passed_value kind (view a) vars ≡ Ok b →
    after_args so_far (passed_values (drop k ps) (map view (drop k args)) vars) ≡ all → after_args (so_far ++ b ∷ []) (passed_values (drop (k + 1) ps) (map view (drop (k + 1) args)) vars) ≡ all
passed_more {X} view ps args vars k kind a so_far b all shown lt is found was =
    let rest = passed_values (drop (k + 1) ps) (map view (drop (k + 1) args)) vars in
    after_more so_far b rest
    ∙ sym (ap (after_args so_far) (passed_at view ps args vars k kind a shown lt is ∙ ap (λ (r : Result CallArg Trouble). and_then r rest) found))
    ∙ was

pub passed_trouble : {X : Type 0} (view : X → Handed) (ps : List Param) (args : List X) (vars : List Slot) (k : ℕ) (kind : ParamKind) (a : X) (so_far : List CallArg) (e : Trouble) (all : Result (List CallArg) Trouble) →
    option_map (λ q. q.kind) (slice_get ps k) ≡ Some kind → k < length args → a ≡ get_or args k a → passed_value kind (view a) vars ≡ Err e →
    after_args so_far (passed_values (drop k ps) (map view (drop k args)) vars) ≡ all → all ≡ Err e
passed_trouble {X} view ps args vars k kind a so_far e all shown lt is found was =
    sym was ∙ ap (after_args so_far) (passed_at view ps args vars k kind a shown lt is ∙ ap (λ (r : Result CallArg Trouble). and_then r (passed_values (drop (k + 1) ps) (map view (drop (k + 1) args)) vars)) found)

no_args : (ps : List Param) (vars : List Slot) → passed_values ps [] vars ≡ Ok []
no_args [] vars = refl
no_args (p ∷ ps) vars = refl

pub passed_end : {X : Type 0} (view : X → Handed) (ps : List Param) (args : List X) (vars : List Slot) (k : ℕ) (so_far : List CallArg) (all : Result (List CallArg) Trouble) → (length args ≤ k) → after_args so_far (passed_values (drop k ps) (map view (drop k args)) vars) ≡ all → all ≡ Ok so_far
passed_end {X} view ps args vars k so_far all past was =
    sym was ∙ ap (λ (xs : List X). after_args so_far (passed_values (drop k ps) (map view xs) vars)) (drop_all k args past) ∙ ap (after_args so_far) (no_args (drop k ps) vars) ∙ ap (λ (xs : List CallArg). Ok xs) (append-nil so_far)

pub passed_past : {X : Type 0} (view : X → Handed) (ps : List Param) (args : List X) (vars : List Slot) (k : ℕ) (so_far : List CallArg) (all : Result (List CallArg) Trouble) → (length ps ≤ k) → after_args so_far (passed_values (drop k ps) (map view (drop k args)) vars) ≡ all → all ≡ Ok so_far
passed_past {X} view ps args vars k so_far all past was =
    sym was ∙ ap (λ (qs : List Param). after_args so_far (passed_values qs (map view (drop k args)) vars)) (drop_all k ps past) ∙ ap (λ (xs : List CallArg). Ok xs) (append-nil so_far)

pub trouble_passed : (r : Result (List CallArg) Trouble) (one : Result CallArg Trouble) (e : code.Trouble) → FindsOne one (Err e) → ((t : Trouble) → one ≡ Err t → r ≡ Err t) → FindsPassed r (Err e)
trouble_passed r one (trouble.Kind kind) h k = k (Kind kind) h
trouble_passed r one (trouble.Need i n place) h k = k (Need i n place) h
trouble_passed r one trouble.NoMemory h k = tt

-- ---- files

written_if : (b : Bool) (o : Option (List ℕ)) (more : List (List ℕ)) → (if b then cons_some o more else more) ≡ written_first b o ++ more
written_if true None more = refl
written_if true (Some name) more = refl
written_if false o more = refl

pub written_more : (ps : List Param) (args : List CallArg) (k : ℕ) (p : Param) (a : CallArg) (leaves : Bool) (names all : List (List ℕ)) → slice_get ps k ≡ Some p → k < length args → a ≡ get_or args k a → leaves ≡ writes_file p →
    names ++ written_in (drop k ps) (drop k args) ≡ all → (names ++ written_first leaves (file_at a)) ++ written_in (drop (k + 1) ps) (drop (k + 1) args) ≡ all
written_more ps args k p a leaves names all there lt is says was =
    let rest = written_in (drop (k + 1) ps) (drop (k + 1) args) in
    append_assoc names (written_first leaves (file_at a)) rest
    ∙ ap (λ xs. names ++ xs)
    (ap (λ (b : Bool). written_first b (file_at a) ++ rest) says
    ∙ sym (ap (λ (qs : List Param). written_in qs (drop k args)) (param_from ps k p there)
    ∙ ap (λ (xs : List CallArg). written_in (p ∷ drop (k + 1) ps) xs) (drop_more args k a lt)
    ∙ ap (λ (x : CallArg). written_in (p ∷ drop (k + 1) ps) (x ∷ drop (k + 1) args)) (sym is)
    ∙ written_if (writes_file p) (file_at a) rest))
    ∙ was

none_written : (ps : List Param) → written_in ps [] ≡ []
none_written [] = refl
none_written (p ∷ ps) = refl

pub written_end : (ps : List Param) (args : List CallArg) (k : ℕ) (names all : List (List ℕ)) → length args ≤ k → names ++ written_in (drop k ps) (drop k args) ≡ all → names ≡ all
written_end ps args k names all past was =
    sym (append-nil names) ∙ ap (λ xs. names ++ xs) (sym (ap (written_in (drop k ps)) (drop_all k args past) ∙ none_written (drop k ps))) ∙ was

any_turned : (names : List (List ℕ)) (x : List ℕ) → list_any (bytes_eq x) names ≡ list_any (λ y. bytes_eq y x) names
any_turned names x = ap (λ (p : List ℕ → Bool). list_any p names) (fun_ext (λ y. nat_list_eq_equiv.symm x y))

pub name_noted : (names : List (List ℕ)) (x : List ℕ) → (if list_any (bytes_eq x) names then names else names ++ x ∷ []) ≡ with_name names x
name_noted names x = ap (λ (b : Bool). if b then names else names ++ x ∷ []) (any_turned names x)

files_first : (names : List (List ℕ)) (o : Option (List ℕ)) (more : List (List ℕ)) → with_names names (cons_some o more) ≡ with_names (with_file names o) more
files_first names None more = refl
files_first names (Some x) more = refl

pub files_more : (names : List (List ℕ)) (args : List CallArg) (k : ℕ) (a : CallArg) → k < length args → a ≡ get_or args k a → with_names names (files_in (drop k args)) ≡ with_names (with_file names (file_at a)) (files_in (drop (k + 1) args))
files_more names args k a lt is =
    ap (λ (xs : List CallArg). with_names names (files_in xs)) (drop_more args k a lt)
    ∙ ap (λ (x : CallArg). with_names names (files_in (x ∷ drop (k + 1) args))) (sym is)
    ∙ files_first names (file_at a) (files_in (drop (k + 1) args))

pended_first : (n place : ℕ) (h : Handed) (args : List Handed) (vars : List Slot) → pended n place (h ∷ args) vars ≡ pended n (suc place) args (pended_one n place h vars)
pended_first n place (by_value t) args vars = refl
pended_first n place (into i) args vars = refl

pub pended_more : {X : Type 0} (view : X → Handed) (n place : ℕ) (args : List X) (k : ℕ) (a : X) (vars : List Slot) → k < length args → a ≡ get_or args k a → pended n place (map view (drop k args)) vars ≡ pended n (suc place) (map view (drop (k + 1) args)) (pended_one n place (view a) vars)
pended_more {X} view n place args k a vars lt is =
    ap (λ (xs : List X). pended n place (map view xs) vars) (drop_more args k a lt)
    ∙ ap (λ (x : X). pended n place (view x ∷ map view (drop (k + 1) args)) vars) (sym is)
    ∙ pended_first n place (view a) (map view (drop (k + 1) args)) vars

-- names that were put behind others are cut off again
names_kept : (names more : List (List ℕ)) (x : List ℕ) → (b : Bool) → (rest : List (List ℕ)) × ((if b then names else names ++ x ∷ []) ≡ names ++ rest)
names_kept names more x true = ([], sym (append-nil names))
names_kept names more x false = (x ∷ [], refl)

pub names_grow : (files names : List (List ℕ)) → (rest : List (List ℕ)) × (with_names names files ≡ names ++ rest)
names_grow [] names = ([], sym (append-nil names))
names_grow (x ∷ files) names =
    let one = names_kept names files x (list_any (λ y. bytes_eq y x) names) in
    let more = names_grow files (with_name names x) in
    (one.0 ++ more.0, more.1 ∙ ap (λ xs. xs ++ more.0) one.1 ∙ append_assoc names one.0 more.0)

take_all : {X : Type 0} (xs : List X) → take (length xs) xs ≡ xs
take_all [] = refl
take_all (x ∷ xs) = ap (λ ys. x ∷ ys) (take_all xs)

pub names_cut : (files names all : List (List ℕ)) → all ≡ with_names names files → take (length names) all ≡ names
names_cut files names all e = let g = names_grow files names in ap (take (length names)) (e ∙ g.1) ∙ take-append-le (length names) names g.0 (le_refl (length names)) ∙ take_all names

-- a name stands behind its place again, or later ones stand twice
twice_at : (names : List (List ℕ)) (i : ℕ) (x : List ℕ) (b : Bool) → i < length names → x ≡ get_or names i x → b ≡ list_any (bytes_eq x) (take (length names - (i + 1)) (drop (i + 1) names)) →
    has_twice (drop i names) ≡ (b || has_twice (drop (i + 1) names))
twice_at names i x b lt is e =
    ap has_twice (drop_more names i x lt)
    ∙ ap (λ y. has_twice (y ∷ drop (i + 1) names)) (sym is)
    ∙ ap (λ c. c || has_twice (drop (i + 1) names)) (sym (e ∙ ap (list_any (bytes_eq x)) (take_rest names (i + 1))))

pub twice_found : (names : List (List ℕ)) (i : ℕ) (x : List ℕ) (b : Bool) → i < length names → x ≡ get_or names i x → b ≡ list_any (bytes_eq x) (take (length names - (i + 1)) (drop (i + 1) names)) → b ≡ true →
    has_twice (drop i names) ≡ has_twice names → true ≡ has_twice names
twice_found names i x b lt is e found was = sym (sym was ∙ twice_at names i x b lt is e ∙ ap (λ c. c || has_twice (drop (i + 1) names)) found)

pub twice_passed : (names : List (List ℕ)) (i : ℕ) (x : List ℕ) (b : Bool) → i < length names → x ≡ get_or names i x → b ≡ list_any (bytes_eq x) (take (length names - (i + 1)) (drop (i + 1) names)) → b ≡ false →
    has_twice (drop i names) ≡ has_twice names → has_twice (drop (i + 1) names) ≡ has_twice names
twice_passed names i x b lt is e found was = sym (twice_at names i x b lt is e ∙ ap (λ c. c || has_twice (drop (i + 1) names)) found) ∙ was

-- ---- what stands against files

files_at : {X : Type 0} (view : X → CallArg) (t : Given) (s : State) (ps : List Param) (args : List X) (k : ℕ) (p : Param) (a : X) → slice_get ps k ≡ Some p → k < length args → a ≡ get_or args k a →
    files_fault t s (drop k ps) (map view (drop k args)) ≡ option_or (file_fault t s p (file_at (view a))) (files_fault t s (drop (k + 1) ps) (map view (drop (k + 1) args)))
files_at {X} view t s ps args k p a there lt is =
    ap (λ (qs : List Param). files_fault t s qs (map view (drop k args))) (param_from ps k p there)
    ∙ ap (λ (xs : List X). files_fault t s (p ∷ drop (k + 1) ps) (map view xs)) (drop_more args k a lt)
    ∙ ap (λ (x : X). files_fault t s (p ∷ drop (k + 1) ps) (view x ∷ map view (drop (k + 1) args))) (sym is)

pub files_pass : {X : Type 0} (view : X → CallArg) (t : Given) (s : State) (ps : List Param) (args : List X) (k : ℕ) (p : Param) (a : X) (all : Option FaultKind) → slice_get ps k ≡ Some p → k < length args → a ≡ get_or args k a →
    file_fault t s p (file_at (view a)) ≡ None → files_fault t s (drop k ps) (map view (drop k args)) ≡ all → files_fault t s (drop (k + 1) ps) (map view (drop (k + 1) args)) ≡ all
files_pass {X} view t s ps args k p a all there lt is none was =
    let rest = files_fault t s (drop (k + 1) ps) (map view (drop (k + 1) args)) in
    sym (files_at view t s ps args k p a there lt is ∙ ap (λ (o : Option FaultKind). option_or o rest) none) ∙ was

pub files_stop : {X : Type 0} (view : X → CallArg) (t : Given) (s : State) (ps : List Param) (args : List X) (k : ℕ) (p : Param) (a : X) (kind : FaultKind) (all : Option FaultKind) → slice_get ps k ≡ Some p → k < length args → a ≡ get_or args k a →
    file_fault t s p (file_at (view a)) ≡ Some kind → files_fault t s (drop k ps) (map view (drop k args)) ≡ all → all ≡ Some kind
files_stop {X} view t s ps args k p a kind all there lt is some was =
    let rest = files_fault t s (drop (k + 1) ps) (map view (drop (k + 1) args)) in
    sym was ∙ files_at view t s ps args k p a there lt is ∙ ap (λ (o : Option FaultKind). option_or o rest) some

no_files : (t : Given) (s : State) (ps : List Param) → files_fault t s ps [] ≡ None
no_files t s [] = refl
no_files t s (p ∷ ps) = refl

pub files_end : {X : Type 0} (view : X → CallArg) (t : Given) (s : State) (ps : List Param) (args : List X) (k : ℕ) (all : Option FaultKind) → length args ≤ k → files_fault t s (drop k ps) (map view (drop k args)) ≡ all → all ≡ None
files_end {X} view t s ps args k all past was =
    sym was ∙ ap (λ (xs : List X). files_fault t s (drop k ps) (map view xs)) (drop_all k args past) ∙ no_files t s (drop k ps)

take_past : {X : Type 0} (k : ℕ) (xs : List X) → length xs ≤ k → take k xs ≡ xs
take_past zero [] h = refl
take_past zero (x ∷ xs) h = absurd (omega arith)
take_past (suc k) [] h = refl
take_past (suc k) (x ∷ xs) h = ap (λ ys. x ∷ ys) (take_past k xs (omega arith))

take_one_more : {X : Type 0} (args : List X) (k : ℕ) (a : X) → k < length args → a ≡ get_or args k a → take (k + 1) args ≡ take k args ++ a ∷ []
take_one_more args k a lt is = take_more args k a lt ∙ ap (λ x. take k args ++ x ∷ []) (sym is)

pub viewed_more : {X : Type 0} (view : X → CallArg) (args : List X) (k : ℕ) (a : X) → k < length args → a ≡ get_or args k a → map view (take (k + 1) args) ≡ map view (take k args) ++ view a ∷ []
viewed_more {X} view args k a lt is =
    ap (map view) (take_one_more args k a lt is) ∙ map-append view (take k args) (a ∷ [])

pub viewed_all : {X : Type 0} (view : X → CallArg) (args : List X) (k : ℕ) → length args ≤ k → map view (take k args) ≡ map view args
viewed_all view args k h = ap (map view) (take_past k args h)

-- what a place is found to be, or what stands against it
pub fault_passes : (fault : Option FaultKind) (args : List CallArg) (one : Option FaultKind) (a : CallArg) (e : ReadErr) → Passes one a (Err e) → ((kind : FaultKind) → one ≡ Some kind → fault ≡ Some kind) → PassAll fault args (Err e)
fault_passes fault args one a (err.Kind kind) h k = k kind h
fault_passes fault args one a err.NoMemory h k = tt
