-- How long the files are that a call reads, and which versions they have.
use Rattle.std.proofs.Common.{◌≡◌, ◌<◌, ◌≤◌, ◌+◌, ◌&&◌, ℕ, zero, suc, Bool, true, false, refl, sym, ap, ◌∙◌, subst, List, [], ◌∷◌, ◌++◌, length, map, arith, Option, Some, None, if◌then◌else◌, length-append, inl, inr, ◌⊎◌}
use Rattle.std.specs.Prelude.{option_map}
use Rattle.std.specs.List.{slice_get}
use Rattle.gs_idl.specs.Interface.{Param, params_at, is_input, is_file, reads_file}
use Rattle.gs_idl.specs.declared.idl.Dir.{Dir}
use Rattle.gs_idl.specs.declared.idl.Dir.TheVariants.{Input, Both, Output}
use Rattle.gs_types.specs.declared.limits.TheConstants.{FILE_LIMIT}
use Rattle.gs_types.specs.declared.note.Version.{Version}
use Rattle.gs_types.specs.declared.note.Version.TheVariants.{Original, Out, Main}
use Rattle.gs_types.specs.declared.value.Value.TheVariants as value
use Rattle.gs_types.specs.declared.job.Arg.{Arg}
use Rattle.gs_types.specs.declared.job.Arg.TheVariants.{Given, Both as both_ways, OutFile}
use Rattle.gs_talk.specs.declared.question.CallArg.{CallArg}
use Rattle.gs_talk.specs.declared.question.CallArg.TheVariants.{File, Int, Str, OutInt, OutStr}
use Rattle.gs_talk.specs.declared.question.Question.{Question}
use Rattle.gs_talk.specs.declared.question.Question.TheVariants as q
use Rattle.gs_talk.specs.declared.question.Answer.{Answer}
use Rattle.gs_talk.specs.declared.question.Answer.TheVariants.{Went}
use Rattle.gs_talk.specs.Talk.{State, Dialogue, Done, Ask, Stop}
use Rattle.gs_talk.specs.Seq.{Run, World, Standing, Content, Known, Lost, Files, Task, seq, task_at, file_given, given, and_all, all_given, step_by, answered, reply, first_refused, went_unless, after_call, task_of}
use Rattle.gs_talk_laws.specs.Numbers.{at_number}
use Rattle.gs_talk_laws.specs.Versions.{Written, latest, read_at, read_by, closed_as, version_value, readings, read_in, read_next, if_goes, IsVersionOf, IsLeft}
use Rattle.gs_talk_laws.proofs.Outputs.{both_given}
use Rattle.gs_talk_laws.proofs.Lists.{get_within}
use Rattle.gs_talk_laws.proofs.Staying.{next_seq}
use Rattle.gs_talk_laws.proofs.Renaming.{next_readings}
use Rattle.gs_talk_laws.proofs.Stays.{latest_is_stored}
use Rattle.gs_looks.specs.declared.look.Look.{Look}
use Rattle.gs_looks.specs.declared.look.Seen.{Seen}
use Rattle.gs_looks.specs.declared.look.Seen.TheVariants as seen
use Rattle.gs_looks.specs.Looked.{seen_of, IsSeen, AreSeen}
use Rattle.gs_looks.specs.Judgement.{read_at_with, read_with, judged_seen, judged_version, judged_read, judged_call, or_next}
use Rattle.gs_looks.specs.declared.judging.Judged.{Judged}
use Rattle.gs_looks.specs.declared.judging.Judged.TheVariants as judged
use Rattle.gs_looks.proofs.Answering.{seen_right}
use Rattle.gs_history.specs.Setup.{Setup, world_at, count_at}
use Rattle.gs_tables.specs.Lengths.{seen_length, or_zero, main_length, kept_length}
use Rattle.gs_tables.specs.Rows.{arg_length, fixed_length, fixed_lengths}
use Rattle.gs_tables.proofs.Feeding.{AreEarlier}

-- ---- the same versions

one_same : (version : List ℕ → Version) (ws : List Written) → ((x : List ℕ) → version x ≡ latest x ws) → (p : Param) (a : CallArg) → read_at_with version (reads_file p) a ≡ read_at ws p a
one_same version ws same p (File name) = of_test (reads_file p)
  where
    of_test : (b : Bool) → read_at_with version b (File name) ≡ (if b then Some (latest name ws) else None)
    of_test true = ap Some (same name)
    of_test false = refl
one_same version ws same p (Int v) = of_test (reads_file p)
  where
    of_test : (b : Bool) → read_at_with version b (Int v) ≡ None
    of_test b = refl
one_same version ws same p (Str s) = refl
one_same version ws same p OutInt = refl
one_same version ws same p OutStr = refl

pub reads_same : (version : List ℕ → Version) (ws : List Written) → ((x : List ℕ) → version x ≡ latest x ws) → (ps : List Param) (args : List CallArg) → read_with version ps args ≡ read_by ws ps args
reads_same version ws same [] args = refl
reads_same version ws same (p ∷ ps) [] = refl
reads_same version ws same (p ∷ ps) (a ∷ args) = ap (λ (v : Option Version). v ∷ read_with version ps args) (one_same version ws same p a) ∙ ap (λ (l : List (Option Version)). read_at ws p a ∷ l) (reads_same version ws same ps args)

-- ---- lengths

some_content : (a b : Content) → ◌≡◌ {A = Option Content} (Some a) (Some b) → a ≡ b
some_content a b e = cc

known_same : (a b : List ℕ) → ◌≡◌ {A = Option Content} (Some (Known a)) (Some (Known b)) → length a ≡ length b
known_same a b e = let f : Known a ≡ Known b = some_content (Known a) (Known b) e in let g : a ≡ b = cc in ap length g

given_length_is : (d : Dir) (bytes : List ℕ) (x : Arg) → is_input d ≡ true → file_given d (Some (Known bytes)) ≡ Some x → arg_length x ≡ length bytes
given_length_is Input bytes x r e = let is : Given (value.File bytes) ≡ x = cc in ap arg_length (sym is)
given_length_is Both bytes x r e = let is : both_ways bytes ≡ x = cc in ap arg_length (sym is)
given_length_is Output bytes x r e = absurd cc

-- a file that is given to a task that reads it
record Gives (c : Option Content) (x : Arg) : Type 0 where
  bytes : List ℕ
  holds : c ≡ Some (Known bytes)
  length_is : arg_length x ≡ length bytes

gives : (d : Dir) (c : Option Content) (x : Arg) → is_input d ≡ true → file_given d c ≡ Some x → Gives c x
gives Output c x r e = absurd cc
gives Input None x r e = absurd cc
gives Input (Some Lost) x r e = absurd cc
gives Input (Some (Known bytes)) x r e = record { bytes = bytes; holds = refl; length_is = given_length_is Input bytes x refl e }
gives Both None x r e = absurd cc
gives Both (Some Lost) x r e = absurd cc
gives Both (Some (Known bytes)) x r e = record { bytes = bytes; holds = refl; length_is = given_length_is Both bytes x refl e }

seen_fits : (looks : List Look) (first : Files) (name : List ℕ) (o : Option Seen) (c : Option Content) (x : Arg) → AreSeen looks first → seen_of looks name ≡ o → judged_seen name o ≡ judged.Fine → c ≡ first name → Gives c x → seen_length o ≡ arg_length x
seen_fits looks first name None c x are e fine same g = absurd cc
seen_fits looks first name (Some seen.Absent) c x are e fine same g = absurd cc
seen_fits looks first name (Some seen.TooLong) c x are e fine same g = absurd cc
seen_fits looks first name (Some (seen.Len len)) c x are e fine same g =
    let is = seen_right looks first name (seen.Len len) are e in
    is.3 ∙ known_same is.0 g.bytes (sym is.1 ∙ sym same ∙ g.holds) ∙ sym g.length_is

main_fits : (mains : List ℕ) (closed : List (List ℕ)) (j : ℕ) (c : Option Content) (x : Arg) → mains ≡ map length closed → c ≡ closed_as (at_number closed j) → Gives c x → main_length mains j ≡ arg_length x
main_fits mains closed zero c x e same g = absurd (let f : None ≡ Some (Known g.bytes) = sym same ∙ g.holds in cc)
main_fits mains closed (suc j) c x e same g = of_item (slice_get closed j) refl
  where
    of_item : (o : Option (List ℕ)) → slice_get closed j ≡ o → main_length mains (suc j) ≡ arg_length x
    of_item None at = absurd (let f : None ≡ Some (Known g.bytes) = sym (ap closed_as at) ∙ sym same ∙ g.holds in cc)
    of_item (Some bytes) at =
        let there : slice_get mains j ≡ option_map length (slice_get closed j) = ap (λ (l : List ℕ). slice_get l j) e ∙ Rattle.std.proofs.lemmas.Option.slice_get-map length closed j in
        ap or_zero there ∙ ap (λ (o : Option (List ℕ)). or_zero (option_map length o)) at ∙ known_same bytes g.bytes (sym (ap closed_as at) ∙ sym same ∙ g.holds) ∙ sym g.length_is

version_fits : (looks : List Look) (mains : List ℕ) (first : Files) (w : World) (v : Version) (c : Option Content) (x : Arg) → AreSeen looks first → mains ≡ map length w.closed → judged_version looks mains v ≡ judged.Fine → c ≡ version_value first w v → Gives c x
    → kept_length looks mains (Some v) ≡ fixed_length (Some v) x
version_fits looks mains first w (Original name) c x are lengths fine same g = seen_fits looks first name (seen_of looks name) c x are refl fine same g
version_fits looks mains first w (Out n place) c x are lengths fine same g = refl
version_fits looks mains first w (Main j) c x are lengths fine same g = main_fits mains w.closed j c x lengths same g

both_fine : (a b : Judged) → or_next a b ≡ judged.Fine → (a ≡ judged.Fine) × (b ≡ judged.Fine)
both_fine judged.Fine b e = (refl, e)
both_fine (judged.Unseen name) b e = absurd cc
both_fine judged.Absent b e = absurd cc
both_fine judged.TooLong b e = absurd cc

both_true : (b c : Bool) → (b && c) ≡ true → (b ≡ true) × (c ≡ true)
both_true true c e = (refl, e)
both_true false c e = absurd cc

-- at one place
place_fits : (looks : List Look) (mains : List ℕ) (first : Files) (w : World) (ws : List Written) → AreSeen looks first → mains ≡ map length w.closed → ((name : List ℕ) → w.files name ≡ version_value first w (latest name ws))
    → (p : Param) (a : CallArg) (x : Arg) → judged_read looks mains (read_at ws p a) ≡ judged.Fine → given w.files p a ≡ Some x → kept_length looks mains (read_at ws p a) ≡ fixed_length (read_at ws p a) x
place_fits looks mains first w ws are lengths files p (Int v) x fine e = refl
place_fits looks mains first w ws are lengths files p (Str s) x fine e = refl
place_fits looks mains first w ws are lengths files p OutInt x fine e = refl
place_fits looks mains first w ws are lengths files p OutStr x fine e = refl
place_fits looks mains first w ws are lengths files p (File name) x fine e = of_test (reads_file p) refl fine
  where
    of_test : (b : Bool) → reads_file p ≡ b → judged_read looks mains (if b then Some (latest name ws) else None) ≡ judged.Fine → kept_length looks mains (if b then Some (latest name ws) else None) ≡ fixed_length (if b then Some (latest name ws) else None) x
    of_test false r fine = refl
    of_test true r fine = version_fits looks mains first w (latest name ws) (w.files name) x are lengths fine (files name) (gives p.dir (w.files name) x (both_true (is_input p.dir) (is_file p.kind) r).0 e)

none_some : (xs : List Arg) → ◌≡◌ {A = Option (List Arg)} (Some []) (Some xs) → xs ≡ []
none_some xs e = cc

pub lengths_fit : (looks : List Look) (mains : List ℕ) (first : Files) (w : World) (ws : List Written) → AreSeen looks first → mains ≡ map length w.closed → ((name : List ℕ) → w.files name ≡ version_value first w (latest name ws))
    → (ps : List Param) (args : List CallArg) (xs : List Arg) → judged_call looks mains (read_by ws ps args) ≡ judged.Fine → all_given w.files ps args ≡ Some xs → map (kept_length looks mains) (read_by ws ps args) ≡ fixed_lengths (read_by ws ps args) xs
lengths_fit looks mains first w ws are lengths files [] args xs fine e = refl
lengths_fit looks mains first w ws are lengths files (p ∷ ps) [] xs fine e = refl
lengths_fit looks mains first w ws are lengths files (p ∷ ps) (a ∷ args) xs fine e =
    let parts = both_given (given w.files p a) (all_given w.files ps args) xs e in
    let f = both_fine (judged_read looks mains (read_at ws p a)) (judged_call looks mains (read_by ws ps args)) fine in
    let here = place_fits looks mains first w ws are lengths files p a parts.0 f.0 parts.2 in
    let rest = lengths_fit looks mains first w ws are lengths files ps args parts.1 f.1 parts.3 in
    ap (λ (n : ℕ). n ∷ map (kept_length looks mains) (read_by ws ps args)) here ∙ ap (λ (l : List ℕ). fixed_length (read_at ws p a) parts.0 ∷ l) rest
    ∙ ap (λ (l : List Arg). fixed_lengths (read_at ws p a ∷ read_by ws ps args) l) parts.4

-- ---- as many readings as tasks

read_one : (r : Run) (at : Standing) (ws : List Written) (op line : ℕ) (args : List CallArg) (next : Answer → Dialogue) (o : Option Answer) → first_refused at.world.files (params_at r.texts.ops op) args ≡ o
    → length (read_in r.texts.ops at.world ws (q.Call op line args)) + length at.world.tasks ≡ length (answered r at (q.Call op line args) next (reply r.texts.ops at.world (q.Call op line args))).world.tasks
read_one r at ws op line args next None e =
    let ps = params_at r.texts.ops op in
    let reads = ap (λ (o : Option Answer). length (if_goes o (read_by ws ps args ∷ []))) e in
    let tasks = ap (λ (o : Option Answer). length (answered r at (q.Call op line args) next (went_unless o)).world.tasks) e ∙ ap (λ (o : Option Answer). length (after_call r.law r.texts.ops op args o at.world).tasks) e ∙ length-append at.world.tasks (task_of r.law r.texts.ops at.world.files op args ∷ []) in
    omega arith
read_one r at ws op line args next (Some a) e =
    let ps = params_at r.texts.ops op in
    let reads = ap (λ (o : Option Answer). length (if_goes o (read_by ws ps args ∷ []))) e in
    let tasks = ap (λ (o : Option Answer). length (answered r at (q.Call op line args) next (went_unless o)).world.tasks) e ∙ ap (λ (o : Option Answer). length (after_call r.law r.texts.ops op args o at.world).tasks) e in
    omega arith

no_task : (r : Run) (at : Standing) (x : Question) (next : Answer → Dialogue) (o : Option Answer) → ((a : Answer) → length at.world.tasks ≡ length (answered r at x next (Some a)).world.tasks) → 0 + length at.world.tasks ≡ length (answered r at x next o).world.tasks
no_task r at x next None same = omega arith
no_task r at x next (Some a) same = let e = same a in omega arith

read_step : (r : Run) (at : Standing) (ws : List Written) (d : Dialogue) → length (read_next r at.world ws d) + length at.world.tasks ≡ length (step_by r at d).world.tasks
read_step r at ws (Done n st) = omega arith
read_step r at ws (Stop x st) = omega arith
read_step r at ws (Ask (q.Call op line args) st next) = read_one r at ws op line args next (first_refused at.world.files (params_at r.texts.ops op) args) refl
read_step r at ws (Ask (q.Use n place) st next) = no_task r at (q.Use n place) next (reply r.texts.ops at.world (q.Use n place)) (λ a. refl)
read_step r at ws (Ask (q.OpenFile name mode line) st next) = no_task r at (q.OpenFile name mode line) next (reply r.texts.ops at.world (q.OpenFile name mode line)) (λ a. refl)
read_step r at ws (Ask (q.CloseFile name bytes) st next) = omega arith
read_step r at ws (Ask q.Barrier st next) = no_task r at q.Barrier next (reply r.texts.ops at.world q.Barrier) (λ a. refl)
read_step r at ws (Ask q.End st next) = omega arith
read_step r at ws (Ask (q.Fault line kind) st next) = omega arith
read_step r at ws (Ask q.FuelOut st next) = omega arith

none_first : (r : Run) → length (readings r zero) ≡ length (seq r zero).world.tasks
unfolding readings seq
none_first r = refl

pub as_many : (r : Run) (k : ℕ) → length (readings r k) ≡ length (seq r k).world.tasks
as_many r zero = none_first r
as_many r (suc k) =
    let before = as_many r k in
    let step = read_step r (seq r k) (Rattle.gs_talk_laws.specs.Versions.writings r k) (seq r k).rest in
    let more = ap length (next_readings r k) ∙ length-append (readings r k) (read_next r (seq r k).world (Rattle.gs_talk_laws.specs.Versions.writings r k) (seq r k).rest) in
    let now = ap (λ (x : Standing). length x.world.tasks) (next_seq r k) in
    omega arith

-- ---- what is read is of earlier tasks

read_out : (ws : List Written) (ps : List Param) (args : List CallArg) (i m place : ℕ) → slice_get (read_by ws ps args) i ≡ Some (Some (Out m place)) → (name : List ℕ) × (latest name ws ≡ Out m place)
read_out ws [] args i m place e = absurd cc
read_out ws (p ∷ ps) [] i m place e = absurd cc
read_out ws (p ∷ ps) (a ∷ args) (suc i) m place e = read_out ws ps args i m place e
read_out ws (p ∷ ps) (File name ∷ args) zero m place e = of_test (reads_file p) e
  where
    of_test : (b : Bool) → ◌≡◌ {A = Option (Option Version)} (Some (if b then Some (latest name ws) else None)) (Some (Some (Out m place))) → (x : List ℕ) × (latest x ws ≡ Out m place)
    of_test true f = (name, let g : Some (latest name ws) ≡ Some (Out m place) = cc in cc)
    of_test false f = absurd cc
read_out ws (p ∷ ps) (Int v ∷ args) zero m place e = absurd cc
read_out ws (p ∷ ps) (Str s ∷ args) zero m place e = absurd cc
read_out ws (p ∷ ps) (OutInt ∷ args) zero m place e = absurd cc
read_out ws (p ∷ ps) (OutStr ∷ args) zero m place e = absurd cc

task_within : (xs : List Task) (n : ℕ) (t : Task) → task_at xs n ≡ Some t → (0 < n) × (n < length xs + 1)
task_within xs zero t e = absurd cc
task_within xs (suc n) t e = let lt = get_within xs n t e in (omega arith, omega arith)

left_within : (s : Setup) (k m place : ℕ) (name : List ℕ) → IsVersionOf (world_at s k) name (Out m place) → (0 < m) × (m < count_at s k + 1)
left_within s k m place name (inl e) = absurd cc
left_within s k m place name (inr left) = task_within (world_at s k).tasks m left.task left.is

pub reads_earlier : (s : Setup) (k : ℕ) (ps : List Param) (args : List CallArg) → AreEarlier (count_at s k + 1) (read_by (Rattle.gs_talk_laws.specs.Versions.writings s.run k) ps args)
reads_earlier s k ps args i m place e =
    let ws = Rattle.gs_talk_laws.specs.Versions.writings s.run k in
    let from = read_out ws ps args i m place e in
    left_within s k m place from.0 (subst (IsVersionOf (world_at s k) from.0) from.1 (latest_is_stored s.run k from.0))
