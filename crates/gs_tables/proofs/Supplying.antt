-- What an open task gets is what stands at its places.
use Rattle.std.proofs.Common.{◌≡◌, ◌<◌, ◌≤◌, ◌+◌, ◌&&◌, ℕ, zero, suc, Bool, true, false, refl, sym, ap, ◌∙◌, subst, List, [], ◌∷◌, length, arith, Option, Some, None, IsSome, is_none, if◌then◌else◌, inl, inr, ◌⊎◌}
use Rattle.std.specs.Prelude.{min, max, option_map}
use Rattle.std.specs.List.{slice_get}
use Rattle.std.proofs.lemmas.Bool.{cases_Bool}
use Rattle.gs_idl.specs.Interface.{Param, params_at, is_input, is_file, reads_file}
use Rattle.gs_idl.specs.declared.idl.Dir.{Dir}
use Rattle.gs_idl.specs.declared.idl.Dir.TheVariants.{Input, Both, Output}
use Rattle.gs_policy.specs.declared.limits.TheConstants.{BYTES_LIMIT}
use Rattle.gs_types.specs.declared.note.Note.{Note}
use Rattle.gs_types.specs.declared.note.Version.{Version}
use Rattle.gs_types.specs.declared.note.Version.TheVariants.{Original, Out, Main}
use Rattle.gs_types.specs.declared.value.Value.{Value}
use Rattle.gs_types.specs.declared.value.Value.TheVariants as value
use Rattle.gs_types.specs.declared.job.Arg.{Arg}
use Rattle.gs_types.specs.declared.job.Arg.TheVariants.{Given, Both as both_ways, OutFile, OutInt, OutStr}
use Rattle.gs_types.specs.History.{History, outs_in}
use Rattle.gs_talk.specs.declared.question.CallArg.{CallArg}
use Rattle.gs_talk.specs.declared.question.CallArg.TheVariants as arg
use Rattle.gs_talk.specs.Seq.{Run, World, Content, Known, Lost, Files, Task, seq, task_at, is_lost, file_given, given, IsTask}
use Rattle.gs_talk.specs.Actions.{DependsOn}
use Rattle.gs_talk_laws.specs.Numbers.{at_number}
use Rattle.gs_talk_laws.specs.Uses.{FitsParam, AreFit}
use Rattle.gs_talk_laws.specs.Versions.{Written, latest, writings, read_at, read_by, readings, version_value, content_by, all_given_by, IsVersionOf, IsTaskOf}
use Rattle.gs_talk_laws.proofs.Outputs.{both_given}
use Rattle.gs_talk_laws.proofs.Stays.{tasks_read_versions, tasks_stay}
use Rattle.gs_history.specs.Setup.{Setup, world_at, count_at}
use Rattle.gs_history.specs.Frontier.{IsDone, IsThere}
use Rattle.gs_history.specs.Ready.{value_length, input_lengths, input_bytes, IsOpen}
use Rattle.gs_history.proofs.Dependences.{inputs_are_versions}
use Rattle.gs_history.proofs.Ending.{done_is_true, one_task}
use Rattle.gs_history.proofs.Fitting.{notes_fit}
use Rattle.gs_tables.specs.Outs.{noted_length}
use Rattle.gs_tables.specs.Rows.{arg_length, fixed_length, fixed_lengths, given_length, read_lengths, IsRow, row_at, listed_row}
use Rattle.gs_tables.specs.Starts.{is_both, plain_arg, start_arg, start_args_by, start_args, IsFrom, IsStartArg, AreStartArgs}
use Rattle.gs_tables.specs.Holds.{HasRow, Holds}
use Rattle.gs_tables.specs.declared.row.Row.{Row}
use Rattle.gs_tables.specs.declared.row.StartArg.{StartArg}
use Rattle.gs_tables.specs.declared.row.StartArg.TheVariants as start
use Rattle.gs_tables.specs.declared.tables.Tables.{Tables}
use Rattle.gs_tables.proofs.Arguments.{given_all, ReadsLost}
use Rattle.gs_tables.proofs.Reading.{out_there}

-- ---- one place

-- what is got at a place, and how long it is
abbrev pub PlaceOk : Setup → (k : ℕ) → History → List Row → Option Version → (n : ℕ) → Param → CallArg → Arg → Type 0
PlaceOk s k h rows v n p a x = IsStartArg s.run.files (world_at s k) h (start_arg rows v n (is_both p.dir) a) x × (n + given_length rows v ≡ arg_length x)

plain_ok : (s : Setup) (k : ℕ) (h : History) (rows : List Row) (n : ℕ) (p : Param) (a : CallArg) (x y : Arg) → ◌≡◌ {A = Option Arg} (Some y) (Some x) → n ≡ 0 → arg_length y ≡ 0 → IsStartArg s.run.files (world_at s k) h (plain_arg a) y → PlaceOk s k h rows None n p a x
plain_ok s k h rows n p a x y e none len is =
    let same : y ≡ x = cc in
    let l = ap arg_length (sym same) in
    (subst (IsStartArg s.run.files (world_at s k) h (plain_arg a)) same is, omega arith)

some_known : (a b : List ℕ) → ◌≡◌ {A = Option Content} (Some (Known a)) (Some (Known b)) → a ≡ b
some_known a b e = let f : Known a ≡ Known b = cc in cc

-- a file that is read
from_ok : (s : Setup) (k : ℕ) (h : History) (rows : List Row) (v : Version) (n : ℕ) (p : Param) (name bytes : List ℕ) (x : Arg) (d : Dir) → p.dir ≡ d → is_input d ≡ true → version_value s.run.files (world_at s k) v ≡ Some (Known bytes) → file_given d (Some (Known bytes)) ≡ Some x
    → IsThere h v → n + given_length rows (Some v) ≡ length bytes → max n (given_length rows (Some v)) ≡ length bytes → PlaceOk s k h rows (Some v) n p (arg.File name) x
from_ok s k h rows v n p name bytes x Output dir reads holds e there sum most = absurd cc
from_ok s k h rows v n p name bytes x Input dir reads holds e there sum most =
    let is : Given (value.File bytes) ≡ x = cc in
    (subst (λ (y : Arg). IsStartArg s.run.files (world_at s k) h (start.From v (max n (given_length rows (Some v))) (is_both p.dir)) y) is (record { holds = holds; there = there; length_is = most }, ap is_both dir), sum ∙ ap arg_length is)
from_ok s k h rows v n p name bytes x Both dir reads holds e there sum most =
    let is : both_ways bytes ≡ x = cc in
    (subst (λ (y : Arg). IsStartArg s.run.files (world_at s k) h (start.From v (max n (given_length rows (Some v))) (is_both p.dir)) y) is (record { holds = holds; there = there; length_is = most }, ap is_both dir), sum ∙ ap arg_length is)

known_of : (d : Dir) (c : Option Content) (x : Arg) → is_input d ≡ true → file_given d c ≡ Some x → (bytes : List ℕ) × (c ≡ Some (Known bytes)) × (arg_length x ≡ length bytes)
known_of Output c x r e = absurd cc
known_of Input None x r e = absurd cc
known_of Input (Some Lost) x r e = absurd cc
known_of Input (Some (Known bytes)) x r e = (bytes, refl, let is : Given (value.File bytes) ≡ x = cc in ap arg_length (sym is))
known_of Both None x r e = absurd cc
known_of Both (Some Lost) x r e = absurd cc
known_of Both (Some (Known bytes)) x r e = (bytes, refl, let is : both_ways bytes ≡ x = cc in ap arg_length (sym is))

-- how long a version is that is read
lengths_ok : (t : Tables) (s : Setup) (k : ℕ) (h : History) (v : Version) (n : ℕ) (name bytes : List ℕ) (x : Arg) → Holds t s k h → IsVersionOf (world_at s k) name v → IsThere h v → version_value s.run.files (world_at s k) v ≡ Some (Known bytes) → arg_length x ≡ length bytes → n ≡ fixed_length (Some v) x
    → (n + given_length t.rows.items (Some v) ≡ length bytes) × (max n (given_length t.rows.items (Some v)) ≡ length bytes)
lengths_ok t s k h (Original y) n name bytes x holds is there value len e = (omega arith, omega arith)
lengths_ok t s k h (Main j) n name bytes x holds is there value len e = (omega arith, omega arith)
lengths_ok t s k h (Out m place) n name bytes x holds is there value len e =
    let left = out_there t s k h m place name holds is there in
    let same : left.bytes ≡ bytes = some_known left.bytes bytes (sym left.holds ∙ value) in
    let given : given_length t.rows.items (Some (Out m place)) ≡ length bytes = ap noted_length left.noted ∙ ap length same in
    (omega arith, omega arith)

true_first : (b c : Bool) → (b && c) ≡ true → b ≡ true
true_first true c e = refl
true_first false c e = absurd cc

file_ok : (t : Tables) (s : Setup) (k : ℕ) (h : History) (v : Version) (n : ℕ) (p : Param) (name : List ℕ) (x : Arg) → Holds t s k h → reads_file p ≡ true → IsVersionOf (world_at s k) name v → IsThere h v → file_given p.dir (version_value s.run.files (world_at s k) v) ≡ Some x → n ≡ fixed_length (Some v) x
    → PlaceOk s k h t.rows.items (Some v) n p (arg.File name) x
file_ok t s k h v n p name x holds reads is there e fixed =
    let input = true_first (is_input p.dir) (is_file p.kind) reads in
    let known = known_of p.dir (version_value s.run.files (world_at s k) v) x input e in
    let len = lengths_ok t s k h v n name known.0 x holds is there known.1 known.2 fixed in
    from_ok s k h t.rows.items v n p name known.0 x p.dir refl input known.1 (sym (ap (file_given p.dir) known.1) ∙ e) there len.0 len.1

out_ok : (t : Tables) (s : Setup) (k : ℕ) (h : History) (n : ℕ) (p : Param) (name : List ℕ) (x : Arg) → file_given p.dir None ≡ Some x → n ≡ 0 → PlaceOk s k h t.rows.items None n p (arg.File name) x
out_ok t s k h n p name x e none = of_dir p.dir refl e
  where
    of_dir : (d : Dir) → p.dir ≡ d → file_given d None ≡ Some x → PlaceOk s k h t.rows.items None n p (arg.File name) x
    of_dir Input is e = absurd cc
    of_dir Both is e = absurd cc
    of_dir Output is e = plain_ok s k h t.rows.items n p (arg.File name) x OutFile e none refl tt

-- ---- all places

-- what is known of what is read
abbrev Each : Setup → (k : ℕ) → History → List (Option Version) → List CallArg → Type 0
Each s k h reads args = (i : ℕ) (v : Version) → slice_get reads i ≡ Some (Some v) → (name : List ℕ) × (slice_get args i ≡ Some (arg.File name)) × IsVersionOf (world_at s k) name v × IsThere h v

one_file : (a b : List ℕ) → ◌≡◌ {A = Option CallArg} (Some (arg.File a)) (Some (arg.File b)) → b ≡ a
one_file a b e = let f : arg.File a ≡ arg.File b = cc in cc

place_ok : (t : Tables) (s : Setup) (k : ℕ) (h : History) (ws : List Written) (p : Param) (ps : List Param) (a : CallArg) (args : List CallArg) (n : ℕ) (x : Arg) → Holds t s k h → Each s k h (read_by ws (p ∷ ps) (a ∷ args)) (a ∷ args)
    → given (λ name. content_by s.run.files (world_at s k) (read_at ws p a)) p a ≡ Some x → n ≡ fixed_length (read_at ws p a) x → PlaceOk s k h t.rows.items (read_at ws p a) n p a x
place_ok t s k h ws p ps (arg.Int i) args n x holds each e fixed = plain_ok s k h t.rows.items n p (arg.Int i) x (Given (value.Int i)) e fixed refl refl
place_ok t s k h ws p ps (arg.Str b) args n x holds each e fixed = plain_ok s k h t.rows.items n p (arg.Str b) x (Given (value.Str b)) e fixed refl refl
place_ok t s k h ws p ps arg.OutInt args n x holds each e fixed = plain_ok s k h t.rows.items n p arg.OutInt x OutInt e fixed refl tt
place_ok t s k h ws p ps arg.OutStr args n x holds each e fixed = plain_ok s k h t.rows.items n p arg.OutStr x OutStr e fixed refl tt
place_ok t s k h ws p ps (arg.File name) args n x holds each e fixed = of_test (reads_file p) refl (λ v here. each 0 v here) e fixed
  where
    read : Bool → Option Version
    read b = if b then Some (latest name ws) else None

    of_test : (b : Bool) → reads_file p ≡ b → ((v : Version) → Some (if b then Some (latest name ws) else None) ≡ Some (Some v) → (y : List ℕ) × (slice_get (arg.File name ∷ args) 0 ≡ Some (arg.File y)) × IsVersionOf (world_at s k) y v × IsThere h v)
        → file_given p.dir (content_by s.run.files (world_at s k) (if b then Some (latest name ws) else None)) ≡ Some x → n ≡ fixed_length (if b then Some (latest name ws) else None) x → PlaceOk s k h t.rows.items (if b then Some (latest name ws) else None) n p (arg.File name) x
    of_test false r known e fixed = out_ok t s k h n p name x e fixed
    of_test true r known e fixed =
        let is = known (latest name ws) refl in
        let same = one_file name is.0 is.1 in
        file_ok t s k h (latest name ws) n p name x holds r (subst (λ (y : List ℕ). IsVersionOf (world_at s k) y (latest name ws)) same is.2) is.3 e fixed

lengths_cons : (x : Arg) (xs : List Arg) → input_lengths (x ∷ xs) ≡ arg_length x + input_lengths xs
lengths_cons (Given v) xs = refl
lengths_cons (both_ways bytes) xs = refl
lengths_cons OutFile xs = omega arith
lengths_cons OutInt xs = omega arith
lengths_cons OutStr xs = omega arith

none_some : (xs : List Arg) → ◌≡◌ {A = Option (List Arg)} (Some []) (Some xs) → [] ≡ xs
none_some xs e = cc

-- what is got at all places, and how long it is together
abbrev pub AllOk : Setup → (k : ℕ) → History → List Row → List Param → List (Option Version) → (kept : List ℕ) → List CallArg → List Arg → Type 0
AllOk s k h rows ps reads kept args xs = AreStartArgs s.run.files (world_at s k) h (start_args_by rows ps reads kept args) xs × (read_lengths rows reads kept ≡ input_lengths xs)

all_ok : (t : Tables) (s : Setup) (k : ℕ) (h : History) (ws : List Written) (ps : List Param) (args : List CallArg) (xs : List Arg) (kept : List ℕ) → Holds t s k h → AreFit args ps → Each s k h (read_by ws ps args) args → all_given_by s.run.files (world_at s k) (read_by ws ps args) ps args ≡ Some xs → kept ≡ fixed_lengths (read_by ws ps args) xs
    → AllOk s k h t.rows.items ps (read_by ws ps args) kept args xs
all_ok t s k h ws [] [] xs kept holds fits each e fixed = subst (AllOk s k h t.rows.items [] [] kept []) (none_some xs e) (tt, refl)
all_ok t s k h ws [] (a ∷ args) xs kept holds fits each e fixed = absurd fits
all_ok t s k h ws (p ∷ ps) [] xs kept holds fits each e fixed = subst (AllOk s k h t.rows.items (p ∷ ps) [] kept []) (none_some xs e) (tt, refl)
all_ok t s k h ws (p ∷ ps) (a ∷ args) xs kept holds fits each e fixed =
    let v = read_at ws p a in
    let reads = read_by ws ps args in
    let parts = both_given (given (λ name. content_by s.run.files (world_at s k) v) p a) (all_given_by s.run.files (world_at s k) reads ps args) xs e in
    let n = fixed_length v parts.0 in
    let rest = fixed_lengths reads parts.1 in
    let lens : n ∷ rest ≡ kept = ap (fixed_lengths (v ∷ reads)) parts.4 ∙ sym fixed in
    let here = place_ok t s k h ws p ps a args n parts.0 holds each parts.2 refl in
    let more = all_ok t s k h ws ps args parts.1 rest holds fits.1 (λ i w f. each (suc i) w f) parts.3 refl in
    let sum = here.1 in
    let all = more.1 in
    let cons = lengths_cons parts.0 parts.1 in
    let both : AllOk s k h t.rows.items (p ∷ ps) (v ∷ reads) (n ∷ rest) (a ∷ args) (parts.0 ∷ parts.1) = ((here.0, more.0), omega arith) in
    subst (λ (ks : List ℕ). AllOk s k h t.rows.items (p ∷ ps) (v ∷ reads) ks (a ∷ args) xs) lens (subst (AllOk s k h t.rows.items (p ∷ ps) (v ∷ reads) (n ∷ rest) (a ∷ args)) parts.4 both)

-- ---- an open task

-- a task that isn't lost isn't done with nothing
not_lost : (t : Task) (outs : List Value) → t.outs ≡ Some outs → is_lost t ≡ true → ⊥
not_lost t outs e lost = let f : false ≡ true = sym (ap is_none e) ∙ lost in cc

some_of : {A : Type 0} (o : Option A) → IsSome o → (x : A) × (o ≡ Some x)
some_of None is = absurd cc
some_of (Some x) is = (x, refl)

lost_not : (t : Tables) (s : Setup) (k n : ℕ) (h : History) (task : Task) (reads : List (Option Version)) → Holds t s k h → task_at (world_at s k).tasks n ≡ Some task → IsTaskOf s.run (world_at s k) n task reads → ((i : ℕ) (v : Version) → slice_get reads i ≡ Some (Some v) → IsThere h v) → ReadsLost s.run reads → ⊥
lost_not t s k n h task reads holds at of there lost =
    let done = some_of (outs_in h lost.m) (there lost.i (Out lost.m lost.place) lost.read) in
    let read = of.each lost.i (Out lost.m lost.place) lost.read in
    let left = Rattle.gs_tables.proofs.Reading.is_left_of s k lost.m lost.place read.name read.version in
    let gave = done_is_true s k h lost.m left.task done.0 holds.good (notes_fit s k holds.fit) left.is done.1 in
    let same = one_task s.run lost.m left.task lost.task (record { moment = k; is = left.is }) (record { moment = lost.moment; is = lost.called }) in
    not_lost lost.task done.0 (ap (λ (x : Task). x.outs) (sym same) ∙ gave) lost.lost

-- all that is known of an open task
pub record Supplied (t : Tables) (s : Setup) (k n : ℕ) (h : History) (task : Task) : Type 0 where
  pub row : Row
  pub at : row_at t.rows.items n ≡ Some row
  pub op : row.op ≡ task.op
  pub args : List Arg
  pub args_are : task.args ≡ Some args
  pub ok : AllOk s k h t.rows.items task.params row.reads row.kept row.called args
  pub params : task.params ≡ params_at s.run.texts.ops task.op

pub supplied : (t : Tables) (s : Setup) (k n : ℕ) (h : History) (task : Task) → Holds t s k h → task_at (world_at s k).tasks n ≡ Some task → ((m : ℕ) → DependsOn s.run n m → IsDone h m) → Supplied t s k n h task
supplied t s k n h task holds at inputs =
    let known = tasks_read_versions s.run k n task at in
    let reads = known.0 in
    let of = known.2 in
    let there = (inputs_are_versions s h k n reads known.1).there inputs in
    let is = given_all s.run k n task reads holds.known at known.1 in
    let has = holds.rows n task reads at known.1 in
    elim is.args [
      | inr lost ↦ absurd (lost_not t s k n h task reads holds at of there lost)
      | inl given ↦
          let ws = writings s.run is.by.moment in
          let same : reads ≡ read_by ws task.params task.called = is.by.are in
          let each : Each s k h (read_by ws task.params task.called) task.called = λ i v e.
          let f : slice_get reads i ≡ Some (Some v) = ap (λ (l : List (Option Version)). slice_get l i) same ∙ e in
          let r = of.each i v f in
          (r.name, r.passed, r.version, there i v f) in
          let ok = all_ok t s k h ws task.params task.called given.0 (fixed_lengths (read_by ws task.params task.called) given.0) holds of.fit each (ap (λ (l : List (Option Version)). all_given_by s.run.files (world_at s k) l task.params task.called) (sym same) ∙ sym of.args ∙ given.1) refl in
          let kept : fixed_lengths (read_by ws task.params task.called) given.0 ≡ has.row.kept = ap (λ (l : List (Option Version)). fixed_lengths l given.0) (sym same) ∙ sym (has.is.kept given.0 given.1) in
          record {
            row = has.row;
            at = has.at;
            op = has.is.op;
            args = given.0;
            args_are = given.1;
            ok = subst (λ (c : List CallArg). AllOk s k h t.rows.items task.params has.row.reads has.row.kept c given.0) (sym has.is.called)
                (subst (λ (l : List (Option Version)). AllOk s k h t.rows.items task.params l has.row.kept task.called given.0) (sym same ∙ sym has.is.read)
                (subst (λ (ks : List ℕ). AllOk s k h t.rows.items task.params (read_by ws task.params task.called) ks task.called given.0) kept ok));
            params = of.params;
          }
    ]
