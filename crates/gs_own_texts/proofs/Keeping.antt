-- A program's questions write no own text: at each question, from each state whose open files that
-- are written are none.
use Rattle.std.proofs.Common.{◌≡◌, ◌++◌, ℕ, zero, suc, ℤ, pos, ◌-ℤ◌, Bool, true, false, not, ◌&&◌, refl, ap, List, [], ◌∷◌, length, Result, Ok, Err, Option, Some, None, nat_lt, nat_le, if◌then◌else◌}
use Rattle.std.specs.Prelude.{is_some, slice_get, set, count_by}
use Rattle.std.specs.Bool.{⊤}
use Rattle.std.specs.Option.{option_or}
use Rattle.gs_idl.specs.Interface.{Param, params_at, writes_file}
use Rattle.gs_tree.specs.declared.tree.Mode.{Mode}
use Rattle.gs_tree.specs.declared.tree.Mode.TheVariants.{R, W, A}
use Rattle.gs_types.specs.NameTest.{is_name}
use Rattle.gs_types.specs.declared.value.Value.{Value}
use Rattle.gs_types.specs.declared.value.Value.TheVariants.{Int, Str}
use Rattle.gs_types.specs.declared.limits.TheConstants.{ACTION_LIMIT, FILE_LIMIT, STRING_LIMIT, PRINTED_LIMIT, NAME_LIMIT, HANDLE_LIMIT}
use Rattle.gs_types.specs.declared.settings.FaultKind.{FaultKind}
use Rattle.gs_types.specs.declared.settings.FaultKind.TheVariants.{TooManyActions, StringTooLong, TextTooLong, FileTooLong, WrongMode, BadName, OwnText, FileOpen, HandleOpen, TooManyOpen, TooManyNames}
use Rattle.gs_talk.specs.declared.slot.Slot.{Slot}
use Rattle.gs_talk.specs.declared.slot.Slot.TheVariants.{Held, Due}
use Rattle.gs_talk.specs.declared.question.CallArg.{CallArg}
use Rattle.gs_talk.specs.declared.question.CallArg.TheVariants as arg
use Rattle.gs_talk.specs.declared.question.Question.{Question}
use Rattle.gs_talk.specs.declared.question.Question.TheVariants.{Call, Use, OpenFile, CloseFile, Barrier, End, Fault, FuelOut}
use Rattle.gs_talk.specs.declared.question.Answer.{Answer}
use Rattle.gs_talk.specs.declared.question.Answer.TheVariants.{Went, Val, Bytes, Absent, TooLong}
use Rattle.gs_talk.specs.Terms.{Placed, number, text, at, converted, compared, negated, inverted, both}
use Rattle.gs_talk.specs.Values.{is_zero, fit, truth, apply, decided, atoi_of, order_of, int_of, text_of}
use Rattle.gs_talk.specs.Texts.{formatted, Taken, no_more, got, read_line_at}
use Rattle.gs_talk.specs.Talk.{Given, State, Opened, Dialogue, Done, Ask, Stop, Meaning, then_do, fails, fault_if, unless, step, counted, action, taken, set_to, used, looked, fitted, or_else, valued, all_valued, with_text, with_handle, appended, closed, do_set, printing, do_print, printing_str, do_print_str, opened_by, opened_at, is_written, open_fault, fresh, absent, opened, asks_to_open, opening, do_open, closing_by, closing, writes, is_own_text, writing, read_to, line_taken, reading, with_name}
use Rattle.gs_talk_laws.proofs.Fuel.{Then, ThenAll}
use Rattle.gs_talk_laws.proofs.Statements.{noting_one, opens}

-- ---- what a question writes

-- no own text stands at a place that the operation writes
abbrev pub CallKeeps : Given → List Param → List CallArg → Type 0
CallKeeps t [] args = ⊤
CallKeeps t (p ∷ ps) [] = ⊤
CallKeeps t (p ∷ ps) (arg.File name ∷ args) =
    (writes_file p ≡ true → is_own_text t name ≡ false) × CallKeeps t ps args
CallKeeps t (p ∷ ps) (arg.Int v ∷ args) = CallKeeps t ps args
CallKeeps t (p ∷ ps) (arg.Str b ∷ args) = CallKeeps t ps args
CallKeeps t (p ∷ ps) (arg.OutInt ∷ args) = CallKeeps t ps args
CallKeeps t (p ∷ ps) (arg.OutStr ∷ args) = CallKeeps t ps args

abbrev pub QuestionKeeps : Given → Question → Type 0
QuestionKeeps t (Call op line args) = CallKeeps t (params_at t.ops op) args
QuestionKeeps t (CloseFile name bytes) = is_own_text t name ≡ false
QuestionKeeps t (Use n place) = ⊤
QuestionKeeps t (OpenFile name mode line) = ⊤
QuestionKeeps t Barrier = ⊤
QuestionKeeps t End = ⊤
QuestionKeeps t (Fault line kind) = ⊤
QuestionKeeps t FuelOut = ⊤

-- ---- open files

-- an open file that is written is no own text
abbrev pub FileKeeps : Given → Option Opened → Type 0
FileKeeps t None = ⊤
FileKeeps t (Some h) = writes h.mode ≡ true → is_own_text t h.name ≡ false

abbrev pub HandlesKeep : Given → List (Option Opened) → Type 0
HandlesKeep t [] = ⊤
HandlesKeep t (h ∷ hs) = FileKeeps t h × HandlesKeep t hs

pub handle_keeps : (t : Given) (hs : List (Option Opened)) (i : ℕ) → HandlesKeep t hs
    → FileKeeps t (opened_by (slice_get hs i))
handle_keeps t [] i keep = tt
handle_keeps t (h ∷ hs) zero keep = keep.0
handle_keeps t (h ∷ hs) (suc i) keep = handle_keeps t hs i keep.1

set_keeps : (t : Given) (hs : List (Option Opened)) (i : ℕ) (h : Option Opened) → HandlesKeep t hs
    → FileKeeps t h → HandlesKeep t (set hs i h)
set_keeps t [] i h keep new = tt
set_keeps t (x ∷ hs) zero h keep new = (new, keep.1)
set_keeps t (x ∷ hs) (suc i) h keep new = (keep.0, set_keeps t hs i h keep.1 new)

-- ---- dialogues

-- each question keeps, whatever is answered, and so do the handles at the end
abbrev pub Keeps : Given → Dialogue → Type 0
Keeps t (Done n s) = HandlesKeep t s.handles
Keeps t (Stop q s) = ⊤
Keeps t (Ask q s next) = QuestionKeeps t q × ((a : Answer) → Keeps t (next a))

abbrev pub Kept : Given → Meaning → Type 0
Kept t m = (n : ℕ) (s : State) → HandlesKeep t s.handles → Keeps t (m n s)

abbrev pub KeptThen : Given → Then → Type 0
KeptThen t go = (v : Value) (s : State) → HandlesKeep t s.handles → Keeps t (go v s)

abbrev pub KeptAll : Given → ThenAll → Type 0
KeptAll t go = (vs : List Value) (s : State) → HandlesKeep t s.handles → Keeps t (go vs s)

pub then_keeps : (t : Given) (d : Dialogue) (go : Meaning) → Keeps t d → Kept t go
    → Keeps t (then_do d go)
then_keeps t (Done n s) go p k = k n s p
then_keeps t (Stop q s) go p k = tt
then_keeps t (Ask q s next) go p k = (p.0, λ a. then_keeps t (next a) go (p.1 a) k)

pub step_keeps : (t : Given) (m : Meaning) → Kept t m → Kept t (step m)
step_keeps t m k zero s h = tt
step_keeps t m k (suc n) s h = k n s h

if_keeps : (t : Given) (b : Bool) (d other : Dialogue) → (b ≡ true → Keeps t d) → Keeps t other
    → Keeps t (if b then d else other)
if_keeps t true d other p k = p refl
if_keeps t false d other p k = k

pub unless_keeps : (t : Given) (o : Option FaultKind) (line : ℕ) (s : State) (d : Dialogue)
    → (o ≡ None → Keeps t d) → Keeps t (unless o line s d)
unless_keeps t None line s d p = p refl
unless_keeps t (Some fault) line s d p = tt

pub ask_keeps : (t : Given) (line : ℕ) (q : Question) (to : State → State)
    (next : State → Answer → Dialogue) (s : State) → QuestionKeeps t q
    → ((a : Answer) → Keeps t (next (counted s) a))
    → Keeps t (action line s (λ u. Ask q (to u) (next u)))
ask_keeps t line q to next s is k = if_keeps t (nat_lt s.actions ACTION_LIMIT)
    (Ask q (to (counted s)) (next (counted s))) (fails line TooManyActions s) (λ e. (is, k)) tt

-- ---- values

pub used_keeps : (t : Given) (line i n place : ℕ) (go : Then) (s : State) → HandlesKeep t s.handles
    → KeptThen t go → Keeps t (used line i n place s go)
used_keeps t line i n place go s h k = ask_keeps t line (Use n place) (λ u. u)
    (λ u a. go (taken a) (set_to i (taken a) u)) s tt
    (λ a. k (taken a) (set_to i (taken a) (counted s)) h)

looked_keeps : (t : Given) (o : Option Slot) (line i : ℕ) (go : Then) (s : State)
    → HandlesKeep t s.handles → KeptThen t go → Keeps t (looked line i o s go)
looked_keeps t None line i go s h k = k _ s h
looked_keeps t (Some (Held v)) line i go s h k = k v s h
looked_keeps t (Some (Due n place)) line i go s h k = used_keeps t line i n place go s h k

fitted_keeps : (t : Given) (r : Result ℤ FaultKind) (line : ℕ) (go : Then) (s : State)
    → HandlesKeep t s.handles → KeptThen t go → Keeps t (fitted line r s go)
fitted_keeps t (Ok v) line go s h k = k (Int v) s h
fitted_keeps t (Err e) line go s h k = tt

or_else_keeps : (t : Given) (o : Option ℤ) (go : ℤ → Dialogue) (d : Dialogue)
    → ((v : ℤ) → Keeps t (go v)) → Keeps t d → Keeps t (or_else o go d)
or_else_keeps t (Some v) go d p k = p v
or_else_keeps t None go d p k = k

pub valued_keeps : (t : Given) (p : Placed) (line : ℕ) (go : Then) (s : State)
    → HandlesKeep t s.handles → KeptThen t go → Keeps t (valued line p s go)
valued_keeps t (number v) line go s h k = k (Int v) s h
valued_keeps t (text b) line go s h k = k (Str b) s h
valued_keeps t (at i) line go s h k = looked_keeps t (slice_get s.vars i) line i go s h k
valued_keeps t (converted a) line go s h k =
    valued_keeps t a line (λ x u. fitted line (atoi_of (text_of x)) u go) s h
    (λ x u g. fitted_keeps t (atoi_of (text_of x)) line go u g k)
valued_keeps t (compared a b) line go s h k =
    valued_keeps t a line
    (λ x u. valued line b u (λ y w. go (Int (order_of (text_of x) (text_of y))) w)) s h
    (λ x u g. valued_keeps t b line (λ y w. go (Int (order_of (text_of x) (text_of y))) w) u g
    (λ y w f. k (Int (order_of (text_of x) (text_of y))) w f))
valued_keeps t (negated a) line go s h k =
    valued_keeps t a line (λ x u. fitted line (fit (pos 0 -ℤ int_of x)) u go) s h
    (λ x u g. fitted_keeps t (fit (pos 0 -ℤ int_of x)) line go u g k)
valued_keeps t (inverted a) line go s h k =
    valued_keeps t a line (λ x u. go (Int (truth (is_zero (int_of x)))) u) s h
    (λ x u g. k (Int (truth (is_zero (int_of x)))) u g)
valued_keeps t (both o a b) line go s h k =
    valued_keeps t a line (λ x u. or_else (decided o (int_of x)) (λ v. go (Int v) u)
    (valued line b u (λ y w. fitted line (apply o (int_of x) (int_of y)) w go))) s h
    (λ x u g. or_else_keeps t (decided o (int_of x)) (λ v. go (Int v) u)
    (valued line b u (λ y w. fitted line (apply o (int_of x) (int_of y)) w go))
    (λ v. k (Int v) u g)
    (valued_keeps t b line (λ y w. fitted line (apply o (int_of x) (int_of y)) w go) u g
    (λ y w f. fitted_keeps t (apply o (int_of x) (int_of y)) line go w f k)))

all_keep : (t : Given) (ps : List Placed) (line : ℕ) (go : ThenAll) (s : State)
    → HandlesKeep t s.handles → KeptAll t go → Keeps t (all_valued line ps s go)
all_keep t [] line go s h k = k [] s h
all_keep t (p ∷ ps) line go s h k =
    valued_keeps t p line (λ v u. all_valued line ps u (λ vs w. go (v ∷ vs) w)) s h
    (λ v u g. all_keep t ps line (λ vs w. go (v ∷ vs) w) u g (λ vs w f. k (v ∷ vs) w f))

pub value_kept : (t : Given) (line : ℕ) (p : Placed) (go : ℕ → Then)
    → ((n : ℕ) → KeptThen t (go n)) → Kept t (step (λ n s. valued line p s (go n)))
value_kept t line p go k =
    step_keeps t (λ n s. valued line p s (go n)) (λ n s h. valued_keeps t p line (go n) s h (k n))

pub values_kept : (t : Given) (line : ℕ) (ps : List Placed) (go : ℕ → ThenAll)
    → ((n : ℕ) → KeptAll t (go n)) → Kept t (step (λ n s. all_valued line ps s (go n)))
values_kept t line ps go k = step_keeps t (λ n s. all_valued line ps s (go n))
    (λ n s h. all_keep t ps line (go n) s h (k n))

-- ---- statements that call nothing

pub set_kept : (t : Given) (line to : ℕ) (p : Placed) → Kept t (do_set line to p)
set_kept t line to p = value_kept t line p (λ n v u. Done n (set_to to v u)) (λ n v s h. h)

pub print_kept : (t : Given) (line : ℕ) (format : List ℕ) (args : List Placed)
    → Kept t (do_print line format args)
print_kept t line format args =
    values_kept t line args (λ n vs u. printing line (formatted format vs) n u) (λ n vs s h.
    if_keeps t (nat_le (length (s.text ++ formatted format vs)) PRINTED_LIMIT)
    (Done n (with_text (s.text ++ formatted format vs) s)) (fails line TextTooLong s) (λ e. h) tt)

pub print_str_kept : (t : Given) (line to : ℕ) (format : List ℕ) (args : List Placed)
    → Kept t (do_print_str line to format args)
print_str_kept t line to format args =
    values_kept t line args (λ n vs u. printing_str line to (formatted format vs) n u)
    (λ n vs s h. if_keeps t (nat_le (length (formatted format vs)) STRING_LIMIT)
    (Done n (set_to to (Str (formatted format vs)) s)) (fails line StringTooLong s) (λ e. h) tt)

-- ---- files

-- a file is open under a name that is no own text, or isn't written
shows_kept : (t : Given) (to : ℕ) (name : List ℕ) (m : Mode) (bytes : List ℕ) (s : State)
    → (writes m ≡ true → is_own_text t name ≡ false) → HandlesKeep t s.handles
    → HandlesKeep t (with_handle to (Some (fresh name m bytes)) s).handles
shows_kept t to name m bytes s apart h = set_keeps t s.handles to (Some (fresh name m bytes)) h apart

absent_kept : (t : Given) (line to : ℕ) (name : List ℕ) (m : Mode)
    → (writes m ≡ true → is_own_text t name ≡ false) → Kept t (absent line to name m)
absent_kept t line to name R apart n s h = tt
absent_kept t line to name W apart n s h = shows_kept t to name W [] s apart h
absent_kept t line to name A apart n s h = shows_kept t to name A [] s apart h

opened_kept : (t : Given) (a : Answer) (line to : ℕ) (name : List ℕ) (m : Mode)
    → (writes m ≡ true → is_own_text t name ≡ false) → Kept t (opened a line to name m)
opened_kept t (Bytes bytes) line to name m apart n s h = shows_kept t to name m bytes s apart h
opened_kept t Absent line to name m apart n s h = absent_kept t line to name m apart n s h
opened_kept t TooLong line to name m apart n s h = tt
opened_kept t Went line to name m apart n s h = shows_kept t to name m [] s apart h
opened_kept t (Val v) line to name m apart n s h = shows_kept t to name m [] s apart h

asks_to_open_kept : (t : Given) (line to : ℕ) (name : List ℕ) (m : Mode)
    → (writes m ≡ true → is_own_text t name ≡ false) → Kept t (asks_to_open line to name m)
asks_to_open_kept t line to name m apart n s h = ask_keeps t line (OpenFile name m line) (λ u. u)
    (λ u a. opened a line to name m n u) s tt
    (λ a. opened_kept t a line to name m apart n (counted s) h)

opening_kept : (t : Given) (line to : ℕ) (name : List ℕ) (m : Mode)
    → (writes m ≡ true → is_own_text t name ≡ false) → Kept t (opening line to name m)
opening_kept t line to name R apart n s h = asks_to_open_kept t line to name R apart n s h
opening_kept t line to name W apart n s h = shows_kept t to name W [] s apart h
opening_kept t line to name A apart n s h = asks_to_open_kept t line to name A apart n s h

-- ---- what stands against an own text

pub first_none : (a b : Option FaultKind) → option_or a b ≡ None → (a ≡ None) × (b ≡ None)
first_none None b e = (refl, e)
first_none (Some k) b e = absurd cc

pub no_fault : (b : Bool) (kind : FaultKind) → fault_if b kind ≡ None → b ≡ false
no_fault true kind e = absurd cc
no_fault false kind e = refl

pub both_no : (a b : Bool) → (a && b) ≡ false → a ≡ true → b ≡ false
both_no true b e is = e
both_no false b e is = absurd cc

open_apart : (t : Given) (s : State) (to : ℕ) (name : List ℕ) (m : Mode)
    → open_fault t s to name m ≡ None → writes m ≡ true → is_own_text t name ≡ false
open_apart t s to name m free =
    let a = first_none (fault_if (is_some (opened_at s to)) HandleOpen)
    (option_or (fault_if (not (is_name name)) BadName)
    (option_or (fault_if (writes m && is_own_text t name) OwnText)
    (option_or (fault_if (is_written s name) FileOpen)
    (option_or (fault_if (nat_le HANDLE_LIMIT (count_by is_some s.handles)) TooManyOpen)
    (fault_if (nat_lt NAME_LIMIT (length (with_name s.names name))) TooManyNames))))) free in
    let b = first_none (fault_if (not (is_name name)) BadName)
    (option_or (fault_if (writes m && is_own_text t name) OwnText)
    (option_or (fault_if (is_written s name) FileOpen)
    (option_or (fault_if (nat_le HANDLE_LIMIT (count_by is_some s.handles)) TooManyOpen)
    (fault_if (nat_lt NAME_LIMIT (length (with_name s.names name))) TooManyNames)))) a.1 in
    let c = first_none (fault_if (writes m && is_own_text t name) OwnText)
    (option_or (fault_if (is_written s name) FileOpen)
    (option_or (fault_if (nat_le HANDLE_LIMIT (count_by is_some s.handles)) TooManyOpen)
    (fault_if (nat_lt NAME_LIMIT (length (with_name s.names name))) TooManyNames))) b.1 in
    both_no (writes m) (is_own_text t name)
    (no_fault (writes m && is_own_text t name) OwnText c.0)

pub open_kept : (t : Given) (line to : ℕ) (path : Placed) (m : Mode)
    → Kept t (do_open t line to path m)
open_kept t line to path m = value_kept t line path (opens t line to m)
    (λ n v s h. unless_keeps t (open_fault t s to (text_of v) m) line s
    (opening line to (text_of v) m n (noting_one v s))
    (λ free. opening_kept t line to (text_of v) m (open_apart t s to (text_of v) m free) n
    (noting_one v s) h))

closed_keeps : (t : Given) (i : ℕ) (s : State) → HandlesKeep t s.handles
    → HandlesKeep t (closed i s).handles
closed_keeps t i s h = set_keeps t s.handles i None h tt

closing_by_kept : (t : Given) (m : Mode) (line i : ℕ) (o : Opened) → o.mode ≡ m
    → FileKeeps t (Some o) → Kept t (closing_by m line i o)
closing_by_kept t R line i o is keeps n s h = closed_keeps t i s h
closing_by_kept t W line i o is keeps n s h = ask_keeps t line (CloseFile o.name o.content)
    (closed i) (λ u a. Done n (closed i u)) s (keeps (ap writes is))
    (λ a. closed_keeps t i (counted s) h)
closing_by_kept t A line i o is keeps n s h = ask_keeps t line (CloseFile o.name o.content)
    (closed i) (λ u a. Done n (closed i u)) s (keeps (ap writes is))
    (λ a. closed_keeps t i (counted s) h)

pub closing_kept : (t : Given) (line i : ℕ) (o : Option Opened) → FileKeeps t o
    → Kept t (closing line i o)
closing_kept t line i None keeps n s h = tt
closing_kept t line i (Some o) keeps n s h = closing_by_kept t o.mode line i o refl keeps n s h

pub writing_kept : (t : Given) (line i : ℕ) (out : List ℕ) (o : Option Opened) → FileKeeps t o
    → Kept t (writing line i out o)
writing_kept t line i out None keeps n s h = tt
writing_kept t line i out (Some o) keeps n s h =
    let short = nat_le (length (o.content ++ out)) FILE_LIMIT in
    let u = with_handle i (Some (appended out o)) s in
    if_keeps t (not (writes o.mode)) (fails line WrongMode s)
    (if short then Done n u else fails line FileTooLong s) (λ e. tt)
    (if_keeps t short (Done n u) (fails line FileTooLong s)
    (λ e. set_keeps t s.handles i (Some (appended out o)) h keeps) tt)

taken_kept : (t : Given) (line got_at i to : ℕ) (o : Opened) (r : Result Taken FaultKind)
    → FileKeeps t (Some o) → Kept t (line_taken line got_at i to o r)
taken_kept t line got_at i to o (Err fault) keeps n s h = tt
taken_kept t line got_at i to o (Ok no_more) keeps n s h = h
taken_kept t line got_at i to o (Ok (got bytes next)) keeps n s h =
    set_keeps t s.handles i (Some (read_to next o)) h keeps

pub reading_kept : (t : Given) (line got_at i to : ℕ) (o : Option Opened) → FileKeeps t o
    → Kept t (reading line got_at i to o)
reading_kept t line got_at i to None keeps n s h = tt
reading_kept t line got_at i to (Some o) keeps n s h =
    let r = read_line_at o.content o.at in
    if_keeps t (writes o.mode) (fails line WrongMode s) (line_taken line got_at i to o r n s)
    (λ e. tt) (taken_kept t line got_at i to o r keeps n s h)
