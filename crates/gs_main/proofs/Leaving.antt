-- Each order that is done leaves as many steps as it was given.
use Rattle.std.proofs.Common.{◌≡◌, ◌++◌, ℕ, not, refl, List, length, Result, Ok, Err, Option, Some, None, nat_le}
use Rattle.gs_idl.specs.Interface.{params_at}
use Rattle.gs_tree.specs.declared.tree.Mode.{Mode}
use Rattle.gs_tree.specs.declared.tree.Mode.TheVariants.{R, W, A}
use Rattle.gs_types.specs.declared.limits.TheConstants.{FILE_LIMIT, STRING_LIMIT, PRINTED_LIMIT}
use Rattle.gs_types.specs.declared.value.Value.TheVariants.{Str}
use Rattle.gs_types.specs.declared.settings.FaultKind.{FaultKind}
use Rattle.gs_types.specs.declared.settings.FaultKind.TheVariants.{StringTooLong, TextTooLong, FileTooLong, WrongMode}
use Rattle.gs_talk.specs.declared.question.CallArg.{CallArg}
use Rattle.gs_talk.specs.declared.question.Question.TheVariants.{Call, OpenFile, CloseFile, Barrier}
use Rattle.gs_talk.specs.declared.question.Answer.{Answer}
use Rattle.gs_talk.specs.declared.question.Answer.TheVariants.{Went, Val, Bytes, Absent, TooLong}
use Rattle.gs_talk.specs.Terms.{Placed}
use Rattle.gs_talk.specs.Values.{text_of}
use Rattle.gs_talk.specs.Texts.{formatted, Taken, no_more, got, read_line_at}
use Rattle.gs_talk.specs.Talk.{Given, State, Opened, Done, Ask, Meaning, fails, set_to, with_text, with_handle, appended, closed, numbered, printing, printing_str, opened_at, open_fault, with_name, noting, absent, opened, asks_to_open, opening, closing_by, closing, writes, writing, line_taken, reading, Handed, call_fault, files_in, with_names, went, calling}
use Rattle.gs_main.specs.Meanings.{assigning, showing, showing_to, writing_at, showing_in, loading_named, loading, fetching, saving, pausing, sending_args, sending}
use Rattle.gs_main.proofs.Ending.{Ends, ends_if, ends_unless, ends_action, ends_valued, ends_all, ends_passed}

abbrev pub Is : ℕ → ℕ → Type 0
Is n i = i ≡ n

abbrev pub Exact : Meaning → Type 0
Exact m = (n : ℕ) (s : State) → Ends (Is n) (m n s)

pub exact_assigning : (line to : ℕ) (t : Placed) → Exact (assigning line to t)
exact_assigning line to t n s = ends_valued (Is n) t line s (λ v u. Done n (set_to to v u)) (λ v u. refl)

exact_printing : (line : ℕ) (out : List ℕ) → Exact (printing line out)
exact_printing line out n s = ends_if (Is n) (nat_le (length (s.text ++ out)) PRINTED_LIMIT) (Done n (with_text (s.text ++ out) s)) (fails line TextTooLong s) refl tt

pub exact_showing : (line : ℕ) (format : List ℕ) (args : List Placed) → Exact (showing line format args)
exact_showing line format args n s = ends_all (Is n) args line s (λ vs u. printing line (formatted format vs) n u) (λ vs u. exact_printing line (formatted format vs) n u)

exact_printing_str : (line to : ℕ) (out : List ℕ) → Exact (printing_str line to out)
exact_printing_str line to out n s = ends_if (Is n) (nat_le (length out) STRING_LIMIT) (Done n (set_to to (Str out) s)) (fails line StringTooLong s) refl tt

pub exact_showing_to : (line to : ℕ) (format : List ℕ) (args : List Placed) → Exact (showing_to line to format args)
exact_showing_to line to format args n s = ends_all (Is n) args line s (λ vs u. printing_str line to (formatted format vs) n u) (λ vs u. exact_printing_str line to (formatted format vs) n u)

exact_writing : (line i : ℕ) (out : List ℕ) (o : Option Opened) → Exact (writing line i out o)
exact_writing line i out None n s = tt
exact_writing line i out (Some h) n s =
    let u = with_handle i (Some (appended out h)) s in
    ends_if (Is n) (not (writes h.mode)) (fails line WrongMode s) _ tt (ends_if (Is n) (nat_le (length (h.content ++ out)) FILE_LIMIT) (Done n u) (fails line FileTooLong s) refl tt)

pub exact_showing_in : (line i : ℕ) (format : List ℕ) (args : List Placed) → Exact (showing_in line i format args)
exact_showing_in line i format args n s = ends_all (Is n) args line s (λ vs u. writing_at line i (formatted format vs) n u) (λ vs u. exact_writing line i (formatted format vs) (opened_at u i) n u)

exact_absent : (line to : ℕ) (name : List ℕ) (m : Mode) → Exact (absent line to name m)
exact_absent line to name R n s = tt
exact_absent line to name W n s = refl
exact_absent line to name A n s = refl

pub exact_opened : (a : Answer) (line to : ℕ) (name : List ℕ) (m : Mode) → Exact (opened a line to name m)
exact_opened (Bytes bytes) line to name m n s = refl
exact_opened Absent line to name m n s = exact_absent line to name m n s
exact_opened TooLong line to name m n s = tt
exact_opened Went line to name m n s = refl
exact_opened (Val v) line to name m n s = refl

exact_asks : (line to : ℕ) (name : List ℕ) (m : Mode) → Exact (asks_to_open line to name m)
exact_asks line to name m n s = ends_action (Is n) line s (λ u. Ask (OpenFile name m line) u (λ a. opened a line to name m n u)) (λ u a. exact_opened a line to name m n u)

exact_opening : (line to : ℕ) (name : List ℕ) (m : Mode) → Exact (opening line to name m)
exact_opening line to name R n s = exact_asks line to name R n s
exact_opening line to name W n s = refl
exact_opening line to name A n s = exact_asks line to name A n s

exact_named : (t : Given) (line to : ℕ) (m : Mode) (name : List ℕ) → Exact (loading_named t line to m name)
exact_named t line to m name n s =
    ends_unless (Is n) (open_fault t s to name m) line s (opening line to name m n (noting (with_name s.names name) s)) (exact_opening line to name m n (noting (with_name s.names name) s))

pub exact_loading : (t : Given) (line to : ℕ) (path : Placed) (m : Mode) → Exact (loading t line to path m)
exact_loading t line to path m n s = ends_valued (Is n) path line s (λ v u. loading_named t line to m (text_of v) n u) (λ v u. exact_named t line to m (text_of v) n u)

exact_closing_by : (m : Mode) (line i : ℕ) (h : Opened) → Exact (closing_by m line i h)
exact_closing_by R line i h n s = refl
exact_closing_by W line i h n s = ends_action (Is n) line s (λ u. Ask (CloseFile h.name h.content) (closed i u) (λ a. Done n (closed i u))) (λ u a. refl)
exact_closing_by A line i h n s = ends_action (Is n) line s (λ u. Ask (CloseFile h.name h.content) (closed i u) (λ a. Done n (closed i u))) (λ u a. refl)

exact_closing : (line i : ℕ) (o : Option Opened) → Exact (closing line i o)
exact_closing line i None n s = tt
exact_closing line i (Some h) n s = exact_closing_by h.mode line i h n s

pub exact_saving : (line i : ℕ) → Exact (saving line i)
exact_saving line i n s = exact_closing line i (opened_at s i) n s

exact_taken : (line got_at i to : ℕ) (h : Opened) (r : Result Taken FaultKind) → Exact (line_taken line got_at i to h r)
exact_taken line got_at i to h (Err kind) n s = tt
exact_taken line got_at i to h (Ok no_more) n s = refl
exact_taken line got_at i to h (Ok (got bytes next)) n s = refl

exact_reading : (line got_at i to : ℕ) (o : Option Opened) → Exact (reading line got_at i to o)
exact_reading line got_at i to None n s = tt
exact_reading line got_at i to (Some h) n s =
    ends_if (Is n) (writes h.mode) (fails line WrongMode s) (line_taken line got_at i to h (read_line_at h.content h.at) n s) tt (exact_taken line got_at i to h (read_line_at h.content h.at) n s)

pub exact_fetching : (line got_at i to : ℕ) → Exact (fetching line got_at i to)
exact_fetching line got_at i to n s = exact_reading line got_at i to (opened_at s i) n s

pub exact_pausing : (line : ℕ) → Exact (pausing line)
exact_pausing line n s = ends_action (Is n) line s (λ u. Ask Barrier u (λ a. Done n u)) (λ u a. refl)

pub exact_went : (a : Answer) (line : ℕ) (args : List Handed) → Exact (went a line args)
exact_went Absent line args n s = tt
exact_went TooLong line args n s = tt
exact_went Went line args n s = refl
exact_went (Val v) line args n s = refl
exact_went (Bytes b) line args n s = refl

exact_calling : (line op : ℕ) (args : List Handed) (vs : List CallArg) → Exact (calling line op args vs)
exact_calling line op args vs n s = ends_action (Is n) line s (λ u. Ask (Call op line vs) (numbered u) (λ a. went a line args n (numbered u))) (λ u a. exact_went a line args n (numbered u))

exact_args : (t : Given) (line op : ℕ) (args : List Handed) (vs : List CallArg) → Exact (sending_args t line op args vs)
exact_args t line op args vs n s =
    let u = noting (with_names s.names (files_in vs)) s in
    ends_unless (Is n) (call_fault t s (params_at t.ops op) vs) line s (calling line op args vs n u) (exact_calling line op args vs n u)

pub exact_sending : (t : Given) (line op : ℕ) (args : List Handed) → Exact (sending t line op args)
exact_sending t line op args n s = ends_passed (Is n) (params_at t.ops op) args line s (λ vs u. sending_args t line op args vs n u) (λ vs u. exact_args t line op args vs n u)
