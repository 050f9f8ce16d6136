-- What an order does, once its step is taken.
use Rattle.std.specs.Prelude.{ℕ, List, is_some}
use Rattle.std.specs.List.{list_any}
use Rattle.gs_idl.specs.Interface.{params_at}
use Rattle.gs_tree.specs.declared.tree.Mode.{Mode}
use Rattle.gs_talk.specs.declared.question.CallArg.{CallArg}
use Rattle.gs_talk.specs.declared.question.Question.TheVariants.{Barrier}
use Rattle.gs_talk.specs.Terms.{Placed}
use Rattle.gs_talk.specs.Values.{text_of}
use Rattle.gs_talk.specs.Texts.{formatted}
use Rattle.gs_talk.specs.Talk.{Given, State, Dialogue, Done, Ask, Meaning, Handed, action, set_to, unless, noting, with_name, with_names, files_in, valued, all_valued, passed_valued, printing, printing_str, open_fault, opening, opened_at, writing, reading, closing, call_fault, calling, leaving}

abbrev pub assigning : (line to : ℕ) → Placed → Meaning
assigning line to value n s = valued line value s (λ v u. Done n (set_to to v u))

abbrev pub showing : (line : ℕ) → (format : List ℕ) → List Placed → Meaning
showing line format args n s = all_valued line args s (λ vs u.
    printing line (formatted format vs) n u)

abbrev pub showing_to : (line to : ℕ) → (format : List ℕ) → List Placed → Meaning
showing_to line to format args n s = all_valued line args s (λ vs u.
    printing_str line to (formatted format vs) n u)

-- these bytes, to the file that is open at a handle
abbrev pub writing_at : (line i : ℕ) → List ℕ → Meaning
writing_at line i out n s = writing line i out (opened_at s i) n s

abbrev pub showing_in : (line i : ℕ) → (format : List ℕ) → List Placed → Meaning
showing_in line i format args n s = all_valued line args s (λ vs u.
    writing_at line i (formatted format vs) n u)

-- the file of this name, where nothing stands against it
abbrev pub loading_named : Given → (line to : ℕ) → Mode → (name : List ℕ) → Meaning
loading_named t line to mode name n s = unless (open_fault t s to name mode) line s
    (opening line to name mode n (noting (with_name s.names name) s))

abbrev pub loading : Given → (line to : ℕ) → Placed → Mode → Meaning
loading t line to path mode n s = valued line path s (λ v u.
    loading_named t line to mode (text_of v) n u)

abbrev pub fetching : (line got handle to : ℕ) → Meaning
fetching line got handle to n s = reading line got handle to (opened_at s handle) n s

abbrev pub saving : (line handle : ℕ) → Meaning
saving line handle n s = closing line handle (opened_at s handle) n s

abbrev pub pausing : (line : ℕ) → Meaning
pausing line n s = action line s (λ u. Ask Barrier u (λ a. Done n u))

-- the call with what stands at its places, where nothing stands against it
abbrev pub sending_args : Given → (line op : ℕ) → List Handed → List CallArg → Meaning
sending_args t line op args vs n s =
    unless (call_fault t s (params_at t.ops op) vs) line s
    (calling line op args vs n (noting (with_names s.names (files_in vs)) s))

abbrev pub sending : Given → (line op : ℕ) → List Handed → Meaning
sending t line op args n s = passed_valued line (params_at t.ops op) args s (λ vs u.
    sending_args t line op args vs n u)

abbrev pub leaving_all : (line : ℕ) → State → Dialogue
leaving_all line s = leaving line (list_any is_some s.handles) s
