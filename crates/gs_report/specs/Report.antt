-- The text of a report.
use Rattle.std.specs.Prelude.{◌≡◌, ℕ, ◌==◌, List, [], ◌∷◌, ◌++◌, length, codes, slice_get, Option, Some, None, if◌then◌else◌}
use Rattle.std.specs.List.{flat_map}
use Rattle.std.specs.Fmt.{decimal, signed_decimal}
use Rattle.sha2.specs.Sha256.{sha256}
use Rattle.gs_types.specs.declared.note.Note.{Note}
use Rattle.gs_types.specs.declared.note.Note.TheVariants.{File, Int, Str}
use Rattle.gs_types.specs.declared.note.OutNote.{OutNote}
use Rattle.gs_types.specs.declared.note.VarNote.{VarNote}
use Rattle.gs_types.specs.declared.note.FinalNote.{FinalNote}
use Rattle.gs_disk.specs.Folder.{Folder}
use Rattle.gs_entries.specs.Order.{stage_of}
use Rattle.gs_entries.specs.declared.entry.Entry.{Entry}
use Rattle.gs_entries.specs.declared.entry.Entry.TheVariants as made
use Rattle.gs_entries.specs.declared.entry.GateNote.{GateNote}
use Rattle.gs_entries.specs.declared.entry.Stage.{Stage}
use Rattle.gs_entries.specs.declared.entry.Stage.TheVariants as stages
use Rattle.gs_store.specs.Loading.{RefusesFiles}
use Rattle.gs_store.specs.Names.{version_name}
use Rattle.gs_store.specs.Ordered.{gate_in}
use Rattle.gs_store.specs.Versions.{Kept, AllStand, finals_kept}
use Rattle.gs_store.specs.declared.err.StoreErr.{StoreErr}
use Rattle.gs_report.specs.Pieces.{number_line, hex_of}

abbrev pub stage_line : Stage → List ℕ
stage_line stages.Fresh = codes "stage fresh\n"
stage_line stages.Running = codes "stage running\n"
stage_line stages.Gated = codes "stage gated\n"
stage_line stages.Closed = codes "stage closed\n"

-- ---- entries

-- a file's length, a number, or a string's length
abbrev pub note_text : Note → List ℕ
note_text (File len) = codes "file:" ++ decimal len
note_text (Int v) = codes "int:" ++ signed_decimal v
note_text (Str s) = codes "string:" ++ decimal (length s)

-- what a task gave at a place
abbrev pub out_text : OutNote → List ℕ
out_text o = 32 ∷ decimal o.place ++ codes ":" ++ note_text o.v

-- the line of a header, or of what a task gave
abbrev pub entry_text : Entry → List ℕ
entry_text (made.Header t) = codes "run " ++ t.idl_name ++ codes " " ++ t.program_name ++ 10 ∷ []
entry_text (made.Done n op outs) = codes "done " ++ decimal n ++ flat_map out_text outs ++ 10 ∷ []
entry_text (made.Gate g) = []
entry_text made.Closed = []

-- ---- variables

-- a byte of a string, with the five escapes
abbrev pub escaped : ℕ → List ℕ
escaped b =
    if b == 10 then codes "\\n"
    else (if b == 9 then codes "\\t"
    else (if b == 13 then codes "\\r"
    else (if b == 92 then codes "\\\\"
    else (if b == 34 then codes "\\\"" else b ∷ []))))

abbrev pub quoted : List ℕ → List ℕ
quoted s = codes "\"" ++ flat_map escaped s ++ codes "\""

-- a number, or a string as its printed literal. No variable is a file
abbrev pub value_text : Note → List ℕ
value_text (File len) = []
value_text (Int v) = signed_decimal v
value_text (Str s) = quoted s

abbrev pub var_line : VarNote → List ℕ
var_line v = codes "var " ++ v.name ++ codes " " ++ value_text v.v ++ 10 ∷ []

-- ---- finals

-- what is there, or nothing
abbrev pub there : Option (List ℕ) → List ℕ
there None = []
there (Some bytes) = bytes

-- the user's name of a final, its length, and the digest of these bytes
abbrev pub version_line : List (List ℕ) → FinalNote → List ℕ → List ℕ
version_line names f bytes = codes "file " ++ there (slice_get names f.name) ++ codes " "
    ++ decimal f.len ++ codes " " ++ hex_of (sha256 bytes) ++ 10 ∷ []

-- the bytes are those of its version
abbrev pub file_line : Folder → List (List ℕ) → FinalNote → List ℕ
file_line folder names f = version_line names f (there (folder (version_name f.version)))

-- ---- the whole

abbrev pub gate_text : Folder → GateNote → List ℕ
gate_text folder g = flat_map var_line g.vars ++ flat_map (file_line folder g.names) g.finals
    ++ number_line (codes "actions") (length g.actions)
    ++ number_line (codes "text") (length g.text)

-- what the main program left, once it has ended
abbrev pub left_text : Folder → Option GateNote → List ℕ
left_text folder None = []
left_text folder (Some g) = gate_text folder g

-- the stage, then the lines of the entries in the order of the log, then what the main program left
abbrev pub report_text : Folder → List Entry → List ℕ
report_text folder es = stage_line (stage_of es) ++ flat_map entry_text es
    ++ left_text folder (gate_in es)

-- the finals with their lengths, once the main program has ended
abbrev pub kept_at_end : Option GateNote → List Kept
kept_at_end None = []
kept_at_end (Some g) = finals_kept g.finals

abbrev pub kept_of : List Entry → List Kept
kept_of es = kept_at_end (gate_in es)

-- the bytes are the report of these entries, and the version of each final stands with its length
pub record IsReport (folder : Folder) (es : List Entry) (bytes : List ℕ) : Type 0 where
  pub is : bytes ≡ report_text folder es
  pub stand : AllStand folder (kept_of es)

-- what the folder is where this error comes: the first final whose version is lost is named
abbrev pub Refuses : Folder → List Entry → StoreErr → Type 0
Refuses folder es e = RefusesFiles folder (kept_of es) e
