-- The texts that are made from a number, and what their operations give.
use Rattle.std.specs.Prelude.{ℕ, zero, suc, ◌+◌, ◌*◌, ◌/◌, ◌%◌, ◌^◌, ◌==◌, bytes_eq, List, [], ◌∷◌, ◌++◌, codes, Option, Some, None, if◌then◌else◌}
use Rattle.std.specs.Fmt.{decimal, signed_decimal}
use Rattle.sha2.specs.Sha256.{sha256}
use Rattle.gs_types.specs.declared.value.Value.{Value}
use Rattle.gs_types.specs.declared.value.Value.TheVariants.{Int, File}
use Rattle.gs_report.specs.declared.generator.Made.{Made}

-- ---- the state, and what is drawn

-- the state behind another one
abbrev pub behind : ℕ → ℕ
behind x = (6364136223846793005 * x + 1442695040888963407) % 2 ^ 64

-- what the draw gives that goes on from a state
abbrev pub drawn : ℕ → ℕ
drawn x = behind x / 2 ^ 32

-- ---- the program

-- the file that is drawn
abbrev pub file_text : ℕ → List ℕ
file_text x = codes "\"f" ++ decimal (drawn x % 16) ++ codes "\""

abbrev pub mark_line : ℕ → ℕ → List ℕ
mark_line t x = codes "mark(" ++ file_text x ++ codes ", " ++ decimal t ++ codes ");\n"

-- its three files are drawn one after the other
abbrev pub hash_line : ℕ → List ℕ
hash_line x = codes "hash(" ++ file_text x ++ codes ", " ++ file_text (behind x) ++ codes ", "
    ++ file_text (behind (behind x)) ++ codes ");\n"

-- the line of task t, drawn from a state: what the first draw gives modulo 4 says which it is
abbrev pub task_line : ℕ → ℕ → List ℕ
task_line t x = if drawn x % 4 == 0 then mark_line t (behind x) else hash_line (behind x)

-- the state after the line of a task
abbrev pub after_task : ℕ → ℕ
after_task x =
    if drawn x % 4 == 0 then behind (behind x) else behind (behind (behind (behind x)))

-- the state after the lines of the first k tasks
abbrev pub after_tasks : ℕ → ℕ → ℕ
after_tasks seed zero = seed
after_tasks seed (suc k) = after_task (after_tasks seed k)

-- the lines of the first k tasks
abbrev pub task_lines : ℕ → ℕ → List ℕ
task_lines seed zero = []
task_lines seed (suc k) = task_lines seed k ++ task_line (suc k) (after_tasks seed k)

abbrev pub program_text : ℕ → ℕ → List ℕ
program_text seed n = codes "main() {\nGS_On();\n" ++ task_lines seed n ++ codes "GS_Off(0);\n}\n"

abbrev pub idl_text : List ℕ
idl_text = codes "interface SELF { void hash(in File a, in File b, out File c); "
    ++ codes "void mark(inout File f, in int i); };\n"

abbrev pub workers_text : List ℕ
workers_text = codes "a 4 in *\nb 4 in *\n"

abbrev pub made : ℕ → ℕ → Made
made seed n = record {
  idl = idl_text;
  program = program_text seed n;
  workers = workers_text;
  next = after_tasks seed n;
}

-- ---- the law

-- `hash` takes two files
abbrev pub hash_gives : List Value → Option (List Value)
hash_gives (File a ∷ File b ∷ []) = Some (File (sha256 (a ++ b)) ∷ [])
hash_gives _ = None

-- `mark` takes a file and a number
abbrev pub mark_gives : List Value → Option (List Value)
mark_gives (File f ∷ Int i ∷ []) = Some (File (sha256 (f ++ signed_decimal i)) ∷ [])
mark_gives _ = None

-- what the operations give
abbrev pub self_gives : List ℕ → List Value → Option (List Value)
self_gives op ins =
    if bytes_eq op (codes "hash") then hash_gives ins
    else (if bytes_eq op (codes "mark") then mark_gives ins else None)
