-- How long a program is that is made.
use Rattle.std.proofs.Common.{ℕ, zero, suc, ◌+◌, ◌*◌, ◌<◌, ◌≤◌, ◌%◌, ◌==◌, Bool, true, false, List, [], ◌∷◌, ◌++◌, length, arith, length-append, mod-lt, le_refl, le_trans}
use Rattle.std.specs.Prelude.{codes, if◌then◌else◌}
use Rattle.std.specs.Fmt.{decimal}
use Rattle.std.proofs.lemmas.Fmt.{length-decimal-le}
use Rattle.gs_report.specs.Generator.{behind, drawn, file_text, mark_line, hash_line, task_line, after_tasks, task_lines, program_text}

file_short : (x : ℕ) → length (file_text x) ≤ 5
file_short x =
    let n = drawn x % 16 in
    let lt : n < 16 = mod-lt (drawn x) (omega arith) in
    let few : length (decimal n) ≤ 2 = length-decimal-le 2 n (omega arith) (omega arith)
    (omega arith) in
    omega (arith, few, length-append (decimal n) (34 ∷ []))

joined : (m n : ℕ) (a b : List ℕ) → length a ≤ m → length b ≤ n → length (a ++ b) ≤ m + n
joined m n a b p q = omega (arith, p, q, length-append a b)

mark_of : (a d : List ℕ) → length a ≤ 5 → length d ≤ 4
    → length (codes "mark(" ++ a ++ codes ", " ++ d ++ codes ");\n") ≤ 27
mark_of a d p q =
    let one = joined 5 5 (codes "mark(") a (le_refl 5) p in
    let two = joined 10 2 (codes "mark(" ++ a) (codes ", ") one (le_refl 2) in
    let three = joined 12 4 (codes "mark(" ++ a ++ codes ", ") d two q in
    le_trans (joined 16 3 (codes "mark(" ++ a ++ codes ", " ++ d) (codes ");\n") three (le_refl 3))
    (omega arith)

mark_short : (t x : ℕ) → t < 10000 → length (mark_line t x) ≤ 27
mark_short t x lt =
    mark_of (file_text x) (decimal t) (file_short x)
    (length-decimal-le 4 t (omega arith) (omega arith) (omega arith))

hash_of : (a b d : List ℕ) → length a ≤ 5 → length b ≤ 5 → length d ≤ 5
    → length (codes "hash(" ++ a ++ codes ", " ++ b ++ codes ", " ++ d ++ codes ");\n") ≤ 27
hash_of a b d p q r =
    let one = joined 5 5 (codes "hash(") a (le_refl 5) p in
    let two = joined 10 2 (codes "hash(" ++ a) (codes ", ") one (le_refl 2) in
    let three = joined 12 5 (codes "hash(" ++ a ++ codes ", ") b two q in
    let four = joined 17 2 (codes "hash(" ++ a ++ codes ", " ++ b) (codes ", ") three (le_refl 2) in
    let five = joined 19 5 (codes "hash(" ++ a ++ codes ", " ++ b ++ codes ", ") d four r in
    joined 24 3 (codes "hash(" ++ a ++ codes ", " ++ b ++ codes ", " ++ d) (codes ");\n") five
    (le_refl 3)

hash_short : (x : ℕ) → length (hash_line x) ≤ 27
hash_short x =
    hash_of (file_text x) (file_text (behind x)) (file_text (behind (behind x))) (file_short x)
    (file_short (behind x)) (file_short (behind (behind x)))

either : (b : Bool) (xs ys : List ℕ) (n : ℕ) → length xs ≤ n → length ys ≤ n
    → length (if b then xs else ys) ≤ n
either true xs ys n p q = p
either false xs ys n p q = q

task_short : (t x : ℕ) → t < 10000 → length (task_line t x) ≤ 27
task_short t x lt =
    either (drawn x % 4 == 0) (mark_line t (behind x)) (hash_line (behind x)) 27
    (mark_short t (behind x) lt) (hash_short (behind x))

lines_short : (seed k : ℕ) → k < 10000 → length (task_lines seed k) ≤ 27 * k
lines_short seed zero lt = omega arith
lines_short seed (suc k) lt =
    let line = task_line (suc k) (after_tasks seed k) in
    omega (
      arith,
      lines_short seed k (omega arith),
      task_short (suc k) (after_tasks seed k) lt,
      length-append (task_lines seed k) line,
    )

pub program_short : (seed n : ℕ) → n ≤ 2000 → length (program_text seed n) < 55000
program_short seed n le =
    let lines = lines_short seed n (omega arith) in
    let all = joined (18 + 27 * n) 13 (codes "main() {\nGS_On();\n" ++ task_lines seed n)
    (codes "GS_Off(0);\n}\n")
    (joined 18 (27 * n) (codes "main() {\nGS_On();\n") (task_lines seed n) (le_refl 18) lines)
    (le_refl 13) in
    omega (arith, all)
