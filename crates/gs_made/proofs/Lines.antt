-- The lines of the made program are cut into its marks.
use Rattle.std.proofs.Common.{◌≡◌, ℕ, zero, suc, pos, ◌+◌, ◌%◌, ◌≤◌, Bool, true, false, if◌then◌else◌, List, [], ◌∷◌, ◌++◌, length, slice_index, refl, sym, ap, ◌∙◌, subst, lit≤, arith, append_assoc}
use Rattle.std.specs.Prelude.{codes, ◌==◌}
use Rattle.std.specs.List.{list_all}
use Rattle.std.specs.Fmt.{decimal}
use Rattle.std.proofs.lemmas.List.Sums.{AllPass-from_list_all}
use Rattle.gs_tree.specs.Bytes.{is_letter, is_digit, is_name_byte}
use Rattle.gs_tree.specs.Words.{type_word, control_word, runtime_word, library_word, mode_word, keyword_of}
use Rattle.gs_tree.specs.Sign.{Mark, main_, gs_on, gs_off, ident, number, string, open_paren, close_paren, open_brace, close_brace, comma, semicolon}
use Rattle.gs_tree.specs.Signs.{sign_of_word}
use Rattle.gs_spelling.proofs.Words.{IsWord, open_stops, close_stops, stops_digit}
use Rattle.gs_grammar.specs.Signs.{at}
use Rattle.gs_report.specs.Generator.{behind, drawn, file_text, mark_line, hash_line, task_line, after_tasks, task_lines, program_text}
use Rattle.gs_made.specs.Texts.{file_drawn, line_of_task}
use Rattle.gs_made.proofs.Files.{drawn_low, named_length, named_plain}
use Rattle.gs_made.proofs.Cutting.{Cuts, end_cuts, word_cuts, number_cuts, zero_cuts, string_cuts, comma_cuts, open_cuts, close_cuts, semicolon_cuts, open_brace_cuts, close_brace_cuts}

-- ---- words

word_by : (w : List ℕ) → is_letter (slice_index w 0) ≡ true → list_all is_name_byte w ≡ true → length w ≤ 64 → IsWord w
word_by w f b s = record { first = f; bytes = AllPass-from_list_all is_name_byte w b; short = s }

mark_word : IsWord (codes "mark")
unfolding is_name_byte is_letter is_digit
mark_word = word_by (codes "mark") refl refl (lit≤ tt)

hash_word : IsWord (codes "hash")
unfolding is_name_byte is_letter is_digit
hash_word = word_by (codes "hash") refl refl (lit≤ tt)

main_word : IsWord (codes "main")
unfolding is_name_byte is_letter is_digit
main_word = word_by (codes "main") refl refl (lit≤ tt)

on_word : IsWord (codes "GS_On")
unfolding is_name_byte is_letter is_digit
on_word = word_by (codes "GS_On") refl refl (lit≤ tt)

off_word : IsWord (codes "GS_Off")
unfolding is_name_byte is_letter is_digit
off_word = word_by (codes "GS_Off") refl refl (lit≤ tt)

-- which signs these are
record Signs : Type 0 where
  mark : sign_of_word (codes "mark") (keyword_of (codes "mark")) ≡ ident (codes "mark")
  hash : sign_of_word (codes "hash") (keyword_of (codes "hash")) ≡ ident (codes "hash")
  main : sign_of_word (codes "main") (keyword_of (codes "main")) ≡ main_
  on : sign_of_word (codes "GS_On") (keyword_of (codes "GS_On")) ≡ gs_on
  off : sign_of_word (codes "GS_Off") (keyword_of (codes "GS_Off")) ≡ gs_off

signs : Signs
unfolding type_word control_word runtime_word library_word mode_word
signs = record { mark = refl; hash = refl; main = refl; on = refl; off = refl }

-- ---- a task's line

abbrev pub mark_marks : (line t x : ℕ) → List Mark → List Mark
mark_marks line t x rest =
    at line (ident (codes "mark")) ∷ at line open_paren ∷ at line (string (file_drawn x)) ∷ at line comma ∷ at line (number (pos t))
    ∷ at line close_paren ∷ at line semicolon ∷ rest

abbrev pub hash_marks : (line x : ℕ) → List Mark → List Mark
hash_marks line x rest =
    at line (ident (codes "hash")) ∷ at line open_paren ∷ at line (string (file_drawn x)) ∷ at line comma ∷ at line (string (file_drawn (behind x)))
    ∷ at line comma ∷ at line (string (file_drawn (behind (behind x)))) ∷ at line close_paren ∷ at line semicolon ∷ rest

abbrev pub task_marks : (line t x : ℕ) → List Mark → List Mark
task_marks line t x rest = if drawn x % 4 == 0 then mark_marks line t (behind x) rest else hash_marks line (behind x) rest

mark_bytes : (d n rest : List ℕ) → codes "mark" ++ (40 ∷ 34 ∷ ((102 ∷ d) ++ (34 ∷ 44 ∷ 32 ∷ (n ++ (41 ∷ 59 ∷ 10 ∷ rest)))))
    ≡ (codes "mark(" ++ (codes "\"f" ++ d ++ codes "\"") ++ codes ", " ++ n ++ codes ");\n") ++ rest
mark_bytes d n rest = simp append_assoc

file_bytes : (d rest : List ℕ) → 34 ∷ ((102 ∷ d) ++ (34 ∷ rest)) ≡ (codes "\"f" ++ d ++ codes "\"") ++ rest
file_bytes d rest = simp append_assoc

parts_bytes : (a b c rest : List ℕ) → codes "hash(" ++ (a ++ (44 ∷ 32 ∷ (b ++ (44 ∷ 32 ∷ (c ++ (41 ∷ 59 ∷ 10 ∷ rest))))))
    ≡ (codes "hash(" ++ a ++ codes ", " ++ b ++ codes ", " ++ c ++ codes ");\n") ++ rest
parts_bytes a b c rest = simp append_assoc

hash_bytes : (x : ℕ) (rest : List ℕ)
    → codes "hash" ++ (40 ∷ 34 ∷ (file_drawn x ++ (34 ∷ 44 ∷ 32 ∷ 34 ∷ (file_drawn (behind x) ++ (34 ∷ 44 ∷ 32 ∷ 34 ∷ (file_drawn (behind (behind x)) ++ (34 ∷ 41 ∷ 59 ∷ 10 ∷ rest)))))))
    ≡ hash_line x ++ rest
hash_bytes x rest =
    let a = file_text x in
    let b = file_text (behind x) in
    let c = file_text (behind (behind x)) in
    let last = file_bytes (decimal (drawn (behind (behind x)) % 16)) (41 ∷ 59 ∷ 10 ∷ rest) in
    let second = file_bytes (decimal (drawn (behind x) % 16)) _ ∙ ap (λ (r : List ℕ). b ++ (44 ∷ 32 ∷ r)) last in
    let first = file_bytes (decimal (drawn x % 16)) _ ∙ ap (λ (r : List ℕ). a ++ (44 ∷ 32 ∷ r)) second in
    ap (λ (r : List ℕ). codes "hash(" ++ r) first ∙ parts_bytes a b c rest

file_cuts : (line x : ℕ) (rest : List ℕ) (marks : List Mark) → Cuts line rest marks → Cuts line (34 ∷ (file_drawn x ++ (34 ∷ rest))) (at line (string (file_drawn x)) ∷ marks)
file_cuts line x rest marks next =
    string_cuts line (file_drawn x) rest marks (named_plain (drawn x % 16) (drawn_low x)) (omega (arith, named_length (drawn x % 16) (drawn_low x))) next

mark_cuts : (line t x : ℕ) (rest : List ℕ) (marks : List Mark) → t ≤ 2000 → Cuts (line + 1) rest marks → Cuts line (mark_line t x ++ rest) (mark_marks line t x marks)
mark_cuts line t x rest marks le next =
    subst (λ (bytes : List ℕ). Cuts line bytes (mark_marks line t x marks)) (mark_bytes (decimal (drawn x % 16)) (decimal t) rest)
    (word_cuts line (codes "mark") _ _ _ mark_word signs.mark open_stops (open_cuts line _ _ (file_cuts line x _ _ (comma_cuts line _ _
    (number_cuts line t (41 ∷ 59 ∷ 10 ∷ rest) _ (omega arith) (stops_digit 41 close_stops) (close_cuts line _ _ (semicolon_cuts line rest marks next)))))))

hash_cuts : (line x : ℕ) (rest : List ℕ) (marks : List Mark) → Cuts (line + 1) rest marks → Cuts line (hash_line x ++ rest) (hash_marks line x marks)
hash_cuts line x rest marks next =
    subst (λ (bytes : List ℕ). Cuts line bytes (hash_marks line x marks))
    (hash_bytes x rest)
    (word_cuts line (codes "hash") _ _ _ hash_word signs.hash open_stops (open_cuts line _ _ (file_cuts line x _ _ (comma_cuts line _ _
    (file_cuts line (behind x) _ _ (comma_cuts line _ _ (file_cuts line (behind (behind x)) _ _ (close_cuts line _ _ (semicolon_cuts line rest marks next)))))))))

task_cuts : (line t x : ℕ) (rest : List ℕ) (marks : List Mark) → t ≤ 2000 → Cuts (line + 1) rest marks → Cuts line (task_line t x ++ rest) (task_marks line t x marks)
task_cuts line t x rest marks le next = by (drawn x % 4 == 0)
  where
    by : (b : Bool) → Cuts line ((if b then mark_line t (behind x) else hash_line (behind x)) ++ rest) (if b then mark_marks line t (behind x) marks else hash_marks line (behind x) marks)
    by true = mark_cuts line t (behind x) rest marks le next
    by false = hash_cuts line (behind x) rest marks next

-- ---- all lines

-- the marks of the first k tasks, before others
abbrev pub tasks_marks : (seed k : ℕ) → List Mark → List Mark
tasks_marks seed zero others = others
tasks_marks seed (suc k) others = tasks_marks seed k (task_marks (line_of_task (suc k)) (suc k) (after_tasks seed k) others)

tasks_cuts : (seed k : ℕ) (rest : List ℕ) (marks : List Mark) → k ≤ 2000 → Cuts (k + 3) rest marks → Cuts 3 (task_lines seed k ++ rest) (tasks_marks seed k marks)
tasks_cuts seed zero rest marks le next = next
tasks_cuts seed (suc k) rest marks le next =
    let x = after_tasks seed k in
    let line = line_of_task (suc k) in
    let below : suc k + 3 ≡ line + 1 = omega arith in
    let here : line ≡ k + 3 = omega arith in
    let last = task_cuts line (suc k) x rest marks le (subst (λ (n : ℕ). Cuts n rest marks) below next) in
    subst (λ (bytes : List ℕ). Cuts 3 bytes (tasks_marks seed (suc k) marks)) (sym (append_assoc (task_lines seed k) (task_line (suc k) x) rest))
    (tasks_cuts seed k (task_line (suc k) x ++ rest) (task_marks line (suc k) x marks) (omega arith)
    (subst (λ (n : ℕ). Cuts n (task_line (suc k) x ++ rest) (task_marks line (suc k) x marks)) here last))

-- ---- the whole

abbrev pub end_marks : (line : ℕ) → List Mark
end_marks line =
    at line gs_off ∷ at line open_paren ∷ at line (number (pos 0)) ∷ at line close_paren ∷ at line semicolon ∷ at (line + 1) close_brace ∷ []

abbrev pub head_marks : List Mark → List Mark
head_marks rest =
    at 1 main_ ∷ at 1 open_paren ∷ at 1 close_paren ∷ at 1 open_brace
    ∷ at 2 gs_on ∷ at 2 open_paren ∷ at 2 close_paren ∷ at 2 semicolon ∷ rest

end_lines : (line : ℕ) → Cuts line (codes "GS_Off(0);\n}\n") (end_marks line)
end_lines line =
    word_cuts line (codes "GS_Off") _ _ _ off_word signs.off open_stops (open_cuts line _ _ (zero_cuts line (41 ∷ 59 ∷ 10 ∷ 125 ∷ 10 ∷ []) _ (stops_digit 41 close_stops)
    (close_cuts line _ _ (semicolon_cuts line _ _ (close_brace_cuts (line + 1) [] [] (end_cuts (line + 1 + 1)))))))

head_lines : (rest : List ℕ) (marks : List Mark) → Cuts 3 rest marks → Cuts 1 (codes "main() {\nGS_On();\n" ++ rest) (head_marks marks)
head_lines rest marks next =
    word_cuts 1 (codes "main") _ _ _ main_word signs.main open_stops (open_cuts 1 _ _ (close_cuts 1 _ _ (open_brace_cuts 1 _ _
    (word_cuts 2 (codes "GS_On") _ _ _ on_word signs.on open_stops (open_cuts 2 _ _ (close_cuts 2 _ _ (semicolon_cuts 2 rest marks next)))))))

pub program_cuts : (seed n : ℕ) → n ≤ 2000 → Cuts 1 (program_text seed n) (head_marks (tasks_marks seed n (end_marks (n + 3))))
program_cuts seed n le = head_lines _ _ (tasks_cuts seed n (codes "GS_Off(0);\n}\n") (end_marks (n + 3)) le (end_lines (n + 3)))
