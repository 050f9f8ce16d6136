-- Statements and programs as they are printed.
use Rattle.std.proofs.Common.{◌≡◌, ℕ, ◌+◌, true, List, [], ◌∷◌, ◌++◌, refl, subst, append_assoc}
use Rattle.std.specs.Prelude.{codes}
use Rattle.gs_tree.specs.declared.sign.Keyword.TheVariants.{Main, Int, Char, File, GsOn, GsOff}
use Rattle.gs_tree.specs.declared.tree.VarKind.{VarKind}
use Rattle.gs_tree.specs.declared.tree.VarKind.TheVariants as kinds
use Rattle.gs_tree.specs.Program.{Name, Setting, Code, empty, block, set, choose, while, for, open_file, read_line, close_file, barrier, print, print_file, print_str, call, Codes, none, one, MaybeCodes, without, otherwise, Program}
use Rattle.gs_tree.specs.Printed.{line_text, term_text, setting_text, for_text, code_text, codes_text, else_text, type_text, declared_text, vars_text, first_text, printed}
use Rattle.gs_tree.specs.Sign.{Sign, main_, gs_on, ident, open_paren, close_paren, open_brace, close_brace, semicolon}
use Rattle.gs_spelling.specs.Spelled.{IsName, CodeSpelled, CodesSpelled, ElseSpelled, VarsSpelled, SettingsSpelled, ProgramSpelled}
use Rattle.gs_spelling.specs.Signs.{code_signs, codes_signs, else_signs, type_signs, vars_signs, settings_signs, end_signs, program_signs}
use Rattle.gs_spelling.specs.Laws.{PrintsItsSigns}
use Rattle.gs_spelling.proofs.Cuts.{Cuts, end_cuts, blank_cuts, feed_cuts}
use Rattle.gs_spelling.proofs.Numbers.{zero_cuts}
use Rattle.gs_spelling.proofs.Words.{blank_stops, open_stops, close_stops, semicolon_stops, stops_digit, name_cuts, keyword_cuts}
use Rattle.gs_spelling.proofs.Symbols.{open_paren_cuts, close_paren_cuts, open_brace_cuts, close_brace_cuts, semicolon_cuts, star_cuts}
use Rattle.gs_spelling.proofs.Lines.{line_cuts, call_end, open_line, close_line, else_line, if_line, while_line, for_line, setting_line, empty_line, open_file_line, read_line_line, close_file_line, barrier_line, print_line, print_file_line, print_str_line, call_line}

-- two parts one after another
join_two : (a b rest : List ℕ) (signs : List Sign) → Cuts (a ++ (b ++ rest)) signs → Cuts ((a ++ b) ++ rest) signs
join_two a b rest signs here = simp append_assoc here

-- three parts one after another
join_three : (a b c rest : List ℕ) (signs : List Sign) → Cuts (a ++ (b ++ (c ++ rest))) signs → Cuts (((a ++ b) ++ c) ++ rest) signs
join_three a b c rest signs here = simp append_assoc here

-- four parts one after another
join_four : (a b c d rest : List ℕ) (signs : List Sign) → Cuts (a ++ (b ++ (c ++ (d ++ rest)))) signs → Cuts ((((a ++ b) ++ c) ++ d) ++ rest) signs
join_four a b c d rest signs here = simp append_assoc here

-- statements, lists of statements, and the body of an `else`
mutual
  code_cuts : (code : Code) (level : ℕ) (rest : List ℕ) (signs : List Sign) → CodeSpelled code → Cuts rest signs → Cuts (code_text level code ++ rest) (code_signs code signs)
  code_cuts (empty line) level rest signs h next = empty_line level rest signs next
  code_cuts (block line body) level rest signs h next =
      let last = close_line level rest signs next in
      let all = codes_cuts body (level + 1) (line_text level (codes "}") ++ rest) (close_brace ∷ signs) h last in
      join_three (line_text level (codes "{")) (codes_text (level + 1) body) (line_text level (codes "}")) rest
      (code_signs (block line body) signs) (open_line level _ _ all)
  code_cuts (set a) level rest signs h next = setting_line level a rest signs h next
  code_cuts (choose line test then_do else_do) level rest signs h next =
      let last = close_line level rest signs next in
      let other = else_cuts else_do level (line_text level (codes "}") ++ rest) (close_brace ∷ signs) h.2 last in
      let all = codes_cuts then_do (level + 1) (else_text level else_do ++ (line_text level (codes "}") ++ rest)) (else_signs else_do (close_brace ∷ signs)) h.1 other in
      join_four (line_text level (codes "if (" ++ term_text test ++ codes ") {")) (codes_text (level + 1) then_do) (else_text level else_do) (line_text level (codes "}")) rest
      (code_signs (choose line test then_do else_do) signs) (if_line level test _ _ h.0 all)
  code_cuts (while line test body) level rest signs h next =
      let last = close_line level rest signs next in
      let all = codes_cuts body (level + 1) (line_text level (codes "}") ++ rest) (close_brace ∷ signs) h.1 last in
      join_three (line_text level (codes "while (" ++ term_text test ++ codes ") {")) (codes_text (level + 1) body) (line_text level (codes "}")) rest
      (code_signs (while line test body) signs) (while_line level test _ _ h.0 all)
  code_cuts (for line first test step body) level rest signs h next =
      let last = close_line level rest signs next in
      let all = codes_cuts body (level + 1) (line_text level (codes "}") ++ rest) (close_brace ∷ signs) h.3 last in
      join_three (line_text level (for_text first test step)) (codes_text (level + 1) body) (line_text level (codes "}")) rest
      (code_signs (for line first test step body) signs) (for_line level first test step _ _ h.0 h.1 h.2 all)
  code_cuts (open_file line to path mode) level rest signs h next = open_file_line level to path mode rest signs h.0 h.1 next
  code_cuts (read_line line got handle to) level rest signs h next = read_line_line level got handle to rest signs h.0 h.1 h.2 next
  code_cuts (close_file line handle) level rest signs h next = close_file_line level handle rest signs h next
  code_cuts (barrier line) level rest signs h next = barrier_line level rest signs next
  code_cuts (print line format args) level rest signs h next = print_line level format args rest signs h next
  code_cuts (print_file line handle format args) level rest signs h next = print_file_line level handle format args rest signs h.0 h.1 next
  code_cuts (print_str line to format args) level rest signs h next = print_str_line level to format args rest signs h.0 h.1 next
  code_cuts (call op args) level rest signs h next = call_line level op args rest signs h.0 h.1 next

  -- statements one after another
  codes_cuts : (body : Codes) (level : ℕ) (rest : List ℕ) (signs : List Sign) → CodesSpelled body → Cuts rest signs → Cuts (codes_text level body ++ rest) (codes_signs body signs)
  codes_cuts none level rest signs h next = next
  codes_cuts (one code others) level rest signs h next =
      join_two (code_text level code) (codes_text level others) rest (code_signs code (codes_signs others signs))
      (code_cuts code level (codes_text level others ++ rest) (codes_signs others signs) h.0 (codes_cuts others level rest signs h.1 next))

  -- the other branch, from the end of the first body on
  else_cuts : (body : MaybeCodes) (level : ℕ) (rest : List ℕ) (signs : List Sign) → ElseSpelled body → Cuts rest signs →
      Cuts (else_text level body ++ rest) (else_signs body signs)
  else_cuts without level rest signs h next = next
  else_cuts (otherwise body) level rest signs h next =
      join_two (line_text level (codes "} else {")) (codes_text (level + 1) body) rest (else_signs (otherwise body) signs)
      (else_line level _ _ (codes_cuts body (level + 1) rest signs h next))

-- the type in a declaration
type_cuts : (k : VarKind) (rest : List ℕ) (signs : List Sign) → Cuts rest signs → Cuts (type_text k ++ rest) (type_signs k signs)
type_cuts kinds.Int rest signs next = keyword_cuts Int _ _ blank_stops (blank_cuts rest signs next)
type_cuts kinds.Str rest signs next = keyword_cuts Char _ _ blank_stops (blank_cuts _ _ (star_cuts rest signs next))
type_cuts kinds.Handle rest signs next = keyword_cuts File _ _ blank_stops (blank_cuts _ _ (star_cuts rest signs next))

-- a line that declares a variable
declared_line : (v : Name × VarKind) (rest : List ℕ) (signs : List Sign) → IsName v.0.text → Cuts rest signs →
    Cuts (line_text 1 (declared_text v) ++ rest) (type_signs v.1 (ident v.0.text ∷ semicolon ∷ signs))
declared_line v rest signs h next =
    let end = semicolon_cuts (10 ∷ rest) signs (feed_cuts rest signs next) in
    let name = name_cuts v.0.text (59 ∷ 10 ∷ rest) (semicolon ∷ signs) h semicolon_stops end in
    line_cuts 1 (declared_text v) rest (type_signs v.1 (ident v.0.text ∷ semicolon ∷ signs))
    (join_three (type_text v.1) v.0.text (codes ";") (10 ∷ rest) (type_signs v.1 (ident v.0.text ∷ semicolon ∷ signs)) (type_cuts v.1 _ _ name))

-- the declarations
vars_cuts : (vs : List (Name × VarKind)) (rest : List ℕ) (signs : List Sign) → VarsSpelled vs → Cuts rest signs → Cuts (vars_text vs ++ rest) (vars_signs vs signs)
vars_cuts [] rest signs h next = next
vars_cuts (v ∷ vs) rest signs h next =
    join_two (line_text 1 (declared_text v)) (vars_text vs) rest (vars_signs (v ∷ vs) signs)
    (declared_line v (vars_text vs ++ rest) (vars_signs vs signs) h.0 (vars_cuts vs rest signs h.1 next))

-- the first assignments
first_cuts : (ss : List Setting) (rest : List ℕ) (signs : List Sign) → SettingsSpelled ss → Cuts rest signs → Cuts (first_text ss ++ rest) (settings_signs ss signs)
first_cuts [] rest signs h next = next
first_cuts (s ∷ ss) rest signs h next =
    join_two (line_text 1 (setting_text s ++ codes ";")) (first_text ss) rest (settings_signs (s ∷ ss) signs)
    (setting_line 1 s (first_text ss ++ rest) (settings_signs ss signs) h.0 (first_cuts ss rest signs h.1 next))

-- the first line
main_line : (rest : List ℕ) (signs : List Sign) → Cuts rest signs → Cuts (line_text 0 (codes "main() {") ++ rest) (main_ ∷ open_paren ∷ close_paren ∷ open_brace ∷ signs)
main_line rest signs next =
    let brace = blank_cuts _ _ (open_brace_cuts (10 ∷ rest) signs (feed_cuts rest signs next)) in
    keyword_cuts Main _ _ open_stops (open_paren_cuts _ _ (close_paren_cuts _ _ brace))

-- the line of GS_On
on_line : (rest : List ℕ) (signs : List Sign) → Cuts rest signs → Cuts (line_text 1 (codes "GS_On();") ++ rest) (gs_on ∷ open_paren ∷ close_paren ∷ semicolon ∷ signs)
on_line rest signs next =
    line_cuts 1 (codes "GS_On();") rest (gs_on ∷ open_paren ∷ close_paren ∷ semicolon ∷ signs)
    (keyword_cuts GsOn (40 ∷ 41 ∷ 59 ∷ 10 ∷ rest) (open_paren ∷ close_paren ∷ semicolon ∷ signs) open_stops (open_paren_cuts _ _ (call_end rest signs next)))

-- from GS_Off on
last_cuts : Cuts (line_text 1 (codes "GS_Off(0);") ++ line_text 0 (codes "}")) end_signs
last_cuts =
    let brace = close_brace_cuts (10 ∷ []) [] (feed_cuts [] [] end_cuts) in
    let amount = zero_cuts (41 ∷ 59 ∷ 10 ∷ 125 ∷ 10 ∷ []) (close_paren ∷ semicolon ∷ close_brace ∷ []) (stops_digit 41 close_stops) (call_end _ _ brace) in
    let word = keyword_cuts GsOff _ _ open_stops (open_paren_cuts _ _ amount) in
    blank_cuts _ _ (blank_cuts _ _ (blank_cuts _ _ (blank_cuts _ _ word)))

-- the parts of a program one after another
whole_bytes : (a b c d e f g : List ℕ) → a ++ (b ++ (c ++ (d ++ (e ++ (f ++ g))))) ≡ ((a ++ b) ++ c) ++ (((d ++ e) ++ f) ++ g)
whole_bytes a b c d e f g = simp append_assoc

-- a printed program is cut into its signs
program_cuts : (p : Program) → ProgramSpelled p → Cuts (printed p) (program_signs p)
program_cuts p h =
    let body = codes_cuts p.body 1 (line_text 1 (codes "GS_Off(0);") ++ line_text 0 (codes "}")) end_signs h.body last_cuts in
    let on = on_line _ _ body in
    let whole = main_line _ _ (vars_cuts p.vars _ _ h.vars (first_cuts p.first _ _ h.first on)) in
    subst (λ (bytes : List ℕ). Cuts bytes (program_signs p))
    (whole_bytes (line_text 0 (codes "main() {")) (vars_text p.vars) (first_text p.first) (line_text 1 (codes "GS_On();")) (codes_text 1 p.body)
    (line_text 1 (codes "GS_Off(0);")) (line_text 0 (codes "}"))) whole

-- the text of a printed program has the program's signs
pub prints_its_signs : PrintsItsSigns
prints_its_signs p h = let c = (program_cuts p h).cut (printed p) 0 1 true refl in (c.found, c.lexes, c.says)
