-- Lines as they are printed.
use Rattle.std.proofs.Common.{◌≡◌, ℕ, zero, suc, ◌*◌, List, [], ◌∷◌, ◌++◌, replicate, Option, sym, subst, append_assoc}
use Rattle.std.specs.Prelude.{codes}
use Rattle.gs_tree.specs.declared.sign.Keyword.TheVariants.{If, Else, While, For, GsBarrier, GsFOpen, GsFClose, Printf, Fprintf, Sprintf, Fgetline, ModeR, ModeW, ModeA}
use Rattle.gs_tree.specs.declared.tree.Mode.{Mode}
use Rattle.gs_tree.specs.declared.tree.Mode.TheVariants.{R, W, A}
use Rattle.gs_tree.specs.Program.{Name, Term, Setting, Formatted, Passed}
use Rattle.gs_tree.specs.Printed.{indent_text, line_text, mode_text, term_text, setting_text, for_text, open_text, read_text, format_text, passed_texts}
use Rattle.gs_tree.specs.Sign.{Sign, if_, else_, while_, for_, ident, open_paren, close_paren, open_brace, close_brace, comma, semicolon, equal, gs_fopen, gs_fclose, gs_barrier, printf_, fprintf_, sprintf_, fgetline_}
use Rattle.gs_spelling.specs.Spelled.{IsName, TermSpelled, SettingSpelled, MaybeSetting, MaybeTerm, PassedsSpelled, PrintSpelled}
use Rattle.gs_spelling.specs.Signs.{term_signs, setting_signs, maybe_setting_signs, maybe_term_signs, mode_sign, format_signs, passeds_signs}
use Rattle.gs_spelling.proofs.Cuts.{Cuts, blank_cuts, feed_cuts}
use Rattle.gs_spelling.proofs.Words.{Stops, blank_stops, open_stops, close_stops, comma_stops, semicolon_stops, name_cuts, keyword_cuts}
use Rattle.gs_spelling.proofs.Symbols.{open_paren_cuts, close_paren_cuts, open_brace_cuts, close_brace_cuts, semicolon_cuts, comma_cuts, equal_cuts}
use Rattle.gs_spelling.proofs.Terms.{term_cuts, setting_cuts, maybe_setting_cuts, maybe_term_cuts, format_cuts, passeds_cuts}

-- blanks part tokens
indent_cuts : (count : ℕ) (rest : List ℕ) (signs : List Sign) → Cuts rest signs → Cuts (replicate count 32 ++ rest) signs
indent_cuts zero rest signs next = next
indent_cuts (suc count) rest signs next = blank_cuts (replicate count 32 ++ rest) signs (indent_cuts count rest signs next)

-- a line of its own
pub line_cuts : (level : ℕ) (text rest : List ℕ) (signs : List Sign) → Cuts (text ++ (10 ∷ rest)) signs → Cuts (line_text level text ++ rest) signs
line_cuts level text rest signs here =
    subst (λ (bytes : List ℕ). Cuts bytes signs) (let e : indent_text level ++ (text ++ (10 ∷ rest)) ≡ line_text level text ++ rest = simp append_assoc in e)
    (indent_cuts (4 * level) (text ++ (10 ∷ rest)) signs here)

-- `;` at a line's end
semicolon_end : (rest : List ℕ) (signs : List Sign) → Cuts rest signs → Cuts (59 ∷ 10 ∷ rest) (semicolon ∷ signs)
semicolon_end rest signs next = semicolon_cuts (10 ∷ rest) signs (feed_cuts rest signs next)

-- `);` at a line's end
pub call_end : (rest : List ℕ) (signs : List Sign) → Cuts rest signs → Cuts (41 ∷ 59 ∷ 10 ∷ rest) (close_paren ∷ semicolon ∷ signs)
call_end rest signs next = close_paren_cuts _ _ (semicolon_end rest signs next)

-- `) {` at a line's end
head_end : (rest : List ℕ) (signs : List Sign) → Cuts rest signs → Cuts (41 ∷ 32 ∷ 123 ∷ 10 ∷ rest) (close_paren ∷ open_brace ∷ signs)
head_end rest signs next = close_paren_cuts _ _ (blank_cuts _ _ (open_brace_cuts _ _ (feed_cuts rest signs next)))

-- a line of `{`
pub open_line : (level : ℕ) (rest : List ℕ) (signs : List Sign) → Cuts rest signs → Cuts (line_text level (codes "{") ++ rest) (open_brace ∷ signs)
open_line level rest signs next = line_cuts level (codes "{") rest (open_brace ∷ signs) (open_brace_cuts (10 ∷ rest) signs (feed_cuts rest signs next))

-- a line of `}`
pub close_line : (level : ℕ) (rest : List ℕ) (signs : List Sign) → Cuts rest signs → Cuts (line_text level (codes "}") ++ rest) (close_brace ∷ signs)
close_line level rest signs next = line_cuts level (codes "}") rest (close_brace ∷ signs) (close_brace_cuts (10 ∷ rest) signs (feed_cuts rest signs next))

-- a line of `} else {`
pub else_line : (level : ℕ) (rest : List ℕ) (signs : List Sign) → Cuts rest signs → Cuts (line_text level (codes "} else {") ++ rest) (close_brace ∷ else_ ∷ open_brace ∷ signs)
else_line level rest signs next =
    let brace = open_brace_cuts (10 ∷ rest) signs (feed_cuts rest signs next) in
    let word = keyword_cuts Else (32 ∷ 123 ∷ 10 ∷ rest) (open_brace ∷ signs) blank_stops (blank_cuts _ _ brace) in
    line_cuts level (codes "} else {") rest (close_brace ∷ else_ ∷ open_brace ∷ signs) (close_brace_cuts _ _ (blank_cuts _ _ word))

-- the head of an `if`
pub if_line : (level : ℕ) (test : Term) (rest : List ℕ) (signs : List Sign) → TermSpelled test → Cuts rest signs →
    Cuts (line_text level (codes "if (" ++ term_text test ++ codes ") {") ++ rest) (if_ ∷ open_paren ∷ term_signs test (close_paren ∷ open_brace ∷ signs))
if_line level test rest signs h next =
    let value = term_cuts test (41 ∷ 32 ∷ 123 ∷ 10 ∷ rest) (close_paren ∷ open_brace ∷ signs) h close_stops (head_end rest signs next) in
    line_cuts level (codes "if (" ++ term_text test ++ codes ") {") rest (if_ ∷ open_paren ∷ term_signs test (close_paren ∷ open_brace ∷ signs))
    (simp append_assoc (keyword_cuts If _ _ blank_stops (blank_cuts _ _ (open_paren_cuts _ _ value))))

-- the head of a `while`
pub while_line : (level : ℕ) (test : Term) (rest : List ℕ) (signs : List Sign) → TermSpelled test → Cuts rest signs →
    Cuts (line_text level (codes "while (" ++ term_text test ++ codes ") {") ++ rest) (while_ ∷ open_paren ∷ term_signs test (close_paren ∷ open_brace ∷ signs))
while_line level test rest signs h next =
    let value = term_cuts test (41 ∷ 32 ∷ 123 ∷ 10 ∷ rest) (close_paren ∷ open_brace ∷ signs) h close_stops (head_end rest signs next) in
    line_cuts level (codes "while (" ++ term_text test ++ codes ") {") rest (while_ ∷ open_paren ∷ term_signs test (close_paren ∷ open_brace ∷ signs))
    (simp append_assoc (keyword_cuts While _ _ blank_stops (blank_cuts _ _ (open_paren_cuts _ _ value))))

-- the head of a `for`
pub for_line : (level : ℕ) (first : Option Setting) (test : Option Term) (step : Option Setting) (rest : List ℕ) (signs : List Sign) →
    MaybeSetting first → MaybeTerm test → MaybeSetting step → Cuts rest signs →
    Cuts (line_text level (for_text first test step) ++ rest)
    (for_ ∷ open_paren ∷ maybe_setting_signs first (semicolon ∷ maybe_term_signs test (semicolon ∷ maybe_setting_signs step (close_paren ∷ open_brace ∷ signs))))
for_line level first test step rest signs h i j next =
    let third = maybe_setting_cuts step (41 ∷ 32 ∷ 123 ∷ 10 ∷ rest) (close_paren ∷ open_brace ∷ signs) j close_stops (head_end rest signs next) in
    let second = maybe_term_cuts test _ _ i semicolon_stops (semicolon_cuts _ _ (blank_cuts _ _ third)) in
    let all = maybe_setting_cuts first _ _ h semicolon_stops (semicolon_cuts _ _ (blank_cuts _ _ second)) in
    line_cuts level (for_text first test step) rest
    (for_ ∷ open_paren ∷ maybe_setting_signs first (semicolon ∷ maybe_term_signs test (semicolon ∷ maybe_setting_signs step (close_paren ∷ open_brace ∷ signs))))
    (simp append_assoc (keyword_cuts For _ _ blank_stops (blank_cuts _ _ (open_paren_cuts _ _ all))))

-- an assignment
pub setting_line : (level : ℕ) (a : Setting) (rest : List ℕ) (signs : List Sign) → SettingSpelled a → Cuts rest signs →
    Cuts (line_text level (setting_text a ++ codes ";") ++ rest) (setting_signs a (semicolon ∷ signs))
setting_line level a rest signs h next =
    let here = setting_cuts a (59 ∷ 10 ∷ rest) (semicolon ∷ signs) h semicolon_stops (semicolon_end rest signs next) in
    line_cuts level (setting_text a ++ codes ";") rest (setting_signs a (semicolon ∷ signs))
    (subst (λ (bytes : List ℕ). Cuts bytes (setting_signs a (semicolon ∷ signs))) (sym (append_assoc (setting_text a) (codes ";") (10 ∷ rest))) here)

-- how a file is opened
mode_cuts : (mode : Mode) (rest : List ℕ) (signs : List Sign) → Stops rest → Cuts rest signs → Cuts (mode_text mode ++ rest) (mode_sign mode ∷ signs)
mode_cuts R rest signs s next = keyword_cuts ModeR rest signs s next
mode_cuts W rest signs s next = keyword_cuts ModeW rest signs s next
mode_cuts A rest signs s next = keyword_cuts ModeA rest signs s next

-- a line of `;`
pub empty_line : (level : ℕ) (rest : List ℕ) (signs : List Sign) → Cuts rest signs → Cuts (line_text level (codes ";") ++ rest) (semicolon ∷ signs)
empty_line level rest signs next = line_cuts level (codes ";") rest (semicolon ∷ signs) (semicolon_end rest signs next)

-- a line that opens a file
pub open_file_line : (level : ℕ) (to : Name) (path : Term) (mode : Mode) (rest : List ℕ) (signs : List Sign) → IsName to.text → TermSpelled path → Cuts rest signs →
    Cuts (line_text level (open_text to path mode) ++ rest)
    (ident to.text ∷ equal ∷ gs_fopen ∷ open_paren ∷ term_signs path (comma ∷ mode_sign mode ∷ close_paren ∷ semicolon ∷ signs))
open_file_line level to path mode rest signs h i next =
    let word = mode_cuts mode (41 ∷ 59 ∷ 10 ∷ rest) (close_paren ∷ semicolon ∷ signs) close_stops (call_end rest signs next) in
    let value = term_cuts path _ _ i comma_stops (comma_cuts _ _ word) in
    let asked = keyword_cuts GsFOpen _ _ open_stops (open_paren_cuts _ _ value) in
    line_cuts level (open_text to path mode) rest (ident to.text ∷ equal ∷ gs_fopen ∷ open_paren ∷ term_signs path (comma ∷ mode_sign mode ∷ close_paren ∷ semicolon ∷ signs))
    (simp append_assoc (name_cuts to.text _ _ h blank_stops (equal_cuts _ _ asked)))

-- a line that reads a line of a file
pub read_line_line : (level : ℕ) (got handle to : Name) (rest : List ℕ) (signs : List Sign) → IsName got.text → IsName handle.text → IsName to.text → Cuts rest signs →
    Cuts (line_text level (read_text got handle to) ++ rest)
    (ident got.text ∷ equal ∷ fgetline_ ∷ open_paren ∷ ident handle.text ∷ comma ∷ ident to.text ∷ close_paren ∷ semicolon ∷ signs)
read_line_line level got handle to rest signs h i j next =
    let second = name_cuts to.text (41 ∷ 59 ∷ 10 ∷ rest) (close_paren ∷ semicolon ∷ signs) j close_stops (call_end rest signs next) in
    let first = name_cuts handle.text _ _ i comma_stops (comma_cuts _ _ second) in
    let asked = keyword_cuts Fgetline _ _ open_stops (open_paren_cuts _ _ first) in
    line_cuts level (read_text got handle to) rest (ident got.text ∷ equal ∷ fgetline_ ∷ open_paren ∷ ident handle.text ∷ comma ∷ ident to.text ∷ close_paren ∷ semicolon ∷ signs)
    (simp append_assoc (name_cuts got.text _ _ h blank_stops (equal_cuts _ _ asked)))

-- a line that closes a file
pub close_file_line : (level : ℕ) (handle : Name) (rest : List ℕ) (signs : List Sign) → IsName handle.text → Cuts rest signs →
    Cuts (line_text level (codes "GS_FClose(" ++ handle.text ++ codes ");") ++ rest) (gs_fclose ∷ open_paren ∷ ident handle.text ∷ close_paren ∷ semicolon ∷ signs)
close_file_line level handle rest signs h next =
    let first = name_cuts handle.text (41 ∷ 59 ∷ 10 ∷ rest) (close_paren ∷ semicolon ∷ signs) h close_stops (call_end rest signs next) in
    line_cuts level (codes "GS_FClose(" ++ handle.text ++ codes ");") rest (gs_fclose ∷ open_paren ∷ ident handle.text ∷ close_paren ∷ semicolon ∷ signs)
    (simp append_assoc (keyword_cuts GsFClose _ _ open_stops (open_paren_cuts _ _ first)))

-- a line of `GS_Barrier`
pub barrier_line : (level : ℕ) (rest : List ℕ) (signs : List Sign) → Cuts rest signs →
    Cuts (line_text level (codes "GS_Barrier();") ++ rest) (gs_barrier ∷ open_paren ∷ close_paren ∷ semicolon ∷ signs)
barrier_line level rest signs next =
    line_cuts level (codes "GS_Barrier();") rest (gs_barrier ∷ open_paren ∷ close_paren ∷ semicolon ∷ signs)
    (keyword_cuts GsBarrier (40 ∷ 41 ∷ 59 ∷ 10 ∷ rest) (open_paren ∷ close_paren ∷ semicolon ∷ signs) open_stops (open_paren_cuts _ _ (call_end rest signs next)))

-- a line that prints
pub print_line : (level : ℕ) (format : Formatted) (args : List Term) (rest : List ℕ) (signs : List Sign) → PrintSpelled format args → Cuts rest signs →
    Cuts (line_text level (codes "printf(" ++ format_text format args) ++ rest) (printf_ ∷ open_paren ∷ format_signs format args signs)
print_line level format args rest signs h next =
    let said = format_cuts format args (10 ∷ rest) signs h (feed_cuts rest signs next) in
    line_cuts level (codes "printf(" ++ format_text format args) rest (printf_ ∷ open_paren ∷ format_signs format args signs)
    (keyword_cuts Printf (40 ∷ (format_text format args ++ (10 ∷ rest))) (open_paren ∷ format_signs format args signs) open_stops (open_paren_cuts _ _ said))

-- a print to somewhere
to_cuts : (to : Name) (format : Formatted) (args : List Term) (rest : List ℕ) (signs : List Sign) → IsName to.text → PrintSpelled format args → Cuts rest signs →
    Cuts (40 ∷ (to.text ++ (44 ∷ 32 ∷ (format_text format args ++ (10 ∷ rest))))) (open_paren ∷ ident to.text ∷ comma ∷ format_signs format args signs)
to_cuts to format args rest signs h i next =
    open_paren_cuts _ _ (name_cuts to.text _ _ h comma_stops (comma_cuts _ _ (format_cuts format args (10 ∷ rest) signs i (feed_cuts rest signs next))))

-- the bytes of a print to somewhere, one after another
to_bytes : (to format rest : List ℕ) → to ++ (44 ∷ 32 ∷ (format ++ rest)) ≡ ((to ++ (44 ∷ 32 ∷ [])) ++ format) ++ rest
to_bytes to format rest = simp append_assoc

-- a line that prints to a file
pub print_file_line : (level : ℕ) (handle : Name) (format : Formatted) (args : List Term) (rest : List ℕ) (signs : List Sign) →
    IsName handle.text → PrintSpelled format args → Cuts rest signs →
    Cuts (line_text level (codes "fprintf(" ++ handle.text ++ codes ", " ++ format_text format args) ++ rest)
    (fprintf_ ∷ open_paren ∷ ident handle.text ∷ comma ∷ format_signs format args signs)
print_file_line level handle format args rest signs h i next =
    line_cuts level (codes "fprintf(" ++ handle.text ++ codes ", " ++ format_text format args) rest
    (fprintf_ ∷ open_paren ∷ ident handle.text ∷ comma ∷ format_signs format args signs)
    (subst (λ (bytes : List ℕ). Cuts (codes "fprintf(" ++ bytes) (fprintf_ ∷ open_paren ∷ ident handle.text ∷ comma ∷ format_signs format args signs))
    (to_bytes handle.text (format_text format args) (10 ∷ rest))
    (keyword_cuts Fprintf (40 ∷ (handle.text ++ (44 ∷ 32 ∷ (format_text format args ++ (10 ∷ rest))))) _ open_stops (to_cuts handle format args rest signs h i next)))

-- a line that prints to a string
pub print_str_line : (level : ℕ) (to : Name) (format : Formatted) (args : List Term) (rest : List ℕ) (signs : List Sign) →
    IsName to.text → PrintSpelled format args → Cuts rest signs →
    Cuts (line_text level (codes "sprintf(" ++ to.text ++ codes ", " ++ format_text format args) ++ rest)
    (sprintf_ ∷ open_paren ∷ ident to.text ∷ comma ∷ format_signs format args signs)
print_str_line level to format args rest signs h i next =
    line_cuts level (codes "sprintf(" ++ to.text ++ codes ", " ++ format_text format args) rest
    (sprintf_ ∷ open_paren ∷ ident to.text ∷ comma ∷ format_signs format args signs)
    (subst (λ (bytes : List ℕ). Cuts (codes "sprintf(" ++ bytes) (sprintf_ ∷ open_paren ∷ ident to.text ∷ comma ∷ format_signs format args signs))
    (to_bytes to.text (format_text format args) (10 ∷ rest))
    (keyword_cuts Sprintf (40 ∷ (to.text ++ (44 ∷ 32 ∷ (format_text format args ++ (10 ∷ rest))))) _ open_stops (to_cuts to format args rest signs h i next)))

-- the bytes of a call, one after another
call_bytes : (op args rest : List ℕ) → op ++ (40 ∷ (args ++ (41 ∷ 59 ∷ rest))) ≡ (((op ++ (40 ∷ [])) ++ args) ++ (41 ∷ 59 ∷ [])) ++ rest
call_bytes op args rest = simp append_assoc

-- a line that calls a task
pub call_line : (level : ℕ) (op : Name) (args : List Passed) (rest : List ℕ) (signs : List Sign) → IsName op.text → PassedsSpelled args → Cuts rest signs →
    Cuts (line_text level (op.text ++ codes "(" ++ passed_texts args ++ codes ");") ++ rest) (ident op.text ∷ open_paren ∷ passeds_signs args (close_paren ∷ semicolon ∷ signs))
call_line level op args rest signs h i next =
    let passed = passeds_cuts args (41 ∷ 59 ∷ 10 ∷ rest) (close_paren ∷ semicolon ∷ signs) i close_stops (call_end rest signs next) in
    line_cuts level (op.text ++ codes "(" ++ passed_texts args ++ codes ");") rest (ident op.text ∷ open_paren ∷ passeds_signs args (close_paren ∷ semicolon ∷ signs))
    (subst (λ (bytes : List ℕ). Cuts bytes (ident op.text ∷ open_paren ∷ passeds_signs args (close_paren ∷ semicolon ∷ signs)))
    (call_bytes op.text (passed_texts args) (10 ∷ rest)) (name_cuts op.text _ _ h open_stops (open_paren_cuts _ _ passed)))
