-- The signs of a printed program are read as the program.
use Rattle.std.proofs.Common.{◌≡◌, ℕ, refl, ap, ◌∙◌, subst, List, [], ◌∷◌, ◌++◌, false, None, map}
use Rattle.std.specs.Prelude.{pos}
use Rattle.gs_tree.specs.Sign.{Sign, Mark, main_, int_, void_, gs_on, gs_off, return_, ident, number, open_paren, close_paren, close_brace, comma, semicolon, equal}
use Rattle.gs_tree.specs.Program.{Name, Setting, Codes, Program}
use Rattle.gs_tree.specs.Unlined.{unlined_setting, unlined_var, unlined_name, unlined}
use Rattle.gs_tree.specs.declared.tree.VarKind.{VarKind}
use Rattle.gs_tree.specs.declared.tree.VarKind.TheVariants.{Int, Str, Handle}
use Rattle.gs_spelling.specs.Laws.{sign_at}
use Rattle.gs_spelling.specs.Signs.{type_signs, vars_signs, settings_signs, codes_signs, end_signs, program_signs}
use Rattle.gs_parse.specs.Notation.{Declared, unfit, declared, settings, a_program, decls, starts, program, kind_of}
use Rattle.gs_parse.specs.Grammar.{rule, is_either, is_zero, begins_declaration, declare, after_on, after_off}
use Rattle.gs_parse.specs.Reading.{limited, Accepts, Says}
use Rattle.gs_parse.specs.Fits.{SettingsFit, ProgramFits}
use Rattle.gs_reprint.specs.Laws.{SaysAgain}
use Rattle.gs_reprint.proofs.Again.{Reads, mark, Passes, wants, gives_it, takes, chooses, passes, reads, word_again, name_again, accepts_is, next_is, without_word}
use Rattle.gs_reprint.proofs.AgainTerms.{term_again}
use Rattle.gs_reprint.proofs.AgainParts.{all_front, one_more, accepts_either}
use Rattle.gs_reprint.proofs.AgainCodes.{off_closes, codes_again}

-- ---- declarations

-- the variable of a declaration, and then the other declarations
var_again : (kind : VarKind) (w : List ℕ) (d : Declared) (P : Declared → Type 0) (gs left : List Sign) →
    ((line : ℕ) → Reads declared (rule (decls (declare (record { line = line; text = w }) kind None d))) P gs left) →
    Reads declared (rule (decls d)) P (type_signs kind (ident w ∷ semicolon ∷ gs)) left
unfolding begins_declaration
var_again Int w d P gs left h =
    chooses (λ l. tt) (λ l. reads {Q = P} (name_again (λ k. without_word equal refl
    (takes (λ m. accepts_either comma semicolon semicolon m refl) (λ m. reads (h k) (λ all e. gives_it e))))) (λ all e. gives_it e))
var_again Str w d P gs left h =
    chooses (λ l. tt) (λ l. reads {Q = P} (word_again (name_again (λ k. without_word equal refl
    (takes (λ m. accepts_either comma semicolon semicolon m refl) (λ m. reads (h k) (λ all e. gives_it e)))))) (λ all e. gives_it e))
var_again Handle w d P gs left h =
    chooses (λ l. tt) (λ l. reads {Q = P} (word_again (name_again (λ k.
    takes (λ m. accepts_either comma semicolon semicolon m refl) (λ m. reads (h k) (λ all e. gives_it e))))) (λ all e. gives_it e))

-- the variables so far and these, and no initial assignments
record Declares (so_far vs : List (Name × VarKind)) (d : Declared) : Type 0 where
  vars : map unlined_var d.vars ≡ map unlined_var (so_far ++ vs)
  first : d.first ≡ []

-- declarations, after others
decls_again : (vs : List (Name × VarKind)) (d : Declared) (gs : List Sign) → d.first ≡ [] → Passes begins_declaration gs →
    Reads declared (rule (decls d)) (Declares d.vars vs) (vars_signs vs gs) gs
decls_again [] d gs e p = passes p (gives_it (record { vars = all_front unlined_var d.vars; first = e }))
decls_again (v ∷ vs) d gs e p =
    var_again v.1 v.0.text d (Declares d.vars (v ∷ vs)) (vars_signs vs gs) gs (λ l.
    wants (λ a h. record { vars = h.vars ∙ one_more unlined_var d.vars (record { line = l; text = v.0.text }, v.1) v vs refl; first = h.first })
    (decls_again vs (declare (record { line = l; text = v.0.text }) v.1 None d) gs e p))

-- ---- initial assignments

-- initial assignments, after others
starts_again : (ss so_far : List Setting) (gs : List Sign) → SettingsFit ss → next_is (ident []) gs ≡ false →
    Reads settings (rule (starts so_far)) (λ all. map unlined_setting all ≡ map unlined_setting (so_far ++ ss)) (settings_signs ss gs) gs
starts_again [] so_far gs fits free = without_word (ident []) free (gives_it (all_front unlined_setting so_far))
starts_again (s ∷ ss) so_far gs fits free =
    chooses (λ l. accepts_is (ident []) (ident s.to.text) l refl) (λ l.
    word_again (reads (term_again s.value 0 (semicolon ∷ settings_signs ss gs) fits.0 refl) (λ v e.
    let a : Setting = record { to = record { line = l; text = s.to.text }; value = v.term } in
    let same : unlined_setting a ≡ unlined_setting s = ap (λ z. record { to = unlined_name s.to; value = z }) e in
    word_again (reads (starts_again ss (so_far ++ a ∷ []) gs fits.1 free) (λ all g. gives_it (g ∙ one_more unlined_setting so_far a s ss same))))))

-- no declaration stands here
no_more : (ss : List Setting) (gs : List Sign) → Passes begins_declaration (settings_signs ss (gs_on ∷ gs))
unfolding begins_declaration
no_more [] gs = λ l. refl
no_more (s ∷ ss) gs = λ l. refl

-- ---- the frame

-- `0` is accepted
accepts_zero : (line : ℕ) → Accepts limited (is_zero (mark line (number (pos 0))))
unfolding is_zero
accepts_zero line = tt

-- from the call of `GS_Off` to the end
off_again : (p q : Program) → unlined q ≡ unlined p →
    Reads a_program (after_off q) (λ r. unlined r ≡ unlined p) (open_paren ∷ number (pos 0) ∷ close_paren ∷ semicolon ∷ close_brace ∷ []) []
off_again p q e = word_again (takes accepts_zero (λ l. word_again (word_again (without_word return_ refl (word_again (gives_it e))))))

-- programs of equal parts
program_same : (vs ws : List (Name × VarKind)) (ss us : List Setting) (b c : Codes) → vs ≡ ws → ss ≡ us → b ≡ c →
    (let p : Program = record { vars = vs; first = ss; body = b; off = 0 } in p) ≡ record { vars = ws; first = us; body = c; off = 0 }
program_same vs ws ss us b c e f g = cc

-- from the call of `GS_On` on
on_again : (p : Program) (d : Declared) (first : List Setting) → ProgramFits p → map unlined_var d.vars ≡ map unlined_var p.vars →
    map unlined_setting first ≡ map unlined_setting p.first →
    Reads a_program (after_on d first) (λ r. unlined r ≡ unlined p) (open_paren ∷ close_paren ∷ semicolon ∷ codes_signs p.body end_signs) []
on_again p d first fits e f =
    word_again (word_again (word_again (reads (codes_again p.body 0 gs_off [] _ off_closes fits.body) (λ c g.
    off_again p (record { vars = d.vars; first = first; body = c.body; off = c.line }) (program_same _ _ _ _ _ _ e f g)))))

-- no type stands before `main`
no_type : (line : ℕ) → is_either int_ void_ (mark line main_) ≡ unfit
unfolding is_either
no_type line = refl

-- the whole program
program_again : (p : Program) → ProgramFits p → Reads a_program (rule program) (λ r. unlined r ≡ unlined p) (program_signs p) []
program_again p fits =
    passes no_type (word_again (word_again (without_word void_ refl (word_again (word_again
    (reads (decls_again p.vars (record { vars = []; first = [] }) _ refl (no_more p.first _)) (λ d e.
    reads (starts_again p.first d.first _ fits.first refl) (λ first f.
    word_again (on_again p d first fits e.vars (f ∙ ap (λ z. map unlined_setting (z ++ p.first)) e.first))))))))))

-- no signs are no marks
nothing_left : (ts : List Mark) → map sign_at ts ≡ [] → ts ≡ []
nothing_left [] e = refl
nothing_left (x ∷ ts) e = absurd (cc)

-- the signs of a printed program within the limits say it again
pub says_again : SaysAgain
says_again p ts fits e =
    let r = (program_again p fits).on ts e in
    (r.value, subst (λ (z : List Mark). Says limited (kind_of program) (rule program) ts r.value z) (nothing_left r.rest r.signs) r.says, r.wanted)
