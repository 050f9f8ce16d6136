-- How operands are read.
use Rattle.std.proofs.Common.{◌≡◌, ◌≢◌, ◌≤◌, ◌<◌, ℕ, refl, ap, ◌∙◌, List, [], ◌∷◌, Result, Ok, Err, true, nat_lt, lt-ltb}
use Rattle.std.proofs.lemmas.Bool.{le-ltb}
use Rattle.gs_tree.specs.Sign.{Sign, Mark}
use Rattle.gs_tree.specs.Program.{Term}
use Rattle.gs_tree.specs.Signs.{sign_of_keyword, sign_of_symbol}
use Rattle.gs_tree.specs.View.{term_of}
use Rattle.gs_tree.specs.declared.sign.Keyword.{Keyword}
use Rattle.gs_tree.specs.declared.sign.Keyword.TheVariants.{Atoi, Strcmp}
use Rattle.gs_tree.specs.declared.sign.Symbol.{Symbol}
use Rattle.gs_tree.specs.declared.sign.Symbol.TheVariants.{Minus, Bang, OpenParen}
use Rattle.gs_tree.specs.Shown.{mark_shown, sign_shown}
use Rattle.gs_tree.specs.declared.sign.Mark as rust
use Rattle.gs_tree.specs.declared.sign.Sign as rust_sign
use Rattle.gs_parse.specs.declared.build.Operand.{Operand}
use Rattle.gs_parse.specs.declared.stop.Stop.{Stop}
use Rattle.gs_parse.specs.declared.stop.Stop.TheVariants.{Unfit, TooDeep}
use Rattle.gs_parse.specs.Notation.{a_term, Lined, level, unfit, too_deep, fit}
use Rattle.gs_parse.specs.Grammar.{rule, judged, begins_operand, operand_fit, operand, leaf}
use Rattle.gs_parse.specs.Reading.{next_fit}
use Rattle.gs_parse.specs.Reads.{Reads, line_of, seen}
use Rattle.gs_parse.proofs.Chain.{took, stop_unfit, stop_deep, gave}

abbrev pub at_line : ℕ → Sign → Mark
at_line line s = record { line = line; sign = s }

pub room_fit : (n : ℕ) → n < 64 → judged true (nat_lt n 64) ≡ fit
room_fit n lt = ap (judged true) (lt-ltb n 64 lt)

pub room_deep : (n : ℕ) → 64 ≤ n → judged true (nat_lt n 64) ≡ too_deep
room_deep n le = ap (judged true) (le-ltb n 64 le)

pub operand_by : {A : Type 0} (s : Sign) (d g : ℕ) (view : A → Lined) (line : ℕ) (here next : List Mark) (result : Result A Stop) (new : List Mark) → here ≡ at_line line s ∷ next → operand_fit d g s ≡ fit → Reads a_term (operand d g (at_line line s) s) view next result new → Reads a_term (rule (level 0 d g)) view here result new
unfolding begins_operand
operand_by s d g view line here next result new first fits r = took a_term _ _ view here (at_line line s) next result new first fits r

pub operand_stops : {A : Type 0} (s : Sign) (d g : ℕ) (view : A → Lined) (line : ℕ) (here next : List Mark) → here ≡ at_line line s ∷ next → operand_fit d g s ≡ unfit → Reads a_term (rule (level 0 d g)) view here (Err Unfit) here
unfolding begins_operand
operand_stops s d g view line here next first fits = stop_unfit a_term _ _ view here (ap (next_fit (begins_operand d g)) first ∙ fits)

pub operand_ends : {A : Type 0} (d g : ℕ) (view : A → Lined) (here : List Mark) → here ≡ [] → Reads a_term (rule (level 0 d g)) view here (Err Unfit) here
operand_ends d g view here none_left = stop_unfit a_term _ _ view here (ap (next_fit (begins_operand d g)) none_left)

pub operand_deep : {A : Type 0} (s : Sign) (d g : ℕ) (view : A → Lined) (line : ℕ) (here next : List Mark) → here ≡ at_line line s ∷ next → operand_fit d g s ≡ too_deep → Reads a_term (rule (level 0 d g)) view here (Err TooDeep) here
unfolding begins_operand
operand_deep s d g view line here next first fits = stop_deep a_term _ _ view here (ap (next_fit (begins_operand d g)) first ∙ fits)

pub no_symbol : (s : Symbol) (d g : ℕ) → s ≢ Minus → s ≢ Bang → s ≢ OpenParen → operand_fit d g (sign_of_symbol s) ≡ unfit
no_symbol Minus d g a b c = absurd (a refl)
no_symbol Bang d g a b c = absurd (b refl)
no_symbol OpenParen d g a b c = absurd (c refl)
no_symbol _ d g a b c = refl

pub no_keyword : (s : Keyword) (d g : ℕ) → s ≢ Atoi → s ≢ Strcmp → operand_fit d g (sign_of_keyword s) ≡ unfit
no_keyword Atoi d g a b = absurd (a refl)
no_keyword Strcmp d g a b = absurd (b refl)
no_keyword _ d g a b = refl

lined_same : (a b : ℕ) (s t : Term) → a ≡ b → s ≡ t → (let x : Lined = record { line = a; term = s } in x) ≡ record { line = b; term = t }
lined_same a b s t e h = cc

-- a value with the line of the first sign
pub gave_leaf : (line : ℕ) (s : Sign) (t : Term) (here next mid : List Mark) (r : Operand) → here ≡ at_line line s ∷ next → term_of r.e ≡ t → Reads a_term (leaf (at_line line s) t) (seen here) mid (Ok r) mid
gave_leaf line s t here next mid r first same =
    gave a_term _ (seen here) mid r (lined_same (line_of here) line (term_of r.e) t (ap line_of first) same)

pub first_shown : (m : rust.Mark) (s : rust_sign.Sign) (here next : List Mark) → here ≡ mark_shown m ∷ next → m.sign ≡ s → here ≡ at_line m.line (sign_shown s) ∷ next
first_shown m s here next h e = h ∙ ap (λ z. at_line m.line (sign_shown z) ∷ next) e
