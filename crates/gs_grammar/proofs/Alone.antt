-- What is no block.
use Rattle.std.proofs.Common.{◌≡◌, refl, List, [], ◌∷◌, Bool, true, false}
use Rattle.gs_tree.specs.Program.{Setting, Code, none, one}
use Rattle.gs_tree.specs.Sign.{Sign, Mark, open_brace}
use Rattle.gs_parse.specs.Reading.{Limits}
use Rattle.gs_grammar.specs.Statements.{IsAssign, sets, increments, decrements, adds, subtracts, IsSimple, an_assignment, opens, reads_line, closes_file, waits, prints, prints_file, prints_string, calls, body_of}

abbrev pub is_brace : Sign → Bool
is_brace open_brace = true
is_brace _ = false

abbrev pub begins_brace : List Mark → Bool
begins_brace [] = false
begins_brace (x ∷ xs) = is_brace x.sign

setting_open : {l : Limits} {ts us : List Mark} {s : Setting} → IsAssign l ts s us → begins_brace ts ≡ false
setting_open (sets h) = refl
setting_open increments = refl
setting_open decrements = refl
setting_open (adds h) = refl
setting_open (subtracts h) = refl

-- a simple statement begins with no brace
pub simple_open : {l : Limits} {ts us : List Mark} {c : Code} → IsSimple l ts c us → begins_brace ts ≡ false
simple_open (an_assignment h) = setting_open h
simple_open (opens h) = refl
simple_open reads_line = refl
simple_open closes_file = refl
simple_open waits = refl
simple_open (prints h) = refl
simple_open (prints_file h) = refl
simple_open (prints_string h) = refl
simple_open (calls h) = refl

-- and is no block
pub simple_alone : {l : Limits} {ts us : List Mark} {c : Code} → IsSimple l ts c us → body_of c ≡ one c none
simple_alone (an_assignment h) = refl
simple_alone (opens h) = refl
simple_alone reads_line = refl
simple_alone closes_file = refl
simple_alone waits = refl
simple_alone (prints h) = refl
simple_alone (prints_file h) = refl
simple_alone (prints_string h) = refl
simple_alone (calls h) = refl
