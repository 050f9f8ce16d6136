-- The terminal symbols that the functions pass, as plain data.
use Rattle.gs_tree.specs.declared.sign.Sign as rust
use Rattle.gs_tree.specs.declared.sign.Sign.TheVariants.{Keyword, Name, Number, Text, Symbol, Bad}
use Rattle.gs_tree.specs.declared.sign.Mark as rust_mark
use Rattle.gs_tree.specs.Sign.{Sign, Mark, ident, number, string, bad}
use Rattle.gs_tree.specs.Signs.{sign_of_keyword, sign_of_symbol}

abbrev pub sign_shown : rust.Sign → Sign
sign_shown (Keyword k) = sign_of_keyword k
sign_shown (Name w) = ident w.now
sign_shown (Number v) = number v
sign_shown (Text s) = string s.now
sign_shown (Symbol s) = sign_of_symbol s
sign_shown (Bad kind) = bad kind

abbrev pub mark_shown : rust_mark.Mark → Mark
mark_shown m = record { line = m.line; sign = sign_shown m.sign }
