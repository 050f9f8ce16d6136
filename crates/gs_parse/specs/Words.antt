-- The signs that hold nothing.
use Rattle.gs_tree.specs.Sign.{Sign}
use Rattle.gs_tree.specs.Signs.{sign_of_keyword, sign_of_symbol}
use Rattle.gs_parse.specs.declared.marks.Word.{Word}
use Rattle.gs_parse.specs.declared.marks.Word.TheVariants.{Keyword, Symbol}

abbrev pub word_sign : Word → Sign
word_sign (Keyword k) = sign_of_keyword k
word_sign (Symbol s) = sign_of_symbol s
