-- How a statement begins.
use Rattle.std.specs.Prelude.{◌≡◌, List, [], ◌∷◌, false, ⊤}
use Rattle.gs_parse.specs.Grammar.{begins_statement}
use Rattle.gs_parse.specs.declared.start.Start.{Start}
use Rattle.gs_tree.specs.Sign.{Sign, Mark, ident, semicolon, open_brace, if_, while_, for_, gs_fclose, gs_barrier, printf_, fprintf_, sprintf_}
use Rattle.gs_parse.specs.declared.begin.Begin.{Begin}
use Rattle.gs_parse.specs.declared.begin.Begin.TheVariants.{Empty, Block, If, While, For, Name, Close, Barrier, Print, PrintFile, PrintStr}

abbrev pub sign_of_begin : Begin → Sign
sign_of_begin Empty = semicolon
sign_of_begin Block = open_brace
sign_of_begin If = if_
sign_of_begin While = while_
sign_of_begin For = for_
sign_of_begin (Name w) = ident w.now
sign_of_begin Close = gs_fclose
sign_of_begin Barrier = gs_barrier
sign_of_begin Print = printf_
sign_of_begin PrintFile = fprintf_
sign_of_begin PrintStr = sprintf_

-- a statement's first sign stands here
unfoldable pub IsStart : Start → (here next : List Mark) → Type 0
IsStart s here next = here ≡ record { line = s.line; sign = sign_of_begin s.begin } ∷ next

-- no statement begins here
unfoldable pub NoStart : List Mark → Type 0
NoStart [] = ⊤
NoStart (x ∷ xs) = begins_statement x.sign ≡ false
