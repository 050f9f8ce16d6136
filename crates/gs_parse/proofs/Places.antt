-- Signs of one place differ only in what they hold.
use Rattle.std.proofs.Common.{◌≡◌, refl, sym, ap, ◌∙◌, List, [], ◌∷◌, Some, slice_get}
use Rattle.std.specs.Prelude.{pos}
use Rattle.gs_tree.specs.Sign.{Sign, main_, int_, char_, file_, void_, if_, else_, while_, for_, return_, gs_on, gs_off, gs_barrier, gs_fopen, gs_fclose, printf_, fprintf_, sprintf_, fgetline_, atoi_, strcmp_, mode_r, mode_w, mode_a, ident, number, string, plus_plus, minus_minus, plus_equal, minus_equal, less_equal, greater_equal, equal_equal, not_equal, and_and, or_or, open_paren, close_paren, open_brace, close_brace, comma, semicolon, equal, plus, minus, star, slash, percent, less, greater, bang, ampersand, bad}
use Rattle.gs_tree.specs.declared.token.LexKind.TheVariants.{BadByte}
use Rattle.gs_parse.specs.Symbols.{place, bare}

-- the signs, each at its place
abbrev in_order : List Sign
in_order = bad BadByte ∷ main_ ∷ int_ ∷ char_ ∷ file_ ∷ void_ ∷ if_ ∷ else_ ∷ while_ ∷ for_ ∷ return_ ∷ gs_on ∷ gs_off ∷ gs_barrier ∷ gs_fopen ∷ gs_fclose ∷ printf_ ∷ fprintf_ ∷ sprintf_ ∷ fgetline_ ∷ atoi_ ∷ strcmp_ ∷ mode_r ∷ mode_w ∷ mode_a ∷ ident [] ∷ number (pos 0) ∷ string [] ∷ plus_plus ∷ minus_minus ∷ plus_equal ∷ minus_equal ∷ less_equal ∷ greater_equal ∷ equal_equal ∷ not_equal ∷ and_and ∷ or_or ∷ open_paren ∷ close_paren ∷ open_brace ∷ close_brace ∷ comma ∷ semicolon ∷ equal ∷ plus ∷ minus ∷ star ∷ slash ∷ percent ∷ less ∷ greater ∷ bang ∷ ampersand ∷ bad BadByte ∷ []

listed : (s : Sign) → slice_get in_order (place s) ≡ Some (bare s)
listed main_ = refl
listed _ = refl

pub same_place : (a b : Sign) → place a ≡ place b → bare a ≡ bare b
same_place a b e =
    let both : Some (bare a) ≡ Some (bare b) = sym (listed a) ∙ ap (slice_get in_order) e ∙ listed b in
    cc
