-- Which terminal symbol stands at a mark, and what it holds.
use Rattle.std.specs.Prelude.{ℕ, pos, List, []}
use Rattle.gs_tree.specs.declared.tree.Op.{Op}
use Rattle.gs_tree.specs.declared.tree.Op.TheVariants.{Or, And, Eq, Ne, Lt, Le, Gt, Ge, Add, Sub, Mul, Div, Rem}
use Rattle.gs_tree.specs.declared.token.LexKind.TheVariants.{BadByte}
use Rattle.gs_tree.specs.Program.{Name}
use Rattle.gs_tree.specs.Sign.{Sign, Mark, main_, int_, char_, file_, void_, if_, else_, while_, for_, return_, gs_on, gs_off, gs_barrier, gs_fopen, gs_fclose, printf_, fprintf_, sprintf_, fgetline_, atoi_, strcmp_, mode_r, mode_w, mode_a, ident, number, string, plus_plus, minus_minus, plus_equal, minus_equal, less_equal, greater_equal, equal_equal, not_equal, and_and, or_or, open_paren, close_paren, open_brace, close_brace, comma, semicolon, equal, plus, minus, star, slash, percent, less, greater, bang, ampersand, bad}

-- a sign's place in the list of signs: signs of one place differ only in what they hold
abbrev pub place : Sign → ℕ
place main_ = 1
place int_ = 2
place char_ = 3
place file_ = 4
place void_ = 5
place if_ = 6
place else_ = 7
place while_ = 8
place for_ = 9
place return_ = 10
place gs_on = 11
place gs_off = 12
place gs_barrier = 13
place gs_fopen = 14
place gs_fclose = 15
place printf_ = 16
place fprintf_ = 17
place sprintf_ = 18
place fgetline_ = 19
place atoi_ = 20
place strcmp_ = 21
place mode_r = 22
place mode_w = 23
place mode_a = 24
place (ident s) = 25
place (number v) = 26
place (string s) = 27
place plus_plus = 28
place minus_minus = 29
place plus_equal = 30
place minus_equal = 31
place less_equal = 32
place greater_equal = 33
place equal_equal = 34
place not_equal = 35
place and_and = 36
place or_or = 37
place open_paren = 38
place close_paren = 39
place open_brace = 40
place close_brace = 41
place comma = 42
place semicolon = 43
place equal = 44
place plus = 45
place minus = 46
place star = 47
place slash = 48
place percent = 49
place less = 50
place greater = 51
place bang = 52
place ampersand = 53
place (bad kind) = 54

-- a sign without what it holds
abbrev pub bare : Sign → Sign
bare (ident s) = ident []
bare (number v) = number (pos 0)
bare (string s) = string []
bare (bad kind) = bad BadByte
bare s = s

-- what a name or a string holds
abbrev pub text_of : Sign → List ℕ
text_of (ident s) = s
text_of (string s) = s
text_of _ = []

abbrev pub name_at : Mark → Name
name_at x = record { line = x.line; text = text_of x.sign }

-- How tightly a sign binds as a binary operator: 1 the tightest, 6 the loosest, 0 for what is none.
abbrev pub binding : Sign → ℕ
binding star = 1
binding slash = 1
binding percent = 1
binding plus = 2
binding minus = 2
binding less = 3
binding less_equal = 3
binding greater = 3
binding greater_equal = 3
binding equal_equal = 4
binding not_equal = 4
binding and_and = 5
binding or_or = 6
binding _ = 0

-- the binary operator that a sign is
abbrev pub operator : Sign → Op
operator star = Mul
operator slash = Div
operator percent = Rem
operator plus = Add
operator minus = Sub
operator less = Lt
operator less_equal = Le
operator greater = Gt
operator greater_equal = Ge
operator equal_equal = Eq
operator not_equal = Ne
operator and_and = And
operator _ = Or
