-- The terminal symbols of the grammar: what stands at one token, and on which line.
use Rattle.std.specs.Prelude.{ℕ, ℤ, List}
use Rattle.gs_tree.specs.declared.token.LexKind.{LexKind}

pub data Sign : Type 0 where
  -- the keywords, in the order of the description
  main_ : Sign
  int_ : Sign
  char_ : Sign
  file_ : Sign
  void_ : Sign
  if_ : Sign
  else_ : Sign
  while_ : Sign
  for_ : Sign
  return_ : Sign
  gs_on : Sign
  gs_off : Sign
  gs_barrier : Sign
  gs_fopen : Sign
  gs_fclose : Sign
  printf_ : Sign
  fprintf_ : Sign
  sprintf_ : Sign
  fgetline_ : Sign
  atoi_ : Sign
  strcmp_ : Sign
  mode_r : Sign
  mode_w : Sign
  mode_a : Sign
  -- a name that is no keyword, a number, and a string after its escapes
  ident : List ℕ → Sign
  number : ℤ → Sign
  string : List ℕ → Sign
  -- ++ -- += -= <= >= == != && ||
  plus_plus : Sign
  minus_minus : Sign
  plus_equal : Sign
  minus_equal : Sign
  less_equal : Sign
  greater_equal : Sign
  equal_equal : Sign
  not_equal : Sign
  and_and : Sign
  or_or : Sign
  -- ( ) { } , ; = + - * / % < > ! &
  open_paren : Sign
  close_paren : Sign
  open_brace : Sign
  close_brace : Sign
  comma : Sign
  semicolon : Sign
  equal : Sign
  plus : Sign
  minus : Sign
  star : Sign
  slash : Sign
  percent : Sign
  less : Sign
  greater : Sign
  bang : Sign
  ampersand : Sign
  -- a lexical fault, allowed nowhere
  bad : LexKind → Sign

-- A sign and the line on which it begins.
pub record Mark : Type 0 where
  pub line : ℕ
  pub sign : Sign
