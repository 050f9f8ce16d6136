-- The productions of the whole program.
use Rattle.std.specs.Prelude.{ℕ, pos, List, [], ◌∷◌, ◌++◌}
use Rattle.gs_tree.specs.Program.{Name, Term, Setting, Codes, Program}
use Rattle.gs_tree.specs.Sign.{Sign, Mark, main_, int_, char_, file_, void_, return_, gs_on, gs_off, number, open_paren, close_paren, open_brace, close_brace, comma, semicolon, equal, star}
use Rattle.gs_tree.specs.declared.tree.VarKind.{VarKind}
use Rattle.gs_tree.specs.declared.tree.VarKind.TheVariants.{Int, Str, Handle}
use Rattle.gs_parse.specs.Reading.{Limits}
use Rattle.gs_grammar.specs.Signs.{at, called}
use Rattle.gs_grammar.specs.Expressions.{IsExpr}
use Rattle.gs_grammar.specs.Statements.{assigned_to, IsStmts}

-- [ "=" expr ]
pub data IsValue (l : Limits) (n : Name) : List Mark → List Setting → List Mark → Type 0 where
  no_value : {rest : List Mark} → IsValue l n rest [] rest
  a_value : {a : ℕ} {ts rest : List Mark} {e : Term} → IsExpr l 0 ts e rest → IsValue l n (at a equal ∷ ts) (assigned_to n e ∷ []) rest

-- ident [ "=" expr ], or "*" ident [ "=" expr ], or "*" ident, by the kind
pub data IsVar (l : Limits) : VarKind → List Mark → Name → List Setting → List Mark → Type 0 where
  int_var : {n : Name} {ts rest : List Mark} {first : List Setting} → IsValue l n ts first rest → IsVar l Int (called n ∷ ts) n first rest
  string_var : {a : ℕ} {n : Name} {ts rest : List Mark} {first : List Setting} → IsValue l n ts first rest → IsVar l Str (at a star ∷ called n ∷ ts) n first rest
  handle_var : {a : ℕ} {n : Name} {rest : List Mark} → IsVar l Handle (at a star ∷ called n ∷ rest) n [] rest

-- var { "," var }
pub data IsVars (l : Limits) (k : VarKind) : List Mark → List (Name × VarKind) → List Setting → List Mark → Type 0 where
  last_var : {n : Name} {ts rest : List Mark} {first : List Setting} → IsVar l k ts n first rest → IsVars l k ts ((n, k) ∷ []) first rest
  more_vars : {a : ℕ} {n : Name} {ts us rest : List Mark} {first others : List Setting} {vars : List (Name × VarKind)} →
      IsVar l k ts n first (at a comma ∷ us) → IsVars l k us vars others rest → IsVars l k ts ((n, k) ∷ vars) (first ++ others) rest

abbrev pub type_sign : VarKind → Sign
type_sign Int = int_
type_sign Str = char_
type_sign Handle = file_

-- { decl }, where decl = "int" var { "," var } ";" | "char" var { "," var } ";" | "FILE" var { "," var } ";"
pub data IsDecls (l : Limits) : List Mark → List (Name × VarKind) → List Setting → List Mark → Type 0 where
  no_decl : {rest : List Mark} → IsDecls l rest [] [] rest
  a_decl : {a b : ℕ} {k : VarKind} {ts us rest : List Mark} {vars more : List (Name × VarKind)} {first others : List Setting} →
      IsVars l k ts vars first (at b semicolon ∷ us) → IsDecls l us more others rest →
      IsDecls l (at a (type_sign k) ∷ ts) (vars ++ more) (first ++ others) rest

-- { ident "=" expr ";" }
pub data IsStarts (l : Limits) : List Mark → List Setting → List Mark → Type 0 where
  no_start : {rest : List Mark} → IsStarts l rest [] rest
  a_start : {a b : ℕ} {n : Name} {ts us rest : List Mark} {e : Term} {first : List Setting} →
      IsExpr l 0 ts e (at b semicolon ∷ us) → IsStarts l us first rest → IsStarts l (called n ∷ at a equal ∷ ts) (assigned_to n e ∷ first) rest

-- [ "int" | "void" ]
pub data IsType : List Mark → List Mark → Type 0 where
  no_type : {rest : List Mark} → IsType rest rest
  int_type : {a : ℕ} {rest : List Mark} → IsType (at a int_ ∷ rest) rest
  void_type : {a : ℕ} {rest : List Mark} → IsType (at a void_ ∷ rest) rest

-- [ "void" ]
pub data IsVoid : List Mark → List Mark → Type 0 where
  no_void : {rest : List Mark} → IsVoid rest rest
  a_void : {a : ℕ} {rest : List Mark} → IsVoid (at a void_ ∷ rest) rest

-- [ "return" "0" ";" ]
pub data IsReturn : List Mark → List Mark → Type 0 where
  no_return : {rest : List Mark} → IsReturn rest rest
  a_return : {a b c : ℕ} {rest : List Mark} → IsReturn (at a return_ ∷ at b (number (pos 0)) ∷ at c semicolon ∷ rest) rest

-- program = [ "int" | "void" ] "main" "(" [ "void" ] ")" "{" { decl } { ident "=" expr ";" }
--           "GS_On" "(" ")" ";" { stmt } "GS_Off" "(" "0" ")" ";" [ "return" "0" ";" ] "}" end
pub data IsProgram (l : Limits) : List Mark → Program → Type 0 where
  the_program : {a b c d e f g h i j k m n o : ℕ} {ts us vs ws xs ys : List Mark} {vars : List (Name × VarKind)} {first others : List Setting} {body : Codes} →
      IsType ts (at a main_ ∷ at b open_paren ∷ us) →
      IsVoid us (at c close_paren ∷ at d open_brace ∷ vs) →
      IsDecls l vs vars first ws →
      IsStarts l ws others (at e gs_on ∷ at f open_paren ∷ at g close_paren ∷ at h semicolon ∷ xs) →
      IsStmts l xs body (at i gs_off ∷ at j open_paren ∷ at k (number (pos 0)) ∷ at m close_paren ∷ at n semicolon ∷ ys) →
      IsReturn ys (at o close_brace ∷ []) →
      IsProgram l ts (record { vars = vars; first = first ++ others; body = body; off = i })
