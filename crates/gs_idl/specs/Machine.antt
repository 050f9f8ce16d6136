-- An interface text read sign by sign.
use Rattle.std.specs.Prelude.{ℕ, ◌+◌, Bool, true, false, nat_le, if◌then◌else◌, List, [], ◌∷◌, ◌++◌, length, Option, Some, None, option_map}
use Rattle.std.specs.List.{list_any}
use Rattle.std.specs.Str.{bytes_eq}
use lib.Chars.{codes}
use Rattle.gs_idl.specs.Interface.{Param, Signature, Interface}
use Rattle.gs_idl.specs.Word.{is_keyword}
use Rattle.gs_idl.specs.Lexicon.{IdlSign, word, symbol, finish}
use Rattle.gs_idl.specs.Grammar.{refused}
use Rattle.gs_idl.specs.declared.idl.Dir.{Dir}
use Rattle.gs_idl.specs.declared.idl.Dir.TheVariants.{Input, Both, Output}
use Rattle.gs_idl.specs.declared.idl.ParamKind.{ParamKind}
use Rattle.gs_idl.specs.declared.idl.ParamKind.TheVariants.{File, Int, Str}
use Rattle.gs_idl.specs.declared.token.Symbol.TheVariants.{OpenBrace, CloseBrace, OpenParen, CloseParen, Comma, Semicolon}
use Rattle.gs_idl.specs.declared.token.IdlKind.{IdlKind}
use Rattle.gs_idl.specs.declared.token.IdlKind.TheVariants.{TooMany, Twice, Reserved, BadCombination, Unexpected}

-- what was read: the interface's name, the operations, the name of the one that is begun, its
-- parameters, and the parts of the next
pub data State : Type 0 where
  start : State
  at_title : State
  at_brace : (x : List ℕ) → State
  at_ops : (x : List ℕ) (os : List Signature) → State
  at_name : (x : List ℕ) (os : List Signature) → State
  at_paren : (x : List ℕ) (os : List Signature) (f : List ℕ) → State
  at_dir : (x : List ℕ) (os : List Signature) (f : List ℕ) (ps : List Param) → State
  at_kind : (x : List ℕ) (os : List Signature) (f : List ℕ) (ps : List Param) (d : Dir) → State
  at_param : (x : List ℕ) (os : List Signature) (f : List ℕ) (ps : List Param) (d : Dir)
      (k : ParamKind) → State
  at_sep : (x : List ℕ) (os : List Signature) (f : List ℕ) (ps : List Param) → State
  at_semi : (x : List ℕ) (os : List Signature) (f : List ℕ) (ps : List Param) → State
  closed : (x : List ℕ) (os : List Signature) → State
  ended : (x : List ℕ) (os : List Signature) → State
  whole : (with_semicolon : Bool) (x : List ℕ) (os : List Signature) → State

abbrev pub param_by : Dir → ParamKind → List ℕ → Param
param_by d k w = record { dir = d; kind = k; name = w }

abbrev pub op_by : List ℕ → List Param → Signature
op_by f ps = record { name = f; params = ps }

abbrev pub dir_of : List ℕ → Option Dir
dir_of w = if bytes_eq w (codes "in") then Some Input else if bytes_eq w (codes "inout")
    then Some Both else if bytes_eq w (codes "out") then Some Output else None

abbrev pub kind_of : List ℕ → Option ParamKind
kind_of w = if bytes_eq w (codes "File") then Some File else if bytes_eq w (codes "int")
    then Some Int else if bytes_eq w (codes "string") then Some Str else None

abbrev pub where_is : List ℕ → List ℕ → State → Option State
where_is wanted w s = if bytes_eq w wanted then Some s else None

-- the state behind a sign, where it may stand
unfoldable pub step : State → IdlSign → Option State
step start (word w) = where_is (codes "interface") w at_title
step at_title (word w) = Some (at_brace w)
step (at_brace x) (symbol OpenBrace) = Some (at_ops x [])
step (at_ops x os) (word w) = where_is (codes "void") w (at_name x os)
step (at_ops x (o ∷ os)) (symbol CloseBrace) = Some (closed x (o ∷ os))
step (at_name x os) (word w) = Some (at_paren x os w)
step (at_paren x os f) (symbol OpenParen) = Some (at_dir x os f [])
step (at_dir x os f ps) (word w) = option_map (λ d. at_kind x os f ps d) (dir_of w)
step (at_kind x os f ps d) (word w) = option_map (λ k. at_param x os f ps d k) (kind_of w)
step (at_param x os f ps d k) (word w) = Some (at_sep x os f (ps ++ param_by d k w ∷ []))
step (at_sep x os f ps) (symbol Comma) = Some (at_dir x os f ps)
step (at_sep x os f ps) (symbol CloseParen) = Some (at_semi x os f ps)
step (at_semi x os f ps) (symbol Semicolon) = Some (at_ops x (os ++ op_by f ps ∷ []))
step (closed x os) (symbol Semicolon) = Some (ended x os)
step (closed x os) finish = Some (whole false x os)
step (ended x os) finish = Some (whole true x os)
step _ _ = None

abbrev pub has_op : List ℕ → List Signature → Bool
has_op w os = list_any (λ o. bytes_eq w o.name) os

abbrev pub has_param : List ℕ → List Param → Bool
has_param w ps = list_any (λ p. bytes_eq w p.name) ps

abbrev pub name_rule : List Signature → List ℕ → Option IdlKind
name_rule os w = if nat_le 64 (length os) then Some TooMany else if has_op w os then Some Twice
    else if is_keyword w then Some Reserved else None

abbrev pub is_clash : Dir → ParamKind → Bool
is_clash Both Int = true
is_clash Both Str = true
is_clash _ _ = false

abbrev pub many_rule : List Param → Option IdlKind
many_rule ps = if nat_le 16 (length ps) then Some TooMany else None

abbrev pub clash_rule : Dir → Option ParamKind → Option IdlKind
clash_rule d None = None
clash_rule d (Some k) = if is_clash d k then Some BadCombination else None

abbrev pub param_rule : List Param → List ℕ → Option IdlKind
param_rule ps w = if has_param w ps then Some Twice else None

-- the rule that a sign breaks which may stand in a state
unfoldable pub broken : State → IdlSign → Option IdlKind
broken (at_name x os) (word w) = name_rule os w
broken (at_dir x os f ps) (word w) = many_rule ps
broken (at_kind x os f ps d) (word w) = clash_rule d (kind_of w)
broken (at_param x os f ps d k) (word w) = param_rule ps w
broken _ _ = None

pub data Verdict : Type 0 where
  refuse : IdlKind → Verdict
  go : State → Verdict

abbrev pub unless : Option IdlKind → Verdict → Verdict
unless None v = v
unless (Some kind) v = refuse kind

abbrev pub stepped : State → IdlSign → Option State → Verdict
stepped s g None = refuse (refused g)
stepped s g (Some t) = unless (broken s g) (go t)

abbrev pub judge : State → IdlSign → Verdict
judge s g = stepped s g (step s g)

pub data Fed : Type 0 where
  Text : Interface → Fed
  Fault : ℕ → IdlKind → Fed

-- the whole is read, or what follows says what it is
abbrev pub moved : State → Fed → Fed
moved (whole b x os) rest = Text (record { name = x; ops = os })
moved _ rest = rest

abbrev pub goes : Verdict → ℕ → (State → Fed) → Fed
goes (refuse kind) n next = Fault n kind
goes (go s) n next = moved s (next s)

-- what the rest of the signs is, from a state and a place on
unfoldable pub run : ℕ → State → List IdlSign → Fed
run n s [] = Fault n Unexpected
run n s (g ∷ gs) = goes (judge s g) n (λ t. run (n + 1) t gs)
