-- The printed form of an interface.
use Rattle.std.specs.Prelude.{ℕ, List, [], ◌∷◌, ◌++◌}
use lib.Chars.{codes}
use Rattle.gs_idl.specs.Interface.{Param, Signature, Interface}
use Rattle.gs_idl.specs.Grammar.{dir_word, kind_word}

-- as `in File a`
abbrev pub param_text : Param → List ℕ
param_text p = dir_word p.dir ++ codes " " ++ kind_word p.kind ++ codes " " ++ p.name

-- the parameters, with a comma and a blank before each but the first
abbrev pub more_text : List Param → List ℕ
more_text [] = []
more_text (p ∷ ps) = codes ", " ++ param_text p ++ more_text ps

abbrev pub params_text : List Param → List ℕ
params_text [] = []
params_text (p ∷ ps) = param_text p ++ more_text ps

-- one operation on a line, four blanks in
abbrev pub op_text : Signature → List ℕ
op_text o = codes "    void " ++ o.name ++ codes "(" ++ params_text o.params ++ codes ");\n"

abbrev pub ops_text : List Signature → List ℕ
ops_text [] = []
ops_text (o ∷ os) = op_text o ++ ops_text os

unfoldable pub printed : Interface → List ℕ
printed i = codes "interface " ++ i.name ++ codes " {\n" ++ ops_text i.ops ++ codes "};\n"
