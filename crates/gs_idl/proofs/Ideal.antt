-- How each state may go on to the end, and that it breaks no rule before its place.
use Rattle.std.proofs.Common.{◌≡◌, ◌≢◌, ℕ, ◌+◌, ◌*◌, ◌<◌, ◌≤◌, Bool, true, false, List, [], ◌∷◌, ◌++◌, length, refl, arith, length-append, inl, inr}
use lib.Chars.{codes}
use Rattle.gs_idl.specs.Interface.{Param, Signature, Interface}
use Rattle.gs_idl.specs.Lexicon.{IdlSign, word, symbol, finish}
use Rattle.gs_idl.specs.Grammar.{dir_word, kind_word, params_signs, Breaks}
use Rattle.gs_idl.specs.declared.idl.Dir.{Dir}
use Rattle.gs_idl.specs.declared.idl.Dir.TheVariants.{Input, Both}
use Rattle.gs_idl.specs.declared.idl.ParamKind.{ParamKind}
use Rattle.gs_idl.specs.declared.idl.ParamKind.TheVariants.{File}
use Rattle.gs_idl.specs.declared.token.Symbol.TheVariants.{OpenParen, Comma}
use Rattle.gs_idl.specs.declared.token.IdlKind.{IdlKind}
use Rattle.gs_idl.specs.Machine.{State, start, at_title, at_brace, at_ops, at_name, at_paren, at_dir, at_kind, at_param, at_sep, at_semi, closed, ended, whole, param_by, op_by}
use Rattle.gs_idl.proofs.Transitions.{Next, to_title, to_brace, to_ops, to_name, to_closed, to_paren, to_dir, to_kind, to_param, to_sep, to_semi, to_next, to_whole, to_end, Path, here, goes}
use Rattle.gs_idl.proofs.Rules.{size_of, clean_none, clean_sound}
use Rattle.gs_idl.proofs.LastRules.{last_breaks, none_read, name_read, params_read, some_read}
use Rattle.gs_idl.proofs.SoFar.{base, begun, lead, so_far}
use Rattle.gs_idl.proofs.Clean.{Clean}

abbrev pub filled : Dir → ParamKind → Param
filled d k = param_by d k []

abbrev pub fill : Param
fill = filled Input File

-- the operations of a text that goes on from a state
abbrev pub ideal_ops : State → List Signature
ideal_ops start = op_by [] (fill ∷ []) ∷ []
ideal_ops at_title = op_by [] (fill ∷ []) ∷ []
ideal_ops (at_brace x) = op_by [] (fill ∷ []) ∷ []
ideal_ops (at_ops x os) = os ++ op_by [] (fill ∷ []) ∷ []
ideal_ops (at_name x os) = os ++ op_by [] (fill ∷ []) ∷ []
ideal_ops (at_paren x os f) = os ++ op_by f (fill ∷ []) ∷ []
ideal_ops (at_dir x os f ps) = os ++ op_by f (ps ++ fill ∷ []) ∷ []
ideal_ops (at_kind x os f ps d) = os ++ op_by f (ps ++ filled d File ∷ []) ∷ []
ideal_ops (at_param x os f ps d k) = os ++ op_by f (ps ++ filled d k ∷ []) ∷ []
ideal_ops (at_sep x os f ps) = os ++ op_by f ps ∷ []
ideal_ops (at_semi x os f ps) = os ++ op_by f ps ∷ []
ideal_ops (closed x os) = os
ideal_ops (ended x os) = os
ideal_ops (whole b x os) = os

abbrev pub ideal_name : State → List ℕ
ideal_name start = []
ideal_name at_title = []
ideal_name (at_brace x) = x
ideal_name (at_ops x os) = x
ideal_name (at_name x os) = x
ideal_name (at_paren x os f) = x
ideal_name (at_dir x os f ps) = x
ideal_name (at_kind x os f ps d) = x
ideal_name (at_param x os f ps d k) = x
ideal_name (at_sep x os f ps) = x
ideal_name (at_semi x os f ps) = x
ideal_name (closed x os) = x
ideal_name (ended x os) = x
ideal_name (whole b x os) = x

abbrev pub ideal : State → Interface
ideal s = record { name = ideal_name s; ops = ideal_ops s }

abbrev Reaches : State → List ℕ → List Signature → Type 0
Reaches s x os = (gs : List IdlSign) × (b : Bool) × Path s gs (whole b x os)

by : (s t : State) (g : IdlSign) (x : List ℕ) (os : List Signature) → Next s g t → Reaches t x os → Reaches s x os
by s t g x os n r = (g ∷ r.0, r.1, goes s t (whole r.1 x os) g r.0 n r.2)

from_closed : (x : List ℕ) (os : List Signature) → Reaches (closed x os) x os
from_closed x os = (finish ∷ [], false, goes _ _ _ _ _ (to_whole x os) (here (whole false x os)))

from_ops : (x : List ℕ) (os : List Signature) → 1 ≤ length os → Reaches (at_ops x os) x os
from_ops x [] h = absurd (omega arith)
from_ops x (o ∷ os) h = by _ _ _ x (o ∷ os) (to_closed x o os) (from_closed x (o ∷ os))

from_semi : (x : List ℕ) (os : List Signature) (f : List ℕ) (ps : List Param) → Reaches (at_semi x os f ps) x (os ++ op_by f ps ∷ [])
from_semi x os f ps = by _ _ _ x (os ++ op_by f ps ∷ []) (to_next x os f ps) (from_ops x (os ++ op_by f ps ∷ []) (omega (arith, length-append os (op_by f ps ∷ []))))

from_sep : (x : List ℕ) (os : List Signature) (f : List ℕ) (ps : List Param) → Reaches (at_sep x os f ps) x (os ++ op_by f ps ∷ [])
from_sep x os f ps = by _ _ _ x (os ++ op_by f ps ∷ []) (to_semi x os f ps) (from_semi x os f ps)

from_param : (x : List ℕ) (os : List Signature) (f : List ℕ) (ps : List Param) (d : Dir) (k : ParamKind) → Reaches (at_param x os f ps d k) x (os ++ op_by f (ps ++ filled d k ∷ []) ∷ [])
from_param x os f ps d k = by _ _ _ x _ (to_sep x os f ps d k []) (from_sep x os f (ps ++ filled d k ∷ []))

from_kind : (x : List ℕ) (os : List Signature) (f : List ℕ) (ps : List Param) (d : Dir) → Reaches (at_kind x os f ps d) x (os ++ op_by f (ps ++ filled d File ∷ []) ∷ [])
from_kind x os f ps d = by _ _ _ x _ (to_param x os f ps d File) (from_param x os f ps d File)

from_dir : (x : List ℕ) (os : List Signature) (f : List ℕ) (ps : List Param) → Reaches (at_dir x os f ps) x (os ++ op_by f (ps ++ fill ∷ []) ∷ [])
from_dir x os f ps = by _ _ _ x _ (to_kind x os f ps Input) (from_kind x os f ps Input)

from_paren : (x : List ℕ) (os : List Signature) (f : List ℕ) → Reaches (at_paren x os f) x (os ++ op_by f (fill ∷ []) ∷ [])
from_paren x os f = by _ _ _ x _ (to_dir x os f) (from_dir x os f [])

from_name : (x : List ℕ) (os : List Signature) → Reaches (at_name x os) x (os ++ op_by [] (fill ∷ []) ∷ [])
from_name x os = by _ _ _ x _ (to_paren x os []) (from_paren x os [])

from_begun : (x : List ℕ) (os : List Signature) → Reaches (at_ops x os) x (os ++ op_by [] (fill ∷ []) ∷ [])
from_begun x os = by _ _ _ x _ (to_name x os) (from_name x os)

from_brace : (x : List ℕ) → Reaches (at_brace x) x (op_by [] (fill ∷ []) ∷ [])
from_brace x = by _ _ _ x _ (to_ops x) (from_begun x [])

from_title : Reaches at_title [] (op_by [] (fill ∷ []) ∷ [])
from_title = by _ _ _ [] _ (to_brace []) (from_brace [])

-- each state may go on to the end
pub reaches : (s : State) → Reaches s (ideal_name s) (ideal_ops s)
reaches start = by _ _ _ [] _ to_title from_title
reaches at_title = from_title
reaches (at_brace x) = from_brace x
reaches (at_ops x os) = from_begun x os
reaches (at_name x os) = from_name x os
reaches (at_paren x os f) = from_paren x os f
reaches (at_dir x os f ps) = from_dir x os f ps
reaches (at_kind x os f ps d) = from_kind x os f ps d
reaches (at_param x os f ps d k) = from_param x os f ps d k
reaches (at_sep x os f ps) = from_sep x os f ps
reaches (at_semi x os f ps) = from_semi x os f ps
reaches (closed x os) = from_closed x os
reaches (ended x os) = (finish ∷ [], true, goes _ _ _ _ _ (to_end x os) (here (whole true x os)))
reaches (whole b x os) = ([], b, here (whole b x os))

-- ---- how much was read

params_size : (s : IdlSign) (ps : List Param) → length (params_signs s ps) ≡ 4 * length ps
params_size s [] = omega arith
params_size s (p ∷ ps) = omega (arith, params_size (symbol Comma) ps)

base_size : (x : List ℕ) (os : List Signature) (rest : List IdlSign) → length (base x os ++ rest) ≡ 3 + size_of os + length rest
base_size x os rest = omega (arith, length-append (base x os) rest)

begun_size : (f : List ℕ) (ps : List Param) → length (begun f ps) ≡ 2 + 4 * length ps
begun_size f ps = omega (arith, params_size (symbol OpenParen) ps)

begun_more : (x : List ℕ) (os : List Signature) (f : List ℕ) (ps : List Param) (rest : List IdlSign) → length (base x os ++ (begun f ps ++ rest)) ≡ 5 + size_of os + 4 * length ps + length rest
begun_more x os f ps rest = omega (arith, base_size x os (begun f ps ++ rest), length-append (begun f ps) rest, begun_size f ps)

-- how many signs lead to a state, at most
abbrev pub Size : State → ℕ → Type 0
Size start n = n ≡ 0
Size at_title n = n ≡ 1
Size (at_brace x) n = n ≡ 2
Size (at_ops x os) n = n ≡ 3 + size_of os
Size (at_name x os) n = n ≡ 4 + size_of os
Size (at_paren x os f) n = n ≡ 5 + size_of os
Size (at_dir x os f ps) n = n ≡ 6 + size_of os + 4 * length ps
Size (at_kind x os f ps d) n = n ≡ 7 + size_of os + 4 * length ps
Size (at_param x os f ps d k) n = n ≡ 8 + size_of os + 4 * length ps
Size _ n = Unit {0}

pub size : (s : State) → Size s (length (so_far s))
unfolding so_far
size start = omega arith
size at_title = omega arith
size (at_brace x) = omega arith
size (at_ops x os) = omega arith
size (at_name x os) = omega (arith, base_size x os (word (codes "void") ∷ []))
size (at_paren x os f) = omega (arith, base_size x os (word (codes "void") ∷ word f ∷ []))
size (at_dir x os f ps) = omega (arith, begun_more x os f ps (lead ps ∷ []))
size (at_kind x os f ps d) = omega (arith, begun_more x os f ps (lead ps ∷ word (dir_word d) ∷ []))
size (at_param x os f ps d k) = omega (arith, begun_more x os f ps (lead ps ∷ word (dir_word d) ∷ word (kind_word k) ∷ []))
size (at_sep x os f ps) = tt
size (at_semi x os f ps) = tt
size (closed x os) = tt
size (ended x os) = tt
size (whole b x os) = tt

-- ---- no rule is broken before a state's place

plain_file : (d : Dir) → d ≡ Both → File ≢ File → ⊥
plain_file d e n = n refl

pub right : (s : State) → Clean s → (n : ℕ) → Size s n → (j : ℕ) (e : IdlKind) → j < n → Breaks (ideal s) j e → ⊥
right start c n z j e lt b = none_read [] _ j e (last_breaks (ideal start) j e [] _ refl clean_none b) (omega arith)
right at_title c n z j e lt b = none_read [] _ j e (last_breaks (ideal at_title) j e [] _ refl clean_none b) (omega arith)
right (at_brace x) c n z j e lt b = none_read [] _ j e (last_breaks (ideal (at_brace x)) j e [] _ refl clean_none b) (omega arith)
right (at_ops x os) c n z j e lt b = none_read os _ j e (last_breaks (ideal (at_ops x os)) j e os _ refl c b) (omega arith)
right (at_name x os) c n z j e lt b = none_read os _ j e (last_breaks (ideal (at_name x os)) j e os _ refl c b) (omega arith)
right (at_paren x os f) c n z j e lt b = name_read os _ j e c.1 (last_breaks (ideal (at_paren x os f)) j e os _ refl c.0 b) (omega arith)
right (at_dir x os f ps) c n z j e lt b = some_read os (op_by f (ps ++ fill ∷ [])) j e ps fill c.1 c.2 refl (plain_file Input) (inr (omega arith)) (omega arith) (last_breaks (ideal (at_dir x os f ps)) j e os _ refl c.0 b)
right (at_kind x os f ps d) c n z j e lt b = some_read os (op_by f (ps ++ filled d File ∷ [])) j e ps (filled d File) c.1 c.2 refl (plain_file d) (inl c.3) (omega arith) (last_breaks (ideal (at_kind x os f ps d)) j e os _ refl c.0 b)
right (at_param x os f ps d k) c n z j e lt b = some_read os (op_by f (ps ++ filled d k ∷ [])) j e ps (filled d k) c.1 c.2 refl c.4 (inl c.3) (omega arith) (last_breaks (ideal (at_param x os f ps d k)) j e os _ refl c.0 b)
right (at_sep x os f ps) c n z j e lt b = params_read os (op_by f ps) j e c.1 c.2 (last_breaks (ideal (at_sep x os f ps)) j e os _ refl c.0 b)
right (at_semi x os f ps) c n z j e lt b = params_read os (op_by f ps) j e c.1 c.2 (last_breaks (ideal (at_semi x os f ps)) j e os _ refl c.0 b)
right (closed x os) c n z j e lt b = clean_sound (ideal (closed x os)) c j e b
right (ended x os) c n z j e lt b = clean_sound (ideal (ended x os)) c j e b
right (whole w x os) c n z j e lt b = clean_sound (ideal (whole w x os)) c j e b
