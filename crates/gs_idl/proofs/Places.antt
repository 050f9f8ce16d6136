-- Operations by their names, and by their places.
use Rattle.std.proofs.Common.{◌≡◌, ℕ, suc, ◌+◌, ◌<◌, ◌≤◌, Bool, true, false, List, ◌∷◌, length, drop, map, get_or, Option, Some, None, refl, sym, ap, ◌∙◌, arith, option_map}
use Rattle.std.specs.Prelude.{if◌then◌else◌}
use Rattle.std.specs.Str.{bytes_eq}
use Rattle.std.proofs.lemmas.List.{drop_more, drop_all}
use Rattle.gs_idl.specs.Interface.{op_place}
use Rattle.gs_idl.specs.Token.{further}
use Rattle.gs_idl.specs.View.{op_of}
use Rattle.gs_idl.specs.declared.idl.Operation.{Operation}

further_more : (i : ℕ) (o : Option ℕ) → further i (option_map suc o) ≡ further (i + 1) o
further_more i None = refl
further_more i (Some n) = ap Some (let e : i + suc n ≡ (i + 1) + n = omega arith in e)

from_here : (name : List ℕ) (ops : List Operation) (i : ℕ) (op : Operation) → i < length ops → op ≡ get_or ops i op
    → op_place (map op_of (drop i ops)) name ≡ (if bytes_eq op.name.items name then Some 0 else option_map suc (op_place (map op_of (drop (i + 1) ops)) name))
from_here name ops i op lt is =
    ap (λ (os : List Operation). op_place (map op_of os) name) (drop_more ops i op lt)
    ∙ ap (λ (o : Operation). op_place (map op_of (o ∷ drop (i + 1) ops)) name) (sym is)

-- the operation at a place has the name
pub place_found : (name : List ℕ) (ops : List Operation) (i : ℕ) (op : Operation) → i < length ops → op ≡ get_or ops i op → bytes_eq op.name.items name ≡ true
    → op_place (map op_of ops) name ≡ further i (op_place (map op_of (drop i ops)) name) → Some i ≡ op_place (map op_of ops) name
place_found name ops i op lt is same before =
    let here : op_place (map op_of (drop i ops)) name ≡ Some 0 = from_here name ops i op lt is ∙ ap (λ (b : Bool). if b then Some 0 else option_map suc (op_place (map op_of (drop (i + 1) ops)) name)) same in
    let at : i ≡ i + 0 = omega arith in
    ap Some at ∙ sym (before ∙ ap (further i) here)

-- the operation at a place has another name
pub place_later : (name : List ℕ) (ops : List Operation) (i : ℕ) (op : Operation) → i < length ops → op ≡ get_or ops i op → bytes_eq op.name.items name ≡ false
    → op_place (map op_of ops) name ≡ further i (op_place (map op_of (drop i ops)) name) → op_place (map op_of ops) name ≡ further (i + 1) (op_place (map op_of (drop (i + 1) ops)) name)
place_later name ops i op lt is other before =
    let rest = op_place (map op_of (drop (i + 1) ops)) name in
    let here : op_place (map op_of (drop i ops)) name ≡ option_map suc rest = from_here name ops i op lt is ∙ ap (λ (b : Bool). if b then Some 0 else option_map suc rest) other in
    before ∙ ap (further i) here ∙ further_more i rest

-- none of them has the name
pub place_missing : (name : List ℕ) (ops : List Operation) (i : ℕ) → length ops ≤ i
    → op_place (map op_of ops) name ≡ further i (op_place (map op_of (drop i ops)) name) → None ≡ op_place (map op_of ops) name
place_missing name ops i past before = sym (before ∙ ap (λ (os : List Operation). further i (op_place (map op_of os) name)) (drop_all i ops past))
