-- What the texts of a run say.
use Rattle.std.proofs.Common.{◌≡◌, ℕ, List, Option, Some, None, sym, ◌∙◌, subst, arith}
use Rattle.gs_idl.specs.Interface.{Interface}
use Rattle.gs_idl.specs.Grammar as idl
use Rattle.gs_idl.proofs.Saying.{says_one}
use Rattle.gs_tree.specs.Program.{Program}
use Rattle.gs_parse.specs.Faulty.{IsText}
use Rattle.gs_parse.proofs.Texts.{one_program, says_or_fails}
use Rattle.gs_check.specs.Faults.{fault_of}
use Rattle.gs_run.specs.Texts.{HasInterface, HasProgram, HasBoth, IsWrong, interface, program, checks}
use Rattle.gs_run.specs.declared.kinds.TextKind.{TextKind}

some_is : {A : Type 0} (x y : A) → Some x ≡ Some y → x ≡ y
some_is x y e = cc

same_text : (file : Option (List ℕ)) (a b : List ℕ) → file ≡ Some a → file ≡ Some b → a ≡ b
same_text file a b e f = some_is a b (sym e ∙ f)

-- a file holds one interface
pub one_interface : (file : Option (List ℕ)) (i j : Interface) → HasInterface file i
    → HasInterface file j → i ≡ j
one_interface file i j a b = says_one a.text i j a.says (subst (λ (t : List ℕ). idl.Says t j)
    (same_text file b.text a.text b.there a.there) b.says)

-- and one program
pub one_tree : (file : Option (List ℕ)) (p q : Program) → HasProgram file p → HasProgram file q → p
    ≡ q
one_tree file p q a b = one_program a.text p q a.says (subst (λ (t : List ℕ). IsText t q)
    (same_text file b.text a.text b.there a.there) b.says)

right_or_wrong : (text : List ℕ) (i : Interface) (line : ℕ)
    (k : Rattle.gs_idl.specs.declared.token.IdlKind.IdlKind) → idl.Says text i
    → idl.IsFault text line k → ⊥
right_or_wrong text i line k says (idl.too_long bytes long) = let short = says.short in omega arith
right_or_wrong text i line k says (idl.wrong bytes marks at mark kind short reads there fault
    none) = none i says

-- texts that say an interface and a program that passes don't go wrong
pub not_wrong : (idl_file program_file : Option (List ℕ)) (i_name p_name name : List ℕ) (line : ℕ)
    (k : TextKind) (i : Interface) (p : Program) → HasBoth idl_file program_file i p
    → IsWrong idl_file program_file i_name p_name name line k → ⊥
not_wrong f g i_name p_name name line k i p both (interface text line1 k1 there fault) =
    right_or_wrong text i line k1 (subst (λ (t : List ℕ). idl.Says t i)
    (same_text f both.interface.text text both.interface.there there) both.interface.says) fault
not_wrong f g i_name p_name name line k i p both (program j text line1 k1 has there fault) =
    says_or_fails text p line k1 (subst (λ (t : List ℕ). IsText t p)
    (same_text g both.program.text text both.program.there there) both.program.says) fault
not_wrong f g i_name p_name name line k i p both (checks j q line1 k1 has tree fault) =
    let same_i = one_interface f j i has both.interface in
    let same_p = one_tree g q p tree both.program in
    let e : fault_of i.ops p ≡ Some (record { line = line; kind = k1 }) = subst (λ (x : Interface).
    fault_of x.ops p ≡ Some (record { line = line; kind = k1 })) same_i (subst (λ (x : Program).
    fault_of j.ops x ≡ Some (record { line = line; kind = k1 })) same_p fault) in
    let no : None ≡ Some (record { line = line; kind = k1 }) = sym both.passes ∙ e in
    absurd cc
