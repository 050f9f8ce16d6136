-- Texts that were read, and how they are judged.
use Rattle.std.proofs.Common.{◌≡◌, ℕ, List, Option, Some, refl, sym, subst, Ok, Err}
use Rattle.gs_idl.specs.Interface.{Interface}
use Rattle.gs_tree.specs.View.{program_of}
use Rattle.gs_tree.specs.declared.tree.Tree.{Tree}
use Rattle.gs_parse.specs.Faulty.{IsReadAs}
use Rattle.gs_parse.specs.declared.fault.ParseErr.TheVariants.{At}
use Rattle.gs_parse.specs.declared.fault.ParseKind.{ParseKind}
use Rattle.gs_check.specs.Faults.{fault_of}
use Rattle.gs_check.specs.declared.kind.CheckKind.{CheckKind}
use Rattle.gs_run.specs.Judging.{InterfaceOf, TreeOf, BothOf}
use Rattle.gs_run.specs.Texts.{HasInterface, HasProgram, IsWrong, interface, program, checks}
use Rattle.gs_run.specs.declared.kinds.TextKind.TheVariants as kind
use Rattle.gs_run.specs.declared.refusal.Refusal.{Refusal}
use Rattle.gs_run.specs.declared.refusal.Refusal.TheVariants.{NoText, BadText, Disk, Memory}

-- a program that was read
pub tree_read : (text : List ℕ) (tree : Tree) → IsReadAs text (Ok tree)
    → HasProgram (Some text) (program_of tree)
unfolding IsReadAs
tree_read text tree read = record { text = text; there = refl; says = read }

-- a program's fault
pub tree_fault : (name text : List ℕ) (line : ℕ) (k : ParseKind) (stop : Refusal)
    → stop ≡ BadText name line (kind.Program k) → IsReadAs text (Err (At line k))
    → TreeOf (Some text) name (Err stop)
unfolding IsReadAs
tree_fault name text line k stop e read = subst (λ (x : Refusal).
    TreeOf (Some text) name (Err x)) (sym e) (refl, (text, refl, read))

-- the interface goes wrong
pub both_interface : (i p : Option (List ℕ)) (i_name p_name : List ℕ) (stop : Refusal)
    → InterfaceOf i i_name (Err stop) → BothOf i p i_name p_name (Err stop)
both_interface i p i_name p_name (NoText n) h = absurd h
both_interface i p i_name p_name (BadText n line (kind.Idl k)) h = subst (λ (x : List ℕ).
    IsWrong i p i_name p_name x line (kind.Idl k)) (sym h.0) (interface h.1.0 line k h.1.1 h.1.2)
both_interface i p i_name p_name (BadText n line (kind.Program k)) h = absurd h.1
both_interface i p i_name p_name (BadText n line (kind.Check k)) h = absurd h.1
both_interface i p i_name p_name (BadText n line (kind.Durations k)) h = absurd h.1
both_interface i p i_name p_name (BadText n line (kind.Workers k)) h = absurd h.1
both_interface i p i_name p_name (BadText n line kind.NoWorker) h = absurd h.1
both_interface i p i_name p_name Disk h = absurd h
both_interface i p i_name p_name Memory h = tt

-- the program goes wrong
pub both_tree : (i p : Option (List ℕ)) (i_name p_name : List ℕ) (one : Interface) (stop : Refusal)
    → HasInterface i one → TreeOf p p_name (Err stop) → BothOf i p i_name p_name (Err stop)
both_tree i p i_name p_name one (NoText n) has h = absurd h
both_tree i p i_name p_name one (BadText n line (kind.Idl k)) has h = absurd h.1
both_tree i p i_name p_name one (BadText n line (kind.Program k)) has h = subst (λ (x : List ℕ).
    IsWrong i p i_name p_name x line (kind.Program k)) (sym h.0) (program one h.1.0 line k has h.1.1
    h.1.2)
both_tree i p i_name p_name one (BadText n line (kind.Check k)) has h = absurd h.1
both_tree i p i_name p_name one (BadText n line (kind.Durations k)) has h = absurd h.1
both_tree i p i_name p_name one (BadText n line (kind.Workers k)) has h = absurd h.1
both_tree i p i_name p_name one (BadText n line kind.NoWorker) has h = absurd h.1
both_tree i p i_name p_name one Disk has h = absurd h
both_tree i p i_name p_name one Memory has h = tt

-- a check finds a fault
pub both_checks : (i p : Option (List ℕ)) (i_name p_name : List ℕ) (one : Interface) (tree : Tree)
    (line : ℕ) (k : CheckKind) (stop : Refusal) → stop ≡ BadText p_name line (kind.Check k)
    → HasInterface i one → HasProgram p (program_of tree)
    → fault_of one.ops (program_of tree) ≡ Some (record { line = line; kind = k })
    → BothOf i p i_name p_name (Err stop)
both_checks i p i_name p_name one tree line k stop e has says fault = subst (λ (x : Refusal).
    BothOf i p i_name p_name (Err x)) (sym e) (checks one (program_of tree) line k has says fault)
