use Rattle.std.proofs.Common.{List, [], map, refl, sym, ap, ◌∙◌, subst}
use Rattle.gs_check.specs.Passing.{program_in, interface_in}
use Rattle.gs_tree.specs.declared.tree.Var.{Var}
use Rattle.gs_tree.specs.View.{var_of, program_of}
use Rattle.gs_main.specs.Talking.{Talking, Next, IsFree, StandsFor, given_by}
use Rattle.gs_main.specs.Seen.{first_state}
use Rattle.gs_main.specs.Shown.{talking}
use Rattle.gs_main.proofs.Asking.{begins}
use Rattle.gs_main.proofs.dialogue.Main.new.Goals as goal

pub returns-clause-begins : goal.returns-clause-begins
unfolding talking
returns-clause-begins c =
    begins c.args.idl_name c.args.program_name c.args.checked (program_of c.tree-tree.result.now) c.idl.result.now c.deref-2.result.now c.in_ok-orders.orders.list.items
    (record { at = c.in_ok-orders.orders.start; steps = c.args.fuel; work = c.in_ok-work.work }) c.args.fuel c.tree-tree.ensures.program c.idl.ensures
    (c.deref-2.ensures.value ∙ c.in_ok-names.ensures ∙ ap (λ (vs : List Var). map (λ v. v.0.text) (map var_of vs)) c.deref.ensures.value)
    c.in_ok-orders.ensures (c.in_ok-work.ensures.state ∙ ap (λ (vs : List Var). first_state (map var_of vs)) c.deref-3.ensures.value) c.in_ok-work.ensures.waits refl _ refl refl refl refl

pub returns-clause-stands : goal.returns-clause-stands
returns-clause-stands c =
    let t = given_by c.args.idl_name c.args.program_name (interface_in c.args.checked) (program_in c.args.checked) in
    subst (λ (n : Next). StandsFor n t c.args.fuel []) (sym (ap (λ (m : Talking). m.next) (returns-clause-begins c))) (λ more. refl)

pub returns-clause-free : goal.returns-clause-free
returns-clause-free c = subst (λ (n : Next). IsFree n) (sym (ap (λ (m : Talking). m.next) (returns-clause-begins c))) tt
