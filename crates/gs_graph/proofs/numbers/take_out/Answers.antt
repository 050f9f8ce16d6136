use Rattle.std.proofs.Common.{◌≡◌, ◌∙◌, ℕ, List, true, sym, ap, subst, arith, inl, inr, Ok, Err}
use Rattle.std.specs.Prelude.{remove}
use Rattle.std.proofs.lemmas.Bool.{cases_lt}
use Rattle.std.proofs.lemmas.List.Sorted.{searched}
use Rattle.gs_graph.specs.Numbers.{rises, without}
use Rattle.gs_graph.proofs.Places.{rises_until, none_out, out_at}
use Rattle.gs_graph.proofs.numbers.take_out.Goals as goal

pub returns-in-Ok-clause-items : goal.returns-in-Ok-clause-items
returns-in-Ok-clause-items c =
    let n = c.args.n in
    let xs = c.deref.result.now in
    let rising : rises 0 c.requires.0 xs ≡ true = ap (rises 0 c.requires.0) c.deref.ensures.value ∙ c.requires.1 in
    let found = searched xs n (Ok c.in-Ok.place) c.in-Ok.ensures.position (rises_until 0 c.requires.0 xs rising) in
    c.remove.ensures.items
    ∙ subst (λ (ys : List ℕ). remove ys c.in-Ok.place ≡ without n ys) c.deref.ensures.value (out_at n 0 c.requires.0 xs c.in-Ok.place rising found.0 found.1)

pub returns-in_default-clause-items : goal.returns-in_default-clause-items
returns-in_default-clause-items c =
    let n = c.args.n in
    let xs = c.deref.result.now in
    let rising : rises 0 c.requires.0 xs ≡ true = ap (rises 0 c.requires.0) c.deref.ensures.value ∙ c.requires.1 in
    let found = searched xs n (Err c.in_default.field-0) c.in_default.ensures.position (rises_until 0 c.requires.0 xs rising) in
    subst (λ (ys : List ℕ). ys ≡ without n ys) c.deref.ensures.value
    (sym (none_out n xs (λ k lt s. elim (cases_lt k c.in_default.field-0) [
      | inl below ↦ let h = found.1 k below in absurd (omega arith)
      | inr above ↦ let h = found.2 k above lt in absurd (omega arith)
    ])))
