use Rattle.std.proofs.Common.{ℕ, List, Option, Some, sym, ◌∙◌, ap, subst, refl}
use Rattle.gs_disk.specs.Mem.{files_of, folder_of, Puts}
use Rattle.gs_disk.specs.Crash.{FillsRange}
use Rattle.gs_disk.proofs.Updates.{written, some_for, stands, absent}
use Rattle.gs_disk.proofs.files.fill.Goals as goal

pub returns-in-Some-clause-others : goal.returns-in-Some-clause-others
returns-in-Some-clause-others c = λ x other.
    (some_for c.args.files.now c.args.name.now c.in-Some.file.now (λ file. Puts c.args.name.now (Some c.fill_file.new.file.items) (folder_of (files_of c.args.files.now)) (folder_of (files_of (c.get_mut.follows.lender c.fill_file.new.file)))) c.in-Some.ensures.value
    (written c.args.files.now (c.get_mut.follows.lender c.fill_file.new.file) c.args.name.now c.in-Some.file.now c.fill_file.new.file (λ file. c.fill_file.new.file.items) c.in-Some.ensures.value ((c.get_mut.follows.holds c.fill_file.new.file).3) refl)).others x other

pub returns-in-Some-clause-here : goal.returns-in-Some-clause-here
returns-in-Some-clause-here c =
    let put = some_for c.args.files.now c.args.name.now c.in-Some.file.now (λ file. Puts c.args.name.now (Some c.fill_file.new.file.items) (folder_of (files_of c.args.files.now)) (folder_of (files_of (c.get_mut.follows.lender c.fill_file.new.file)))) c.in-Some.ensures.value
    (written c.args.files.now (c.get_mut.follows.lender c.fill_file.new.file) c.args.name.now c.in-Some.file.now c.fill_file.new.file (λ file. c.fill_file.new.file.items) c.in-Some.ensures.value ((c.get_mut.follows.holds c.fill_file.new.file).3) refl) in
    subst (λ (o : Option (List ℕ)). FillsRange c.args.at c.args.len c.args.b o (folder_of (files_of (c.get_mut.follows.lender c.fill_file.new.file)) c.args.name.now)) (sym (stands c.args.files.now c.args.name.now c.in-Some.file.now c.in-Some.ensures.value))
    (c.fill_file.new.file.items, put.here, record { long = c.fill_file.ensures.long; kept = c.fill_file.ensures.kept; filled = c.fill_file.ensures.filled })

pub returns-in-None-clause-here : goal.returns-in-None-clause-here
returns-in-None-clause-here c =
    let none = absent c.args.files.now c.args.name.now c.in-None.ensures.value in
    subst (λ (o : Option (List ℕ)). FillsRange c.args.at c.args.len c.args.b o (folder_of (files_of c.get_mut.follows.lender-at-none) c.args.name.now)) (sym none) (ap (λ m. folder_of (files_of m) c.args.name.now) c.get_mut.follows.holds-at-none ∙ none)
