use Rattle.std.proofs.Common.{◌≡◌, ◌∷◌, ◌++◌, [], ℕ, List, subst, sym, true}
use Rattle.gs_names.specs.Table.{names_in}
use Rattle.gs_talk.specs.declared.question.CallArg.{CallArg}
use Rattle.gs_talk.specs.declared.question.CallArg.TheVariants.{File}
use Rattle.gs_tables.specs.Marks.{with_names, names_one, AreNumbers}
use Rattle.gs_tables.proofs.Numbering.{numbers_stay, numbers_then}
use Rattle.gs_tables.proofs.places.number_one.Goals as goal

pub returns-in_ok-push-in-File-clause-numbers : goal.returns-in_ok-push-in-File-clause-numbers
returns-in_ok-push-in-File-clause-numbers c = λ names are.
    let number = c.in_ok-i-in-File.ensures in
    let old = subst (λ (l : List (List ℕ)). AreNumbers l c.args.numbers.now names) (sym number.names) (numbers_stay (c.in-File.name ∷ []) (names_in c.args.table.now) c.args.numbers.now names are) in
    let all = numbers_then (names_in c.number.new.table) c.args.numbers.now (c.in_ok-i-in-File.i ∷ []) names (c.in-File.name ∷ []) old number.number in
    let items = subst (λ (l : List ℕ). AreNumbers (names_in c.number.new.table) l (names ++ c.in-File.name ∷ [])) (sym c.in_ok-push-in-File.ensures.ok) all in
    subst (λ (a : CallArg). AreNumbers (names_in c.number.new.table) c.push.new.self (names ++ names_one c.args.taken a)) (sym c.in-File.is)
    (subst (λ t. AreNumbers (names_in c.number.new.table) c.push.new.self (names ++ names_one t (File c.in-File.name))) (sym c.if-taken.true) items)
