-- Each worker that a text lists has a slot.
use Rattle.std.proofs.Common.{◌≡◌, ◌<◌, ℕ, zero, suc, true, List, [], ◌∷◌, ◌++◌, subst, refl, ◌∙◌, arith, Some}
use Rattle.std.specs.Prelude.{slice_get}
use Rattle.gs_idl.specs.Interface.{Signature}
use Rattle.gs_broker.specs.Broker.{workers_in, slots_in, takes_in}
use Rattle.gs_broker.specs.Listed.{entries_in}
use Rattle.gs_broker.specs.Reading.{entry_of, entries_of}
use Rattle.gs_broker.specs.Text.{Entry, entry_by, LineSays, nothing, worker, LinesSay, no_line, line_more}
use Rattle.gs_broker.specs.Workers.{slots_at, takes_at}
use Rattle.gs_broker.specs.declared.workers.Worker.{Worker}
use Rattle.gs_core.specs.Laws.{ListedGoOn}

abbrev HaveSlots : List Entry → Type 0
HaveSlots es = (w : ℕ) (e : Entry) → slice_get es w ≡ Some e → 0 < e.slots

one_more : (es : List Entry) (x : Entry) → HaveSlots es → 0 < x.slots → HaveSlots (es ++ x ∷ [])
one_more [] x have some zero e at = let same : x ≡ e = cc in subst (λ (i : Entry). 0 < i.slots) same some
one_more [] x have some (suc w) e at = absurd cc
one_more (y ∷ es) x have some zero e at = have zero e at
one_more (y ∷ es) x have some (suc w) e at = one_more es x (λ v f is. have (suc v) f is) some w e at

line_has : (ops : List Signature) (line : List ℕ) (before after : List Entry) → LineSays ops line before after → HaveSlots before → HaveSlots after
line_has ops line before after (nothing b has) have = have
line_has ops line before after (worker b p slots right once few) have =
    one_more b (entry_by ops p slots) have (let some = right.digits.some in omega arith)

lines_have : (ops : List Signature) (lines : List (List ℕ)) (before after : List Entry) → LinesSay ops lines before after → HaveSlots before → HaveSlots after
lines_have ops lines before after (no_line b) have = have
lines_have ops lines before after (line_more line rest b middle a says more) have =
    lines_have ops rest middle a more (line_has ops line b middle says have)

worker_has : (ws : List Worker) (w op : ℕ) → HaveSlots (entries_of ws) → takes_at ws w op ≡ true → 0 < slots_at ws w
worker_has [] w op have takes = absurd cc
worker_has (x ∷ ws) zero op have takes = have zero (entry_of x) refl
worker_has (x ∷ ws) (suc w) op have takes = worker_has ws w op (λ v e is. have (suc v) e is) takes

pub listed_go_on : ListedGoOn
unfolding workers_in slots_in takes_in entries_in
listed_go_on s b ops bytes is says some =
    let have = lines_have ops says.lines [] (entries_of b.workers.list.items) says.said (λ w e at. absurd cc) in
    record {
      window = some;
      slots = λ w op takes. subst (λ (n : ℕ). 0 < n) (is.slots w) (worker_has b.workers.list.items w op have (is.takes w op ∙ takes));
    }
