-- What a core stands for, through an event that finishes no task.
use Rattle.std.proofs.Common.{◌≡◌, ℕ, zero, suc, refl, sym, ap, ◌∙◌, subst, ◌∷◌, arith, Option, is_some}
use Rattle.std.specs.Prelude.{List, option_map}
use Rattle.gs_types.specs.declared.value.Value.{Value}
use Rattle.gs_types.specs.declared.note.Version.{Version}
use Rattle.gs_types.specs.History.{LinkEvent, History, outs_in}
use Rattle.gs_broker.specs.Listed.{program_in}
use Rattle.gs_broker.specs.declared.workers.Workers.{Workers}
use Rattle.gs_queue.specs.Queue.{workers_of}
use Rattle.gs_queue.specs.declared.queue.Queue.{Queue}
use Rattle.gs_main.specs.Talking.{Talking}
use Rattle.gs_talk.specs.Seq.{Task}
use Rattle.gs_history.specs.Setup.{Setup, count_at}
use Rattle.gs_history.specs.Losses.{Loss, TaskLost, WorkersLost, IsLoss}
use Rattle.gs_history.specs.Frontier.{one_unless, unfinished}
use Rattle.gs_history.specs.Good.{Good}
use Rattle.gs_history.proofs.Events.{within_more}
use Rattle.gs_works.specs.Losing.{IsOfCall}
use Rattle.gs_works.proofs.Losing.{loss_stays}
use Rattle.gs_tables.specs.Outs.{outs_noted}
use Rattle.gs_tables.specs.Holds.{IsAhead, HasRow, Holds}
use Rattle.gs_tables.specs.declared.row.Row.{Row}
use Rattle.gs_tables.specs.declared.tables.Tables.{Tables}
use Rattle.gs_core.specs.GivenUp.{IsLost}
use Rattle.gs_core.specs.Core.{IsMadeFor}
use Rattle.gs_core.specs.declared.losing.Lost.{Lost}
use Rattle.gs_core.specs.declared.losing.Lost.TheVariants as lost

-- the same outputs are there
abbrev pub SameOuts : History → History → Type 0
SameOuts a b = (n : ℕ) → outs_in b n ≡ outs_in a n

unfinished_same : (a b : History) (n : ℕ) → SameOuts a b → unfinished b n ≡ unfinished a n
unfinished_same a b zero same = refl
unfinished_same a b (suc n) same =
    let before = unfinished_same a b n same in
    let here = ap one_unless (same (suc n)) in omega arith

row_same : (rows : List Row) (a b : History) (n : ℕ) (t : Task) (reads : List (Option Version)) → SameOuts a b → HasRow rows a n t reads → HasRow rows b n t reads
row_same rows a b n t reads same has = record {
  row = has.row;
  at = has.at;
  is = record {
    op = has.is.op;
    called = has.is.called;
    read = has.is.read;
    kept = has.is.kept;
    outs = has.is.outs ∙ sym (ap (λ (o : Option (List Value)). option_map (outs_noted 1 t.params) o) (same n));
  };
}

-- the tables stand for a history of the same outputs
pub holds_same : (t : Tables) (s : Setup) (k : ℕ) (a b : History) → SameOuts a b → Good s b → Holds t s k a → Holds t s k b
holds_same t s k a b same good holds = record {
  count = holds.count;
  rows = λ n task reads at_t at_r. row_same t.rows.items a b n task reads same (holds.rows n task reads at_t at_r);
  mains = holds.mains;
  looks = holds.looks;
  writes = holds.writes;
  names = holds.names;
  made = holds.made;
  graph = record {
    count = holds.graph.count;
    done = λ n first last. holds.graph.done n first last ∙ sym (ap is_some (same n));
    needs = holds.graph.needs;
  };
  unfinished_is = holds.unfinished_is ∙ sym (unfinished_same a b (count_at s k) same);
  window = holds.window;
  notes = holds.notes;
  ahead = λ n lt. subst (IsAhead s n) (sym (same n)) (holds.ahead n lt);
  within = within_more s a b (λ n is. ap is_some (same n) ∙ is) k holds.within;
  good = good;
  fit = holds.fit;
  rules = holds.rules;
  known = holds.known;
}

-- the workers stay
pub made_same : (m : Talking) (old new : Queue) (s : Setup) → workers_of new ≡ workers_of old → IsMadeFor m old s → IsMadeFor m new s
made_same m old new s same made = record {
  texts = made.texts;
  operations = made.operations;
  programs = λ w. ap (λ (x : Workers). program_in x w) same ∙ made.programs w;
  small = made.small;
}

-- what was given up stays so
pub lost_more : (l : Lost) (s : Setup) (k : ℕ) (a b : History) → ((x : Loss) → IsLoss s a x → IsLoss s b x) → IsLost l s k a → IsLost l s k b
lost_more (lost.Task n) s k a b more is = (more (TaskLost n) is.0, is.1)
lost_more (lost.Workers n) s k a b more is = (more (WorkersLost n) is.0, is.1)
lost_more (lost.Misfit index) s k a b more is = is

pub lost_after : (l : Lost) (s : Setup) (k : ℕ) (e : LinkEvent) (h : History) → IsOfCall e → IsLost l s k h → IsLost l s k (e ∷ h)
lost_after l s k e h of is = lost_more l s k h (e ∷ h) (λ x loss. loss_stays s e h x of loss) is
