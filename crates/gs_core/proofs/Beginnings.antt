-- Before the first question.
use Rattle.std.proofs.Common.{◌≡◌, ℕ, refl, sym, ◌∙◌, Option, Some, None, IsSome}
use Rattle.gs_broker.specs.declared.broker.Broker.{Broker}
use Rattle.gs_types.specs.History.{History, worker_in}
use Rattle.gs_queue.specs.Queue.{BeginsWith}
use Rattle.gs_queue.specs.declared.queue.Queue.{Queue}
use Rattle.gs_talk.specs.Talk.{dialogue}
use Rattle.gs_talk.specs.Seq.{seq}
use Rattle.gs_history.specs.Setup.{Setup, rest_at, count_at}
use Rattle.gs_history.specs.Notes.{AreNoted}
use Rattle.gs_tables.specs.Holds.{Holds}
use Rattle.gs_tables.specs.declared.tables.Tables.{Tables}
use Rattle.gs_works.specs.Works.{IsBrokerOf}
use Rattle.gs_works.proofs.Standing.{beginning_works}
use Rattle.gs_works.proofs.Listing.{beginning_lists}
use Rattle.gs_core.specs.Core.{Bears}

pub none_called_yet : (s : Setup) → 0 ≡ count_at s 0
unfolding seq
none_called_yet s = refl

pub first_rest : (s : Setup) → dialogue s.run.texts s.run.fuel ≡ rest_at s 0
unfolding seq
first_rest s = refl

not_flying : (o : Option ℕ) → None ≡ o → IsSome o → ⊥
not_flying None e is = absurd cc
not_flying (Some w) e is = absurd cc

pub bears_first : (t : Tables) (b : Broker) (q : Queue) (s : Setup) (h : History) → Holds t s 0 h → BeginsWith b q → IsBrokerOf s b → AreNoted s s.notes h → Bears t q s 0 h
bears_first t b q s h holds begins is noted =
    let works = beginning_works s h b q begins is noted in
    record {
      tables = holds;
      works = works;
      lists = beginning_lists s h b q begins;
      tasks = begins.tasks ∙ none_called_yet s;
      flown = λ n fly. absurd (not_flying (worker_in h n) (sym (begins.jobs n) ∙ works.jobs n) fly);
    }
