-- A start that is due is of the task's job.
use Rattle.std.proofs.Common.{◌≡◌, ℕ, ◌+◌, ◌≤◌, arith, List, ◌++◌, length, Some, refl, sym, ap, subst, ◌∙◌}
use Rattle.std.specs.Prelude.{map}
use Rattle.std.proofs.lemmas.List.{length-map}
use Rattle.gs_types.specs.Job.{Meaning}
use Rattle.gs_types.specs.History.{History}
use Rattle.gs_types.specs.declared.job.Arg.{Arg}
use Rattle.gs_types.specs.declared.job.Job.{Job}
use Rattle.gs_idl.specs.Interface.{Signature, name_at}
use Rattle.gs_disk.specs.Folder.{DiskState}
use Rattle.gs_site.specs.Link.{Flying}
use Rattle.gs_history.specs.Setup.{world_at}
use Rattle.gs_history.specs.Good.{IsDue}
use Rattle.gs_tables.specs.Table.{mains_in}
use Rattle.gs_core.specs.Stages.{ahead}
use Rattle.gs_core.specs.declared.machine.Start.{Start}
use Rattle.gs_engine.specs.Joined.{Course, Moment, Joined}
use Rattle.gs_engine.specs.Reading.{VersionsStand, AreGiven}
use Rattle.gs_engine.specs.Starting.{IsJobFor, HasStart, IsDueNow}
use Rattle.gs_engine.proofs.Values.{value_stands}

module _ {D K : Type 0} {state : D → DiskState} {tells : K → History → Type 0} {jobs : K → Flying}
    {law : K → Meaning} {c : Course} where
  -- what a version holds that is there, stands
  pub versions_stand : {at : Moment D K} {k : ℕ} {h : History}
      → (j : Joined state tells jobs law c at k h)
      → VersionsStand c.setup.run.files (world_at c.setup k) (h ++ c.noted) (state at.disk).folder
  unfolding mains_in
  versions_stand {at} {k} {h} j v bytes own there is =
      let closed : length (world_at c.setup k).closed
      ≤ length (mains_in at.core.tables) + ahead at.core.stage = few j in
      value_stands c.origin c.setup k (length (mains_in at.core.tables) + ahead at.core.stage)
      (h ++ c.noted) at.store.entries (state at.disk).folder v bytes c.run_is j.running.users
      j.running.are.dones j.recorded j.kept closed own there is
    where
      mains_few : (mains_in at.core.tables ≡ map length (world_at c.setup k).closed)
          → length (world_at c.setup k).closed
          ≤ length (mains_in at.core.tables) + ahead at.core.stage
      mains_few is =
          let a = ap length is in
          let b = length-map (world_at c.setup k).closed length in omega (arith, a, b)

      few : Joined state tells jobs law c at k h → length (world_at c.setup k).closed
          ≤ length (mains_in at.core.tables) + ahead at.core.stage
      few j = mains_few (j.stands.bears.tables.mains)

  -- the job of a start that is due, with what was read for it, is the task's
  pub start_due : {at : Moment D K} {k : ℕ} {h : History} → (start : Start) (got : List Arg)
      (job : Job) → Joined state tells jobs law c at k h → IsDueNow start c k h
      → AreGiven (state at.disk).folder start.args got → IsJobFor at.core start got job
      → HasStart job c k h
  start_due {at} {k} {h} start got job j due given made =
      let s = c.setup in
      let task = due.0 in
      let starts = due.2 in
      let args = starts.1 in
      let read : got ≡ args.0 = given s.run.files (world_at s k) (h ++ c.noted) args.0
      (versions_stand j) args.2 in
      let now : IsDue s (h ++ c.noted) job.n job.worker task =
      subst (λ (n : ℕ). IsDue s (h ++ c.noted) n job.worker task) (sym made.number)
      (subst (λ (w : ℕ). IsDue s (h ++ c.noted) start.n w task) (sym made.worker) due.1) in
      record {
        task = task;
        due = now;
        job_of = record {
          number = refl;
          worker = refl;
          program = sym (j.stands.made.programs job.worker)
              ∙ ap (λ (w : ℕ). Rattle.gs_broker.specs.Listed.program_in
              (Rattle.gs_queue.specs.Queue.workers_of at.core.queue) w) made.worker ∙ made.program;
          op = made.op
              ∙ ap (λ (ops : List Signature). name_at ops start.op) j.stands.made.operations
              ∙ ap (name_at s.run.texts.ops) starts.0;
          args = args.1 ∙ ap Some (sym read ∙ sym made.args_are);
        };
        goes_on = j.goes_on;
      }
