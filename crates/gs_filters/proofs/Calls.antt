-- What the calls of a link over built-in operations do.
use Rattle.std.proofs.Common.{◌≡◌, ap, sym, subst, refl, ◌∙◌, [], length, Result, Ok, Err, IfOk, OnOk}
use Rattle.std.proofs.Math.Logic.{∥∥₁_map}
use Rattle.gs_types.specs.declared.job.Job.{Job}
use Rattle.gs_types.specs.declared.memory.NoMemory.{NoMemory}
use Rattle.gs_site.specs.Link.{IsBusy, TellsStart, TellsEnd, Abandons}
use Rattle.gs_site.specs.Memory as mem
use Rattle.gs_site.specs.declared.link.Event.{Event}
use Rattle.gs_site.specs.declared.link.StartErr.{StartErr}
use Rattle.gs_filters.specs.Filters.{filters}
use Rattle.gs_filters.specs.Inside.{TakesJob, EndsFirst, LetsGo, FailuresAreCounted, FailuresAreLawful}
use Rattle.gs_filters.specs.Lawful.{IsLawful, failures_in}
use Rattle.gs_filters.specs.declared.inside.InsideLink.{InsideLink}
use Rattle.gs_filters.proofs.Insides.{after, picks_first, ends_first, left_told}

pub takes_job : (old new : InsideLink) (job : Job) (r : Result (Unit {0}) StartErr) → TellsStart
    mem.IsTold old.link new.link job r → OnOk r (mem.TakesJob old.link new.link job) → OnOk r
    (TakesJob old new job)
takes_job old new job (Ok done) told takes = record {
  waiting_is = takes.jobs;
  told_is = sym (told old.link.desk.told refl);
  count = takes.count;
}
takes_job old new job (Err e) told takes = tt

pub ends_one : (old new : InsideLink) (r : Result Event NoMemory) → length (mem.script_of old.link)
    ≡ 0 → IsBusy (mem.jobs_of old.link) → TellsEnd mem.IsTold old.link new.link r → IfOk r
    (mem.TakesTurn filters old.link new.link) → IfOk r (EndsFirst old new)
ends_one old new (Ok e) none busy told takes = record {
  first = picks_first old.link new.link e none busy takes;
  ends = ends_first old.link new.link e none busy takes;
  waiting_is = takes.jobs;
  told_is = sym (told old.link.desk.told refl) ∙ after e old.link.desk.told;
  count = takes.count;
}
ends_one old new (Err e) none busy told takes = tt

pub lets_go : (old new : InsideLink) → Abandons mem.IsTold mem.jobs_of mem.faults_of old.link
    new.link → mem.started_jobs new.link ≡ [] → mem.faults_of new.link ≡ mem.faults_of old.link →
    LetsGo old new
lets_go old new either none count = record {
  waiting_is = none;
  told_is = left_told old.link new.link either;
  count = count;
}

-- what the link tells is lawful
pub told_lawful : FailuresAreLawful
told_lawful l h told = ∥∥₁_map l.together (λ is. subst IsLawful (sym told) is.lawful)

-- and its failures are counted
pub told_counted : FailuresAreCounted
told_counted l h told = ∥∥₁_map l.together (λ is. is.count ∙ ap failures_in (sym told))
