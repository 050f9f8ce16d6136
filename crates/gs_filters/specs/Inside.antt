-- A link that carries out built-in operations by itself.
use Rattle.std.specs.Prelude.{◌≡◌, ℕ, List, [], ◌∷◌, ◌++◌, slice_get, Some}
use Rattle.gs_types.specs.Job.{Gives}
use Rattle.gs_types.specs.History.{History, started}
use Rattle.gs_types.specs.declared.job.Job.{Job}
use Rattle.gs_site.specs.Desk.{after_abandon}
use Rattle.gs_site.specs.Jobs.{job_at, without, number_of}
use Rattle.gs_site.specs.Link.{Flying, task_of}
use Rattle.gs_site.specs.Memory as mem
use Rattle.gs_site.specs.Memory.{counted}
use Rattle.gs_site.specs.Past.{event_told}
use Rattle.gs_site.specs.declared.link.Event.{Event}
use Rattle.gs_site.specs.declared.link.Event.TheVariants.{Finished, Failed}
use Rattle.gs_filters.specs.Filters.{filters}
use Rattle.gs_filters.specs.Lawful.{GivesNone, IsLawful, failures_in}
use Rattle.gs_filters.specs.declared.filters.FilterLaw.{FilterLaw}
use Rattle.gs_filters.specs.declared.inside.InsideLink.{InsideLink}

abbrev pub law_of : InsideLink → FilterLaw
law_of l = mem.law_of l.link

-- the jobs in flight, in the order of their starts
abbrev pub waiting : InsideLink → List Job
waiting l = mem.started_jobs l.link

abbrev pub jobs_of : InsideLink → Flying
jobs_of l n = job_at (waiting l) n

abbrev pub faults_of : InsideLink → ℕ
faults_of l = mem.faults_of l.link

abbrev pub told : InsideLink → History
told l = l.link.desk.told

-- the history is this one
abbrev pub IsTold : InsideLink → History → Type 0
IsTold l h = h ≡ told l

-- nothing changed
pub record IsUnchanged (old new : InsideLink) : Type 0 where
  pub waiting_is : waiting new ≡ waiting old
  pub told_is : told new ≡ told old
  pub count : faults_of new ≡ faults_of old

-- a job was started: it is the last of those in flight
pub record TakesJob (old new : InsideLink) (job : Job) : Type 0 where
  pub waiting_is : waiting new ≡ waiting old ++ job ∷ []
  pub told_is : told new ≡ started job.n job.worker job ∷ told old
  pub count : faults_of new ≡ faults_of old

-- all jobs were let go
pub record LetsGo (old new : InsideLink) : Type 0 where
  pub waiting_is : waiting new ≡ []
  pub told_is : told new ≡ after_abandon (waiting old) (told old)
  pub count : faults_of new ≡ faults_of old

-- a job ends with the outputs that the law gives, where they fit the job's places, and else in a
-- failure
abbrev pub Ends : Job → Event → Type 0
Ends job (Finished n outs) = Gives filters job.op job.args outs
Ends job (Failed n) = GivesNone job

-- the job that was started first ended, and the count counts a failure
pub record EndsFirst (old new : InsideLink) (e : Event) : Type 0 where
  pub first : task_of e ≡ number_of (slice_get (waiting old) 0)
  pub ends : (job : Job) → slice_get (waiting old) 0 ≡ Some job → Ends job e
  pub waiting_is : waiting new ≡ without (task_of e) (waiting old)
  pub told_is : told new ≡ event_told e ∷ told old
  pub count : faults_of new ≡ counted (faults_of old) e

-- whatever is told, no start was refused, and each failure was that of a job to which the law gives
-- none
abbrev pub FailuresAreLawful : Type 0
FailuresAreLawful = (l : InsideLink) (h : History) → IsTold l h → ∥ IsLawful h ∥₁

-- and the count is that of the failures that are told
abbrev pub FailuresAreCounted : Type 0
FailuresAreCounted = (l : InsideLink) (h : History) → IsTold l h
    → ∥ faults_of l ≡ failures_in h ∥₁
