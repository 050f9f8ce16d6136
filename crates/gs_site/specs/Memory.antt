-- What a link in memory holds and tells.
use Rattle.std.specs.Prelude.{◌≡◌, ℕ, Bool, true, List, [], ◌∷◌, ◌++◌, drop, Option, Some, None, refl}
use Rattle.std.proofs.Common.{sym, ◌∙◌}
use Rattle.gs_types.specs.Job.{Meaning, Gives}
use Rattle.gs_types.specs.Counts.{up}
use Rattle.gs_types.specs.History.{History}
use Rattle.gs_types.specs.declared.value.Value.{Value}
use Rattle.gs_types.specs.declared.job.Job.{Job}
use Rattle.gs_site.specs.declared.link.Event.{Event}
use Rattle.gs_site.specs.declared.link.Event.TheVariants.{Finished, Failed}
use Rattle.gs_site.specs.declared.turn.Turn.{Turn}
use Rattle.gs_site.specs.declared.memory.MemLink.{MemLink}
use Rattle.gs_site.specs.Link.{Flying, task_of}
use Rattle.gs_site.specs.Jobs.{job_at, without, picked}
use Rattle.gs_site.specs.Turns.{turn_now}

abbrev pub law_of : {L : Type 0} → MemLink L → L
law_of l = l.law

-- the turns that are left
abbrev pub script_of : {L : Type 0} → MemLink L → List Turn
script_of l = drop l.turn l.script.items

-- the jobs in flight, in the order of their starts
abbrev pub started_jobs : {L : Type 0} → MemLink L → List Job
started_jobs l = l.desk.jobs

abbrev pub jobs_of : {L : Type 0} → MemLink L → Flying
jobs_of l n = job_at l.desk.jobs n

abbrev pub faults_of : {L : Type 0} → MemLink L → ℕ
faults_of l = l.faults

-- the history is this one
abbrev pub IsTold : {L : Type 0} → MemLink L → History → Type 0
IsTold l h = h ≡ l.desk.told

-- there is one such history
pub told_one : (h g all : History) → h ≡ all → g ≡ all → h ≡ g
told_one h g all a b = a ∙ sym b

pub told_all : (all : History) → (g : History) × (g ≡ all)
told_all all = (all, refl)

-- how a job ends: with what the law gives for it, where the turn is well and that fits the job's
-- places, and else in a failure
abbrev pub EndsBy : Meaning → Bool → Job → Event → Type 0
EndsBy law well job (Finished n outs) = (well ≡ true) × Gives law job.op job.args outs
EndsBy law well job (Failed n) = (outs : List Value) → well ≡ true → Gives law job.op job.args outs
    → ⊥

-- what the law gives for a job, where that fits the job's places, or none
abbrev pub MayGive : Meaning → Job → Option (List Value) → Type 0
MayGive law job (Some outs) = Gives law job.op job.args outs
MayGive law job None = (outs : List Value) → Gives law job.op job.args outs → ⊥

-- the count of faults after an end
abbrev pub counted : ℕ → Event → ℕ
counted faults (Finished n outs) = faults
counted faults (Failed n) = up faults

-- a job was taken: it is the last of those in flight, and script and count stay
pub record TakesJob {L : Type 0} (old new : MemLink L) (job : Job) : Type 0 where
  pub jobs : started_jobs new ≡ started_jobs old ++ job ∷ []
  pub script : script_of new ≡ script_of old
  pub count : faults_of new ≡ faults_of old

-- the first turn of the script was taken: the job that it picks ended as it says and as the law
-- says
pub record TakesTurn {L : Type 0} (law : Meaning) (old new : MemLink L) (e : Event) : Type 0 where
  pub picks : task_of e ≡ picked (started_jobs old) (turn_now (script_of old)).pick
  pub ends : (job : Job) → jobs_of old (task_of e) ≡ Some job
      → EndsBy law (turn_now (script_of old)).well job e
  pub jobs : started_jobs new ≡ without (task_of e) (started_jobs old)
  pub script : script_of new ≡ drop 1 (script_of old)
  pub count : faults_of new ≡ counted (faults_of old) e
