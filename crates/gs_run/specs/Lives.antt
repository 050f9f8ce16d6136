-- A life of a run: calls of `gs run` with the same texts, each over the disk as the call before left
-- it, or over what a crash within that call left.
use Rattle.std.specs.Prelude.{◌≡◌, ℕ, List, [], ◌∷◌, Result}
use Rattle.std.specs.Bool.{⊤}
use Rattle.gs_types.specs.Counts.{Rises}
use Rattle.gs_types.specs.History.{History}
use Rattle.gs_types.specs.Job.{Meaning}
use Rattle.gs_types.specs.declared.settings.Settings.{Settings}
use Rattle.gs_disk.specs.Folder.{DiskState}
use Rattle.gs_disk.specs.Moments.{EachNow}
use Rattle.gs_entries.specs.declared.entry.Entry.{Entry as Recorded}
use Rattle.gs_store.specs.Keeps.{HasEntries}
use Rattle.gs_life.specs.Lives.{IsNext, IsFirst}
use Rattle.gs_life.specs.Origin.{Origin}
use Rattle.gs_run.specs.Course.{IsRunOf, Takes, Stood}
use Rattle.gs_run.specs.Ran.{Begins, Ran, Printed, IsComplete}
use Rattle.gs_run.specs.Ready.{HasResults}
use Rattle.gs_run.specs.Stop.{status_of}
use Rattle.gs_run.specs.declared.stop.Stop.{Stop}

-- what is seen of a call: its settings and its worker list, its answer, and the disk, the link, the
-- counts of faults and what the output was given, before and after
pub record Seen (D K : Type 0) : Type 0 where
  pub settings : Settings
  pub workers : List ℕ
  pub answer : Result Unit Stop
  pub old : D
  pub new : D
  pub law : Meaning
  pub link : K
  pub link_new : K
  pub link_faults : ℕ
  pub link_faults_new : ℕ
  pub out_faults : ℕ
  pub out_faults_new : ℕ
  pub written : List ℕ
  pub written_new : List ℕ

-- it is a call with these two names, over a link that goes by the run's law and tells its history
pub record IsCall {D K : Type 0} (state : D → DiskState) (tells : K → History → Type 0)
    (told wrote : Type 0) (o : Origin) (idl program : List ℕ) (c : Seen D K) : Type 0 where
  pub ran : Ran c.settings told wrote (state c.old) (state c.new) c.law (tells c.link) (tells c.link_new)
      c.link_faults c.link_faults_new c.out_faults c.out_faults_new c.written c.written_new
      idl program c.workers c.answer
  pub law_is : c.law ≡ o.law
  pub past : History
  pub past_told : tells c.link past

-- each is one, and begins with the disk that the call before left, or that a crash within it left
abbrev pub AreCalls : {D K : Type 0} → (D → DiskState) → (K → History → Type 0)
    → (told wrote : Type 0) → Origin → (idl program : List ℕ) → Seen D K → List (Seen D K) → Type 0
AreCalls state tells told wrote o idl program c [] = IsCall state tells told wrote o idl program c
AreCalls state tells told wrote o idl program c (next ∷ calls) =
    IsCall state tells told wrote o idl program c
    × IsNext (state c.old) (state c.new) (state next.old)
    × AreCalls state tells told wrote o idl program next calls

-- the calls of a life: the first begins without a store, with the user's files as they are at first
pub record IsLife {D K : Type 0} (state : D → DiskState) (tells : K → History → Type 0)
    (told wrote : Type 0) (o : Origin) (idl program : List ℕ) (first : Seen D K)
    (calls : List (Seen D K)) : Type 0 where
  pub none_stood : o.stood ≡ []
  pub run_is : IsRunOf o idl program
  pub begins : EachNow (IsFirst o) (state first.old)
  pub each : AreCalls state tells told wrote o idl program first calls

-- no count of faults rose in the call
pub record HasNoFault {D K : Type 0} (state : D → DiskState) (c : Seen D K) : Type 0 where
  pub disk : Rises (state c.old).faults (state c.new).faults → ⊥
  pub link : Rises c.link_faults c.link_faults_new → ⊥
  pub out : Rises c.out_faults c.out_faults_new → ⊥

-- What a run promises, of one call of a life. It begins as a call of this run. Each image stands at
-- every moment; no task that is recorded as the call begins is started, the history is as it should
-- be, and at its end the files and the text are the sequential run's. Where no count of faults
-- rises its status is that of the sequential run's end, or 0 where results are there, or 12.
pub record Keeps {D K : Type 0} (state : D → DiskState) (tells : K → History → Type 0)
    (wrote : Type 0) (o : Origin) (idl program : List ℕ) (c : Seen D K) : Type 0 where
  pub past : History
  pub begins : Begins o idl program c.law (tells c.link) past (state c.old)
  pub stood : (es : List Recorded) × HasEntries es (state c.old).folder
      × Stood o es past (state c.old) (state c.new) (tells c.link_new) (Takes o c.settings es
      (HasResults (state c.old).folder idl program) ((state c.old).folder c.workers) c.answer)
      c.answer
  pub printed : wrote → Printed o c.written c.written_new c.answer
  pub complete : HasNoFault state c
      → IsComplete o c.settings.fuel (state c.old).folder idl program c.workers (status_of c.answer)

abbrev pub AllKeep : {D K : Type 0} → (D → DiskState) → (K → History → Type 0) → (wrote : Type 0)
    → Origin → (idl program : List ℕ) → List (Seen D K) → Type 0
AllKeep state tells wrote o idl program [] = ⊤
AllKeep state tells wrote o idl program (c ∷ calls) =
    Keeps state tells wrote o idl program c × AllKeep state tells wrote o idl program calls
