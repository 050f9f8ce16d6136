-- The beginning of a call.
use Rattle.std.specs.Prelude.{◌≡◌, ℕ, suc, List, [], ◌∷◌, ◌++◌}
use Rattle.gs_types.specs.Job.{Meaning}
use Rattle.gs_types.specs.History.{History}
use Rattle.gs_disk.specs.Folder.{DiskState}
use Rattle.gs_entries.specs.declared.entry.Entry.{Entry}
use Rattle.gs_entries.specs.declared.entry.Entry.TheVariants as made
use Rattle.gs_entries.specs.declared.entry.Texts.{Texts}
use Rattle.gs_broker.specs.declared.broker.Broker.{Broker}
use Rattle.gs_main.specs.Talking.{Talking}
use Rattle.gs_history.specs.Setup.{Setup}
use Rattle.gs_history.specs.Notes.{AreNoted}
use Rattle.gs_tables.specs.declared.noted.DoneNote.{DoneNote}
use Rattle.gs_core.specs.Beginning.{IsGiven}
use Rattle.gs_site.specs.Link.{Flying}
use Rattle.gs_life.specs.Origin.{Origin, run_of}
use Rattle.gs_life.specs.Called.{StandsFor}
use Rattle.gs_engine.specs.Joined.{Course, Moment, Joined}

-- ---- what is recorded of tasks

-- what the entry with this index says of a task that is done
abbrev pub notes_by : (index : ℕ) → Entry → List DoneNote
notes_by i (made.Done n op outs) = record { index = i; n = n; op = op; outs = outs } ∷ []
notes_by i (made.Header t) = []
notes_by i (made.Gate g) = []
notes_by i made.Closed = []

-- what entries say of tasks that are done, in their order; the first has this index
abbrev pub notes_in : (index : ℕ) → List Entry → List DoneNote
notes_in i [] = []
notes_in i (e ∷ es) = notes_by i e ++ notes_in (suc i) es

-- ---- calls

-- of what a call is made: the texts, the program, the workers, and how many calls may be unfinished
-- at once
pub record Parts : Type 0 where
  pub texts : Texts
  pub main : Talking
  pub broker : Broker
  pub window : ℕ

abbrev pub parts_of : Texts → Talking → Broker → (window : ℕ) → Parts
parts_of texts main broker window = record {
  texts = texts;
  main = main;
  broker = broker;
  window = window;
}

-- of what run a call is, what the core is given, and the link's history before the call
pub record Call : Type 0 where
  pub origin : Origin
  pub setup : Setup
  pub run_is : setup.run ≡ run_of origin setup.run.fuel
  pub past : History

-- the course of a call over entries that are these events
abbrev pub course_of : Call → (noted : History) → Course
course_of call noted = record {
  origin = call.origin;
  setup = call.setup;
  run_is = call.run_is;
  noted = noted;
  past = call.past;
}

-- the disk stands for the call's run, which is of these texts; the call's parts and what these
-- entries say are what the core is given; and the link goes by the law and tells the history
pub record Enters {D K : Type 0} (state : D → DiskState) (tells : K → History → Type 0)
    (law : K → Meaning) (parts : Parts) (es : List Entry) (disk : D) (link : K) (call : Call)
    : Type 0 where
  pub texts_are : call.origin.texts ≡ parts.texts
  pub stands : StandsFor call.origin es (state disk)
  pub given : IsGiven parts.main parts.broker parts.window (notes_in 0 es) call.setup
  pub law_is : law link ≡ call.origin.law
  pub told : tells link call.past

-- what the entries note comes first, and all is joined before the first question and the first event
abbrev pub Begun : {D K : Type 0} → (D → DiskState) → (K → History → Type 0) → (K → Flying)
    → (K → Meaning) → Call → Moment D K → Type 0
Begun state tells jobs law call at =
    (noted : History) × AreNoted call.setup call.setup.notes noted
    × Joined state tells jobs law (course_of call noted) at 0 []
