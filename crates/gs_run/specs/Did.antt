-- What a call of `gs` did.
use Rattle.std.specs.Prelude.{◌≡◌, ℕ, List, Result, Ok, Err}
use Rattle.gs_types.specs.History.{History}
use Rattle.gs_types.specs.Job.{Meaning}
use Rattle.gs_disk.specs.Folder.{DiskState}
use Rattle.gs_words.specs.declared.command.Command.TheVariants.{Run, Check, Report, Clean, SelfRun, Plan}
use Rattle.gs_run.specs.Asked.{Wish}
use Rattle.gs_run.specs.Checking.{RanCheck}
use Rattle.gs_run.specs.Ran.{Ran}
use Rattle.gs_run.specs.Verbs.{Reported, Cleaned, PlannedFor}
use Rattle.gs_run.specs.declared.stop.Stop.{Stop}
use Rattle.gs_run.specs.declared.stop.Stop.TheVariants.{Usage}

-- what was wished for was done; or the words were refused at their place, and those of a run that
-- makes itself, which isn't served yet, at their first
abbrev pub Did : (told wrote : Type 0) → (old new : DiskState) → Meaning
    → (tells_old tells_new : History → Type 0) → (link_old link_new out_old out_new : ℕ)
    → (written_old written_new : List ℕ) → Wish → Result Unit Stop → Type 0
Did told wrote d e law s t k l o p v w (Ok (Run idl program workers settings)) answer =
    Ran settings told wrote d e law s t k l o p v w idl program workers answer
Did told wrote d e law s t k l o p v w (Ok (Check idl program)) answer =
    RanCheck told wrote d e o p v w idl program answer
Did told wrote d e law s t k l o p v w (Ok Report) answer =
    Reported told wrote d e o p v w answer
Did told wrote d e law s t k l o p v w (Ok Clean) answer = Cleaned told wrote d e v w answer
Did told wrote d e law s t k l o p v w (Ok (Plan slots durations)) answer =
    PlannedFor told wrote d e o p v w slots durations answer
Did told wrote d e law s t k l o p v w (Ok (SelfRun seed n)) answer = answer ≡ Err (Usage 0)
Did told wrote d e law s t k l o p v w (Err usage) answer = answer ≡ Err (Usage usage.word)
