-- What words ask for is done.
use Rattle.std.proofs.Common.{◌≡◌, ℕ, List, Result, Ok, Err, ap, subst}
use Rattle.gs_types.specs.Job.{Meaning}
use Rattle.gs_types.specs.History.{History}
use Rattle.gs_types.specs.declared.settings.Settings.{Settings}
use Rattle.gs_disk.specs.Folder.{DiskState}
use Rattle.gs_words.specs.Usage.{IsReading}
use Rattle.gs_words.specs.Words.{IsRun, IsCheck, Says}
use Rattle.gs_words.specs.declared.command.Command.{Command}
use Rattle.gs_words.specs.declared.command.Command.TheVariants as commands
use Rattle.gs_words.proofs.OneReading.{says_one}
use Rattle.gs_run.specs.Asked.{Wish}
use Rattle.gs_run.specs.Did.{Did}
use Rattle.gs_run.specs.Verbs.{Reported, Cleaned, PlannedFor}
use Rattle.gs_run.specs.Checking.{RanCheck}
use Rattle.gs_run.specs.Ran.{Ran}
use Rattle.gs_run.specs.declared.stop.Stop.{Stop}

-- what words ask for is one thing
pub one_wish : (ws : List (List ℕ)) (wish : Wish) (c : Command) → IsReading ws wish → Says ws c
    → wish ≡ Ok c
one_wish ws (Ok d) c is says = ap Ok (says_one ws d c is says)
one_wish ws (Err u) c is says = absurd (is.whole (c, says))

pub did_run : (told wrote : Type 0) (d e : DiskState) (law : Meaning) (s t : History
    → Type 0) (k l o p : ℕ) (v w : List ℕ) (ws : List (List ℕ)) (wish : Wish)
    (idl program workers : List ℕ) (settings : Settings) (answer : Result Unit Stop)
    → IsReading ws wish → IsRun ws idl program workers settings
    → Did told wrote d e law s t k l o p v w wish answer
    → Ran settings told wrote d e law s t k l o p v w idl program workers answer
did_run told wrote d e law s t k l o p v w ws wish idl program workers settings answer is run did =
    subst (λ (x : Wish). Did told wrote d e law s t k l o p v w x answer)
    (one_wish ws wish (commands.Run idl program workers settings) is run) did

pub did_check : (told wrote : Type 0) (d e : DiskState) (law : Meaning) (s t : History
    → Type 0) (k l o p : ℕ) (v w : List ℕ) (ws : List (List ℕ)) (wish : Wish) (idl program : List ℕ)
    (answer : Result Unit Stop)
    → IsReading ws wish → IsCheck ws idl program
    → Did told wrote d e law s t k l o p v w wish answer
    → RanCheck told wrote d e o p v w idl program answer
did_check told wrote d e law s t k l o p v w ws wish idl program answer is check did =
    subst (λ (x : Wish). Did told wrote d e law s t k l o p v w x answer)
    (one_wish ws wish (commands.Check idl program) is check) did

pub did_report : (told wrote : Type 0) (d e : DiskState) (law : Meaning) (s t : History
    → Type 0) (k l o p : ℕ) (v w : List ℕ) (ws : List (List ℕ)) (wish : Wish)
    (answer : Result Unit Stop) → IsReading ws wish → Says ws commands.Report
    → Did told wrote d e law s t k l o p v w wish answer
    → Reported told wrote d e o p v w answer
did_report told wrote d e law s t k l o p v w ws wish answer is says did =
    subst (λ (x : Wish). Did told wrote d e law s t k l o p v w x answer)
    (one_wish ws wish commands.Report is says) did

pub did_clean : (told wrote : Type 0) (d e : DiskState) (law : Meaning) (s t : History
    → Type 0) (k l o p : ℕ) (v w : List ℕ) (ws : List (List ℕ)) (wish : Wish)
    (answer : Result Unit Stop) → IsReading ws wish → Says ws commands.Clean
    → Did told wrote d e law s t k l o p v w wish answer → Cleaned told wrote d e v w answer
did_clean told wrote d e law s t k l o p v w ws wish answer is says did =
    subst (λ (x : Wish). Did told wrote d e law s t k l o p v w x answer)
    (one_wish ws wish commands.Clean is says) did

pub did_plan : (told wrote : Type 0) (d e : DiskState) (law : Meaning) (s t : History
    → Type 0) (k l o p : ℕ) (v w : List ℕ) (ws : List (List ℕ)) (wish : Wish) (slots : ℕ)
    (durations : List ℕ) (answer : Result Unit Stop) → IsReading ws wish
    → Says ws (commands.Plan slots durations) → Did told wrote d e law s t k l o p v w wish answer
    → PlannedFor told wrote d e o p v w slots durations answer
did_plan told wrote d e law s t k l o p v w ws wish slots durations answer is says did =
    subst (λ (x : Wish). Did told wrote d e law s t k l o p v w x answer)
    (one_wish ws wish (commands.Plan slots durations) is says) did
