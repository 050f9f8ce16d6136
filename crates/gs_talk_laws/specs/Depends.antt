-- A task truly depends on the tasks whose outputs it reads.
use Rattle.std.specs.Prelude.{◌≡◌, ℕ, List, slice_get, Option, Some, None}
use Rattle.gs_types.specs.declared.note.Version.{Version}
use Rattle.gs_types.specs.declared.note.Version.TheVariants.{Original, Out, Main}
use Rattle.gs_talk.specs.Seq.{Run}
use Rattle.gs_talk.specs.Actions as act
use Rattle.gs_talk.specs.Actions.{Act, acts, last_writer, DependsOn}
use Rattle.gs_talk_laws.specs.Numbers.{at_number}
use Rattle.gs_talk_laws.specs.Versions.{latest, writings, readings}

-- the last writer of a file, if any, gave it this version
abbrev pub Wrote : (name : List ℕ) → Option Act → Version → Type 0
Wrote name None v = v ≡ Original name
Wrote name (Some (act.Call n op reads written)) v = (place : ℕ) × (v ≡ Out n place)
Wrote name (Some (act.Write x)) v = (k : ℕ) × (v ≡ Main k)
Wrote name (Some (act.Use n place)) v = ⊥
Wrote name (Some (act.Read x)) v = ⊥
Wrote name (Some act.Barrier) v = ⊥
Wrote name (Some act.Ends) v = ⊥

-- at each moment the last writer of a file gave it its last version
abbrev pub LastWriterWrote : Type 0
LastWriterWrote = (r : Run) (k : ℕ) (name : List ℕ)
    → Wrote name (last_writer (acts r k) name) (latest name (writings r k))

-- task j reads what task i left at some place
pub record ReadsFrom (r : Run) (j i : ℕ) : Type 0 where
  pub moment : ℕ
  pub reads : List (Option Version)
  pub place : ℕ
  pub from : ℕ
  pub is : at_number (readings r moment) j ≡ Some reads
  pub version : slice_get reads place ≡ Some (Some (Out i from))

-- a task reads what those left that it truly depends on
abbrev pub ReadsWhatItDependsOn : Type 0
ReadsWhatItDependsOn = (r : Run) (j i : ℕ) → DependsOn r j i → ReadsFrom r j i

-- a task truly depends on those whose outputs it reads
abbrev pub DependsOnWhatItReads : Type 0
DependsOnWhatItReads = (r : Run) (j i : ℕ) → ReadsFrom r j i → DependsOn r j i
