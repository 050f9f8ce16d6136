-- What a call leaves of a disk that stands for what a run is of.
use Rattle.std.specs.Prelude.{List, Result, OnOk}
use Rattle.gs_idl.specs.Interface.{KeepRules}
use Rattle.gs_disk.specs.Folder.{Folder, DiskState}
use Rattle.gs_disk.specs.Moments.{EachNow, Always}
use Rattle.gs_entries.specs.Order.{stage_of}
use Rattle.gs_entries.specs.declared.entry.Entry.{Entry}
use Rattle.gs_life.specs.Origin.{Origin}
use Rattle.gs_life.specs.Standing.{IsSteady}
use Rattle.gs_life.specs.Stands.{AreLeft, IsGated, Stands, StandsAt, StandsClosed}

-- each image has these entries and reads as the disk, which stands at their stage
pub record StandsFor (o : Origin) (es : List Entry) (s : DiskState) : Type 0 where
  pub rules : KeepRules o.given.ops
  pub steady : IsSteady es s
  pub stands : StandsAt o s.folder es (stage_of es)

-- each image stands at every moment; and once the call has answered Ok, each image has these
-- entries and reads as the disk, of which this holds
pub record Stood {T E : Type 0} (o : Origin) (es : List Entry) (P : Folder → Type 0)
    (old new : DiskState) (result : Result T E) : Type 0 where
  pub always : Always (Stands o) old new
  pub steady : OnOk result (IsSteady es new)
  pub holds : OnOk result (P new.folder)

-- the program has ended, and the user's files are those that the sequential run leaves
pub record IsBack (o : Origin) (folder : Folder) (es : List Entry) : Type 0 where
  pub gated : IsGated o folder es
  pub left : AreLeft gated.gate.setup gated.gate.questions folder

-- each image stands at every moment; and once the call has answered Ok, each image is closed
pub record Closes {T E : Type 0} (o : Origin) (old new : DiskState) (result : Result T E)
    : Type 0 where
  pub always : Always (Stands o) old new
  pub closed : OnOk result (EachNow (StandsClosed o) new)
