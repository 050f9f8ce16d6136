-- A life: a list of calls, each over the disk as the call before left it, or over what a crash within
-- that call left.
use Rattle.std.specs.Prelude.{◌≡◌, List, [], ◌∷◌, None, ◌⊎◌}
use Rattle.std.specs.Bool.{⊤}
use Rattle.gs_disk.specs.Folder.{Folder, DiskState}
use Rattle.gs_disk.specs.Moments.{Leaves, LeavesOnly, EachNow, Always}
use Rattle.gs_log.specs.Names.{mark_name}
use Rattle.gs_life.specs.Origin.{Origin, UsersAre}
use Rattle.gs_life.specs.Stands.{Stands}

-- over a disk whose images stand each image stands, at every moment of the call
abbrev pub CallStands : Origin → (begun left : DiskState) → Type 0
CallStands o s t = EachNow (Stands o) s → Always (Stands o) s t

-- a call's disk after one that began and left a disk so: as it was left, or as a crash at some
-- moment of that call left it
abbrev pub IsNext : (begun left next : DiskState) → Type 0
IsNext s t next =
    ((image : Folder) → Leaves next image → Leaves t image)
    ⊎ ((image : Folder) × t.left_since s.moment image × LeavesOnly image next)

-- each call stands, and begins with the disk that the call before left
abbrev pub AreCalls : {D : Type 0} → (D → DiskState) → Origin → (D × D) → List (D × D) → Type 0
AreCalls state o call [] = CallStands o (state call.0) (state call.1)
AreCalls state o call (next ∷ calls) = CallStands o (state call.0) (state call.1)
    × IsNext (state call.0) (state call.1) (state next.0) × AreCalls state o next calls

-- each image of each moment of each call stands
abbrev pub AllStand : {D : Type 0} → (D → DiskState) → Origin → List (D × D) → Type 0
AllStand state o [] = ⊤
AllStand state o (call ∷ calls) = Always (Stands o) (state call.0) (state call.1)
    × AllStand state o calls

-- no store, and the user's files are those at first
pub record IsFirst (o : Origin) (folder : Folder) : Type 0 where
  pub unmarked : folder mark_name ≡ None
  pub users : UsersAre o folder

-- the calls of a life: the first begins without a store
pub record IsLife {D : Type 0} (state : D → DiskState) (o : Origin) (first : D × D)
    (calls : List (D × D)) : Type 0 where
  pub none_stood : o.stood ≡ []
  pub begins : EachNow (IsFirst o) (state first.0)
  pub each : AreCalls state o first calls
