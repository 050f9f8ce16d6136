-- What a crash may leave of a disk, now and at each moment since a call began.
use Rattle.std.specs.Prelude.{◌≡◌, ◌⊎◌, ℕ, ◌≤◌}
use Rattle.gs_disk.specs.Folder.{Folder, DiskState}

-- a crash now may leave this image
abbrev pub Leaves : DiskState → Folder → Type 0
Leaves s image = s.left_since s.moment image

-- a crash now leaves this folder and nothing else
abbrev pub LeavesOnly : Folder → DiskState → Type 0
LeavesOnly folder s = (image : Folder) → Leaves s image → image ≡ folder

-- each image now has P
abbrev pub EachNow : (Folder → Type 0) → DiskState → Type 0
EachNow P s = (image : Folder) → Leaves s image → P image

-- an image of the old moment, after a step
abbrev pub Comes : (Folder → Folder → Type 0) → DiskState → Folder → Type 0
Comes step old image = (before : Folder) × Leaves old before × step before image

-- each image at any moment since old is an image of old after a step
pub record Passes (step : Folder → Folder → Type 0) (old new : DiskState) : Type 0 where
  pub later : old.moment ≤ new.moment
  -- also for who began earlier
  pub since : (t : ℕ) (image : Folder) → t ≤ old.moment → new.left_since t image
      → old.left_since t image ⊎ Comes step old image
  pub now : (image : Folder) → Leaves new image → Comes step old image

-- each image at any moment since old has P
pub record Always (P : Folder → Type 0) (old new : DiskState) : Type 0 where
  pub later : old.moment ≤ new.moment
  pub each : (image : Folder) → new.left_since old.moment image → P image
  -- also for who began earlier
  pub since : (t : ℕ) (image : Folder) → t ≤ old.moment → new.left_since t image
      → old.left_since t image ⊎ P image
  pub now : (image : Folder) → Leaves new image → P image

-- no image is forgotten: what was told stays told, and an image now counts as left since each
-- earlier moment
pub record Remembers (old new : DiskState) : Type 0 where
  pub keeps : (t : ℕ) (image : Folder) → t ≤ old.moment → old.left_since t image
      → new.left_since t image
  pub counts : (t : ℕ) (image : Folder) → t ≤ new.moment → Leaves new image → new.left_since t image
