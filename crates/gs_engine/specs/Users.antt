-- The user's files, while a run goes on.
use Rattle.std.specs.Prelude.{◌≡◌, ℕ, List}
use Rattle.gs_disk.specs.Folder.{Folder, DiskState}
use Rattle.gs_disk.specs.Moments.{EachNow, Always}
use Rattle.gs_disk.specs.Name.{IsUser}

-- the user's files are those of this folder
abbrev pub HasUsers : Folder → Folder → Type 0
HasUsers users image = (x : List ℕ) → IsUser x → image x ≡ users x

-- what each image has of the user's files, each image has at every moment
abbrev pub UsersStay : (old new : DiskState) → Type 0
UsersStay old new = (users : Folder) → EachNow (HasUsers users) old
    → Always (HasUsers users) old new
