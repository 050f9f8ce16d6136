-- An IDL and a program, as a folder holds them and as they are read.
use Rattle.std.specs.Prelude.{◌≡◌, ◌⊎◌, ℕ, ◌≤◌, List, length, Some, None, Result, Ok, Err}
use Rattle.gs_types.specs.Counts.{Rises}
use Rattle.gs_types.specs.Name.{IsName}
use Rattle.gs_disk.specs.Folder.{Folder}
use Rattle.gs_entries.specs.declared.entry.Texts.{Texts}
use Rattle.gs_idl.specs.declared.token.IdlKind.TheVariants as idl_kind
use Rattle.gs_parse.specs.declared.fault.ParseKind.TheVariants as parse_kind
use Rattle.gs_run.specs.Texts.{IsWithin, IsBeyond}
use Rattle.gs_run.specs.declared.kinds.TextKind.{TextKind}
use Rattle.gs_run.specs.declared.kinds.TextKind.TheVariants as kind
use Rattle.gs_run.specs.declared.refusal.Refusal.{Refusal}
use Rattle.gs_run.specs.declared.refusal.Refusal.TheVariants.{NoText, BadText, Disk, Memory}

-- the files of these two names hold these texts, which are within the limit
pub record HasSources (folder : Folder) (idl program : List ℕ) (t : Texts) : Type 0 where
  pub idl_name : t.idl_name ≡ idl
  pub program_name : t.program_name ≡ program
  pub idl_there : folder idl ≡ Some t.idl
  pub program_there : folder program ≡ Some t.program
  pub idl_short : length t.idl ≤ 65536
  pub program_short : length t.program ≤ 65536

-- their names are names of files
pub record AreNamed (t : Texts) : Type 0 where
  pub idl : IsName t.idl_name
  pub program : IsName t.program_name

-- and are these
pub record IsNamedBy (idl program : List ℕ) (t : Texts) : Type 0 where
  pub idl_is : t.idl_name ≡ idl
  pub program_is : t.program_name ≡ program

-- the first of the two files that is absent when its turn comes: the program is looked for where
-- the IDL is within the limit
abbrev pub FirstMissing : Folder → (idl program name : List ℕ) → Type 0
FirstMissing folder idl program name = ((name ≡ idl) × (folder idl ≡ None))
    ⊎ ((name ≡ program) × IsWithin (folder idl) × (folder program ≡ None))

-- the first of the two that is longer than the limit when its turn comes
abbrev pub FirstLong : Folder → (idl program name : List ℕ) → (line : ℕ) → TextKind → Type 0
FirstLong folder idl program name line k =
    ((name ≡ idl) × (line ≡ 0) × (k ≡ kind.Idl idl_kind.TooLong) × IsBeyond (folder idl))
    ⊎ ((name ≡ program) × (line ≡ 0) × (k ≡ kind.Program parse_kind.TooLong)
    × IsWithin (folder idl) × IsBeyond (folder program))

-- what reading the two gives
abbrev pub SourcesTold : Folder → (idl program : List ℕ) → Result Texts Refusal → Type 0
SourcesTold folder idl program (Ok t) = HasSources folder idl program t
SourcesTold folder idl program (Err (NoText name)) = FirstMissing folder idl program name
SourcesTold folder idl program (Err (BadText name line k)) =
    FirstLong folder idl program name line k
SourcesTold folder idl program (Err Disk) = Unit {0}
SourcesTold folder idl program (Err Memory) = Unit {0}

-- a fault is one of the disk
abbrev pub SourcesEnd : {T : Type 0} → ℕ → ℕ → Result T Refusal → Type 0
SourcesEnd old new (Ok t) = Unit {0}
SourcesEnd old new (Err (NoText name)) = Unit {0}
SourcesEnd old new (Err (BadText name line k)) = Unit {0}
SourcesEnd old new (Err Disk) = Rises old new
SourcesEnd old new (Err Memory) = Unit {0}
