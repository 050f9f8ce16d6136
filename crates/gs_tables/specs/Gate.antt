-- What is recorded where a program has ended.
use Rattle.std.specs.Prelude.{◌≡◌, ℕ, List, [], ◌∷◌, ◌++◌, length, map, slice_get, Some}
use Rattle.std.specs.Bool.{⊤}
use Rattle.gs_types.specs.declared.action.Action.{Action}
use Rattle.gs_types.specs.declared.note.FinalNote.{FinalNote}
use Rattle.gs_talk.specs.Seq.{Known}
use Rattle.gs_talk.specs.Actions.{acts, Ends}
use Rattle.gs_talk_laws.specs.Versions.{Written, latest, writings, version_value}
use Rattle.gs_history.specs.Setup.{Setup, world_at}
use Rattle.gs_tables.specs.Marks.{names_of, with_names, AreMade}

-- the written names in the order of their first writing, each once
abbrev pub written_names : List Written → List (List ℕ)
written_names ws = with_names [] (map (λ w. w.name) ws)

-- a written file: the number of its name, its last version, and how long its content is
pub record IsFinal (s : Setup) (k : ℕ) (names : List (List ℕ)) (x : List ℕ) (f : FinalNote) : Type 0
  where
    pub name : slice_get names f.name ≡ Some x
    pub version : f.version ≡ latest x (writings s.run k)
    pub bytes : List ℕ
    pub content : version_value s.run.files (world_at s k) f.version ≡ Some (Known bytes)
    pub len : f.len ≡ length bytes

-- each of these files, in this order
abbrev pub AreFinals : Setup → (k : ℕ) → (names : List (List ℕ)) → List (List ℕ) → List FinalNote
    → Type 0
AreFinals s k names [] [] = ⊤
AreFinals s k names [] (f ∷ fs) = ⊥
AreFinals s k names (x ∷ xs) [] = ⊥
AreFinals s k names (x ∷ xs) (f ∷ fs) = IsFinal s k names x f × AreFinals s k names xs fs

-- what the first k questions did and left, where the program ends behind them: the names of the
-- actions in the order in which they first stand there, the written files in the order of their
-- first writing, and the actions, of which the end is the last
pub record IsGated (s : Setup) (k : ℕ) (names : List (List ℕ)) (finals : List FinalNote)
    (actions : List Action) : Type 0 where
  pub names_are : names ≡ names_of (acts s.run k)
  pub finals_are : AreFinals s k names (written_names (writings s.run k)) finals
  pub actions_are : AreMade names actions (acts s.run k ++ Ends ∷ [])
