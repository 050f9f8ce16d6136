-- The writes of a name table, the newest first, are the sequential run's writings.
use Rattle.std.specs.Prelude.{ℕ, Bool, true, false, List, [], ◌∷◌}
use Rattle.gs_types.specs.declared.note.Version.TheVariants.{Out}
use Rattle.gs_names.specs.Writes.{Write}
use Rattle.gs_talk.specs.declared.question.CallArg.{CallArg}
use Rattle.gs_talk.specs.declared.question.CallArg.TheVariants.{File, Int, Str, OutInt, OutStr}
use Rattle.gs_talk_laws.specs.Versions.{Written}

-- these writings, the newest first, before those
abbrev pub written_back : List Written → List Write → List Write
written_back [] ws = ws
written_back (x ∷ xs) ws = written_back xs ((x.name, x.version) ∷ ws)

-- with what task n leaves at a place
abbrev pub written_one : (n place : ℕ) → (writes : Bool) → CallArg → List Write → List Write
written_one n place true (File name) ws = (name, Out n place) ∷ ws
written_one n place false (File name) ws = ws
written_one n place writes (Int v) ws = ws
written_one n place writes (Str s) ws = ws
written_one n place writes OutInt ws = ws
written_one n place writes OutStr ws = ws
