-- What stands against a call, by the versions that it reads.
use Rattle.std.specs.Prelude.{◌≡◌, ℕ, List, [], ◌∷◌, Option, Some, None}
use Rattle.gs_idl.specs.Interface.{Param}
use Rattle.gs_types.specs.declared.note.Version.{Version}
use Rattle.gs_types.specs.declared.note.Version.TheVariants.{Original, Out, Main}
use Rattle.gs_talk.specs.declared.question.Answer.{Answer}
use Rattle.gs_talk.specs.declared.question.CallArg.{CallArg}
use Rattle.gs_talk.specs.Seq.{Run, World, Files, seq, refused, or_next, first_refused}
use Rattle.gs_talk_laws.specs.Numbers.{at_number}
use Rattle.gs_talk_laws.specs.Versions.{closed_as, writings, read_by}

-- an original that is absent or too long, or a content of the program that is too long; what a task
-- left never stands against a call
abbrev pub refused_version : (first : Files) → World → Version → Option Answer
refused_version first w (Original name) = refused (first name)
refused_version first w (Out n place) = None
refused_version first w (Main k) = refused (closed_as (at_number w.closed k))

-- the first from the left
abbrev pub refused_versions : (first : Files) → World → List (Option Version) → Option Answer
refused_versions first w [] = None
refused_versions first w (None ∷ vs) = refused_versions first w vs
refused_versions first w (Some v ∷ vs) = or_next (refused_version first w v)
    (refused_versions first w vs)

-- a call is answered by the originals and by what the program closed: no task has to be done
abbrev pub CallsByVersions : Type 0
CallsByVersions = (r : Run) (k : ℕ) (ps : List Param) (args : List CallArg) →
    first_refused (seq r k).world.files ps args
    ≡ refused_versions r.files (seq r k).world (read_by (writings r k) ps args)
