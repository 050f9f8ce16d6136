-- What holds of the versions at each moment, and what stays.
use Rattle.std.proofs.Common.{◌≡◌, ◌+◌, ◌-◌, ℕ, zero, suc, refl, subst, ◌++◌, arith}
use Rattle.gs_talk.specs.Seq.{Run, seq}
use Rattle.gs_talk_laws.specs.Fuels.{IsPrefixOf}
use Rattle.gs_talk_laws.specs.Versions.{writings, readings, read_next, FilesAreVersions, WritingsAreStored, LatestIsStored, TasksReadVersions, TasksStay, ClosedStay, ReadingsStay}
use Rattle.gs_talk_laws.proofs.Lists.{prefix_same, prefix_then, number_longer}
use Rattle.gs_talk_laws.proofs.Staying.{seq_grown}
use Rattle.gs_talk_laws.proofs.Versions.{task_longer}
use Rattle.gs_talk_laws.proofs.Renaming.{known, always_sound, next_readings}

pub files_are_versions : FilesAreVersions
files_are_versions r k name = (always_sound r k).files name

pub writings_are_stored : WritingsAreStored
writings_are_stored r k i x e = (always_sound r k).stored i x e

pub latest_is_stored : LatestIsStored
latest_is_stored r k name = known r (seq r k).world (writings r k) (readings r k) (always_sound r k) name

pub tasks_read_versions : TasksReadVersions
tasks_read_versions r k n t e = (always_sound r k).tasks n t e

pub tasks_stay : TasksStay
tasks_stay r k more n t le e = task_longer (seq r k).world.tasks (seq r more).world.tasks n t (seq_grown r k more le).tasks e

pub closed_stay : ClosedStay
closed_stay r k more n bytes le e = number_longer (seq r k).world.closed (seq r more).world.closed n bytes (seq_grown r k more le).closed e

readings_by : (r : Run) (k j : ℕ) → IsPrefixOf (readings r k) (readings r (j + k))
readings_by r k zero = let e : zero + k ≡ k = omega arith in rw e (prefix_same (readings r k))
readings_by r k (suc j) =
    let e : suc j + k ≡ suc (j + k) = omega arith in
    let more = read_next r (seq r (j + k)).world (writings r (j + k)) (seq r (j + k)).rest in
    rw (e, next_readings r (j + k)) (prefix_then (readings r k) (readings r (j + k)) (readings r (j + k) ++ more) (readings_by r k j) (more, refl))

pub readings_stay : ReadingsStay
readings_stay r k more n reads le e =
    let same : (more - k) + k ≡ more = omega arith in
    number_longer (readings r k) (readings r more) n reads (subst (λ (m : ℕ). IsPrefixOf (readings r k) (readings r m)) same (readings_by r k (more - k))) e
