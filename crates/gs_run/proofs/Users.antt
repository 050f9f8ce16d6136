-- Where a run is over with no results the user's files are as before.
use Rattle.std.proofs.Common.{◌≡◌, ℕ, Result, Ok, Err, subst}
use Rattle.gs_disk.specs.Folder.{DiskState, Same}
use Rattle.gs_disk.specs.Moments.{Passes}
use Rattle.gs_store.specs.State.{StoreState}
use Rattle.gs_engine.specs.Running as engine
use Rattle.gs_engine.specs.Users.{UsersStay}
use Rattle.gs_engine.specs.declared.running.RunFault.{RunFault}
use Rattle.gs_engine.specs.declared.running.RunFault.TheVariants as fault
use Rattle.gs_engine.proofs.Users.{stay_same, stay_then}
use Rattle.gs_run.specs.Course.{IsFruitlessBy, IsFruitless}
use Rattle.gs_run.specs.Halted.{stop_of_fault, Fails, FailsBy}
use Rattle.gs_run.specs.declared.stop.Stop.{Stop}
use Rattle.gs_run.specs.declared.stop.Stop.TheVariants as stop

-- the engine's answer is of the same kind
fruitless_of : (T : Type 0) (fuel : ℕ) (f : RunFault) → IsFruitlessBy (stop_of_fault fuel f)
    → engine.IsFruitless {T = T} (Err f)
fruitless_of T fuel (fault.Program line kind) is = tt
fruitless_of T fuel fault.FuelOut is = tt
fruitless_of T fuel (fault.TaskLost n) is = tt
fruitless_of T fuel (fault.WorkersLost n) is = tt
fruitless_of T fuel (fault.BadRecord index) is = absurd is
fruitless_of T fuel (fault.Lost v kept found) is = absurd is
fruitless_of T fuel fault.Disk is = absurd is
fruitless_of T fuel fault.NoMemory is = absurd is

pub fault_users : (fuel : ℕ) (a b : DiskState) (f : RunFault) (e : Stop)
    → e ≡ stop_of_fault fuel f
    → (engine.IsFruitless {T = StoreState} (Err f) → UsersStay a b)
    → IsFruitless {T = StoreState} (Err e) → UsersStay a b
fault_users fuel a b f e same stay is =
    stay (fruitless_of StoreState fuel f (subst IsFruitlessBy same is))

-- bringing results back is never over without results
fails_not : (e : Stop) → FailsBy e → IsFruitlessBy e → ⊥
fails_not (stop.Usage word) fails is = is
fails_not (stop.NoText name) fails is = is
fails_not (stop.BadText name line k) fails is = is
fails_not (stop.OtherRun what) fails is = is
fails_not (stop.BadStore why) fails is = is
fails_not (stop.Fault line k) fails is = fails
fails_not (stop.FuelOut fuel) fails is = fails
fails_not (stop.TaskLost n) fails is = fails
fails_not (stop.WorkersLost n) fails is = fails
fails_not stop.Gated fails is = is
fails_not stop.NoRun fails is = is
fails_not stop.Disk fails is = is
fails_not stop.Sink fails is = is
fails_not stop.Memory fails is = is

pub finish_not : (r : Result StoreState Stop) → Fails r → IsFruitless r → ⊥
finish_not (Ok store) fails is = is
finish_not (Err e) fails is = fails_not e fails is

-- from where the call began, over the disk that was read
pub users_carried : (told : Type 0) (a b d : DiskState) (e : Stop) → (told → Passes Same a b)
    → (told → IsFruitless {T = StoreState} (Err e) → UsersStay b d) → told
    → IsFruitless {T = Unit} (Err e) → UsersStay a d
users_carried told a b d e images stay t is =
    stay_then a b d (stay_same a b (images t)) (stay t is)
