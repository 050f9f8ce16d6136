-- What is read for a start, and the start.
use Rattle.std.proofs.Common.{◌≡◌, ℕ, zero, suc, ◌+◌, ◌≤◌, arith, List, [], ◌∷◌, ◌++◌, length, Some, Result, Ok, Err, refl, sym, ap, subst, ◌∙◌}
use Rattle.std.specs.Prelude.{option_map, slice_get, IfErr, IsErrOf}
use Rattle.gs_types.specs.Counts.{Caused}
use Rattle.gs_types.specs.Job.{Meaning}
use Rattle.gs_types.specs.History.{History}
use Rattle.gs_types.specs.declared.job.Arg.{Arg}
use Rattle.gs_types.specs.declared.job.Job.{Job}
use Rattle.gs_disk.specs.Folder.{Folder, DiskState, Same}
use Rattle.gs_disk.specs.Moments.{Passes}
use Rattle.gs_finish.specs.Finishing.{IsNotLost}
use Rattle.gs_finish.specs.declared.halt.Halt.{Halt}
use Rattle.gs_finish.specs.declared.halt.Halt.TheVariants.{Disk, NoMemory, Lost}
use Rattle.gs_site.specs.Link.{Flying}
use Rattle.gs_store.specs.State.{StoreState}
use Rattle.gs_talk.specs.Seq.{Files, World}
use Rattle.gs_history.specs.Setup.{world_at}
use Rattle.gs_tables.specs.Starts.{IsFrom, AreStartArgs}
use Rattle.gs_tables.specs.declared.row.StartArg.{StartArg}
use Rattle.gs_tables.specs.declared.row.StartArg.TheVariants as start
use Rattle.gs_core.specs.declared.machine.Core.{Core}
use Rattle.gs_core.specs.declared.machine.Start.{Start}
use Rattle.gs_engine.specs.Joined.{Course, Moment, Joined, Goes}
use Rattle.gs_engine.specs.Reading.{AreGiven, LacksOne, LacksLength, VersionsStand}
use Rattle.gs_engine.specs.Starting.{IsJobFor, HasStart, IsDueNow}
use Rattle.gs_engine.specs.Steps.{whatever}
use Rattle.gs_engine.proofs.Due.{start_due, versions_stand}
use Rattle.gs_engine.proofs.Forms.{HasForm, has_form}
use Rattle.gs_engine.proofs.Settling.{done, goes_on}
use Rattle.gs_engine.proofs.Standing.{same_stands, joined_same}

-- the arguments of a start at a place
arg_at : (first : Files) (w : World) (h : History) (xs : List StartArg) (args : List Arg)
    (place : ℕ) (x : StartArg) → AreStartArgs first w h xs args → slice_get xs place ≡ Some x
    → (a : Arg) × HasForm first w h x a
arg_at first w h [] args place x are at = absurd cc
arg_at first w h (y ∷ ys) [] place x are at = absurd are
arg_at first w h (y ∷ ys) (a ∷ args) zero x are at =
    (a, subst (λ (z : StartArg). HasForm first w h z a) (one y x at) (has_form first w h y a are.0))
  where
    one : (y z : StartArg) → Some y ≡ Some z → y ≡ z
    one y z e = cc
arg_at first w h (y ∷ ys) (a ∷ args) (suc place) x are at =
    arg_at first w h ys args place x are.1 at

-- what a task that is due gets isn't lost
pub input_found : (folder : Folder) (first : Files) (w : World) (h : History) (xs : List StartArg)
    (args : List Arg) (e : Halt) → VersionsStand first w h folder → AreStartArgs first w h xs args
    → LacksOne folder xs e → IsNotLost e
input_found folder first w h xs args (Lost v kept found) stand are lacks =
    let form = arg_at first w h xs args lacks.place (start.From v kept lacks.both) are lacks.at in
    let from : IsFrom first w h v kept form.1.0 = form.1.1 in
    absurd (lacks.lost (lacks.found_is
    ∙ ap (option_map length) (stand v form.1.0 lacks.own from.there from.holds)
    ∙ ap Some (sym from.length_is)))
input_found folder first w h xs args Disk stand are lacks = tt
input_found folder first w h xs args NoMemory stand are lacks = tt

pub one_lacks : (f g : Folder) (xs : List StartArg) (e : Halt) → g ≡ f → LacksOne f xs e
    → LacksLength g e
one_lacks f g xs (Lost v kept found) same lacks = (
  lacks.found_is ∙ ap (λ (h : Folder). Rattle.gs_store.specs.Versions.len_of h v) (sym same),
  lacks.lost,
)
one_lacks f g xs Disk same lacks = tt
one_lacks f g xs NoMemory same lacks = tt

no_disk : {T : Type 0} (e : Halt) (r : Result T Halt) → r ≡ Err e → e ≡ NoMemory → r ≡ Err Disk
    → ⊥
no_disk e r a b c = absurd cc

-- a want of memory is no fault of the disk, and nothing is lost
pub memory_caused : {T : Type 0} (r : Result T Halt) (a b c : ℕ) → IfErr r (λ e. e ≡ NoMemory)
    → a ≤ b → c ≡ b → Caused (IsErrOf r Disk) a c
memory_caused (Ok x) a b c memory le same = record {
  rise = omega (arith, le, same);
  cause = λ is. absurd (none x is);
}
  where
    none : {T : Type 0} (x : T) → Ok x ≡ Err Disk → ⊥
    none x is = absurd cc
memory_caused (Err e) a b c memory le same = record {
  rise = omega (arith, le, same);
  cause = λ is. absurd (no_disk e (Err e) refl memory is);
}

pub memory_lacks : {T : Type 0} (r : Result T Halt) (f : Folder) → IfErr r (λ e. e ≡ NoMemory)
    → IfErr r (LacksLength f)
memory_lacks (Ok x) f memory = tt
memory_lacks (Err e) f memory = subst (LacksLength f) (sym memory) tt

module _ {D K : Type 0} {state : D → DiskState} {tells : K → History → Type 0} {jobs : K → Flying}
    {law : K → Meaning} where
  -- it was not all there: which isn't so where the start is due
  pub start_found : (core : Core) (store : StoreState) (d : D) (link : K) (x : Start) (e : Halt)
      → LacksOne (state d).folder x.args e → (c : Course) (k : ℕ) (h : History)
      → Joined state tells jobs law c
      (record { core = core; store = store; disk = d; link = link }) k h → IsDueNow x c k h
      → IsNotLost e
  start_found core store d link x e lacks c k h j due =
      input_found (state d).folder c.setup.run.files (world_at c.setup k) (h ++ c.noted) x.args
      due.2.1.0 e (versions_stand j) due.2.1.2 lacks

  -- it was read, and then the job starts
  pub start_goes : (core : Core) (store : StoreState) (d d_new : D) (link : K) (three : Moment D K)
      (x : Start) (got : List Arg) (job : Job) (r : Result (Unit {0}) Halt)
      → (state d_new).folder ≡ (state d).folder → Passes Same (state d) (state d_new)
      → AreGiven (state d).folder x.args got → IsJobFor core x got job
      → Goes state tells jobs law
      (record { core = core; store = store; disk = d_new; link = link }) three (HasStart job)
      whatever r
      → Goes state tells jobs law (record { core = core; store = store; disk = d; link = link })
      three (IsDueNow x) whatever r
  start_goes core store d d_new link three x got job r same passes given made =
      goes_on (λ y. HasStart job) (tt {0}) three (HasStart job) whatever r reads
      (λ c k h m g p q. q)
    where
      few : (n : ℕ) → n ≤ n
      few n = omega arith

      reads : Goes state tells jobs law
          (record { core = core; store = store; disk = d; link = link })
          (record { core = core; store = store; disk = d_new; link = link }) (IsDueNow x)
          (λ y. HasStart job) done
      reads c k h j due = (
        same_stands j d_new passes,
        record {
          questions = k;
          history = h;
          joined = joined_same j core d_new j.stands
              (few (length (Rattle.gs_tables.specs.Table.mains_in core.tables)
              + Rattle.gs_core.specs.Stages.ahead core.stage)) same passes;
          holds = start_due x got job j due given made;
        },
      )
