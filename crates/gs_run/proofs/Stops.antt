-- The engine's answers as the stops of a call: which they are, and what they blame.
use Rattle.std.proofs.Common.{◌≡◌, ◌^◌, ℕ, ◌≤◌, true, ltb, List, [], length, Some, Result, Err, refl, sym, subst, inl, arith}
use Rattle.std.specs.Prelude.{IsErrOf}
use Rattle.std.proofs.lemmas.Bool.{le-leb, lt-ltb, and_from}
use Rattle.gs_types.specs.Counts.{Caused}
use Rattle.gs_disk.specs.Folder.{DiskState}
use Rattle.gs_disk.specs.Going.{always_started}
use Rattle.gs_entries.specs.Entries.{entry}
use Rattle.gs_entries.specs.Notes.{name, source}
use Rattle.gs_entries.specs.declared.entry.Entry.{Entry}
use Rattle.gs_entries.specs.declared.entry.Entry.TheVariants as made
use Rattle.gs_entries.specs.declared.entry.Texts.{Texts}
use Rattle.gs_entries.proofs.Passing.{name_fits}
use Rattle.gs_idl.specs.Interface.{Interface}
use Rattle.gs_tree.specs.Program.{Program}
use Rattle.gs_types.specs.History.{History}
use Rattle.gs_types.specs.declared.settings.Settings.{Settings}
use Rattle.gs_broker.specs.Text.{Entry as Worker}
use Rattle.gs_store.specs.State.{StoreState}
use Rattle.gs_life.specs.Called.{StandsFor}
use Rattle.gs_life.specs.Origin.{Origin}
use Rattle.gs_life.specs.Stands.{Stands}
use Rattle.gs_life.proofs.Calls.{each_stands}
use Rattle.gs_finish.specs.declared.halt.Halt.{Halt}
use Rattle.gs_finish.specs.declared.halt.Halt.TheVariants as halt
use Rattle.gs_engine.specs.Running.{RunCaused}
use Rattle.gs_engine.specs.declared.running.RunFault.{RunFault}
use Rattle.gs_engine.specs.declared.running.RunFault.TheVariants as fault
use Rattle.gs_run.specs.Course.{Stood}
use Rattle.gs_run.specs.Halted.{stop_of_halt, stop_of_fault, HaltsBy, FailsBy, RunsBy}
use Rattle.gs_run.specs.Ran.{BlamesBy}
use Rattle.gs_run.specs.Served.{SayBoth}
use Rattle.gs_run.specs.Sources.{AreNamed}
use Rattle.gs_run.specs.declared.stop.Stop.{Stop}
use Rattle.gs_run.specs.declared.stop.Stop.TheVariants as stop

abbrev pub halted : {T : Type 0} → Halt → Result T Halt
halted e = Err e

abbrev pub failing : {T : Type 0} → RunFault → Result T RunFault
failing e = Err e

-- ---- bringing results back

pub halt_blames : (T : Type 0) (fuel k l a b : ℕ) (e : Halt) (s : Stop) → s ≡ stop_of_halt e
    → Caused (IsErrOf (halted {T = T} e) halt.Disk) a b → BlamesBy fuel a b k l 0 0 s
halt_blames T fuel k l a b halt.Disk s is caused =
    subst (λ (x : Stop). BlamesBy fuel a b k l 0 0 x) (sym is) (caused.cause refl)
halt_blames T fuel k l a b halt.NoMemory s is caused =
    subst (λ (x : Stop). BlamesBy fuel a b k l 0 0 x) (sym is) tt
halt_blames T fuel k l a b (halt.Lost v kept found) s is caused =
    subst (λ (x : Stop). BlamesBy fuel a b k l 0 0 x) (sym is) tt

pub halt_fails : (e : Halt) (s : Stop) → s ≡ stop_of_halt e → FailsBy s
halt_fails halt.Disk s is = subst FailsBy (sym is) tt
halt_fails halt.NoMemory s is = subst FailsBy (sym is) tt
halt_fails (halt.Lost v kept found) s is = subst FailsBy (sym is) tt

-- ---- a run

pub fault_blames : (T : Type 0) (fuel a b k l : ℕ) (e : RunFault) (s : Stop)
    → s ≡ stop_of_fault fuel e → RunCaused a b k l (failing {T = T} e)
    → BlamesBy fuel a b k l 0 0 s
fault_blames T fuel a b k l e s is caused =
    subst (λ (x : Stop). BlamesBy fuel a b k l 0 0 x) (sym is) (of e caused)
  where
    of : (f : RunFault) → RunCaused a b k l (failing {T = T} f)
        → BlamesBy fuel a b k l 0 0 (stop_of_fault fuel f)
    of (fault.Program line kind) why = tt
    of fault.FuelOut why = refl
    of (fault.TaskLost n) why = why.of_link.cause tt
    of (fault.WorkersLost n) why = why.of_link.cause tt
    of (fault.BadRecord index) why = tt
    of (fault.Lost v kept found) why = tt
    of fault.Disk why = why.of_disk.cause tt
    of fault.NoMemory why = tt

pub fault_halts : (fuel : ℕ) (e : RunFault) (s : Stop) → s ≡ stop_of_fault fuel e → HaltsBy s
fault_halts fuel e s is = subst HaltsBy (sym is) (of e)
  where
    of : (f : RunFault) → HaltsBy (stop_of_fault fuel f)
    of (fault.Program line kind) = tt
    of fault.FuelOut = tt
    of (fault.TaskLost n) = tt
    of (fault.WorkersLost n) = tt
    of (fault.BadRecord index) = tt
    of (fault.Lost v kept found) = tt
    of fault.Disk = tt
    of fault.NoMemory = tt

-- ---- a run that isn't begun

-- texts that are named, and say something, have a record
source_fits : (b : List ℕ) → length b ≤ 65536 → source.fits b ≡ true
source_fits b short = and_from (ltb (length b) (2 ^ 32)) _
    (lt-ltb (length b) (2 ^ 32) (omega (arith, short))) (le-leb (length b) 65536 short)

pub header_fits : (t : Texts) (i : Interface) (p : Program) → AreNamed t → SayBoth t i p
    → entry.fits (made.Header t) ≡ true
unfolding entry
header_fits t i p named say =
    and_from (name.fits t.idl_name) _ (name_fits t.idl_name named.idl)
    (and_from (source.fits t.idl) _ (source_fits t.idl idl_short)
    (and_from (name.fits t.program_name) _ (name_fits t.program_name named.program)
    (source_fits t.program program_short)))
  where
    some_is : (x y : List ℕ) → Some x ≡ Some y → x ≡ y
    some_is x y e = cc

    idl_short : length t.idl ≤ 65536
    idl_short = subst (λ (b : List ℕ). length b ≤ 65536)
        (some_is say.interface.text t.idl (sym say.interface.there)) say.interface.says.short

    program_short : length t.program ≤ 65536
    program_short = subst (λ (b : List ℕ). length b ≤ 65536)
        (some_is say.program.text t.program (sym say.program.there)) say.program.says.short

-- memory was wanting, and nothing was started
pub unbegun : (o : Origin) (settings : Settings) (workers : List Worker) (es : List Entry)
    (past : History) (s : DiskState) (tells : History → Type 0) → StandsFor o es s → tells past
    → Stood {T = StoreState} o es past s s tells
    (RunsBy {T = StoreState} o settings workers es (Err stop.Memory)) (Err stop.Memory)
unbegun o settings workers es past s tells stands told = record {
  always = always_started (Stands o) s (each_stands o es s stands);
  history = [];
  told = told;
  holds = inl (refl, refl);
  unstarted = λ n done. tt;
  kept = λ whole n some. absurd cc;
  running = λ is. absurd is;
  closed = tt;
}
