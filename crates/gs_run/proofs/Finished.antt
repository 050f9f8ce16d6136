-- Bringing results back over a disk that stands: no version is lost.
use Rattle.std.proofs.Common.{◌≡◌, List, [], Some, Result, Ok, Err, refl, ap, subst}
use Rattle.std.specs.Prelude.{OnOk, IfErr}
use Rattle.gs_types.specs.History.{History}
use Rattle.gs_disk.specs.Folder.{Folder, DiskState}
use Rattle.gs_disk.specs.Moments.{EachNow, Always}
use Rattle.gs_back.specs.Finals.{Final, finals_at, finals_of}
use Rattle.gs_entries.specs.Order.{stage_of}
use Rattle.gs_entries.specs.declared.entry.Entry.{Entry}
use Rattle.gs_entries.specs.declared.entry.GateNote.{GateNote}
use Rattle.gs_entries.specs.declared.entry.Stage.{Stage}
use Rattle.gs_entries.specs.declared.entry.Stage.TheVariants as stages
use Rattle.gs_store.specs.Ordered.{HasEnded, gate_in}
use Rattle.gs_tables.specs.Gate.{written_names}
use Rattle.gs_talk_laws.specs.Versions.{writings}
use Rattle.gs_finish.specs.Finishing.{LacksFinal, IsNotLost}
use Rattle.gs_finish.specs.declared.halt.Halt.{Halt}
use Rattle.gs_finish.specs.declared.halt.Halt.TheVariants.{Disk, NoMemory, Lost}
use Rattle.gs_engine.proofs.SealingFinals.{held_stand, never_lacks_final}
use Rattle.gs_life.specs.Origin.{Origin}
use Rattle.gs_life.specs.Stands.{IsGateOf, Stands, StandsClosed, StandsAt}
use Rattle.gs_run.specs.Course.{Stood}
use Rattle.gs_run.specs.Halted.{stop_of_halt, IsFinish}
use Rattle.gs_run.specs.declared.stop.Stop.{Stop}

-- no final of a gate that stands is lost
gate_stands : {T : Type 0} (o : Origin) (f : Folder) (es : List Entry) (g : GateNote)
    (r : Result T Halt) → gate_in es ≡ Some g → IsGateOf o f g
    → IfErr r (LacksFinal f (finals_of es)) → IfErr r IsNotLost
gate_stands o f es g r is gate lacks =
    let all = held_stand gate.setup gate.questions g.names
    (written_names (writings gate.setup.run gate.questions)) g.finals f gate.says.gated.finals_are
    gate.held in
    never_lacks_final f g.names g.finals r all
    (subst (λ (fs : List Final). IfErr r (LacksFinal f fs)) (ap finals_at is) lacks)

pub none_lost : {T : Type 0} (o : Origin) (f : Folder) (es : List Entry) (g : Stage)
    (r : Result T Halt) → stage_of es ≡ g → HasEnded g → StandsAt o f es g
    → IfErr r (LacksFinal f (finals_of es)) → IfErr r IsNotLost
none_lost o f es stages.Fresh r at ended stands lacks = absurd ended
none_lost o f es stages.Running r at ended stands lacks = absurd ended
none_lost o f es stages.Gated r at ended stands lacks =
    gate_stands o f es stands.note r stands.noted stands.gate lacks
none_lost o f es stages.Closed r at ended stands lacks =
    gate_stands o f es stands.note r stands.noted stands.gate lacks

abbrev pub halts : {T : Type 0} → Result T Halt → Result T Stop
halts (Ok x) = Ok x
halts (Err h) = Err (stop_of_halt h)

-- a run with results was finished, or not, and nothing was started
pub finished : {T : Type 0} (o : Origin) (es : List Entry) (past : History) (old new : DiskState)
    (tells : History → Type 0) (r : Result T Halt) → Always (Stands o) old new → tells past
    → OnOk r (EachNow (StandsClosed o) new) → IfErr r IsNotLost
    → Stood o es past old new tells (IsFinish (halts r)) (halts r)
finished o es past old new tells (Ok x) always told closed not = record {
  always = always;
  history = [];
  told = told;
  holds = (refl, tt);
  unstarted = λ n done. tt;
  kept = λ not n some. absurd cc;
  running = λ is. absurd is;
  closed = closed;
}
finished o es past old new tells (Err Disk) always told closed not = record {
  always = always;
  history = [];
  told = told;
  holds = (refl, tt);
  unstarted = λ n done. tt;
  kept = λ not n some. absurd cc;
  running = λ is. absurd is;
  closed = tt;
}
finished o es past old new tells (Err NoMemory) always told closed not = record {
  always = always;
  history = [];
  told = told;
  holds = (refl, tt);
  unstarted = λ n done. tt;
  kept = λ not n some. absurd cc;
  running = λ is. absurd is;
  closed = tt;
}
finished o es past old new tells (Err (Lost v kept found)) always told closed not = absurd not
