-- What stands for a run from the entries that were found stands for it from the first of them.
use Rattle.std.proofs.Common.{◌≡◌, ℕ, List, [], ◌∷◌, ◌++◌, refl, ap}
use Rattle.gs_disk.specs.Folder.{Folder, DiskState}
use Rattle.gs_disk.specs.Moments.{EachNow, Always}
use Rattle.gs_disk.specs.Going.{always_wider}
use Rattle.gs_entries.specs.Order.{stage_of}
use Rattle.gs_entries.specs.declared.entry.Entry.{Entry}
use Rattle.gs_entries.specs.declared.entry.Entry.TheVariants as made
use Rattle.gs_entries.specs.declared.entry.Stage.{Stage}
use Rattle.gs_entries.specs.declared.entry.Stage.TheVariants as stages
use Rattle.gs_talk_laws.specs.Fuels.{IsPrefixOf}
use Rattle.gs_talk_laws.proofs.Lists.{prefix_same, prefix_then}
use Rattle.gs_life.specs.Called.{StandsFor}
use Rattle.gs_life.specs.Origin.{Origin}
use Rattle.gs_life.specs.Stands.{IsRight, AreOf, IsRunning, IsGated, IsClosed, Stands, Fresh, Running, Gated, Closed, StandsClosed, StandsAt}
use Rattle.gs_engine.specs.Running.{StandsRunning}
use Rattle.gs_run.specs.Course.{IsRunOf}

-- the same run, of which these entries stood
abbrev pub from : Origin → List Entry → Origin
from o es = record {
  texts = o.texts;
  given = o.given;
  files = o.files;
  law = o.law;
  stood = es;
}

-- ---- from the entries that were found

right_from : (o : Origin) (es : List Entry) (f : Folder) (e : Entry) → IsRight o f e
    → IsRight (from o es) f e
right_from o es f (made.Done n op notes) d = record {
  task = d.task;
  outs = d.outs;
  output = record { fuel = d.output.fuel; is = d.output.is; gave = d.output.gave };
  op_is = d.op_is;
  notes_are = d.notes_are;
  files = d.files;
}
right_from o es f (made.Header t) d = d
right_from o es f (made.Gate g) d = d
right_from o es f made.Closed d = d

are_from : (o : Origin) (es : List Entry) (f : Folder) → AreOf o f es → AreOf (from o es) f es
are_from o es f are = record {
  in_order = are.in_order;
  header = are.header;
  goes_on = prefix_same es;
  dones = λ k d lt. right_from o es f _ (are.dones k d lt);
}

stands_from : (o : Origin) (es : List Entry) (f : Folder) (s : Stage) → StandsAt o f es s
    → StandsAt (from o es) f es s
stands_from o es f stages.Fresh at = (at.0, record { goes_on = at.0; users = at.1.users })
stands_from o es f stages.Running at = record {
  stage = at.stage;
  are = are_from o es f at.are;
  users = at.users;
}
stands_from o es f stages.Gated at = record {
  stage = at.stage;
  are = are_from o es f at.are;
  note = at.note;
  noted = at.noted;
  gate = record {
    setup = at.gate.setup;
    run_is = at.gate.run_is;
    questions = at.gate.questions;
    ends = at.gate.ends;
    says = at.gate.says;
    held = at.gate.held;
  };
  users = at.users;
}
stands_from o es f stages.Closed at = record {
  stage = at.stage;
  are = are_from o es f at.are;
  note = at.note;
  noted = at.noted;
  gate = record {
    setup = at.gate.setup;
    run_is = at.gate.run_is;
    questions = at.gate.questions;
    ends = at.gate.ends;
    says = at.gate.says;
    held = at.gate.held;
  };
  left = at.left;
}

pub for_from : (o : Origin) (es : List Entry) (s : DiskState) → StandsFor o es s
    → StandsFor (from o es) es s
for_from o es s for = record {
  rules = for.rules;
  steady = for.steady;
  stands = stands_from o es s.folder (stage_of es) for.stands;
}

pub run_from : (o : Origin) (i p : List ℕ) (es : List Entry) → IsRunOf o i p
    → IsRunOf (from o es) i p
run_from o i p es run = record {
  idl_is_name = run.idl_is_name;
  program_is_name = run.program_is_name;
  interface = run.interface;
  tree = run.tree;
  idl_name = run.idl_name;
  program_name = run.program_name;
  has_idl = run.has_idl;
  has_program = run.has_program;
  says = run.says;
  well_formed = run.well_formed;
  is_text = run.is_text;
  passes = run.passes;
  given = run.given;
}

-- the entries go on from those that stood
goes_at : (o : Origin) (es : List Entry) (f : Folder) (s : Stage) → StandsAt o f es s
    → IsPrefixOf o.stood es
goes_at o es f stages.Fresh at = (es, ap (λ (l : List Entry). l ++ es) at.1.goes_on)
goes_at o es f stages.Running at = at.are.goes_on
goes_at o es f stages.Gated at = at.are.goes_on
goes_at o es f stages.Closed at = at.are.goes_on

pub goes_for : (o : Origin) (es : List Entry) (s : DiskState) → StandsFor o es s
    → IsPrefixOf o.stood es
goes_for o es s for = goes_at o es s.folder (stage_of es) for.stands

-- ---- from the first of them

right_first : (o : Origin) (es : List Entry) (f : Folder) (e : Entry) → IsRight (from o es) f e
    → IsRight o f e
right_first o es f (made.Done n op notes) d = record {
  task = d.task;
  outs = d.outs;
  output = record { fuel = d.output.fuel; is = d.output.is; gave = d.output.gave };
  op_is = d.op_is;
  notes_are = d.notes_are;
  files = d.files;
}
right_first o es f (made.Header t) d = d
right_first o es f (made.Gate g) d = d
right_first o es f made.Closed d = d

are_first : (o : Origin) (es fs : List Entry) (f : Folder) → IsPrefixOf o.stood es
    → AreOf (from o es) f fs → AreOf o f fs
are_first o es fs f first are = record {
  in_order = are.in_order;
  header = are.header;
  goes_on = prefix_then o.stood es fs first are.goes_on;
  dones = λ k d lt. right_first o es f _ (are.dones k d lt);
}

-- what begins nothing is nothing
none_first : (stood es : List Entry) → IsPrefixOf stood es → es ≡ [] → stood ≡ []
none_first [] es first is = refl
none_first (e ∷ stood) [] first is = absurd (let e : e ∷ (stood ++ first.0) ≡ [] = first.1 in cc)
none_first (e ∷ stood) (f ∷ es) first is = absurd cc

running_first : (o : Origin) (es fs : List Entry) (f : Folder) → IsPrefixOf o.stood es
    → IsRunning (from o es) f fs → IsRunning o f fs
running_first o es fs f first r = record {
  stage = r.stage;
  are = are_first o es fs f first r.are;
  users = r.users;
}

closed_first : (o : Origin) (es fs : List Entry) (f : Folder) → IsPrefixOf o.stood es
    → IsClosed (from o es) f fs → IsClosed o f fs
closed_first o es fs f first c = record {
  stage = c.stage;
  are = are_first o es fs f first c.are;
  note = c.note;
  noted = c.noted;
  gate = record {
    setup = c.gate.setup;
    run_is = c.gate.run_is;
    questions = c.gate.questions;
    ends = c.gate.ends;
    says = c.gate.says;
    held = c.gate.held;
  };
  left = c.left;
}

gated_first : (o : Origin) (es fs : List Entry) (f : Folder) → IsPrefixOf o.stood es
    → IsGated (from o es) f fs → IsGated o f fs
gated_first o es fs f first g = record {
  stage = g.stage;
  are = are_first o es fs f first g.are;
  note = g.note;
  noted = g.noted;
  gate = record {
    setup = g.gate.setup;
    run_is = g.gate.run_is;
    questions = g.gate.questions;
    ends = g.gate.ends;
    says = g.gate.says;
    held = g.gate.held;
  };
  users = g.users;
}

stands_first : (o : Origin) (es : List Entry) (f : Folder) → IsPrefixOf o.stood es
    → Stands (from o es) f → Stands o f
stands_first o es f first (Fresh has fresh) =
    Fresh has (record { goes_on = none_first o.stood es first fresh.goes_on; users = fresh.users })
stands_first o es f first (Running fs has r) = Running fs has (running_first o es fs f first r)
stands_first o es f first (Gated fs has g) = Gated fs has (gated_first o es fs f first g)
stands_first o es f first (Closed fs has c) = Closed fs has (closed_first o es fs f first c)

pub always_first : (o : Origin) (es : List Entry) (old new : DiskState) → IsPrefixOf o.stood es
    → Always (Stands (from o es)) old new → Always (Stands o) old new
always_first o es old new first always =
    always_wider (Stands (from o es)) (Stands o) old new always (λ f. stands_first o es f first)

pub each_running : (o : Origin) (es : List Entry) (s : DiskState) → IsPrefixOf o.stood es
    → EachNow (StandsRunning (from o es)) s → EachNow (StandsRunning o) s
each_running o es s first each image left =
    let r = each image left in (r.0, r.1, running_first o es r.0 image first r.2)

pub each_closed : (o : Origin) (es : List Entry) (s : DiskState) → IsPrefixOf o.stood es
    → EachNow (StandsClosed (from o es)) s → EachNow (StandsClosed o) s
each_closed o es s first each image left =
    let c = each image left in (c.0, c.1, closed_first o es c.0 image first c.2)
