-- One look more.
use Rattle.std.proofs.Common.{◌≡◌, ℕ, List, [], ◌∷◌, ◌++◌, refl, sym, ap, subst}
use Rattle.gs_talk.specs.Seq.{Files}
use Rattle.gs_types.specs.History.{History}
use Rattle.gs_looks.specs.declared.look.Look.{Look}
use Rattle.gs_looks.specs.declared.look.Looks.{Looks}
use Rattle.gs_looks.specs.declared.look.Seen.{Seen}
use Rattle.gs_looks.specs.Looked.{looked, looks_in, IsSeen, AreSeen}
use Rattle.gs_history.specs.Setup.{Setup}
use Rattle.gs_tables.specs.Holds.{Holds}
use Rattle.gs_tables.specs.declared.tables.Tables.{Tables}

seen_more : (looks : List Look) (first : Files) (name : List ℕ) (seen : Seen) → AreSeen looks first → IsSeen (first name) seen → AreSeen (looks ++ looked name seen ∷ []) first
seen_more [] first name seen are is = (is, tt)
seen_more (l ∷ looks) first name seen are is = (are.0, seen_more looks first name seen are.1 is)

-- tables with other looks
pub with_looks : (t : Tables) (looks : Looks) (s : Setup) (k : ℕ) (h : History) → AreSeen (looks_in looks) s.run.files → Holds t s k h → Holds (record t { looks = looks }) s k h
with_looks t looks s k h are holds = record {
  count = holds.count;
  rows = holds.rows;
  mains = holds.mains;
  looks = are;
  writes = holds.writes;
  names = holds.names;
  made = holds.made;
  graph = holds.graph;
  unfinished_is = holds.unfinished_is;
  window = holds.window;
  notes = holds.notes;
  ahead = holds.ahead;
  within = holds.within;
  good = holds.good;
  fit = holds.fit;
  rules = holds.rules;
  known = holds.known;
}

pub look_holds : (t : Tables) (looks : Looks) (s : Setup) (k : ℕ) (h : History) (name : List ℕ) (seen : Seen) → looks_in looks ≡ looks_in t.looks ++ looked name seen ∷ [] → IsSeen (s.run.files name) seen → Holds t s k h → Holds (record t { looks = looks }) s k h
look_holds t looks s k h name seen e is holds = with_looks t looks s k h (subst (λ (l : List Look). AreSeen l s.run.files) (sym e) (seen_more (looks_in t.looks) s.run.files name seen holds.looks is)) holds
