-- What is recorded where a program has ended.
use Rattle.std.proofs.Common.{◌≡◌, ◌++◌, ℕ, zero, suc, Bool, true, false, refl, sym, ap, ◌∙◌, subst, List, [], ◌∷◌, map, Some, if◌then◌else◌}
use Rattle.std.specs.Prelude.{bytes_eq}
use Rattle.std.specs.List.{slice_get, list_any}
use Rattle.gs_types.specs.declared.action.Action.{Action}
use Rattle.gs_types.specs.declared.action.Action.TheVariants as action
use Rattle.gs_types.specs.declared.note.FinalNote.{FinalNote}
use Rattle.gs_types.specs.declared.note.Version.{Version}
use Rattle.gs_types.specs.declared.note.Version.TheVariants.{Original, Out, Main}
use Rattle.gs_types.specs.History.{History}
use Rattle.gs_names.specs.Table.{names_in, writes_in}
use Rattle.gs_names.specs.Writes.{Write, with_name, first_written}
use Rattle.gs_graph.specs.Graph.{actions_in}
use Rattle.gs_talk.specs.Seq.{Task, task_at}
use Rattle.gs_talk.specs.Actions.{acts, Ends}
use Rattle.gs_talk_laws.specs.Versions.{Written, latest, latest_from, writings, closed_as, version_value, IsStored}
use Rattle.gs_talk_laws.proofs.Lists.{get_within}
use Rattle.gs_talk_laws.proofs.Stays.{writings_are_stored}
use Rattle.gs_history.specs.Setup.{Setup, world_at, count_at}
use Rattle.gs_history.specs.Frontier.{IsDone, AllDone}
use Rattle.gs_tables.specs.Finals.{made_length, IsTold, AreTold}
use Rattle.gs_tables.specs.Gate.{written_names, IsFinal, AreFinals, IsGated}
use Rattle.gs_tables.specs.Holds.{Holds}
use Rattle.gs_tables.specs.Marks.{with_names, AreMade}
use Rattle.gs_tables.specs.Outs.{noted_length}
use Rattle.gs_tables.specs.Written.{written_back}
use Rattle.gs_tables.specs.declared.tables.Tables.{Tables}
use Rattle.gs_tables.proofs.Naming.{flip_test, any_with, any_at, is_numbered}
use Rattle.gs_tables.proofs.Numbering.{made_then}
use Rattle.gs_tables.proofs.Reading.{latest_is, opens, is_left_of, out_there, main_stored, main_there}

-- ---- the list that is told

pub told_then : (t : Tables) (xs : List (List ℕ)) (fs : List FinalNote) (x : List ℕ) (f : FinalNote) → AreTold t xs fs → IsTold t x f → AreTold t (xs ++ x ∷ []) (fs ++ f ∷ [])
told_then t [] [] x f told is = (is, tt)
told_then t [] (g ∷ fs) x f told is = absurd told
told_then t (y ∷ xs) [] x f told is = absurd told
told_then t (y ∷ xs) (g ∷ fs) x f told is = (told.0, told_then t xs fs x f told.1 is)

-- ---- the written names

first_back : (ws : List Written) (acc : List Write) → first_written (written_back ws acc) ≡ with_names (first_written acc) (map (λ (w : Written). w.name) ws)
first_back [] acc = refl
first_back (w ∷ ws) acc = first_back ws ((w.name, w.version) ∷ acc)

first_is : (t : Tables) (s : Setup) (k : ℕ) (h : History) → Holds t s k h → first_written (writes_in t.names) ≡ written_names (writings s.run k)
first_is t s k h holds = ap first_written holds.writes ∙ first_back (writings s.run k) []

-- ---- a written name has a version that was made

abbrev is_made : Version → Bool
is_made (Original name) = false
is_made (Out n place) = true
is_made (Main j) = true

stored_made : (w : _) (name : List ℕ) (v : Version) → IsStored w name v → is_made v ≡ true
stored_made w name (Original x) stored = absurd stored
stored_made w name (Out n place) stored = refl
stored_made w name (Main j) stored = refl

latest_made : (x : List ℕ) (v : Version) (acc : List (List ℕ)) (ws : List Written) → ((i : ℕ) (w : Written) → slice_get ws i ≡ Some w → is_made w.version ≡ true) → (list_any (bytes_eq x) acc ≡ true → is_made v ≡ true)
    → list_any (bytes_eq x) (with_names acc (map (λ (w : Written). w.name) ws)) ≡ true → is_made (latest_from v x ws) ≡ true
latest_made x v acc [] each old among = old among
latest_made x v acc (w ∷ ws) each old among = latest_made x (if bytes_eq w.name x then w.version else v) (with_name acc w.name) ws (λ i y e. each (suc i) y e) (by_test (bytes_eq w.name x) refl) among
  where
    by_test : (b : Bool) → bytes_eq w.name x ≡ b → list_any (bytes_eq x) (with_name acc w.name) ≡ true → is_made (if b then w.version else v) ≡ true
    by_test true e is = each 0 w refl
    by_test false e is = old (any_with (bytes_eq x) acc w.name (flip_test w.name x e) is)

made_name : (s : Setup) (k : ℕ) (x : List ℕ) → list_any (bytes_eq x) (written_names (writings s.run k)) ≡ true → is_made (latest x (writings s.run k)) ≡ true
made_name s k x among = latest_made x (Original x) [] (writings s.run k) (λ j w at. stored_made (world_at s k) w.name w.version (writings_are_stored s.run k j w at)) (λ none. absurd cc) among

-- ---- its content

task_done : (s : Setup) (k n : ℕ) (h : History) (t : Task) → AllDone h (count_at s k) → task_at (world_at s k).tasks n ≡ Some t → IsDone h n
task_done s k zero h t done at = absurd cc
task_done s k (suc m) h t done at = done m (get_within (world_at s k).tasks m t at)

final_of : (t : Tables) (s : Setup) (k : ℕ) (h : History) (x : List ℕ) (f : FinalNote) (v : Version) → Holds t s k h → AllDone h (count_at s k) → IsTold t x f → list_any (bytes_eq x) (names_in t.names) ≡ true → f.version ≡ v → is_made v ≡ true → IsFinal s k (names_in t.names) x f
final_of t s k h x f (Original name) holds done told numbered is made = absurd cc
final_of t s k h x f (Out n place) holds done told numbered is made =
    let stands = opens t s k h x (Out n place) holds (sym told.version ∙ is) in
    let there = is_left_of s k n place x stands in
    let left = out_there t s k h n place x holds stands (task_done s k n h there.task done there.is) in
    record {
      name = told.name numbered;
      version = told.version ∙ latest_is t s k h holds x;
      bytes = left.bytes;
      content = ap (version_value s.run.files (world_at s k)) is ∙ left.holds;
      len = told.len ∙ ap (made_length t.rows.items t.mains.items) is ∙ ap noted_length left.noted;
    }
final_of t s k h x f (Main j) holds done told numbered is made =
    let stored = main_stored s k j x (opens t s k h x (Main j) holds (sym told.version ∙ is)) in
    record {
      name = told.name numbered;
      version = told.version ∙ latest_is t s k h holds x;
      bytes = stored.0;
      content = ap (version_value s.run.files (world_at s k)) is ∙ ap closed_as stored.1;
      len = told.len ∙ ap (made_length t.rows.items t.mains.items) is ∙ main_there t s k h j stored.0 holds stored.1;
    }

finals_of : (t : Tables) (s : Setup) (k : ℕ) (h : History) (xs : List (List ℕ)) (fs : List FinalNote) → Holds t s k h → AllDone h (count_at s k)
    → ((i : ℕ) (x : List ℕ) → slice_get xs i ≡ Some x → list_any (bytes_eq x) (written_names (writings s.run k)) ≡ true) → AreTold t xs fs → AreFinals s k (names_in t.names) xs fs
finals_of t s k h [] [] holds done among told = tt
finals_of t s k h [] (f ∷ fs) holds done among told = absurd told
finals_of t s k h (x ∷ xs) [] holds done among told = absurd told
finals_of t s k h (x ∷ xs) (f ∷ fs) holds done among told =
    let is : f.version ≡ latest x (writings s.run k) = told.0.version ∙ latest_is t s k h holds x in
    let numbered = ap (list_any (bytes_eq x)) holds.names ∙ is_numbered s.run k x (among 0 x refl) in
    (final_of t s k h x f f.version holds done told.0 numbered refl (ap is_made is ∙ made_name s k x (among 0 x refl)), finals_of t s k h xs fs holds done (λ i y e. among (suc i) y e) told.1)

-- ---- the whole

pub gated : (t : Tables) (s : Setup) (k : ℕ) (h : History) (names : List (List ℕ)) (finals : List FinalNote) (actions : List Action) → Holds t s k h → AllDone h (count_at s k)
    → names ≡ names_in t.names → AreTold t (first_written (writes_in t.names)) finals → actions ≡ actions_in t.graph ++ action.End ∷ [] → IsGated s k names finals actions
gated t s k h names finals actions holds done names_are told actions_are =
    let here = subst (λ (xs : List (List ℕ)). AreTold t xs finals) (first_is t s k h holds) told in
    record {
      names_are = names_are ∙ holds.names;
      finals_are = subst (λ (ns : List (List ℕ)). AreFinals s k ns (written_names (writings s.run k)) finals) (sym names_are) (finals_of t s k h (written_names (writings s.run k)) finals holds done (any_at (written_names (writings s.run k))) here);
      actions_are = subst (λ (ns : List (List ℕ)). AreMade ns actions (acts s.run k ++ Ends ∷ [])) (sym names_are) (subst (λ (list : List Action). AreMade (names_in t.names) list (acts s.run k ++ Ends ∷ [])) (sym actions_are) (made_then (names_in t.names) (actions_in t.graph) (acts s.run k) action.End Ends holds.made tt));
    }
