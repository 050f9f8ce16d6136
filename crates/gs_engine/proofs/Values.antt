-- What a version holds in the sequential run stands in its file.
use Rattle.std.proofs.Common.{◌≡◌, ℕ, zero, suc, ◌<◌, ◌≤◌, true, List, [], ◌∷◌, length, Option, Some, None, refl, sym, ap, subst, ◌∙◌, arith, inl, inr}
use Rattle.std.specs.Prelude.{All, IsSome, option_map, Bool, ◌||◌, ◌==◌}
use Rattle.std.specs.List.{list_any}
use Rattle.std.proofs.lemmas.Bool.Decides.{eqb_tells}
use Rattle.gs_types.specs.declared.note.Version.{Version}
use Rattle.gs_types.specs.declared.note.Version.TheVariants.{Original, Out, Main}
use Rattle.gs_types.specs.declared.note.OutNote.{OutNote}
use Rattle.gs_types.specs.declared.value.Value.{Value}
use Rattle.gs_types.specs.declared.value.Value.TheVariants as value
use Rattle.gs_types.specs.History.{History, outs_in}
use Rattle.gs_disk.specs.Folder.{Folder}
use Rattle.gs_entries.specs.Order.{dones, has_done}
use Rattle.gs_entries.specs.declared.entry.Entry.{Entry}
use Rattle.gs_entries.specs.declared.entry.Entry.TheVariants as made
use Rattle.gs_store.specs.Names.{version_name, out_name}
use Rattle.gs_talk.specs.Seq.{Run, Known, Task, output_of, task_at, IsTask}
use Rattle.gs_talk_laws.specs.Numbers.{at_number}
use Rattle.gs_talk_laws.specs.Versions.{version_value, left_by, closed_as}
use Rattle.gs_talk_laws.proofs.Fuels.{same_tasks}
use Rattle.gs_history.specs.Setup.{Setup, world_at}
use Rattle.gs_history.specs.Frontier.{IsThere}
use Rattle.gs_life.specs.Origin.{Origin, run_of, UsersAre}
use Rattle.gs_life.specs.Stands.{IsDone, IsRight}
use Rattle.gs_engine.specs.Joined.{MainsStand}
use Rattle.gs_engine.specs.Reading.{IsOwn}

-- ---- the entry of a task that is done

-- task n has an entry of this form
pub record HasEntry (o : Origin) (folder : Folder) (n : ℕ) : Type 0 where
  pub op : ℕ
  pub notes : List OutNote
  pub is : IsDone o folder n op notes

tail_right : (o : Origin) (f : Folder) (e : Entry) (es : List Entry) → All (IsRight o f) (e ∷ es)
    → All (IsRight o f) es
tail_right o f e es all k d lt = all (suc k) d (next lt)
  where
    next : {i m : ℕ} → i < m → suc i < suc m
    next lt = omega arith

first_right : (o : Origin) (f : Folder) (e : Entry) (es : List Entry) → All (IsRight o f) (e ∷ es)
    → IsRight o f e
first_right o f e es all = all 0 e (first (length es))
  where
    first : (m : ℕ) → 0 < suc m
    first m = omega arith

pub has_entry : (o : Origin) (f : Folder) (n : ℕ) (es : List Entry) → All (IsRight o f) es
    → has_done es n ≡ true → HasEntry o f n
has_entry o f n [] all done = absurd cc
has_entry o f n (made.Header t ∷ es) all done =
    has_entry o f n es (tail_right o f (made.Header t) es all) done
has_entry o f n (made.Gate g ∷ es) all done =
    has_entry o f n es (tail_right o f (made.Gate g) es all) done
has_entry o f n (made.Closed ∷ es) all done =
    has_entry o f n es (tail_right o f made.Closed es all) done
has_entry o f n (made.Done m op os ∷ es) all done = elim (eqb_tells n m) [
  | inl same ↦
      record {
        op = op;
        notes = os;
        is = subst (λ (i : ℕ). IsDone o f i op os) (sym same.1)
            (first_right o f (made.Done m op os) es all);
      }
  | inr other ↦ has_entry o f n es (tail_right o f (made.Done m op os) es all)
      (sym (ap (λ (b : Bool). b || list_any (λ i. n == i) (dones es)) other.0) ∙ done)
]

-- ---- versions

left_file : (o : Option Value) (bytes : List ℕ) → left_by o ≡ Some (Known bytes)
    → o ≡ Some (value.File bytes)
left_file (Some (value.File b)) bytes is =
    let same : b ≡ bytes = cc in ap (λ (x : List ℕ). Some (value.File x)) same
left_file (Some (value.Int v)) bytes is = absurd cc
left_file (Some (value.Str s)) bytes is = absurd cc
left_file None bytes is = absurd cc

-- a task that left something was called
called_at : (o : Option Task) (place : ℕ) (v : Value) → output_of o place ≡ Some v
    → (t : Task) × (o ≡ Some t)
called_at (Some t) place v is = (t, refl)
called_at None place v is = absurd cc

closed_bytes : (o : Option (List ℕ)) (bytes : List ℕ) → closed_as o ≡ Some (Known bytes)
    → o ≡ Some bytes
closed_bytes (Some b) bytes is = cc
closed_bytes None bytes is = absurd cc

known_bytes : (o : Option (List ℕ)) (bytes : List ℕ) → option_map Known o ≡ Some (Known bytes)
    → o ≡ Some bytes
known_bytes (Some b) bytes is = cc
known_bytes None bytes is = absurd cc

numbered : (xs : List (List ℕ)) (n : ℕ) (x : List ℕ) → at_number xs n ≡ Some x → n ≤ length xs
numbered xs zero x is = absurd cc
numbered [] (suc n) x is = absurd cc
numbered (y ∷ xs) (suc zero) x is = omega arith
numbered (y ∷ xs) (suc (suc n)) x is =
    let rest = numbered xs (suc n) x is in omega (arith, rest)

-- what a task left, of which the entry is at some fuel
out_stands : (o : Origin) (fuel n place : ℕ) (t : Task) (bytes : List ℕ) (f : Folder)
    → IsTask (run_of o fuel) n t → output_of (Some t) place ≡ Some (value.File bytes)
    → HasEntry o f n → f (out_name n place) ≡ Some bytes
out_stands o fuel n place t bytes f task out entry =
    let done = entry.is in
    let same : done.task ≡ t = same_tasks (run_of o fuel) done.output.fuel fuel n done.task t
    done.output.is task in
    done.files place bytes (ap (λ (u : Task). output_of (Some u) place) same ∙ out)

-- what a version holds that is there, stands in its file
pub value_stands : (o : Origin) (s : Setup) (k count : ℕ) (h : History) (es : List Entry)
    (f : Folder) (v : Version) (bytes : List ℕ) → s.run ≡ run_of o s.run.fuel → UsersAre o f
    → All (IsRight o f) es → ((n : ℕ) → IsSome (outs_in h n) → has_done es n ≡ true)
    → MainsStand s count f → length (world_at s k).closed ≤ count → IsOwn v → IsThere h v
    → version_value s.run.files (world_at s k) v ≡ Some (Known bytes)
    → f (version_name v) ≡ Some bytes
value_stands o s k count h es f (Original x) bytes run users all recorded mains le own there is =
    users x own
    ∙ known_bytes (o.files x) bytes (sym (ap (λ (r : Run). r.files x) run) ∙ is)
value_stands o s k count h es f (Out n place) bytes run users all recorded mains le own there is =
    let out = left_file (output_of (task_at (world_at s k).tasks n) place) bytes is in
    let t = called_at (task_at (world_at s k).tasks n) place (value.File bytes) out in
    let task : IsTask s.run n t.0 = record { moment = k; is = t.1 } in
    out_stands o s.run.fuel n place t.0 bytes f (subst (λ (r : Run). IsTask r n t.0) run task)
    (sym (ap (λ (u : Option Task). output_of u place) t.1) ∙ out)
    (has_entry o f n es all (recorded n there))
value_stands o s k count h es f (Main n) bytes run users all recorded mains le own there is =
    let at = closed_bytes (at_number (world_at s k).closed n) bytes is in
    let few = numbered (world_at s k).closed n bytes at in
    mains k n bytes (omega (arith, few, le)) at
