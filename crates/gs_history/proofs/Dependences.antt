-- A task truly depends on tasks before it.
use Rattle.std.proofs.Common.{◌≡◌, ◌<◌, ◌+◌, ℕ, zero, suc, sym, ap, ◌∙◌, arith, Some, inl, inr}
use Rattle.std.specs.Prelude.{List, Option, slice_get}
use Rattle.gs_types.specs.declared.note.Version.{Version}
use Rattle.gs_talk_laws.specs.Numbers.{at_number}
use Rattle.gs_types.specs.declared.note.Version.TheVariants.{Original, Out, Main}
use Rattle.gs_talk.specs.Seq.{Run, World, Task, seq, task_at}
use Rattle.gs_talk.specs.Actions.{DependsOn}
use Rattle.gs_talk_laws.specs.Versions.{IsVersionOf, readings}
use Rattle.gs_talk_laws.proofs.Depends.{reads_what_it_depends_on, depends_on_what_it_reads}
use Rattle.gs_types.specs.History.{History}
use Rattle.gs_history.specs.Setup.{Setup}
use Rattle.gs_history.specs.Frontier.{IsDone, IsThere}
use Rattle.gs_history.specs.Laws.{InputsAreVersions}
use Rattle.gs_talk_laws.proofs.Stays.{tasks_read_versions, tasks_stay, readings_stay}

-- tasks are numbered from 1
pub number_some : (w : World) (n : ℕ) (t : Task) → task_at w.tasks n ≡ Some t → 0 < n
number_some w zero t e = absurd cc
number_some w (suc n) t e = omega arith

left_some : (w : World) (name : List ℕ) (m place : ℕ) → IsVersionOf w name (Out m place) → 0 < m
left_some w name m place (inl e) = absurd cc
left_some w name m place (inr left) = number_some w m left.task left.is

pub depends_before : (r : Run) (k n m : ℕ) (t : Task) → task_at (seq r k).world.tasks n ≡ Some t → DependsOn r n m → (0 < m) × (m < n)
depends_before r k n m t called depends =
    let reads = reads_what_it_depends_on r n m depends in
    let later = k + reads.moment in
    let there = tasks_stay r k later n t (omega arith) called in
    let known = tasks_read_versions r later n t there in
    let stays = readings_stay r reads.moment later n reads.reads (omega arith) reads.is in
    let same : Some reads.reads ≡ Some known.0 = sym stays ∙ known.1 in
    let lists : reads.reads ≡ known.0 = cc in
    let read = known.2.each reads.place (Out m reads.from) (ap (λ (vs : List (Option Version)). slice_get vs reads.place) (sym lists) ∙ reads.version) in
    (left_some (seq r later).world read.name m reads.from read.version, read.before)

-- ---- what a task reads, by moments

one_reading : (r : Run) (k j n : ℕ) (reads other : List (Option Version)) → at_number (readings r k) n ≡ Some reads → at_number (readings r j) n ≡ Some other → reads ≡ other
one_reading r k j n reads other a b =
    let x = readings_stay r k (k + j) n reads (omega arith) a in
    let y = readings_stay r j (k + j) n other (omega arith) b in
    let same : Some reads ≡ Some other = sym x ∙ y in cc

version_there : (s : Setup) (h : History) (k n i : ℕ) (reads : List (Option Version)) → at_number (readings s.run k) n ≡ Some reads → ((m : ℕ) → DependsOn s.run n m → IsDone h m) → (v : Version) → slice_get reads i ≡ Some (Some v) → IsThere h v
version_there s h k n i reads is done (Original name) e = tt
version_there s h k n i reads is done (Main j) e = tt
version_there s h k n i reads is done (Out m place) e = done m (depends_on_what_it_reads s.run n m (record { moment = k; reads = reads; place = i; from = place; is = is; version = e }))

pub inputs_are_versions : InputsAreVersions
inputs_are_versions s h k n reads is = record {
  there = λ done i v e. version_there s h k n i reads is done v e;
  done = λ there m depends.
      let from = reads_what_it_depends_on s.run n m depends in
      let same = one_reading s.run from.moment k n from.reads reads from.is is in
      there from.place (Out m from.from) (ap (λ (vs : List (Option Version)). slice_get vs from.place) (sym same) ∙ from.version);
}
