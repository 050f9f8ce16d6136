-- At the frontier the next task has no note of another form.
use Rattle.std.proofs.Common.{◌≡◌, ◌+◌, ◌≤◌, ℕ, zero, suc, refl, sym, ap, ◌∙◌, subst, [], ◌∷◌, length, length-append, arith, Option, Some, None, inl, inr}
use Rattle.std.specs.Prelude.{List}
use Rattle.gs_types.specs.declared.value.Value.{Value}
use Rattle.gs_types.specs.History.{History, outs_in}
use Rattle.gs_talk.specs.declared.question.Question.{Question}
use Rattle.gs_talk.specs.declared.question.Question.TheVariants as q
use Rattle.gs_talk.specs.Talk.{Dialogue, Done, Ask, Stop}
use Rattle.gs_talk.specs.Seq.{Task, Standing, seq, step, task_of}
use Rattle.gs_talk.specs.Actions.{Act, acts_by}
use Rattle.gs_talk_laws.proofs.Staying.{next_seq}
use Rattle.gs_history.specs.Setup.{Noting, Setup, world_at, rest_at, count_at}
use Rattle.gs_history.specs.Notes.{note_at, OtherTask, OtherNext, NoMisfit}
use Rattle.gs_history.specs.Frontier.{one_unless, unfinished, MayAnswer, MayGoOn, IsWithin, IsFrontier}
use Rattle.gs_history.proofs.Called.{Adds, next_adds}
use Rattle.gs_tables.specs.Holds.{IsAhead, Holds}
use Rattle.gs_tables.specs.declared.tables.Tables.{Tables}

-- ---- the window has room

after_one : (s : Setup) (h : History) (k : ℕ) (after : List Task) (added : List Act) → Adds s.run (world_at s k) (rest_at s k) after added → MayGoOn s h k (rest_at s k) → unfinished h (count_at s k) ≤ s.window → unfinished h (length after) ≤ s.window
after_one s h k after added (inl none) may le = subst (λ (ts : List Task). unfinished h (length ts) ≤ s.window) (sym none.same) le
after_one s h k after added (inr one) may le =
    let room = subst (MayGoOn s h k) one.question may in
    let t = task_of s.run.law s.run.texts.ops (world_at s k).files one.op one.args in
    let longer : length after ≡ suc (count_at s k) = ap length one.more ∙ length-append (world_at s k).tasks (t ∷ []) ∙ omega arith in
    subst (λ (i : ℕ). unfinished h i ≤ s.window) (sym longer) room

none_first : (s : Setup) (h : History) → unfinished h (count_at s zero) ≤ s.window
unfolding seq
none_first s h = omega arith

pub room_within : (s : Setup) (h : History) (k : ℕ) → IsWithin s h k → unfinished h (count_at s k) ≤ s.window
unfolding IsWithin
room_within s h zero within = none_first s h
room_within s h (suc k) within =
    let now = after_one s h k (step s.run (seq s.run k)).world.tasks (acts_by s.run (world_at s k) (rest_at s k)) (next_adds s.run k) within.1 (room_within s h k within.0) in
    subst (λ (x : Standing). unfinished h (length x.world.tasks) ≤ s.window) (sym (next_seq s.run k)) now

-- ---- a noted task is done

ahead_done : (s : Setup) (n : ℕ) (x : Noting) (o : Option (List Value)) → IsAhead s n o → note_at s.notes n ≡ Some x → one_unless o ≡ 0
ahead_done s n x None ahead noted = absurd cc
ahead_done s n x (Some outs) ahead noted = refl

other_may : (s : Setup) (k : ℕ) (h : History) (x : Noting) (q : Question) → unfinished h (suc (count_at s k)) ≤ s.window → OtherTask s k x q → MayAnswer s h k q
other_may s k h x (q.Call op line args) room is = room
other_may s k h x (q.Use n place) room is = absurd is
other_may s k h x (q.OpenFile name mode line) room is = absurd is
other_may s k h x (q.CloseFile name bytes) room is = absurd is
other_may s k h x q.Barrier room is = absurd is
other_may s k h x q.End room is = absurd is
other_may s k h x (q.Fault line kind) room is = absurd is
other_may s k h x q.FuelOut room is = absurd is

other_goes : (s : Setup) (k : ℕ) (h : History) (x : Noting) (d : Dialogue) → unfinished h (suc (count_at s k)) ≤ s.window → OtherNext s k x d → MayGoOn s h k d
other_goes s k h x (Done n st) room is = absurd is
other_goes s k h x (Ask q st next) room is = other_may s k h x q room is
other_goes s k h x (Stop q st) room is = absurd is

pub frontier_fits : (s : Setup) (k : ℕ) (h : History) → IsWithin s h k → ((n : ℕ) → count_at s k + 1 ≡ n → IsAhead s n (outs_in h n)) → IsFrontier s h k → NoMisfit s k
frontier_fits s k h within ahead frontier index is =
    let n = count_at s k + 1 in
    let done = ahead_done s n is.note (outs_in h n) (ahead n refl) is.noted in
    let at : one_unless (outs_in h (suc (count_at s k))) ≡ 0 = ap (λ (i : ℕ). one_unless (outs_in h i)) (omega arith) ∙ done in
    let le = room_within s h k within in
    let room : unfinished h (suc (count_at s k)) ≤ s.window = omega arith in
    frontier (other_goes s k h is.note (rest_at s k) room is.other)

-- where the tables stand for the questions
pub holds_fits : (t : Tables) (s : Setup) (k : ℕ) (h : History) → Holds t s k h → IsFrontier s h k → NoMisfit s k
holds_fits t s k h holds frontier = frontier_fits s k h holds.within (λ n e. holds.ahead n (omega arith)) frontier
