-- Notes fit their tasks unless one was called that has a note of another form.
use Rattle.std.proofs.Common.{◌≡◌, ◌+◌, ℕ, zero, suc, true, refl, sym, ap, ◌∙◌, subst, [], ◌∷◌, ◌++◌, length, arith, Some, inl, inr, ◌⊎◌}
use Rattle.std.specs.Prelude.{List}
use Rattle.std.proofs.lemmas.Bool.{cases_Bool}
use Rattle.gs_idl.specs.Interface.{params_at}
use Rattle.gs_talk.specs.Seq.{World, Task, seq, step, task_at, task_of}
use Rattle.gs_talk.specs.Actions.{Act, acts_by}
use Rattle.gs_talk_laws.proofs.Lists.{get_either}
use Rattle.gs_talk_laws.proofs.Staying.{next_seq}
use Rattle.gs_history.specs.Setup.{Noting, Setup, world_at, rest_at, count_at}
use Rattle.gs_history.specs.Notes.{is_form, note_at, OtherNext, NoMisfit}
use Rattle.gs_history.specs.Laws.{NotesFit, NotesFitUnlessMisfit}
use Rattle.gs_history.proofs.Called.{OneTask, Adds, next_adds}

task_either : (xs : List Task) (x : Task) (n : ℕ) (t : Task) → task_at (xs ++ x ∷ []) n ≡ Some t → (task_at xs n ≡ Some t) ⊎ ((n ≡ length xs + 1) × (x ≡ t))
task_either xs x zero t e = absurd cc
task_either xs x (suc n) t e = elim (get_either xs x n t e) [
  | inl before ↦ inl before
  | inr last ↦ inr (let at = last.0 in omega arith, last.1)
]

-- the task that was called has no note of another form
called_fits : (s : Setup) (k n : ℕ) (t : Task) (x : Noting) (after : List Task) (added : List Act) → NoMisfit s k → (one : OneTask s.run (world_at s k) (rest_at s k) after added) → n ≡ count_at s k + 1 → task_of s.run.law s.run.texts.ops (world_at s k).files one.op one.args ≡ t → note_at s.notes n ≡ Some x → is_form x t.op t.params ≡ true
called_fits s k n t x after added none one number is noted = elim (cases_Bool (is_form x one.op (params_at s.run.texts.ops one.op))) [
  | inl fits ↦ ap (λ (u : Task). is_form x u.op u.params) (sym is) ∙ fits
  | inr other ↦ absurd (none x.index (record {
    note = x;
    noted = ap (note_at s.notes) (sym number) ∙ noted;
    index_is = refl;
    other = subst (OtherNext s k x) (sym one.question) (one.goes, other);
  }))
]

one_more : (s : Setup) (k n : ℕ) (t : Task) (x : Noting) (after : List Task) (added : List Act) → NotesFit s k → NoMisfit s k → Adds s.run (world_at s k) (rest_at s k) after added → task_at after n ≡ Some t → note_at s.notes n ≡ Some x → is_form x t.op t.params ≡ true
one_more s k n t x after added fit none (inl same) e noted = fit n t x (ap (λ (ts : List Task). task_at ts n) (sym same.same) ∙ e) noted
one_more s k n t x after added fit none (inr one) e noted =
    elim (task_either (world_at s k).tasks (task_of s.run.law s.run.texts.ops (world_at s k).files one.op one.args) n t (ap (λ (ts : List Task). task_at ts n) (sym one.more) ∙ e)) [
      | inl before ↦ fit n t x before noted
      | inr last ↦ called_fits s k n t x after added none one last.0 last.1 noted
    ]

first_fits : (s : Setup) → NotesFit s zero
unfolding seq
first_fits s zero t x e noted = absurd cc
first_fits s (suc n) t x e noted = absurd cc

pub notes_fit : NotesFitUnlessMisfit
notes_fit s zero none n t x e noted = first_fits s n t x e noted
notes_fit s (suc k) none n t x e noted =
    let before = notes_fit s k (λ j lt. none j (omega arith)) in
    one_more s k n t x (step s.run (seq s.run k)).world.tasks (acts_by s.run (world_at s k) (rest_at s k)) before (none k (omega arith)) (next_adds s.run k)
    (ap (λ (w : World). task_at w.tasks n) (ap (λ i. i.world) (sym (next_seq s.run k))) ∙ e) noted
