-- The run of the made program, call after call, to its end.
use Rattle.std.proofs.Common.{◌≡◌, ◌≢◌, ℕ, zero, suc, ◌+◌, ◌-◌, ◌*◌, ◌%◌, ◌<◌, ◌≤◌, Bool, true, false, if◌then◌else◌, List, [], ◌∷◌, ◌++◌, length, length-append, Option, Some, None, refl, sym, ap, ◌∙◌, subst, arith}
use Rattle.std.specs.Prelude.{◌==◌}
use Rattle.std.specs.List.{list_any}
use Rattle.std.specs.Str.{bytes_eq}
use Rattle.std.proofs.lemmas.Slice.Eq.{bytes_eq-Decides}
use Rattle.std.proofs.lemmas.List.Folds.{list_any-append}
use Rattle.gs_idl.specs.Interface.{params_at}
use Rattle.gs_tree.specs.Program.{Code, Codes, none, one}
use Rattle.gs_types.specs.declared.limits.TheConstants.{FUEL_DEFAULT}
use Rattle.gs_types.specs.declared.value.Value.{Value}
use Rattle.gs_talk.specs.declared.question.CallArg.{CallArg}
use Rattle.gs_talk.specs.declared.question.Question.TheVariants.{Call, End}
use Rattle.gs_talk.specs.declared.question.Answer.{Answer}
use Rattle.gs_talk.specs.declared.question.Answer.TheVariants.{Went}
use Rattle.gs_talk.specs.Dialogues.{Given, State, Dialogue, Ask, Stop, then_do}
use Rattle.gs_talk.specs.Talk.{run_all, finish}
use Rattle.gs_talk.specs.Seq.{Files, World, first_world, first_refused, is_lost, any_lost, Task, task_of, files_by, ran, Standing, Run, step, seq, last_by, last_of}
use Rattle.gs_report.specs.Generator.{behind, drawn, after_tasks, self_gives}
use Rattle.gs_made.specs.Texts.{self_interface, file_drawn, line_of_task, mark_call, hash_call, task_call, task_calls}
use Rattle.gs_made.specs.Runs.{IsApart, HoldAll, MadeRunsEnd}
use Rattle.gs_made.proofs.Files.{drawn_low, named_is_name}
use Rattle.gs_made.proofs.Calls.{state_of, MayPass, mark_args, hash_args, Asks, made_texts, mark_asks, hash_asks}
use Rattle.gs_made.proofs.Worlds.{Served, mark_served, hash_served}

abbrev run_of : (idl_name program_name : List ℕ) (body : Codes) (off : ℕ) → Files → Run
run_of i p body off files = record { texts = made_texts i p body off; law = self_gives; files = files; fuel = FUEL_DEFAULT }

-- a run that goes on with these statements
abbrev standing : (t : Given) → World → Codes → (fuel : ℕ) → State → Standing
standing t w others fuel s = record { world = w; rest = then_do (run_all t others fuel s) (finish t.program.off) }

-- k tasks were called, and these statements are left
record Stands (r : Run) (k : ℕ) (others : Codes) : Type 0 where
  names : List (List ℕ)
  few : length names ≤ 3 * k
  world : World
  is : seq r k ≡ standing r.texts world others (9999999 - k) (state_of names k)
  holds : HoldAll world.files
  count : length world.tasks ≡ k
  whole : any_lost world ≡ false

-- ---- one task

called_step : (r : Run) (w : World) (op line : ℕ) (args : List CallArg) (s : State) (next : Answer → Dialogue)
    → first_refused w.files (params_at r.texts.ops op) args ≡ None
    → step r (record { world = w; rest = Ask (Call op line args) s next }) ≡ record { world = ran (task_of r.law r.texts.ops w.files op args) w; rest = next Went }
called_step r w op line args s next e = rw (e, e) refl

next_seq : (r : Run) (k : ℕ) → seq r (suc k) ≡ step r (seq r k)
unfolding seq
next_seq r k = refl

-- the task that is called
abbrev task_in : World → (op : ℕ) → List CallArg → Task
task_in w op args = task_of self_gives self_interface.ops w.files op args

still_whole : (tasks : List Task) (t : Task) (outs : List Value) → list_any is_lost tasks ≡ false → t.outs ≡ Some outs → list_any is_lost (tasks ++ t ∷ []) ≡ false
still_whole tasks t outs e f = list_any-append is_lost tasks (t ∷ []) ∙ (rw (e, f) refl)

one_task : (i p : List ℕ) (body : Codes) (off : ℕ) (files : Files) (k : ℕ) (code : Code) (others : Codes) (op : ℕ) (args : List CallArg) → k < 2000
    → ((m : ℕ) (names : List (List ℕ)) → length names ≤ 3 * k → Asks (made_texts i p body off) code m k names op args)
    → ((now : Files) → HoldAll now → Served now op args)
    → Stands (run_of i p body off files) k (one code others) → Stands (run_of i p body off files) (suc k) others
one_task i p body off files k code others op args lt ask serve st =
    let r = run_of i p body off files in
    let t = made_texts i p body off in
    let m : ℕ = 9999999 - suc k in
    let fuel : 9999999 - k ≡ suc m = omega arith in
    let a = ask m st.names st.few in
    let v = serve st.world.files st.holds in
    let one_more : k + 1 ≡ suc k = omega arith in
    let called : then_do (run_all t (one code others) (9999999 - k) (state_of st.names k)) (finish off)
    ≡ Ask (Call op a.line args) (state_of a.others (k + 1)) (λ x. then_do (then_do (a.next x) (run_all t others)) (finish off)) =
    ap (λ (n : ℕ). then_do (run_all t (one code others) n (state_of st.names k)) (finish off)) fuel
    ∙ ap (λ (d : Dialogue). then_do (then_do d (run_all t others)) (finish off)) a.asks in
    let goes : then_do (then_do (a.next Went) (run_all t others)) (finish off) ≡ then_do (run_all t others m (state_of a.others (suc k))) (finish off) =
    ap (λ (d : Dialogue). then_do (then_do d (run_all t others)) (finish off)) a.goes
    ∙ ap (λ (n : ℕ). then_do (run_all t others m (state_of a.others n)) (finish off)) one_more in
    let w : World = ran (task_in st.world op args) st.world in
    record {
      names = a.others;
      few = omega (arith, a.few);
      world = w;
      is = next_seq r k ∙ ap (step r) (st.is ∙ ap (λ (d : Dialogue). record { world = st.world; rest = d }) called)
          ∙ called_step r st.world op a.line args (state_of a.others (k + 1)) _ v.taken
          ∙ ap (λ (d : Dialogue). record { world = w; rest = d }) goes;
      holds = subst (λ (o : Option (List Value)). HoldAll (files_by o (params_at self_interface.ops op) args st.world.files)) (sym v.gave) v.holds;
      count = omega (arith, st.count, length-append st.world.tasks (task_in st.world op args ∷ []));
      whole = still_whole st.world.tasks (task_in st.world op args) v.outs st.whole v.gave;
    }

-- ---- all tasks

no_match : (a b : List ℕ) → a ≢ b → bytes_eq a b ≡ false
no_match a b ne = by (bytes_eq a b) refl
  where
    by : (t : Bool) → bytes_eq a b ≡ t → t ≡ false
    by true e = absurd (ne ((bytes_eq-Decides a b).0 e))
    by false e = refl

may_pass : (i p : List ℕ) (body : Codes) (off x : ℕ) → IsApart i → IsApart p → MayPass (made_texts i p body off) (file_drawn x)
may_pass i p body off x apart_i apart_p = record {
  named = named_is_name (drawn x % 16) (drawn_low x);
  apart = (let e = no_match (file_drawn x) i (apart_i (drawn x % 16) (drawn_low x)) in let f = no_match (file_drawn x) p (apart_p (drawn x % 16) (drawn_low x)) in rw (e, f) refl);
}

all_tasks : (i p : List ℕ) (body : Codes) (off : ℕ) (files : Files) (seed k : ℕ) (others : Codes) → body ≡ task_calls seed k others → k ≤ 2000
    → IsApart i → IsApart p → HoldAll files → Stands (run_of i p body off files) k others
unfolding seq
all_tasks i p body off files seed zero others e le apart_i apart_p h = record {
  names = [];
  few = omega arith;
  world = first_world files;
  is = ap (λ (c : Codes). standing (made_texts i p body off) (first_world files) c 9999999 (state_of [] 0)) e;
  holds = h;
  count = refl;
  whole = refl;
}
all_tasks i p body off files seed (suc k) others e le apart_i apart_p h =
    by (drawn x % 4 == 0) (all_tasks i p body off files seed k (one (task_call (suc k) x) others) e (omega arith) apart_i apart_p h)
  where
    x : ℕ
    x = after_tasks seed k

    pass : (y : ℕ) → MayPass (made_texts i p body off) (file_drawn y)
    pass y = may_pass i p body off y apart_i apart_p

    by : (b : Bool) → Stands (run_of i p body off files) k (one (if b then mark_call (line_of_task (suc k)) (suc k) (behind x) else hash_call (line_of_task (suc k)) (behind x)) others)
        → Stands (run_of i p body off files) (suc k) others
    by true st = one_task i p body off files k _ others 1 (mark_args (suc k) (file_drawn (behind x))) (omega arith)
        (λ m names few. mark_asks i p body off (line_of_task (suc k)) (suc k) (behind x) m k names (omega arith) few (pass (behind x)))
        (λ now here. mark_served now (drawn (behind x) % 16) (suc k) (drawn_low (behind x)) here) st
    by false st = one_task i p body off files k _ others 0 (hash_args (file_drawn (behind x)) (file_drawn (behind (behind x))) (file_drawn (behind (behind (behind x))))) (omega arith)
        (λ m names few. hash_asks i p body off (line_of_task (suc k)) (behind x) m k names (omega arith) few (pass (behind x)) (pass (behind (behind x))) (pass (behind (behind (behind x)))))
        (λ now here. hash_served now (drawn (behind x) % 16) (drawn (behind (behind x)) % 16) (drawn (behind (behind (behind x))) % 16)
        (drawn_low (behind x)) (drawn_low (behind (behind x))) (drawn_low (behind (behind (behind x)))) here) st

-- ---- the end

last_end : (t : Given) (w : World) (names : List (List ℕ)) (n : ℕ) → n ≤ 2000 → any_lost w ≡ false
    → last_of (standing t w none (9999999 - n) (state_of names n)) ≡ Some End
last_end t w names n le e =
    let fuel : 9999999 - n ≡ suc (9999998 - n) = omega arith in
    ap (λ (m : ℕ). last_of (standing t w none m (state_of names n))) fuel ∙ ap (λ (b : Bool). last_by b (Stop End (state_of names n))) e

pub made_runs_end : MadeRunsEnd
made_runs_end i p files seed n le apart_i apart_p h =
    let body : Codes = task_calls seed n none in
    let st = all_tasks i p body (n + 3) files seed n none refl le apart_i apart_p h in
    record {
      ends = record { last = ap last_of st.is ∙ last_end (made_texts i p body (n + 3)) st.world st.names n le st.whole };
      tasks = ap (λ (at : Standing). length at.world.tasks) st.is ∙ st.count;
      whole = ap (λ (at : Standing). any_lost at.world) st.is ∙ st.whole;
    }
