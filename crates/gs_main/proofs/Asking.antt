-- A program after a list of answers.
use Rattle.std.proofs.Common.{◌≡◌, ℕ, Bool, true, false, refl, sym, ap, ◌∙◌, subst, List, [], ◌∷◌, ◌++◌, map, Result, Ok, Err, None, append-nil, append_assoc, Option, Some}
use Rattle.std.specs.Prelude.{IfOk, OnOk}
use Rattle.gs_check.specs.declared.checked.Checked.{Checked}
use Rattle.gs_check.specs.Passing.{program_in, interface_in}
use Rattle.gs_idl.specs.Interface.{Interface}
use Rattle.gs_tree.specs.Program.{Program}
use Rattle.gs_types.specs.declared.memory.NoMemory.{NoMemory}
use Rattle.gs_talk.specs.declared.question.Question.{Question}
use Rattle.gs_talk.specs.declared.question.Answer.{Answer}
use Rattle.gs_talk.specs.Talk.{Given, names_of, State, Dialogue, Stop, Asks, after, talk, start, dialogue}
use Rattle.gs_orders.specs.declared.order.Order.{Order}
use Rattle.gs_orders.specs.Says.{scene, SaysProgram}
use Rattle.gs_main.specs.declared.waits.Last.{Last}
use Rattle.gs_main.specs.declared.waits.Last.TheVariants as l
use Rattle.gs_main.specs.declared.waits.Waits.{Waits}
use Rattle.gs_main.specs.declared.waits.Waits.TheVariants as w
use Rattle.gs_main.specs.declared.run.Run.{Run}
use Rattle.gs_main.specs.Lasts.{last_question}
use Rattle.gs_main.specs.Talking.{Talking, Wanted, FitsWanted, AwaitsAnswerTo, IsFreeAfter, Next, Goes, Awaits, Failed, wanted, Asked, AsksNext, IsFree, IsAnsweredBy, answered, StandsFor, TalksOn, given_by, first_talking}
use Rattle.gs_main.specs.Machine.{goes}
use Rattle.gs_main.specs.Seen.{state_of, first_state, IsWaiting, resumed, next_by, next_of, going}
use Rattle.gs_main.specs.Shown.{unless_failed}
use Rattle.gs_main.proofs.Meaning.{program_goes}

-- ---- what asking says of the answers so far

now : (t : Given) (fuel : ℕ) (answers : List Answer) (d : Dialogue) → ((more : List Answer) → talk t fuel (answers ++ more) ≡ after d more) → talk t fuel answers ≡ after d []
now t fuel answers d h = ap (talk t fuel) (sym (append-nil answers)) ∙ h []

pub asks_talk : (old : Next) (result : Result Question NoMemory) (new : Talking) (t : Given) (fuel : ℕ) (answers : List Answer) → AsksNext old result new → StandsFor old t fuel answers → IsFree old → IfOk result (λ q. TalksOn t fuel answers q new)
asks_talk (Goes d) (Ok q) new t fuel answers h stands free = now t fuel answers d stands ∙ by_next new.next h
  where
    by_next : (next : Next) → Asked d q new.state next → after d [] ≡ Asks q new.state
    by_next (Goes rest) k = ap (λ x. after x []) k.0
    by_next (Awaits w next) k = ap (λ x. after x []) k.0
    by_next Failed k = absurd k
asks_talk (Goes d) (Err e) new t fuel answers h stands free = tt
asks_talk (Awaits w next) result new t fuel answers h stands free = absurd free
asks_talk Failed (Ok q) new t fuel answers h stands free = absurd h
asks_talk Failed (Err e) new t fuel answers h stands free = tt

pub asks_stand : (old : Next) (result : Result Question NoMemory) (new : Talking) (t : Given) (fuel : ℕ) (answers : List Answer) → AsksNext old result new → StandsFor old t fuel answers → IsFree old → OnOk result (StandsFor new.next t fuel answers)
asks_stand (Goes d) (Ok q) new t fuel answers h stands free = by_next new.next h
  where
    by_next : (next : Next) → Asked d q new.state next → StandsFor next t fuel answers
    by_next (Goes rest) k = λ more. stands more ∙ ap (λ x. after x more) (sym k.1)
    by_next (Awaits w next) k = λ a more. stands (a ∷ more) ∙ ap (λ x. after x (a ∷ more)) k.0
    by_next Failed k = absurd k
asks_stand (Goes d) (Err e) new t fuel answers h stands free = tt
asks_stand (Awaits w next) result new t fuel answers h stands free = absurd free
asks_stand Failed (Ok q) new t fuel answers h stands free = absurd h
asks_stand Failed (Err e) new t fuel answers h stands free = tt

pub asks_await : (old : Next) (result : Result Question NoMemory) (new : Talking) → AsksNext old result new → IsFree old → IfOk result (λ q. AwaitsAnswerTo q new.next)
asks_await (Goes d) (Ok q) new h free = by_next new.next h
  where
    by_next : (next : Next) → Asked d q new.state next → AwaitsAnswerTo q next
    by_next (Goes rest) k = λ a fits. absurd (subst (λ (o : Option Wanted). FitsWanted o a) k.2 fits)
    by_next (Awaits w next) k = λ a fits. subst (λ (o : Option Wanted). FitsWanted o a) k.1 fits
    by_next Failed k = absurd k
asks_await (Goes d) (Err e) new h free = tt
asks_await (Awaits w next) result new h free = absurd free
asks_await Failed (Ok q) new h free = absurd h
asks_await Failed (Err e) new h free = tt

pub asks_last : (old : Next) (result : Result Question NoMemory) (new : Talking) → AsksNext old result new → IsFree old → IfOk result (λ q. IsFreeAfter q new.next)
asks_last (Goes d) (Ok q) new h free = by_next new.next h
  where
    by_next : (next : Next) → Asked d q new.state next → IsFreeAfter q next
    by_next (Goes rest) k = λ none. tt
    by_next (Awaits w next) k = λ none. absurd (let e : ◌≡◌ {A = Option Wanted} None (Some w) = sym none ∙ k.1 in cc)
    by_next Failed k = absurd k
asks_last (Goes d) (Err e) new h free = tt
asks_last (Awaits w next) result new h free = absurd free
asks_last Failed (Ok q) new h free = absurd h
asks_last Failed (Err e) new h free = tt

pub answered_free : (old : Next) (a : Answer) (new : Next) → IsAnsweredBy old a → new ≡ answered old a → IsFree new
answered_free (Goes d) a new h e = absurd h
answered_free (Awaits w next) a new h e = subst (λ (n : Next). IsFree n) (sym e) tt
answered_free Failed a new h e = absurd h

-- ---- what a machine asks

pub fails_asks : (old : Next) (e : NoMemory) (new : Talking) → new.next ≡ Failed → AsksNext old (Err e) new
fails_asks (Goes d) e new h = h
fails_asks (Awaits w next) e new h = tt
fails_asks Failed e new h = h

last_wants : (last : Last) → wanted (last_question last) ≡ None
last_wants l.End = refl
last_wants (l.Fault line kind) = refl
last_wants l.FuelOut = refl

along : (old other : Next) (result : Result Question NoMemory) (new : Talking) → old ≡ other → AsksNext other result new → AsksNext old result new
along old other result new e h = subst (λ (x : Next). AsksNext x result new) (sym e) h

pub not_failed : (failed : Bool) (next : Next) → failed ≡ false → unless_failed failed next ≡ next
not_failed failed next e = ap (λ (b : Bool). unless_failed b next) e

pub is_failed : (failed : Bool) (next : Next) → failed ≡ true → unless_failed failed next ≡ Failed
is_failed failed next e = ap (λ (b : Bool). unless_failed b next) e

pub ended_asks : (failed : Bool) (t : Given) (orders : List Order) (r : Run) (last : Last) (x : Question) (new : Talking) → failed ≡ false → r.work.waits ≡ w.Ended last → x ≡ last_question last → new.state ≡ state_of r.work → new.next ≡ unless_failed failed (next_of t orders r) →
    AsksNext (unless_failed failed (next_of t orders r)) (Ok x) new
ended_asks failed t orders r last x new ok ended is state next =
    let goes_on : unless_failed failed (next_of t orders r) ≡ Goes (Stop (last_question last) (state_of r.work)) = not_failed failed (next_of t orders r) ok ∙ ap (λ (y : Waits). next_by t orders y r.at r.steps (state_of r.work)) ended in
    along (unless_failed failed (next_of t orders r)) (Goes (Stop (last_question last) (state_of r.work))) (Ok x) new goes_on
    (subst (λ (n : Next). Asked (Stop (last_question last) (state_of r.work)) x new.state n) (sym (next ∙ goes_on))
    (ap (λ (y : Question). Stop y (state_of r.work)) (sym is) ∙ ap (λ (s : State). Stop x s) (sym state), refl, ap wanted is ∙ last_wants last))

pub went_asks : (failed : Bool) (t : Given) (orders : List Order) (old : Run) (x : Question) (r : Run) (new : Talking) → failed ≡ false → old.work.waits ≡ w.Nothing → Asked (going t orders old) x (state_of r.work) (next_of t orders r) → new.state ≡ state_of r.work → new.next ≡ unless_failed failed (next_of t orders r) →
    AsksNext (unless_failed failed (next_of t orders old)) (Ok x) new
went_asks failed t orders old x r new ok quiet h state next =
    along (unless_failed failed (next_of t orders old)) (Goes (going t orders old)) (Ok x) new
    (not_failed failed (next_of t orders old) ok ∙ ap (λ (y : Waits). next_by t orders y old.at old.steps (state_of old.work)) quiet)
    (subst (λ (n : Next). Asked (going t orders old) x new.state n) (sym (next ∙ not_failed failed (next_of t orders r) ok))
    (subst (λ (s : State). Asked (going t orders old) x s (next_of t orders r)) (sym state) h))

-- ---- an answer

pub answers_waits : (failed : Bool) (t : Given) (orders : List Order) (wait : Waits) (at n : ℕ) (s : State) (a : Answer) → IsAnsweredBy (unless_failed failed (next_by t orders wait at n s)) a → IsWaiting wait
answers_waits true t orders wait at n s a h = absurd h
answers_waits false t orders w.Nothing at n s a h = absurd h
answers_waits false t orders (w.Value i) at n s a h = tt
answers_waits false t orders w.Call at n s a h = tt
answers_waits false t orders (w.Content line to name mode) at n s a h = tt
answers_waits false t orders w.Word at n s a h = tt
answers_waits false t orders (w.Ended last) at n s a h = absurd h

pub answered_so : (failed : Bool) (t : Given) (orders : List Order) (wait : Waits) (at n : ℕ) (s : State) (a : Answer) → IsAnsweredBy (unless_failed failed (next_by t orders wait at n s)) a → (next : Next) → next ≡ Goes (resumed t orders wait at n s a) →
    unless_failed failed next ≡ answered (unless_failed failed (next_by t orders wait at n s)) a
answered_so true t orders wait at n s a h next e = absurd h
answered_so false t orders w.Nothing at n s a h next e = absurd h
answered_so false t orders (w.Value i) at n s a h next e = e
answered_so false t orders w.Call at n s a h next e = e
answered_so false t orders (w.Content line to name mode) at n s a h next e = e
answered_so false t orders w.Word at n s a h next e = e
answered_so false t orders (w.Ended last) at n s a h next e = absurd h

pub answered_stands : (old : Next) (t : Given) (fuel : ℕ) (answers : List Answer) (a : Answer) (new : Next) → IsAnsweredBy old a → new ≡ answered old a → StandsFor old t fuel answers → StandsFor new t fuel (answers ++ a ∷ [])
answered_stands (Goes d) t fuel answers a new h e stands = absurd h
answered_stands (Awaits w next) t fuel answers a new h e stands =
    subst (λ (n : Next). StandsFor n t fuel (answers ++ a ∷ [])) (sym e) (λ more. ap (talk t fuel) (append_assoc answers (a ∷ []) more) ∙ stands a more)
answered_stands Failed t fuel answers a new h e stands = absurd h

-- ---- the beginning

pub begins : (idl_name program_name : List ℕ) (checked : Checked) (p : Program) (i : Interface) (names : List (List ℕ)) (orders : List Order) (r : Run) (fuel : ℕ) → p ≡ program_in checked → i ≡ interface_in checked → names ≡ map (λ v. v.0.text) p.vars →
    SaysProgram (scene names i.ops) orders r.at p → state_of r.work ≡ first_state p.vars → r.work.waits ≡ w.Nothing → r.steps ≡ fuel → (m : Talking) →
    m.given ≡ given_by idl_name program_name (interface_in checked) (program_in checked) → m.interface ≡ interface_in checked → m.state ≡ state_of r.work → m.next ≡ next_of (given_by idl_name program_name (interface_in checked) (program_in checked)) orders r →
    m ≡ first_talking idl_name program_name (interface_in checked) (program_in checked) fuel
begins idl_name program_name checked p i names orders r fuel ep ei en says state quiet steps m given interface state_is next =
    let t : Given = given_by idl_name program_name (interface_in checked) (program_in checked) in
    let named : SaysProgram (scene (map (λ v. v.0.text) p.vars) i.ops) orders r.at p = subst (λ (x : List (List ℕ)). SaysProgram (scene x i.ops) orders r.at p) en says in
    let typed : SaysProgram (scene (map (λ v. v.0.text) p.vars) (interface_in checked).ops) orders r.at p = subst (λ (x : Interface). SaysProgram (scene (map (λ v. v.0.text) p.vars) x.ops) orders r.at p) ei named in
    let all : SaysProgram (scene (names_of t) t.ops) orders r.at t.program = subst (λ (x : Program). SaysProgram (scene (map (λ v. v.0.text) x.vars) (interface_in checked).ops) orders r.at x) ep typed in
    let first : state_of r.work ≡ start t = state ∙ ap (λ (x : Program). first_state x.vars) ep in
    let goes_on : m.next ≡ Goes (dialogue t fuel) =
    next ∙ ap (λ (y : Waits). next_by t orders y r.at r.steps (state_of r.work)) quiet
    ∙ ap (λ (k : ℕ). Goes (goes t orders r.at k (state_of r.work))) steps
    ∙ ap (λ (s : State). Goes (goes t orders r.at fuel s)) first
    ∙ ap Goes (program_goes t orders r.at fuel all) in
    let state_all : m.state ≡ start t = state_is ∙ first in
    ap (λ (g : Given). record m { given = g }) given
    ∙ ap (λ (x : Interface). record m { given = t; interface = x }) interface
    ∙ ap (λ (s : State). record m { given = t; interface = interface_in checked; state = s }) state_all
    ∙ ap (λ (n : Next). record m { given = t; interface = interface_in checked; state = start t; next = n }) goes_on
