-- The sequential run writes no own text.
use Rattle.std.proofs.Common.{◌≡◌, ◌≢◌, ◌+◌, ◌++◌, ℕ, zero, suc, Bool, true, false, refl, sym, ap, subst, ◌∙◌, List, [], ◌∷◌, length, Option, Some, None, if◌then◌else◌}
use Rattle.std.specs.Prelude.{map, bytes_eq}
use Rattle.std.proofs.lemmas.Slice.Eq.{bytes_eq-Decides}
use Rattle.gs_idl.specs.Interface.{Param, params_at, writes_file}
use Rattle.gs_types.specs.Job.{Meaning}
use Rattle.gs_types.specs.declared.note.Version.TheVariants.{Out}
use Rattle.gs_types.specs.declared.value.Value.{Value}
use Rattle.gs_talk.specs.declared.question.CallArg.{CallArg}
use Rattle.gs_talk.specs.declared.question.CallArg.TheVariants as arg
use Rattle.gs_talk.specs.declared.question.Question.{Question}
use Rattle.gs_talk.specs.declared.question.Question.TheVariants.{Call, Use, OpenFile, CloseFile, Barrier, End, Fault, FuelOut}
use Rattle.gs_talk.specs.declared.question.Answer.{Answer}
use Rattle.gs_talk.specs.Talk.{Given, Dialogue, Done, Ask, Stop, is_own_text}
use Rattle.gs_talk.specs.Seq.{Content, Known, Lost, Files, World, Run, Standing, with_file, content_of, all_lost, set_first, rest_of, all_set, files_by, task_of, first_refused, after_call, world_after, reply, answered, step_by, seq}
use Rattle.gs_talk_laws.specs.Versions.{Written, written_by, if_goes, written_in, written_next, writings}
use Rattle.gs_own_texts.specs.Apart.{IsApart}
use Rattle.gs_own_texts.specs.Laws.{OwnTextsStay, OwnTextsUnwritten}
use Rattle.gs_own_texts.proofs.Keeping.{CallKeeps, QuestionKeeps, Keeps}
use Rattle.gs_own_texts.proofs.Statements.{dialogue_keeps}

-- ---- names

-- one that is an own text isn't one that is none
other_name : (t : Given) (x name : List ℕ) → is_own_text t x ≡ false → is_own_text t name ≡ true
    → x ≢ name
other_name t x name is_none own same =
    let e : false ≡ true = sym is_none ∙ ap (is_own_text t) same ∙ own in
    absurd cc

not_equal : (x y : List ℕ) → x ≢ y → bytes_eq x y ≡ false
not_equal x y differ = by_test (bytes_eq x y) refl
  where
    by_test : (b : Bool) → bytes_eq x y ≡ b → b ≡ false
    by_test true e = absurd (differ ((bytes_eq-Decides x y).0 e))
    by_test false e = refl

other_file : (x name : List ℕ) (c : Content) (files : Files) → x ≢ name
    → with_file x c files name ≡ files name
other_file x name c files differ =
    ap (λ (b : Bool). if b then Some c else files name) (not_equal x name differ)

-- ---- what a task leaves

lost_stays : (t : Given) (ps : List Param) (args : List CallArg) (files : Files) (name : List ℕ)
    → CallKeeps t ps args → is_own_text t name ≡ true → all_lost ps args files name ≡ files name
lost_stays t [] args files name keeps own = refl
lost_stays t (p ∷ ps) [] files name keeps own = refl
lost_stays t (p ∷ ps) (arg.File x ∷ args) files name keeps own =
    by_place (writes_file p) keeps.0 (λ fs. lost_stays t ps args fs name keeps.1 own)
  where
    by_place : (b : Bool) → (b ≡ true → is_own_text t x ≡ false)
        → ((fs : Files) → all_lost ps args fs name ≡ fs name)
        → all_lost ps args (if b then with_file x Lost files else files) name ≡ files name
    by_place true apart rest = rest (with_file x Lost files)
        ∙ other_file x name Lost files (other_name t x name (apart refl) own)
    by_place false apart rest = rest files
lost_stays t (p ∷ ps) (arg.Int v ∷ args) files name keeps own =
    lost_stays t ps args files name keeps own
lost_stays t (p ∷ ps) (arg.Str b ∷ args) files name keeps own =
    lost_stays t ps args files name keeps own
lost_stays t (p ∷ ps) (arg.OutInt ∷ args) files name keeps own =
    lost_stays t ps args files name keeps own
lost_stays t (p ∷ ps) (arg.OutStr ∷ args) files name keeps own =
    lost_stays t ps args files name keeps own

first_stays : (x name : List ℕ) (outs : List Value) (files : Files) → x ≢ name
    → set_first x outs files name ≡ files name
first_stays x name [] files differ = refl
first_stays x name (v ∷ outs) files differ = other_file x name (content_of v) files differ

set_stays : (t : Given) (ps : List Param) (args : List CallArg) (outs : List Value) (files : Files)
    (name : List ℕ) → CallKeeps t ps args → is_own_text t name ≡ true
    → all_set ps args outs files name ≡ files name
set_stays t [] args outs files name keeps own = refl
set_stays t (p ∷ ps) [] outs files name keeps own = refl
set_stays t (p ∷ ps) (arg.File x ∷ args) outs files name keeps own =
    by_place (writes_file p) keeps.0 (λ os fs. set_stays t ps args os fs name keeps.1 own)
  where
    by_place : (b : Bool) → (b ≡ true → is_own_text t x ≡ false)
        → ((os : List Value) (fs : Files) → all_set ps args os fs name ≡ fs name)
        → (if b then all_set ps args (rest_of outs) (set_first x outs files)
        else all_set ps args outs files) name ≡ files name
    by_place true apart rest = rest (rest_of outs) (set_first x outs files)
        ∙ first_stays x name outs files (other_name t x name (apart refl) own)
    by_place false apart rest = rest outs files
set_stays t (p ∷ ps) (arg.Int v ∷ args) outs files name keeps own =
    set_stays t ps args outs files name keeps own
set_stays t (p ∷ ps) (arg.Str b ∷ args) outs files name keeps own =
    set_stays t ps args outs files name keeps own
set_stays t (p ∷ ps) (arg.OutInt ∷ args) outs files name keeps own =
    set_stays t ps args (rest_of outs) files name keeps own
set_stays t (p ∷ ps) (arg.OutStr ∷ args) outs files name keeps own =
    set_stays t ps args (rest_of outs) files name keeps own

task_stays : (t : Given) (o : Option (List Value)) (ps : List Param) (args : List CallArg)
    (files : Files) (name : List ℕ) → CallKeeps t ps args → is_own_text t name ≡ true
    → files_by o ps args files name ≡ files name
task_stays t None ps args files name keeps own = lost_stays t ps args files name keeps own
task_stays t (Some outs) ps args files name keeps own =
    set_stays t ps args outs files name keeps own

-- ---- a question

call_stays : (t : Given) (law : Meaning) (w : World) (op : ℕ) (args : List CallArg)
    (o : Option Answer) (name : List ℕ) → CallKeeps t (params_at t.ops op) args
    → is_own_text t name ≡ true
    → (after_call law t.ops op args o w).files name ≡ w.files name
call_stays t law w op args None name keeps own =
    task_stays t (task_of law t.ops w.files op args).outs (params_at t.ops op) args w.files name
    keeps own
call_stays t law w op args (Some a) name keeps own = refl

question_stays : (t : Given) (law : Meaning) (w : World) (q : Question) (name : List ℕ)
    → QuestionKeeps t q → is_own_text t name ≡ true
    → (world_after law t.ops w q).files name ≡ w.files name
question_stays t law w (Call op line args) name keeps own =
    call_stays t law w op args (first_refused w.files (params_at t.ops op) args) name keeps own
question_stays t law w (CloseFile x bytes) name keeps own =
    other_file x name (Known bytes) w.files (other_name t x name keeps own)
question_stays t law w (Use n place) name keeps own = refl
question_stays t law w (OpenFile x mode line) name keeps own = refl
question_stays t law w Barrier name keeps own = refl
question_stays t law w End name keeps own = refl
question_stays t law w (Fault line kind) name keeps own = refl
question_stays t law w FuelOut name keeps own = refl

-- ---- the run

abbrev Stays : Run → Standing → List ℕ → Type 0
Stays r at name = Keeps r.texts at.rest × (at.world.files name ≡ r.files name)

answer_stays : (r : Run) (at : Standing) (q : Question) (next : Answer → Dialogue)
    (o : Option Answer) (name : List ℕ) → QuestionKeeps r.texts q
    → ((a : Answer) → Keeps r.texts (next a)) → is_own_text r.texts name ≡ true
    → Stays r at name → Stays r (answered r at q next o) name
answer_stays r at q next None name keeps more own stays = stays
answer_stays r at q next (Some a) name keeps more own stays =
    (more a, question_stays r.texts r.law at.world q name keeps own ∙ stays.1)

step_stays : (r : Run) (at : Standing) (d : Dialogue) (name : List ℕ) → at.rest ≡ d
    → is_own_text r.texts name ≡ true → Stays r at name → Stays r (step_by r at d) name
step_stays r at (Done n s) name is own stays = stays
step_stays r at (Stop q s) name is own stays = stays
step_stays r at (Ask q s next) name is own stays =
    let keeps : Keeps r.texts (Ask q s next) = subst (Keeps r.texts) is stays.0 in
    answer_stays r at q next (reply r.texts.ops at.world q) name keeps.0 keeps.1 own stays

run_stays : (r : Run) (name : List ℕ) → is_own_text r.texts name ≡ true → (k : ℕ)
    → Stays r (seq r k) name
unfolding seq
run_stays r name own zero = (dialogue_keeps r.texts r.fuel, refl)
run_stays r name own (suc k) =
    step_stays r (seq r k) (seq r k).rest name refl own (run_stays r name own k)

pub own_stay : OwnTextsStay
own_stay r name own k = (run_stays r name own k).1

-- ---- its writings

abbrev Names : List Written → List (List ℕ)
Names ws = map (λ (w : Written). w.name) ws

apart_both : (name : List ℕ) (xs ys : List Written) → IsApart name (Names xs)
    → IsApart name (Names ys) → IsApart name (Names (xs ++ ys))
apart_both name [] ys p q = q
apart_both name (x ∷ xs) ys p q = (p.0, apart_both name xs ys p.1 q)

call_apart : (t : Given) (n place : ℕ) (ps : List Param) (args : List CallArg) (name : List ℕ)
    → CallKeeps t ps args → is_own_text t name ≡ true
    → IsApart name (Names (written_by n place ps args))
call_apart t n place [] args name keeps own = tt
call_apart t n place (p ∷ ps) [] name keeps own = tt
call_apart t n place (p ∷ ps) (arg.File x ∷ args) name keeps own =
    by_place (writes_file p) keeps.0 (call_apart t n (suc place) ps args name keeps.1 own)
  where
    by_place : (b : Bool) → (b ≡ true → is_own_text t x ≡ false)
        → IsApart name (Names (written_by n (suc place) ps args))
        → IsApart name (Names (if b
        then record { name = x; version = Out n place }
        ∷ written_by n (suc place) ps args
        else written_by n (suc place) ps args))
    by_place true apart more = (λ same. other_name t x name (apart refl) own (sym same), more)
    by_place false apart more = more
call_apart t n place (p ∷ ps) (arg.Int v ∷ args) name keeps own =
    call_apart t n (suc place) ps args name keeps own
call_apart t n place (p ∷ ps) (arg.Str b ∷ args) name keeps own =
    call_apart t n (suc place) ps args name keeps own
call_apart t n place (p ∷ ps) (arg.OutInt ∷ args) name keeps own =
    call_apart t n (suc place) ps args name keeps own
call_apart t n place (p ∷ ps) (arg.OutStr ∷ args) name keeps own =
    call_apart t n (suc place) ps args name keeps own

goes_apart : (o : Option Answer) (ws : List Written) (name : List ℕ) → IsApart name (Names ws)
    → IsApart name (Names (if_goes o ws))
goes_apart None ws name apart = apart
goes_apart (Some a) ws name apart = tt

question_apart : (t : Given) (w : World) (q : Question) (name : List ℕ) → QuestionKeeps t q
    → is_own_text t name ≡ true → IsApart name (Names (written_in t.ops w q))
question_apart t w (Call op line args) name keeps own =
    goes_apart (first_refused w.files (params_at t.ops op) args)
    (written_by (length w.tasks + 1) 1 (params_at t.ops op) args) name
    (call_apart t (length w.tasks + 1) 1 (params_at t.ops op) args name keeps own)
question_apart t w (CloseFile x bytes) name keeps own =
    (λ same. other_name t x name keeps own (sym same), tt)
question_apart t w (Use n place) name keeps own = tt
question_apart t w (OpenFile x mode line) name keeps own = tt
question_apart t w Barrier name keeps own = tt
question_apart t w End name keeps own = tt
question_apart t w (Fault line kind) name keeps own = tt
question_apart t w FuelOut name keeps own = tt

next_apart : (r : Run) (w : World) (d : Dialogue) (name : List ℕ) → Keeps r.texts d
    → is_own_text r.texts name ≡ true → IsApart name (Names (written_next r w d))
next_apart r w (Done n s) name keeps own = tt
next_apart r w (Stop q s) name keeps own = tt
next_apart r w (Ask q s next) name keeps own = question_apart r.texts w q name keeps.0 own

pub own_unwritten : OwnTextsUnwritten
unfolding writings
own_unwritten r name own zero = tt
own_unwritten r name own (suc k) =
    apart_both name (writings r k) (written_next r (seq r k).world (seq r k).rest)
    (own_unwritten r name own k)
    (next_apart r (seq r k).world (seq r k).rest name (run_stays r name own k).0 own)
