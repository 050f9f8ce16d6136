-- What may be answered, by the needs of actions.
use Rattle.std.proofs.Common.{◌≡◌, ℕ, zero, suc, refl, sym, ◌∙◌, subst, [], ◌∷◌, arith, Option, Some, None}
use Rattle.std.specs.Prelude.{List}
use Rattle.gs_idl.specs.Interface.{Signature}
use Rattle.gs_types.specs.declared.note.Version.{Version}
use Rattle.gs_types.specs.History.{History}
use Rattle.gs_talk.specs.declared.question.Question.{Question}
use Rattle.gs_talk.specs.declared.question.Question.TheVariants.{Call, Use, OpenFile, CloseFile, Barrier, End, Fault, FuelOut}
use Rattle.gs_talk.specs.declared.question.Answer.{Answer}
use Rattle.gs_talk.specs.Talk.{State, Dialogue, Ask}
use Rattle.gs_talk.specs.Actions as act
use Rattle.gs_talk.specs.Actions.{Act, unless_refused, act_of, acts, last_writer, IsTaskAct, HasTask, Needs}
use Rattle.gs_talk_laws.specs.Depends.{Wrote}
use Rattle.gs_talk_laws.specs.Versions.{latest, writings}
use Rattle.gs_talk_laws.specs.Uses.{Told}
use Rattle.gs_talk_laws.proofs.Proper.{Right, IsLast, Proper}
use Rattle.gs_talk_laws.proofs.Telling.{seq_told}
use Rattle.gs_talk_laws.proofs.Writers.{last_writer_wrote}
use Rattle.gs_history.specs.Setup.{Setup, world_at, count_at, rest_at}
use Rattle.gs_history.specs.Frontier.{IsDone, AllDone, IsThere}
use Rattle.gs_history.specs.Needs.{FrontierIsOfNeeds}
use Rattle.gs_history.proofs.Called.{are_called}

same_act : (a b : Act) → a ∷ [] ≡ b ∷ [] → a ≡ b
same_act a b e = cc

-- ---- the last writer of a file

reads_there : (h : History) (name : List ℕ) (o : Option Act) (v : Version) → Wrote name o v → IsThere h v → (n : ℕ) → IsTaskAct n o → IsDone h n
reads_there h name None v wrote there n is = absurd is
reads_there h name (Some (act.Call m op reads writes)) v wrote there n is = subst (IsDone h) is (subst (IsThere h) wrote.1 there)
reads_there h name (Some (act.Use m place)) v wrote there n is = absurd is
reads_there h name (Some (act.Read x)) v wrote there n is = absurd is
reads_there h name (Some (act.Write x)) v wrote there n is = absurd is
reads_there h name (Some act.Barrier) v wrote there n is = absurd is
reads_there h name (Some act.Ends) v wrote there n is = absurd is

there_read : (h : History) (name : List ℕ) (o : Option Act) (v : Version) → Wrote name o v → ((n : ℕ) → IsTaskAct n o → IsDone h n) → IsThere h v
there_read h name None v wrote done = subst (IsThere h) (sym wrote) tt
there_read h name (Some (act.Call m op reads writes)) v wrote done = subst (IsThere h) (sym wrote.1) (done m refl)
there_read h name (Some (act.Use m place)) v wrote done = absurd wrote
there_read h name (Some (act.Read x)) v wrote done = absurd wrote
there_read h name (Some (act.Write x)) v wrote done = subst (IsThere h) (sym wrote.1) tt
there_read h name (Some act.Barrier) v wrote done = absurd wrote
there_read h name (Some act.Ends) v wrote done = absurd wrote

-- ---- all tasks

all_tasks : (s : Setup) (h : History) (k : ℕ) → AllDone h (count_at s k) → (n : ℕ) → HasTask n (acts s.run k) → IsDone h n
all_tasks s h k done zero is = let w = (are_called s.run k).within zero is in let p = w.0 in absurd (omega arith)
all_tasks s h k done (suc n) is = let w = (are_called s.run k).within (suc n) is in done n (let le = w.1 in omega arith)

tasks_all : (s : Setup) (h : History) (k : ℕ) → ((n : ℕ) → HasTask n (acts s.run k) → IsDone h n) → AllDone h (count_at s k)
tasks_all s h k done m lt = done (suc m) ((are_called s.run k).each m lt)

-- ---- by the question

right_last : (ops : List Signature) (told : Told) (q : Question) → Right ops told q → IsLast q → ⊥
right_last ops told End right last = right
right_last ops told (Fault line kind) right last = right
right_last ops told FuelOut right last = right
right_last ops told (Call op line args) right last = last
right_last ops told (Use n place) right last = last
right_last ops told (OpenFile name mode line) right last = last
right_last ops told (CloseFile name bytes) right last = last
right_last ops told Barrier right last = last

-- a question that is answered isn't the last
no_last : (s : Setup) (k : ℕ) (q : Question) (st : State) (next : Answer → Dialogue) → rest_at s k ≡ Ask q st next → IsLast q → ⊥
no_last s k q st next e last =
    let told = seq_told s.run k in
    let proper : Proper s.run.texts.ops told.told (Ask q st next) = subst (Proper s.run.texts.ops told.told) e told.proper in
    right_last s.run.texts.ops told.told q proper.1 last

-- the needs of the one action, and none of room
no_room : (s : Setup) (h : History) (k : ℕ) (q : Question) (a : Act) → act_of s.run (world_at s k) q ≡ a ∷ [] → ((n : ℕ) → Needs (acts s.run k) a n → IsDone h n) → (b : Act) (n : ℕ) → act_of s.run (world_at s k) q ≡ b ∷ [] → Needs (acts s.run k) b n → IsDone h n
no_room s h k q a is done b n e needs = done n (subst (λ (c : Act). Needs (acts s.run k) c n) (same_act b a (sym e ∙ is)) needs)

call_needs : (s : Setup) (h : History) (k : ℕ) (o : Option Answer) (m op : ℕ) (names written : List (List ℕ)) (b : Act) (n : ℕ) → unless_refused o (act.Call m op names written) ≡ b ∷ [] → Needs (acts s.run k) b n → IsDone h n
call_needs s h k None m op names written b n e needs = absurd (subst (λ (c : Act). Needs (acts s.run k) c n) (same_act b (act.Call m op names written) (sym e)) needs)
call_needs s h k (Some a) m op names written b n e needs = absurd cc

pub frontier_is_of_needs : FrontierIsOfNeeds
frontier_is_of_needs s h k (Call op line args) st next e = record {
  met = λ may. record { tasks = λ b n is needs. call_needs s h k _ _ _ _ _ b n is needs; room = λ _. may };
  may = λ met. met.room tt;
}
frontier_is_of_needs s h k (Use m place) st next e = record {
  met = λ may. record { tasks = no_room s h k (Use m place) (act.Use m place) refl (λ n same. subst (IsDone h) same may); room = λ is. absurd is };
  may = λ met. met.tasks (act.Use m place) m refl refl;
}
frontier_is_of_needs s h k (OpenFile name mode line) st next e =
    let wrote = last_writer_wrote s.run k name in
    record {
      met = λ may. record {
        tasks = no_room s h k (OpenFile name mode line) (act.Read name) refl (reads_there h name (last_writer (acts s.run k) name) (latest name (writings s.run k)) wrote may);
        room = λ is. absurd is;
      };
      may = λ met. there_read h name (last_writer (acts s.run k) name) (latest name (writings s.run k)) wrote (λ n is. met.tasks (act.Read name) n refl is);
    }
frontier_is_of_needs s h k (CloseFile name bytes) st next e = record {
  met = λ may. record { tasks = no_room s h k (CloseFile name bytes) (act.Write name) refl (λ n is. absurd is); room = λ is. absurd is };
  may = λ met. tt;
}
frontier_is_of_needs s h k Barrier st next e = record {
  met = λ may. record { tasks = no_room s h k Barrier act.Barrier refl (all_tasks s h k may); room = λ is. absurd is };
  may = λ met. tasks_all s h k (λ n is. met.tasks act.Barrier n refl is);
}
frontier_is_of_needs s h k End st next e = absurd (no_last s k End st next e tt)
frontier_is_of_needs s h k (Fault line kind) st next e = absurd (no_last s k (Fault line kind) st next e tt)
frontier_is_of_needs s h k FuelOut st next e = absurd (no_last s k FuelOut st next e tt)
