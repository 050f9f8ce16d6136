-- Losses.
use Rattle.std.proofs.Common.{◌≡◌, ◌<◌, ◌≤◌, ℕ, ap, [], ◌∷◌, arith, inl, inr}
use Rattle.std.specs.Bool.{⊤}
use Rattle.std.proofs.lemmas.Bool.{cases_lt}
use Rattle.gs_types.specs.History.{LinkEvent, History, noted, started, refused, finished, failed, abandoned, task_failures}
use Rattle.gs_history.specs.Setup.{Setup}
use Rattle.gs_history.specs.Losses.{Loss, TaskLost, WorkersLost, IsStranded, IsClear, LooksLost, since_noted, NoLoss, IsLoss}
use Rattle.gs_history.specs.Laws.{OneLoss, LossIsLoss, StartsLoseNothing}
use Rattle.gs_history.proofs.Opening.{ready_started}

looks_none : (s : Setup) (h : History) (l : Loss) → IsClear s h → LooksLost s h l → ⊥
looks_none s h (TaskLost n) clear lost = let a = clear.tasks n in let b = lost.0 in absurd (omega arith)
looks_none s h (WorkersLost n) clear lost = clear.workers n lost.1

least : (P : ℕ → Type 0) (n m : ℕ) → P n → P m → ((i : ℕ) → i < n → P i → ⊥) → ((i : ℕ) → i < m → P i → ⊥) → n ≡ m
least P n m a b before_n before_m = elim (cases_lt n m) [
  | inl lt ↦ absurd (before_m n lt a)
  | inr le ↦ elim (cases_lt m n) [ inl lt ↦ absurd (before_n m lt b) | inr ge ↦ omega arith ]
]

looks_one : (s : Setup) (h : History) (l m : Loss) → LooksLost s h l → LooksLost s h m → l ≡ m
looks_one s h (TaskLost n) (TaskLost m) a b =
    ap TaskLost (least (λ i. s.tries ≤ task_failures h i) n m a.0 b.0 (λ i lt le. let c = a.1 i lt in absurd (omega arith)) (λ i lt le. let c = b.1 i lt in absurd (omega arith)))
looks_one s h (TaskLost n) (WorkersLost m) a b = let c = b.0 n in let d = a.0 in absurd (omega arith)
looks_one s h (WorkersLost n) (TaskLost m) a b = let c = a.0 m in let d = b.0 in absurd (omega arith)
looks_one s h (WorkersLost n) (WorkersLost m) a b = ap WorkersLost (least (IsStranded s h) n m a.1 b.1 a.2 b.2)

pub clear_now : (s : Setup) (h : History) → NoLoss s h → IsClear s h
clear_now s [] clear = clear
clear_now s (e ∷ h) clear = clear.1

-- nothing was lost before an event, so no loss was there
none_since : (e : LinkEvent) (none lost : Type 0) → (none → lost → ⊥) → since_noted e ⊤ none → since_noted e ⊥ lost → ⊥
none_since (noted n outs) none lost apart a b = b
none_since (started n w job) none lost apart a b = apart a b
none_since (refused n w) none lost apart a b = apart a b
none_since (finished n outs) none lost apart a b = apart a b
none_since (failed n) none lost apart a b = apart a b
none_since abandoned none lost apart a b = apart a b

pub loss_is_loss : LossIsLoss
loss_is_loss s [] l clear lost = looks_none s [] l clear lost
loss_is_loss s (e ∷ h) l clear (inl a) = none_since e (NoLoss s h) (IsLoss s h l) (loss_is_loss s h l) clear.0 a
loss_is_loss s (e ∷ h) l clear (inr a) = looks_none s (e ∷ h) l clear.1 a.1

both_since : (e : LinkEvent) (a b c : Type 0) → (a → b → c) → since_noted e ⊥ a → since_noted e ⊥ b → c
both_since (noted n outs) a b c go x y = absurd x
both_since (started n w job) a b c go x y = go x y
both_since (refused n w) a b c go x y = go x y
both_since (finished n outs) a b c go x y = go x y
both_since (failed n) a b c go x y = go x y
both_since abandoned a b c go x y = go x y

either_one : (s : Setup) (e : LinkEvent) (h : History) (l m : Loss) → (IsLoss s h l → IsLoss s h m → l ≡ m) → IsLoss s (e ∷ h) l → IsLoss s (e ∷ h) m → l ≡ m
either_one s e h l m before (inl x) (inl y) = both_since e (IsLoss s h l) (IsLoss s h m) (l ≡ m) before x y
either_one s e h l m before (inl x) (inr y) = absurd (none_since e (NoLoss s h) (IsLoss s h l) (loss_is_loss s h l) y.0 x)
either_one s e h l m before (inr x) (inl y) = absurd (none_since e (NoLoss s h) (IsLoss s h m) (loss_is_loss s h m) x.0 y)
either_one s e h l m before (inr x) (inr y) = looks_one s (e ∷ h) l m x.1 y.1

pub one_loss : OneLoss
one_loss s [] l m a b = looks_one s [] l m a b
one_loss s (e ∷ h) l m a b = either_one s e h l m (one_loss s h l m) a b

pub starts_lose_nothing : StartsLoseNothing
starts_lose_nothing s h n w job clear =
    let now = clear_now s h clear in (
      clear,
      record {
        tasks = now.tasks;
        workers = λ m stranded. now.workers m (record {
          task = stranded.task;
          ready = (ready_started s h n w job m stranded.task stranded.ready).0;
          failed = stranded.failed;
        });
      },
    )
