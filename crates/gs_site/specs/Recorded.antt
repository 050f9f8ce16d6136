-- What of a run's tasks is recorded, as the calls of a site ask it.
use Rattle.std.specs.Prelude.{◌≡◌, ◌⊎◌, ℕ, true, false, List, [], ◌∷◌, ◌++◌, length}
use Rattle.std.proofs.Common.{inl, inr, ⊎_elim, sym, ap, ◌∙◌, subst, arith, length-append}
use Rattle.gs_types.specs.History.{LinkEvent, History, noted, started, refused, finished, failed, abandoned}
use Rattle.gs_disk.specs.Folder.{Folder}
use Rattle.gs_entries.specs.Order.{has_done}
use Rattle.gs_entries.specs.declared.entry.Entry.{Entry}
use Rattle.gs_store.specs.Keeps.{HasEntries}

-- an image's entries say that task n is done
pub record HasDone (n : ℕ) (image : Folder) : Type 0 where
  pub entries : List Entry
  pub are : HasEntries entries image
  pub done : has_done entries n ≡ true

-- an image's entries don't say that task n is done
pub record LacksDone (n : ℕ) (image : Folder) : Type 0 where
  pub entries : List Entry
  pub are : HasEntries entries image
  pub lacks : has_done entries n ≡ false

-- task n finished in this part of a history
abbrev pub HasFinish : (n : ℕ) → History → Type 0
HasFinish n [] = ⊥
HasFinish n (noted m outs ∷ h) = HasFinish n h
HasFinish n (started m worker job ∷ h) = HasFinish n h
HasFinish n (refused m worker ∷ h) = HasFinish n h
HasFinish n (finished m outs ∷ h) = (m ≡ n) ⊎ HasFinish n h
HasFinish n (failed m ∷ h) = HasFinish n h
HasFinish n (abandoned ∷ h) = HasFinish n h

-- each task that finished since the mark is among these
abbrev pub Recorded : {K : Type 0} → (K → History → Type 0) → K → (mark : ℕ) → (ℕ → Type 0)
    → Type 0
Recorded tells link mark among = (past h : History) → tells link (h ++ past)
    → length past ≡ mark → (n : ℕ) → HasFinish n h → among n

-- ---- how it goes on from call to call

-- what is told of a link at a moment is one history
abbrev pub TellsOne : {K : Type 0} → (K → History → Type 0) → K → Type 0
TellsOne tells link = (h g : History) → tells link h → tells link g → h ≡ g

-- a link that tells a history told one before
abbrev pub TellsBefore : {K : Type 0} → (K → History → Type 0) → K → K → Type 0
TellsBefore tells old new = (h : History) → tells new h → (g : History) × tells old g

-- more tasks may be recorded
pub recorded_wider : {K : Type 0} (tells : K → History → Type 0) (link : K) (mark : ℕ)
    (among more : ℕ → Type 0) → ((n : ℕ) → among n → more n)
    → Recorded tells link mark among → Recorded tells link mark more
recorded_wider tells link mark among more wider h past part told at n has =
    wider n (h past part told at n has)

no_part : (h past : History) (n : ℕ) → length (h ++ past) ≡ length past → HasFinish n h → ⊥
no_part [] past n at has = has
no_part (e ∷ h) past n at has = absurd (omega (arith, at, length-append h past))

-- where the run begins nothing has finished since the mark
pub recorded_none : {K : Type 0} (tells : K → History → Type 0) (link : K) (mark : ℕ)
    (among : ℕ → Type 0) (all : History) → TellsOne tells link → tells link all
    → length all ≡ mark → Recorded tells link mark among
recorded_none tells link mark among all one told at past h part behind n has =
    let same = one (h ++ past) all part told in
    absurd (no_part h past n (ap length same ∙ at ∙ sym behind) has)

-- a call that told nothing
pub recorded_same : {K : Type 0} (tells : K → History → Type 0) (old new : K) (mark : ℕ)
    (among : ℕ → Type 0) → TellsOne tells new → TellsBefore tells old new
    → ((past : History) → tells old past → tells new past)
    → Recorded tells old mark among → Recorded tells new mark among
recorded_same tells old new mark among one before grows h past part told at n has =
    let g = before (part ++ past) told in
    let same = one g.0 (part ++ past) (grows g.0 g.1) told in
    h past part (subst (tells old) same g.1) at n has

here_or_there : (e : LinkEvent) (h : History) (n : ℕ) → HasFinish n (e ∷ h)
    → HasFinish n (e ∷ []) ⊎ HasFinish n h
here_or_there (noted m outs) h n has = inr has
here_or_there (started m worker job) h n has = inr has
here_or_there (refused m worker) h n has = inr has
here_or_there (finished m outs) h n has = ⊎_elim (λ same. inl (inl same)) inr has
here_or_there (failed m) h n has = inr has
here_or_there abandoned h n has = inr has

head_is : (e f : LinkEvent) (g h : History) → e ∷ g ≡ f ∷ h → (f ≡ e) × (g ≡ h)
head_is e f g h same = (cc, cc)

-- a call that told one event more: the task that finished by it is yet to be recorded
pub recorded_more : {K : Type 0} (tells : K → History → Type 0) (old new : K) (mark : ℕ)
    (among : ℕ → Type 0) (e : LinkEvent) → TellsOne tells new → TellsBefore tells old new
    → ((past : History) → tells old past → tells new (e ∷ past))
    → Recorded tells old mark among
    → Recorded tells new mark (λ n. HasFinish n (e ∷ []) ⊎ among n)
recorded_more {K} tells old new mark among e one before grows h past part told at n has =
    let g = before (part ++ past) told in
    of_part part (one (e ∷ g.0) (part ++ past) (grows g.0 g.1) told) g.1 has
  where
    of_part : {g : History} → (part : History) → e ∷ g ≡ part ++ past → tells old g
        → HasFinish n part → HasFinish n (e ∷ []) ⊎ among n
    of_part [] same was has = absurd has
    of_part {g} (f ∷ part) same was has =
        let parts = head_is e f g (part ++ past) same in
        ⊎_elim inl
        (λ later. inr (h past part (subst (tells old) parts.1 was) at n later))
        (here_or_there e part n
        (subst (λ (x : LinkEvent). HasFinish n (x ∷ part)) parts.0 has))
