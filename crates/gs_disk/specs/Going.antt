-- How what is known of the images goes on from call to call. Each step of a client's proof is one
-- line by these.
use Rattle.std.specs.Prelude.{◌≡◌, ◌≢◌, ℕ, zero, suc, ◌<◌, length, get_or, List, [], ◌∷◌, refl}
use Rattle.std.proofs.Common.{inl, inr, ⊎_elim, subst, sym, ◌∙◌, le_refl, le_trans}
use Rattle.std.proofs.Math.Nat.{not-suc-le-zero, le_of_suc-le-suc}
use Rattle.gs_disk.specs.Folder.{Folder, DiskState, Outside, KeepsOthers, Tears, Same}
use Rattle.gs_disk.specs.Moments.{Leaves, EachNow, Comes, Passes, Always}

-- before the first call
pub started : (step : Folder → Folder → Type 0) → ((f : Folder) → step f f) → (s : DiskState)
    → Passes step s s
started step same s = record {
  later = le_refl s.moment;
  since = λ t image le left. inl left;
  now = λ image left. (image, left, same image);
}

-- one call more
pub goes_on : (step more all : Folder → Folder → Type 0) (a b c : DiskState) → Passes step a b
    → Passes more b c
    → ((f g : Folder) → step f g → all f g) → ((f g h : Folder) → Leaves b g → step f g → more g h
    → all f h) → Passes all a c
goes_on step more all a b c one two wider both = record {
  later = le_trans one.later two.later;
  since = λ t image le left. ⊎_elim
      (λ l. ⊎_elim inl (λ h. inr (h.0, h.1, wider h.0 image h.2)) (one.since t image le l))
      (λ h. let from = one.now h.0 h.1 in inr
      (from.0, from.1, both from.0 h.0 image h.1 from.2 h.2))
      (two.since t image (le_trans le one.later) left);
  now = λ image left. let h = two.now image left in let from = one.now h.0 h.1
      in (from.0, from.1, both from.0 h.0 image h.1 from.2 h.2);
}

-- what each image has now goes over a step
pub now_goes_on : (P Q : Folder → Type 0) (step : Folder → Folder → Type 0) (s t : DiskState)
    → ((f g : Folder) → P f → step f g → Q g) → EachNow P s → Passes step s t → EachNow Q t
now_goes_on P Q step s t over each passes image left = let from = passes.now image left in over
    from.0 image (each from.0 from.1) from.2

-- each of these is one of those
abbrev pub AreAmong : List (List ℕ) → List (List ℕ) → Type 0
AreAmong few names = (x : List ℕ) → Outside names x → Outside few x

-- what one step keeps and another keeps, both keep
pub keeps : (names few : List (List ℕ)) → AreAmong few names → (f g h : Folder)
    → KeepsOthers names f g → KeepsOthers few g h → KeepsOthers names f h
keeps names few among f g h one two = record {
  each = λ x out. two.each x (among x out)
      ∙ one.each x out;
}

pub keeps_none : (names : List (List ℕ)) (f : Folder) → KeepsOthers names f f
keeps_none names f = record { each = λ x out. refl }

pub keeps_started : (names : List (List ℕ)) (s : DiskState) → Passes (KeepsOthers names) s s
keeps_started names s = started (KeepsOthers names) (keeps_none names) s

pub keeps_files : (names few : List (List ℕ)) (a b c : DiskState) → Passes (KeepsOthers names) a b
    → Passes (KeepsOthers few) b c → AreAmong few names → Passes (KeepsOthers names) a c
keeps_files names few a b c one two among = goes_on (KeepsOthers names) (KeepsOthers few)
    (KeepsOthers names) a b c one two (λ f g s. s) (λ f g h left. keeps names few among f g h)

pub keeps_write : (names : List (List ℕ)) (name : List ℕ) (at n : ℕ) (a b c : DiskState)
    → Passes (KeepsOthers names) a b → Passes (Tears name at n) b c → AreAmong (name ∷ []) names
    → Passes (KeepsOthers names) a c
keeps_write names name at n a b c one two among =
    goes_on (KeepsOthers names) (Tears name at n) (KeepsOthers names) a b c one two (λ f g s. s)
    (λ f g h left s t. keeps names (name ∷ []) among f g h s t.others)

pub keeps_same : (names : List (List ℕ)) (a b c : DiskState) → Passes (KeepsOthers names) a b
    → Passes Same b c → Passes (KeepsOthers names) a c
keeps_same names a b c one two =
    goes_on (KeepsOthers names) Same (KeepsOthers names) a b c one two (λ f g s. s)
    (λ f g h left s t. subst (KeepsOthers names f) (sym t.is) s)

-- calls that change nothing
pub same_started : (s : DiskState) → Passes Same s s
same_started s = started Same (λ f. record { is = refl }) s

pub same_then : (a b c : DiskState) → Passes Same a b → Passes Same b c → Passes Same a c
same_then a b c one two = goes_on Same Same Same a b c one two (λ f g s. s)
    (λ f g h left s t. record { is = t.is ∙ s.is })

pub item_among : (names : List (List ℕ)) (i : ℕ) (name : List ℕ) → i < length names
    → name ≡ get_or names i name → AreAmong (name ∷ []) names
item_among names i name lt is x out = (λ same. outside_item names i name x lt out (same ∙ is), tt)
  where
    outside_item : (names : List (List ℕ)) (i : ℕ) (d x : List ℕ) → i < length names
        → Outside names x → x ≢ get_or names i d
    outside_item [] i d x lt out = absurd (not-suc-le-zero lt)
    outside_item (n ∷ names) zero d x lt out = out.0
    outside_item (n ∷ names) (suc i) d x lt out = outside_item names i d x (le_of_suc-le-suc lt)
        out.1

-- before the first call
pub always_started : (P : Folder → Type 0) (s : DiskState) → EachNow P s → Always P s s
always_started P s stands = record {
  later = le_refl s.moment;
  each = stands;
  since = λ t image le left. inl left;
  now = stands;
}

-- one call more, after which what has P still has it
pub always_goes_on : (P : Folder → Type 0) (more : Folder → Folder → Type 0) (a b c : DiskState)
    → Always P a b → Passes more b c → ((f g : Folder) → Leaves b f → P f → more f g → P g)
    → Always P a c
always_goes_on P more a b c one two keeps_P = record {
  later = le_trans one.later two.later;
  each = λ image left. ⊎_elim (one.each image) (came image)
      (two.since a.moment image one.later left);
  since = λ t image le left. ⊎_elim (one.since t image le) (λ h. inr (came image h))
      (two.since t image (le_trans le one.later) left);
  now = λ image left. came image (two.now image left);
}
  where
    came : (image : Folder) → Comes more b image → P image
    came image h = keeps_P h.0 image h.1 (one.now h.0 h.1) h.2

-- one call more, which changes nothing
pub always_same : (P : Folder → Type 0) (a b c : DiskState) → Always P a b → Passes Same b c
    → Always P a c
always_same P a b c one two = always_goes_on P Same a b c one two
    (λ f g left p same. subst P (sym same.is) p)

pub always_wider : (P Q : Folder → Type 0) (a b : DiskState) → Always P a b
    → ((f : Folder) → P f → Q f) → Always Q a b
always_wider P Q a b one wider = record {
  later = one.later;
  each = λ image left. wider image (one.each image left);
  since = λ t image le left. ⊎_elim inl (λ p. inr (wider image p)) (one.since t image le left);
  now = λ image left. wider image (one.now image left);
}

-- two runs of calls, one after the other
pub always_then : (P : Folder → Type 0) (a b c : DiskState) → Always P a b → Always P b c
    → Always P a c
always_then P a b c one two = record {
  later = le_trans one.later two.later;
  each = λ image left. ⊎_elim (one.each image) (λ p. p) (two.since a.moment image one.later left);
  since = λ t image le left. ⊎_elim (one.since t image le) inr
      (two.since t image (le_trans le one.later) left);
  now = two.now;
}

-- two clauses of one run: what its images have of their own, and that each is an image of the
-- beginning after a step
pub always_beside : (P A Q : Folder → Type 0) (step : Folder → Folder → Type 0) (a b : DiskState)
    → EachNow P a → Always A a b → Passes step a b
    → ((f : Folder) → Leaves a f → Q f) → ((f g : Folder) → Leaves a f → P f → step f g → A g → Q g)
    → Always Q a b
always_beside P A Q step a b stands always passes begun joined = record {
  later = always.later;
  each = λ image left. ⊎_elim (begun image) (came image (always.each image left))
      (passes.since a.moment image (le_refl a.moment) left);
  since = λ t image le left. ⊎_elim inl (λ h. ⊎_elim inl (λ own. inr (came image own h))
      (always.since t image le left)) (passes.since t image le left);
  now = λ image left. came image (always.now image left) (passes.now image left);
}
  where
    came : (image : Folder) → A image → Comes step a image → Q image
    came image own h = joined h.0 image h.1 (stands h.0 h.1) h.2 own
