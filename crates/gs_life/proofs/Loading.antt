-- What a loaded store says of a folder that stands, and how a record begins.
use Rattle.std.proofs.Common.{◌≡◌, ℕ, zero, suc, arith, true, List, [], ◌∷◌, ◌++◌, Option, Some, None, Result, Ok, Err, refl, sym, ap, subst, ◌∙◌, append_assoc, inl, inr}
use Rattle.std.specs.Prelude.{All, IsSome}
use Rattle.std.proofs.lemmas.List.{append-nil}
use Rattle.gs_disk.specs.Folder.{Folder, DiskState}
use Rattle.gs_disk.specs.Moments.{LeavesOnly}
use Rattle.gs_log.specs.Names.{mark_name}
use Rattle.gs_log.specs.OneList.{one_list_held}
use Rattle.gs_entries.specs.Entries.{entry}
use Rattle.gs_entries.specs.Order.{stage_of, accepted, records}
use Rattle.gs_entries.specs.declared.entry.Entry.{Entry}
use Rattle.gs_entries.specs.declared.entry.Entry.TheVariants as made
use Rattle.gs_entries.specs.declared.entry.Stage.{Stage}
use Rattle.gs_entries.specs.declared.entry.Stage.TheVariants as stages
use Rattle.gs_entries.specs.declared.entry.Texts.{Texts}
use Rattle.gs_entries.proofs.Ordered.{accepted_spelled}
use Rattle.gs_store.specs.Keeps.{spelled, HasEntries, Keeps, KeepsEither}
use Rattle.gs_store.specs.Ordered.{AreBehind, AreInOrder}
use Rattle.gs_store.specs.Loading.{IsStoreOf}
use Rattle.gs_store.specs.State.{StoreState}
use Rattle.gs_life.specs.Origin.{Origin, UsersAre}
use Rattle.gs_life.specs.Standing.{as_in, IsSteady}
use Rattle.gs_life.specs.Stands.{IsRight, IsFresh, IsRunning, Stands, Fresh, Running, Gated, Closed, StandsAt}

-- ---- entries that are read back

read_behind : (before es : List Entry) → AreBehind before es
    → records before (spelled es) ≡ Ok (before ++ es)
unfolding spelled
read_behind before [] h = ap ok_of (sym (append-nil before))
  where
    ok_of : List Entry → Result (List Entry) ℕ
    ok_of l = Ok l
read_behind before (e ∷ es) h =
    let took : accepted before (entry.spell e) ≡ Some e =
    accepted_spelled before (entry.spell e) e (record { is = refl; fits = h.0 }) h.1 in
    ap (λ (o : Option Entry). elim o as (λ _. Result (List Entry) ℕ) [
      | Some x ↦ records (before ++ x ∷ []) (spelled es)
      | None ↦ Err (length_of before)
    ]) took
    ∙ read_behind (before ++ e ∷ []) es h.2
    ∙ ap ok_of (append_assoc before (e ∷ []) es)
  where
    ok_of : List Entry → Result (List Entry) ℕ
    ok_of l = Ok l

    length_of : List Entry → ℕ
    length_of l = Rattle.std.specs.Prelude.length l

-- entries in order are read from their payloads
pub in_order_read : (es : List Entry) → AreInOrder es → records [] (spelled es) ≡ Ok es
in_order_read es order = read_behind [] es order

ok_one : (x y : List Entry) → (r : Result (List Entry) ℕ) → r ≡ Ok x → r ≡ Ok y → x ≡ y
ok_one x y (Ok z) a b = cc
ok_one x y (Err n) a b = absurd cc

unmarked : (o : Option (List ℕ)) → IsSome o → o ≡ None → ⊥
unmarked (Some x) some none = absurd cc
unmarked None some none = absurd cc

-- a folder has one list of entries
one_entries : (es own : List Entry) (f : Folder) → records [] (spelled es) ≡ Ok es
    → records [] (spelled own) ≡ Ok own → HasEntries es f → HasEntries own f → es ≡ own
one_entries es own f read again (inl h) (inl k) =
    ok_one es own (records [] (spelled own))
    (ap (records []) (sym (one_list_held (spelled es) (spelled own) f h k)) ∙ read) again
one_entries es own f read again (inl h) (inr k) =
    absurd (unmarked (f mark_name) h.marked k.0)
one_entries es own f read again (inr h) (inl k) =
    absurd (unmarked (f mark_name) k.marked h.0)
one_entries es own f read again (inr h) (inr k) = h.1 ∙ sym k.1

none_read : records [] (spelled []) ≡ Ok []
unfolding spelled
none_read = refl

-- ---- the case of a loaded store

at_stage : (o : Origin) (f : Folder) (es own : List Entry) (s : Stage) → es ≡ own → stage_of es ≡ s
    → StandsAt o f es s → StandsAt o f own (stage_of own)
at_stage o f es own s same is at =
    subst (λ (l : List Entry). StandsAt o f l (stage_of l)) same
    (subst (StandsAt o f es) (sym is) at)

pub stands_at : (o : Origin) (f : Folder) (store : StoreState) → IsStoreOf store f → Stands o f
    → StandsAt o f store.entries (stage_of store.entries)
stands_at o f store of (Fresh has fresh) =
    at_stage o f [] store.entries stages.Fresh
    (one_entries [] store.entries f none_read of.read has of.entries) refl (refl, fresh)
stands_at o f store of (Running es has r) =
    at_stage o f es store.entries stages.Running
    (one_entries es store.entries f (in_order_read es r.are.in_order) of.read has of.entries)
    r.stage r
stands_at o f store of (Gated es has r) =
    at_stage o f es store.entries stages.Gated
    (one_entries es store.entries f (in_order_read es r.are.in_order) of.read has of.entries)
    r.stage r
stands_at o f store of (Closed es has r) =
    at_stage o f es store.entries stages.Closed
    (one_entries es store.entries f (in_order_read es r.are.in_order) of.read has of.entries)
    r.stage r

-- a disk with one image is steady
pub only_steady : (es : List Entry) (s : DiskState) → HasEntries es s.folder
    → LeavesOnly s.folder s → IsSteady es s
only_steady es s has only image left =
    subst (Keeps (as_in s.folder) es) (sym (only image left)) (record {
      entries = has;
      user_files = λ x user out. refl;
      versions = λ v kept named. refl;
    })

-- ---- the beginning of a record

no_done : (o : Origin) (f : Folder) (t : Texts) → All (IsRight o f) (made.Header t ∷ [])
no_done o f t zero d lt = tt
no_done o f t (suc k) d lt = absurd (omega (arith, lt))

pub header_only : (o : Origin) (f : Folder) → o.stood ≡ []
    → entry.fits (made.Header o.texts) ≡ true → UsersAre o f
    → IsRunning o f (made.Header o.texts ∷ [])
header_only o f none fits users = record {
  stage = refl;
  are = record {
    in_order = (fits, refl, tt);
    header = refl;
    goes_on = (
      made.Header o.texts ∷ [],
      ap (λ (l : List Entry). l ++ made.Header o.texts ∷ []) none,
    );
    dones = no_done o f o.texts;
  };
  users = users;
}

pub beginning_image : (o : Origin) (f image : Folder) → entry.fits (made.Header o.texts) ≡ true
    → IsFresh o f → KeepsEither (as_in f) [] (made.Header o.texts) image → Stands o image
beginning_image o f image fits fresh (inl k) = Fresh k.entries (record {
  goes_on = fresh.goes_on;
  users = λ x user. k.user_files x user tt ∙ fresh.users x user;
})
beginning_image o f image fits fresh (inr k) =
    Running (made.Header o.texts ∷ []) k.entries
    (header_only o image fresh.goes_on fits
    (λ x user. k.user_files x user tt ∙ fresh.users x user))
