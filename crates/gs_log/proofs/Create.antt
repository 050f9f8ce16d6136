-- What a crash leaves at each call of making a log.
use Rattle.std.proofs.Common.{◌≡◌, ◌⊎◌, inl, inr, ⊎_elim, ℕ, List, [], ◌∷◌, Option, Some, None, IfSome, refl, sym, ◌∙◌, ap, subst, arith}
use Rattle.std.specs.Prelude.{IsSome}
use Rattle.gs_disk.specs.Folder.{Folder, DiskState, KeepsOthers, Tears, Same, overwritten}
use Rattle.gs_disk.specs.Moments.{Leaves, Passes, LeavesOnly, EachNow, Always}
use Rattle.gs_disk.specs.Going.{always_started, always_goes_on, always_same, always_wider}
use Rattle.gs_log.specs.Names.{log_name, mark_name, mark_is_not_log, log_is_not_mark}
use Rattle.gs_log.specs.Grammar.{IsLog}
use Rattle.gs_log.specs.Holding.{Holds, IsNoneOrEmpty}

empty_log : IsLog [] (0 ∷ [])
empty_log = record { few = omega arith; spelled = (0, [], (λ same. absurd (omega arith)), refl) }

-- no mark is there
abbrev pub IsBare : Folder → Type 0
IsBare image = image mark_name ≡ None

pub holds_empty : (f g : Folder) → f log_name ≡ Some (0 ∷ []) → KeepsOthers (mark_name ∷ []) f g → IsSome (g mark_name) → Holds [] g
holds_empty f g logged kept marked = record { marked = marked; bytes = 0 ∷ []; file = kept.each log_name (log_is_not_mark, tt) ∙ logged; log = empty_log }

pub logged : (f g h : Folder) → f log_name ≡ Some [] → IfSome (f log_name) (λ old. g log_name ≡ Some (overwritten 0 (0 ∷ []) old)) → h ≡ g → h log_name ≡ Some (0 ∷ [])
logged f g h made wrote same = ap (λ (k : Folder). k log_name) same ∙ subst (λ (o : Option (List ℕ)). IfSome o (λ v. g log_name ≡ Some (overwritten 0 (0 ∷ []) v))) made wrote

some_or : (o : Option (List ℕ)) → (o ≡ None) ⊎ IsSome o
some_or None = inl refl
some_or (Some v) = inr refl

module _ (s0 : DiskState) (unmarked : EachNow (λ image. image mark_name ≡ None) s0) where
  pub bare_made : (a : DiskState) → Passes (KeepsOthers (log_name ∷ [])) s0 a → Always IsBare s0 a
  bare_made a p = always_goes_on IsBare (KeepsOthers (log_name ∷ [])) s0 s0 a (always_started IsBare s0 unmarked) p (λ f g left none kept. kept.each mark_name (mark_is_not_log, tt) ∙ none)

  pub bare_wrote : (k n : ℕ) (a b : DiskState) → Always IsBare s0 a → Passes (Tears log_name k n) a b → Always IsBare s0 b
  bare_wrote k n a b so_far p = always_goes_on IsBare (Tears log_name k n) s0 a b so_far p (λ f g left none t. t.others.each mark_name (mark_is_not_log, tt) ∙ none)

  pub bare_synced : (a b : DiskState) → Always IsBare s0 a → Passes Same a b → Always IsBare s0 b
  bare_synced a b so_far p = always_same IsBare s0 a b so_far p

  pub fine : (a : DiskState) → Always IsBare s0 a → Always (IsNoneOrEmpty s0.folder) s0 a
  fine a so_far = always_wider IsBare (IsNoneOrEmpty s0.folder) s0 a so_far (λ f none. inl none)

  pub marked : (a b : DiskState) → Always IsBare s0 a → LeavesOnly a.folder a → a.folder log_name ≡ Some (0 ∷ []) → KeepsOthers (log_name ∷ []) s0.folder a.folder → Passes (KeepsOthers (mark_name ∷ [])) a b → Always (IsNoneOrEmpty s0.folder) s0 b
  marked a b so_far only log kept p = always_goes_on (IsNoneOrEmpty s0.folder) (KeepsOthers (mark_name ∷ [])) s0 a b (fine a so_far) p fine_after
    where
      fine_after : (f g : Folder) → Leaves a f → IsNoneOrEmpty s0.folder f → KeepsOthers (mark_name ∷ []) f g → IsNoneOrEmpty s0.folder g
      fine_after f g left was mark =
          let is = only f left in
          ⊎_elim inl
          (λ some. inr (
            holds_empty f g (ap (λ (k : Folder). k log_name) is ∙ log) mark some,
            record { each = λ x out. mark.each x (out.1.0, tt) ∙ ap (λ (k : Folder). k x) is ∙ kept.each x (out.0, tt) },
          ))
          (some_or (g mark_name))

pub kept_through : (f g h i : Folder) → KeepsOthers (log_name ∷ []) f g → KeepsOthers (log_name ∷ []) g h → i ≡ h → KeepsOthers (log_name ∷ []) f i
kept_through f g h i one two same = record { each = λ x out. ap (λ (k : Folder). k x) same ∙ two.each x out ∙ one.each x out }

pub held_empty : (f g h : Folder) → f log_name ≡ Some (0 ∷ []) → KeepsOthers (mark_name ∷ []) f g → g mark_name ≡ Some [] → h ≡ g → Holds [] h
held_empty f g h log kept made same = subst (Holds []) (sym same) (holds_empty f g log kept (subst (λ (o : Option (List ℕ)). IsSome o) (sym made) refl))
