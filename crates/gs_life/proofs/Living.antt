-- What stands, stands in each call of a life.
use Rattle.std.proofs.Common.{◌≡◌, List, [], ◌∷◌, refl, sym, subst, inr, ⊎_elim}
use Rattle.gs_disk.specs.Folder.{DiskState}
use Rattle.gs_disk.specs.Moments.{EachNow, Always}
use Rattle.gs_life.specs.Origin.{Origin}
use Rattle.gs_life.specs.Stands.{Stands, Fresh}
use Rattle.gs_life.specs.Lives.{IsNext, AreCalls, AllStand, IsFirst, IsLife}

-- what was left stands as the next call begins
next_stands : (o : Origin) (s t next : DiskState) → Always (Stands o) s t → IsNext s t next
    → EachNow (Stands o) next
next_stands o s t next always goes image left = ⊎_elim
    (λ same. always.now image (same image left))
    (λ crash. subst (Stands o) (sym (crash.2 image left)) (always.each crash.0 crash.1)) goes

calls_stand : {D : Type 0} (state : D → DiskState) (o : Origin) (call : D × D)
    (calls : List (D × D)) → EachNow (Stands o) (state call.0) → AreCalls state o call calls
    → AllStand state o (call ∷ calls)
calls_stand state o call [] begun are = (are begun, tt)
calls_stand state o call (next ∷ calls) begun are =
    let here = are.0 begun in (
      here,
      calls_stand state o next calls
          (next_stands o (state call.0) (state call.1) (state next.0) here are.1) are.2,
    )

first_stands : (o : Origin) (s : DiskState) → o.stood ≡ [] → EachNow (IsFirst o) s
    → EachNow (Stands o) s
first_stands o s none begins image left =
    let first = begins image left in
    Fresh (inr (first.unmarked, refl)) (record { goes_on = none; users = first.users })

pub life_stands : {D : Type 0} (state : D → DiskState) (o : Origin) (first : D × D)
    (calls : List (D × D)) → IsLife state o first calls → AllStand state o (first ∷ calls)
life_stands state o first calls life = calls_stand state o first calls
    (first_stands o (state first.0) life.none_stood life.begins) life.each
