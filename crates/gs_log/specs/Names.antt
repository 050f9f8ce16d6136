-- The files of the log. What they are called doesn't unfold: these facts are what other crates need
-- of it.
use Rattle.std.specs.Prelude.{◌≢◌, ℕ, zero, suc, List, [], ◌∷◌, refl}
use Rattle.std.proofs.Common.{arith}
use Rattle.gs_disk.specs.Name.{NamedTo, IsDiskName, IsStore}

-- `.gs.log`
unfoldable pub log_name : List ℕ
log_name = 46 ∷ 103 ∷ 115 ∷ 46 ∷ 108 ∷ 111 ∷ 103 ∷ []

-- `.gs.on`
unfoldable pub mark_name : List ℕ
mark_name = 46 ∷ 103 ∷ 115 ∷ 46 ∷ 111 ∷ 110 ∷ []

pub log_is_store : IsStore log_name
unfolding log_name
log_is_store = record { rest = 108 ∷ 111 ∷ 103 ∷ []; is = refl }

pub mark_is_store : IsStore mark_name
unfolding mark_name
mark_is_store = record { rest = 111 ∷ 110 ∷ []; is = refl }

pub mark_is_not_log : mark_name ≢ log_name
unfolding log_name mark_name
mark_is_not_log same = cc

pub log_is_not_mark : log_name ≢ mark_name
unfolding log_name mark_name
log_is_not_mark same = cc

pub log_is_name : IsDiskName log_name
unfolding log_name
log_is_name = record { some = omega arith; short = omega arith; allowed = each }
  where
    each : NamedTo (46 ∷ 103 ∷ 115 ∷ 46 ∷ 108 ∷ 111 ∷ 103 ∷ []) 7
    each zero lt = refl
    each (suc zero) lt = refl
    each (suc (suc zero)) lt = refl
    each (suc (suc (suc zero))) lt = refl
    each (suc (suc (suc (suc zero)))) lt = refl
    each (suc (suc (suc (suc (suc zero))))) lt = refl
    each (suc (suc (suc (suc (suc (suc zero)))))) lt = refl
    each (suc (suc (suc (suc (suc (suc (suc k))))))) lt = absurd (omega arith)

pub mark_is_name : IsDiskName mark_name
unfolding mark_name
mark_is_name = record { some = omega arith; short = omega arith; allowed = each }
  where
    each : NamedTo (46 ∷ 103 ∷ 115 ∷ 46 ∷ 111 ∷ 110 ∷ []) 6
    each zero lt = refl
    each (suc zero) lt = refl
    each (suc (suc zero)) lt = refl
    each (suc (suc (suc zero))) lt = refl
    each (suc (suc (suc (suc zero)))) lt = refl
    each (suc (suc (suc (suc (suc zero))))) lt = refl
    each (suc (suc (suc (suc (suc (suc k)))))) lt = absurd (omega arith)
