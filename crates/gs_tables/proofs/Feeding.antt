-- The sources of what is read are the tasks that feed it.
use Rattle.std.proofs.Common.{◌≡◌, ◌<◌, ◌≤◌, ◌+◌, ◌&&◌, ◌||◌, ◌==◌, nat_lt, ℕ, zero, suc, Bool, true, false, refl, sym, ap, ◌∙◌, List, [], ◌∷◌, ◌++◌, arith, Option, Some, None, if◌then◌else◌}
use Rattle.std.specs.List.{slice_get}
use Rattle.std.proofs.lemmas.Bool.Decides.{nat_tests}
use Rattle.gs_graph.specs.Numbers.{has}
use Rattle.gs_types.specs.declared.note.Version.{Version}
use Rattle.gs_types.specs.declared.note.Version.TheVariants.{Original, Out, Main}
use Rattle.gs_tables.specs.Sources.{source_of, sources, feeds}

-- each task among these is before task n
abbrev pub AreEarlier : (n : ℕ) → List (Option Version) → Type 0
AreEarlier n reads = (i m place : ℕ) → slice_get reads i ≡ Some (Some (Out m place)) → (0 < m) × (m < n)

within : (m n : ℕ) → 0 < m → m < n → (nat_lt 0 m && nat_lt m n) ≡ true
within m n pos lt = grind (arith, nat_tests)

pub sources_feed : (n p : ℕ) (reads : List (Option Version)) → AreEarlier n reads → has p (sources n reads) ≡ feeds p reads
sources_feed n p [] early = refl
sources_feed n p (None ∷ reads) early = sources_feed n p reads (λ i m place e. early (suc i) m place e)
sources_feed n p (Some (Original name) ∷ reads) early = sources_feed n p reads (λ i m place e. early (suc i) m place e)
sources_feed n p (Some (Main k) ∷ reads) early = sources_feed n p reads (λ i m place e. early (suc i) m place e)
sources_feed n p (Some (Out m place) ∷ reads) early =
    let first = early 0 m place refl in
    ap (λ (b : Bool). has p ((if b then m ∷ [] else []) ++ sources n reads)) (within m n first.0 first.1)
    ∙ ap (λ (b : Bool). (m == p) || b) (sources_feed n p reads (λ i j at e. early (suc i) j at e))
