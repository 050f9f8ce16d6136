-- Runs of bytes of a class, at the front of a text.
use Rattle.std.proofs.Common.{◌≡◌, ℕ, Bool, true, false, cond, List, [], ◌∷◌, ◌++◌, length, slice_index, refl, ap, ◌∙◌}
use Rattle.std.specs.List.{take_while, AllPass}
use Rattle.std.proofs.lemmas.List.Sums.{take_while-cons}
use Rattle.std.proofs.lemmas.List.Elements.{All-head, All-tail}
use Rattle.gs_tree.specs.Bytes.{leading}

-- a run goes on at a byte of the class
run_on : (t : Bool) (b : ℕ) (found run : List ℕ) → t ≡ true → found ≡ run → cond t (b ∷ found) [] ≡ b ∷ run
run_on true b found run h e = ap (λ r. b ∷ r) e
run_on false b found run h e = absurd (let f : false ≡ true = h in cc)

-- a run ends at a byte of another class
pub take_while-run : (p : ℕ → Bool) (run rest : List ℕ) → AllPass p run → p (slice_index rest 0) ≡ false → take_while p (run ++ rest) ≡ run
take_while-run p [] [] h e = refl
take_while-run p [] (b ∷ rest) h e = rw (take_while-cons, e) refl
take_while-run p (b ∷ run) rest h e =
    take_while-cons p b (run ++ rest) ∙
    run_on (p b) b (take_while p (run ++ rest)) run (All-head (λ y. p y ≡ true) b run h) (take_while-run p run rest (All-tail (λ y. p y ≡ true) b run h) e)

-- and has the run's length
pub leading-run : (p : ℕ → Bool) (run rest : List ℕ) → AllPass p run → p (slice_index rest 0) ≡ false → leading p (run ++ rest) ≡ length run
leading-run p run rest h e = ap length (take_while-run p run rest h e)
