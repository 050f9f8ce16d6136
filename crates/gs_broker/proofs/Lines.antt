-- What the steps of reading a line make of it.
use Rattle.std.proofs.Common.{◌≡◌, ◌≢◌, ℕ, suc, ◌<◌, ◌≤◌, Bool, true, false, List, [], ◌∷◌, ◌++◌, length, refl, sym, ap, subst, ◌∙◌, arith}
use Rattle.std.specs.Prelude.{not, ◌||◌, ◌==◌}
use Rattle.std.proofs.lemmas.Bool.Decides.{nat_tests}
use denote.Ref.{Bor}
use Rattle.gs_types.specs.Name.{IsName}
use Rattle.gs_types.specs.declared.limits.TheConstants.{WORKER_LIMIT}
use Rattle.gs_idl.specs.Interface.{Signature}
use Rattle.gs_broker.specs.Text.{Parts, IsSlots, IsRight, are_known, are_distinct, is_twice, Entry, entry_by, LineSays, worker, IsLineFault, unknown_op, twice, too_many, AreWords}
use Rattle.gs_broker.specs.Reading.{IsStop, IsNotTaken, IsNoWorker, IsNextWorker, entries_of, entry_of, spelled}
use Rattle.gs_broker.specs.declared.kind.WorkersKind.TheVariants.{TooLong, BadByte, BadLine, BadName, BadSlots, UnknownOp, Twice, TooMany, Empty}
use Rattle.gs_broker.specs.declared.line.Stop.{Stop}
use Rattle.gs_broker.specs.declared.line.Stop.TheVariants.{Fault, Memory}
use Rattle.gs_broker.specs.declared.workers.Worker.{Worker}

or_second : (a b : Bool) → b ≡ false → (a || not b) ≡ true
or_second true b e = refl
or_second false b e = ap not e

pub or_first : (a b : Bool) → a ≡ true → (a || b) ≡ true
or_first true b e = refl
or_first false b e = absurd cc

neither : (a b : Bool) → a ≡ false → b ≡ true → (a || not b) ≡ false
neither a b p q = ap (λ (t : Bool). t || not b) p ∙ ap not q

-- operations that aren't taken are a fault of the line
pub not_taken : (ops : List Signature) (p : Parts) (ws : List Worker) (slots : ℕ) (stop : Stop) → IsName p.name → IsSlots p.slots slots → IsStop (IsNotTaken ops p.operations) stop → IsStop (IsNoWorker ops p ws) stop
not_taken ops p ws slots (Fault UnknownOp) name digits h = λ line has. unknown_op p slots has name digits h
not_taken ops p ws slots (Fault Twice) name digits h = λ line has.
    twice p slots (record { parts = has; name = name; digits = digits; known = h.0 }) (or_second _ (are_distinct p.operations) h.1)
not_taken ops p ws slots (Fault TooLong) name digits h = absurd h
not_taken ops p ws slots (Fault BadByte) name digits h = absurd h
not_taken ops p ws slots (Fault BadLine) name digits h = absurd h
not_taken ops p ws slots (Fault BadName) name digits h = absurd h
not_taken ops p ws slots (Fault BadSlots) name digits h = absurd h
not_taken ops p ws slots (Fault TooMany) name digits h = absurd h
not_taken ops p ws slots (Fault Empty) name digits h = absurd h
not_taken ops p ws slots Memory name digits h = tt

pub no_room : (ops : List Signature) (p : Parts) (ws : List Entry) (slots : ℕ) (line : List ℕ) → IsRight ops line p slots → is_twice ws p ≡ false → WORKER_LIMIT ≤ length ws → IsLineFault ops line ws TooMany
no_room ops p ws slots line right once full = too_many p slots right once full

pub length_entries : (ws : List Worker) → length (entries_of ws) ≡ length ws
length_entries [] = refl
length_entries (w ∷ ws) = let r = length_entries ws in omega arith

pub one_more : (ops : List Signature) (p : Parts) (ws : List Worker) (w : Worker) → IsName p.name → IsSlots p.slots w.slots → are_known ops p.operations ≡ true → is_twice (entries_of ws) p ≡ false → length ws < WORKER_LIMIT → entry_of w ≡ entry_by ops p w.slots → IsNextWorker ops p ws w
one_more ops p ws w name digits known once few is = record {
  said = λ line has. subst (λ (e : Entry). LineSays ops line (entries_of ws) (entries_of ws ++ e ∷ [])) (sym is)
      (worker (entries_of ws) p w.slots (record { parts = has; name = name; digits = digits; known = known }) once (let n = length_entries ws in omega arith));
  room = few;
  few = digits.few;
}

pub full : (ws : List Worker) → WORKER_LIMIT ≤ length ws → WORKER_LIMIT ≤ length (entries_of ws)
full ws le = let n = length_entries ws in omega arith

pub is_once : (a b : Bool) → a ≡ false → b ≡ true → (a || not b) ≡ false
is_once a b p q = neither a b p q

abbrev pub made : List ℕ → ℕ → List ℕ → List Bool → Entry
made name slots program takes = record { name = name; slots = slots; program = program; takes = takes }

pub made_same : (slots : ℕ) (name other program text : List ℕ) (takes wanted : List Bool) → name ≡ other → program ≡ text → takes ≡ wanted → made name slots program takes ≡ made other slots text wanted
made_same slots name other program text takes wanted e f g =
    ap (λ (n : List ℕ). made n slots program takes) e ∙ ap (λ (n : List ℕ). made other slots n takes) f ∙ ap (made other slots text) g

-- ---- whether there are words

pub no_words : (content : List ℕ) (words : List (Bor (List ℕ))) → AreWords content (spelled words) → true ≡ (length words == 0) → AreWords content []
no_words content [] are e = are
no_words content (w ∷ ws) are e = absurd (more (length ws) e)
  where
    more : (n : ℕ) → true ≡ (suc n == 0) → ⊥
    more n e = grind (arith, nat_tests)

pub some_words : (words : List (Bor (List ℕ))) → false ≡ (length words == 0) → spelled words ≢ []
some_words [] e none = let z : (0 == 0) ≡ true = refl in absurd cc
some_words (w ∷ ws) e none = absurd cc

pub no_entries : (ws : List Worker) → length ws ≡ 0 → entries_of ws ≡ []
no_entries [] e = refl
no_entries (w ∷ ws) e = absurd (omega arith)
