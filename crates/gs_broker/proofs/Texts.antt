-- Reading line after line.
use Rattle.std.proofs.Common.{◌≡◌, ℕ, zero, suc, ◌+◌, ◌<◌, List, [], ◌∷◌, ◌++◌, length, take, drop, get_or, refl, sym, ap, subst, arith}
use denote.Ref.{Bor}
use Rattle.std.proofs.lemmas.List.{length-take, length-map}
use Rattle.gs_idl.specs.Interface.{Signature}
use Rattle.gs_broker.specs.Text.{Entry, LineSays, LinesSay, no_line, line_more, IsLineFault}
use Rattle.gs_broker.specs.Reading.{spelled, IsStop, err_at, IsLinesStop}
use Rattle.gs_broker.specs.declared.line.Stop.{Stop}
use Rattle.gs_broker.specs.declared.line.Stop.TheVariants.{Fault, Memory}
use Rattle.gs_broker.proofs.Marking.{word_more_at}

lines_more : (ops : List Signature) (xs : List (List ℕ)) (line : List ℕ) (a b c : List Entry) → LinesSay ops xs a b → LineSays ops line b c → LinesSay ops (xs ++ line ∷ []) a c
lines_more ops xs line a b c (no_line d) says = line_more line [] d c c says (no_line c)
lines_more ops xs line a b c (line_more l ls d e f first rest) says = line_more l (ls ++ line ∷ []) d e c first (lines_more ops ls line e f c rest says)

pub one_line_more : (ops : List Signature) (lines : List (Bor (List ℕ))) (i : ℕ) (d : Bor (List ℕ)) (a b c : List Entry) → i < length lines → LinesSay ops (take i (spelled lines)) a b → LineSays ops (get_or lines i d).now b c → LinesSay ops (take (i + 1) (spelled lines)) a c
one_line_more ops lines i d a b c lt said says =
    subst (λ (xs : List (List ℕ)). LinesSay ops xs a c) (sym (word_more_at lines i d lt)) (lines_more ops (take i (spelled lines)) (get_or lines i d).now a b c said says)

parts_at : (lines : List (Bor (List ℕ))) (i : ℕ) (d : Bor (List ℕ)) → i < length lines → spelled lines ≡ take i (spelled lines) ++ (get_or lines i d).now ∷ drop (suc i) (spelled lines)
parts_at [] i d lt = absurd (omega arith)
parts_at (x ∷ xs) zero d lt = refl
parts_at (x ∷ xs) (suc i) d lt = ap (λ (ws : List (List ℕ)). x.now ∷ ws) (parts_at xs i d (omega arith))

pub stops_at : (ops : List Signature) (lines : List (Bor (List ℕ))) (i : ℕ) (d : Bor (List ℕ)) (before : List Entry) (stop : Stop) → i < length lines → LinesSay ops (take i (spelled lines)) [] before → IsStop (IsLineFault ops (get_or lines i d).now before) stop → IsLinesStop ops (spelled lines) (err_at stop (i + 1))
stops_at ops lines i d before (Fault kind) lt said fault = record {
  front = take i (spelled lines);
  line = (get_or lines i d).now;
  rest = drop (suc i) (spelled lines);
  place = parts_at lines i d lt;
  count = (let n = length-take i (spelled lines) in let m = length-map lines (λ (w : Bor (List ℕ)). w.now) in omega arith);
  before = before;
  said = said;
  fault = fault;
}
stops_at ops lines i d before Memory lt said fault = tt
