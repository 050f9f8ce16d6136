-- A text says one program, or is at one fault.
use Rattle.std.proofs.Common.{◌≡◌, ◌<◌, ◌≤◌, ◌+◌, ℕ, zero, suc, refl, sym, ap, ◌∙◌, subst, List, [], ◌∷◌, ◌++◌, arith, take, drop, append_assoc}
use Rattle.gs_tree.specs.Lexeme.{Lexeme}
use Rattle.gs_tree.specs.Sign.{Mark}
use Rattle.gs_tree.specs.Signs.{marks_of}
use Rattle.gs_tree.proofs.OneReading.{one_reading}
use Rattle.gs_parse.specs.declared.fault.ParseKind.{ParseKind}
use Rattle.gs_parse.specs.Reading.{Limits, limited, SaysProgram, IsBeginning, IsFaultAt}
use Rattle.gs_parse.specs.Laws.{OneFault, OneProgram, SaysOrFails}
use Rattle.gs_parse.specs.Faulty.{too_long, at_sign, IsKindAt, deep, unfit, line_from}
use Rattle.gs_parse.proofs.Faults.{one_meaning}

pub one_program : OneProgram
one_program text p q a b =
    one_meaning limited (marks_of text a.tokens) p q a.says
    (subst (λ (z : List Lexeme). SaysProgram limited (marks_of text z) q) (one_reading text b.tokens a.tokens b.cut a.cut) b.says)

pub says_or_fails : SaysOrFails
says_or_fails text p line kind a (too_long long) = absurd (omega (arith, a.short, long))
says_or_fails text p line kind a (at_sign tokens k kind2 short cut fault why) =
    fault.whole p (subst (λ (z : List Lexeme). SaysProgram limited (marks_of text z) p) (one_reading text a.tokens tokens a.cut cut) a.says)

-- ---- one place

take_more : (ts : List Mark) (j k : ℕ) → j ≤ k → (more : List Mark) × (take k ts ≡ take j ts ++ more)
take_more [] zero zero le = ([], cc)
take_more [] zero (suc k) le = ([], cc)
take_more [] (suc j) zero le = absurd (omega (arith, le))
take_more [] (suc j) (suc k) le = ([], cc)
take_more (x ∷ ts) zero k le = (take k (x ∷ ts), cc)
take_more (x ∷ ts) (suc j) zero le = absurd (omega (arith, le))
take_more (x ∷ ts) (suc j) (suc k) le = let m = take_more ts j k (omega (arith, le)) in (m.0, ap (λ z. x ∷ z) m.1)

shorter : (l : Limits) (ts : List Mark) (j k : ℕ) → j ≤ k → IsBeginning l (take k ts) → IsBeginning l (take j ts)
shorter l ts j k le b =
    let m = take_more ts j k le in
    (m.0 ++ b.0, b.1, subst (λ (z : List Mark). SaysProgram l z b.1) (ap (λ z. z ++ b.0) m.1 ∙ append_assoc (take j ts) m.0 b.0) b.2)

not_before : (ts : List Mark) (j k : ℕ) → IsFaultAt ts j → IsFaultAt ts k → j < k → ⊥
not_before ts j k a b lt =
    a.here (omega (arith, lt, b.within)) (shorter limited ts (j + 1) k (omega (arith, lt)) b.before)

data Order (j k : ℕ) : Type 0 where
  less : j < k → Order j k
  same : j ≡ k → Order j k
  more : k < j → Order j k

next : (j k : ℕ) → Order j k → Order (suc j) (suc k)
next j k (less lt) = less (omega (arith, lt))
next j k (same e) = same (ap suc e)
next j k (more lt) = more (omega (arith, lt))

order : (j k : ℕ) → Order j k
order zero zero = same refl
order zero (suc k) = less (omega (arith))
order (suc j) zero = more (omega (arith))
order (suc j) (suc k) = next j k (order j k)

by_order : (ts : List Mark) (j k : ℕ) → IsFaultAt ts j → IsFaultAt ts k → Order j k → j ≡ k
by_order ts j k a b (less lt) = absurd (not_before ts j k a b lt)
by_order ts j k a b (same e) = e
by_order ts j k a b (more lt) = absurd (not_before ts k j b a lt)

one_place : (ts : List Mark) (j k : ℕ) → IsFaultAt ts j → IsFaultAt ts k → j ≡ k
one_place ts j k a b = by_order ts j k a b (order j k)

one_kind : (ts : List Mark) (k : ℕ) (a b : ParseKind) → IsKindAt ts k a → IsKindAt ts k b → a ≡ b
one_kind ts k a b (deep lt begins) (deep lt2 begins2) = refl
one_kind ts k a b (deep lt begins) (unfit never) = absurd (never lt begins)
one_kind ts k a b (unfit never) (deep lt begins) = absurd (never lt begins)
one_kind ts k a b (unfit never) (unfit never2) = refl

-- a fault of these signs
record Found (text : List ℕ) (tokens : List Lexeme) (line : ℕ) (kind : ParseKind) : Type 0 where
  pub at : ℕ
  pub fault : IsFaultAt (marks_of text tokens) at
  pub why : IsKindAt (marks_of text tokens) at kind
  pub stands : line ≡ line_from text (drop at (marks_of text tokens))

found_once : (text : List ℕ) (tokens : List Lexeme) (line other : ℕ) (kind others : ParseKind) → Found text tokens line kind → Found text tokens other others → (line ≡ other) × (kind ≡ others)
found_once text tokens line other kind others a b =
    let e : a.at ≡ b.at = one_place (marks_of text tokens) a.at b.at a.fault b.fault in (
      a.stands ∙ ap (λ (n : ℕ). line_from text (drop n (marks_of text tokens))) e ∙ sym b.stands,
      one_kind (marks_of text tokens) b.at kind others (subst (λ (n : ℕ). IsKindAt (marks_of text tokens) n kind) e a.why) b.why,
    )

pub one_fault : OneFault
one_fault text line other kind others (too_long a) (too_long b) = (refl, refl)
one_fault text line other kind others (too_long a) (at_sign tokens k c short cut fault why) = absurd (omega (arith, a, short))
one_fault text line other kind others (at_sign tokens k c short cut fault why) (too_long b) = absurd (omega (arith, b, short))
one_fault text line other kind others (at_sign tokens k c short cut fault why) (at_sign tokens2 k2 c2 short2 cut2 fault2 why2) =
    let e : tokens2 ≡ tokens = one_reading text tokens2 tokens cut2 cut in
    let b : Found text tokens2 other others = record { at = k2; fault = fault2; why = why2; stands = refl } in
    found_once text tokens line other kind others (record { at = k; fault = fault; why = why; stands = refl }) (subst (λ (z : List Lexeme). Found text z other others) e b)
