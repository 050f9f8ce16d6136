-- The names of version files are names, and differ from each other and from those of all other
-- files.
use Rattle.std.specs.Prelude.{◌≡◌, ◌≢◌, ℕ, zero, suc, ◌+◌, ◌%◌, ◌^◌, ◌<◌, ◌≤◌, true, List, [], ◌∷◌, ◌++◌, length, decimal, refl}
use Rattle.std.proofs.Common.{ap, sym, arith, get_or, drop, length-append}
use Rattle.std.proofs.lemmas.Bool.{le-leb}
use Rattle.std.proofs.lemmas.Fmt.{decimal_by_steps, decimal_injective, length-decimal-le}
use Rattle.gs_types.specs.declared.note.Version.{Version}
use Rattle.gs_types.specs.declared.note.Version.TheVariants.{Original, Out, Main}
use Rattle.gs_disk.specs.Name.{is_name_byte, NamedTo, IsDiskName, IsUser}
use Rattle.gs_log.specs.Names.{log_name, mark_name}
use Rattle.gs_store.specs.Names.{out_name, main_name, version_name, IsKept}

-- each is a digit
abbrev AreDigits : List ℕ → Type 0
AreDigits [] = Unit {0}
AreDigits (d ∷ ds) = (48 ≤ d) × (d ≤ 57) × AreDigits ds

digits_push : (ds : List ℕ) (d : ℕ) → AreDigits ds → 48 ≤ d → d ≤ 57
    → AreDigits (ds ++ d ∷ [])
digits_push [] d h low high = (low, high, tt)
digits_push (x ∷ ds) d h low high = (h.0, h.1, digits_push ds d h.2 low high)

are_digits : (n : ℕ) → n < 2 ^ 64 → AreDigits (decimal n)
are_digits n small =
    decimal_by_steps (λ m ds. AreDigits ds) (λ m lt. (omega arith, omega arith, tt))
    (λ m ds le h. digits_push ds (48 + m % 10) h (omega arith) (omega arith)) n small

-- each is a byte of a name
abbrev AreNamed : List ℕ → Type 0
AreNamed [] = Unit {0}
AreNamed (b ∷ bs) = (is_name_byte b ≡ true) × AreNamed bs

digit_named : (d : ℕ) → 48 ≤ d → d ≤ 57 → is_name_byte d ≡ true
digit_named d low high = rw (le-leb 48 d low, le-leb d 57 high) refl

digits_named : (ds : List ℕ) → AreDigits ds → AreNamed ds
digits_named [] h = tt
digits_named (d ∷ ds) h = (digit_named d h.0 h.1, digits_named ds h.2)

named_append : (a b : List ℕ) → AreNamed a → AreNamed b → AreNamed (a ++ b)
named_append [] b h k = k
named_append (x ∷ a) b h k = (h.0, named_append a b h.1 k)

named_to : (bs : List ℕ) → AreNamed bs → NamedTo bs (length bs)
named_to [] h k lt = absurd (omega arith)
named_to (b ∷ bs) h zero lt = h.0
named_to (b ∷ bs) h (suc k) lt = named_to bs h.1 k (omega arith)

abbrev front : ℕ → List ℕ → List ℕ
front kind rest = 46 ∷ 103 ∷ 115 ∷ 46 ∷ kind ∷ 46 ∷ rest

front_named : (kind : ℕ) (rest : List ℕ) → is_name_byte kind ≡ true → AreNamed rest
    → AreNamed (front kind rest)
front_named kind rest k r = (refl, (refl, (refl, (refl, (k, (refl, r))))))

tail_named : (n k : ℕ) → n < 2 ^ 64 → k < 2 ^ 64 → AreNamed (decimal n ++ 46 ∷ decimal k)
tail_named n k small low =
    named_append (decimal n) (46 ∷ decimal k) (digits_named (decimal n) (are_digits n small))
    (refl, digits_named (decimal k) (are_digits k low))

pub out_is_name : (n k : ℕ) → n < 2 ^ 32 → k < 2 ^ 8 → IsDiskName (out_name n k)
unfolding out_name
out_is_name n k small low = record {
  some = omega arith;
  short = omega (
    arith,
    length-append (decimal n) (46 ∷ decimal k),
    length-decimal-le 10 n (omega arith) (omega arith) (omega arith),
    length-decimal-le 3 k (omega arith) (omega arith) (omega arith),
  );
  allowed =
      named_to (front 111 (decimal n ++ 46 ∷ decimal k))
      (front_named 111 _ refl (tail_named n k (omega arith) (omega arith)));
}

pub main_is_name : (k : ℕ) → k < 2 ^ 32 → IsDiskName (main_name k)
unfolding main_name
main_is_name k small = record {
  some = omega arith;
  short = omega (arith, length-decimal-le 10 k (omega arith) (omega arith) (omega arith));
  allowed =
      named_to (front 109 (decimal k))
      (front_named 109 _ refl (digits_named (decimal k) (are_digits k (omega arith))));
}

-- ---- apart

differ : (a b : ℕ) → a < b → a ≡ b → ⊥
differ a b lt e = omega arith

pub log_not_version : (v : Version) → IsKept v → log_name ≢ version_name v
unfolding log_name out_name main_name
log_not_version (Original x) kept e = absurd kept
log_not_version (Out n k) kept e =
    differ 108 111 (omega arith) (ap (λ (l : List ℕ). get_or l 4 0) e)
log_not_version (Main k) kept e =
    differ 108 109 (omega arith) (ap (λ (l : List ℕ). get_or l 4 0) e)

pub mark_not_version : (v : Version) → IsKept v → mark_name ≢ version_name v
unfolding mark_name out_name main_name
mark_not_version (Original x) kept e = absurd kept
mark_not_version (Out n k) kept e =
    differ 46 110 (omega arith) (sym (ap (λ (l : List ℕ). get_or l 5 0) e))
mark_not_version (Main k) kept e =
    differ 46 110 (omega arith) (sym (ap (λ (l : List ℕ). get_or l 5 0) e))

pub user_not_version : (x : List ℕ) (v : Version) → IsKept v → IsUser x
    → x ≢ version_name v
unfolding out_name main_name
user_not_version x (Original y) kept user e = absurd kept
user_not_version x (Out n k) kept user e = user.undotted _ e
user_not_version x (Main k) kept user e = user.undotted _ e

pub user_not_log : (x : List ℕ) → IsUser x → x ≢ log_name
unfolding log_name
user_not_log x user e = user.undotted _ e

pub user_not_mark : (x : List ℕ) → IsUser x → x ≢ mark_name
unfolding mark_name
user_not_mark x user e = user.undotted _ e

tail_is : (x y : ℕ) (a b : List ℕ) → x ∷ a ≡ y ∷ b → (x ≡ y) × (a ≡ b)
tail_is x y a b e = (cc, cc)

-- numbers of digits around a dot
around_dot : (a b c d : List ℕ) → AreDigits a → AreDigits b
    → a ++ 46 ∷ c ≡ b ++ 46 ∷ d → (a ≡ b) × (c ≡ d)
around_dot [] [] c d h k e = (refl, (tail_is 46 46 c d e).1)
around_dot [] (y ∷ b) c d h k e = let t = tail_is 46 y c (b ++ 46 ∷ d) e in
    absurd (omega (arith, t.0, k.0))
around_dot (x ∷ a) [] c d h k e = let t = tail_is x 46 (a ++ 46 ∷ c) d e in
    absurd (omega (arith, t.0, h.0))
around_dot (x ∷ a) (y ∷ b) c d h k e =
    let t = tail_is x y (a ++ 46 ∷ c) (b ++ 46 ∷ d) e in
    let r = around_dot a b c d h.2 k.2 t.1 in
    (cons_is x y a b t.0 r.0, r.1)
  where
    cons_is : (x y : ℕ) (a b : List ℕ) → x ≡ y → a ≡ b → x ∷ a ≡ y ∷ b
    cons_is x y a b p q = cc

both_are : (n k m j : ℕ) → n ≡ m → k ≡ j → Out n k ≡ Out m j
both_are n k m j p q = cc

pub version_apart : (v w : Version) → IsKept v → IsKept w → v ≢ w
    → version_name v ≢ version_name w
unfolding out_name main_name
version_apart (Original x) w kept there apart e = kept
version_apart (Out n k) (Original y) kept there apart e = there
version_apart (Main k) (Original y) kept there apart e = there
version_apart (Out n k) (Out m j) kept there apart e =
    let r = around_dot (decimal n) (decimal m) (decimal k) (decimal j)
    (are_digits n (omega (arith, kept.0))) (are_digits m (omega (arith, there.0)))
    (ap (λ (l : List ℕ). drop 6 l) e) in
    apart (both_are n k m j
    (decimal_injective n m (omega (arith, kept.0)) (omega (arith, there.0)) r.0)
    (decimal_injective k j (omega (arith, kept.1)) (omega (arith, there.1)) r.1))
version_apart (Out n k) (Main j) kept there apart e =
    differ 109 111 (omega arith) (sym (ap (λ (l : List ℕ). get_or l 4 0) e))
version_apart (Main k) (Out m j) kept there apart e =
    differ 109 111 (omega arith) (ap (λ (l : List ℕ). get_or l 4 0) e)
version_apart (Main k) (Main j) kept there apart e =
    apart (ap Main (decimal_injective k j (omega (arith, kept)) (omega (arith, there))
    (ap (λ (l : List ℕ). drop 6 l) e)))
