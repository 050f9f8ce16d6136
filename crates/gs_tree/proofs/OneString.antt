-- A string is read in one way at most.
use Rattle.std.proofs.Common.{◌≡◌, ℕ, zero, suc, ◌-◌, ◌<◌, ◌≤◌, inl, inr, Bool, true, false, ◌&&◌, ◌||◌, List, [], ◌∷◌, length, drop, slice_index, eqb, refl, ap, sym, ◌∙◌, subst, arith}
use Rattle.std.specs.Prelude.{is_some, if◌then◌else◌}
use Rattle.std.proofs.lemmas.Bool.{ne_eqb, eq-eqb}
use Rattle.gs_tree.specs.declared.token.LexKind.{LexKind}
use Rattle.gs_tree.specs.declared.token.LexKind.TheVariants.{BadByte, OpenString, BadEscape, StringTooLong}
use Rattle.gs_tree.specs.Bytes.{is_plain, escape_value}
use Rattle.gs_tree.specs.Quoted.{Spells, IsBroken, Quoted, closed, broken, after, Quotes, closes, goes_on, breaks}
use Rattle.gs_tree.specs.Quoted as q

-- past the end stands 0
pub past_text : (bytes : List ℕ) (k : ℕ) → length bytes ≤ k → slice_index bytes k ≡ 0
past_text [] k h = refl
past_text (b ∷ bytes) zero h = absurd (omega arith)
past_text (b ∷ bytes) (suc k) h = past_text bytes k (omega arith)

-- a byte of a value stands first
goes : List ℕ → Bool
goes bytes = is_plain (slice_index bytes 0) || (eqb (slice_index bytes 0) 92 && is_some (escape_value (slice_index bytes 1)))

spells-goes : (bytes : List ℕ) (value count : ℕ) → Spells bytes value count → goes bytes ≡ true
unfolding goes is_plain
spells-goes bytes value count (q.Spells.plain b e) = rw e refl
spells-goes bytes value count (q.Spells.escape b v e f) = rw (e, f) refl

quote-goes : (bytes : List ℕ) → slice_index bytes 0 ≡ 34 → goes bytes ≡ false
unfolding goes is_plain
quote-goes bytes e = rw e refl

or-false : (x y : Bool) → x ≡ false → y ≡ false → (x || y) ≡ false
or-false x y e f = rw (e, f) refl

broken-goes : (room : ℕ) (bytes : List ℕ) (kind : LexKind) → 0 < room → IsBroken room bytes kind → goes bytes ≡ false
unfolding goes is_plain
broken-goes room bytes kind some (q.IsBroken.end r b e) = let z = past_text bytes 0 (omega arith) in rw z refl
broken-goes room bytes kind some (q.IsBroken.line r b e) = rw e refl
broken-goes room bytes kind some (q.IsBroken.cut r b h e l) = let z = past_text bytes 1 (omega arith) in rw (e, z) refl
broken-goes room bytes kind some (q.IsBroken.cut_line r b h e f) = rw (e, f) refl
broken-goes room bytes kind some (q.IsBroken.escape r b h e l n f) = rw (e, f) refl
broken-goes room bytes kind some (q.IsBroken.long b h e) = absurd (omega arith)
broken-goes room bytes kind some (q.IsBroken.stray r b h p a c d) = or-false _ _ p (rw (ne_eqb (slice_index bytes 0) 92 c) refl)

-- the fault's kind, by tests
fault_kind : ℕ → List ℕ → LexKind
fault_kind room bytes =
    if eqb (slice_index bytes 0) 92
    then (if eqb room 0 then StringTooLong else (if eqb (length bytes) 1 || eqb (slice_index bytes 1) 10 then OpenString else BadEscape))
    else (if is_plain (slice_index bytes 0) then StringTooLong else (if eqb (length bytes) 0 || eqb (slice_index bytes 0) 10 then OpenString else BadByte))

positive : (n : ℕ) → 0 < n → eqb n 0 ≡ false
positive n h = ne_eqb n 0 (λ e. omega arith)

or-right : (x : Bool) (a b : LexKind) → a ≡ (if x || true then a else b)
or-right true a b = refl
or-right false a b = refl

plain-backslash : (b : ℕ) → is_plain b ≡ true → eqb b 92 ≡ false
unfolding is_plain
plain-backslash b e = ne_eqb b 92 (λ f. let g : is_plain 92 ≡ true = subst (λ (x : ℕ). is_plain x ≡ true) f e in cc)

plain_not_escape : (bytes : List ℕ) → is_plain (slice_index bytes 0) ≡ true → slice_index bytes 0 ≡ 92 → ⊥
plain_not_escape bytes e f = let n = plain-backslash (slice_index bytes 0) e in let y = eq-eqb (slice_index bytes 0) 92 f in cc

broken-kind : (room : ℕ) (bytes : List ℕ) (kind : LexKind) → IsBroken room bytes kind → kind ≡ fault_kind room bytes
unfolding fault_kind is_plain
broken-kind room bytes kind (q.IsBroken.end r b e) = let z = past_text bytes 0 (omega arith) in rw (z, e) refl
broken-kind room bytes kind (q.IsBroken.line r b e) = rw e (or-right (eqb (length bytes) 0) OpenString BadByte)
broken-kind room bytes kind (q.IsBroken.cut r b h e l) = let p = positive room h in rw (e, p, l) refl
broken-kind room bytes kind (q.IsBroken.cut_line r b h e f) = let p = positive room h in rw (e, p, f) (or-right (eqb (length bytes) 1) OpenString BadEscape)
broken-kind room bytes kind (q.IsBroken.escape r b h e l n f) =
    let p = positive room h in
    let o = ne_eqb (length bytes) 1 (λ x. omega arith) in
    let n' = ne_eqb (slice_index bytes 1) 10 n in
    rw (e, p, o, n') refl
broken-kind room bytes kind (q.IsBroken.long b h (inl e)) = let n = plain-backslash (slice_index bytes 0) e in rw (n, e) refl
broken-kind room bytes kind (q.IsBroken.long b h (inr e)) = rw e refl
broken-kind room bytes kind (q.IsBroken.stray r b h p a c d) =
    let c' = ne_eqb (slice_index bytes 0) 92 c in
    let d' = ne_eqb (slice_index bytes 0) 10 d in
    let o = positive (length bytes) h in
    rw (c', p, o, d') refl

spells_once : (bytes : List ℕ) (v n w m : ℕ) → Spells bytes v n → Spells bytes w m → (v ≡ w) × (n ≡ m)
unfolding is_plain
spells_once bytes v n w m (q.Spells.plain b e) (q.Spells.plain b' e') = (refl, refl)
spells_once bytes v n w m (q.Spells.plain b e) (q.Spells.escape b' x e' f') = absurd (plain_not_escape bytes e e')
spells_once bytes v n w m (q.Spells.escape b x e f) (q.Spells.plain b' e') = absurd (plain_not_escape bytes e' e)
spells_once bytes v n w m (q.Spells.escape b x e f) (q.Spells.escape b' x' e' f') = (cc, refl)

broken-quote : (room : ℕ) (bytes : List ℕ) (kind : LexKind) → IsBroken room bytes kind → slice_index bytes 0 ≡ 34 → ⊥
unfolding is_plain
broken-quote room bytes kind (q.IsBroken.end r b e) f = omega (arith, past_text bytes 0 (omega arith))
broken-quote room bytes kind (q.IsBroken.line r b e) f = omega arith
broken-quote room bytes kind (q.IsBroken.cut r b h e l) f = omega arith
broken-quote room bytes kind (q.IsBroken.cut_line r b h e g) f = omega arith
broken-quote room bytes kind (q.IsBroken.escape r b h e l n g) f = omega arith
broken-quote room bytes kind (q.IsBroken.long b h (inl e)) f = let g : is_plain 34 ≡ true = subst (λ (x : ℕ). is_plain x ≡ true) f e in cc
broken-quote room bytes kind (q.IsBroken.long b h (inr e)) f = omega arith
broken-quote room bytes kind (q.IsBroken.stray r b h p a c d) f = a f

-- what a string says is one thing
pub quotes_once : (room : ℕ) (bytes : List ℕ) (a b : Quoted) → Quotes room bytes a → Quotes room bytes b → a ≡ b
quotes_once room bytes a b (closes r s e) (closes r' s' e') = refl
quotes_once room bytes a b (closes r s e) (goes_on r' v n s' x some f h) =
    absurd (let t = spells-goes bytes v n f in let u = quote-goes bytes e in cc)
quotes_once room bytes a b (closes r s e) (breaks r' s' kind f) = absurd (broken-quote room bytes kind f e)
quotes_once room bytes a b (goes_on r v n s x some f h) (closes r' s' e) =
    absurd (let t = spells-goes bytes v n f in let u = quote-goes bytes e in cc)
quotes_once room bytes a b (goes_on r v n s x some f h) (goes_on r' w m s' y some' g k) =
    let same = spells_once bytes v n w m f g in
    let k' : Quotes (room - 1) (drop n bytes) y = rw same.1 k in
    let rest = quotes_once (room - 1) (drop n bytes) x y h k' in
    rw (rest, same.0, same.1) refl
quotes_once room bytes a b (goes_on r v n s x some f h) (breaks r' s' kind g) =
    absurd (let t = spells-goes bytes v n f in let u = broken-goes room bytes kind some g in cc)
quotes_once room bytes a b (breaks r s kind f) (closes r' s' e) = absurd (broken-quote room bytes kind f e)
quotes_once room bytes a b (breaks r s kind f) (goes_on r' v n s' x some g h) =
    absurd (let t = spells-goes bytes v n g in let u = broken-goes room bytes kind some f in cc)
quotes_once room bytes a b (breaks r s kind f) (breaks r' s' kind' g) =
    ap (λ k. broken k) (broken-kind room bytes kind f ∙ sym (broken-kind room bytes kind' g))
