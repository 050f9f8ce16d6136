-- What is read is spelled so, and what is spelled so is read.
use Rattle.std.proofs.Common.{rules, ◌≡◌, ℕ, zero, suc, ◌+◌, ◌^◌, ◌<◌, ◌≤◌, Bool, true, false, cond, ltb, eqb, eq-eqb, ◌&&◌, List, [], ◌∷◌, ◌++◌, length, take, drop, Option, Some, None, refl, sym, ap, subst, ◌∙◌, append_assoc, arith, inl, inr}
use Rattle.std.specs.Int.{Width, w32, w64, byte_len, from_le_bytes}
use Rattle.std.proofs.lemmas.Bool.{eqb-true, cases_lt, ltb-false, le-ltb, ltb-true, lt-ltb}
use Rattle.std.proofs.lemmas.List.{take_at, drop_at, take-append-drop, length-append, length-take, get_or-drop, get_or-take, get_or_past, append-nil}
use Rattle.std.proofs.lemmas.Nat.{le_bytes_4, le_bytes_8, from_le_bytes-to_le_bytes_4, from_le_bytes-to_le_bytes_8}
use Rattle.std.specs.Prelude.{ℤ, pos, negsuc}
use Rattle.std.specs.Int.{cast_signed, cast_unsigned}
use Rattle.std.proofs.lemmas.Int.{of_z-to_z, to_z-of_z}
use mir.Val.{SFits}
use Rattle.gs_types.specs.Bytes.{IsBytes}
use Rattle.gs_fields.specs.Fields.{◌>>=◌, front_at, byte_at, number_at, blob_at, number}
use Rattle.gs_fields.specs.Format.{Format, byte, four, eight, bytes, eight_signed, fits_signed, empty, exactly, never, pair, only, via, tagged, times, all_fit, spell_all, counted, whole}

pub IsBytes-drop : (n : ℕ) (b : List ℕ) → IsBytes b → IsBytes (drop n b)
IsBytes-drop n b h i = rw get_or-drop (h (n + i))

IsBytes-take : (n : ℕ) (b : List ℕ) → IsBytes b → IsBytes (take n b)
IsBytes-take n b h i =
    elim (cases_lt i n) [
      | inl lt ↦ rw (get_or-take n b i 0 lt) (h i)
      | inr le ↦ rw (get_or_past (take n b) i 0 (omega (arith, length-take n b))) (omega arith)
    ]

IsBytes-rest : (x : ℕ) (b : List ℕ) → IsBytes (x ∷ b) → IsBytes b
IsBytes-rest x b h i = h (suc i)

-- the value of a step that did not fail
pub bind_some : {A B : Type 0} (r : Option A) (f : A → Option B) (y : B) → (r >>= f) ≡ Some y → (x : A) × (r ≡ Some x) × (f x ≡ Some y)
bind_some (Some x) f y e = (x, refl, e)
bind_some None f y e = absurd cc

both : (a b : Bool) → (a && b) ≡ true → (a ≡ true) × (b ≡ true)
both true b e = (refl, e)
both false b e = absurd cc

some_is : {A : Type 0} (x y : A) → Some x ≡ Some y → x ≡ y
some_is x y e = cc

pub record Takes {A : Type 0} (f : Format A) (b : List ℕ) (x : A × List ℕ) : Type 0 where
  pub parts : b ≡ f.spell x.0 ++ x.1
  pub fits : f.fits x.0 ≡ true
  pub rest : IsBytes x.1

pub record Law {A : Type 0} (f : Format A) : Type 0 where
  pub takes : (b : List ℕ) (x : A × List ℕ) → IsBytes b → f.read b ≡ Some x → Takes f b x
  pub again : (a : A) (rest : List ℕ) → f.fits a ≡ true → f.read (f.spell a ++ rest) ≡ Some (a, rest)

byte_takes : (b : List ℕ) (x : ℕ × List ℕ) → IsBytes b → byte_at b ≡ Some x → Takes byte b x
byte_takes [] x h e = absurd cc
byte_takes (n ∷ b) x h e = subst (Takes byte (n ∷ b)) (some_is (n, b) x e) (record { parts = refl; fits = lt-ltb _ _ (h 0); rest = IsBytes-rest n b h })

pub byte_law : Law byte
byte_law = record {
  takes = λ b x h e. byte_takes b x h e;
  again = λ a rest fits. refl;
}

pub pair_law : {A B : Type 0} (f : Format A) (g : Format B) → Law f → Law g → Law (pair f g)
pair_law f g lf lg = record {
  takes = λ b x h e.
      let p = bind_some (f.read b) (λ x. g.read x.1 >>= λ y. Some ((x.0, y.0), y.1)) x e in
      let q = bind_some (g.read p.0.1) (λ y. Some ((p.0.0, y.0), y.1)) x p.2 in
      let t = lf.takes b p.0 h p.1 in
      let u = lg.takes p.0.1 q.0 t.rest q.1 in
      subst (Takes (pair f g) b) (some_is ((p.0.0, q.0.0), q.0.1) x q.2) (record {
        parts = t.parts ∙ ap (λ (r : List ℕ). f.spell p.0.0 ++ r) u.parts ∙ sym (append_assoc (f.spell p.0.0) (g.spell q.0.0) q.0.1);
        fits = rw (t.fits, u.fits) refl;
        rest = u.rest;
      });
  again = λ a rest fits.
      let h = both (f.fits a.0) (g.fits a.1) fits in
      rw (append_assoc (f.spell a.0) (g.spell a.1) rest, lf.again a.0 (g.spell a.1 ++ rest) h.0, lg.again a.1 rest h.1) refl;
}

front_takes : (n : ℕ) (b : List ℕ) (x : List ℕ × List ℕ) → front_at n b ≡ Some x → (n ≤ length b) × (take n b ≡ x.0) × (drop n b ≡ x.1)
front_takes n b x e =
    elim (ltb (length b) n) as (λ t. ltb (length b) n ≡ t → cond t None (Some (take n b, drop n b)) ≡ Some x → (n ≤ length b) × (take n b ≡ x.0) × (drop n b ≡ x.1)) [
      | true ↦ λ was e. absurd cc
      | false ↦ λ was e. let p = some_is (take n b, drop n b) x e in (ltb-false _ _ was, ap (λ (p : List ℕ × List ℕ). p.0) p, ap (λ (p : List ℕ × List ℕ). p.1) p)
    ] refl e

front_again : (n : ℕ) (a rest : List ℕ) → length a ≡ n → front_at n (a ++ rest) ≡ Some (a, rest)
front_again n a rest len =
    let long : ltb (length (a ++ rest)) n ≡ false = le-ltb _ _ (omega (arith, length-append a rest)) in
    rw (long, take_at a rest n len, drop_at a rest n len) refl

record IsWide (w : Width) (limit : ℕ) : Type 0 where
  pub len : (n : ℕ) → length (number w n) ≡ byte_len w
  pub back : (b : List ℕ) → length b ≡ byte_len w → IsBytes b → number w (from_le_bytes w b) ≡ b
  pub again : (n : ℕ) → n < limit → from_le_bytes w (number w n) ≡ n
  pub below : (b : List ℕ) → IsBytes b → from_le_bytes w b < limit

wide32 : IsWide w32 (2 ^ 32)
unfolding number
wide32 = record {
  len = λ n. refl;
  back = λ b len fits. le_bytes_4 b _ len fits refl;
  again = λ n lt. from_le_bytes-to_le_bytes_4 n lt;
  below = λ b fits. omega (arith, fits 0, fits 1, fits 2, fits 3);
}

wide64 : IsWide w64 (2 ^ 64)
unfolding number
wide64 = record {
  len = λ n. refl;
  back = λ b len fits. le_bytes_8 b _ len fits refl;
  again = λ n lt. from_le_bytes-to_le_bytes_8 n lt;
  below = λ b fits. omega (arith, fits 0, fits 1, fits 2, fits 3, fits 4, fits 5, fits 6, fits 7);
}

abbrev wide_format : Width → ℕ → Format ℕ
wide_format w limit = record { fits = λ n. ltb n limit; spell = number w; read = number_at w }

number_law : (w : Width) (limit : ℕ) → IsWide w limit → Law (wide_format w limit)
number_law w limit wide = record {
  takes = λ b x h e.
      let p = bind_some (front_at (byte_len w) b) (λ f. Some (from_le_bytes w f.0, f.1)) x e in
      let t = front_takes (byte_len w) b p.0 p.1 in
      let bytes_are : IsBytes p.0.0 = rw (← t.1) (IsBytes-take (byte_len w) b h) in
      let long : length p.0.0 ≡ byte_len w = rw (← t.1) (omega (arith, length-take (byte_len w) b, t.0)) in
      subst (Takes (wide_format w limit) b) (some_is (from_le_bytes w p.0.0, p.0.1) x p.2) (record {
        parts = sym (take-append-drop (byte_len w) b) ∙ ap (λ (r : List ℕ). r ++ drop (byte_len w) b) (t.1 ∙ sym (wide.back p.0.0 long bytes_are)) ∙ ap (λ (r : List ℕ). number w (from_le_bytes w p.0.0) ++ r) t.2;
        fits = lt-ltb _ _ (wide.below p.0.0 bytes_are);
        rest = rw (← t.2) (IsBytes-drop (byte_len w) b h);
      });
  again = λ n rest fits. rw (front_again (byte_len w) (number w n) rest (wide.len n), wide.again n (ltb-true _ _ fits)) refl;
}

pub four_law : Law four
four_law = number_law w32 (2 ^ 32) wide32

pub eight_law : Law eight
eight_law = number_law w64 (2 ^ 64) wide64

bits_fit : (z : ℤ) → fits_signed z ≡ true → cast_unsigned w64 z < 2 ^ 64
bits_fit (pos n) e = let lt = ltb-true _ _ e in omega arith
bits_fit (negsuc n) e = omega arith

abbrev some_of : {X : Type 0} → X × List ℕ → Option (X × List ℕ)
some_of x = Some x

signed_is : (z : ℤ) → fits_signed z ≡ true → SFits w64 z
signed_is (pos n) e = search rules
signed_is (negsuc n) e = search rules

signed_fits : (n : ℕ) → n < 2 ^ 64 → fits_signed (cast_signed w64 n) ≡ true
signed_fits n lt =
    elim (ltb n (2 ^ 63)) as (λ t. ltb n (2 ^ 63) ≡ t → fits_signed (cast_signed w64 n) ≡ true) [
      | true ↦ λ was. rw was was
      | false ↦ λ was. let le : 2 ^ 63 ≤ n = ltb-false _ _ was in rw was (lt-ltb _ _ (omega arith))
    ] refl

pub eight_signed_law : Law eight_signed
eight_signed_law = record {
  takes = λ b x h e.
      let p = bind_some (number_at w64 b) (λ n. Some (cast_signed w64 n.0, n.1)) x e in
      let t = eight_law.takes b p.0 h p.1 in
      subst (Takes eight_signed b) (some_is (cast_signed w64 p.0.0, p.0.1) x p.2) (record {
        parts = t.parts ∙ ap (λ (n : ℕ). number w64 n ++ p.0.1) (sym (of_z-to_z w64 p.0.0 (ltb-true _ _ t.fits)));
        fits = signed_fits p.0.0 (ltb-true _ _ t.fits);
        rest = t.rest;
      });
  again = λ z rest fits.
      let e = eight_law.again (cast_unsigned w64 z) rest (lt-ltb _ _ (bits_fit z fits)) in
      ap (λ (o : Option (ℕ × List ℕ)). o >>= λ n. some_of (cast_signed w64 n.0, n.1)) e ∙ ap (λ (y : ℤ). some_of (y, rest)) (to_z-of_z w64 z (signed_is z fits));
}

pub bytes_law : Law bytes
bytes_law = record {
  takes = λ b x h e.
      let p = bind_some (number_at w32 b) (λ n. front_at n.0 n.1) x e in
      let t = four_law.takes b p.0 h p.1 in
      let u = front_takes p.0.0 p.0.1 x p.2 in
      let len : length x.0 ≡ p.0.0 = omega (arith, ap length u.1, length-take p.0.0 p.0.1, u.0) in
      record {
        parts = t.parts ∙ ap (λ (r : List ℕ). number w32 p.0.0 ++ r) (sym (take-append-drop p.0.0 p.0.1) ∙ ap (λ (r : List ℕ). r ++ drop p.0.0 p.0.1) u.1 ∙ ap (λ (r : List ℕ). x.0 ++ r) u.2) ∙ ap (λ (n : ℕ). number w32 n ++ (x.0 ++ x.1)) (sym len) ∙ sym (append_assoc (number w32 (length x.0)) x.0 x.1);
        fits = rw len t.fits;
        rest = rw (← u.2) (IsBytes-drop p.0.0 p.0.1 t.rest);
      };
  again = λ a rest fits. ap blob_at (append_assoc (number w32 (length a)) a rest) ∙ rw (four_law.again (length a) (a ++ rest) fits) (front_again (length a) a rest refl);
}

empty_takes : (b : List ℕ) (x : Unit {0} × List ℕ) → IsBytes b → empty.read b ≡ Some x → Takes empty b x
empty_takes b x h e = subst (Takes empty b) (some_is (tt, b) x e) (record { parts = refl; fits = refl; rest = h })

pub empty_law : Law empty
empty_law = record { takes = λ b x h e. empty_takes b x h e; again = λ a rest fits. refl }

pub never_law : {A : Type 0} → Law (never {A = A})
never_law = record { takes = λ b x h e. absurd cc; again = λ a rest fits. absurd cc }

kept_is : {A : Type 0} (t : Bool) (a b : A) → cond t (Some a) None ≡ Some b → (t ≡ true) × (a ≡ b)
kept_is true a b e = (refl, cc)
kept_is false a b e = absurd cc

exactly_takes : (k : ℕ) (b : List ℕ) (x : Unit {0} × List ℕ) → IsBytes b → (exactly k).read b ≡ Some x → Takes (exactly k) b x
exactly_takes k [] x h e = absurd cc
exactly_takes k (n ∷ b) x h e =
    let kept = kept_is (eqb n k) (tt, b) x e in
    subst (Takes (exactly k) (n ∷ b)) kept.1 (record { parts = ap (λ (m : ℕ). m ∷ b) (eqb-true _ _ kept.0); fits = refl; rest = IsBytes-rest n b h })

pub exactly_law : (k : ℕ) → Law (exactly k)
exactly_law k = record { takes = λ b x h e. exactly_takes k b x h e; again = λ a rest fits. rw (eq-eqb k k refl) refl }

pub only_law : {A : Type 0} (ok : A → Bool) (f : Format A) → Law f → Law (only ok f)
only_law ok f lf = record {
  takes = λ b x h e.
      let p = bind_some (f.read b) (λ x. cond (ok x.0) (Some x) None) x e in
      let k = kept_is (ok p.0.0) p.0 x p.2 in
      let t = lf.takes b p.0 h p.1 in
      subst (Takes (only ok f) b) k.1 (record { parts = t.parts; fits = rw (t.fits, k.0) refl; rest = t.rest });
  again = λ a rest fits.
      let h = both (f.fits a) (ok a) fits in
      rw (lf.again a rest h.0, h.1) refl;
}

via_case : {A X : Type 0} (put : A → X) (f : Format A) (x : X) (o : Option A) (rest : List ℕ) → Law f → ((a : A) → o ≡ Some a → put a ≡ x) → (elim o as (λ _. Bool) [ Some a ↦ f.fits a | None ↦ false ]) ≡ true → (f.read ((elim o as (λ _. List ℕ) [ Some a ↦ f.spell a | None ↦ [] ]) ++ rest) >>= λ a. some_of (put a.0, a.1)) ≡ Some (x, rest)
via_case {X = X} put f x (Some a) rest lf back fits =
    let e : f.read (f.spell a ++ rest) ≡ Some (a, rest) = lf.again a rest fits in
    rw e (ap (λ (y : X). Some (y, rest)) (back a refl))
via_case put f x None rest lf back fits = absurd cc

pub via_law : {A X : Type 0} (put : A → X) (get : X → Option A) (f : Format A) → ((a : A) → get (put a) ≡ Some a) → ((x : X) (a : A) → get x ≡ Some a → put a ≡ x) → Law f → Law (via put get f)
via_law {X = X} put get f there back lf = record {
  takes = λ b x h e.
      let p = bind_some (f.read b) (λ a. Some (put a.0, a.1)) x e in
      let t = lf.takes b p.0 h p.1 in
      subst (Takes (via put get f) b) (some_is (put p.0.0, p.0.1) x p.2) (record { parts = rw (there p.0.0) t.parts; fits = rw (there p.0.0) t.fits; rest = t.rest });
  again = λ x rest fits.
      via_case put f x (get x) rest lf (back x) fits;
}

pub tagged_law : {X : Type 0} (tag_of : X → ℕ) (at : ℕ → Format X) → ((t : ℕ) → Law (at t)) → Law (tagged tag_of at)
tagged_law {X = X} tag_of at laws = record {
  takes = λ b x h e.
      let p = bind_some (byte_at b) (λ t. (at t.0).read t.1 >>= λ x. cond (eqb (tag_of x.0) t.0) (Some x) None) x e in
      let q = bind_some ((at p.0.0).read p.0.1) (λ x. cond (eqb (tag_of x.0) p.0.0) (Some x) None) x p.2 in
      let k = kept_is (eqb (tag_of q.0.0) p.0.0) q.0 x q.2 in
      let t = byte_law.takes b p.0 h p.1 in
      let u = (laws p.0.0).takes p.0.1 q.0 t.rest q.1 in
      let is : tag_of q.0.0 ≡ p.0.0 = eqb-true _ _ k.0 in
      subst (Takes (tagged tag_of at) b) k.1 (record {
        parts = t.parts ∙ ap (λ (r : List ℕ). p.0.0 ∷ r) u.parts ∙ ap (λ (k : ℕ). k ∷ ((at k).spell q.0.0 ++ q.0.1)) (sym is);
        fits = rw is (rw (t.fits, u.fits) refl);
        rest = u.rest;
      });
  again = λ x rest fits.
      let h = both (ltb (tag_of x) 256) ((at (tag_of x)).fits x) fits in
      rw ((laws (tag_of x)).again x rest h.1, eq-eqb (tag_of x) (tag_of x) refl) refl;
}

times_take : {A : Type 0} (f : Format A) (lf : Law f) (n : ℕ) (b : List ℕ) (x : List A × List ℕ) → IsBytes b → times f n b ≡ Some x → (b ≡ spell_all f x.0 ++ x.1) × (all_fit f x.0 ≡ true) × (length x.0 ≡ n) × IsBytes x.1
times_take {A = A} f lf zero b x h e = subst (λ (y : List A × List ℕ). (b ≡ spell_all f y.0 ++ y.1) × (all_fit f y.0 ≡ true) × (length y.0 ≡ 0) × IsBytes y.1) (some_is ([], b) x e) (refl, refl, refl, h)
times_take {A = A} f lf (suc n) b x h e =
    let p = bind_some (f.read b) (λ x. times f n x.1 >>= λ xs. Some (x.0 ∷ xs.0, xs.1)) x e in
    let q = bind_some (times f n p.0.1) (λ xs. Some (p.0.0 ∷ xs.0, xs.1)) x p.2 in
    let t = lf.takes b p.0 h p.1 in
    let u = times_take f lf n p.0.1 q.0 t.rest q.1 in
    subst (λ (y : List A × List ℕ). (b ≡ spell_all f y.0 ++ y.1) × (all_fit f y.0 ≡ true) × (length y.0 ≡ suc n) × IsBytes y.1) (some_is (p.0.0 ∷ q.0.0, q.0.1) x q.2)
    (t.parts ∙ ap (λ (r : List ℕ). f.spell p.0.0 ++ r) u.0 ∙ sym (append_assoc (f.spell p.0.0) (spell_all f q.0.0) q.0.1), rw (t.fits, u.1) refl, ap suc u.2, u.3)

times_again : {A : Type 0} (f : Format A) (lf : Law f) (xs : List A) (rest : List ℕ) → all_fit f xs ≡ true → times f (length xs) (spell_all f xs ++ rest) ≡ Some (xs, rest)
times_again f lf [] rest fits = refl
times_again f lf (x ∷ xs) rest fits =
    let h = both (f.fits x) (all_fit f xs) fits in
    rw (append_assoc (f.spell x) (spell_all f xs) rest, lf.again x (spell_all f xs ++ rest) h.0, times_again f lf xs rest h.1) refl

pub counted_law : {A : Type 0} (c : Format ℕ) (f : Format A) → Law c → Law f → Law (counted c f)
counted_law c f lc lf = record {
  takes = λ b x h e.
      let p = bind_some (c.read b) (λ n. times f n.0 n.1) x e in
      let t = lc.takes b p.0 h p.1 in
      let u = times_take f lf p.0.0 p.0.1 x t.rest p.2 in
      record {
        parts = t.parts ∙ ap (λ (r : List ℕ). c.spell p.0.0 ++ r) u.0 ∙ ap (λ (k : ℕ). c.spell k ++ (spell_all f x.0 ++ x.1)) (sym u.2) ∙ sym (append_assoc (c.spell (length x.0)) (spell_all f x.0) x.1);
        fits = rw u.2 (rw (t.fits, u.1) refl);
        rest = u.3;
      };
  again = λ xs rest fits.
      let h = both (c.fits (length xs)) (all_fit f xs) fits in
      rw (append_assoc (c.spell (length xs)) (spell_all f xs) rest, lc.again (length xs) (spell_all f xs ++ rest) h.0, times_again f lf xs rest h.1) refl;
}

at_the_end : {A : Type 0} (x : A × List ℕ) (a : A) → elim x.1 as (λ _. Option A) [ [] ↦ Some x.0 | _ ↦ None ] ≡ Some a → x ≡ (a, [])
at_the_end (y, []) a e = cc
at_the_end (y, z ∷ zs) a e = absurd cc

pub whole_takes : {A : Type 0} (f : Format A) → Law f → (b : List ℕ) (a : A) → IsBytes b → whole f b ≡ Some a → (b ≡ f.spell a) × (f.fits a ≡ true)
whole_takes {A = A} f lf b a h e =
    let p = bind_some (f.read b) (λ x. elim x.1 as (λ _. Option A) [ [] ↦ Some x.0 | _ ↦ None ]) a e in
    let is = at_the_end p.0 a p.2 in
    let t = lf.takes b (a, []) h (p.1 ∙ ap (λ (y : A × List ℕ). Some y) is) in
    (t.parts ∙ append-nil (f.spell a), t.fits)

pub whole_again : {A : Type 0} (f : Format A) → Law f → (a : A) → f.fits a ≡ true → whole f (f.spell a) ≡ Some a
whole_again f lf a fits =
    let e : f.read (f.spell a) ≡ Some (a, []) = ap f.read (sym (append-nil (f.spell a))) ∙ lf.again a [] fits in
    rw e refl
