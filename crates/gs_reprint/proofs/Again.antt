-- What a rule reads of signs, on whatever lines they stand.
use Rattle.std.proofs.Common.{◌≡◌, ℕ, refl, sym, ap, ◌∙◌, subst, List, [], ◌∷◌, Bool, true, false, map, eq-eqb}
use Rattle.std.specs.Prelude.{◌==◌}
use Rattle.gs_tree.specs.Sign.{Sign, Mark, ident, string}
use Rattle.gs_spelling.specs.Laws.{sign_at}
use Rattle.gs_parse.specs.Symbols.{place}
use Rattle.gs_parse.specs.Notation.{Kind, Value, Part, kind_of, Fit, unfit, fit, Rule, gives, take, may, read}
use Rattle.gs_parse.specs.Grammar.{rule, judged, is, word}
use Rattle.gs_parse.specs.Reading.{limited, Accepts, next_fit, Says, given, taken, chosen, passed, part}

-- A rule reads a text of these marks that says what is wanted, and these signs are left.
pub record Read (k : Kind) (r : Rule k) (P : Value k → Type 0) (ts : List Mark) (left : List Sign) : Type 0 where
  pub value : Value k
  pub rest : List Mark
  pub says : Says limited k r ts value rest
  pub wanted : P value
  pub signs : map sign_at rest ≡ left

-- It does so on any marks that have these signs.
pub record Reads (k : Kind) (r : Rule k) (P : Value k → Type 0) (gs left : List Sign) : Type 0 where
  pub on : (ts : List Mark) → map sign_at ts ≡ gs → Read k r P ts left

-- a sign on a line
abbrev pub mark : (line : ℕ) → Sign → Mark
mark line s = record { line = line; sign = s }

-- Marks whose first sign is known.
record Begun (ts : List Mark) (s : Sign) (gs : List Sign) : Type 0 where
  line : ℕ
  rest : List Mark
  is : ts ≡ mark line s ∷ rest
  signs : map sign_at rest ≡ gs

-- a mark is made of its line and its sign
mark_same : (x : Mark) (s : Sign) → x.sign ≡ s → x ≡ mark x.line s
mark_same x s e = ap (λ z. mark x.line z) e

-- marks with a first sign have a first mark
begun : (ts : List Mark) (s : Sign) (gs : List Sign) → map sign_at ts ≡ s ∷ gs → Begun ts s gs
begun [] s gs e = absurd (cc)
begun (x ∷ ts) s gs e =
    let first : x.sign ≡ s = cc in
    record { line = x.line; rest = ts; is = ap (λ z. z ∷ ts) (mark_same x s first); signs = cc }

-- a test that the next of these signs does not pass, and that is no limit
abbrev pub Passes : (Mark → Fit) → List Sign → Type 0
Passes f [] = Unit {0}
Passes f (s ∷ gs) = (line : ℕ) → f (mark line s) ≡ unfit

-- what the signs do not pass, the marks do not either
passes_on : (f : Mark → Fit) (gs : List Sign) (ts : List Mark) → Passes f gs → map sign_at ts ≡ gs → next_fit f ts ≡ unfit
passes_on f [] [] p e = refl
passes_on f [] (x ∷ ts) p e = absurd (cc)
passes_on f (s ∷ gs) ts p e = let b = begun ts s gs e in ap (next_fit f) b.is ∙ p b.line

-- nothing more is read
pub gives_it : {k : Kind} {v : Value k} {P : Value k → Type 0} {gs : List Sign} → P v → Reads k (gives v) P gs gs
gives_it {k} {v} {P} {gs} h = record { on = λ ts e. record { value = v; rest = ts; says = given limited k v ts; wanted = h; signs = e } }

-- a mark is taken, and then the rest of the rule is read
take_on : (k : Kind) (f : Mark → Fit) (n : Mark → Rule k) (P : Value k → Type 0) (left : List Sign) (x : Mark) (ts : List Mark) → Accepts limited (f x) →
    Read k (n x) P ts left → Read k (take f n) P (x ∷ ts) left
take_on k f n P left x ts a h = record { value = h.value; rest = h.rest; says = taken limited k f n x ts h.value h.rest a h.says; wanted = h.wanted; signs = h.signs }

-- the next sign is taken
pub takes : {k : Kind} {f : Mark → Fit} {n : Mark → Rule k} {P : Value k → Type 0} {s : Sign} {gs left : List Sign} →
    ((line : ℕ) → Accepts limited (f (mark line s))) → ((line : ℕ) → Reads k (n (mark line s)) P gs left) → Reads k (take f n) P (s ∷ gs) left
takes {k} {f} {n} {P} {s} {gs} {left} a h = record {
  on = λ ts e.
      let b = begun ts s gs e in
      subst (λ (z : List Mark). Read k (take f n) P z left) (sym b.is) (take_on k f n P left (mark b.line s) b.rest (a b.line) ((h b.line).on b.rest b.signs));
}

-- the same where the mark need not be taken
choose_on : (k : Kind) (f : Mark → Fit) (n : Mark → Rule k) (o : Rule k) (P : Value k → Type 0) (left : List Sign) (x : Mark) (ts : List Mark) →
    Accepts limited (f x) → Read k (n x) P ts left → Read k (may f n o) P (x ∷ ts) left
choose_on k f n o P left x ts a h = record { value = h.value; rest = h.rest; says = chosen limited k f n o x ts h.value h.rest a h.says; wanted = h.wanted; signs = h.signs }

-- the next sign is taken where it need not be
pub chooses : {k : Kind} {f : Mark → Fit} {n : Mark → Rule k} {o : Rule k} {P : Value k → Type 0} {s : Sign} {gs left : List Sign} →
    ((line : ℕ) → Accepts limited (f (mark line s))) → ((line : ℕ) → Reads k (n (mark line s)) P gs left) → Reads k (may f n o) P (s ∷ gs) left
chooses {k} {f} {n} {o} {P} {s} {gs} {left} a h = record {
  on = λ ts e.
      let b = begun ts s gs e in
      subst (λ (z : List Mark). Read k (may f n o) P z left) (sym b.is) (choose_on k f n o P left (mark b.line s) b.rest (a b.line) ((h b.line).on b.rest b.signs));
}

-- the next sign is none of those that may be taken
pub passes : {k : Kind} {f : Mark → Fit} {n : Mark → Rule k} {o : Rule k} {P : Value k → Type 0} {gs left : List Sign} →
    Passes f gs → Reads k o P gs left → Reads k (may f n o) P gs left
passes {k} {f} {n} {o} {P} {gs} {left} p h = record {
  on = λ ts e.
      let r = h.on ts e in
      record { value = r.value; rest = r.rest; says = passed limited k f n o ts r.value r.rest (passes_on f gs ts p e) r.says; wanted = r.wanted; signs = r.signs };
}

-- a part is read, and then what follows it
pub reads : {k : Kind} {n : Part} {next : Value (kind_of n) → Rule k} {Q : Value (kind_of n) → Type 0} {P : Value k → Type 0} {gs mid left : List Sign} →
    Reads (kind_of n) (rule n) Q gs mid → ((w : Value (kind_of n)) → Q w → Reads k (next w) P mid left) → Reads k (read n next) P gs left
reads {k} {n} {next} {Q} {P} {gs} {mid} {left} h g = record {
  on = λ ts e.
      let r = h.on ts e in
      let t = (g r.value r.wanted).on r.rest r.signs in
      record { value = t.value; rest = t.rest; says = part limited k n next ts r.rest r.value t.value t.rest r.says t.says; wanted = t.wanted; signs = t.signs };
}

-- what is wanted follows from what was said
pub wants : {k : Kind} {r : Rule k} {P Q : Value k → Type 0} {gs left : List Sign} → ((v : Value k) → P v → Q v) → Reads k r P gs left → Reads k r Q gs left
wants {k} {r} {P} {Q} {gs} {left} f h = record {
  on = λ ts e.
      let t = h.on ts e in
      record { value = t.value; rest = t.rest; says = t.says; wanted = f t.value t.wanted; signs = t.signs };
}

-- ---- one sign

-- what fits is accepted
accepts_fit : (w : Fit) → w ≡ fit → Accepts limited w
accepts_fit w e = subst (λ (z : Fit). Accepts limited z) (sym e) tt

-- a sign fits where a sign of its place is wanted
pub accepts_is : (s t : Sign) (line : ℕ) → place t ≡ place s → Accepts limited (is s (mark line t))
unfolding is
accepts_is s t line e = accepts_fit (judged (place t == place s) true) (ap (λ z. judged z true) (eq-eqb (place t) (place s) e))

-- a word is taken, and its line kept
pub sign_again : {k : Kind} {s : Sign} {n : Mark → Rule k} {P : Value k → Type 0} {gs left : List Sign} → ((line : ℕ) → Reads k (n (mark line s)) P gs left) →
    Reads k (take (is s) n) P (s ∷ gs) left
sign_again {k} {s} {n} {P} {gs} {left} h = takes (λ line. accepts_is s s line refl) h

-- a word is taken
pub word_again : {k : Kind} {s : Sign} {r : Rule k} {P : Value k → Type 0} {gs left : List Sign} → Reads k r P gs left → Reads k (word s r) P (s ∷ gs) left
word_again {k} {s} {r} {P} {gs} {left} h = takes (λ line. accepts_is s s line refl) (λ line. h)

-- a name is taken
pub name_again : {k : Kind} {n : Mark → Rule k} {P : Value k → Type 0} {w : List ℕ} {gs left : List Sign} →
    ((line : ℕ) → Reads k (n (mark line (ident w))) P gs left) → Reads k (take (is (ident [])) n) P (ident w ∷ gs) left
name_again {k} {n} {P} {w} {gs} {left} h = takes (λ line. accepts_is (ident []) (ident w) line refl) h

-- a format is taken
pub format_again : {k : Kind} {n : Mark → Rule k} {P : Value k → Type 0} {w : List ℕ} {gs left : List Sign} →
    ((line : ℕ) → Reads k (n (mark line (string w))) P gs left) → Reads k (take (is (string [])) n) P (string w ∷ gs) left
format_again {k} {n} {P} {w} {gs} {left} h = takes (λ line. accepts_is (string []) (string w) line refl) h

-- the next sign has this place
abbrev pub next_is : Sign → List Sign → Bool
next_is s [] = false
next_is s (t ∷ gs) = place t == place s

-- a sign of another place does not pass
passes_is : (s : Sign) (gs : List Sign) → next_is s gs ≡ false → Passes (is s) gs
unfolding is
passes_is s [] e = tt
passes_is s (t ∷ gs) e = λ line. ap (λ z. judged z true) e

-- another sign stands where a word may
pub without_word : (s : Sign) {k : Kind} {n : Mark → Rule k} {o : Rule k} {P : Value k → Type 0} {gs left : List Sign} → next_is s gs ≡ false →
    Reads k o P gs left → Reads k (may (is s) n o) P gs left
without_word s {k} {n} {o} {P} {gs} {left} e h = passes (passes_is s gs e) h

-- a word stands where it may
pub with_word : {k : Kind} {s : Sign} {n : Mark → Rule k} {o : Rule k} {P : Value k → Type 0} {gs left : List Sign} →
    ((line : ℕ) → Reads k (n (mark line s)) P gs left) → Reads k (may (is s) n o) P (s ∷ gs) left
with_word {k} {s} {n} {o} {P} {gs} {left} h = chooses (λ line. accepts_is s s line refl) h
