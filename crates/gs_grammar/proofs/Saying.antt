-- What a rule of the reader's grammar says, a part at a time.
use Rattle.std.proofs.Common.{◌≡◌, ◌≤◌, ◌+◌, ℕ, suc, refl, sym, ap, subst, List, [], ◌∷◌, Bool, true, false, nat_lt, lt-ltb, eq-eqb, arith}
use Rattle.std.specs.Prelude.{◌==◌}
use Rattle.gs_tree.specs.Program.{Name}
use Rattle.gs_tree.specs.Sign.{Sign, Mark, ident}
use Rattle.gs_parse.specs.Symbols.{place}
use Rattle.gs_parse.specs.Notation.{Kind, Value, Part, kind_of, Fit, unfit, fit, Rule, gives, take, may, read}
use Rattle.gs_parse.specs.Grammar.{rule, judged, is}
use Rattle.gs_parse.specs.Reading.{Limits, limited, unlimited, Accepts, next_fit, Says, given, taken, chosen, passed, part}
use Rattle.gs_grammar.specs.Signs.{at, called, MayBeOpen}

-- an amount that a limit allows, where there are limits
abbrev pub Within : Limits → ℕ → Type 0
Within l n = l ≡ limited → n ≤ 64

-- what fits is accepted
pub accepts_fit : (l : Limits) (w : Fit) → w ≡ fit → Accepts l w
accepts_fit l w e = subst (λ (z : Fit). Accepts l z) (sym e) tt

-- what stands is accepted, where it is within the limits
accepts_judged : (l : Limits) (b : Bool) → (l ≡ limited → b ≡ true) → Accepts l (judged true b)
accepts_judged l true h = tt
accepts_judged limited false h = absurd (let e : false ≡ true = h refl in cc)
accepts_judged unlimited false h = tt

-- a depth below the limit is accepted
pub accepts_less : (l : Limits) (n : ℕ) → Within l (suc n) → Accepts l (judged true (nat_lt n 64))
accepts_less l n w = accepts_judged l (nat_lt n 64) (λ e. lt-ltb n 64 (omega (arith, w e)))

-- one more parenthesis may be open
pub accepts_open : (l : Limits) (groups : ℕ) → MayBeOpen l (groups + 1) → Accepts l (judged true (nat_lt groups 64))
accepts_open limited groups m = accepts_less limited groups (λ e. omega (arith, m))
accepts_open unlimited groups m = accepts_judged unlimited (nat_lt groups 64) (λ e. absurd (cc))

-- a sign fits where a sign of its place is wanted
pub accepts_is : (l : Limits) (s t : Sign) (line : ℕ) → place t ≡ place s → Accepts l (is s (at line t))
unfolding is
accepts_is l s t line e = accepts_fit l (judged (place t == place s) true) (ap (λ z. judged z true) (eq-eqb (place t) (place s) e))

-- a word, and the rest of the rule
pub say_word : {l : Limits} {k : Kind} {s : Sign} {n : Mark → Rule k} {line : ℕ} {ts us : List Mark} {v : Value k} →
    Says l k (n (at line s)) ts v us → Says l k (take (is s) n) (at line s ∷ ts) v us
say_word {l} {k} {s} {n} {line} {ts} {us} {v} h = taken l k (is s) n (at line s) ts v us (accepts_is l s s line refl) h

-- a word where it may stand
pub say_choice : {l : Limits} {k : Kind} {s : Sign} {n : Mark → Rule k} {o : Rule k} {line : ℕ} {ts us : List Mark} {v : Value k} →
    Says l k (n (at line s)) ts v us → Says l k (may (is s) n o) (at line s ∷ ts) v us
say_choice {l} {k} {s} {n} {o} {line} {ts} {us} {v} h = chosen l k (is s) n o (at line s) ts v us (accepts_is l s s line refl) h

-- no such word
pub say_other : {l : Limits} {k : Kind} {f : Mark → Fit} {n : Mark → Rule k} {o : Rule k} {ts us : List Mark} {v : Value k} →
    next_fit f ts ≡ unfit → Says l k o ts v us → Says l k (may f n o) ts v us
say_other {l} {k} {f} {n} {o} {ts} {us} {v} e h = passed l k f n o ts v us e h

-- a name, and the rest of the rule
pub say_name : {l : Limits} {k : Kind} {n : Mark → Rule k} {name : Name} {ts us : List Mark} {v : Value k} →
    Says l k (n (called name)) ts v us → Says l k (take (is (ident [])) n) (called name ∷ ts) v us
say_name {l} {k} {n} {name} {ts} {us} {v} h =
    taken l k (is (ident [])) n (called name) ts v us (accepts_is l (ident []) (ident name.text) name.line refl) h

-- a part, and the rest of the rule
pub say_part : {l : Limits} {k : Kind} {n : Part} {next : Value (kind_of n) → Rule k} {ts us rest : List Mark} {w : Value (kind_of n)} {v : Value k} →
    Says l (kind_of n) (rule n) ts w us → Says l k (next w) us v rest → Says l k (read n next) ts v rest
say_part {l} {k} {n} {next} {ts} {us} {rest} {w} {v} g h = part l k n next ts us w v rest g h

-- nothing more
pub say_given : {l : Limits} {k : Kind} {v : Value k} {ts : List Mark} → Says l k (gives v) ts v ts
say_given {l} {k} {v} {ts} = given l k v ts
