-- How assignments are read.
use Rattle.std.proofs.Common.{◌≡◌, ℕ, refl, sym, ap, ◌∙◌, subst, List, [], ◌∷◌, Result, Ok, Err, true, false, Bool}
use Rattle.std.specs.Prelude.{◌==◌, pos}
use Rattle.gs_tree.specs.Sign.{Sign, Mark, equal, plus_plus, minus_minus, plus_equal, minus_equal}
use Rattle.gs_tree.specs.Program.{Name, Term, Setting, two, var, num}
use Rattle.gs_tree.specs.View.{setting_of}
use Rattle.gs_tree.specs.declared.tree.Op.{Op}
use Rattle.gs_tree.specs.declared.tree.Assign.{Assign}
use Rattle.gs_parse.specs.declared.stop.Stop.{Stop}
use Rattle.gs_parse.specs.declared.stop.Stop.TheVariants.{Unfit}
use Rattle.gs_parse.specs.Symbols.{place}
use Rattle.gs_parse.specs.Notation.{a_setting, assigned, unfit, fit, gives}
use Rattle.gs_parse.specs.Grammar.{rule, judged, is, assigns, assigning_fit, assignment}
use Rattle.gs_parse.specs.Reading.{next_fit}
use Rattle.gs_parse.specs.Reads.{Reads, Takes, Changes, line_of}
use Rattle.gs_parse.proofs.Chain.{took, stop_unfit, gave, memory_err}

judged_true : (b : Bool) → judged b true ≡ fit → b ≡ true
judged_true true e = refl
judged_true false e = absurd (cc)

by_equal : (s : Sign) → (place s == 44) ≡ true → s ≡ equal
by_equal equal e = refl
by_equal _ e = absurd (cc)

by_plus_plus : (s : Sign) → (place s == 28) ≡ true → s ≡ plus_plus
by_plus_plus plus_plus e = refl
by_plus_plus _ e = absurd (cc)

by_minus_minus : (s : Sign) → (place s == 29) ≡ true → s ≡ minus_minus
by_minus_minus minus_minus e = refl
by_minus_minus _ e = absurd (cc)

by_plus_equal : (s : Sign) → (place s == 30) ≡ true → s ≡ plus_equal
by_plus_equal plus_equal e = refl
by_plus_equal _ e = absurd (cc)

by_minus_equal : (s : Sign) → (place s == 31) ≡ true → s ≡ minus_equal
by_minus_equal minus_equal e = refl
by_minus_equal _ e = absurd (cc)

pub equal_is : (x : Mark) → is equal x ≡ fit → x.sign ≡ equal
unfolding is
equal_is x e = by_equal x.sign (judged_true _ e)

pub plus_plus_is : (x : Mark) → is plus_plus x ≡ fit → x.sign ≡ plus_plus
unfolding is
plus_plus_is x e = by_plus_plus x.sign (judged_true _ e)

pub minus_minus_is : (x : Mark) → is minus_minus x ≡ fit → x.sign ≡ minus_minus
unfolding is
minus_minus_is x e = by_minus_minus x.sign (judged_true _ e)

pub plus_equal_is : (x : Mark) → is plus_equal x ≡ fit → x.sign ≡ plus_equal
unfolding is
plus_equal_is x e = by_plus_equal x.sign (judged_true _ e)

pub minus_equal_is : (x : Mark) → is minus_equal x ≡ fit → x.sign ≡ minus_equal
unfolding is
minus_equal_is x e = by_minus_equal x.sign (judged_true _ e)

pub assigned_by : {A : Type 0} (s : Sign) (n : Name) (view : A → Setting) (old mid : List Mark) (result : Result A Stop) (new : List Mark) → Takes s old true mid → ((x : Mark) → is s x ≡ fit → x.sign ≡ s) → assigning_fit s ≡ fit → ((x : Mark) → old ≡ x ∷ mid → Reads a_setting (assignment n x s) view mid result new) → Reads a_setting (rule (assigned n)) view old result new
unfolding Takes assigns
assigned_by s n view old mid result new h named fits g =
    let same = named h.0 h.2 in
    took a_setting assigns (λ x. assignment n x x.sign) view old h.0 mid result new h.1 (ap assigning_fit same ∙ fits)
    (subst (λ (z : Sign). Reads a_setting (assignment n h.0 z) view mid result new) (sym same) (g h.0 h.1))

pub gave_changed : (op : Op) (n : Name) (by_ : Term) (r : Result Assign Stop) (here : List Mark) → Changes op n by_ r → Reads a_setting (gives (record { to = n; value = two op (var n) by_ })) setting_of here r here
unfolding Changes
gave_changed op n by_ (Ok a) here h = gave a_setting _ setting_of here a h
gave_changed op n by_ (Err stop) here h = memory_err a_setting _ setting_of here stop here h

-- none of five signs
none_of : (s : Sign) → judged (place s == 44) true ≡ unfit → judged (place s == 28) true ≡ unfit → judged (place s == 29) true ≡ unfit → judged (place s == 30) true ≡ unfit → judged (place s == 31) true ≡ unfit → assigning_fit s ≡ unfit
none_of equal a b c d e = absurd (cc)
none_of plus_plus a b c d e = absurd (cc)
none_of minus_minus a b c d e = absurd (cc)
none_of plus_equal a b c d e = absurd (cc)
none_of minus_equal a b c d e = absurd (cc)
none_of _ a b c d e = refl

none_next : (ts : List Mark) → next_fit (is equal) ts ≡ unfit → next_fit (is plus_plus) ts ≡ unfit → next_fit (is minus_minus) ts ≡ unfit → next_fit (is plus_equal) ts ≡ unfit → next_fit (is minus_equal) ts ≡ unfit → next_fit assigns ts ≡ unfit
unfolding is assigns
none_next [] a b c d e = refl
none_next (x ∷ xs) a b c d e = none_of x.sign a b c d e

moved : (s : Sign) (o m : List Mark) → m ≡ o → next_fit (is s) m ≡ unfit → next_fit (is s) o ≡ unfit
moved s o m e h = subst (λ (z : List Mark). next_fit (is s) z ≡ unfit) e h

pub assigned_none : {A : Type 0} (n : Name) (view : A → Setting) (o m1 m2 m3 m4 m5 : List Mark) → Takes equal o false m1 → Takes plus_plus m1 false m2 → Takes minus_minus m2 false m3 → Takes plus_equal m3 false m4 → Takes minus_equal m4 false m5 → Reads a_setting (rule (assigned n)) view o (Err Unfit) m5
unfolding Takes
assigned_none n view o m1 m2 m3 m4 m5 a b c d e =
    let e2 : m2 ≡ o = b.1 ∙ a.1 in
    let e3 : m3 ≡ o = c.1 ∙ e2 in
    let e4 : m4 ≡ o = d.1 ∙ e3 in
    let none_here = none_next o a.0 (moved plus_plus o m1 a.1 b.0) (moved minus_minus o m2 e2 c.0) (moved plus_equal o m3 e3 d.0) (moved minus_equal o m4 e4 e.0) in
    subst (λ (z : List Mark). Reads a_setting (rule (assigned n)) view o (Err Unfit) z) (sym (e.1 ∙ e4)) (stop_unfit a_setting assigns _ view o none_here)

-- a sign taken where another one did not stand
pub past : (s t : Sign) (o m n : List Mark) → Takes s o false m → Takes t m true n → Takes t o true n
unfolding Takes
past s t o m n h g = (g.0, sym h.1 ∙ g.1, g.2)

-- two signs that did not stand
pub past_both : (s t : Sign) (o m n : List Mark) → Takes s o false m → Takes t m false n → Takes t o false n
unfolding Takes
past_both s t o m n h g = (subst (λ (z : List Mark). next_fit (is t) z ≡ unfit) h.1 g.0, g.1 ∙ h.1)

pub gave_stepped : (op : Op) (n : Name) (line : ℕ) (x : Mark) (old mid : List Mark) (r : Result Assign Stop) (here : List Mark) → line ≡ line_of old → old ≡ x ∷ mid → Changes op n (num line (pos 1)) r → Reads a_setting (gives (record { to = n; value = two op (var n) (num x.line (pos 1)) })) setting_of here r here
gave_stepped op n line x old mid r here e first h =
    gave_changed op n (num x.line (pos 1)) r here (subst (λ (z : ℕ). Changes op n (num z (pos 1)) r) (e ∙ ap line_of first) h)
