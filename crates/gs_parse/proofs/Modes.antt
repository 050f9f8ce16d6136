-- How a mode is read.
use Rattle.std.proofs.Common.{◌≡◌, refl, sym, ap, subst, List, [], ◌∷◌, Result, Ok, Err, true, false, Bool}
use Rattle.std.specs.Prelude.{◌==◌}
use Rattle.gs_tree.specs.Sign.{Sign, Mark, mode_r, mode_w, mode_a}
use Rattle.gs_tree.specs.declared.tree.Mode.{Mode}
use Rattle.gs_tree.specs.declared.tree.Mode.TheVariants as mode
use Rattle.gs_parse.specs.declared.stop.Stop.{Stop}
use Rattle.gs_parse.specs.declared.stop.Stop.TheVariants.{NoMemory, Unfit, TooDeep}
use Rattle.gs_parse.specs.Symbols.{place}
use Rattle.gs_parse.specs.Notation.{Kind, Value, unfit, fit, Rule, take}
use Rattle.gs_parse.specs.Grammar.{judged, is, is_mode, mode_fit, mode_of}
use Rattle.gs_parse.specs.Reading.{next_fit}
use Rattle.gs_parse.specs.Reads.{Reads, Takes, TakesMode}
use Rattle.gs_parse.proofs.Chain.{took, stop_unfit}

judged_true : (b : Bool) → judged b true ≡ fit → b ≡ true
judged_true true e = refl
judged_true false e = absurd (cc)

by_r : (s : Sign) → (place s == 22) ≡ true → s ≡ mode_r
by_r mode_r e = refl
by_r _ e = absurd (cc)

by_w : (s : Sign) → (place s == 23) ≡ true → s ≡ mode_w
by_w mode_w e = refl
by_w _ e = absurd (cc)

by_a : (s : Sign) → (place s == 24) ≡ true → s ≡ mode_a
by_a mode_a e = refl
by_a _ e = absurd (cc)

pub took_r : (o n : List Mark) → Takes mode_r o true n → TakesMode o (Ok mode.R) n
unfolding Takes TakesMode is is_mode
took_r o n h = let e = by_r h.0.sign (judged_true _ h.2) in (h.0, h.1, ap mode_fit e, ap mode_of e)

pub took_w : (o n : List Mark) → Takes mode_w o true n → TakesMode o (Ok mode.W) n
unfolding Takes TakesMode is is_mode
took_w o n h = let e = by_w h.0.sign (judged_true _ h.2) in (h.0, h.1, ap mode_fit e, ap mode_of e)

pub took_a : (o n : List Mark) → Takes mode_a o true n → TakesMode o (Ok mode.A) n
unfolding Takes TakesMode is is_mode
took_a o n h = let e = by_a h.0.sign (judged_true _ h.2) in (h.0, h.1, ap mode_fit e, ap mode_of e)

none_of : (s : Sign) → judged (place s == 22) true ≡ unfit → judged (place s == 23) true ≡ unfit → judged (place s == 24) true ≡ unfit → mode_fit s ≡ unfit
none_of mode_r a b c = absurd (cc)
none_of mode_w a b c = absurd (cc)
none_of mode_a a b c = absurd (cc)
none_of _ a b c = refl

none_next : (ts : List Mark) → next_fit (is mode_r) ts ≡ unfit → next_fit (is mode_w) ts ≡ unfit → next_fit (is mode_a) ts ≡ unfit → next_fit is_mode ts ≡ unfit
unfolding is is_mode
none_next [] a b c = refl
none_next (x ∷ xs) a b c = none_of x.sign a b c

pub took_none : (o k m n : List Mark) → Takes mode_r o false k → Takes mode_w o false m → Takes mode_a o false n → TakesMode o (Err Unfit) n
unfolding Takes TakesMode
took_none o k m n a b c = (none_next o a.0 b.0 c.0, c.1)

pub then_mode : {A : Type 0} (k : Kind) (f : Mark → Rule k) (view : A → Value k) (old mid : List Mark) (m : Mode) (result : Result A Stop) (new : List Mark) → TakesMode old (Ok m) mid → ((x : Mark) → mode_of x.sign ≡ m → Reads k (f x) view mid result new) → Reads k (take is_mode f) view old result new
unfolding TakesMode
then_mode k f view old mid m result new h g = took k is_mode f view old h.0 mid result new h.1 h.2 (g h.0 h.3)

pub stop_mode : {A : Type 0} (k : Kind) (f : Mark → Rule k) (view : A → Value k) (old : List Mark) (stop : Stop) (new : List Mark) → TakesMode old (Err stop) new → Reads k (take is_mode f) view old (Err stop) new
unfolding TakesMode
stop_mode k f view old Unfit new h = subst (λ (z : List Mark). Reads k (take is_mode f) view old (Err Unfit) z) (sym h.1) (stop_unfit k is_mode f view old h.0)
stop_mode k f view old TooDeep new h = absurd h
stop_mode k f view old NoMemory new h = absurd h
