-- How the readings of a rule's pieces join.
use Rattle.std.proofs.Common.{◌≡◌, ℕ, sym, ap, subst, List, [], ◌∷◌, Result, Ok, Err, true, false}
use Rattle.gs_tree.specs.Sign.{Sign, Mark, ident, string}
use Rattle.gs_tree.specs.Program.{Name, Formatted}
use Rattle.gs_tree.specs.View.{name_of, formatted_of, term_of}
use Rattle.gs_tree.specs.declared.tree.Expr.{Expr}
use Rattle.gs_tree.specs.declared.tree.Ident.{Ident}
use Rattle.gs_tree.specs.declared.tree.Format.{Format}
use Rattle.gs_parse.specs.declared.stop.Stop.{Stop}
use Rattle.gs_parse.specs.declared.stop.Stop.TheVariants.{NoMemory, Unfit, TooDeep}
use Rattle.gs_parse.specs.Symbols.{name_at, text_of}
use Rattle.gs_parse.specs.Notation.{Lined, a_term, Kind, Value, Part, kind_of, Fit, unfit, too_deep, fit, Rule, gives, take, may, read}
use Rattle.gs_parse.specs.Grammar.{rule, is}
use Rattle.gs_parse.specs.Reading.{limited, Accepts, Refuses, next_fit, Says, given, taken, chosen, passed, part, Stops, at_take, at_may, after_taken, after_chosen, after_passed, inside, after_part}
use Rattle.gs_parse.specs.Reads.{Takes, Expects, Reads, IsNamed, IsFormat, lined, line_of}

accepts_fit : (w : Fit) → w ≡ fit → Accepts limited w
accepts_fit w e = subst (λ (z : Fit). Accepts limited z) (sym e) tt

refuses_unfit : (w : Fit) → w ≡ unfit → Refuses limited w
refuses_unfit w e = subst (λ (z : Fit). Refuses limited z) (sym e) tt

refuses_deep : (w : Fit) → w ≡ too_deep → Refuses limited w
refuses_deep w e = subst (λ (z : Fit). Refuses limited z) (sym e) tt

-- ---- one sign taken

pub took : {A : Type 0} (k : Kind) (f : Mark → Fit) (n : Mark → Rule k) (view : A → Value k) (old : List Mark) (x : Mark) (mid : List Mark) (result : Result A Stop) (new : List Mark) → old ≡ x ∷ mid → f x ≡ fit → Reads k (n x) view mid result new → Reads k (take f n) view old result new
unfolding Reads
took k f n view old x mid (Ok a) new e h r = subst (λ (z : List Mark). Says limited k (take f n) z (view a) new) (sym e) (taken limited k f n x mid (view a) new (accepts_fit (f x) h) r)
took k f n view old x mid (Err Unfit) new e h r = subst (λ (z : List Mark). Stops limited k (take f n) z unfit new) (sym e) (after_taken limited k f n x mid unfit new (accepts_fit (f x) h) r)
took k f n view old x mid (Err TooDeep) new e h r = subst (λ (z : List Mark). Stops limited k (take f n) z too_deep new) (sym e) (after_taken limited k f n x mid too_deep new (accepts_fit (f x) h) r)
took k f n view old x mid (Err NoMemory) new e h r = tt

pub chose : {A : Type 0} (k : Kind) (f : Mark → Fit) (n : Mark → Rule k) (o : Rule k) (view : A → Value k) (old : List Mark) (x : Mark) (mid : List Mark) (result : Result A Stop) (new : List Mark) → old ≡ x ∷ mid → f x ≡ fit → Reads k (n x) view mid result new → Reads k (may f n o) view old result new
unfolding Reads
chose k f n o view old x mid (Ok a) new e h r = subst (λ (z : List Mark). Says limited k (may f n o) z (view a) new) (sym e) (chosen limited k f n o x mid (view a) new (accepts_fit (f x) h) r)
chose k f n o view old x mid (Err Unfit) new e h r = subst (λ (z : List Mark). Stops limited k (may f n o) z unfit new) (sym e) (after_chosen limited k f n o x mid unfit new (accepts_fit (f x) h) r)
chose k f n o view old x mid (Err TooDeep) new e h r = subst (λ (z : List Mark). Stops limited k (may f n o) z too_deep new) (sym e) (after_chosen limited k f n o x mid too_deep new (accepts_fit (f x) h) r)
chose k f n o view old x mid (Err NoMemory) new e h r = tt

pub passing : {A : Type 0} (k : Kind) (f : Mark → Fit) (n : Mark → Rule k) (o : Rule k) (view : A → Value k) (old : List Mark) (result : Result A Stop) (new : List Mark) → next_fit f old ≡ unfit → Reads k o view old result new → Reads k (may f n o) view old result new
unfolding Reads
passing k f n o view old (Ok a) new e r = passed limited k f n o old (view a) new e r
passing k f n o view old (Err Unfit) new e r = after_passed limited k f n o old unfit new e r
passing k f n o view old (Err TooDeep) new e r = after_passed limited k f n o old too_deep new e r
passing k f n o view old (Err NoMemory) new e r = tt

pub stop_unfit : {A : Type 0} (k : Kind) (f : Mark → Fit) (n : Mark → Rule k) (view : A → Value k) (old : List Mark) → next_fit f old ≡ unfit → Reads k (take f n) view old (Err Unfit) old
unfolding Reads
stop_unfit k f n view old e = subst (λ (z : Fit). Stops limited k (take f n) old z old) e (at_take limited k f n old (refuses_unfit (next_fit f old) e))

pub stop_deep : {A : Type 0} (k : Kind) (f : Mark → Fit) (n : Mark → Rule k) (view : A → Value k) (old : List Mark) → next_fit f old ≡ too_deep → Reads k (take f n) view old (Err TooDeep) old
unfolding Reads
stop_deep k f n view old e = subst (λ (z : Fit). Stops limited k (take f n) old z old) e (at_take limited k f n old (refuses_deep (next_fit f old) e))

pub may_deep : {A : Type 0} (k : Kind) (f : Mark → Fit) (n : Mark → Rule k) (o : Rule k) (view : A → Value k) (old : List Mark) → next_fit f old ≡ too_deep → Reads k (may f n o) view old (Err TooDeep) old
unfolding Reads
may_deep k f n o view old e = subst (λ (z : Fit). Stops limited k (may f n o) old z old) e (at_may limited k f n o old (refuses_deep (next_fit f old) e) e)

-- ---- words

pub then_word : {A B : Type 0} (k : Kind) (s : Sign) (P : B → Mark → Type 0) (r : Rule k) (view : A → Value k) (old mid : List Mark) (u : B) (result : Result A Stop) (new : List Mark) → Expects s P old (Ok u) mid → Reads k r view mid result new → Reads k (take (is s) (λ x. r)) view old result new
unfolding Expects
then_word k s P r view old mid u result new h g = took k (is s) (λ x. r) view old h.0 mid result new h.1 h.2 g

pub stop_word : {A B : Type 0} (k : Kind) (s : Sign) (P : B → Mark → Type 0) (n : Mark → Rule k) (view : A → Value k) (old : List Mark) (stop : Stop) (new : List Mark) → Expects s P old (Err stop) new → Reads k (take (is s) n) view old (Err stop) new
unfolding Expects Reads
stop_word k s P n view old Unfit new h = subst (λ (z : List Mark). Stops limited k (take (is s) n) old unfit z) (sym h.1) (stop_unfit k (is s) n view old h.0)
stop_word k s P n view old TooDeep new h = absurd h
stop_word k s P n view old NoMemory new h = tt

pub then_name : {A : Type 0} (k : Kind) (f : Name → Rule k) (view : A → Value k) (old mid : List Mark) (id : Ident) (result : Result A Stop) (new : List Mark) → Expects (ident []) IsNamed old (Ok id) mid → Reads k (f (name_of id)) view mid result new → Reads k (take (is (ident [])) (λ x. f (name_at x))) view old result new
unfolding Expects
then_name k f view old mid id result new h g = took k (is (ident [])) (λ x. f (name_at x)) view old h.0 mid result new h.1 h.2 (subst (λ (z : Name). Reads k (f z) view mid result new) (sym h.3) g)

pub then_format : {A : Type 0} (k : Kind) (f : Formatted → Rule k) (view : A → Value k) (old mid : List Mark) (a : Format) (result : Result A Stop) (new : List Mark) → Expects (string []) IsFormat old (Ok a) mid → Reads k (f (formatted_of a)) view mid result new → Reads k (take (is (string [])) (λ x. f (record { line = x.line; text = text_of x.sign }))) view old result new
unfolding Expects
then_format k f view old mid a result new h g = took k (is (string [])) (λ x. f (record { line = x.line; text = text_of x.sign })) view old h.0 mid result new h.1 h.2 (subst (λ (z : Formatted). Reads k (f z) view mid result new) (sym h.3) g)

pub then_choice : {A : Type 0} (k : Kind) (s : Sign) (r o : Rule k) (view : A → Value k) (old mid : List Mark) (result : Result A Stop) (new : List Mark) → Takes s old true mid → Reads k r view mid result new → Reads k (may (is s) (λ x. r) o) view old result new
unfolding Takes
then_choice k s r o view old mid result new h g = chose k (is s) (λ x. r) o view old h.0 mid result new h.1 h.2 g

pub else_choice : {A : Type 0} (k : Kind) (s : Sign) (n : Mark → Rule k) (o : Rule k) (view : A → Value k) (old mid : List Mark) (result : Result A Stop) (new : List Mark) → Takes s old false mid → Reads k o view mid result new → Reads k (may (is s) n o) view old result new
unfolding Takes
else_choice k s n o view old mid result new h g = passing k (is s) n o view old result new h.0 (subst (λ (z : List Mark). Reads k o view z result new) h.1 g)

-- ---- parts

pub then_part : {A B : Type 0} (k : Kind) (n : Part) (next : Value (kind_of n) → Rule k) (inner : B → Value (kind_of n)) (view : A → Value k) (old mid : List Mark) (b : B) (result : Result A Stop) (new : List Mark) → Reads (kind_of n) (rule n) inner old (Ok b) mid → Reads k (next (inner b)) view mid result new → Reads k (read n next) view old result new
unfolding Reads
then_part k n next inner view old mid b (Ok a) new h g = part limited k n next old mid (inner b) (view a) new h g
then_part k n next inner view old mid b (Err Unfit) new h g = after_part limited k n next old mid (inner b) unfit new h g
then_part k n next inner view old mid b (Err TooDeep) new h g = after_part limited k n next old mid (inner b) too_deep new h g
then_part k n next inner view old mid b (Err NoMemory) new h g = tt

pub stop_part : {A B : Type 0} (k : Kind) (n : Part) (next : Value (kind_of n) → Rule k) (inner : B → Value (kind_of n)) (view : A → Value k) (old : List Mark) (stop : Stop) (new : List Mark) → Reads (kind_of n) (rule n) inner old (Err stop) new → Reads k (read n next) view old (Err stop) new
unfolding Reads
stop_part k n next inner view old Unfit new h = inside limited k n next old unfit new h
stop_part k n next inner view old TooDeep new h = inside limited k n next old too_deep new h
stop_part k n next inner view old NoMemory new h = tt

pub gave : {A : Type 0} (k : Kind) (v : Value k) (view : A → Value k) (old : List Mark) (a : A) → view a ≡ v → Reads k (gives v) view old (Ok a) old
unfolding Reads
gave k v view old a e = subst (λ (z : Value k). Says limited k (gives v) old z old) (sym e) (given limited k v old)

pub no_memory : {A : Type 0} (k : Kind) (r : Rule k) (view : A → Value k) (old new : List Mark) → Reads k r view old (Err NoMemory) new
unfolding Reads
no_memory k r view old new = tt

-- what a part says is what the rest of it says
pub last_part : {A : Type 0} (k : Kind) (n : Part) (view : A → Value (kind_of n)) (old : List Mark) (result : Result A Stop) (new : List Mark) → Reads (kind_of n) (rule n) view old result new → Reads (kind_of n) (read n (λ v. gives v)) view old result new
unfolding Reads
last_part k n view old (Ok a) new h = part limited (kind_of n) n (λ v. gives v) old new (view a) (view a) new h (given limited (kind_of n) (view a) new)
last_part k n view old (Err Unfit) new h = inside limited (kind_of n) n (λ v. gives v) old unfit new h
last_part k n view old (Err TooDeep) new h = inside limited (kind_of n) n (λ v. gives v) old too_deep new h
last_part k n view old (Err NoMemory) new h = tt

pub ruleset chain = (then_word, stop_word, then_name, then_format, then_choice, else_choice, then_part, stop_part, gave, no_memory)

pub memory_err : {A : Type 0} (k : Kind) (r : Rule k) (view : A → Value k) (old : List Mark) (stop : Stop) (new : List Mark) → stop ≡ NoMemory → Reads k r view old (Err stop) new
memory_err k r view old stop new e = subst (λ (z : Stop). Reads k r view old (Err z) new) (sym e) (no_memory k r view old new)

-- a sign taken whose mark the rest needs
pub then_sign : {A B : Type 0} (k : Kind) (s : Sign) (P : B → Mark → Type 0) (n : Mark → Rule k) (view : A → Value k) (old mid : List Mark) (u : B) (result : Result A Stop) (new : List Mark) → Expects s P old (Ok u) mid → ((x : Mark) → old ≡ x ∷ mid → P u x → Reads k (n x) view mid result new) → Reads k (take (is s) n) view old result new
unfolding Expects
then_sign k s P n view old mid u result new h g = took k (is s) n view old h.0 mid result new h.1 h.2 (g h.0 h.1 h.3)

pub choose_sign : {A : Type 0} (k : Kind) (s : Sign) (n : Mark → Rule k) (o : Rule k) (view : A → Value k) (old mid : List Mark) (result : Result A Stop) (new : List Mark) → Takes s old true mid → ((x : Mark) → old ≡ x ∷ mid → Reads k (n x) view mid result new) → Reads k (may (is s) n o) view old result new
unfolding Takes
choose_sign k s n o view old mid result new h g = chose k (is s) n o view old h.0 mid result new h.1 h.2 (g h.0 h.1)

-- a term with the line of the first sign
pub gave_lined : (x : Mark) (old mid here : List Mark) (e : Expr) → old ≡ x ∷ mid → Reads a_term (gives (record { line = x.line; term = term_of e })) (lined old) here (Ok e) here
gave_lined x old mid here e h = gave a_term _ (lined old) here e (ap (λ (n : ℕ). let l : Lined = record { line = n; term = term_of e } in l) (ap line_of h))

-- a name, and a part that needs it
pub then_named : {A : Type 0} (k : Kind) (n : Name → Part) (next : (m : Name) → Value (kind_of (n m)) → Rule k) (view : A → Value k) (old mid : List Mark) (id : Ident) (result : Result A Stop) (new : List Mark) → Expects (ident []) IsNamed old (Ok id) mid → Reads k (read (n (name_of id)) (next (name_of id))) view mid result new → Reads k (take (is (ident [])) (λ x. read (n (name_at x)) (next (name_at x)))) view old result new
unfolding Expects
then_named k n next view old mid id result new h g = took k (is (ident [])) (λ x. read (n (name_at x)) (next (name_at x))) view old h.0 mid result new h.1 h.2 (subst (λ (z : Name). Reads k (read (n z) (next z)) view mid result new) (sym h.3) g)
