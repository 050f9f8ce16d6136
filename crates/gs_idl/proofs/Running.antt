-- How reading goes on at a sign.
use Rattle.std.proofs.Common.{◌≡◌, ◌≢◌, ℕ, zero, suc, ◌+◌, Bool, List, [], ◌∷◌, drop, Option, Some, None, Result, Ok, Err, refl, sym, ap, subst, ◌∙◌}
use Rattle.std.proofs.Math.Numerals.{add-one}
use Rattle.gs_idl.specs.Interface.{Signature}
use Rattle.gs_idl.specs.Lexicon.{IdlSign, bad, finish}
use Rattle.gs_idl.specs.Grammar.{refused}
use Rattle.gs_idl.specs.Machine.{State, start, step, broken, judge, stepped, unless, go, goes, Fed, Text, Fault, moved, whole, run}
use Rattle.gs_idl.specs.Reading.{sign_at, IsNoWord, IsNotNamed, IsNotPassed, IsLast, Halts, Ends, Reads}
use Rattle.gs_idl.specs.declared.passing.Stop.{Stop}
use Rattle.gs_idl.specs.declared.passing.Stop.TheVariants as r
use Rattle.gs_idl.specs.declared.token.IdlKind.{IdlKind}
use Rattle.gs_idl.specs.declared.token.IdlKind.TheVariants.{Unexpected}

pub run_nil : (n : ℕ) (s : State) → run n s [] ≡ Fault n Unexpected
unfolding run
run_nil n s = refl

pub run_cons : (n : ℕ) (s : State) (g : IdlSign) (gs : List IdlSign) → run n s (g ∷ gs) ≡ goes (judge s g) n (λ t. run (n + 1) t gs)
unfolding run
run_cons n s g gs = refl

-- what is no sign is refused
pub record IsOpen (s : State) : Type 0 where
  pub refuses : (k : IdlKind) → step s (bad k) ≡ None

run_at_drop : (gs : List IdlSign) (n m : ℕ) (s : State) → IsOpen s → run m s (drop n gs) ≡ goes (judge s (sign_at gs n)) m (λ t. run (m + 1) t (drop (suc n) gs))
run_at_drop [] zero m s o = run_nil m s ∙ sym (ap (λ (v : Option State). goes (stepped s (bad Unexpected) v) m (λ t. run (m + 1) t [])) (o.refuses Unexpected))
run_at_drop [] (suc n) m s o = run_nil m s ∙ sym (ap (λ (v : Option State). goes (stepped s (bad Unexpected) v) m (λ t. run (m + 1) t [])) (o.refuses Unexpected))
run_at_drop (g ∷ gs) zero m s o = run_cons m s g gs
run_at_drop (g ∷ gs) (suc n) m s o = run_at_drop gs n m s o

pub run_at : (gs : List IdlSign) (n : ℕ) (s : State) → IsOpen s → run n s (drop n gs) ≡ goes (judge s (sign_at gs n)) n (λ t. run (n + 1) t (drop (n + 1) gs))
run_at gs n s o = subst (λ (k : ℕ). run n s (drop n gs) ≡ goes (judge s (sign_at gs n)) n (λ t. run (n + 1) t (drop k gs))) (sym (add-one n)) (run_at_drop gs n n s o)

-- the sign may stand here, and breaks no rule
pub passes : (gs : List IdlSign) (n m : ℕ) (s t : State) (g : IdlSign) → IsOpen s → sign_at gs n ≡ g → step s g ≡ Some t → broken s g ≡ None → m ≡ n + 1 → ((f : Fed) → moved t f ≡ f) → run n s (drop n gs) ≡ run m t (drop m gs)
passes gs n m s t g o is e b to mid =
    run_at gs n s o ∙ ap (λ (h : IdlSign). goes (judge s h) n (λ u. run (n + 1) u (drop (n + 1) gs))) is
    ∙ ap (λ (v : Option State). goes (stepped s g v) n (λ u. run (n + 1) u (drop (n + 1) gs))) e
    ∙ ap (λ (v : Option IdlKind). goes (unless v (go t)) n (λ u. run (n + 1) u (drop (n + 1) gs))) b
    ∙ mid (run (n + 1) t (drop (n + 1) gs)) ∙ ap (λ (k : ℕ). run k t (drop k gs)) (sym to)

-- the end stands here, and all is read
pub finishes : (gs : List IdlSign) (n : ℕ) (s : State) (b : Bool) (x : List ℕ) (os : List Signature) → IsOpen s → sign_at gs n ≡ finish → step s finish ≡ Some (whole b x os) → broken s finish ≡ None
    → run n s (drop n gs) ≡ Text (record { name = x; ops = os })
finishes gs n s b x os o is e r =
    run_at gs n s o ∙ ap (λ (h : IdlSign). goes (judge s h) n (λ u. run (n + 1) u (drop (n + 1) gs))) is
    ∙ ap (λ (v : Option State). goes (stepped s finish v) n (λ u. run (n + 1) u (drop (n + 1) gs))) e
    ∙ ap (λ (v : Option IdlKind). goes (unless v (go (whole b x os))) n (λ u. run (n + 1) u (drop (n + 1) gs))) r

-- the sign may not stand here
pub stops : (gs : List IdlSign) (n m : ℕ) (s : State) (kind : IdlKind) → IsOpen s → step s (sign_at gs n) ≡ None → kind ≡ refused (sign_at gs n) → m ≡ n → run n s (drop n gs) ≡ Fault m kind
stops gs n m s kind o e k to =
    run_at gs n s o ∙ ap (λ (v : Option State). goes (stepped s (sign_at gs n) v) n (λ u. run (n + 1) u (drop (n + 1) gs))) e
    ∙ ap (λ (x : IdlKind). Fault n x) (sym k) ∙ ap (λ (x : ℕ). Fault x kind) (sym to)

-- the sign breaks a rule
pub breaks : (gs : List IdlSign) (n : ℕ) (s t : State) (g : IdlSign) (kind : IdlKind) → IsOpen s → sign_at gs n ≡ g → step s g ≡ Some t → broken s g ≡ Some kind → run n s (drop n gs) ≡ Fault n kind
breaks gs n s t g kind o is e b =
    run_at gs n s o ∙ ap (λ (h : IdlSign). goes (judge s h) n (λ u. run (n + 1) u (drop (n + 1) gs))) is
    ∙ ap (λ (v : Option State). goes (stepped s g v) n (λ u. run (n + 1) u (drop (n + 1) gs))) e
    ∙ ap (λ (v : Option IdlKind). goes (unless v (go t)) n (λ u. run (n + 1) u (drop (n + 1) gs))) b

-- the same where the sign is known
pub stops_at : (gs : List IdlSign) (n : ℕ) (s : State) (g : IdlSign) (kind : IdlKind) → IsOpen s → sign_at gs n ≡ g → step s g ≡ None → kind ≡ refused g → run n s (drop n gs) ≡ Fault n kind
stops_at gs n s g kind o is e k = stops gs n n s kind o (ap (step s) is ∙ e) (k ∙ ap refused (sym is)) refl

-- ---- what the reader's steps say

pub no_word_halts : (gs : List IdlSign) (n : ℕ) (s : State) (stop : Stop) → IsOpen s → ((g : IdlSign) → IsNoWord g → step s g ≡ None) → IsNotNamed gs n stop → Halts gs n s n stop
no_word_halts gs n s (r.Fault kind) o none h = stops gs n n s kind o (none (sign_at gs n) h.0) h.1 refl
no_word_halts gs n s r.Memory o none h = tt

pub not_passed_halts : (gs : List IdlSign) (n m : ℕ) (s : State) (wanted : IdlSign) (stop : Stop) → IsOpen s → ((g : IdlSign) → g ≢ wanted → step s g ≡ None) → IsNotPassed gs n m wanted stop → Halts gs n s m stop
not_passed_halts gs n m s wanted (r.Fault kind) o none h = stops gs n m s kind o (none (sign_at gs n) h.0) h.2 h.1
not_passed_halts gs n m s wanted r.Memory o none h = tt

-- neither of two signs stands here
pub neither_halts : (gs : List IdlSign) (n m k : ℕ) (s : State) (first second : IdlSign) (stop other : Stop) → IsOpen s → ((g : IdlSign) → g ≢ first → g ≢ second → step s g ≡ None)
    → IsNotPassed gs n m first other → IsNotPassed gs m k second stop → Halts gs n s k stop
neither_halts gs n m k s first second (r.Fault kind) (r.Fault other) o none h i =
    let at : m ≡ n = h.1 in
    let same : sign_at gs m ≡ sign_at gs n = ap (sign_at gs) at in
    stops gs n k s kind o (none (sign_at gs n) h.0 (λ e. i.0 (same ∙ e))) (i.2 ∙ ap refused same) (i.1 ∙ at)
neither_halts gs n m k s first second (r.Fault kind) r.Memory o none h i = absurd h
neither_halts gs n m k s first second r.Memory other o none h i = tt

pub after_halts : (gs : List IdlSign) (n m k : ℕ) (s u : State) (stop : Stop) → run n s (drop n gs) ≡ run m u (drop m gs) → Halts gs m u k stop → Halts gs n s k stop
after_halts gs n m k s u (r.Fault kind) e h = e ∙ h
after_halts gs n m k s u r.Memory e h = tt

-- a sign that was not the first is passed as the second
pub passed_place : (gs : List IdlSign) (n m : ℕ) (first : IdlSign) (other : Stop) → IsNotPassed gs n m first other → m ≡ n
passed_place gs n m first (r.Fault kind) h = h.1
passed_place gs n m first r.Memory h = absurd h

-- the second of two signs stands here
pub second_passes : (gs : List IdlSign) (n m k : ℕ) (s t : State) (first second : IdlSign) (other : Stop) → IsOpen s → IsNotPassed gs n m first other → sign_at gs m ≡ second → step s second ≡ Some t
    → broken s second ≡ None → k ≡ m + 1 → ((f : Fed) → moved t f ≡ f) → run n s (drop n gs) ≡ run k t (drop k gs)
second_passes gs n m k s t first second other o h is e b to mid =
    let at : m ≡ n = passed_place gs n m first other h in
    subst (λ (x : ℕ). run x s (drop x gs) ≡ run k t (drop k gs)) at (passes gs m k s t second o is e b to mid)

-- the end stands here or not, after all operations
pub last_ends : {T : Type 0} (gs : List IdlSign) (n m : ℕ) (s u : State) (b : Bool) (x : List ℕ) (os : List Signature) (r : Result T Stop) → IsOpen u → run n s (drop n gs) ≡ run m u (drop m gs)
    → step u finish ≡ Some (whole b x os) → broken u finish ≡ None → ((g : IdlSign) → g ≢ finish → step u g ≡ None) → IsLast gs m r → Ends gs n s m (record { name = x; ops = os }) r
last_ends gs n m s u b x os (Ok v) o e goes rule none h = e ∙ finishes gs m u b x os o h goes rule
last_ends gs n m s u b x os (Err stop) o e goes rule none h = after_halts gs n m m s u stop e (not_passed_halts gs m m u finish stop o none h)

-- the same where a semicolon may stand first, and doesn't
pub last_ends_here : {T : Type 0} (gs : List IdlSign) (n m : ℕ) (s : State) (b : Bool) (x : List ℕ) (os : List Signature) (first : IdlSign) (other : Stop) (r : Result T Stop) → IsOpen s → IsNotPassed gs n m first other
    → step s finish ≡ Some (whole b x os) → broken s finish ≡ None → ((g : IdlSign) → g ≢ first → g ≢ finish → step s g ≡ None) → IsLast gs m r → Ends gs n s m (record { name = x; ops = os }) r
last_ends_here gs n m s b x os first other (Ok v) o p goes rule none h =
    let at : m ≡ n = passed_place gs n m first other p in
    finishes gs n s b x os o (ap (sign_at gs) (sym at) ∙ h) goes rule
last_ends_here gs n m s b x os first other (Err stop) o p goes rule none h = neither_halts gs n m m s first finish stop other o none p h

-- what stops from the beginning on is what the whole is
pub halts_reads : (gs : List IdlSign) (n m : ℕ) (stop : Stop) → n ≡ 0 → Halts gs n start m stop → Reads (run 0 start gs) m (Err stop)
halts_reads gs n m (r.Fault kind) e h = subst (λ (k : ℕ). run k start (drop k gs) ≡ Fault m kind) e h
halts_reads gs n m r.Memory e h = tt
