-- Where the reading of a program stops, there is its fault.
use Rattle.std.proofs.Common.{◌≡◌, ◌<◌, ◌≤◌, ◌+◌, ℕ, zero, suc, refl, sym, ap, ◌∙◌, subst, List, [], ◌∷◌, ◌++◌, arith, take, drop, length, length-drop, length-append, append_assoc, true}
use Rattle.std.proofs.Math.Numerals.{add-one}
use Rattle.gs_tree.specs.Sign.{Mark}
use Rattle.gs_tree.specs.Program.{Program}
use Rattle.gs_parse.specs.Notation.{a_program, program, Fit, unfit, too_deep}
use Rattle.gs_parse.specs.Grammar.{rule}
use Rattle.gs_parse.specs.Reading.{Limits, limited, unlimited, Says, IsBeginning, IsFaultAt, Stops}
use Rattle.gs_parse.specs.Laws.{OneMeaning}
use Rattle.gs_parse.proofs.Theory.{same, apart, kept, viable, refused, deeper, lax, lax_stop, alike_closing, alike_head}
use Rattle.gs_parse.proofs.Rules.{all_good}

pub one_meaning : OneMeaning
one_meaning l ts p q h g = (same l a_program (rule program) ts p [] q [] h g).0

take_at : (ts : List Mark) (k : ℕ) (x : Mark) (xs : List Mark) → drop k ts ≡ x ∷ xs → take (suc k) ts ≡ take k ts ++ x ∷ []
take_at [] zero x xs e = absurd (cc)
take_at [] (suc k) x xs e = absurd (cc)
take_at (y ∷ ts) zero x xs e = cc
take_at (y ∷ ts) (suc k) x xs e = ap (λ zs. y ∷ zs) (take_at ts k x xs e)

-- the signs so far, one more, and what follows
pub one_more : (ts : List Mark) (k : ℕ) (x : Mark) (xs more : List Mark) → drop k ts ≡ x ∷ xs → take (k + 1) ts ++ more ≡ take k ts ++ x ∷ more
one_more ts k x xs more e =
    let one : take (k + 1) ts ≡ take k ts ++ x ∷ [] = rw add-one (take_at ts k x xs e) in
    ap (λ z. z ++ more) one ∙ append_assoc (take k ts) (x ∷ []) more

take_len : (p r : List Mark) (k : ℕ) → length p ≡ k → take k (p ++ r) ≡ p
take_len [] r zero e = cc
take_len [] r (suc k) e = absurd (omega (arith, e))
take_len (x ∷ p) r zero e = absurd (omega (arith, e))
take_len (x ∷ p) r (suc k) e = ap (λ z. x ∷ z) (take_len p r k (omega (arith, e)))

so_far : (ts p r : List Mark) (k : ℕ) → k ≤ length ts → ts ≡ p ++ r → r ≡ drop k ts → p ≡ take k ts
so_far ts p r k le is rest =
    let len : length p ≡ k = omega (arith, ap length is, length-append p r, ap length rest, length-drop k ts) in
    sym (take_len p r k len) ∙ ap (take k) (sym is)

rest_begins : (ts : List Mark) (k : ℕ) → k < length ts → (x : Mark) × (xs : List Mark) × (drop k ts ≡ x ∷ xs)
rest_begins [] k lt = absurd (omega (arith, lt))
rest_begins (y ∷ ts) zero lt = (y, ts, cc)
rest_begins (y ∷ ts) (suc k) lt = rest_begins ts k (omega (arith, lt))

-- no text has the signs so far and then the refused one
not_begun : (l : Limits) (ts : List Mark) (k : ℕ) (w : Fit) (x : Mark) (xs : List Mark) → k ≤ length ts → drop k ts ≡ x ∷ xs → Stops l a_program (rule program) ts w (drop k ts) → ¬ IsBeginning l (take (k + 1) ts)
not_begun l ts k w x xs le e stop begins =
    let r = refused all_good l true a_program (rule program) ts w (drop k ts) x xs (all_good.good l program tt) e stop in
    let read_is = so_far ts r.read_ (x ∷ xs) k le r.is (sym e) in
    let text : take (k + 1) ts ++ begins.0 ≡ r.read_ ++ x ∷ begins.0 = one_more ts k x xs begins.0 e ∙ ap (λ z. z ++ x ∷ begins.0) (sym read_is) in
    let says : Says l a_program (rule program) (r.read_ ++ x ∷ begins.0) begins.1 [] = subst (λ (z : List Mark). Says l a_program (rule program) z begins.1 []) text begins.2 in
    apart l a_program (rule program) (r.read_ ++ x ∷ begins.0) begins.1 [] w (x ∷ begins.0) says (r.again begins.0)

pub stop_fault : (ts : List Mark) (k : ℕ) (w : Fit) → k ≤ length ts → Stops limited a_program (rule program) ts w (drop k ts) → IsFaultAt ts k
stop_fault ts k w le stop =
    let v = viable all_good limited true a_program (rule program) ts w (drop k ts) (all_good.good limited program tt) stop in
    record {
      within = le;
      before = (v.last ++ [], v.value, subst (λ (z : List Mark). Says limited a_program (rule program) (z ++ (v.last ++ [])) v.value []) (so_far ts v.read_ (drop k ts) k le v.is refl) (v.says [] tt));
      here = λ lt. let h = rest_begins ts k lt in not_begun limited ts k w h.0 h.1 le h.2 stop;
      whole = λ p says. apart limited a_program (rule program) ts p [] w (drop k ts) says stop;
    }

-- a sign that fits nowhere is no beginning without the limits either
pub unfit_nowhere : (ts : List Mark) (k : ℕ) → k < length ts → Stops limited a_program (rule program) ts unfit (drop k ts) → ¬ IsBeginning unlimited (take (k + 1) ts)
unfit_nowhere ts k lt stop =
    let h = rest_begins ts k lt in
    not_begun unlimited ts k unfit h.0 h.1 (omega (arith, lt)) h.2 (lax_stop a_program (rule program) ts unfit (drop k ts) refl stop)

-- a sign that only a limit refuses is a beginning without the limits
pub deep_beginning : (ts : List Mark) (k : ℕ) → k ≤ length ts → Stops limited a_program (rule program) ts too_deep (drop k ts) → (k < length ts) × IsBeginning unlimited (take (k + 1) ts)
deep_beginning ts k le stop =
    let d = deeper all_good true a_program (rule program) ts too_deep (drop k ts) (all_good.good unlimited program tt) refl stop in
    let read_is = so_far ts d.read_ (d.sign ∷ d.others) k le d.is (sym d.begins) in
    let more = d.last ++ [] in
    let text : take (k + 1) ts ++ more ≡ d.read_ ++ d.sign ∷ more = one_more ts k d.sign d.others more d.begins ∙ ap (λ z. z ++ d.sign ∷ more) (sym read_is) in
    (omega (arith, ap length d.begins, length-drop k ts), (more, d.value, subst (λ (z : List Mark). Says unlimited a_program (rule program) z d.value []) (sym text) (d.says [] tt)))

more_after : (l : Limits) (ts : List Mark) (k : ℕ) (p : Program) (x : Mark) (xs : List Mark) → k ≤ length ts → drop k ts ≡ x ∷ xs → Says l a_program (rule program) ts p (x ∷ xs) → ¬ IsBeginning l (take (k + 1) ts)
more_after l ts k p x xs le e says begins =
    let h = kept all_good l true a_program (rule program) ts p (x ∷ xs) (all_good.good l program tt) says in
    let read_is = so_far ts h.read_ (x ∷ xs) k le h.is (sym e) in
    let text : take (k + 1) ts ++ begins.0 ≡ h.read_ ++ x ∷ begins.0 = one_more ts k x xs begins.0 e ∙ ap (λ z. z ++ x ∷ begins.0) (sym read_is) in
    let whole : Says l a_program (rule program) (h.read_ ++ x ∷ begins.0) begins.1 [] = subst (λ (z : List Mark). Says l a_program (rule program) z begins.1 []) text begins.2 in
    let no = (same l a_program (rule program) (h.read_ ++ x ∷ begins.0) p (x ∷ begins.0) begins.1 [] (h.again (x ∷ begins.0) (alike_head x xs begins.0)) whole).1 in
    absurd (cc)

-- where a program was read and more follows, the fault is at what follows
pub rest_fault : (ts : List Mark) (k : ℕ) (p : Program) → k < length ts → Says limited a_program (rule program) ts p (drop k ts) → IsFaultAt ts k
rest_fault ts k p lt says =
    let le : k ≤ length ts = omega (arith, lt) in
    let b = rest_begins ts k lt in
    let said : Says limited a_program (rule program) ts p (b.0 ∷ b.1) = subst (λ (z : List Mark). Says limited a_program (rule program) ts p z) b.2 says in
    let h = kept all_good limited true a_program (rule program) ts p (drop k ts) (all_good.good limited program tt) says in
    record {
      within = le;
      before = ([], p, subst (λ (z : List Mark). Says limited a_program (rule program) (z ++ []) p []) (so_far ts h.read_ (drop k ts) k le h.is refl) (h.again [] (alike_closing (drop k ts) [] tt)));
      here = λ lt2. more_after limited ts k p b.0 b.1 le b.2 said;
      whole = λ q whole. let no = (same limited a_program (rule program) ts p (b.0 ∷ b.1) q [] said whole).1 in absurd (cc);
    }

pub rest_nowhere : (ts : List Mark) (k : ℕ) (p : Program) → k < length ts → Says limited a_program (rule program) ts p (drop k ts) → ¬ IsBeginning unlimited (take (k + 1) ts)
rest_nowhere ts k p lt says =
    let b = rest_begins ts k lt in
    let said : Says limited a_program (rule program) ts p (b.0 ∷ b.1) = subst (λ (z : List Mark). Says limited a_program (rule program) ts p z) b.2 says in
    more_after unlimited ts k p b.0 b.1 (omega (arith, lt)) b.2 (lax a_program (rule program) ts p (b.0 ∷ b.1) said)
