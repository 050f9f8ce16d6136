-- What is a fault of a text is what its reading says, so a text has one.
use Rattle.std.proofs.Common.{◌≡◌, ℕ, zero, suc, ◌+◌, ◌*◌, ◌<◌, Bool, true, false, List, [], ◌∷◌, ◌++◌, length, take, drop, Option, Some, None, refl, sym, ap, subst, ◌∙◌, arith, append_assoc, length-append, inl, inr, ◌⊎◌}
use Rattle.std.specs.Prelude.{slice_get, nat_le, if◌then◌else◌}
use Rattle.std.proofs.lemmas.List.{take_at, append-nil}
use Rattle.gs_idl.specs.Interface.{Param, Signature, Interface}
use Rattle.gs_idl.specs.Lexicon.{IdlSign, IdlMark, Reads}
use Rattle.gs_idl.specs.Grammar.{refused, IsText, IsBeginning, IsRefused, BreaksHere, IsRight, IsFaultAt, too_long, wrong, signs_of, Breaks, ComesBefore, many_twice, many_reserved, twice_reserved}
use Rattle.gs_idl.specs.declared.token.IdlKind.{IdlKind}
use Rattle.gs_idl.specs.declared.token.IdlKind.TheVariants.{BadCombination, TooMany, Twice, Reserved}
use Rattle.gs_idl.specs.declared.idl.Dir.{Dir}
use Rattle.gs_idl.specs.declared.idl.ParamKind.{ParamKind}
use Rattle.gs_idl.specs.Machine as m
use Rattle.gs_idl.specs.Machine.{State, start, at_title, at_brace, at_ops, at_name, at_paren, at_dir, at_kind, at_param, at_sep, at_semi, closed, ended, whole, param_by, op_by, step, broken, name_rule, has_op, judge, stepped, unless, go, refuse, Verdict, Fed, Text, Fault, moved, run}
use Rattle.gs_idl.proofs.Rules.{size_of, LastBreaks, last_many, last_params, last_twice, last_param, last_word, last_clash}
use Rattle.gs_idl.proofs.Clean.{Clean, clean_next, NameRule, name_many, name_twice, name_word, name_fits, name_is, no_op}
use Rattle.gs_idl.proofs.Extends.{Extends, extends_path, breaks_next}
use Rattle.gs_idl.proofs.Ideal.{Size, size, ideal, ideal_name, ideal_ops, reaches}
use Rattle.gs_idl.proofs.SoFar.{from_start, path_text}
use Rattle.gs_idl.proofs.Complete.{text_path}
use Rattle.gs_idl.proofs.Running.{run_cons}
use Rattle.gs_idl.proofs.Faults.{Reached, IsFinal, Closing}
use Rattle.gs_idl.proofs.OneText.{one_marks, marks_close}
use Rattle.gs_idl.proofs.Transitions.{Next, to_title, to_brace, to_ops, to_name, to_closed, to_paren, to_dir, to_kind, to_param, to_sep, to_more, to_semi, to_next, to_ended, to_whole, to_end, step_next, next_step, Path, here, joined, onward, path_left, first_of}
use Rattle.gs_idl_faults.specs.Laws.{OneFault}
use Rattle.gs_idl_faults.proofs.Reading.{few_at, clean_front, in_front}

-- ---- the signs before the last

abbrev NoneFinal : List IdlSign → Type 0
NoneFinal [] = Unit {0}
NoneFinal (g ∷ gs) = (IsFinal g → ⊥) × NoneFinal gs

none_final : (p gs : List IdlSign) (g : IdlSign) → Closing (p ++ g ∷ gs) → NoneFinal p
none_final [] gs g c = tt
none_final (h ∷ []) gs g c = (c.0, tt)
none_final (h ∷ k ∷ p) gs g c = (c.0, none_final (k ∷ p) gs g c.1)

-- a sign that isn't the last leads to a state from which reading goes on
goes_on : (s : State) (g : IdlSign) (t : State) → Next s g t → (IsFinal g → ⊥) → (f : Fed) → moved t f ≡ f
goes_on s g t to_title n f = refl
goes_on s g t (to_brace y) n f = refl
goes_on s g t (to_ops y) n f = refl
goes_on s g t (to_name y ps) n f = refl
goes_on s g t (to_closed y o ps) n f = refl
goes_on s g t (to_paren y ps h) n f = refl
goes_on s g t (to_dir y ps h) n f = refl
goes_on s g t (to_kind y ps h qs d) n f = refl
goes_on s g t (to_param y ps h qs d k) n f = refl
goes_on s g t (to_sep y ps h qs d k w) n f = refl
goes_on s g t (to_more y ps h qs) n f = refl
goes_on s g t (to_semi y ps h qs) n f = refl
goes_on s g t (to_next y ps h qs) n f = refl
goes_on s g t (to_ended y ps) n f = refl
goes_on s g t (to_whole y ps) n f = absurd (n tt)
goes_on s g t (to_end y ps) n f = absurd (n tt)

-- ---- reading up to a place

size_at : (p : List IdlSign) (s : State) → Path start p s → Size s (length p)
size_at p s q = subst (λ (gs : List IdlSign). Size s (length gs)) (from_start s p q) (size s)

-- a sign that may stand, and breaks no rule
passed : (s t : State) (g : IdlSign) (n : ℕ) (gs : List IdlSign) → step s g ≡ Some t → broken s g ≡ None → ((f : Fed) → moved t f ≡ f) → run n s (g ∷ gs) ≡ run (n + 1) t gs
passed s t g n gs e f on =
    run_cons n s g gs ∙ ap (λ (o : Option State). m.goes (stepped s g o) n (λ u. run (n + 1) u gs)) e
    ∙ ap (λ (b : Option IdlKind). m.goes (unless b (go t)) n (λ u. run (n + 1) u gs)) f ∙ on (run (n + 1) t gs)

-- a sign that may not stand
stopped : (s : State) (g : IdlSign) (n : ℕ) (gs : List IdlSign) → step s g ≡ None → run n s (g ∷ gs) ≡ Fault n (refused g)
stopped s g n gs e = run_cons n s g gs ∙ ap (λ (o : Option State). m.goes (stepped s g o) n (λ u. run (n + 1) u gs)) e

-- a sign that may stand, and breaks a rule
broke : (s t : State) (g : IdlSign) (n : ℕ) (gs : List IdlSign) (kind : IdlKind) → step s g ≡ Some t → broken s g ≡ Some kind → run n s (g ∷ gs) ≡ Fault n kind
broke s t g n gs kind e f =
    run_cons n s g gs ∙ ap (λ (o : Option State). m.goes (stepped s g o) n (λ u. run (n + 1) u gs)) e
    ∙ ap (λ (b : Option IdlKind). m.goes (unless b (go t)) n (λ u. run (n + 1) u gs)) f

-- reading stands here behind these signs, whatever follows, and a text goes on as these
pub record Stands (p more : List IdlSign) (i : Interface) : Type 0 where
  pub state : State
  pub reached : Reached p state
  pub last : Bool
  pub on : Path state more (whole last i.name i.ops)
  pub read : (gs : List IdlSign) → run 0 start (p ++ gs) ≡ run (length p) state gs

length_one : (p : List IdlSign) (g : IdlSign) → length (p ++ g ∷ []) ≡ length p + 1
length_one p g = length-append p (g ∷ [])

extended : (s u : State) (more : List IdlSign) (i : Interface) (b : Bool) → Path u more (whole b i.name i.ops) → Extends u i.ops
extended s u more i b q = extends_path u (whole b i.name i.ops) more i.ops q refl

one_more : (p more : List IdlSign) (g : IdlSign) (i : Interface) (x : Stands p (g ∷ more) i) → (IsFinal g → ⊥) → ((kind : IdlKind) → Breaks i (length p) kind → ⊥)
    → (u : State) → Next x.state g u → Path u more (whole x.last i.name i.ops) → (b : Option IdlKind) → broken x.state g ≡ b → Stands (p ++ g ∷ []) more i
one_more p more g i x n sound u next rest None e = record {
  state = u;
  reached = record { path = onward start x.state u p g x.reached.path next; clean = clean_next x.state g u next e x.reached.clean };
  last = x.last;
  on = rest;
  read = λ gs.
      ap (λ (hs : List IdlSign). run 0 start hs) (append_assoc p (g ∷ []) gs) ∙ x.read (g ∷ gs)
      ∙ passed x.state u g (length p) gs (next_step x.state g u next) e (goes_on x.state g u next n)
      ∙ ap (λ (k : ℕ). run k u gs) (sym (length_one p g));
}
one_more p more g i x n sound u next rest (Some kind) e =
    absurd (sound kind (breaks_next x.state g u i (length p) kind next e x.reached.clean (size_at p x.state x.reached.path) (extended x.state u more i x.last rest)))

stands_on : (p q more : List IdlSign) (i : Interface) → Stands p (q ++ more) i → NoneFinal q → ((j : ℕ) (kind : IdlKind) → j < length p + length q → Breaks i j kind → ⊥) → Stands (p ++ q) more i
stands_on p [] more i x n sound = subst (λ (hs : List IdlSign). Stands hs more i) (sym (append-nil p)) x
stands_on p (g ∷ q) more i x n sound =
    let f = first_of x.state (whole x.last i.name i.ops) g (q ++ more) x.on in
    let next = one_more p (q ++ more) g i x n.0 (λ kind. sound (length p) kind (omega arith)) f.0 f.1 f.2 (broken x.state g) refl in
    subst (λ (hs : List IdlSign). Stands hs more i) (append_assoc p (g ∷ []) q)
    (stands_on (p ++ g ∷ []) q more i next n.1 (λ j kind lt. sound j kind (omega (arith, length_one p g))))

begins : (ts : List IdlSign) (i : Interface) → IsText ts i → Stands [] ts i
begins ts i t = let w = text_path ts i t in record { state = start; reached = record { path = here start; clean = tt }; last = w.0; on = w.1; read = λ gs. refl }

-- ---- the rule that counts at a place

-- this kind is the one, or counts after it
abbrev IsAfter : IdlKind → IdlKind → Type 0
IsAfter first kind = (kind ≡ first) ⊎ ComesBefore first kind

some_by : (b : Bool) (kind first : IdlKind) → (if b then Some kind else None) ≡ Some first → kind ≡ first
some_by true kind first e = cc
some_by false kind first e = absurd cc

clash_by : (d : Dir) (o : Option ParamKind) (first : IdlKind) → m.clash_rule d o ≡ Some first → BadCombination ≡ first
clash_by d None first e = absurd cc
clash_by d (Some k) first e = some_by (m.is_clash d k) BadCombination first e

after_name : (os : List Signature) (f : List ℕ) (ps : List Param) (k : ℕ) (kind first : IdlKind) (r : Option IdlKind) → NameRule os f r → r ≡ Some first → k ≡ 4 + size_of os → LastBreaks os (op_by f ps) k kind → IsAfter first kind
after_name os f ps k kind first r (name_many h) e z (last_many k' g l) = inl (let same : TooMany ≡ first = cc in same)
after_name os f ps k kind first r (name_many h) e z (last_params k' g l) = absurd (omega arith)
after_name os f ps k kind first r (name_many h) e z (last_twice k' j p g same l) = inr (subst (λ (x : IdlKind). ComesBefore x Twice) (let is : TooMany ≡ first = cc in is) many_twice)
after_name os f ps k kind first r (name_many h) e z (last_param k' a b p q g t w same l) = absurd (omega arith)
after_name os f ps k kind first r (name_many h) e z (last_word k' g l) = inr (subst (λ (x : IdlKind). ComesBefore x Reserved) (let is : TooMany ≡ first = cc in is) many_reserved)
after_name os f ps k kind first r (name_many h) e z (last_clash k' a p g d n l) = absurd (omega arith)
after_name os f ps k kind first r (name_twice h t) e z (last_many k' g l) = absurd (omega arith)
after_name os f ps k kind first r (name_twice h t) e z (last_params k' g l) = absurd (omega arith)
after_name os f ps k kind first r (name_twice h t) e z (last_twice k' j p g same l) = inl (let is : Twice ≡ first = cc in is)
after_name os f ps k kind first r (name_twice h t) e z (last_param k' a b p q g u w same l) = absurd (omega arith)
after_name os f ps k kind first r (name_twice h t) e z (last_word k' g l) = inr (subst (λ (x : IdlKind). ComesBefore x Reserved) (let is : Twice ≡ first = cc in is) twice_reserved)
after_name os f ps k kind first r (name_twice h t) e z (last_clash k' a p g d n l) = absurd (omega arith)
after_name os f ps k kind first r (name_word h t u) e z (last_many k' g l) = absurd (omega arith)
after_name os f ps k kind first r (name_word h t u) e z (last_params k' g l) = absurd (omega arith)
after_name os f ps k kind first r (name_word h t u) e z (last_twice k' j p g same l) = absurd (no_op f os j p t g same)
after_name os f ps k kind first r (name_word h t u) e z (last_param k' a b p q g v w same l) = absurd (omega arith)
after_name os f ps k kind first r (name_word h t u) e z (last_word k' g l) = inl (let is : Reserved ≡ first = cc in is)
after_name os f ps k kind first r (name_word h t u) e z (last_clash k' a p g d n l) = absurd (omega arith)
after_name os f ps k kind first r (name_fits h t u) e z b = absurd cc

-- at a direction, a kind and a parameter's name only one rule can be broken
at_direction : (os : List Signature) (o : Signature) (k n : ℕ) (kind : IdlKind) → k ≡ 6 + size_of os + 4 * n → LastBreaks os o k kind → kind ≡ TooMany
at_direction os o k n kind z (last_many k' g l) = absurd (omega arith)
at_direction os o k n kind z (last_params k' g l) = refl
at_direction os o k n kind z (last_twice k' j p g same l) = absurd (omega arith)
at_direction os o k n kind z (last_param k' a b p q g t w same l) = absurd (omega arith)
at_direction os o k n kind z (last_word k' g l) = absurd (omega arith)
at_direction os o k n kind z (last_clash k' a p g d m l) = absurd (omega arith)

at_its_kind : (os : List Signature) (o : Signature) (k n : ℕ) (kind : IdlKind) → k ≡ 7 + size_of os + 4 * n → LastBreaks os o k kind → kind ≡ BadCombination
at_its_kind os o k n kind z (last_many k' g l) = absurd (omega arith)
at_its_kind os o k n kind z (last_params k' g l) = absurd (omega arith)
at_its_kind os o k n kind z (last_twice k' j p g same l) = absurd (omega arith)
at_its_kind os o k n kind z (last_param k' a b p q g t w same l) = absurd (omega arith)
at_its_kind os o k n kind z (last_word k' g l) = absurd (omega arith)
at_its_kind os o k n kind z (last_clash k' a p g d m l) = refl

at_its_name : (os : List Signature) (o : Signature) (k n : ℕ) (kind : IdlKind) → k ≡ 8 + size_of os + 4 * n → LastBreaks os o k kind → kind ≡ Twice
at_its_name os o k n kind z (last_many k' g l) = absurd (omega arith)
at_its_name os o k n kind z (last_params k' g l) = absurd (omega arith)
at_its_name os o k n kind z (last_twice k' j p g same l) = absurd (omega arith)
at_its_name os o k n kind z (last_param k' a b p q g t w same l) = refl
at_its_name os o k n kind z (last_word k' g l) = absurd (omega arith)
at_its_name os o k n kind z (last_clash k' a p g d m l) = absurd (omega arith)

-- what reading answers comes before all that the sign breaks
comes_first : (s : State) (g : IdlSign) (u : State) (i : Interface) (n : ℕ) (kind first : IdlKind) → Next s g u → Clean s → Size s n → Extends u i.ops → broken s g ≡ Some first → Breaks i n kind → IsAfter first kind
unfolding broken
comes_first s g u i n kind first (to_paren x os f) c z h e b =
    after_name os f h.0 n kind first (name_rule os f) (name_is os f) e z (in_front i n kind os h.1 f h.0 h.2 c (omega arith) b)
comes_first s g u i n kind first (to_kind x os f ps d) c z h e b =
    let p = param_by d h.0 h.1 in
    let is = at_direction os (op_by f (ps ++ p ∷ h.2)) n (length ps) kind z (in_front i n kind os h.3 f (ps ++ p ∷ h.2) h.4 c.0 (omega (arith, length-append ps (p ∷ h.2))) b) in
    inl (is ∙ some_by (nat_le 16 (length ps)) TooMany first e)
comes_first s g u i n kind first (to_param x os f ps d k) c z h e b =
    let p = param_by d k h.0 in
    let is = at_its_kind os (op_by f (ps ++ p ∷ h.1)) n (length ps) kind z (in_front i n kind os h.2 f (ps ++ p ∷ h.1) h.3 c.0 (omega (arith, length-append ps (p ∷ h.1))) b) in
    inl (is ∙ clash_by d _ first e)
comes_first s g u i n kind first (to_sep x os f ps d k w) c z h e b =
    let p = param_by d k w in
    let all = (ps ++ p ∷ []) ++ h.0 in
    let is = at_its_name os (op_by f all) n (length ps) kind z (in_front i n kind os h.1 f all h.2 c.0 (omega (arith, length-append (ps ++ p ∷ []) h.0, length-append ps (p ∷ []))) b) in
    inl (is ∙ some_by (m.has_param w ps) Twice first e)
comes_first s g u i n kind first to_title c z h e b = absurd cc
comes_first s g u i n kind first (to_brace x) c z h e b = absurd cc
comes_first s g u i n kind first (to_ops x) c z h e b = absurd cc
comes_first s g u i n kind first (to_name x os) c z h e b = absurd cc
comes_first s g u i n kind first (to_closed x o os) c z h e b = absurd cc
comes_first s g u i n kind first (to_dir x os f) c z h e b = absurd cc
comes_first s g u i n kind first (to_more x os f ps) c z h e b = absurd cc
comes_first s g u i n kind first (to_semi x os f ps) c z h e b = absurd cc
comes_first s g u i n kind first (to_next x os f ps) c z h e b = absurd cc
comes_first s g u i n kind first (to_ended x os) c z h e b = absurd cc
comes_first s g u i n kind first (to_whole x os) c z h e b = absurd cc
comes_first s g u i n kind first (to_end x os) c z h e b = absurd cc

-- ---- at the place of a fault

-- with a sign that may stand the signs begin a text
may_begin : (p : List IdlSign) (g : IdlSign) (s u : State) → Path start p s → Next s g u → IsBeginning (p ++ g ∷ [])
may_begin p g s u q n =
    let e = reaches u in
    let path = joined start u (whole e.1 (ideal_name u) (ideal_ops u)) (p ++ g ∷ []) e.0 (onward start s u p g q n) e.2 in
    (e.0, ideal u, path_text ((p ++ g ∷ []) ++ e.0) e.1 (ideal_name u) (ideal_ops u) path)

-- what follows behind a sign in a text
behind_sign : (p more : List IdlSign) (g : IdlSign) (s : State) (i : Interface) → Path start p s → IsText ((p ++ g ∷ []) ++ more) i → (b : Bool) × (u : State) × Next s g u × Path u more (whole b i.name i.ops)
behind_sign p more g s i q t =
    let w = text_path ((p ++ g ∷ []) ++ more) i t in
    let f = first_of s (whole w.0 i.name i.ops) g more (path_left start s (whole w.0 i.name i.ops) p (g ∷ more) q (subst (λ (hs : List IdlSign). Path start hs (whole w.0 i.name i.ops)) (append_assoc p (g ∷ []) more) w.1)) in
    (w.0, f.0, f.1, f.2)

refused_here : (p gs : List IdlSign) (g : IdlSign) (s : State) (kind : IdlKind) → Path start p s → (IsBeginning (p ++ g ∷ []) → ⊥) → kind ≡ refused g → (o : Option State) → step s g ≡ o → run (length p) s (g ∷ gs) ≡ Fault (length p) kind
refused_here p gs g s kind q never is None e = stopped s g (length p) gs e ∙ ap (Fault (length p)) (sym is)
refused_here p gs g s kind q never is (Some u) e = absurd (never (may_begin p g s u q (step_next s g u e)))

broken_here : (p gs more : List IdlSign) (g : IdlSign) (s : State) (i : Interface) (kind : IdlKind) (last : Bool) (u : State) → Reached p s → Next s g u → Path u more (whole last i.name i.ops) → Breaks i (length p) kind
    → ((other : IdlKind) → ComesBefore other kind → Breaks i (length p) other → ⊥) → (o : Option IdlKind) → broken s g ≡ o → run (length p) s (g ∷ gs) ≡ Fault (length p) kind
broken_here p gs more g s i kind last u r n rest b first None e =
    let path = onward start s u p g r.path n in
    absurd (clean_front u i (length (p ++ g ∷ [])) (length p) kind (clean_next s g u n e r.clean) (few_at (p ++ g ∷ []) u path) (extended s u more i last rest) (omega (arith, length_one p g)) b)
broken_here p gs more g s i kind last u r n rest b first (Some one) e =
    let z = size_at p s r.path in
    let on = extended s u more i last rest in
    elim (comes_first s g u i (length p) kind one n r.clean z on e b) [
      | inl same ↦ broke s u g (length p) gs one (next_step s g u n) e ∙ ap (Fault (length p)) (sym same)
      | inr before ↦ absurd (first one before (breaks_next s g u i (length p) one n e r.clean z on))
    ]

split : (ts : List IdlSign) (k : ℕ) (g : IdlSign) → slice_get ts k ≡ Some g → (ts ≡ take k ts ++ g ∷ drop (suc k) ts) × (length (take k ts) ≡ k)
split [] k g e = absurd cc
split (t ∷ ts) zero g e = (ap (λ (x : IdlSign). x ∷ ts) (let is : t ≡ g = cc in is), refl)
split (t ∷ ts) (suc k) g e = let s = split ts k g e in (ap (λ (xs : List IdlSign). t ∷ xs) s.0, omega (arith, s.1))

taken : (p gs : List IdlSign) (g : IdlSign) → take (length p + 1) (p ++ g ∷ gs) ≡ p ++ g ∷ []
taken p gs g = ap (λ (hs : List IdlSign). take (length p + 1) hs) (sym (append_assoc p (g ∷ []) gs)) ∙ take_at (p ++ g ∷ []) gs (length p + 1) (length_one p g)

fault_read_at : (p gs : List IdlSign) (g : IdlSign) (kind : IdlKind) → Closing (p ++ g ∷ gs) → IsRight (p ++ g ∷ gs) (length p) → IsRefused (p ++ g ∷ gs) (length p) g kind ⊎ BreaksHere (p ++ g ∷ gs) (length p) kind
    → run 0 start (p ++ g ∷ gs) ≡ Fault (length p) kind
fault_read_at p gs g kind closing right why =
    let text = subst (λ (hs : List IdlSign). IsText (hs ++ right.more) right.interface) (take_at p (g ∷ gs) (length p) refl) right.text in
    let x = stands_on [] p right.more right.interface (begins (p ++ right.more) right.interface text) (none_final p gs g closing) (λ j e lt. right.sound j e (omega arith)) in
    x.read (g ∷ gs) ∙ elim why [
      | inl r ↦ refused_here p gs g x.state kind x.reached.path (λ b. r.no_beginning (subst IsBeginning (sym (taken p gs g)) b)) r.is (step x.state g) refl
      | inr h ↦
          let f = behind_sign p h.more g x.state h.interface x.reached.path (subst (λ (hs : List IdlSign). IsText (hs ++ h.more) h.interface) (taken p gs g) h.text) in
          broken_here p gs h.more g x.state h.interface kind f.0 f.1 x.reached f.2 f.3 h.breaks h.first (broken x.state g) refl
    ]

-- a fault is what reading says
fault_read : (ts : List IdlSign) (k : ℕ) (kind : IdlKind) → Closing ts → IsFaultAt ts k kind → run 0 start ts ≡ Fault k kind
fault_read ts k kind closing f =
    let s = split ts k f.sign f.here in
    let P : List IdlSign → ℕ → Type 0 = λ hs n. Closing hs → IsRight hs n → IsRefused hs n f.sign kind ⊎ BreaksHere hs n kind → run 0 start hs ≡ Fault n kind in
    subst (P ts) s.1 (subst (λ (hs : List IdlSign). P hs (length (take k ts))) (sym s.0) (fault_read_at (take k ts) (drop (suc k) ts) f.sign kind)) closing f.before f.why

-- ---- texts

same_line : (marks : List IdlMark) (k l : ℕ) (a b : IdlMark) → slice_get marks k ≡ Some a → slice_get marks l ≡ Some b → k ≡ l → a ≡ b
same_line marks k l a b g h e = let is : Some a ≡ Some b = sym g ∙ ap (λ (n : ℕ). slice_get marks n) e ∙ h in cc

both_wrong : (bytes : List ℕ) (marks others : List IdlMark) (k l : ℕ) (a b : IdlMark) (kind other : IdlKind) → Reads 1 bytes marks → Reads 1 bytes others → slice_get marks k ≡ Some a → slice_get others l ≡ Some b
    → IsFaultAt (signs_of marks) k kind → IsFaultAt (signs_of others) l other → (a.line ≡ b.line) × (kind ≡ other)
both_wrong bytes marks others k l a b kind other r q g h f e =
    let closing = marks_close 1 bytes marks r in
    let same : others ≡ marks = one_marks 1 bytes others marks q r in
    let one = fault_read (signs_of marks) k kind closing f in
    let two = fault_read (signs_of marks) l other closing (subst (λ (ms : List IdlMark). IsFaultAt (signs_of ms) l other) same e) in
    let is : Fault k kind ≡ Fault l other = sym one ∙ two in
    let place : k ≡ l = cc in
    (ap (λ (m : IdlMark). m.line) (same_line marks k l a b g (subst (λ (ms : List IdlMark). slice_get ms l ≡ Some b) same h) place), cc)

pub one_fault : OneFault
one_fault text line other kind others (too_long bytes long) (too_long bytes' more) = (refl, refl)
one_fault text line other kind others (too_long bytes long) (wrong bytes' marks k mark kind' short r g f none) = absurd (omega arith)
one_fault text line other kind others (wrong bytes marks k mark kind' short r g f none) (too_long bytes' long) = absurd (omega arith)
one_fault text line other kind others (wrong bytes marks k a kind' short r g f none) (wrong bytes' marks' l b kind'' short' q h e none') = both_wrong text marks marks' k l a b kind others r q g h f e
