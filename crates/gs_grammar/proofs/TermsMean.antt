-- What the reader's grammar says of expressions and arguments is what the productions say.
use Rattle.std.proofs.Common.{◌≡◌, ◌<◌, ◌≤◌, ◌+◌, ℕ, zero, suc, refl, sym, ◌∙◌, subst, List, [], ◌∷◌, Bool, true, false, nat_lt, ltb-true, arith, append-nil, append_assoc}
use Rattle.std.proofs.lemmas.Bool.{eqb-true}
use Rattle.std.specs.Prelude.{◌==◌}
use Rattle.gs_tree.specs.Program.{Term, two, Passed}
use Rattle.gs_tree.specs.Sign.{Sign, Mark, ident, number, string, atoi_, strcmp_, less_equal, greater_equal, equal_equal, not_equal, and_and, or_or, open_paren, close_paren, comma, plus, minus, star, slash, percent, less, greater, bang, ampersand}
use Rattle.gs_parse.specs.Symbols.{binding, operator}
use Rattle.gs_parse.specs.Notation.{Lined, a_term, terms, a_passed, all_passed, level, tail, more_terms, arg, more_args, args}
use Rattle.gs_parse.specs.Grammar.{rule, judged, height, operand_fit, begins_operand, operand, goes_on, joined, is_either, after_term, after_arg}
use Rattle.gs_parse.specs.Reading.{Limits, limited, unlimited, Accepts}
use Rattle.gs_grammar.specs.Signs.{at, MayBeOpen}
use Rattle.gs_grammar.specs.Expressions.{a_number, a_string, a_name, an_atoi, a_strcmp, a_group, negation, inversion, a_prim, a_unary, product, quotient, remainder, a_prod, addition, difference, a_sum, is_less, is_at_most, is_greater, is_at_least, a_rel, is_equal, is_other, an_eq, conjunction, IsExpr, an_and, disjunction}
use Rattle.gs_grammar.specs.Statements.{no_expr, one_expr, IsArg, address, value, no_arg, one_arg, some_args}
use Rattle.gs_grammar.proofs.Saying.{Within}
use Rattle.gs_grammar.proofs.TermsSaid.{height_some}
use Rattle.gs_grammar.proofs.Exact.{refused, stands, within}
use Rattle.gs_grammar.proofs.Meaning.{Level, AtLevel, TermsUp, OneArg, ArgsUp, AllArgs, Means, Keeping, done, sign_, choice_, part_, word_, may_, name_}

-- ---- expressions

-- there is room where a limit was kept
pub below : (l : Limits) (b : Bool) (n : ℕ) → Accepts l (judged b (nat_lt n 64)) → Within l (suc n)
below l b n a = λ q. let lt : n < 64 = ltb-true n 64 (within l b (nat_lt n 64) a q) in omega arith

opened : (l : Limits) (groups : ℕ) → Accepts l (judged true (nat_lt groups 64)) → MayBeOpen l (groups + 1)
opened limited groups a = omega (arith, below limited true groups a refl)
opened unlimited groups a = tt

-- a whole expression as an operand's part
pub an_expr : {l : Limits} {d g : ℕ} {ts us : List Mark} {v : Lined} → AtLevel l 6 d g ts v us → IsExpr l g ts v.term us
an_expr {l} {d} {g} {ts} {us} {v} h = h.says

-- an operand after its first sign
keep_operand : (l : Limits) (d g line : ℕ) (s : Sign) → Accepts l (operand_fit d g s) →
    Keeping l a_term (operand d g (at line s) s) (λ ts v us. Within l (suc d) → AtLevel l zero d g (at line s ∷ ts) v us)
keep_operand l d g line (number v) a = done (λ end room. record { says = a_prim a_number; line_is = refl; room = λ q. omega (arith, room q) })
keep_operand l d g line (string s) a = done (λ end room. record { says = a_prim a_string; line_is = refl; room = λ q. omega (arith, room q) })
keep_operand l d g line (ident s) a = done (λ end room. record { says = a_prim (a_name {n = record { line = line; text = s }}); line_is = refl; room = λ q. omega (arith, room q) })
keep_operand l d g line minus a =
    part_ (λ e. done (λ end ts he room.
    let h = he (below l true (d + 1) a) in
    record { says = negation h.says; line_is = refl; room = λ q. omega (arith, h.room q) }))
keep_operand l d g line bang a =
    part_ (λ e. done (λ end ts he room.
    let h = he (below l true (d + 1) a) in
    record { says = inversion h.says; line_is = refl; room = λ q. omega (arith, h.room q) }))
keep_operand l d g line atoi_ a =
    word_ open_paren refl (λ b. part_ (λ e. word_ close_paren refl (λ c. done (λ end ts he room.
    let h = he (below l true (d + 1) a) in
    record { says = a_prim (an_atoi h.says); line_is = refl; room = λ q. omega (arith, h.room q) }))))
keep_operand l d g line strcmp_ a =
    word_ open_paren refl (λ b. part_ (λ e. word_ comma refl (λ c. part_ (λ f. word_ close_paren refl (λ i. done (λ end us hf ts he room.
    let h = he (below l true (d + 1) a) in
    let k = hf (below l true (d + 1) a) in
    record { says = a_prim (a_strcmp h.says k.says); line_is = refl; room = λ q. omega (arith, h.room q, k.room q) }))))))
keep_operand l d g line open_paren a =
    part_ (λ e. word_ close_paren refl (λ c. done (λ end ts he room.
    let h = he room in
    record { says = a_prim (a_group (opened l g a) h.says); line_is = refl; room = h.room })))
keep_operand l d g line _ a = absurd (refused l a)

-- a term of a level is one of the next
lifts : (l : Limits) (m d g : ℕ) (ts : List Mark) (v : Lined) (us : List Mark) → AtLevel l m d g ts v us → AtLevel l (suc m) d g ts v us
lifts l zero d g ts v us h = record { says = a_unary h.says; line_is = h.line_is; room = h.room }
lifts l (suc zero) d g ts v us h = record { says = a_prod h.says; line_is = h.line_is; room = h.room }
lifts l (suc (suc zero)) d g ts v us h = record { says = a_sum h.says; line_is = h.line_is; room = h.room }
lifts l (suc (suc (suc zero))) d g ts v us h = record { says = a_rel h.says; line_is = h.line_is; room = h.room }
lifts l (suc (suc (suc (suc zero)))) d g ts v us h = record { says = an_eq h.says; line_is = h.line_is; room = h.room }
lifts l (suc (suc (suc (suc (suc zero))))) d g ts v us h = record { says = an_and h.says; line_is = h.line_is; room = h.room }
lifts l (suc (suc (suc (suc (suc (suc m)))))) d g ts v us h = record { says = h.says; line_is = h.line_is; room = h.room }

-- two terms and an operator between them, at its level
abbrev Joins : Limits → (m : ℕ) → Sign → Type 0
Joins l m s = (g a : ℕ) (ts us rest : List Mark) (e f : Term) → Level l (suc m) g ts e (at a s ∷ us) → Level l m g us f rest → Level l (suc m) g ts (two (operator s) e f) rest

joins_prod : (l : Limits) (s : Sign) → binding s ≡ 1 → Joins l 0 s
joins_prod l star e = λ g a ts us rest p q h k. product h k
joins_prod l slash e = λ g a ts us rest p q h k. quotient h k
joins_prod l percent e = λ g a ts us rest p q h k. remainder h k
joins_prod l _ e = λ g a ts us rest p q h k. absurd (omega (arith, e))

joins_sum : (l : Limits) (s : Sign) → binding s ≡ 2 → Joins l 1 s
joins_sum l plus e = λ g a ts us rest p q h k. addition h k
joins_sum l minus e = λ g a ts us rest p q h k. difference h k
joins_sum l _ e = λ g a ts us rest p q h k. absurd (omega (arith, e))

joins_rel : (l : Limits) (s : Sign) → binding s ≡ 3 → Joins l 2 s
joins_rel l less e = λ g a ts us rest p q h k. is_less h k
joins_rel l less_equal e = λ g a ts us rest p q h k. is_at_most h k
joins_rel l greater e = λ g a ts us rest p q h k. is_greater h k
joins_rel l greater_equal e = λ g a ts us rest p q h k. is_at_least h k
joins_rel l _ e = λ g a ts us rest p q h k. absurd (omega (arith, e))

joins_eq : (l : Limits) (s : Sign) → binding s ≡ 4 → Joins l 3 s
joins_eq l equal_equal e = λ g a ts us rest p q h k. is_equal h k
joins_eq l not_equal e = λ g a ts us rest p q h k. is_other h k
joins_eq l _ e = λ g a ts us rest p q h k. absurd (omega (arith, e))

joins_and : (l : Limits) (s : Sign) → binding s ≡ 5 → Joins l 4 s
joins_and l and_and e = λ g a ts us rest p q h k. conjunction h k
joins_and l _ e = λ g a ts us rest p q h k. absurd (omega (arith, e))

joins_expr : (l : Limits) (s : Sign) → binding s ≡ 6 → Joins l 5 s
joins_expr l or_or e = λ g a ts us rest p q h k. disjunction h k
joins_expr l _ e = λ g a ts us rest p q h k. absurd (omega (arith, e))

-- no sign binds looser
binds_within : (s : Sign) → binding s ≤ 6
binds_within or_or = omega arith
binds_within _ = omega arith

joins : (l : Limits) (m : ℕ) (s : Sign) → binding s ≡ suc m → Joins l m s
joins l zero s e = joins_prod l s e
joins l (suc zero) s e = joins_sum l s e
joins l (suc (suc zero)) s e = joins_rel l s e
joins l (suc (suc (suc zero))) s e = joins_eq l s e
joins l (suc (suc (suc (suc zero)))) s e = joins_and l s e
joins l (suc (suc (suc (suc (suc zero))))) s e = joins_expr l s e
joins l (suc (suc (suc (suc (suc (suc m)))))) s e = λ g a ts us rest p q h k. absurd (omega (arith, e, binds_within s))

-- an operator was taken
operator_taken : (l : Limits) (m d : ℕ) (left : Term) (x : Mark) → Accepts l (goes_on (suc m) d left x) → (binding x.sign ≡ suc m) × Within l (suc (d + height left))
unfolding goes_on
operator_taken l m d left x a =
    (eqb-true (binding x.sign) (suc m) (stands l (binding x.sign == suc m) (nat_lt (d + height left) 64) a), below l (binding x.sign == suc m) (d + height left) a)

two_at : (l : Limits) (m d g : ℕ) (x : Mark) (start ts mid : List Mark) (a b : Lined) → binding x.sign ≡ suc m → Within l (suc (d + height a.term)) → AtLevel l (suc m) d g start a (x ∷ ts) →
    AtLevel l m (d + 1) g ts b mid → AtLevel l (suc m) d g start (joined x a b) mid
two_at l m d g x start ts mid a b e w h k = record {
  says = joins l m x.sign e g x.line start ts mid a.term b.term h.says k.says;
  line_is = h.line_is;
  room = λ q. omega (arith, w q, k.room q);
}

pub keep_level : (l : Limits) (m d g : ℕ) → Keeping l a_term (rule (level m d g)) (Means l (level m d g))
unfolding begins_operand
keep_level l zero d g = sign_ (λ x a. keep_operand l d g x.line x.sign a)
keep_level l (suc m) d g = part_ {n = level m d g} (λ v. part_ {n = tail m d g v} (λ t. done (λ end mid ht ts hv room. ht ts (lifts l m d g ts v mid (hv room)))))

pub keep_tail : (l : Limits) (m d g : ℕ) (a : Lined) → Keeping l a_term (rule (tail m d g a)) (Means l (tail m d g a))
keep_tail l m d g a =
    choice_ (λ x acc. part_ {n = level m (d + 1) g} (λ b. part_ {n = tail m d g (joined x a b)} (λ t. done (λ end mid ht ts hb start ha.
    let taken = operator_taken l m d a.term x acc in
    ht start (two_at l m d g x start ts mid a b taken.0 taken.1 ha (hb (λ q. omega (arith, taken.1 q, height_some a.term))))))))
    (done (λ end free start ha. ha))

-- ---- values in parentheses

-- room for an expression that stands in no other
pub top : (l : Limits) → Within l 1
top l = λ q. omega arith

keep_after_term : (l : Limits) (so_far : List Term) (line : ℕ) (s : Sign) → Accepts l (is_either comma close_paren (at line s)) →
    Keeping l terms (after_term so_far s) (λ ts all us. TermsUp l so_far (at line s ∷ ts) all us)
unfolding is_either
keep_after_term l so_far line comma a =
    part_ (λ e. part_ (λ all. done (λ end mid hm ts he.
    let h = he (top l) in
    record {
      line = hm.line;
      more = e.term ∷ hm.more;
      says = one_expr h.says hm.says;
      all_is = hm.all_is ∙ append_assoc so_far (e.term ∷ []) hm.more;
      fits = λ q. (h.room q, hm.fits q);
    })))
keep_after_term l so_far line close_paren a =
    done (λ end. record { line = line; more = []; says = no_expr; all_is = sym (append-nil so_far); fits = λ q. tt })
keep_after_term l so_far line _ a = absurd (refused l a)

pub keep_more_terms : (l : Limits) (so_far : List Term) → Keeping l terms (rule (more_terms so_far)) (Means l (more_terms so_far))
keep_more_terms l so_far = sign_ (λ x a. keep_after_term l so_far x.line x.sign a)

-- the line of an argument is that of its first sign
value_at : (l : Limits) (ts end : List Mark) (e : Lined) → AtLevel l 6 0 0 ts e end → IsArg l ts (record { line = e.line; by_address = false; value = e.term }) end
value_at l ts end e h = subst (λ (z : ℕ). IsArg l ts (record { line = z; by_address = false; value = e.term }) end) (sym h.line_is) (value (an_expr h))

pub keep_arg : (l : Limits) → Keeping l a_passed (rule arg) (Means l arg)
keep_arg l =
    may_ ampersand refl (λ a. name_ (λ n. done (λ end. record { says = address; fits = λ q. tt })))
    (part_ (λ e. done (λ end ts he free. let h = he (top l) in record { says = value_at l ts end e h; fits = h.room })))

keep_after_arg : (l : Limits) (so_far : List Passed) (line : ℕ) (s : Sign) → Accepts l (is_either comma close_paren (at line s)) →
    Keeping l all_passed (after_arg so_far s) (λ ts all us. ArgsUp l so_far (at line s ∷ ts) all us)
unfolding is_either
keep_after_arg l so_far line comma a =
    part_ (λ p. part_ (λ all. done (λ end mid hm ts hp. record {
      line = hm.line;
      more = p ∷ hm.more;
      says = one_arg hp.says hm.says;
      all_is = hm.all_is ∙ append_assoc so_far (p ∷ []) hm.more;
      fits = λ q. (hp.fits q, hm.fits q);
    })))
keep_after_arg l so_far line close_paren a =
    done (λ end. record { line = line; more = []; says = no_arg; all_is = sym (append-nil so_far); fits = λ q. tt })
keep_after_arg l so_far line _ a = absurd (refused l a)

pub keep_more_args : (l : Limits) (so_far : List Passed) → Keeping l all_passed (rule (more_args so_far)) (Means l (more_args so_far))
keep_more_args l so_far = sign_ (λ x a. keep_after_arg l so_far x.line x.sign a)

-- all the arguments, from the first on
args_up : (l : Limits) (ts mid : List Mark) (p : Passed) (all : List Passed) (end : List Mark) → OneArg l ts p mid → ArgsUp l (p ∷ []) mid all end → AllArgs l ts all end
args_up l ts mid p all end hp hm =
    subst (λ (z : List Passed). AllArgs l ts z end) (sym hm.all_is) (record { line = hm.line; says = some_args hp.says hm.says; fits = λ q. (hp.fits q, hm.fits q) })

pub keep_args : (l : Limits) → Keeping l all_passed (rule args) (Means l args)
keep_args l = part_ (λ p. part_ (λ all. done (λ end mid hm ts hp. args_up l ts mid p all end hp hm)))
