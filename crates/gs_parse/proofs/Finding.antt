-- What a text was read as, by what its tokens were.
use Rattle.std.proofs.Common.{◌≡◌, ◌<◌, ◌≤◌, ℕ, zero, suc, refl, sym, ap, ◌∙◌, subst, List, [], ◌∷◌, Ok, Err, drop, length, arith, drop_of_length-le}
use Rattle.std.proofs.lemmas.List.{length-map}
use Rattle.gs_tree.specs.Cut.{marks_in, lexemes_of, text_of}
use Rattle.gs_tree.specs.Lexicon.{IsLexed}
use Rattle.gs_tree.specs.Sign.{Mark}
use Rattle.gs_tree.specs.Signs.{mark_of}
use Rattle.gs_tree.specs.View.{program_of}
use Rattle.gs_tree.specs.declared.list.Tokens.{Tokens}
use Rattle.gs_tree.specs.declared.tree.Tree.{Tree}
use Rattle.gs_parse.specs.declared.fault.ParseErr.TheVariants.{At, NoMemory}
use Rattle.gs_parse.specs.declared.fault.ParseKind.{ParseKind}
use Rattle.gs_parse.specs.declared.fault.ParseKind.TheVariants.{TooLong, TooDeep}
use Rattle.gs_parse.specs.declared.stop.Stop.{Stop}
use Rattle.gs_parse.specs.declared.stop.Stop.TheVariants as stop
use Rattle.gs_parse.specs.Notation.{a_program, program, unfit, too_deep}
use Rattle.gs_parse.specs.Grammar.{rule}
use Rattle.gs_parse.specs.Reading.{limited, Says, Stops}
use Rattle.gs_parse.specs.Reads.{left, Reads}
use Rattle.gs_parse.specs.Faulty.{IsReadAs, IsTextFault, too_long, at_sign, IsKindAt, deep, unfit as no_reading, line_from, kind_from}
use Rattle.gs_parse.proofs.Faults.{stop_fault, rest_fault, unfit_nowhere, rest_nowhere, deep_beginning}

-- a place that is no later than the end
record Place (ts : List Mark) (k : ℕ) : Type 0 where
  pub at : ℕ
  pub within : at ≤ length ts
  pub same : drop k ts ≡ drop at ts

place_of : (ts : List Mark) (k : ℕ) → Place ts k
place_of [] zero = record { at = 0; within = omega (arith); same = refl }
place_of [] (suc k) = record { at = 0; within = omega (arith); same = refl }
place_of (x ∷ ts) zero = record { at = 0; within = omega (arith); same = refl }
place_of (x ∷ ts) (suc k) = let p = place_of ts k in record { at = suc p.at; within = omega (arith, p.within); same = p.same }

faulty : (t : Tokens) (k line : ℕ) (kind : ParseKind) (p : Place (marks_in t) k) → length (text_of t) ≤ 65536 → IsLexed (text_of t) (lexemes_of t) → line ≡ line_from (text_of t) (drop k (marks_in t)) → (IsTextFault (text_of t) (line_from (text_of t) (drop p.at (marks_in t))) kind) → IsTextFault (text_of t) line kind
faulty t k line kind p short cut l f = subst (λ (n : ℕ). IsTextFault (text_of t) n kind) (sym (l ∙ ap (line_from (text_of t)) p.same)) f

pub read_whole : (t : Tokens) (k : ℕ) (tree : Tree) → length (text_of t) ≤ 65536 → IsLexed (text_of t) (lexemes_of t) → length (lexemes_of t) ≤ k → Reads a_program (rule program) program_of (left t 0) (Ok tree) (left t k) → IsReadAs (text_of t) (Ok tree)
unfolding IsReadAs Reads left
read_whole t k tree short cut le r =
    let past : drop k (marks_in t) ≡ [] = drop_of_length-le (marks_in t) (omega (arith, le, length-map (lexemes_of t) (mark_of t.text.items))) in
    record { short = short; tokens = lexemes_of t; cut = cut; says = subst (λ (z : List Mark). Says limited a_program (rule program) (marks_in t) (program_of tree) z) past r }

pub read_more : (t : Tokens) (k line : ℕ) (kind : ParseKind) (tree : Tree) → length (text_of t) ≤ 65536 → IsLexed (text_of t) (lexemes_of t) → k < length (lexemes_of t) → Reads a_program (rule program) program_of (left t 0) (Ok tree) (left t k) → line ≡ line_from (text_of t) (left t k) → kind ≡ kind_from (left t k) → IsReadAs (text_of t) (Err (At line kind))
unfolding IsReadAs Reads left
read_more t k line kind tree short cut lt r l e =
    let within : k < length (marks_in t) = omega (arith, lt, length-map (lexemes_of t) (mark_of t.text.items)) in
    subst (λ (n : ℕ). IsTextFault (text_of t) n kind) (sym l) (at_sign (lexemes_of t) k kind short cut (rest_fault (marks_in t) k (program_of tree) within r)
    (subst (λ (z : ParseKind). IsKindAt (marks_in t) k z) (sym e) (no_reading (λ lt2. rest_nowhere (marks_in t) k (program_of tree) within r))))

pub read_unfit : (t : Tokens) (k line : ℕ) (kind : ParseKind) (why : Stop) → why ≡ stop.Unfit → length (text_of t) ≤ 65536 → IsLexed (text_of t) (lexemes_of t) → Reads {A = Tree} a_program (rule program) program_of (left t 0) (Err why) (left t k) → line ≡ line_from (text_of t) (left t k) → kind ≡ kind_from (left t k) → IsReadAs (text_of t) (Err (At line kind))
unfolding IsReadAs Reads left
read_unfit t k line kind why is short cut r0 l e =
    let r : Stops limited a_program (rule program) (marks_in t) unfit (drop k (marks_in t)) = subst (λ (z : Stop). Reads {A = Tree} a_program (rule program) program_of (marks_in t) (Err z) (drop k (marks_in t))) is r0 in
    let p = place_of (marks_in t) k in
    let s : Stops limited a_program (rule program) (marks_in t) unfit (drop p.at (marks_in t)) = subst (λ (z : List Mark). Stops limited a_program (rule program) (marks_in t) unfit z) p.same r in
    faulty t k line kind p short cut l (at_sign (lexemes_of t) p.at kind short cut (stop_fault (marks_in t) p.at unfit p.within s)
    (subst (λ (z : ParseKind). IsKindAt (marks_in t) p.at z) (sym (e ∙ ap kind_from p.same)) (no_reading (λ lt. unfit_nowhere (marks_in t) p.at lt s))))

pub read_deep : (t : Tokens) (k line : ℕ) (why : Stop) → why ≡ stop.TooDeep → length (text_of t) ≤ 65536 → IsLexed (text_of t) (lexemes_of t) → Reads {A = Tree} a_program (rule program) program_of (left t 0) (Err why) (left t k) → line ≡ line_from (text_of t) (left t k) → IsReadAs (text_of t) (Err (At line TooDeep))
unfolding IsReadAs Reads left
read_deep t k line why is short cut r0 l =
    let r : Stops limited a_program (rule program) (marks_in t) too_deep (drop k (marks_in t)) = subst (λ (z : Stop). Reads {A = Tree} a_program (rule program) program_of (marks_in t) (Err z) (drop k (marks_in t))) is r0 in
    let p = place_of (marks_in t) k in
    let s : Stops limited a_program (rule program) (marks_in t) too_deep (drop p.at (marks_in t)) = subst (λ (z : List Mark). Stops limited a_program (rule program) (marks_in t) too_deep z) p.same r in
    let d = deep_beginning (marks_in t) p.at p.within s in
    faulty t k line TooDeep p short cut l (at_sign (lexemes_of t) p.at TooDeep short cut (stop_fault (marks_in t) p.at too_deep p.within s) (deep d.0 d.1))

pub read_long : (text : List ℕ) → 65536 < length text → IsReadAs text (Err (At 0 TooLong))
unfolding IsReadAs
read_long text lt = too_long lt

pub read_no_memory : (text : List ℕ) → IsReadAs text (Err NoMemory)
unfolding IsReadAs
read_no_memory text = tt
