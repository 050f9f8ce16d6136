-- Worked examples of the meaning: small programs with their questions, step by step.
use Rattle.std.proofs.Common.{◌≡◌, ℕ, List, [], ◌∷◌, Option, Some, None, refl}
use Rattle.std.specs.Prelude.{pos, codes, false}
use Rattle.gs_idl.specs.Interface.{Signature}
use Rattle.gs_idl.specs.declared.idl.Dir.TheVariants.{Input, Both, Output}
use Rattle.gs_idl.specs.declared.idl.ParamKind.TheVariants as kind
use Rattle.gs_tree.specs.declared.tree.Op.TheVariants.{Lt, Add, Sub, Div}
use Rattle.gs_tree.specs.declared.tree.Mode.TheVariants.{W, A}
use Rattle.gs_tree.specs.declared.tree.VarKind.{VarKind}
use Rattle.gs_tree.specs.declared.tree.VarKind.TheVariants as var_kind
use Rattle.gs_tree.specs.Program.{Name, Term, num, lit, var, two, neg, Setting, Passed, set, while, call, open_file, print_file, close_file, print, Codes, none, one}
use Rattle.gs_types.specs.declared.settings.FaultKind.TheVariants.{Overflow, OwnText, FileOpen}
use Rattle.gs_talk.specs.declared.question.CallArg.TheVariants as arg
use Rattle.gs_talk.specs.declared.question.Question.{Question}
use Rattle.gs_talk.specs.declared.question.Question.TheVariants.{Call, Use, CloseFile, End, Fault, FuelOut}
use Rattle.gs_talk.specs.declared.question.Answer.TheVariants.{Went, Absent}
use Rattle.gs_types.specs.NameTest.{is_name}
use Rattle.gs_talk.specs.Texts.{formatted}
use Rattle.gs_talk.specs.Talk.{Given, Outcome, Goes, Asks, talk, turns}

asked : Outcome → Option Question
asked (Goes n s rest) = None
asked (Asks q s) = Some q

named : List ℕ → Name
named text = record { line = 1; text = text }

i : Term
i = var (named (codes "i"))

n : Term
n = var (named (codes "n"))

file : List ℕ → Term
file name = lit 1 name

passed : Term → Passed
passed t = record { line = 1; by_address = false; value = t }

-- join(in File a, in File b, out File c); grow(inout File f, in string s); count(in File f, out int n)
kit : List Signature
kit =
    record { name = codes "join"; params = record { dir = Input; kind = kind.File; name = codes "a" } ∷ record { dir = Input; kind = kind.File; name = codes "b" } ∷ record { dir = Output; kind = kind.File; name = codes "c" } ∷ [] }
    ∷ record { name = codes "grow"; params = record { dir = Both; kind = kind.File; name = codes "f" } ∷ record { dir = Input; kind = kind.Str; name = codes "s" } ∷ [] }
    ∷ record { name = codes "count"; params = record { dir = Input; kind = kind.File; name = codes "f" } ∷ record { dir = Output; kind = kind.Int; name = codes "n" } ∷ [] }
    ∷ []

given : List (Name × VarKind) → List Setting → Codes → Given
given vars first body = record { idl_name = codes "k.idl"; program_name = codes "p.c"; ops = kit; program = record { vars = vars; first = first; body = body; off = 1 } }

-- ---- while (i < 3) { i = i + 1; } takes nine steps

loop : Given
loop = given ((named (codes "i"), var_kind.Int) ∷ []) [] (one (while 1 (two Lt i (num 1 (pos 3))) (one (set (record { to = named (codes "i"); value = two Add i (num 1 (pos 1)) })) none)) none)

nine_steps_are_enough : asked (talk loop 9 []) ≡ Some End
unfolding turns loop given kit i named asked
nine_steps_are_enough = refl

eight_steps_are_not : asked (talk loop 8 []) ≡ Some FuelOut
unfolding turns loop given kit i named asked
eight_steps_are_not = refl

-- ---- x = -9223372036854775807 - 1; y = x / -1

least : Given
least = given ((named (codes "x"), var_kind.Int) ∷ (named (codes "y"), var_kind.Int) ∷ [])
    (record { to = named (codes "x"); value = two Sub (neg (num 1 (pos 9223372036854775807))) (num 1 (pos 1)) }
    ∷ record { to = named (codes "y"); value = two Div (var (named (codes "x"))) (neg (num 1 (pos 1))) } ∷ []) none

no_quotient_of_the_least : asked (talk least 100 []) ≡ Some (Fault 1 Overflow)
unfolding least given kit named asked
no_quotient_of_the_least = refl

-- ---- grow("F", "1"); count("F", n); printf("%d\n", n);

counting : Given
counting = given ((named (codes "n"), var_kind.Int) ∷ []) []
    (one (call (named (codes "grow")) (passed (file (codes "F")) ∷ passed (lit 1 (codes "1")) ∷ []))
    (one (call (named (codes "count")) (passed (file (codes "F")) ∷ passed n ∷ []))
    (one (print 1 (record { line = 1; text = codes "%d\n" }) (n ∷ [])) none)))

first_call : asked (talk counting 100 []) ≡ Some (Call 1 1 (arg.File (codes "F") ∷ arg.Str (codes "1") ∷ []))
unfolding counting given kit n named file passed asked is_name
first_call = refl

second_call : asked (talk counting 100 (Went ∷ [])) ≡ Some (Call 2 1 (arg.File (codes "F") ∷ arg.OutInt ∷ []))
unfolding counting given kit n named file passed asked is_name
second_call = refl

number_is_waited_for_where_it_is_printed : asked (talk counting 100 (Went ∷ Went ∷ [])) ≡ Some (Use 2 2)
unfolding counting given kit n named file passed asked is_name formatted
number_is_waited_for_where_it_is_printed = refl

-- ---- f = GS_FOpen("Q", A); fprintf(f, "%s\n", "7"); GS_FClose(f);

appending : Given
appending = given ((named (codes "f"), var_kind.Handle) ∷ []) []
    (one (open_file 1 (named (codes "f")) (file (codes "Q")) A)
    (one (print_file 1 (named (codes "f")) (record { line = 1; text = codes "%s\n" }) (lit 1 (codes "7") ∷ []))
    (one (close_file 1 (named (codes "f"))) none)))

an_absent_file_is_empty : asked (talk appending 100 (Absent ∷ [])) ≡ Some (CloseFile (codes "Q") (codes "7\n"))
unfolding appending given kit named file asked is_name formatted
an_absent_file_is_empty = refl

-- ---- f = GS_FOpen("Q", W); count("Q", n);

open_to_write : Given
open_to_write = given ((named (codes "f"), var_kind.Handle) ∷ (named (codes "n"), var_kind.Int) ∷ []) []
    (one (open_file 1 (named (codes "f")) (file (codes "Q")) W) (one (call (named (codes "count")) (passed (file (codes "Q")) ∷ passed n ∷ [])) none))

no_call_of_a_file_that_is_written : asked (talk open_to_write 100 []) ≡ Some (Fault 1 FileOpen)
unfolding open_to_write given kit n named file passed asked is_name
no_call_of_a_file_that_is_written = refl

-- ---- grow("k.idl", "x");

own_text : Given
own_text = given [] [] (one (call (named (codes "grow")) (passed (file (codes "k.idl")) ∷ passed (lit 1 (codes "x")) ∷ [])) none)

own_texts_are_not_written : asked (talk own_text 100 []) ≡ Some (Fault 1 OwnText)
unfolding own_text given kit named file passed asked is_name
own_texts_are_not_written = refl
