-- A printed interface is read back.
use Rattle.std.proofs.Common.{◌≡◌, ℕ, ◌+◌, ◌<◌, ◌≤◌, Bool, true, false, cond, List, [], ◌∷◌, ◌++◌, length, take, drop, refl, sym, ap, subst, ◌∙◌, arith, append_assoc}
use Rattle.std.proofs.lemmas.List.{take_at, drop_at}
use Rattle.std.specs.List.{All, AllPass, list_all, prefix_len}
use Rattle.std.proofs.lemmas.List.Sums.{AllPass-from_list_all}
use Rattle.std.proofs.lemmas.List.Elements.{All-head, All-tail}
use lib.Chars.{codes}
use Rattle.gs_idl.specs.Interface.{Param, Signature, Interface}
use Rattle.gs_idl.specs.Word.{is_word_byte}
use Rattle.gs_idl.specs.Lexicon.{IdlSign, word, symbol, finish, IdlMark, mark, a_word, begins, front, behind, Reads, finished, blank, feed, worded, signed}
use Rattle.gs_idl.specs.Grammar.{dir_word, kind_word, signs_of, param_signs, params_signs, op_signs, ops_signs, interface_signs, IsFilled, IsText, plain, ended}
use Rattle.gs_idl.specs.Printed.{param_text, more_text, params_text, op_text, ops_text, printed}
use Rattle.gs_idl.specs.Laws.{PrintsBack}
use Rattle.gs_idl.specs.declared.idl.Dir.{Dir}
use Rattle.gs_idl.specs.declared.idl.Dir.TheVariants.{Input, Both, Output}
use Rattle.gs_idl.specs.declared.idl.ParamKind.{ParamKind}
use Rattle.gs_idl.specs.declared.idl.ParamKind.TheVariants.{File, Int, Str}
use Rattle.gs_idl.specs.declared.token.Symbol.{Symbol}
use Rattle.gs_idl.specs.declared.token.Symbol.TheVariants.{OpenBrace, CloseBrace, OpenParen, CloseParen, Comma, Semicolon}
use Rattle.gs_idl.proofs.Naming.{IsName, ParamsNamed, OpsNamed, Named, named}

-- bytes on this line are these signs
abbrev Lexes : ℕ → List ℕ → List IdlSign → Type 0
Lexes line bytes gs = (ms : List IdlMark) × Reads line bytes ms × (signs_of ms ≡ gs)

-- no byte of a word stands at the front
abbrev Stops : List ℕ → Type 0
Stops [] = Unit {0}
Stops (b ∷ rest) = is_word_byte b ≡ false

run_by : (rest : List ℕ) → Stops rest → prefix_len is_word_byte rest ≡ 0
run_by [] h = refl
run_by (b ∷ rest) h = ap (λ (t : Bool). cond t (1 + prefix_len is_word_byte rest) 0) h

run_of : (us rest : List ℕ) → AllPass is_word_byte us → Stops rest → prefix_len is_word_byte (us ++ rest) ≡ length us
run_of [] rest h s = run_by rest s
run_of (u ∷ us) rest h s =
    ap (λ (t : Bool). cond t (1 + prefix_len is_word_byte (us ++ rest)) 0) (All-head (λ y. is_word_byte y ≡ true) u us h) ∙ (let rec = run_of us rest (All-tail (λ y. is_word_byte y ≡ true) u us h) s in omega arith)

word_lexes : (line : ℕ) (w rest : List ℕ) (gs : List IdlSign) → IsName w → Stops rest → Lexes line rest gs → Lexes line (w ++ rest) (word w ∷ gs)
word_lexes line w rest gs n s l =
    let run = run_of n.tail rest n.each s in
    let front_is : front is_word_byte (n.tail ++ rest) ≡ n.tail = ap (λ (k : ℕ). take k (n.tail ++ rest)) run ∙ take_at n.tail rest (length n.tail) refl in
    let behind_is : behind is_word_byte (n.tail ++ rest) ≡ rest = ap (λ (k : ℕ). drop k (n.tail ++ rest)) run ∙ drop_at n.tail rest (length n.tail) refl in
    let here : Reads line (n.head ∷ (n.tail ++ rest)) (mark line (word (n.head ∷ front is_word_byte (n.tail ++ rest))) ∷ l.0) =
    worded line n.head (n.tail ++ rest) l.0 (n.first (n.tail ++ rest)) (subst (λ (us : List ℕ). length us < 64) (sym front_is) n.short) (subst (λ (us : List ℕ). Reads line us l.0) (sym behind_is) l.1) in
    let there : Reads line (n.head ∷ (n.tail ++ rest)) (mark line (word (n.head ∷ n.tail)) ∷ l.0) = subst (λ (us : List ℕ). Reads line (n.head ∷ (n.tail ++ rest)) (mark line (word (n.head ∷ us)) ∷ l.0)) front_is here in
    subst (λ (v : List ℕ). Lexes line (v ++ rest) (word v ∷ gs)) (sym n.is) (mark line (word (n.head ∷ n.tail)) ∷ l.0, there, ap (λ (hs : List IdlSign). word (n.head ∷ n.tail) ∷ hs) l.2)

blank_lexes : (line : ℕ) (rest : List ℕ) (gs : List IdlSign) → Lexes line rest gs → Lexes line (32 ∷ rest) gs
unfolding begins
blank_lexes line rest gs l = (l.0, blank line 32 rest l.0 refl l.1, l.2)

feed_lexes : (line : ℕ) (rest : List ℕ) (gs : List IdlSign) → Lexes (line + 1) rest gs → Lexes line (10 ∷ rest) gs
unfolding begins
feed_lexes line rest gs l = (l.0, feed line 10 rest l.0 refl l.1, l.2)

abbrev sign_byte : Symbol → ℕ
sign_byte OpenBrace = 123
sign_byte CloseBrace = 125
sign_byte OpenParen = 40
sign_byte CloseParen = 41
sign_byte Comma = 44
sign_byte Semicolon = 59

symbol_lexes : (line : ℕ) (s : Symbol) (rest : List ℕ) (gs : List IdlSign) → Lexes line rest gs → Lexes line (sign_byte s ∷ rest) (symbol s ∷ gs)
unfolding begins
symbol_lexes line OpenBrace rest gs l = (mark line (symbol OpenBrace) ∷ l.0, signed line 123 rest OpenBrace l.0 refl l.1, ap (λ (hs : List IdlSign). symbol OpenBrace ∷ hs) l.2)
symbol_lexes line CloseBrace rest gs l = (mark line (symbol CloseBrace) ∷ l.0, signed line 125 rest CloseBrace l.0 refl l.1, ap (λ (hs : List IdlSign). symbol CloseBrace ∷ hs) l.2)
symbol_lexes line OpenParen rest gs l = (mark line (symbol OpenParen) ∷ l.0, signed line 40 rest OpenParen l.0 refl l.1, ap (λ (hs : List IdlSign). symbol OpenParen ∷ hs) l.2)
symbol_lexes line CloseParen rest gs l = (mark line (symbol CloseParen) ∷ l.0, signed line 41 rest CloseParen l.0 refl l.1, ap (λ (hs : List IdlSign). symbol CloseParen ∷ hs) l.2)
symbol_lexes line Comma rest gs l = (mark line (symbol Comma) ∷ l.0, signed line 44 rest Comma l.0 refl l.1, ap (λ (hs : List IdlSign). symbol Comma ∷ hs) l.2)
symbol_lexes line Semicolon rest gs l = (mark line (symbol Semicolon) ∷ l.0, signed line 59 rest Semicolon l.0 refl l.1, ap (λ (hs : List IdlSign). symbol Semicolon ∷ hs) l.2)

-- ---- words of the form

name_by : (b : ℕ) (us : List ℕ) → ((rest : List ℕ) → begins b rest ≡ a_word) → list_all is_word_byte us ≡ true → length us < 64 → IsName (b ∷ us)
name_by b us f e lt = record { head = b; tail = us; is = refl; first = f; each = AllPass-from_list_all is_word_byte us e; short = lt }

dir_name : (d : Dir) → IsName (dir_word d)
unfolding begins
dir_name Input = name_by 105 (110 ∷ []) (λ rest. refl) refl (omega arith)
dir_name Both = name_by 105 (110 ∷ 111 ∷ 117 ∷ 116 ∷ []) (λ rest. refl) refl (omega arith)
dir_name Output = name_by 111 (117 ∷ 116 ∷ []) (λ rest. refl) refl (omega arith)

kind_name : (k : ParamKind) → IsName (kind_word k)
unfolding begins
kind_name File = name_by 70 (105 ∷ 108 ∷ 101 ∷ []) (λ rest. refl) refl (omega arith)
kind_name Int = name_by 105 (110 ∷ 116 ∷ []) (λ rest. refl) refl (omega arith)
kind_name Str = name_by 115 (116 ∷ 114 ∷ 105 ∷ 110 ∷ 103 ∷ []) (λ rest. refl) refl (omega arith)

void_name : IsName (codes "void")
unfolding begins
void_name = name_by 118 (111 ∷ 105 ∷ 100 ∷ []) (λ rest. refl) refl (omega arith)

interface_name : IsName (codes "interface")
unfolding begins
interface_name = name_by 105 (110 ∷ 116 ∷ 101 ∷ 114 ∷ 102 ∷ 97 ∷ 99 ∷ 101 ∷ []) (λ rest. refl) refl (omega arith)

-- ---- the printed parts

param_lexes : (line : ℕ) (p : Param) (rest : List ℕ) (gs : List IdlSign) → IsName p.name → Stops rest → Lexes line rest gs → Lexes line (param_text p ++ rest) (param_signs p ++ gs)
param_lexes line p rest gs n s l =
    subst (λ (bytes : List ℕ). Lexes line bytes (param_signs p ++ gs)) (let e : dir_word p.dir ++ (32 ∷ (kind_word p.kind ++ (32 ∷ (p.name ++ rest)))) ≡ param_text p ++ rest = simp append_assoc in e)
    (word_lexes line (dir_word p.dir) (32 ∷ (kind_word p.kind ++ (32 ∷ (p.name ++ rest)))) (word (kind_word p.kind) ∷ word p.name ∷ gs) (dir_name p.dir) refl
    (blank_lexes line (kind_word p.kind ++ (32 ∷ (p.name ++ rest))) (word (kind_word p.kind) ∷ word p.name ∷ gs)
    (word_lexes line (kind_word p.kind) (32 ∷ (p.name ++ rest)) (word p.name ∷ gs) (kind_name p.kind) refl
    (blank_lexes line (p.name ++ rest) (word p.name ∷ gs) (word_lexes line p.name rest gs n s l)))))

more_stops : (ps : List Param) (rest : List ℕ) → Stops rest → Stops (more_text ps ++ rest)
more_stops [] rest s = s
more_stops (p ∷ ps) rest s = refl

more_lexes : (line : ℕ) (ps : List Param) (rest : List ℕ) (gs : List IdlSign) → ParamsNamed ps → Stops rest → Lexes line rest gs → Lexes line (more_text ps ++ rest) (params_signs (symbol Comma) ps ++ gs)
more_lexes line [] rest gs n s l = l
more_lexes line (p ∷ ps) rest gs n s l =
    subst (λ (bytes : List ℕ). Lexes line bytes (symbol Comma ∷ (param_signs p ++ (params_signs (symbol Comma) ps ++ gs)))) (let e : 44 ∷ 32 ∷ (param_text p ++ (more_text ps ++ rest)) ≡ more_text (p ∷ ps) ++ rest = simp append_assoc in e)
    (symbol_lexes line Comma (32 ∷ (param_text p ++ (more_text ps ++ rest))) (param_signs p ++ (params_signs (symbol Comma) ps ++ gs))
    (blank_lexes line (param_text p ++ (more_text ps ++ rest)) (param_signs p ++ (params_signs (symbol Comma) ps ++ gs))
    (param_lexes line p (more_text ps ++ rest) (params_signs (symbol Comma) ps ++ gs) n.0 (more_stops ps rest s) (more_lexes line ps rest gs n.1 s l))))

params_lexes : (line : ℕ) (ps : List Param) (rest : List ℕ) (gs : List IdlSign) → 1 ≤ length ps → ParamsNamed ps → Stops rest → Lexes line rest gs → Lexes line (40 ∷ (params_text ps ++ rest)) (params_signs (symbol OpenParen) ps ++ gs)
params_lexes line [] rest gs h n s l = absurd (omega arith)
params_lexes line (p ∷ ps) rest gs h n s l =
    subst (λ (bytes : List ℕ). Lexes line bytes (symbol OpenParen ∷ (param_signs p ++ (params_signs (symbol Comma) ps ++ gs)))) (let e : 40 ∷ (param_text p ++ (more_text ps ++ rest)) ≡ 40 ∷ (params_text (p ∷ ps) ++ rest) = simp append_assoc in e)
    (symbol_lexes line OpenParen (param_text p ++ (more_text ps ++ rest)) (param_signs p ++ (params_signs (symbol Comma) ps ++ gs))
    (param_lexes line p (more_text ps ++ rest) (params_signs (symbol Comma) ps ++ gs) n.0 (more_stops ps rest s) (more_lexes line ps rest gs n.1 s l)))

end_lexes : (line : ℕ) (rest : List ℕ) (gs : List IdlSign) → Lexes (line + 1) rest gs → Lexes line (codes ");\n" ++ rest) (symbol CloseParen ∷ symbol Semicolon ∷ gs)
end_lexes line rest gs l = symbol_lexes line CloseParen _ _ (symbol_lexes line Semicolon _ _ (feed_lexes line rest gs l))

-- what stands behind an operation's name
abbrev tail_text : Signature → List ℕ → List ℕ
tail_text o rest = 40 ∷ (params_text o.params ++ (codes ");\n" ++ rest))

abbrev tail_signs : Signature → List IdlSign → List IdlSign
tail_signs o gs = params_signs (symbol OpenParen) o.params ++ (symbol CloseParen ∷ symbol Semicolon ∷ gs)

op_lexes : (line : ℕ) (o : Signature) (rest : List ℕ) (gs : List IdlSign) → IsName o.name → ParamsNamed o.params → 1 ≤ length o.params → Lexes (line + 1) rest gs → Lexes line (op_text o ++ rest) (op_signs o ++ gs)
op_lexes line o rest gs n ps h l =
    let tail : Lexes line (tail_text o rest) (tail_signs o gs) = params_lexes line o.params (codes ");\n" ++ rest) (symbol CloseParen ∷ symbol Semicolon ∷ gs) h ps refl (end_lexes line rest gs l) in
    let name = word_lexes line o.name (tail_text o rest) (tail_signs o gs) n refl tail in
    let void = word_lexes line (codes "void") (32 ∷ (o.name ++ tail_text o rest)) (word o.name ∷ tail_signs o gs) void_name refl (blank_lexes line (o.name ++ tail_text o rest) (word o.name ∷ tail_signs o gs) name) in
    let whole = blank_lexes line _ _ (blank_lexes line _ _ (blank_lexes line _ _ (blank_lexes line _ _ void))) in
    subst (λ (hs : List IdlSign). Lexes line (op_text o ++ rest) hs) (let e : word (codes "void") ∷ word o.name ∷ tail_signs o gs ≡ op_signs o ++ gs = simp append_assoc in e)
    (subst (λ (bytes : List ℕ). Lexes line bytes (word (codes "void") ∷ word o.name ∷ tail_signs o gs))
    (let e : 32 ∷ 32 ∷ 32 ∷ 32 ∷ (codes "void" ++ (32 ∷ (o.name ++ tail_text o rest))) ≡ op_text o ++ rest = simp append_assoc in e) whole)

ops_lexes : (line : ℕ) (os : List Signature) (rest : List ℕ) (gs : List IdlSign) → OpsNamed os → All (λ o. 1 ≤ length o.params) os → ((l : ℕ) → Lexes l rest gs) → Lexes line (ops_text os ++ rest) (ops_signs os ++ gs)
ops_lexes line [] rest gs n h l = l line
ops_lexes line (o ∷ os) rest gs n h l =
    subst (λ (hs : List IdlSign). Lexes line (ops_text (o ∷ os) ++ rest) hs) (sym (append_assoc (op_signs o) (ops_signs os) gs))
    (subst (λ (bytes : List ℕ). Lexes line bytes (op_signs o ++ (ops_signs os ++ gs))) (sym (append_assoc (op_text o) (ops_text os) rest))
    (op_lexes line o (ops_text os ++ rest) (ops_signs os ++ gs) n.0 n.1 (All-head (λ q. 1 ≤ length q.params) o os h) (ops_lexes (line + 1) os rest gs n.2 (All-tail (λ q. 1 ≤ length q.params) o os h) l)))

abbrev last_signs : List IdlSign
last_signs = symbol CloseBrace ∷ symbol Semicolon ∷ finish ∷ []

close_lexes : (line : ℕ) → Lexes line (codes "};\n") last_signs
close_lexes line = symbol_lexes line CloseBrace _ _ (symbol_lexes line Semicolon _ _ (feed_lexes line [] (finish ∷ []) (mark (line + 1) finish ∷ [], finished (line + 1), refl)))

printed_lexes : (i : Interface) → Named i → IsFilled i → Lexes 1 (printed i) (interface_signs i ++ symbol Semicolon ∷ finish ∷ [])
unfolding printed
printed_lexes i n f =
    let body : List ℕ = ops_text i.ops ++ codes "};\n" in
    let ops : Lexes 2 body (ops_signs i.ops ++ last_signs) = ops_lexes 2 i.ops (codes "};\n") last_signs n.1 f.params (λ l. close_lexes l) in
    let brace : Lexes 1 (32 ∷ 123 ∷ 10 ∷ body) (symbol OpenBrace ∷ (ops_signs i.ops ++ last_signs)) = blank_lexes 1 _ _ (symbol_lexes 1 OpenBrace _ _ (feed_lexes 1 body (ops_signs i.ops ++ last_signs) ops)) in
    let name = word_lexes 1 i.name (32 ∷ 123 ∷ 10 ∷ body) (symbol OpenBrace ∷ (ops_signs i.ops ++ last_signs)) n.0 refl brace in
    let whole = word_lexes 1 (codes "interface") (32 ∷ (i.name ++ (32 ∷ 123 ∷ 10 ∷ body))) (word i.name ∷ symbol OpenBrace ∷ (ops_signs i.ops ++ last_signs)) interface_name refl (blank_lexes 1 _ _ name) in
    subst (λ (hs : List IdlSign). Lexes 1 (printed i) hs) (let e : word (codes "interface") ∷ word i.name ∷ symbol OpenBrace ∷ (ops_signs i.ops ++ last_signs) ≡ interface_signs i ++ symbol Semicolon ∷ finish ∷ [] = simp append_assoc in e)
    (subst (λ (bytes : List ℕ). Lexes 1 bytes (word (codes "interface") ∷ word i.name ∷ symbol OpenBrace ∷ (ops_signs i.ops ++ last_signs)))
    (let e : codes "interface" ++ (32 ∷ (i.name ++ (32 ∷ 123 ∷ 10 ∷ body))) ≡ printed i = simp append_assoc in e) whole)

filled_of : (gs : List IdlSign) (i : Interface) → IsText gs i → IsFilled i
filled_of gs i (plain ts i' f e) = f
filled_of gs i (ended ts i' f e) = f

pub prints_back : PrintsBack
prints_back bytes i s short =
    let f = filled_of (signs_of s.marks) i s.text in
    let l = printed_lexes i (named 1 bytes s.marks i s.reads s.text) f in
    record { short = short; marks = l.0; reads = l.1; text = ended (signs_of l.0) i f l.2; sound = s.sound }
