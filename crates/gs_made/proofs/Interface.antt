-- The interface that is made is read, and keeps the rules.
use Rattle.std.proofs.Common.{◌≡◌, ℕ, ◌<◌, List, [], ◌∷◌, ◌++◌, length, map, refl, lit<, lit≤}
use Rattle.std.specs.Prelude.{codes}
use Rattle.std.specs.List.{All}
use Rattle.std.proofs.lemmas.List.Elements.{All-nil, All-cons}
use Rattle.gs_idl.specs.Interface.{IsOpSized, IsWellFormed}
use Rattle.gs_idl.specs.Word.{is_word_byte, is_keyword}
use Rattle.gs_idl.specs.Lexicon.{IdlSign, word, symbol, finish, IdlMark, mark, Beginning, a_blank, a_feed, a_word, a_line_comment, a_comment, a_symbol, nothing, symbol_or_nothing, begins, front, behind, Reads, finished, blank, feed, worded, signed}
use Rattle.gs_idl.specs.Grammar.{interface_signs, IsText, IsSound, Says}
use Rattle.gs_idl.specs.Machine.{start, run, step, broken, Text}
use Rattle.gs_idl.proofs.Faults.{told}
use Rattle.gs_idl.proofs.OneText.{marks_close}
use Rattle.gs_idl.proofs.Formed.{rules_kept, whole_clean}
use Rattle.gs_report.specs.Generator.{idl_text}
use Rattle.gs_made.specs.Texts.{hash_op, mark_op, self_interface}

-- ---- the marks

-- a word, a blank and a symbol in front
word_at : {b : ℕ} {rest : List ℕ} {ms : List IdlMark} → begins b rest ≡ a_word → length (front is_word_byte rest) < 64
    → Reads 1 (behind is_word_byte rest) ms → Reads 1 (b ∷ rest) (mark 1 (word (b ∷ front is_word_byte rest)) ∷ ms)
word_at {b} {rest} {ms} e short r = worded 1 b rest ms e short r

blank_at : {b : ℕ} {rest : List ℕ} {ms : List IdlMark} → begins b rest ≡ a_blank → Reads 1 rest ms → Reads 1 (b ∷ rest) ms
blank_at {b} {rest} {ms} e r = blank 1 b rest ms e r

-- the sign of a byte that is a symbol
abbrev sign_by : Beginning → IdlSign
sign_by (a_symbol s) = symbol s
sign_by _ = finish

abbrev IsSymbol : Beginning → Type 0
IsSymbol (a_symbol s) = Unit {0}
IsSymbol _ = ⊥

abbrev byte_sign : ℕ → IdlSign
byte_sign b = sign_by (symbol_or_nothing b)

symbol_by : (what : Beginning) {b : ℕ} {rest : List ℕ} {ms : List IdlMark} → begins b rest ≡ what → IsSymbol what → Reads 1 rest ms
    → Reads 1 (b ∷ rest) (mark 1 (sign_by what) ∷ ms)
symbol_by (a_symbol s) {b} {rest} {ms} e h r = signed 1 b rest s ms e r
symbol_by a_blank e h r = absurd h
symbol_by a_feed e h r = absurd h
symbol_by a_word e h r = absurd h
symbol_by a_line_comment e h r = absurd h
symbol_by a_comment e h r = absurd h
symbol_by nothing e h r = absurd h

symbol_at : {b : ℕ} {rest : List ℕ} {ms : List IdlMark} → begins b rest ≡ symbol_or_nothing b → IsSymbol (symbol_or_nothing b) → Reads 1 rest ms
    → Reads 1 (b ∷ rest) (mark 1 (byte_sign b) ∷ ms)
symbol_at {b} {rest} {ms} e h r = symbol_by (symbol_or_nothing b) e h r

abbrev on_one : List IdlSign → List IdlMark
on_one gs = map (λ s. mark 1 s) gs

head_reads : (rest : List ℕ) (ms : List IdlMark) → Reads 1 rest ms
    → Reads 1 (codes "interface SELF { " ++ rest) (on_one (word (codes "interface") ∷ word (codes "SELF") ∷ byte_sign 123 ∷ []) ++ ms)
unfolding begins
head_reads rest ms r = word_at refl (lit< tt) (blank_at refl (word_at refl (lit< tt) (blank_at refl (symbol_at refl tt (blank_at refl r)))))

end_reads : Reads 1 (codes "};\n") (mark 1 (byte_sign 125) ∷ mark 1 (byte_sign 59) ∷ mark 2 finish ∷ [])
unfolding begins
end_reads = symbol_at refl tt (symbol_at refl tt (feed 1 10 [] _ refl (finished 2)))

abbrev hash_signs : List IdlSign
hash_signs =
    word (codes "void") ∷ word (codes "hash") ∷ byte_sign 40 ∷ word (codes "in") ∷ word (codes "File") ∷ word (codes "a")
    ∷ byte_sign 44 ∷ word (codes "in") ∷ word (codes "File") ∷ word (codes "b")
    ∷ byte_sign 44 ∷ word (codes "out") ∷ word (codes "File") ∷ word (codes "c") ∷ byte_sign 41 ∷ byte_sign 59 ∷ []

hash_reads : (rest : List ℕ) (ms : List IdlMark) → Reads 1 rest ms
    → Reads 1 (codes "void hash(in File a, in File b, out File c); " ++ rest) (on_one hash_signs ++ ms)
unfolding begins
hash_reads rest ms r =
    word_at refl (lit< tt) (blank_at refl (word_at refl (lit< tt) (symbol_at refl tt
    (word_at refl (lit< tt) (blank_at refl (word_at refl (lit< tt) (blank_at refl (word_at refl (lit< tt) (symbol_at refl tt (blank_at refl
    (word_at refl (lit< tt) (blank_at refl (word_at refl (lit< tt) (blank_at refl (word_at refl (lit< tt) (symbol_at refl tt (blank_at refl
    (word_at refl (lit< tt) (blank_at refl (word_at refl (lit< tt) (blank_at refl (word_at refl (lit< tt) (symbol_at refl tt (symbol_at refl tt
    (blank_at refl r)))))))))))))))))))))))))

abbrev mark_signs : List IdlSign
mark_signs =
    word (codes "void") ∷ word (codes "mark") ∷ byte_sign 40 ∷ word (codes "inout") ∷ word (codes "File") ∷ word (codes "f")
    ∷ byte_sign 44 ∷ word (codes "in") ∷ word (codes "int") ∷ word (codes "i") ∷ byte_sign 41 ∷ byte_sign 59 ∷ []

mark_reads : (rest : List ℕ) (ms : List IdlMark) → Reads 1 rest ms
    → Reads 1 (codes "void mark(inout File f, in int i); " ++ rest) (on_one mark_signs ++ ms)
unfolding begins
mark_reads rest ms r =
    word_at refl (lit< tt) (blank_at refl (word_at refl (lit< tt) (symbol_at refl tt
    (word_at refl (lit< tt) (blank_at refl (word_at refl (lit< tt) (blank_at refl (word_at refl (lit< tt) (symbol_at refl tt (blank_at refl
    (word_at refl (lit< tt) (blank_at refl (word_at refl (lit< tt) (blank_at refl (word_at refl (lit< tt) (symbol_at refl tt (symbol_at refl tt
    (blank_at refl r))))))))))))))))))

abbrev all_marks : List IdlMark
all_marks = on_one (interface_signs self_interface ++ byte_sign 59 ∷ []) ++ mark 2 finish ∷ []

all_read : Reads 1 idl_text all_marks
all_read = head_reads _ _ (hash_reads _ _ (mark_reads _ _ end_reads))

-- ---- what they say

abbrev all_signs : List IdlSign
all_signs = interface_signs self_interface ++ byte_sign 59 ∷ finish ∷ []

is_read : run 0 start all_signs ≡ Text self_interface
unfolding run step broken is_keyword
is_read = refl

is_told : IsText all_signs self_interface × IsSound self_interface
unfolding run step broken is_keyword
is_told = told all_signs (marks_close 1 idl_text all_marks all_read)

pub says_interface : Says idl_text self_interface
says_interface = record {
  short = lit≤ tt;
  marks = all_marks;
  reads = all_read;
  text = is_told.0;
  sound = is_told.1;
}

ops_sized : All IsOpSized self_interface.ops
ops_sized = All-cons IsOpSized hash_op (mark_op ∷ []) (record { some = lit≤ tt; few = lit≤ tt }) (All-cons IsOpSized mark_op [] (record { some = lit≤ tt; few = lit≤ tt }) (All-nil IsOpSized))

pub well_formed : IsWellFormed self_interface
well_formed = record {
  sized = record { some = lit≤ tt; ops = record { few = lit≤ tt; each = ops_sized } };
  rules = rules_kept self_interface.ops (whole_clean all_signs 0 start self_interface tt is_read);
}
