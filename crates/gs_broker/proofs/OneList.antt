-- A text says one list or has a fault, and not both.
use Rattle.std.proofs.Common.{◌≡◌, ℕ, ◌≤◌, false, List, [], ◌∷◌, ◌++◌, length, refl, sym, ap, subst, ◌∙◌, arith}
use Rattle.std.specs.List.{list_all}
use Rattle.gs_types.specs.Name.{IsName}
use Rattle.gs_idl.specs.Interface.{Signature}
use Rattle.gs_broker.specs.Text.{may_stand, IsContent, AreWords, HasWords, Parts, words_of, HasParts, IsSlots, are_known, Entry, entry_by, is_twice, LineSays, nothing, worker, IsLineFault, bad_byte, bad_line, bad_name, bad_slots, unknown_op, twice, too_many, LinesSay, no_line, line_more, Says, IsFault, too_long, wrong, empty, AreLines}
use Rattle.gs_broker.specs.Reading.{IsLinesStop}
use Rattle.gs_broker.specs.Answer.{IsRefused, IsUnread}
use Rattle.gs_types.specs.declared.limits.TheConstants.{TEXT_LIMIT}
use Rattle.gs_broker.specs.declared.kind.WorkersKind.{WorkersKind}
use Rattle.gs_broker.specs.declared.kind.WorkersErr.{WorkersErr}
use Rattle.gs_broker.specs.declared.kind.WorkersErr.TheVariants.{At, NoMemory}
use Rattle.gs_broker.proofs.Cutting.{content_one, words_one, words_stand, lines_are}
use Rattle.gs_broker.proofs.Slots.{slots_one}

-- ---- words and parts

pub has_one : (line : List ℕ) (a b : List (List ℕ)) → HasWords line a → HasWords line b → a ≡ b
has_one line a b p q =
    let e = content_one line p.content q.content p.before q.before in
    words_one q.content a b (subst (λ (c : List ℕ). AreWords c a) e p.parted) q.parted

parts_in : List (List ℕ) → Parts
parts_in [] = record { name = []; slots = []; program = []; operations = [] }
parts_in (n ∷ []) = record { name = []; slots = []; program = []; operations = [] }
parts_in (n ∷ s ∷ []) = record { name = []; slots = []; program = []; operations = [] }
parts_in (n ∷ s ∷ p ∷ os) = record { name = n; slots = s; program = p; operations = os }

parts_one : (p q : Parts) → words_of p ≡ words_of q → p ≡ q
unfolding parts_in
parts_one p q e = ap parts_in e

pub same_parts : (line : List ℕ) (p q : Parts) → HasParts line p → HasParts line q → p ≡ q
same_parts line p q a b = parts_one p q (has_one line (words_of p) (words_of q) a.words b.words)

none_parts : (line : List ℕ) (p : Parts) → HasWords line [] → HasParts line p → ⊥
none_parts line p a b = let e = has_one line [] (words_of p) a b.words in absurd cc

pub all_stand : (line content : List ℕ) (words : List (List ℕ)) → HasWords line words → IsContent line content → list_all may_stand content ≡ false → ⊥
all_stand line content words has is fails =
    let t = words_stand has.content words has.parted in
    let e = ap (list_all may_stand) (content_one line has.content content has.before is) in absurd cc

-- ---- a line

line_one : (ops : List Signature) (line : List ℕ) (a b c : List Entry) → LineSays ops line a b → LineSays ops line a c → b ≡ c
line_one ops line a b c (nothing d has) (nothing e has') = refl
line_one ops line a b c (nothing d has) (worker e p slots right once few) = absurd (none_parts line p has right.parts)
line_one ops line a b c (worker d p slots right once few) (nothing e has) = absurd (none_parts line p has right.parts)
line_one ops line a b c (worker d p m right once few) (worker e q n right' once' few') =
    let same = same_parts line p q right.parts right'.parts in
    let number = slots_one q.slots m n (subst (λ (r : Parts). IsSlots r.slots m) same right.digits) right'.digits in
    ap (λ (r : Parts). d ++ entry_by ops r m ∷ []) same ∙ ap (λ (k : ℕ). d ++ entry_by ops q k ∷ []) number

line_or_fault : (ops : List Signature) (line : List ℕ) (a b : List Entry) (kind : WorkersKind) → LineSays ops line a b → IsLineFault ops line a kind → ⊥
line_or_fault ops line a b kind (nothing d has) (bad_byte content is fails) = all_stand line content [] has is fails
line_or_fault ops line a b kind (nothing d has) (bad_line words has' some form) = some (has_one line words [] has' has)
line_or_fault ops line a b kind (nothing d has) (bad_name p parts name) = none_parts line p has parts
line_or_fault ops line a b kind (nothing d has) (bad_slots p parts name none) = none_parts line p has parts
line_or_fault ops line a b kind (nothing d has) (unknown_op p slots parts name digits known) = none_parts line p has parts
line_or_fault ops line a b kind (nothing d has) (twice p slots right again) = none_parts line p has right.parts
line_or_fault ops line a b kind (nothing d has) (too_many p slots right once full) = none_parts line p has right.parts
line_or_fault ops line a b kind (worker d q m right once few) (bad_byte content is fails) = all_stand line content (words_of q) right.parts.words is fails
line_or_fault ops line a b kind (worker d q m right once few) (bad_line words has some form) =
    let f = form q (has_one line words (words_of q) has right.parts.words) in let t = right.parts.form in absurd cc
line_or_fault ops line a b kind (worker d q m right once few) (bad_name p parts name) =
    name (subst (λ (r : Parts). IsName r.name) (same_parts line q p right.parts parts) right.name)
line_or_fault ops line a b kind (worker d q m right once few) (bad_slots p parts name none) =
    none m (subst (λ (r : Parts). IsSlots r.slots m) (same_parts line q p right.parts parts) right.digits)
line_or_fault ops line a b kind (worker d q m right once few) (unknown_op p slots parts name digits known) =
    let e = ap (λ (r : Parts). are_known ops r.operations) (same_parts line q p right.parts parts) in let t = right.known in absurd cc
line_or_fault ops line a b kind (worker d q m right once few) (twice p slots right' again) =
    let e = ap (is_twice d) (same_parts line q p right.parts right'.parts) in absurd cc
line_or_fault ops line a b kind (worker d q m right once few) (too_many p slots right' once' full) = absurd (omega arith)

-- ---- the lines

pub lines_one : (ops : List Signature) (lines : List (List ℕ)) (a b c : List Entry) → LinesSay ops lines a b → LinesSay ops lines a c → b ≡ c
lines_one ops lines a b c (no_line d) (no_line e) = refl
lines_one ops lines a b c (line_more l ls d m e first rest) (line_more l' ls' d' n f first' rest') =
    lines_one ops ls m e f rest (subst (λ (v : List Entry). LinesSay ops ls v f) (line_one ops l d n m first' first) rest')

pub stops_there : (ops : List Signature) (front rest : List (List ℕ)) (line : List ℕ) (a b c : List Entry) (kind : WorkersKind) → LinesSay ops (front ++ line ∷ rest) a c → LinesSay ops front a b → IsLineFault ops line b kind → ⊥
stops_there ops [] rest line a b c kind (line_more l ls d m e first more) (no_line f) fault = line_or_fault ops line f m kind first fault
stops_there ops (x ∷ xs) rest line a b c kind (line_more l ls d m e first more) (line_more l' ls' d' n f first' more') fault =
    stops_there ops xs rest line m b c kind more (subst (λ (v : List Entry). LinesSay ops xs v b) (line_one ops x d n m first' first) more') fault

-- ---- the text

pub same_lines : (bytes : List ℕ) (a b : List (List ℕ)) → AreLines bytes a → AreLines bytes b → a ≡ b
same_lines bytes a b p q = lines_are bytes a p ∙ sym (lines_are bytes b q)

pub says_one : (ops : List Signature) (bytes : List ℕ) (a b : List Entry) → Says ops bytes a → Says ops bytes b → a ≡ b
says_one ops bytes a b p q =
    let e = same_lines bytes p.lines q.lines p.parted q.parted in
    lines_one ops q.lines [] a b (subst (λ (ls : List (List ℕ)). LinesSay ops ls [] a) e p.said) q.said

pub says_or_fails : (ops : List Signature) (bytes : List ℕ) (line : ℕ) (kind : WorkersKind) (ws : List Entry) → IsFault ops bytes line kind → Says ops bytes ws → ⊥
says_or_fails ops bytes line kind ws (too_long long) says = let s = says.short in absurd (omega arith)
says_or_fails ops bytes line kind ws (wrong lines number k short are goes) says =
    let e : says.lines ≡ goes.front ++ goes.line ∷ goes.rest = same_lines bytes says.lines lines says.parted are ∙ goes.place in
    stops_there ops goes.front goes.rest goes.line [] goes.before ws k (subst (λ (ls : List (List ℕ)). LinesSay ops ls [] ws) e says.said) goes.said goes.fault
says_or_fails ops bytes line kind ws (empty lines short are said) says =
    let e = same_lines bytes says.lines lines says.parted are in
    let none = lines_one ops lines [] ws [] (subst (λ (ls : List (List ℕ)). LinesSay ops ls [] ws) e says.said) said in
    let n = ap length none in let s = says.some in absurd (omega arith)

pub refused : (ops : List Signature) (bytes : List ℕ) (line : ℕ) (kind : WorkersKind) → IsFault ops bytes line kind → IsRefused ops bytes line kind
refused ops bytes line kind fault = record { fault = fault; nothing = λ ws says. says_or_fails ops bytes line kind ws fault says }

pub unread : (ops : List Signature) (bytes : List ℕ) (lines : List (List ℕ)) (e : WorkersErr) → length bytes ≤ TEXT_LIMIT → AreLines bytes lines → IsLinesStop ops lines e → IsUnread ops bytes e
unread ops bytes lines (At line kind) short are goes = refused ops bytes line kind (wrong lines line kind short are goes)
unread ops bytes lines NoMemory short are goes = tt
