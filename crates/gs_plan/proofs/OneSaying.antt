-- A text says one list of durations or has a fault, and not both.
use Rattle.std.proofs.Common.{◌≡◌, ℕ, ◌≤◌, List, [], ◌∷◌, ◌++◌, length, Some, None, slice_get, slice_set, refl, sym, ap, subst, ◌∙◌, arith}
use Rattle.std.specs.Str.Parse.{digits_value}
use Rattle.gs_idl.specs.Interface.{Signature, op_place}
use Rattle.gs_types.specs.declared.limits.TheConstants.{TEXT_LIMIT}
use Rattle.gs_list.specs.Lines.{AreLines, HasWords}
use Rattle.gs_list.proofs.Cutting.{lines_one, has_one, has_no_bad}
use Rattle.gs_plan.specs.Durations.{Given, IsDuration, LineSays, nothing, duration, IsLineFault, bad_byte, bad_line, unknown_op, bad_number, twice, LinesSay, no_line, line_more, none_given, durations_by, Says, IsFault, too_long, wrong, IsRefused, IsUnread}
use Rattle.gs_plan.specs.Reading.{IsLinesStop}
use Rattle.gs_plan.specs.declared.kind.DurKind.{DurKind}
use Rattle.gs_plan.specs.declared.kind.DurErr.{DurErr}
use Rattle.gs_plan.specs.declared.kind.DurErr.TheVariants.{At, NoMemory}

-- the two words of a line
pub record SamePair (a b c d : List ℕ) : Type 0 where
  pub name : a ≡ c
  pub digits : b ≡ d

pub same_pair : (line a b c d : List ℕ) → HasWords line (a ∷ b ∷ []) → HasWords line (c ∷ d ∷ []) → SamePair a b c d
same_pair line a b c d p q =
    let e : a ∷ b ∷ [] ≡ c ∷ d ∷ [] = has_one line (a ∷ b ∷ []) (c ∷ d ∷ []) p q in record { name = cc; digits = cc }

none_pair : (line a b : List ℕ) → HasWords line [] → HasWords line (a ∷ b ∷ []) → ⊥
none_pair line a b p q = let e : [] ≡ a ∷ b ∷ [] = has_one line [] (a ∷ b ∷ []) p q in absurd cc

pub same_place : (ops : List Signature) (a b : List ℕ) (m n : ℕ) → a ≡ b → op_place ops a ≡ Some m → op_place ops b ≡ Some n → m ≡ n
same_place ops a b m n e p q = let s : Some m ≡ Some n = sym p ∙ ap (op_place ops) e ∙ q in cc

pub known : (ops : List Signature) (a b : List ℕ) (m : ℕ) → a ≡ b → op_place ops a ≡ Some m → op_place ops b ≡ None → ⊥
known ops a b m e p q = let s : Some m ≡ None = sym p ∙ ap (op_place ops) e ∙ q in absurd cc

pub free_once : (given : Given) (m n e : ℕ) → m ≡ n → slice_get given m ≡ Some None → slice_get given n ≡ Some (Some e) → ⊥
free_once given m n e same p q =
    let s : Some None ≡ Some (Some e) = sym p ∙ ap (slice_get given) same ∙ q in
    let t : None ≡ Some e = cc in absurd cc

-- ---- a line

line_one : (ops : List Signature) (line : List ℕ) (a b c : Given) → LineSays ops line a b → LineSays ops line a c → b ≡ c
line_one ops line a b c (nothing d has) (nothing e has') = refl
line_one ops line a b c (nothing d has) (duration e name digits op k has' place is free) = absurd (none_pair line name digits has has')
line_one ops line a b c (duration e name digits op k has' place is free) (nothing d has) = absurd (none_pair line name digits has has')
line_one ops line a b c (duration d name digits op k has place is free) (duration e name' digits' op' k' has' place' is' free') =
    let same = same_pair line name digits name' digits' has has' in
    let at = same_place ops name name' op op' same.name place place' in
    let long : k ≡ k' = is.says ∙ ap (digits_value 10) same.digits ∙ sym is'.says in
    ap (λ (i : ℕ). slice_set d i (Some k)) at ∙ ap (λ (n : ℕ). slice_set d op' (Some n)) long

line_or_fault : (ops : List Signature) (line : List ℕ) (a b : Given) (kind : DurKind) → LineSays ops line a b → IsLineFault ops line a kind → ⊥
line_or_fault ops line a b kind (nothing d has) (bad_byte bad) = has_no_bad line [] has bad
line_or_fault ops line a b kind (nothing d has) (bad_line words has' some form) = some (has_one line words [] has' has)
line_or_fault ops line a b kind (nothing d has) (unknown_op name digits has' none) = none_pair line name digits has has'
line_or_fault ops line a b kind (nothing d has) (bad_number name digits op has' place none) = none_pair line name digits has has'
line_or_fault ops line a b kind (nothing d has) (twice name digits op k e has' place is taken) = none_pair line name digits has has'
line_or_fault ops line a b kind (duration d name digits op k has place is free) (bad_byte bad) = has_no_bad line (name ∷ digits ∷ []) has bad
line_or_fault ops line a b kind (duration d name digits op k has place is free) (bad_line words has' some form) =
    form name digits (has_one line words (name ∷ digits ∷ []) has' has)
line_or_fault ops line a b kind (duration d name digits op k has place is free) (unknown_op name' digits' has' none) =
    known ops name name' op (same_pair line name digits name' digits' has has').name place none
line_or_fault ops line a b kind (duration d name digits op k has place is free) (bad_number name' digits' op' has' place' none) =
    none k (subst (λ (w : List ℕ). IsDuration w k) (same_pair line name digits name' digits' has has').digits is)
line_or_fault ops line a b kind (duration d name digits op k has place is free) (twice name' digits' op' k' e has' place' is' taken) =
    free_once d op op' e (same_place ops name name' op op' (same_pair line name digits name' digits' has has').name place place') free taken

-- ---- the lines

pub says_one_way : (ops : List Signature) (lines : List (List ℕ)) (a b c : Given) → LinesSay ops lines a b → LinesSay ops lines a c → b ≡ c
says_one_way ops lines a b c (no_line d) (no_line e) = refl
says_one_way ops lines a b c (line_more l ls d m e first rest) (line_more l' ls' d' n f first' rest') =
    says_one_way ops ls m e f rest (subst (λ (v : Given). LinesSay ops ls v f) (line_one ops l d n m first' first) rest')

pub stops_there : (ops : List Signature) (front rest : List (List ℕ)) (line : List ℕ) (a b c : Given) (kind : DurKind) → LinesSay ops (front ++ line ∷ rest) a c → LinesSay ops front a b → IsLineFault ops line b kind → ⊥
stops_there ops [] rest line a b c kind (line_more l ls d m e first more) (no_line f) fault = line_or_fault ops line f m kind first fault
stops_there ops (x ∷ xs) rest line a b c kind (line_more l ls d m e first more) (line_more l' ls' d' n f first' more') fault =
    stops_there ops xs rest line m b c kind more (subst (λ (v : Given). LinesSay ops xs v b) (line_one ops x d n m first' first) more') fault

-- ---- the text

pub says_one : (ops : List Signature) (bytes a b : List ℕ) → Says ops bytes a → Says ops bytes b → a ≡ b
says_one ops bytes a b p q =
    let e = lines_one bytes p.lines q.lines p.parted q.parted in
    let said = subst (λ (ls : List (List ℕ)). LinesSay ops ls (none_given ops) p.given) e p.said in
    p.each ∙ ap durations_by (says_one_way ops q.lines (none_given ops) p.given q.given said q.said) ∙ sym q.each

pub says_or_fails : (ops : List Signature) (bytes : List ℕ) (line : ℕ) (kind : DurKind) (ds : List ℕ) → IsFault ops bytes line kind → Says ops bytes ds → ⊥
says_or_fails ops bytes line kind ds (too_long long) says = let s = says.short in absurd (omega arith)
says_or_fails ops bytes line kind ds (wrong lines number k short are goes) says =
    let e : says.lines ≡ goes.front ++ goes.line ∷ goes.rest = lines_one bytes says.lines lines says.parted are ∙ goes.place in
    stops_there ops goes.front goes.rest goes.line (none_given ops) goes.before says.given k (subst (λ (ls : List (List ℕ)). LinesSay ops ls (none_given ops) says.given) e says.said) goes.said goes.fault

pub refused : (ops : List Signature) (bytes : List ℕ) (line : ℕ) (kind : DurKind) → IsFault ops bytes line kind → IsRefused ops bytes line kind
refused ops bytes line kind fault = record { fault = fault; nothing = λ ds says. says_or_fails ops bytes line kind ds fault says }

pub unread : (ops : List Signature) (bytes : List ℕ) (lines : List (List ℕ)) (e : DurErr) → length bytes ≤ TEXT_LIMIT → AreLines bytes lines → IsLinesStop ops lines e → IsUnread ops bytes e
unread ops bytes lines (At line kind) short are goes = refused ops bytes line kind (wrong lines line kind short are goes)
unread ops bytes lines NoMemory short are goes = tt
