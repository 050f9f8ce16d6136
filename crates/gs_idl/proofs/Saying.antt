-- What a text says, and what reading it gives.
use Rattle.std.proofs.Common.{◌≡◌, ℕ, zero, suc, ◌≤◌, Bool, List, [], ◌∷◌, length, map, Some, refl, sym, ap, subst, ◌∙◌}
use Rattle.std.specs.Prelude.{slice_get}
use Rattle.gs_idl.specs.Interface.{Signature, Interface}
use Rattle.gs_idl.specs.Lexicon.{IdlSign, IdlMark, Reads}
use Rattle.gs_idl.specs.Grammar.{signs_of, IsText, Says, IsFault, wrong}
use Rattle.gs_idl.specs.Machine.{State, start, whole, run, Text, Fault}
use Rattle.gs_idl.specs.Token.{mark_of}
use Rattle.gs_idl.specs.Reading.{signs, line_at, line_or_none}
use Rattle.gs_idl.specs.Laws.{SaysOne}
use Rattle.gs_idl.specs.declared.token.Token.{Token}
use Rattle.gs_idl.specs.declared.token.IdlKind.{IdlKind}
use Rattle.gs_idl.proofs.Transitions.{Path, here, path_left}
use Rattle.gs_idl.proofs.Complete.{text_path}
use Rattle.gs_idl.proofs.Faults.{Told, told}
use Rattle.gs_idl.proofs.OneText.{one_marks, marks_close}
use Rattle.std.proofs.lemmas.List.{append-nil}

ended_path : (s t : State) → Path s [] t → s ≡ t
ended_path s t (here s') = refl

whole_is : (a b : Bool) (x y : List ℕ) (os ps : List Signature) → whole a x os ≡ whole b y ps → (x ≡ y) × (os ≡ ps)
whole_is a b x y os ps e = (cc, cc)

same_interface : (i j : Interface) → i.name ≡ j.name → i.ops ≡ j.ops → i ≡ j
same_interface i j e f = ap (λ (x : List ℕ). let r : Interface = record { name = x; ops = i.ops } in r) e ∙ ap (λ (os : List Signature). let r : Interface = record { name = j.name; ops = os } in r) f

one_text : (gs : List IdlSign) (i j : Interface) → IsText gs i → IsText gs j → i ≡ j
one_text gs i j t u =
    let p = text_path gs i t in
    let q = text_path gs j u in
    let rest = path_left start (whole p.0 i.name i.ops) (whole q.0 j.name j.ops) gs [] p.1 (subst (λ (hs : List IdlSign). Path start hs (whole q.0 j.name j.ops)) (sym (append-nil gs)) q.1) in
    let same = whole_is p.0 q.0 i.name j.name i.ops j.ops (ended_path _ _ rest) in
    same_interface i j same.0 same.1

pub says_one : SaysOne
says_one bytes i j s t =
    one_text (signs_of s.marks) i j s.text (subst (λ (ms : List IdlMark). IsText (signs_of ms) j) (one_marks 1 bytes t.marks s.marks t.reads s.reads) t.text)

-- ---- what is read

pub marks_signs : (ts : List Token) → signs_of (map mark_of ts) ≡ signs ts
marks_signs [] = refl
marks_signs (t ∷ ts) = ap (λ (gs : List IdlSign). (mark_of t).sign ∷ gs) (marks_signs ts)

told_of : (bytes : List ℕ) (ts : List Token) → Reads 1 bytes (map mark_of ts) → Told (signs_of (map mark_of ts)) (run 0 start (signs ts))
told_of bytes ts r =
    subst (λ (gs : List IdlSign). Told (signs_of (map mark_of ts)) (run 0 start gs)) (marks_signs ts) (told (signs_of (map mark_of ts)) (marks_close 1 bytes (map mark_of ts) r))

pub read_says : (bytes : List ℕ) (ts : List Token) (i : Interface) → length bytes ≤ 65536 → Reads 1 bytes (map mark_of ts) → run 0 start (signs ts) ≡ Text i → Says bytes i
read_says bytes ts i short r e =
    let t : Told (signs_of (map mark_of ts)) (Text i) = subst (Told (signs_of (map mark_of ts))) e (told_of bytes ts r) in
    record { short = short; marks = map mark_of ts; reads = r; text = t.0; sound = t.1 }

marked : (ms : List IdlMark) (k : ℕ) (g : IdlSign) → slice_get (signs_of ms) k ≡ Some g → (m : IdlMark) × (slice_get ms k ≡ Some m)
marked [] k g e = absurd cc
marked (m ∷ ms) zero g e = (m, refl)
marked (m ∷ ms) (suc k) g e = marked ms k g e

pub read_fault : (bytes : List ℕ) (ts : List Token) (k : ℕ) (kind : IdlKind) → length bytes ≤ 65536 → Reads 1 bytes (map mark_of ts) → run 0 start (signs ts) ≡ Fault k kind → IsFault bytes (line_at (map mark_of ts) k) kind
read_fault bytes ts k kind short r e =
    let ms = map mark_of ts in
    let t : Told (signs_of ms) (Fault k kind) = subst (Told (signs_of ms)) e (told_of bytes ts r) in
    let m = marked ms k t.0.sign t.0.here in
    let no : (i : Interface) → Says bytes i → ⊥ = λ i s. t.1 i (subst (λ (ns : List IdlMark). IsText (signs_of ns) i) (one_marks 1 bytes s.marks ms s.reads r) s.text) s.sound in
    subst (λ (line : ℕ). IsFault bytes line kind) (sym (ap line_or_none m.1)) (wrong bytes ms k m.0 kind short r m.1 t.0 no)
