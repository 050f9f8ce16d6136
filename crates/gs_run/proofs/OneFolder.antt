-- A folder holds one pair of texts, and one store.
use Rattle.std.proofs.Common.{◌≡◌, ℕ, ◌<◌, ◌≤◌, List, length, Option, Some, None, refl, sym, ◌∙◌, ap, subst, inl, inr, arith}
use Rattle.gs_disk.specs.Folder.{Folder}
use Rattle.gs_entries.specs.Order.{stage_of}
use Rattle.gs_entries.specs.declared.entry.Entry.{Entry as Recorded}
use Rattle.gs_entries.specs.declared.entry.Texts.{Texts}
use Rattle.gs_store.specs.Ordered.{texts_of, HasEnded, DifferFirst}
use Rattle.gs_store.specs.State.{StoreState}
use Rattle.gs_store.specs.declared.same.What.{What}
use Rattle.gs_store.specs.declared.same.What.TheVariants.{IdlName, IdlText, ProgramName, ProgramText}
use Rattle.gs_verbs.proofs.Stores.{has_one}
use Rattle.gs_run.specs.Ready.{IsOwn, IsOther, Finds, HasResults, MayRun}
use Rattle.gs_run.specs.Sources.{HasSources, FirstMissing, FirstLong}
use Rattle.gs_run.specs.Texts.{IsBeyond}
use Rattle.gs_run.specs.declared.kinds.TextKind.{TextKind}

pub some_none : (o : Option (List ℕ)) (b : List ℕ) → o ≡ Some b → o ≡ None → ⊥
some_none o b s n = let e : Some b ≡ None = sym s ∙ n in absurd cc

pub bytes_are : (a b : List ℕ) → Some a ≡ Some b → a ≡ b
bytes_are a b e = cc

pub not_beyond : (file : Option (List ℕ)) (text : List ℕ) → file ≡ Some text → length text ≤ 65536
    → IsBeyond file → ⊥
not_beyond file text there short b =
    let same : text ≡ b.0 = bytes_are text b.0 (sym there ∙ b.1) in
    let long : 65536 < length text = subst (λ (l : List ℕ). 65536 < length l) (sym same) b.2 in
    omega arith

pub sources_there : (f : Folder) (i p name : List ℕ) (t : Texts) → HasSources f i p t
    → FirstMissing f i p name → ⊥
sources_there f i p name t s (inl a) = some_none (f i) t.idl s.idl_there a.1
sources_there f i p name t s (inr a) = some_none (f p) t.program s.program_there a.2

pub sources_short : (f : Folder) (i p name : List ℕ) (line : ℕ) (k : TextKind) (t : Texts)
    → HasSources f i p t → FirstLong f i p name line k → ⊥
sources_short f i p name line k t s (inl a) = not_beyond (f i) t.idl s.idl_there s.idl_short a.3
sources_short f i p name line k t s (inr a) =
    not_beyond (f p) t.program s.program_there s.program_short a.4

-- the folder holds one pair of texts
pub one_texts : (f : Folder) (i p : List ℕ) (t u : Texts) → HasSources f i p t → HasSources f i p u
    → t ≡ u
one_texts f i p t u a b =
    let idl_name : t.idl_name ≡ u.idl_name = a.idl_name ∙ sym b.idl_name in
    let idl : t.idl ≡ u.idl = bytes_are t.idl u.idl (sym a.idl_there ∙ b.idl_there) in
    let program_name : t.program_name ≡ u.program_name = a.program_name ∙ sym b.program_name in
    let program : t.program ≡ u.program =
    bytes_are t.program u.program (sym a.program_there ∙ b.program_there) in
    ap (λ (x : List ℕ). texts x t.idl t.program_name t.program) idl_name
    ∙ ap (λ (x : List ℕ). texts u.idl_name x t.program_name t.program) idl
    ∙ ap (λ (x : List ℕ). texts u.idl_name u.idl x t.program) program_name
    ∙ ap (λ (x : List ℕ). texts u.idl_name u.idl u.program_name x) program
  where
    texts : (a b c d : List ℕ) → Texts
    texts a b c d = record { idl_name = a; idl = b; program_name = c; program = d }

pub not_both : (f : Folder) (i p : List ℕ) (t : Texts) → HasResults f i p → MayRun f i p t → ⊥
not_both f i p t has may = may.goes_on (subst (λ (es : List Recorded). HasEnded (stage_of es))
    (has_one f has.store may.store has.finds.found may.finds.found) has.ended)

same_differ : (what : What) (t : Texts) → DifferFirst what t t → ⊥
same_differ IdlName t d = d refl
same_differ IdlText t d = d.1 refl
same_differ ProgramName t d = d.2 refl
same_differ ProgramText t d = d.3 refl

texts_are : (a b : Texts) → Some a ≡ Some b → a ≡ b
texts_are a b e = cc

-- a store of the folder's texts isn't of others
pub not_other : (f : Folder) (i p : List ℕ) (what : What) (t : Texts) (store : StoreState)
    → Finds f i p t store → IsOther f i p what → ⊥
not_other f i p what t store finds other =
    let es = has_one f other.store store other.found finds.found in
    let same = one_texts f i p other.texts t other.sources finds.sources in
    by_own es same finds.own
  where
    by_own : other.store.entries ≡ store.entries → other.texts ≡ t → IsOwn store.entries t → ⊥
    by_own es same (inl fresh) =
        other.other.begun (ap (λ (l : List Recorded). stage_of l) es ∙ fresh)
    by_own es same (inr own) =
        let kept : other.other.kept ≡ other.texts = texts_are other.other.kept other.texts
        (sym other.other.recorded
        ∙ ap (λ (l : List Recorded). texts_of l) es ∙ own
        ∙ ap (λ (x : Texts). Some x) (sym same)) in
        same_differ what other.texts (subst (λ (x : Texts). DifferFirst what x other.texts) kept
        other.other.differ)
