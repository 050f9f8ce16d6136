-- Finals that are set one after the other.
use Rattle.std.proofs.Common.{◌≡◌, ◌≢◌, ℕ, zero, suc, ◌+◌, ◌<◌, ◌≤◌, List, [], ◌∷◌, ◌++◌, length, get_or, take, drop, Option, Some, None, Result, Ok, Err, refl, sym, ap, subst, ◌∙◌, arith}
use Rattle.std.specs.Prelude.{OnOk, IfErr, IsOk, slice_get, slice_index_or}
use Rattle.std.proofs.lemmas.Option.{get_or_from_slice_get}
use Rattle.std.proofs.lemmas.List.{take_more, take_all}
use Rattle.gs_types.specs.declared.note.FinalNote.{FinalNote}
use Rattle.gs_types.specs.declared.note.Version.{Version}
use Rattle.gs_disk.specs.Folder.{Folder, DiskState, Outside, KeepsOthers, Same}
use Rattle.gs_disk.specs.Moments.{LeavesOnly, EachNow, Passes, Always}
use Rattle.gs_disk.specs.Going.{AreAmong, always_started, always_goes_on, always_same, keeps_same, same_started}
use Rattle.gs_entries.specs.declared.entry.Entry.{Entry}
use Rattle.gs_entries.specs.declared.entry.GateNote.{GateNote}
use Rattle.gs_store.specs.Apart.{user_not_version}
use Rattle.gs_store.specs.Keeps.{Base, Keeps, keeps_free, outside_users}
use Rattle.gs_store.specs.Names.{version_name, IsKept}
use Rattle.gs_store.specs.Ordered.{gate_in}
use Rattle.gs_store.specs.Spans.{TouchesOnly}
use Rattle.gs_store.specs.Versions.{Kept, IsStanding, AllStand, len_of, IsFirstLost}
use Rattle.gs_back.specs.Finals.{Final, final_of, finals_in, finals_at, finals_of, names_of, kept_of, AreSet}
use Rattle.gs_back.specs.Told.{RefusesFile, RefusesFinals, HasCause, WritesBack, MeetsNoFault}
use Rattle.gs_back.specs.declared.err.BackErr.{BackErr}
use Rattle.gs_back.specs.declared.err.BackErr.TheVariants.{Lost, Fault, Memory}
use Rattle.gs_back.proofs.Copies.{then_touches, none_touched}
use Rattle.gs_back.proofs.Fitting.{IsGate, fresh, is_final, users}

-- ---- lists that grow

finals_push : (names : List (List ℕ)) (fs : List FinalNote) (f : FinalNote)
    → finals_in names (fs ++ f ∷ []) ≡ finals_in names fs ++ final_of names f ∷ []
finals_push names [] f = refl
finals_push names (x ∷ fs) f =
    ap (λ (l : List Final). final_of names x ∷ l) (finals_push names fs f)

finals_more : (names : List (List ℕ)) (fs : List FinalNote) (i : ℕ) (f : FinalNote)
    → i < length fs → f ≡ get_or fs i f
    → finals_in names (take (i + 1) fs) ≡ finals_in names (take i fs) ++ final_of names f ∷ []
finals_more names fs i f lt is =
    ap (finals_in names) (take_more fs i f lt
    ∙ ap (λ (x : FinalNote). take i fs ++ x ∷ []) (sym is))
    ∙ finals_push names (take i fs) f

set_push : (fs : List Final) (f : Final) (old new : Folder) → AreSet fs old new
    → new f.name ≡ old (version_name f.version) → AreSet (fs ++ f ∷ []) old new
set_push [] f old new set is = (is, tt)
set_push (x ∷ fs) f old new set is = (set.0, set_push fs f old new set.1 is)

-- a file beside them is made
set_stays : (fs : List Final) (name : List ℕ) (old now new : Folder)
    → Outside (names_of fs) name
    → KeepsOthers (name ∷ []) now new → AreSet fs old now → AreSet fs old new
set_stays [] name old now new out step set = tt
set_stays (f ∷ fs) name old now new out step set = (
  step.each f.name (λ same. out.0 (sym same), tt) ∙ set.0,
  set_stays fs name old now new out.1 step set.1,
)

stand_push : (folder : Folder) (fs : List Final) (f : Final) → AllStand folder (kept_of fs)
    → IsStanding folder f.version f.len → AllStand folder (kept_of (fs ++ f ∷ []))
stand_push folder [] f all is = (is, tt)
stand_push folder (x ∷ fs) f all is = (all.0, stand_push folder fs f all.1 is)

name_among : (names : List (List ℕ)) (fs : List FinalNote) (i : ℕ) (f : FinalNote)
    → i < length fs → f ≡ get_or fs i f
    → AreAmong (slice_index_or names f.name [] ∷ []) (names_of (finals_in names fs))
name_among names fs i f lt is x out = (out_at names fs i f x lt is out, tt)
  where
    out_at : (names : List (List ℕ)) (fs : List FinalNote) (i : ℕ) (f : FinalNote)
        (x : List ℕ)
        → i < length fs → f ≡ get_or fs i f → Outside (names_of (finals_in names fs)) x
        → x ≢ slice_index_or names f.name []
    out_at names [] i f x lt is out = absurd (omega arith)
    out_at names (g ∷ fs) zero f x lt is out =
        λ same. out.0 (same ∙ ap (λ (h : FinalNote). slice_index_or names h.name []) is)
    out_at names (g ∷ fs) (suc i) f x lt is out = out_at names fs i f x (omega arith) is out.1

-- ---- one final more

-- what was set of a gate's finals
pub record AreSetTo (g : GateNote) (i : ℕ) (a b : DiskState) : Type 0 where
  pub touches : TouchesOnly (names_of (finals_in g.names g.finals)) a b
  pub set : AreSet (finals_in g.names (take i g.finals)) a.folder b.folder
  pub stood : AllStand a.folder (kept_of (finals_in g.names (take i g.finals)))

-- the file of a version reads as before
pub version_stays : (g : GateNote) (v : Version) (a b : DiskState) → IsGate g → IsKept v
    → TouchesOnly (names_of (finals_in g.names g.finals)) a b
    → b.folder (version_name v) ≡ a.folder (version_name v)
version_stays g v a b gate kept touches =
    touches.reads.each (version_name v)
    (outside_users (names_of (finals_in g.names g.finals)) (version_name v) (users g gate)
    (λ u user. user_not_version u v kept user))

pub touches_more : (g : GateNote) (i : ℕ) (f : FinalNote) (a b c : DiskState)
    → i < length g.finals
    → f ≡ get_or g.finals i f → TouchesOnly (names_of (finals_in g.names g.finals)) a b
    → TouchesOnly (slice_index_or g.names f.name [] ∷ []) b c
    → TouchesOnly (names_of (finals_in g.names g.finals)) a c
touches_more g i f a b c lt is one two =
    then_touches (names_of (finals_in g.names g.finals)) (slice_index_or g.names f.name [] ∷ [])
    a b c (name_among g.names g.finals i f lt is) one two

stands_then : (then now : Folder) (v : Version) (len : ℕ)
    → now (version_name v) ≡ then (version_name v) → IsStanding now v len
    → IsStanding then v len
stands_then then now v len same stands =
    ap (λ (o : Option (List ℕ)). len_in o) (sym same) ∙ stands
  where
    len_in : Option (List ℕ) → Option ℕ
    len_in None = None
    len_in (Some bytes) = Some (length bytes)

pub set_more : (g : GateNote) (i : ℕ) (f : FinalNote) (a b c : DiskState) → IsGate g
    → i < length g.finals → f ≡ get_or g.finals i f → AreSetTo g i a b
    → TouchesOnly (slice_index_or g.names f.name [] ∷ []) b c
    → c.folder (slice_index_or g.names f.name []) ≡ b.folder (version_name f.version)
    → IsStanding b.folder f.version f.len → AreSetTo g (i + 1) a c
set_more g i f a b c gate lt is so_far touches set stands =
    let kept = (is_final g i f gate lt is).kept in
    let same = version_stays g f.version a b gate kept so_far.touches in
    let more = sym (finals_more g.names g.finals i f lt is) in
    let before = finals_in g.names (take i g.finals) in
    let name = slice_index_or g.names f.name [] in
    record {
      touches = touches_more g i f a b c lt is so_far.touches touches;
      set = subst (λ (l : List Final). AreSet l a.folder c.folder) more
          (set_push before (final_of g.names f) a.folder c.folder
          (set_stays before name a.folder b.folder c.folder (fresh g i f gate lt is) touches.reads
          so_far.set) (set ∙ same));
      stood = subst (λ (l : List Final). AllStand a.folder (kept_of l)) more
          (stand_push a.folder before (final_of g.names f) so_far.stood
          (stands_then a.folder b.folder f.version f.len same stands));
    }

pub all_set : (g : GateNote) (i : ℕ) (a b : DiskState) → length g.finals ≤ i
    → AreSetTo g i a b
    → AreSet (finals_in g.names g.finals) a.folder b.folder
all_set g i a b le so_far =
    subst (λ (fs : List FinalNote). AreSet (finals_in g.names fs) a.folder b.folder)
    (take_all i g.finals le) so_far.set

pub all_stood : (g : GateNote) (i : ℕ) (a b : DiskState) → length g.finals ≤ i
    → AreSetTo g i a b → AllStand a.folder (kept_of (finals_in g.names g.finals))
all_stood g i a b le so_far =
    subst (λ (fs : List FinalNote). AllStand a.folder (kept_of (finals_in g.names fs)))
    (take_all i g.finals le) so_far.stood

-- ---- one whose version is lost

kept_split : (names : List (List ℕ)) (fs : List FinalNote) (i : ℕ) (f : FinalNote)
    → i < length fs → f ≡ get_or fs i f
    → kept_of (finals_in names fs) ≡ kept_of (finals_in names (take i fs))
    ++ (f.version, f.len) ∷ kept_of (finals_in names (drop (suc i) fs))
kept_split names [] i f lt is = absurd (omega arith)
kept_split names (x ∷ fs) zero f lt is =
    ap (λ (h : FinalNote). kept_of (finals_in names (h ∷ fs))) (sym is)
kept_split names (x ∷ fs) (suc i) f lt is =
    ap (λ (l : List Kept). (x.version, x.len) ∷ l) (kept_split names fs i f (omega arith) is)

pair_is : (v w : Version) (n m : ℕ) → v ≡ w → n ≡ m
    → let a : Kept = (v, n) in let b : Kept = (w, m) in a ≡ b
pair_is v w n m p q = λ i. (p i, q i)

pub refuses : (g : GateNote) (i : ℕ) (f : FinalNote) (a b : DiskState) (e : BackErr) → IsGate g
    → i < length g.finals → f ≡ get_or g.finals i f → AreSetTo g i a b
    → RefusesFile b.folder f.version f.len e
    → RefusesFinals a.folder (finals_in g.names g.finals) e
refuses g i f a b (Lost v kept found) gate lt is so_far h =
    let same = version_stays g f.version a b gate (is_final g i f gate lt is).kept so_far.touches in
    record {
      before = kept_of (finals_in g.names (take i g.finals));
      behind = kept_of (finals_in g.names (drop (suc i) g.finals));
      parts = kept_split g.names g.finals i f lt is
          ∙ ap (λ (k : Kept). kept_of (finals_in g.names (take i g.finals))
          ++ k ∷ kept_of (finals_in g.names (drop (suc i) g.finals)))
          (sym (pair_is v f.version kept f.len h.0 h.1));
      fine = so_far.stood;
      is = h.2 ∙ len_same b.folder a.folder f.version same ∙ ap (len_of a.folder) (sym h.0);
      lost = λ e. h.3 (e ∙ ap (λ (n : ℕ). Some n) h.1);
    }
  where
    len_same : (now then : Folder) (v : Version) → now (version_name v) ≡ then (version_name v)
        → len_of now v ≡ len_of then v
    len_same now then v same = cc
refuses g i f a b Fault gate lt is so_far h = tt
refuses g i f a b Memory gate lt is so_far h = tt

-- ---- all of them

keeps_on : (es : List Entry) (g : GateNote) (a b : DiskState) → IsGate g
    → TouchesOnly (names_of (finals_in g.names g.finals)) a b → (base : Base)
    → AreAmong (names_of (finals_in g.names g.finals)) base.free → EachNow (Keeps base es) a
    → Always (Keeps base es) a b
keeps_on es g a b gate touches base free stands =
    let names = names_of (finals_in g.names g.finals) in
    always_goes_on (Keeps base es) (KeepsOthers names) a a b
    (always_started (Keeps base es) a stands) touches.images
    (λ f h left k step. keeps_free base es names f h (users g gate) free k step)

writes_at : {T : Type 0} (r : Result T BackErr) (es : List Entry) (o : Option GateNote)
    (g : GateNote) (a b d : DiskState) → gate_in es ≡ o → o ≡ Some g → IsGate g
    → TouchesOnly (names_of (finals_in g.names g.finals)) a b → Passes Same b d
    → d.folder ≡ b.folder → OnOk r (AreSet (finals_in g.names g.finals) a.folder d.folder)
    → OnOk r (LeavesOnly d.folder d) → WritesBack es a d r
writes_at r es o g a b d at is gate touches passes same set only =
    let finals : finals_of es ≡ finals_in g.names g.finals = ap finals_at (at ∙ is) in
    let names = ap names_of finals in
    record {
      any_moment = λ base free stands. always_same (Keeps base es) a b d
          (keeps_on es g a b gate touches base
          (subst (λ (l : List (List ℕ)). AreAmong l base.free) names free) stands) passes;
      set = subst (λ (l : List Final). OnOk r (AreSet l a.folder d.folder)) (sym finals) set;
      only = only;
      others = subst (λ (l : List (List ℕ)). KeepsOthers l a.folder d.folder) (sym names)
          (record { each = λ x out. ap (λ (f : Folder). f x) same ∙ touches.reads.each x out });
      images = subst (λ (l : List (List ℕ)). Passes (KeepsOthers l) a d) (sym names)
          (keeps_same (names_of (finals_in g.names g.finals)) a b d touches.images passes);
    }

pub writes : {T : Type 0} (r : Result T BackErr) (es : List Entry) (g : GateNote)
    (a b d : DiskState) → gate_in es ≡ Some g → IsGate g
    → TouchesOnly (names_of (finals_in g.names g.finals)) a b → Passes Same b d
    → d.folder ≡ b.folder → OnOk r (AreSet (finals_in g.names g.finals) a.folder d.folder)
    → OnOk r (LeavesOnly d.folder d) → WritesBack es a d r
writes r es g a b d is gate touches passes same set only =
    writes_at r es (Some g) g a b d is refl gate touches passes same set only

-- some final's version was lost, or the disk failed
pub written_part : (e : BackErr) (es : List Entry) (g : GateNote) (a b : DiskState)
    → gate_in es ≡ Some g → IsGate g
    → TouchesOnly (names_of (finals_in g.names g.finals)) a b
    → WritesBack {T = Unit {0}} es a b (Err e)
written_part e es g a b is gate touches =
    writes (Err e) es g a b b is gate touches (same_started b) refl tt tt

pub stood_so : (es : List Entry) (g : GateNote) (folder : Folder) → gate_in es ≡ Some g
    → AllStand folder (kept_of (finals_in g.names g.finals))
    → AllStand folder (kept_of (finals_of es))
stood_so es g folder is all =
    subst (λ (o : Option GateNote). AllStand folder (kept_of (finals_at o))) (sym is) all

pub refused_so : (es : List Entry) (g : GateNote) (folder : Folder) (e : BackErr)
    → gate_in es ≡ Some g → RefusesFinals folder (finals_in g.names g.finals) e
    → RefusesFinals folder (finals_of es) e
refused_so es g folder e is h =
    subst (λ (o : Option GateNote). RefusesFinals folder (finals_at o) e) (sym is) h

-- ---- by the loop's own list

pub in_finals : (list fs : List FinalNote) (i : ℕ) (f : FinalNote) → list ≡ fs
    → i < length list
    → f ≡ get_or list i f → (i < length fs) × (f ≡ get_or fs i f)
in_finals list fs i f same lt is =
    subst (λ (l : List FinalNote). (i < length l) × (f ≡ get_or l i f)) same (lt, is)

pub named : (names : List (List ℕ)) (i : ℕ) (x : List ℕ) → slice_get names i ≡ Some x
    → x ≡ slice_index_or names i []
named names i x is = sym (get_or_from_slice_get names i x [] is)

pub none_set : (g : GateNote) (s : DiskState) → AreSetTo g 0 s s
none_set g s = record {
  touches = none_touched (names_of (finals_in g.names g.finals)) s;
  set = tt;
  stood = tt;
}

-- ---- that it succeeds

stand_at : (folder : Folder) (before behind : List Kept) (v : Version) (kept : ℕ)
    → AllStand folder (before ++ (v, kept) ∷ behind) → len_of folder v ≡ Some kept
stand_at folder [] behind v kept all = all.0
stand_at folder (k ∷ before) behind v kept all = stand_at folder before behind v kept all.1

not_lost : (folder : Folder) (ks : List Kept) (v : Version) (kept : ℕ) (found : Option ℕ)
    → AllStand folder ks → IsFirstLost folder ks v kept found → ⊥
not_lost folder ks v kept found all first =
    first.lost (first.is
    ∙ stand_at folder first.before first.behind v kept (subst (AllStand folder) first.parts all))

pub complete : {T : Type 0} (r : Result T BackErr) (fs : List Final) (a b : DiskState)
    → IfErr r (RefusesFinals a.folder fs) → HasCause a b r → MeetsNoFault fs a b → IsOk r
complete (Ok x) fs a b refused cause well = refl
complete (Err (Lost v kept found)) fs a b refused cause well =
    absurd (not_lost a.folder (kept_of fs) v kept found well.stand refused)
complete (Err Fault) fs a b refused cause well =
    absurd (well.faults (cause.faults.cause refl))
complete (Err Memory) fs a b refused cause well =
    absurd (well.refusals (cause.refusals.cause refl))
