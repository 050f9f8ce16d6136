-- What was found ready is of the run that the disk stands for.
use Rattle.std.proofs.Common.{◌≡◌, ℕ, List, Some, refl, sym, ◌∙◌, ap, subst, inl, inr}
use Rattle.gs_types.specs.Name.{IsName}
use Rattle.gs_back.proofs.Fitting.{user_name}
use Rattle.gs_disk.specs.Folder.{Folder, DiskState, Same}
use Rattle.gs_disk.specs.Moments.{Leaves, EachNow, Passes}
use Rattle.gs_entries.specs.Order.{stage_of}
use Rattle.gs_entries.specs.declared.entry.Entry.{Entry}
use Rattle.gs_entries.specs.declared.entry.Stage.{Stage}
use Rattle.gs_entries.specs.declared.entry.Stage.TheVariants as stages
use Rattle.gs_entries.specs.declared.entry.Texts.{Texts}
use Rattle.gs_store.specs.Loading.{IsLoaded}
use Rattle.gs_store.specs.Ordered.{texts_of, HasEnded}
use Rattle.gs_store.specs.State.{StoreState}
use Rattle.gs_life.specs.Called.{StandsFor}
use Rattle.gs_life.specs.Origin.{Origin, UsersAre}
use Rattle.gs_life.specs.Stands.{Stands, StandsAt}
use Rattle.gs_life.proofs.Loading.{only_steady, stands_at}
use Rattle.gs_run.specs.Course.{IsRunOf}
use Rattle.gs_run.specs.Halted.{IsOfRun}
use Rattle.gs_run.specs.Ready.{IsOwn, IsReady, IsAtStage}
use Rattle.gs_run.specs.Sources.{HasSources, AreNamed}
use Rattle.gs_run.specs.declared.ready.Ready.{Ready}
use Rattle.gs_run.specs.declared.ready.Ready.TheVariants.{Ended, Going}
use Rattle.gs_run.proofs.Sound.{rules_of}

-- ---- the store

each_same : (P : Folder → Type 0) (s t : DiskState) → Passes Same s t → EachNow P s → EachNow P t
each_same P s t passes each image left =
    let from = passes.now image left in
    subst P (sym from.2.is) (each from.0 from.1)

-- a store that was loaded from a disk that stands
pub stands_for : (o : Origin) (i p : List ℕ) (old mid : DiskState) (store : StoreState)
    → IsRunOf o i p → EachNow (Stands o) old → Passes Same old mid → Leaves mid mid.folder
    → IsLoaded mid store → StandsFor o store.entries mid
stands_for o i p old mid store run stand passes reads loaded = record {
  rules = rules_of o i p run;
  steady = only_steady store.entries mid loaded.found.entries loaded.only;
  stands = stands_at o mid.folder store loaded.found
      (each_same (Stands o) old mid passes stand mid.folder reads);
}

-- ---- the texts

bytes_are : (a b : List ℕ) → Some a ≡ Some b → a ≡ b
bytes_are a b e = cc

texts_are : (a b : Texts) → Some a ≡ Some b → a ≡ b
texts_are a b e = cc

-- the texts in the folder, whose users' files are those at first
fresh_texts : (o : Origin) (i p : List ℕ) (f : Folder) (t : Texts) → IsRunOf o i p → UsersAre o f
    → AreNamed t → HasSources f i p t → o.texts ≡ t
fresh_texts o i p f t run users named s =
    let idl_user = user_name i (subst IsName s.idl_name named.idl) in
    let program_user = user_name p (subst IsName s.program_name named.program) in
    let idl : o.texts.idl ≡ t.idl = bytes_are o.texts.idl t.idl
    (sym run.has_idl ∙ sym (users i idl_user) ∙ s.idl_there) in
    let program : o.texts.program ≡ t.program = bytes_are o.texts.program t.program
    (sym run.has_program ∙ sym (users p program_user) ∙ s.program_there) in
    let idl_name : o.texts.idl_name ≡ t.idl_name = run.idl_name ∙ sym s.idl_name in
    let program_name : o.texts.program_name ≡ t.program_name =
    run.program_name ∙ sym s.program_name in
    ap (λ (x : List ℕ). texts x o.texts.idl o.texts.program_name o.texts.program) idl_name
    ∙ ap (λ (x : List ℕ). texts t.idl_name x o.texts.program_name o.texts.program) idl
    ∙ ap (λ (x : List ℕ). texts t.idl_name t.idl x o.texts.program) program_name
    ∙ ap (λ (x : List ℕ). texts t.idl_name t.idl t.program_name x) program
  where
    texts : (a b c d : List ℕ) → Texts
    texts a b c d = record { idl_name = a; idl = b; program_name = c; program = d }

running_texts : (o : Origin) (es : List Entry) (t : Texts) → stage_of es ≡ stages.Running
    → texts_of es ≡ Some o.texts → IsOwn es t → o.texts ≡ t
running_texts o es t at header (inl fresh) =
    let e : stages.Running ≡ stages.Fresh = sym at ∙ fresh in absurd cc
running_texts o es t at header (inr own) = texts_are o.texts t (sym header ∙ own)

going_texts : (o : Origin) (i p : List ℕ) (f : Folder) (t : Texts) (es : List Entry) (s : Stage)
    → stage_of es ≡ s → (HasEnded s → ⊥) → StandsAt o f es s → IsRunOf o i p → AreNamed t
    → HasSources f i p t → IsOwn es t → o.texts ≡ t
going_texts o i p f t es stages.Fresh at goes_on stands run named s own =
    fresh_texts o i p f t run stands.1.users named s
going_texts o i p f t es stages.Running at goes_on stands run named s own =
    running_texts o es t at stands.are.header own
going_texts o i p f t es stages.Gated at goes_on stands run named s own =
    absurd (goes_on tt)
going_texts o i p f t es stages.Closed at goes_on stands run named s own =
    absurd (goes_on tt)

-- a run that goes on is of the folder's texts
pub is_of_run : (o : Origin) (i p w : List ℕ) (f : Folder) (r : Ready) → IsRunOf o i p → Stands o f
    → IsAtStage r → IsReady f i p w r → IsOfRun o r
is_of_run o i p w f (Ended store) run stands at is = tt
is_of_run o i p w f (Going t store plan) run stands at is =
    going_texts o i p f t store.entries (stage_of store.entries) refl is.1
    (stands_at o f store is.0.found stands) run at.1 is.0.sources is.0.own
