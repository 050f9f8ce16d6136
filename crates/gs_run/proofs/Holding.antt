-- A folder that stands for a run holds its texts, and a store of theirs.
use Rattle.std.proofs.Common.{◌≡◌, ◌≢◌, ◌⊎◌, ℕ, zero, suc, Bool, true, false, ◌||◌, List, [], ◌∷◌, ◌++◌, Option, Some, None, refl, sym, ap, subst, ◌∙◌, inl, inr}
use Rattle.std.specs.Prelude.{map, option_map, bytes_eq, is_some, slice_get, slice_index_or, if◌then◌else◌}
use Rattle.std.specs.List.{list_any}
use Rattle.std.proofs.lemmas.Slice.Eq.{bytes_eq-Decides}
use Rattle.gs_types.specs.declared.note.FinalNote.{FinalNote}
use Rattle.gs_back.specs.Finals.{names_of, finals_in}
use Rattle.gs_back.proofs.Fitting.{user_name}
use Rattle.gs_disk.specs.Folder.{Folder, Outside}
use Rattle.gs_log.specs.Names.{mark_name}
use Rattle.gs_entries.specs.Order.{stage_of}
use Rattle.gs_entries.specs.declared.entry.Entry.{Entry}
use Rattle.gs_entries.specs.declared.entry.GateNote.{GateNote}
use Rattle.gs_names.specs.Writes.{with_name}
use Rattle.gs_store.specs.Ordered.{HasEnded}
use Rattle.gs_talk.specs.Talk.{Given, is_own_text}
use Rattle.gs_talk.specs.Seq.{Run, Known}
use Rattle.gs_talk_laws.specs.Versions.{Written, writings}
use Rattle.gs_own_texts.specs.Apart.{IsApart}
use Rattle.gs_own_texts.proofs.Staying.{own_stay, own_unwritten}
use Rattle.gs_history.specs.Setup.{Setup, world_at}
use Rattle.gs_tables.specs.Gate.{AreFinals, written_names}
use Rattle.gs_tables.specs.Marks.{with_names}
use Rattle.gs_life.specs.Origin.{Origin, contents, run_of, UsersAre}
use Rattle.gs_life.specs.Stands.{IsGateOf, Stands, Fresh, Running, Gated, Closed}
use Rattle.gs_run.specs.Course.{IsRunOf}
use Rattle.gs_run.specs.Ran.{HasWorkers, IsServed}
use Rattle.gs_run.specs.Ready.{Finds, HasResults}
use Rattle.gs_run.specs.Served.{HasList}
use Rattle.gs_run.specs.Sources.{HasSources}
use Rattle.gs_run.specs.Unserved.{unserved}
use Rattle.gs_run.proofs.Sound.{store_of, stored}

-- ---- the texts' names

same_bytes : (x : List ℕ) → bytes_eq x x ≡ true
same_bytes x = (bytes_eq-Decides x x).1 refl

or_right : (a b : Bool) → b ≡ true → (a || b) ≡ true
or_right true b is = refl
or_right false b is = is

idl_is_own : (o : Origin) (i p : List ℕ) → IsRunOf o i p → is_own_text o.given i ≡ true
idl_is_own o i p run = subst (λ (g : Given). is_own_text g i ≡ true) (sym run.given)
    (ap (λ (b : Bool). b || bytes_eq i p) (same_bytes i))

program_is_own : (o : Origin) (i p : List ℕ) → IsRunOf o i p → is_own_text o.given p ≡ true
program_is_own o i p run = subst (λ (g : Given). is_own_text g p ≡ true) (sym run.given)
    (or_right (bytes_eq p i) (bytes_eq p p) (same_bytes p))

-- ---- names that aren't written

outside_push : (x y : List ℕ) (xs : List (List ℕ)) → Outside xs x → x ≢ y → Outside (xs ++ y ∷ []) x
outside_push x y [] out differ = (differ, tt)
outside_push x y (z ∷ xs) out differ = (out.0, outside_push x y xs out.1 differ)

outside_with : (x y : List ℕ) (xs : List (List ℕ)) (b : Bool) → Outside xs x → x ≢ y
    → Outside (if b then xs else xs ++ y ∷ []) x
outside_with x y xs true out differ = out
outside_with x y xs false out differ = outside_push x y xs out differ

outside_all : (x : List ℕ) (xs ys : List (List ℕ)) → Outside xs x → IsApart x ys
    → Outside (with_names xs ys) x
outside_all x xs [] out apart = out
outside_all x xs (y ∷ ys) out apart = outside_all x (with_name xs y) ys
    (outside_with x y xs (list_any (bytes_eq y) xs) out apart.0) apart.1

at_place : (names : List (List ℕ)) (i : ℕ) (x : List ℕ)
    → slice_get names i ≡ Some x
    → slice_index_or names i [] ≡ x
at_place [] i x is = absurd cc
at_place (y ∷ names) zero x is = cc
at_place (y ∷ names) (suc i) x is = at_place names i x is

final_names : (s : Setup) (k : ℕ) (names xs : List (List ℕ)) (fs : List FinalNote)
    → AreFinals s k names xs fs → names_of (finals_in names fs) ≡ xs
final_names s k names [] [] are = refl
final_names s k names [] (f ∷ fs) are = absurd are
final_names s k names (x ∷ xs) [] are = absurd are
final_names s k names (x ∷ xs) (f ∷ fs) are =
    ap (λ (l : List (List ℕ)). slice_index_or names f.name [] ∷ l)
    (final_names s k names xs fs are.1)
    ∙ ap (λ (y : List ℕ). y ∷ xs) (at_place names f.name x are.0.name)

-- ---- what stands under an own text's name

bytes_held : (o : Option (List ℕ)) (b : List ℕ) → option_map Known o ≡ Some (Known b) → o ≡ Some b
bytes_held (Some x) b e = let same : x ≡ b = cc in ap (λ (y : List ℕ). Some y) same
bytes_held None b e = absurd cc

-- a run of the origin has its own texts
texts_of_run : (o : Origin) (s : Setup) → s.run ≡ run_of o s.run.fuel → (x : List ℕ)
    → is_own_text o.given x ≡ true → is_own_text s.run.texts x ≡ true
texts_of_run o s is x own = subst (λ (r : Run). is_own_text r.texts x ≡ true) (sym is) own

gated_holds : (o : Origin) (f : Folder) (g : GateNote) (x : List ℕ) → IsGateOf o f g
    → is_own_text o.given x ≡ true
    → Outside (names_of (finals_in g.names g.finals)) x
gated_holds o f g x gate own =
    let s = gate.setup in
    subst (λ (l : List (List ℕ)). Outside l x)
    (sym (final_names s gate.questions g.names (written_names (writings s.run gate.questions))
    g.finals gate.says.gated.finals_are))
    (outside_all x [] (map (λ (w : Written). w.name) (writings s.run gate.questions)) tt
    (own_unwritten s.run x (texts_of_run o s gate.run_is x own) gate.questions))

closed_holds : (o : Origin) (f : Folder) (g : GateNote) (x b : List ℕ) → (gate : IsGateOf o f g)
    → is_own_text o.given x ≡ true → contents f x ≡ (world_at gate.setup gate.questions).files x
    → o.files x ≡ Some b → f x ≡ Some b
closed_holds o f g x b gate own left first =
    let s = gate.setup in
    bytes_held (f x) b
    (left ∙ own_stay s.run x (texts_of_run o s gate.run_is x own) gate.questions
    ∙ ap (λ (r : Run). r.files x) gate.run_is ∙ ap (option_map Known) first)

-- ---- the folder

sources_of : (o : Origin) (i p : List ℕ) (f : Folder) → IsRunOf o i p
    → f i ≡ Some o.texts.idl → f p ≡ Some o.texts.program → HasSources f i p o.texts
sources_of o i p f run idl program = record {
  idl_name = run.idl_name;
  program_name = run.program_name;
  idl_there = idl;
  program_there = program;
  idl_short = run.says.short;
  program_short = run.is_text.short;
}

users_hold : (o : Origin) (i p : List ℕ) (f : Folder) → IsRunOf o i p → UsersAre o f
    → HasSources f i p o.texts
users_hold o i p f run users = sources_of o i p f run
    (users i (user_name i run.idl_is_name) ∙ run.has_idl)
    (users p (user_name p run.program_is_name) ∙ run.has_program)

-- a run whose workers are listed is served
served : (o : Origin) (i p w : List ℕ) (f : Folder) (es : List Entry) → IsRunOf o i p
    → Finds f i p o.texts (record { marked = is_some (f mark_name); entries = es })
    → (HasEnded (stage_of es) → ⊥) → HasWorkers o (f w)
    → IsServed f i p w
served o i p w f es run finds goes has = (
  o.texts,
  record {
    store = record { marked = is_some (f mark_name); entries = es };
    finds = finds;
    goes_on = goes;
  },
  (
    run.interface,
    run.tree,
    has.list,
    record {
      both = record {
        interface = record { text = o.texts.idl; there = refl; says = run.says };
        program = record { text = o.texts.program; there = refl; says = run.is_text };
        passes = run.passes;
      };
      list = subst (λ (g : Given). HasList g.ops (f w) has.list) run.given has.listed;
      all = subst (λ (g : Given). unserved g.ops has.list g.program.body ≡ None) run.given has.all;
    },
  ),
)

pub finds : (o : Origin) (i p w : List ℕ) (f : Folder) → IsRunOf o i p → Stands o f
    → HasResults f i p ⊎ (HasWorkers o (f w) → IsServed f i p w)
finds o i p w f run (Fresh has fresh) =
    inr (served o i p w f [] run (record {
      sources = users_hold o i p f run fresh.users;
      found = store_of f [] has tt tt;
      own = inl refl;
    }) (λ ended. ended))
finds o i p w f run (Running es has r) =
    inr (served o i p w f es run (record {
      sources = users_hold o i p f run r.users;
      found = stored o i p f (Running es has r) run;
      own = inr r.are.header;
    }) (λ ended. subst HasEnded r.stage ended))
finds o i p w f run (Gated es has g) = inl (record {
  texts = o.texts;
  store = record { marked = is_some (f mark_name); entries = es };
  finds = record {
    sources = sources_of o i p f run
        (g.users i (user_name i run.idl_is_name)
        (gated_holds o f g.note i g.gate (idl_is_own o i p run)) ∙ run.has_idl)
        (g.users p (user_name p run.program_is_name)
        (gated_holds o f g.note p g.gate (program_is_own o i p run)) ∙ run.has_program);
    found = stored o i p f (Gated es has g) run;
    own = inr g.are.header;
  };
  ended = subst HasEnded (sym g.stage) tt;
})
finds o i p w f run (Closed es has c) = inl (record {
  texts = o.texts;
  store = record { marked = is_some (f mark_name); entries = es };
  finds = record {
    sources = sources_of o i p f run
        (closed_holds o f c.note i o.texts.idl c.gate (idl_is_own o i p run)
        (c.left i (user_name i run.idl_is_name)) run.has_idl)
        (closed_holds o f c.note p o.texts.program c.gate (program_is_own o i p run)
        (c.left p (user_name p run.program_is_name)) run.has_program);
    found = stored o i p f (Closed es has c) run;
    own = inr c.are.header;
  };
  ended = subst HasEnded (sym c.stage) tt;
})
