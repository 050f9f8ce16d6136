-- A task truly depends on exactly those tasks whose outputs it reads.
use Rattle.std.proofs.Common.{◌≡◌, ◌+◌, ◌||◌, ℕ, zero, suc, Bool, true, false, refl, sym, ap, ◌∙◌, subst, List, [], ◌∷◌, ◌++◌, length, Option, Some, None, arith, slice_get, if◌then◌else◌, ◌⊎◌, inl, inr, append-nil}
use Rattle.std.specs.Str.{bytes_eq}
use Rattle.std.proofs.lemmas.Slice.Eq.{bytes_eq-Decides}
use Rattle.gs_idl.specs.Interface.{Param, params_at, reads_file, writes_file}
use Rattle.gs_types.specs.declared.note.Version.{Version}
use Rattle.gs_types.specs.declared.note.Version.TheVariants.{Out}
use Rattle.gs_talk.specs.declared.question.CallArg.{CallArg}
use Rattle.gs_talk.specs.declared.question.CallArg.TheVariants as arg
use Rattle.gs_talk.specs.declared.question.Question.{Question}
use Rattle.gs_talk.specs.declared.question.Question.TheVariants.{Call, Use, OpenFile, CloseFile, Barrier, End, Fault, FuelOut}
use Rattle.gs_talk.specs.declared.question.Answer.{Answer}
use Rattle.gs_talk.specs.Talk.{State, Dialogue, Done, Ask, Stop}
use Rattle.gs_talk.specs.Seq.{Run, World, seq, first_refused}
use Rattle.gs_talk.specs.Actions as act
use Rattle.gs_talk.specs.Actions.{Act, cons_if, names_where, unless_refused, act_of, acts_by, acts, is_among, last_writer, IsTaskAct, DependsOn}
use Rattle.gs_talk_laws.specs.Numbers.{at_number}
use Rattle.gs_talk_laws.specs.Uses.{Told}
use Rattle.gs_talk_laws.specs.Versions.{Written, latest, if_goes, read_by, read_next, readings, writings}
use Rattle.gs_talk_laws.specs.Depends.{Wrote, ReadsFrom, ReadsWhatItDependsOn, DependsOnWhatItReads}
use Rattle.gs_talk_laws.proofs.Lists.{get_either, get_last}
use Rattle.gs_talk_laws.proofs.Telling.{seq_told}
use Rattle.gs_talk_laws.proofs.Proper.{IsLast, Proper}
use Rattle.gs_talk_laws.proofs.Renaming.{Readings, next_readings, always_sound}
use Rattle.gs_talk_laws.proofs.Writers.{next_acts, last_writer_wrote}

-- ---- a question that calls, and one that doesn't

pub record Calls (r : Run) (w : World) (d : Dialogue) : Type 0 where
  pub op : ℕ
  pub args : List CallArg
  pub action : acts_by r w d ≡ act.Call (length w.tasks + 1) op (names_where reads_file (params_at r.texts.ops op) args) (names_where writes_file (params_at r.texts.ops op) args) ∷ []
  pub reads : (ws : List Written) → read_next r w ws d ≡ read_by ws (params_at r.texts.ops op) args ∷ []

pub record CallsNot (r : Run) (w : World) (d : Dialogue) : Type 0 where
  pub few : (acts_by r w d ≡ []) ⊎ ((a : Act) × (acts_by r w d ≡ a ∷ []))
  pub no_call : (n op : ℕ) (names written : List (List ℕ)) → acts_by r w d ≡ act.Call n op names written ∷ [] → ⊥
  pub no_reads : (ws : List Written) → read_next r w ws d ≡ []

refused_calls : (r : Run) (w : World) (op : ℕ) (args : List CallArg) (d : Dialogue) → (o : Option Answer) →
    acts_by r w d ≡ unless_refused o (act.Call (length w.tasks + 1) op (names_where reads_file (params_at r.texts.ops op) args) (names_where writes_file (params_at r.texts.ops op) args)) →
    ((ws : List Written) → read_next r w ws d ≡ if_goes o (read_by ws (params_at r.texts.ops op) args ∷ [])) → Calls r w d ⊎ CallsNot r w d
refused_calls r w op args d None e h = inl (record { op = op; args = args; action = e; reads = h })
refused_calls r w op args d (Some a) e h = inr (record { few = inl e; no_call = λ n o names written f. (let g = sym e ∙ f in cc); no_reads = h })

one_silent : (r : Run) (w : World) (d : Dialogue) (a : Act) → acts_by r w d ≡ a ∷ [] → ((n op : ℕ) (names written : List (List ℕ)) → a ≡ act.Call n op names written → ⊥) → ((ws : List Written) → read_next r w ws d ≡ []) → CallsNot r w d
one_silent r w d a e h k = record { few = inr (a, e); no_call = λ n op names written f. h n op names written (let g = sym e ∙ f in cc); no_reads = k }

none_silent : (r : Run) (w : World) (d : Dialogue) → acts_by r w d ≡ [] → ((ws : List Written) → read_next r w ws d ≡ []) → CallsNot r w d
none_silent r w d e k = record { few = inl e; no_call = λ n op names written f. (let g = sym e ∙ f in cc); no_reads = k }

asks_calls : (r : Run) (w : World) (q : Question) (s : State) (next : Answer → Dialogue) → Calls r w (Ask q s next) ⊎ CallsNot r w (Ask q s next)
asks_calls r w (Call op line args) s next = refused_calls r w op args (Ask (Call op line args) s next) (first_refused w.files (params_at r.texts.ops op) args) refl (λ ws. refl)
asks_calls r w (Use n place) s next = inr (one_silent r w (Ask (Use n place) s next) (act.Use n place) refl (λ m op names written e. cc) (λ ws. refl))
asks_calls r w (OpenFile x mode line) s next = inr (one_silent r w (Ask (OpenFile x mode line) s next) (act.Read x) refl (λ m op names written e. cc) (λ ws. refl))
asks_calls r w (CloseFile x bytes) s next = inr (one_silent r w (Ask (CloseFile x bytes) s next) (act.Write x) refl (λ m op names written e. cc) (λ ws. refl))
asks_calls r w Barrier s next = inr (one_silent r w (Ask Barrier s next) act.Barrier refl (λ m op names written e. cc) (λ ws. refl))
asks_calls r w End s next = inr (one_silent r w (Ask End s next) act.Ends refl (λ m op names written e. cc) (λ ws. refl))
asks_calls r w (Fault line fault) s next = inr (none_silent r w (Ask (Fault line fault) s next) refl (λ ws. refl))
asks_calls r w FuelOut s next = inr (none_silent r w (Ask FuelOut s next) refl (λ ws. refl))

stop_silent : (r : Run) (w : World) (q : Question) (s : State) → IsLast q → CallsNot r w (Stop q s)
stop_silent r w End s last = one_silent r w (Stop End s) act.Ends refl (λ m op names written e. cc) (λ ws. refl)
stop_silent r w (Fault line fault) s last = none_silent r w (Stop (Fault line fault) s) refl (λ ws. refl)
stop_silent r w FuelOut s last = none_silent r w (Stop FuelOut s) refl (λ ws. refl)
stop_silent r w (Call op line args) s last = absurd last
stop_silent r w (Use n place) s last = absurd last
stop_silent r w (OpenFile x mode line) s last = absurd last
stop_silent r w (CloseFile x bytes) s last = absurd last
stop_silent r w Barrier s last = absurd last

calls_or_not : (r : Run) (w : World) (told : Told) (d : Dialogue) → Proper r.texts.ops told d → Calls r w d ⊎ CallsNot r w d
calls_or_not r w told (Done n s) p = inr (none_silent r w (Done n s) refl (λ ws. refl))
calls_or_not r w told (Ask q s next) p = asks_calls r w q s next
calls_or_not r w told (Stop q s) p = inr (stop_silent r w q s p)

at_moment : (r : Run) (m : ℕ) → Calls r (seq r m).world (seq r m).rest ⊎ CallsNot r (seq r m).world (seq r m).rest
at_moment r m = let t = seq_told r m in calls_or_not r (seq r m).world t.told (seq r m).rest t.proper

-- ---- the moment of an action

nil_cons : (before after : List Act) (x : Act) → [] ≡ before ++ x ∷ after → ⊥
nil_cons [] after x e = cc
nil_cons (b ∷ before) after x e = cc

cons_both : (a b : Act) (xs ys : List Act) → a ∷ xs ≡ b ∷ ys → (a ≡ b) × (xs ≡ ys)
cons_both a b xs ys e = (cc, cc)

cons_same : (a b : Act) (xs ys : List Act) → a ≡ b → xs ≡ ys → a ∷ xs ≡ b ∷ ys
cons_same a b xs ys e f = cc

last_split : (before xs after : List Act) (a x : Act) → xs ++ a ∷ [] ≡ before ++ x ∷ after → ((xs ≡ before) × (a ≡ x)) ⊎ ((rest : List Act) × (xs ≡ before ++ x ∷ rest))
last_split [] [] after a x e = inl (refl, (cons_both a x [] after e).0)
last_split [] (y ∷ ys) after a x e = inr (ys, cons_same y x ys ys (cons_both y x (ys ++ a ∷ []) after e).0 refl)
last_split (b ∷ before) [] after a x e = absurd (nil_cons before after x (cons_both a b [] (before ++ x ∷ after) e).1)
last_split (b ∷ before) (y ∷ ys) after a x e =
    let is = cons_both y b (ys ++ a ∷ []) (before ++ x ∷ after) e in
    elim (last_split before ys after a x is.1) [
      | inl h ↦ inl (cons_same y b ys before is.0 h.0, h.1)
      | inr h ↦ inr (h.0, cons_same y b ys (before ++ x ∷ h.0) is.0 h.1)
    ]

-- an action comes at some moment, after those before it
pub record Moment (r : Run) (before : List Act) (x : Act) : Type 0 where
  pub moment : ℕ
  pub earlier : acts r moment ≡ before
  pub here : acts_by r (seq r moment).world (seq r moment).rest ≡ x ∷ []

few_acts : (r : Run) (m : ℕ) → (acts_by r (seq r m).world (seq r m).rest ≡ []) ⊎ ((a : Act) × (acts_by r (seq r m).world (seq r m).rest ≡ a ∷ []))
few_acts r m = elim (at_moment r m) [ inl h ↦ inr (_, h.action) | inr h ↦ h.few ]

no_acts : (r : Run) → acts r zero ≡ []
unfolding acts
no_acts r = refl

moment_of : (r : Run) (k : ℕ) (before : List Act) (x : Act) (after : List Act) → acts r k ≡ before ++ x ∷ after → Moment r before x
moment_of r zero before x after e = absurd (nil_cons before after x (sym (no_acts r) ∙ e))
moment_of r (suc k) before x after e = elim (few_acts r k) [
  | inl none ↦ moment_of r k before x after (sym (append-nil (acts r k)) ∙ ap (λ l. acts r k ++ l) (sym none) ∙ sym (next_acts r k) ∙ e)
  | inr one ↦ elim (last_split before (acts r k) after one.0 x (ap (λ l. acts r k ++ l) (sym one.1) ∙ sym (next_acts r k) ∙ e)) [
    | inl h ↦ record { moment = k; earlier = h.0; here = one.1 ∙ ap (λ a. a ∷ []) h.1 }
    | inr h ↦ moment_of r k before x h.0 h.1
  ]
]

-- ---- names and versions

same_itself : (x : List ℕ) → bytes_eq x x ≡ true
same_itself x = (bytes_eq-Decides x x).1 refl

-- the latest version of a name is read at some place
abbrev IsReadAt : List Written → (name : List ℕ) → List (Option Version) → Type 0
IsReadAt ws name reads = (p : ℕ) × (slice_get reads p ≡ Some (Some (latest name ws)))

one_later : (ws : List Written) (name : List ℕ) (o : Option Version) (reads : List (Option Version)) → IsReadAt ws name reads → IsReadAt ws name (o ∷ reads)
one_later ws name o reads h = (suc h.0, h.1)

name_read : (ws : List Written) (x name : List ℕ) (reads : List (Option Version)) (rest : Bool) → (rest ≡ true → IsReadAt ws name reads) → (c : Bool) → bytes_eq x name ≡ c → (c || rest) ≡ true → IsReadAt ws name (Some (latest x ws) ∷ reads)
name_read ws x name reads rest h true is e = let same : x ≡ name = (bytes_eq-Decides x name).0 is in (0, ap (λ y. Some (Some (latest y ws))) same)
name_read ws x name reads rest h false is e = one_later ws name (Some (latest x ws)) reads (h e)

file_read : (ws : List Written) (x name : List ℕ) (names : List (List ℕ)) (reads : List (Option Version)) → (is_among name names ≡ true → IsReadAt ws name reads) → (b : Bool) → is_among name (cons_if b x names) ≡ true →
    IsReadAt ws name ((if b then Some (latest x ws) else None) ∷ reads)
file_read ws x name names reads h true e = name_read ws x name reads (is_among name names) h (bytes_eq x name) refl e
file_read ws x name names reads h false e = one_later ws name None reads (h e)

among_read : (ws : List Written) (name : List ℕ) (ps : List Param) (args : List CallArg) → is_among name (names_where reads_file ps args) ≡ true → IsReadAt ws name (read_by ws ps args)
among_read ws name [] args e = absurd (cc)
among_read ws name (p ∷ ps) [] e = absurd (cc)
among_read ws name (p ∷ ps) (arg.Int k ∷ args) e = one_later ws name None (read_by ws ps args) (among_read ws name ps args e)
among_read ws name (p ∷ ps) (arg.Str s ∷ args) e = one_later ws name None (read_by ws ps args) (among_read ws name ps args e)
among_read ws name (p ∷ ps) (arg.OutInt ∷ args) e = one_later ws name None (read_by ws ps args) (among_read ws name ps args e)
among_read ws name (p ∷ ps) (arg.OutStr ∷ args) e = one_later ws name None (read_by ws ps args) (among_read ws name ps args e)
among_read ws name (p ∷ ps) (arg.File x ∷ args) e = file_read ws x name (names_where reads_file ps args) (read_by ws ps args) (among_read ws name ps args) (reads_file p) e

-- a version that is read is the latest of a name that is read
abbrev IsOfName : List Written → List (List ℕ) → Version → Type 0
IsOfName ws names v = (name : List ℕ) × (is_among name names ≡ true) × (latest name ws ≡ v)

or_true : (b c : Bool) → c ≡ true → (b || c) ≡ true
or_true true c e = refl
or_true false c e = e

of_more : (ws : List Written) (x : List ℕ) (names : List (List ℕ)) (v : Version) → IsOfName ws names v → (b : Bool) → IsOfName ws (cons_if b x names) v
of_more ws x names v h true = (h.0, or_true (bytes_eq x h.0) (is_among h.0 names) h.1, h.2)
of_more ws x names v h false = h

first_or : (b c : Bool) → b ≡ true → (b || c) ≡ true
first_or true c e = refl
first_or false c e = absurd (cc)

of_first : (ws : List Written) (x : List ℕ) (names : List (List ℕ)) (v : Version) → (b : Bool) → Some (if b then Some (latest x ws) else None) ≡ Some (Some v) → IsOfName ws (cons_if b x names) v
of_first ws x names v true e = (x, first_or (bytes_eq x x) (is_among x names) (same_itself x), let is : latest x ws ≡ v = cc in is)
of_first ws x names v false e = absurd (cc)

read_among : (ws : List Written) (ps : List Param) (args : List CallArg) (i : ℕ) (v : Version) → slice_get (read_by ws ps args) i ≡ Some (Some v) → IsOfName ws (names_where reads_file ps args) v
read_among ws [] args i v e = absurd (cc)
read_among ws (p ∷ ps) [] i v e = absurd (cc)
read_among ws (p ∷ ps) (arg.File x ∷ args) zero v e = of_first ws x (names_where reads_file ps args) v (reads_file p) e
read_among ws (p ∷ ps) (arg.File x ∷ args) (suc i) v e = of_more ws x (names_where reads_file ps args) v (read_among ws ps args i v e) (reads_file p)
read_among ws (p ∷ ps) (arg.Int k ∷ args) zero v e = absurd (cc)
read_among ws (p ∷ ps) (arg.Str s ∷ args) zero v e = absurd (cc)
read_among ws (p ∷ ps) (arg.OutInt ∷ args) zero v e = absurd (cc)
read_among ws (p ∷ ps) (arg.OutStr ∷ args) zero v e = absurd (cc)
read_among ws (p ∷ ps) (arg.Int k ∷ args) (suc i) v e = read_among ws ps args i v e
read_among ws (p ∷ ps) (arg.Str s ∷ args) (suc i) v e = read_among ws ps args i v e
read_among ws (p ∷ ps) (arg.OutInt ∷ args) (suc i) v e = read_among ws ps args i v e
read_among ws (p ∷ ps) (arg.OutStr ∷ args) (suc i) v e = read_among ws ps args i v e

task_version : (name : List ℕ) (i : ℕ) (o : Option Act) (v : Version) → IsTaskAct i o → Wrote name o v → (place : ℕ) × (v ≡ Out i place)
task_version name i None v t w = absurd t
task_version name i (Some (act.Call n op reads written)) v t w = (w.0, w.1 ∙ ap (λ m. Out m w.0) t)
task_version name i (Some (act.Use n place)) v t w = absurd t
task_version name i (Some (act.Read x)) v t w = absurd t
task_version name i (Some (act.Write x)) v t w = absurd t
task_version name i (Some act.Barrier) v t w = absurd t
task_version name i (Some act.Ends) v t w = absurd t

version_task : (name : List ℕ) (i place : ℕ) (o : Option Act) (v : Version) → v ≡ Out i place → Wrote name o v → IsTaskAct i o
version_task name i place None v e w = absurd (let f = sym w ∙ e in cc)
version_task name i place (Some (act.Call n op reads written)) v e w = let f : Out n w.0 ≡ Out i place = sym w.1 ∙ e in cc
version_task name i place (Some (act.Use n p)) v e w = absurd w
version_task name i place (Some (act.Read x)) v e w = absurd w
version_task name i place (Some (act.Write x)) v e w = absurd (let f = sym w.1 ∙ e in cc)
version_task name i place (Some act.Barrier) v e w = absurd w
version_task name i place (Some act.Ends) v e w = absurd w

-- ---- the moment of a reading

no_readings : (r : Run) → readings r zero ≡ []
unfolding readings
no_readings r = refl

last_number : (rs : Readings) (n : ℕ) (reads : List (Option Version)) → length rs ≡ n → at_number (rs ++ reads ∷ []) (n + 1) ≡ Some reads
last_number rs n reads e = let is : n + 1 ≡ suc (length rs) = omega arith in rw is (get_last rs reads)

reading_number : (r : Run) (m : ℕ) (c : Calls r (seq r m).world (seq r m).rest) → at_number (readings r (suc m)) (length (seq r m).world.tasks + 1) ≡ Some (read_by (writings r m) (params_at r.texts.ops c.op) c.args)
reading_number r m c =
    let reads = read_by (writings r m) (params_at r.texts.ops c.op) c.args in
    let n = length (seq r m).world.tasks in
    ap (λ l. at_number l (n + 1)) (next_readings r m ∙ ap (λ l. readings r m ++ l) (c.reads (writings r m))) ∙ last_number (readings r m) n reads (always_sound r m).count

-- task j was called at this moment, with these readings
pub record ReadAt (r : Run) (j : ℕ) (reads : List (Option Version)) : Type 0 where
  pub moment : ℕ
  pub calls : Calls r (seq r moment).world (seq r moment).rest
  pub number : length (seq r moment).world.tasks + 1 ≡ j
  pub read : read_by (writings r moment) (params_at r.texts.ops calls.op) calls.args ≡ reads

not_read : (j : ℕ) (reads : List (Option Version)) → at_number [] j ≡ Some reads → ⊥
not_read zero reads e = cc
not_read (suc i) reads e = cc

newly_read : (r : Run) (k j : ℕ) (reads : List (Option Version)) (c : Calls r (seq r k).world (seq r k).rest) → at_number (readings r k ++ read_by (writings r k) (params_at r.texts.ops c.op) c.args ∷ []) j ≡ Some reads →
    (at_number (readings r k) j ≡ Some reads → ReadAt r j reads) → ReadAt r j reads
newly_read r k zero reads c e again = absurd (cc)
newly_read r k (suc i) reads c e again = elim (get_either (readings r k) (read_by (writings r k) (params_at r.texts.ops c.op) c.args) i reads e) [
  | inl before ↦ again before
  | inr now ↦ record {
    moment = k;
    calls = c;
    number = (let count = (always_sound r k).count in let is = now.0 in omega arith);
    read = now.1;
  }
]

read_when : (r : Run) (k j : ℕ) (reads : List (Option Version)) → at_number (readings r k) j ≡ Some reads → ReadAt r j reads
read_when r zero j reads e = absurd (not_read j reads (ap (λ l. at_number l j) (sym (no_readings r)) ∙ e))
read_when r (suc k) j reads e = elim (at_moment r k) [
  | inl c ↦ newly_read r k j reads c (ap (λ l. at_number l j) (ap (λ l. readings r k ++ l) (sym (c.reads (writings r k))) ∙ sym (next_readings r k)) ∙ e) (read_when r k j reads)
  | inr silent ↦ read_when r k j reads
      (ap (λ l. at_number l j) (sym (append-nil (readings r k)) ∙ ap (λ l. readings r k ++ l) (sym (silent.no_reads (writings r k))) ∙ sym (next_readings r k)) ∙ e)
]

-- ---- the two laws

same_call : (n m op other : ℕ) (names names' written written' : List (List ℕ)) → act.Call n op names written ∷ [] ≡ act.Call m other names' written' ∷ [] → (n ≡ m) × (names ≡ names')
same_call n m op other names names' written written' e = (cc, cc)

reads_call : (r : Run) (j i : ℕ) (h : DependsOn r j i) (m : Moment r h.before (act.Call j h.op h.names h.written)) → Calls r (seq r m.moment).world (seq r m.moment).rest → ReadsFrom r j i
reads_call r j i h m c =
    let ws = writings r m.moment in
    let ps = params_at r.texts.ops c.op in
    let same = same_call (length (seq r m.moment).world.tasks + 1) j c.op h.op (names_where reads_file ps c.args) h.names (names_where writes_file ps c.args) h.written (sym c.action ∙ m.here) in
    let read = among_read ws h.name ps c.args (ap (is_among h.name) same.1 ∙ h.reads_it) in
    let writer : IsTaskAct i (last_writer (acts r m.moment) h.name) = subst (λ (xs : List Act). IsTaskAct i (last_writer xs h.name)) (sym m.earlier) h.writer in
    let from = task_version h.name i (last_writer (acts r m.moment) h.name) (latest h.name ws) writer (last_writer_wrote r m.moment h.name) in
    record {
      moment = suc m.moment;
      reads = read_by ws ps c.args;
      place = read.0;
      from = from.0;
      is = ap (at_number (readings r (suc m.moment))) (sym same.0) ∙ reading_number r m.moment c;
      version = read.1 ∙ ap (λ v. Some (Some v)) from.1;
    }

pub reads_what_it_depends_on : ReadsWhatItDependsOn
reads_what_it_depends_on r j i h =
    let m = moment_of r h.moment h.before (act.Call j h.op h.names h.written) h.after h.actions in
    elim (at_moment r m.moment) [ inl c ↦ reads_call r j i h m c | inr silent ↦ absurd (silent.no_call j h.op h.names h.written m.here) ]

depends_when : (r : Run) (j i place from : ℕ) (reads : List (Option Version)) → ReadAt r j reads → slice_get reads place ≡ Some (Some (Out i from)) → DependsOn r j i
depends_when r j i place from reads h e =
    let ws = writings r h.moment in
    let ps = params_at r.texts.ops h.calls.op in
    let names = names_where reads_file ps h.calls.args in
    let written = names_where writes_file ps h.calls.args in
    let of = read_among ws ps h.calls.args place (Out i from) (ap (λ l. slice_get l place) h.read ∙ e) in
    record {
      before = acts r h.moment;
      op = h.calls.op;
      names = names;
      written = written;
      after = [];
      moment = suc h.moment;
      actions = next_acts r h.moment ∙ ap (λ l. acts r h.moment ++ l) (h.calls.action ∙ ap (λ n. act.Call n h.calls.op names written ∷ []) h.number);
      name = of.0;
      reads_it = of.1;
      writer = version_task of.0 i from (last_writer (acts r h.moment) of.0) (latest of.0 ws) of.2 (last_writer_wrote r h.moment of.0);
    }

pub depends_on_what_it_reads : DependsOnWhatItReads
depends_on_what_it_reads r j i h = depends_when r j i h.place h.from h.reads (read_when r h.moment j h.reads h.is) h.version
