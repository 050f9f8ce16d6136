-- The last writer of a file gave it its last version.
use Rattle.std.proofs.Common.{◌≡◌, ◌+◌, ◌||◌, ℕ, zero, suc, Bool, true, false, refl, sym, ap, ◌∙◌, subst, List, [], ◌∷◌, ◌++◌, length, Option, Some, None, if◌then◌else◌}
use Rattle.std.specs.Option.{option_or}
use Rattle.std.specs.Str.{bytes_eq}
use Rattle.gs_idl.specs.Interface.{Param, params_at, reads_file, writes_file}
use Rattle.gs_types.specs.declared.note.Version.{Version}
use Rattle.gs_types.specs.declared.note.Version.TheVariants.{Original, Out, Main}
use Rattle.gs_talk.specs.declared.question.CallArg.{CallArg}
use Rattle.gs_talk.specs.declared.question.CallArg.TheVariants as arg
use Rattle.gs_talk.specs.declared.question.Question.{Question}
use Rattle.gs_talk.specs.declared.question.Question.TheVariants.{Call, Use, OpenFile, CloseFile, Barrier, End, Fault, FuelOut}
use Rattle.gs_talk.specs.declared.question.Answer.{Answer}
use Rattle.gs_talk.specs.Talk.{Dialogue, Done, Ask, Stop}
use Rattle.gs_talk.specs.Seq.{Run, World, seq, first_refused}
use Rattle.gs_talk.specs.Actions as act
use Rattle.gs_talk.specs.Actions.{Act, cons_if, names_where, unless_refused, act_of, acts_by, acts, is_among, writes, or_this, last_writer}
use Rattle.gs_talk_laws.specs.Uses.{Told}
use Rattle.gs_talk_laws.specs.Versions.{Written, latest_from, latest, written_by, if_goes, written_in, written_next, writings}
use Rattle.gs_talk_laws.specs.Depends.{Wrote, LastWriterWrote}
use Rattle.gs_talk_laws.proofs.Telling.{seq_told}
use Rattle.gs_talk_laws.proofs.Proper.{IsLast, Proper}
use Rattle.gs_talk_laws.proofs.Renaming.{next_writings}
use Rattle.gs_talk_laws.proofs.Versions.{latest-append}

-- ---- the last writer of two lists

or_both : (a : Act) (name : List ℕ) (o p : Option Act) → or_this a name (option_or o p) ≡ option_or o (or_this a name p)
or_both a name None p = refl
or_both a name (Some b) p = refl

or_none : (o : Option Act) → o ≡ option_or o None
or_none None = refl
or_none (Some a) = refl

last-append : (xs ys : List Act) (name : List ℕ) → last_writer (xs ++ ys) name ≡ option_or (last_writer ys name) (last_writer xs name)
last-append [] ys name = or_none (last_writer ys name)
last-append (x ∷ xs) ys name = ap (or_this x name) (last-append xs ys name) ∙ or_both x name (last_writer ys name) (last_writer xs name)

-- ---- a call

-- task n wrote the file last, or none of its places did
abbrev LastOf : (n : ℕ) → Version → Bool → Version → Type 0
LastOf n v true u = (place : ℕ) × (u ≡ Out n place)
LastOf n v false u = u ≡ v

hit_then : (n place : ℕ) (rest : Bool) (u : Version) → LastOf n (Out n place) rest u → LastOf n (Out n place) true u
hit_then n place true u h = h
hit_then n place false u h = (place, h)

hit : (n place : ℕ) (name : List ℕ) (v : Version) (more : List Written) (rest : Bool) → ((v : Version) → LastOf n v rest (latest_from v name more)) → (c : Bool) → LastOf n v (c || rest) (latest_from (if c then Out n place else v) name more)
hit n place name v more rest h true = hit_then n place rest (latest_from (Out n place) name more) (h (Out n place))
hit n place name v more rest h false = h v

file_hit : (n place : ℕ) (x name : List ℕ) (names : List (List ℕ)) (v : Version) (more : List Written) → ((v : Version) → LastOf n v (is_among name names) (latest_from v name more)) → (b : Bool) →
    LastOf n v (is_among name (cons_if b x names)) (latest_from v name (if b then record { name = x; version = Out n place } ∷ more else more))
file_hit n place x name names v more h true = hit n place name v more (is_among name names) h (bytes_eq x name)
file_hit n place x name names v more h false = h v

call_wrote : (n : ℕ) (name : List ℕ) (ps : List Param) (args : List CallArg) (place : ℕ) (v : Version) → LastOf n v (is_among name (names_where writes_file ps args)) (latest_from v name (written_by n place ps args))
call_wrote n name [] args place v = refl
call_wrote n name (p ∷ ps) [] place v = refl
call_wrote n name (p ∷ ps) (arg.Int k ∷ args) place v = call_wrote n name ps args (suc place) v
call_wrote n name (p ∷ ps) (arg.Str s ∷ args) place v = call_wrote n name ps args (suc place) v
call_wrote n name (p ∷ ps) (arg.OutInt ∷ args) place v = call_wrote n name ps args (suc place) v
call_wrote n name (p ∷ ps) (arg.OutStr ∷ args) place v = call_wrote n name ps args (suc place) v
call_wrote n name (p ∷ ps) (arg.File x ∷ args) place v =
    file_hit n place x name (names_where writes_file ps args) v (written_by n (suc place) ps args) (call_wrote n name ps args (suc place)) (writes_file p)

-- ---- one action more

call_after : (name : List ℕ) (n op : ℕ) (reads written : List (List ℕ)) (o : Option Act) (v u : Version) → Wrote name o v → (b : Bool) → LastOf n v b u → Wrote name (option_or (if b then Some (act.Call n op reads written) else None) o) u
call_after name n op reads written o v u h true l = l
call_after name n op reads written o v u h false l = subst (Wrote name o) (sym l) h

write_after : (name x : List ℕ) (k : ℕ) (o : Option Act) (v : Version) → Wrote name o v → (b : Bool) → Wrote name (option_or (if b then Some (act.Write x) else None) o) (if b then Main k else v)
write_after name x k o v h true = (k, refl)
write_after name x k o v h false = h

abbrev WroteAll : (name : List ℕ) → List Act → Version → Type 0
WroteAll name xs v = Wrote name (last_writer xs name) v

added : (name : List ℕ) (xs ys : List Act) (u : Version) → Wrote name (option_or (last_writer ys name) (last_writer xs name)) u → WroteAll name (xs ++ ys) u
added name xs ys u h = subst (λ (o : Option Act). Wrote name o u) (sym (last-append xs ys name)) h

refused_wrote : (r : Run) (w : World) (name : List ℕ) (xs : List Act) (v : Version) (op : ℕ) (args : List CallArg) (reads : List (List ℕ)) → WroteAll name xs v → (o : Option Answer) →
    WroteAll name (xs ++ unless_refused o (act.Call (length w.tasks + 1) op reads (names_where writes_file (params_at r.texts.ops op) args))) (latest_from v name (if_goes o (written_by (length w.tasks + 1) 1 (params_at r.texts.ops op) args)))
refused_wrote r w name xs v op args reads h None =
    let ps = params_at r.texts.ops op in
    let n = length w.tasks + 1 in
    let written = names_where writes_file ps args in
    added name xs (act.Call n op reads written ∷ []) (latest_from v name (written_by n 1 ps args))
    (call_after name n op reads written (last_writer xs name) v (latest_from v name (written_by n 1 ps args)) h (is_among name written) (call_wrote n name ps args 1 v))
refused_wrote r w name xs v op args reads h (Some a) = added name xs [] v h

question_wrote : (r : Run) (w : World) (name : List ℕ) (xs : List Act) (v : Version) (q : Question) → WroteAll name xs v → WroteAll name (xs ++ act_of r w q) (latest_from v name (written_in r.texts.ops w q))
question_wrote r w name xs v (Call op line args) h =
    refused_wrote r w name xs v op args (names_where reads_file (params_at r.texts.ops op) args) h (first_refused w.files (params_at r.texts.ops op) args)
question_wrote r w name xs v (CloseFile x bytes) h =
    added name xs (act.Write x ∷ []) (if bytes_eq x name then Main (length w.closed + 1) else v) (write_after name x (length w.closed + 1) (last_writer xs name) v h (bytes_eq x name))
question_wrote r w name xs v (Use n place) h = added name xs (act.Use n place ∷ []) v h
question_wrote r w name xs v (OpenFile x mode line) h = added name xs (act.Read x ∷ []) v h
question_wrote r w name xs v Barrier h = added name xs (act.Barrier ∷ []) v h
question_wrote r w name xs v End h = added name xs (act.Ends ∷ []) v h
question_wrote r w name xs v (Fault line fault) h = added name xs [] v h
question_wrote r w name xs v FuelOut h = added name xs [] v h

last_wrote : (r : Run) (w : World) (name : List ℕ) (xs : List Act) (v : Version) (q : Question) → IsLast q → WroteAll name xs v → WroteAll name (xs ++ act_of r w q) v
last_wrote r w name xs v End last h = added name xs (act.Ends ∷ []) v h
last_wrote r w name xs v (Fault line fault) last h = added name xs [] v h
last_wrote r w name xs v FuelOut last h = added name xs [] v h
last_wrote r w name xs v (Call op line args) last h = absurd last
last_wrote r w name xs v (CloseFile x bytes) last h = absurd last
last_wrote r w name xs v (Use n place) last h = absurd last
last_wrote r w name xs v (OpenFile x mode line) last h = absurd last
last_wrote r w name xs v Barrier last h = absurd last

dialogue_wrote : (r : Run) (w : World) (told : Told) (name : List ℕ) (xs : List Act) (v : Version) (d : Dialogue) → Proper r.texts.ops told d → WroteAll name xs v → WroteAll name (xs ++ acts_by r w d) (latest_from v name (written_next r w d))
dialogue_wrote r w told name xs v (Done n s) p h = added name xs [] v h
dialogue_wrote r w told name xs v (Ask q s next) p h = question_wrote r w name xs v q h
dialogue_wrote r w told name xs v (Stop q s) p h = last_wrote r w name xs v q p h

pub next_acts : (r : Run) (k : ℕ) → acts r (suc k) ≡ acts r k ++ acts_by r (seq r k).world (seq r k).rest
unfolding acts
next_acts r k = refl

first_wrote : (r : Run) (name : List ℕ) → WroteAll name (acts r zero) (latest name (writings r zero))
unfolding acts writings
first_wrote r name = refl

pub last_writer_wrote : LastWriterWrote
last_writer_wrote r zero name = first_wrote r name
last_writer_wrote r (suc k) name =
    let t = seq_told r k in
    let h = dialogue_wrote r (seq r k).world t.told name (acts r k) (latest name (writings r k)) (seq r k).rest t.proper (last_writer_wrote r k name) in
    rw (next_acts r k, next_writings r k, latest-append (Original name) name (writings r k) (written_next r (seq r k).world (seq r k).rest)) h
