-- What was told is what the world has, at each moment of a run.
use Rattle.std.proofs.Common.{◌≡◌, ℕ, zero, suc, Bool, true, false, refl, sym, ap, ◌∙◌, subst, List, [], ◌∷◌, ◌++◌, map, length, Option, Some, None, if◌then◌else◌, nat_le}
use Rattle.gs_idl.specs.Interface.{Param, params_at, reads_file}
use Rattle.gs_types.specs.declared.limits.TheConstants.{FILE_LIMIT}
use Rattle.gs_talk.specs.declared.question.CallArg.{CallArg}
use Rattle.gs_talk.specs.declared.question.CallArg.TheVariants as arg
use Rattle.gs_talk.specs.declared.question.Question.{Question}
use Rattle.gs_talk.specs.declared.question.Question.TheVariants.{Call, Use, OpenFile, CloseFile, Barrier, End, Fault, FuelOut}
use Rattle.gs_talk.specs.declared.question.Answer.{Answer}
use Rattle.gs_talk.specs.declared.question.Answer.TheVariants.{Went, Absent, TooLong}
use Rattle.gs_talk.specs.Talk.{Dialogue, Done, Ask, Stop}
use Rattle.gs_talk.specs.Seq.{Run, World, Files, Content, Known, Lost, Task, Standing, seq, step_by, answered, reply, went_unless, world_after, after_call, refused, refused_at, or_next, first_refused}
use Rattle.gs_talk_laws.specs.Uses.{Told, goes, with_call, with_answer, nothing_told}
use Rattle.gs_talk_laws.proofs.Staying.{next_seq}
use Rattle.gs_talk_laws.proofs.Proper.{Proper}
use Rattle.gs_talk_laws.proofs.Programs.{dialogue_proper}

abbrev pub called_all : List Task → List (List CallArg)
called_all tasks = map (λ t. t.called) tasks

-- the calls so far are those of the tasks
pub record Telling (r : Run) (w : World) (d : Dialogue) : Type 0 where
  pub told : Told
  pub calls : told.calls ≡ called_all w.tasks
  pub proper : Proper r.texts.ops told d

map-append : (xs : List Task) (t : Task) → called_all (xs ++ t ∷ []) ≡ called_all xs ++ t.called ∷ []
map-append [] t = refl
map-append (x ∷ xs) t = ap (λ l. x.called ∷ l) (map-append xs t)

refused_stops : (o : Option Content) (a : Answer) → refused o ≡ Some a → goes a ≡ false
refused_stops None a e = let is : Absent ≡ a = cc in ap goes (sym is)
refused_stops (Some Lost) a e = absurd (cc)
refused_stops (Some (Known bytes)) a e = of_test (nat_le (length bytes) FILE_LIMIT) e
  where
    of_test : (b : Bool) → (if b then None else Some TooLong) ≡ Some a → goes a ≡ false
    of_test true e = absurd (cc)
    of_test false e = let is : TooLong ≡ a = cc in ap goes (sym is)

place_stops : (files : Files) (p : Param) (c : CallArg) (a : Answer) → refused_at files p c ≡ Some a → goes a ≡ false
place_stops files p (arg.Int k) a e = absurd (cc)
place_stops files p (arg.Str s) a e = absurd (cc)
place_stops files p arg.OutInt a e = absurd (cc)
place_stops files p arg.OutStr a e = absurd (cc)
place_stops files p (arg.File name) a e = of_test (reads_file p) e
  where
    of_test : (b : Bool) → (if b then refused (files name) else None) ≡ Some a → goes a ≡ false
    of_test true e = refused_stops (files name) a e
    of_test false e = absurd (cc)

next_stops : (o next : Option Answer) (a : Answer) → ((b : Answer) → o ≡ Some b → goes b ≡ false) → ((b : Answer) → next ≡ Some b → goes b ≡ false) → or_next o next ≡ Some a → goes a ≡ false
next_stops None next a h k e = k a e
next_stops (Some b) next a h k e = h a e

-- a call that is refused doesn't go
call_stops : (files : Files) (ps : List Param) (args : List CallArg) (a : Answer) → first_refused files ps args ≡ Some a → goes a ≡ false
call_stops files [] args a e = absurd (cc)
call_stops files (p ∷ ps) [] a e = absurd (cc)
call_stops files (p ∷ ps) (c ∷ args) a e = next_stops (refused_at files p c) (first_refused files ps args) a (λ b. place_stops files p c b) (λ b. call_stops files ps args b) e

went_told : (r : Run) (w : World) (op line : ℕ) (args : List CallArg) (a : Answer) (calls : List (List CallArg)) (o : Option Answer) → first_refused w.files (params_at r.texts.ops op) args ≡ o → went_unless o ≡ Some a → calls ≡ called_all w.tasks →
    with_call (Call op line args) a calls ≡ called_all (after_call r.law r.texts.ops op args o w).tasks
went_told r w op line args a calls None is e h =
    let went : Went ≡ a = cc in
    ap (λ b. with_call (Call op line args) b calls) (sym went) ∙ ap (λ l. l ++ args ∷ []) h ∙ sym (map-append w.tasks _)
went_told r w op line args a calls (Some b) is e h =
    let same : b ≡ a = cc in
    let stops : goes a ≡ false = ap goes (sym same) ∙ call_stops w.files (params_at r.texts.ops op) args b is in
    ap (λ (t : Bool). if t then calls ++ args ∷ [] else calls) stops ∙ h

answer_told : (r : Run) (w : World) (q : Question) (a : Answer) (calls : List (List CallArg)) → reply r.texts.ops w q ≡ Some a → calls ≡ called_all w.tasks → with_call q a calls ≡ called_all (world_after r.law r.texts.ops w q).tasks
answer_told r w (Call op line args) a calls e h = went_told r w op line args a calls (first_refused w.files (params_at r.texts.ops op) args) refl e h
answer_told r w (Use n place) a calls e h = h
answer_told r w (OpenFile name mode line) a calls e h = h
answer_told r w (CloseFile name bytes) a calls e h = h
answer_told r w Barrier a calls e h = h
answer_told r w End a calls e h = h
answer_told r w (Fault line fault) a calls e h = h
answer_told r w FuelOut a calls e h = h

step_told : (r : Run) (at : Standing) (d : Dialogue) (h : Told) → Telling r at.world at.rest → h.calls ≡ called_all at.world.tasks → Proper r.texts.ops h d → Telling r (step_by r at d).world (step_by r at d).rest
step_told r at (Done n s) h here calls p = here
step_told r at (Stop q s) h here calls p = here
step_told r at (Ask q s next) h here calls p = of_reply (reply r.texts.ops at.world q) refl
  where
    of_reply : (o : Option Answer) → reply r.texts.ops at.world q ≡ o → Telling r (answered r at q next o).world (answered r at q next o).rest
    of_reply None e = here
    of_reply (Some a) e = record { told = with_answer q a h; calls = answer_told r at.world q a h.calls e calls; proper = p.2 a }

first_told : (r : Run) → Telling r (seq r zero).world (seq r zero).rest
unfolding seq
first_told r = record { told = nothing_told; calls = refl; proper = dialogue_proper r.texts r.fuel }

pub seq_told : (r : Run) (k : ℕ) → Telling r (seq r k).world (seq r k).rest
seq_told r zero = first_told r
seq_told r (suc k) =
    let h = seq_told r k in
    subst (λ (at : Standing). Telling r at.world at.rest) (sym (next_seq r k)) (step_told r (seq r k) (seq r k).rest h.told h h.calls h.proper)
