-- Each call of a life of a run begins over a disk that stands, and keeps what a run promises.
use Rattle.std.proofs.Common.{◌≡◌, ℕ, List, [], ◌∷◌, refl, sym, subst, inr, ⊎_elim}
use Rattle.gs_types.specs.History.{History}
use Rattle.gs_disk.specs.Folder.{DiskState}
use Rattle.gs_disk.specs.Moments.{Leaves, EachNow, Always}
use Rattle.gs_life.specs.Lives.{IsNext, IsFirst}
use Rattle.gs_life.specs.Origin.{Origin}
use Rattle.gs_life.specs.Stands.{Stands, Fresh}
use Rattle.gs_run.specs.Course.{IsRunOf}
use Rattle.gs_run.specs.Lives.{Seen, IsCall, AreCalls, IsLife, Keeps, AllKeep}
use Rattle.gs_run.specs.Ran.{Begins}
use Rattle.gs_run.proofs.Completing.{complete}

begins_first : (o : Origin) (s : DiskState) → o.stood ≡ [] → EachNow (IsFirst o) s
    → EachNow (Stands o) s
begins_first o s none begins image left =
    let first = begins image left in
    Fresh (inr (first.unmarked, refl)) (record { goes_on = none; users = first.users })

-- what was left stands as the next call begins
begins_next : (o : Origin) (s t next : DiskState) → Always (Stands o) s t → IsNext s t next
    → EachNow (Stands o) next
begins_next o s t next always goes image left = ⊎_elim
    (λ same. always.now image (same image left))
    (λ crash. subst (Stands o) (sym (crash.2 image left)) (always.each crash.0 crash.1)) goes

call_keeps : {D K : Type 0} (state : D → DiskState) (tells : K → History → Type 0) (told wrote : Type 0) (o : Origin)
    (idl program : List ℕ) (c : Seen D K)
    → ((d : D) → Leaves (state d) (state d).folder) → told → IsRunOf o idl program → EachNow (Stands o) (state c.old)
    → IsCall state tells told wrote o idl program c → Keeps state tells wrote o idl program c
call_keeps state tells told wrote o idl program c reads t run stand is =
    let begins : Begins o idl program c.law (tells c.link) is.past (state c.old) = record {
      run_is = run;
      law_is = is.law_is;
      told = is.past_told;
      stand = stand;
    } in
    record {
      past = is.past;
      begins = begins;
      stood = is.ran.stood t o is.past begins;
      printed = λ w. is.ran.printed t w o is.past begins;
      complete = λ calm. complete o c.settings told wrote (state c.old) (state c.new) c.law (tells c.link)
          (tells c.link_new) c.link_faults c.link_faults_new c.out_faults c.out_faults_new
          c.written c.written_new idl program c.workers is.past c.answer begins is.ran
          (reads c.old) t calm.disk calm.link calm.out;
    }

calls_keep : {D K : Type 0} (state : D → DiskState) (tells : K → History → Type 0) (told wrote : Type 0) (o : Origin)
    (idl program : List ℕ) (c : Seen D K) (calls : List (Seen D K))
    → ((d : D) → Leaves (state d) (state d).folder) → told → IsRunOf o idl program
    → EachNow (Stands o) (state c.old) → AreCalls state tells told wrote o idl program c calls
    → AllKeep state tells wrote o idl program (c ∷ calls)
calls_keep state tells told wrote o idl program c [] reads t run stand are =
    (call_keeps state tells told wrote o idl program c reads t run stand are, tt)
calls_keep state tells told wrote o idl program c (next ∷ calls) reads t run stand are =
    let here = call_keeps state tells told wrote o idl program c reads t run stand are.0 in (
      here,
      calls_keep state tells told wrote o idl program next calls reads t run
          (begins_next o (state c.old) (state c.new) (state next.old) here.stood.2.always are.1) are.2,
    )

pub life_keeps : {D K : Type 0} (state : D → DiskState) (tells : K → History → Type 0) (told wrote : Type 0) (o : Origin)
    (idl program : List ℕ) (first : Seen D K) (calls : List (Seen D K))
    → ((d : D) → Leaves (state d) (state d).folder) → told
    → IsLife state tells told wrote o idl program first calls
    → AllKeep state tells wrote o idl program (first ∷ calls)
life_keeps state tells told wrote o idl program first calls reads t life =
    calls_keep state tells told wrote o idl program first calls reads t life.run_is
    (begins_first o (state first.old) life.none_stood life.begins) life.each
