-- What a check did, by where it stopped.
use Rattle.std.proofs.Common.{◌≡◌, ◌⊎◌, ℕ, ◌<◌, ◌≤◌, List, length, Option, Some, None, false, Result, Ok, Err, refl, sym, ◌∙◌, ap, subst, inl, inr, arith}
use Rattle.std.specs.Prelude.{is_some}
use Rattle.gs_types.specs.Counts.{Rises}
use Rattle.gs_disk.specs.Folder.{Folder, DiskState, Same}
use Rattle.gs_disk.specs.Moments.{Passes}
use Rattle.gs_idl.specs.Interface.{Interface}
use Rattle.gs_tree.specs.Program.{Program}
use Rattle.gs_check.specs.Faults.{fault_of}
use Rattle.gs_check.specs.declared.checked.Checked.{Checked}
use Rattle.gs_entries.specs.declared.entry.Texts.{Texts}
use Rattle.gs_run.specs.Checking.{printed_both, CheckRefused, long, wrong, HoldsBoth, RanCheck}
use Rattle.gs_run.specs.Judging.{BothOf, JudgedOnly}
use Rattle.gs_run.specs.Showing.{ShowEnds, ShowWrote, stop_of, shown_as}
use Rattle.gs_run.specs.Sources.{HasSources, FirstMissing, SourcesTold, SourcesEnd}
use Rattle.gs_run.specs.Stop.{status_of}
use Rattle.gs_run.specs.Texts.{IsWithin, IsBeyond, HasBoth}
use Rattle.gs_run.specs.declared.kinds.TextKind.{TextKind}
use Rattle.gs_run.specs.declared.refusal.Refusal.{Refusal}
use Rattle.gs_run.specs.declared.refusal.Refusal.TheVariants.{NoText, BadText, Disk, Memory}
use Rattle.gs_run.specs.declared.showing.Unshown.{Unshown}
use Rattle.gs_run.specs.declared.showing.Unshown.TheVariants as unshown
use Rattle.gs_run.specs.declared.stop.Stop.{Stop}
use Rattle.gs_run.specs.declared.stop.Stop.TheVariants as stop
use Rattle.gs_run.proofs.Verdicts.{not_wrong}

stays : (old new : Folder) → new ≡ old → (x : List ℕ) → new x ≡ old x
stays old new same x = ap (λ (f : Folder). f x) same

-- the IDL and the program weren't read
pub no_sources : (told wrote : Type 0) (old new : DiskState) (o : ℕ) (w : List ℕ) (i p : List ℕ)
    (stop : Refusal) → SourcesEnd {T = Texts} old.faults new.faults (Err stop)
    → (told → SourcesTold old.folder i p (Err stop))
    → (told → new.folder ≡ old.folder) → (told → Passes Same old new)
    → RanCheck told wrote old new o o w w i p (Err (stop_of stop))
no_sources told wrote old new o w i p (NoText n) ends is same images = record {
  cause = tt;
  judged = is;
  same = λ t. stays old.folder new.folder (same t);
  images = images;
  written = λ h. refl;
}
no_sources told wrote old new o w i p (BadText n line k) ends is same images = record {
  cause = tt;
  judged = λ t. long n line k (is t);
  same = λ t. stays old.folder new.folder (same t);
  images = images;
  written = λ h. refl;
}
no_sources told wrote old new o w i p Disk ends is same images = record {
  cause = ends;
  judged = λ t. tt;
  same = λ t. stays old.folder new.folder (same t);
  images = images;
  written = λ h. refl;
}
no_sources told wrote old new o w i p Memory ends is same images = record {
  cause = tt;
  judged = λ t. tt;
  same = λ t. stays old.folder new.folder (same t);
  images = images;
  written = λ h. refl;
}

-- a folder's sources are within the limit, and what is said of them is said of its files
pub within_idl : (folder : Folder) (i p : List ℕ) (t : Texts) → HasSources folder i p t
    → IsWithin (folder i)
within_idl folder i p t s = (t.idl, s.idl_there, s.idl_short)

pub within_program : (folder : Folder) (i p : List ℕ) (t : Texts) → HasSources folder i p t
    → IsWithin (folder p)
within_program folder i p t s = (t.program, s.program_there, s.program_short)

pub both_of : (folder : Folder) (i p : List ℕ) (t : Texts) (answer : Result Checked Refusal)
    → HasSources folder i p t → BothOf (Some t.idl) (Some t.program) i p answer
    → BothOf (folder i) (folder p) i p answer
both_of folder i p t answer s is = subst (λ (f : Option (List ℕ)). BothOf f (folder p) i p answer)
    (sym s.idl_there) (subst (λ (f : Option (List ℕ)). BothOf (Some t.idl) f i p answer)
    (sym s.program_there) is)

-- a text went wrong
pub went_wrong : (told wrote : Type 0) (old new : DiskState) (o : ℕ) (w : List ℕ) (i p : List ℕ)
    (stop : Refusal) → JudgedOnly {T = Checked}
    (Err stop) → (told → IsWithin (old.folder i)) → (told → IsWithin (old.folder p))
    → (told → BothOf (old.folder i) (old.folder p) i p (Err stop)) → (told → (x : List ℕ)
    → new.folder x ≡ old.folder x) → (told → Passes Same old new)
    → RanCheck told wrote old new o o w w i p (Err (stop_of stop))
went_wrong told wrote old new o w i p (NoText n) ends a b is same images = absurd ends
went_wrong told wrote old new o w i p (BadText n line k) ends a b is same images =
    record {
      cause = tt;
      judged = λ t. wrong n line k (a t) (b t) (is t);
      same = same;
      images = images;
      written = λ h. refl;
    }
went_wrong told wrote old new o w i p Disk ends a b is same images = absurd ends
went_wrong told wrote old new o w i p Memory ends a b is same images = record {
  cause = tt;
  judged = λ t. tt;
  same = same;
  images = images;
  written = λ h. refl;
}

pub none_is : {A : Type 0} (o : Option A) → is_some o ≡ false → o ≡ None
none_is None e = refl
none_is (Some x) e = absurd cc

-- both were printed, or the output failed
pub shown : (told wrote : Type 0) (old new : DiskState) (o1 o2 : ℕ) (w1 w2 : List ℕ) (i p : List ℕ)
    (one : Interface) (tree : Program) (answer : Result Unit Unshown) → ShowEnds o1 o2 answer
    → fault_of one.ops tree ≡ None
    → (told → HasBoth (old.folder i) (old.folder p) one tree)
    → (wrote → ShowWrote (printed_both one tree) w1 w2 answer) → (told → (x : List ℕ)
    → new.folder x ≡ old.folder x) → (told → Passes Same old new)
    → RanCheck told wrote old new o1 o2 w1 w2 i p (shown_as answer)
shown told wrote old new o1 o2 w1 w2 i p one tree (Ok done) ends passes has wrote_it same images =
    record {
      cause = tt;
      judged = λ t. (one, tree, has t);
      same = same;
      images = images;
      written = λ h. (one, tree, passes, has, wrote_it h);
    }
shown told wrote old new o1 o2 w1 w2 i p one tree (Err unshown.Sink) ends passes has wrote_it same
    images = record {
      cause = ends;
      judged = λ t. (one, tree, has t);
      same = same;
      images = images;
      written = λ h. (one, tree, passes, has, wrote_it h);
    }
shown told wrote old new o1 o2 w1 w2 i p one tree (Err unshown.Memory) ends passes has wrote_it same
    images = record {
      cause = tt;
      judged = λ t. tt;
      same = same;
      images = images;
      written = λ h.
          wrote_it h;
    }

-- ---- texts that say an interface and a program that passes, and no rise of a count, give 0 or 12

some_none : (o : Option (List ℕ)) (b : List ℕ) → o ≡ Some b → o ≡ None → ⊥
some_none o b s n = let e : Some b ≡ None = sym s ∙ n in absurd cc

some_is : (x y : List ℕ) → Some x ≡ Some y → x ≡ y
some_is x y e = cc

no_beyond : (file : Option (List ℕ)) (text : List ℕ) → file ≡ Some text → length text ≤ 65536
    → IsBeyond file → ⊥
no_beyond file text there short b =
    let same : text ≡ b.0 = some_is text b.0 (sym there ∙ b.1) in
    let long : 65536 < length text = subst (λ (l : List ℕ). 65536 < length l) (sym same) b.2 in
    omega arith

holds_present : (folder : Folder) (i p name : List ℕ) → HoldsBoth folder i p
    → FirstMissing folder i p name → ⊥
holds_present folder i p name h (inl a) =
    some_none (folder i) h.2.interface.text h.2.interface.there a.1
holds_present folder i p name h (inr a) = some_none (folder p) h.2.program.text h.2.program.there
    a.2

holds_right : (folder : Folder) (i p name : List ℕ) (line : ℕ) (k : TextKind) → HoldsBoth folder i p
    → CheckRefused folder i p name line k → ⊥
holds_right folder i p name line k h (long name1 line1 k1 (inl b)) =
    no_beyond (folder i) h.2.interface.text h.2.interface.there h.2.interface.says.short b.3
holds_right folder i p name line k h (long name1 line1 k1 (inr b)) =
    no_beyond (folder p) h.2.program.text h.2.program.there h.2.program.says.short b.4
holds_right folder i p name line k h (wrong name1 line1 k1 a b is) =
    not_wrong (folder i) (folder p) i p name line k h.0 h.1 h.2 is

checks_through : (told wrote : Type 0) (old new : DiskState) (o1 o2 : ℕ) (w1 w2 : List ℕ)
    (i p : List ℕ) (s : Stop) → RanCheck told wrote old new o1 o2 w1 w2 i p (Err s) → told
    → HoldsBoth old.folder i p → (Rises old.faults new.faults → ⊥) → (Rises o1 o2 → ⊥)
    → (status_of (Err s) ≡ 0) ⊎ (status_of (Err s) ≡ 12)
checks_through told wrote old new o1 o2 w1 w2 i p (stop.Usage word) ran t h disk out =
    absurd ran.cause
checks_through told wrote old new o1 o2 w1 w2 i p (stop.NoText n) ran t h disk out =
    absurd (holds_present old.folder i p n h (ran.judged t))
checks_through told wrote old new o1 o2 w1 w2 i p (stop.BadText n line k) ran t h disk out =
    absurd (holds_right old.folder i p n line k h (ran.judged t))
checks_through told wrote old new o1 o2 w1 w2 i p (stop.Fault line k) ran t h disk out =
    absurd ran.cause
checks_through told wrote old new o1 o2 w1 w2 i p (stop.FuelOut fuel) ran t h disk out =
    absurd ran.cause
checks_through told wrote old new o1 o2 w1 w2 i p (stop.OtherRun what) ran t h disk out = absurd ran.cause
checks_through told wrote old new o1 o2 w1 w2 i p (stop.TaskLost n) ran t h disk out = absurd ran.cause
checks_through told wrote old new o1 o2 w1 w2 i p (stop.WorkersLost n) ran t h disk out = absurd ran.cause
checks_through told wrote old new o1 o2 w1 w2 i p (stop.BadStore why) ran t h disk out =
    absurd ran.cause
checks_through told wrote old new o1 o2 w1 w2 i p stop.Gated ran t h disk out =
    absurd ran.cause
checks_through told wrote old new o1 o2 w1 w2 i p stop.NoRun ran t h disk out =
    absurd ran.cause
checks_through told wrote old new o1 o2 w1 w2 i p stop.Disk ran t h disk out =
    absurd (disk ran.cause)
checks_through told wrote old new o1 o2 w1 w2 i p stop.Sink ran t h disk out =
    absurd (out ran.cause)
checks_through told wrote old new o1 o2 w1 w2 i p stop.Memory ran t h disk out = inr refl

-- the same under another spelling of the answer
pub check_as : (told wrote : Type 0) (old new : DiskState) (o1 o2 : ℕ) (w1 w2 i p : List ℕ)
    (a b : Result Unit Stop) → b ≡ a → RanCheck told wrote old new o1 o2 w1 w2 i p a
    → RanCheck told wrote old new o1 o2 w1 w2 i p b
check_as told wrote old new o1 o2 w1 w2 i p a b e r = subst (λ (x : Result Unit Stop).
    RanCheck told wrote old new o1 o2 w1 w2 i p x) (sym e) r

pub checks_so : (told wrote : Type 0) (old new : DiskState) (o1 o2 : ℕ) (w1 w2 : List ℕ)
    (i p : List ℕ) (answer : Result Unit Stop) → RanCheck told wrote old new o1 o2 w1 w2 i p answer
    → told → HoldsBoth old.folder i p → (Rises old.faults new.faults → ⊥) → (Rises o1 o2 → ⊥)
    → (status_of answer ≡ 0) ⊎ (status_of answer ≡ 12)
checks_so told wrote old new o1 o2 w1 w2 i p (Ok done) ran t h disk out = inl refl
checks_so told wrote old new o1 o2 w1 w2 i p (Err s) ran t h disk out =
    checks_through told wrote old new o1 o2 w1 w2 i p s ran t h disk out

-- what is said of these bytes is said of the texts that they are
pub says_as : (a b c d i p : List ℕ) (r : Result Checked Refusal) → a ≡ c → b ≡ d
    → BothOf (Some a) (Some b) i p r → BothOf (Some c) (Some d) i p r
says_as a b c d i p r idl program says =
    subst (λ (x : List ℕ). BothOf (Some x) (Some d) i p r) idl
    (subst (λ (x : List ℕ). BothOf (Some a) (Some x) i p r) program says)
