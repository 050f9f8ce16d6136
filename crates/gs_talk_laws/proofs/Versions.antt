-- Versions in a world that grows.
use Rattle.std.proofs.Common.{◌≡◌, ◌<◌, ◌≤◌, ℕ, zero, suc, Bool, true, false, refl, sym, ap, ap₂, ◌∙◌, subst, List, [], ◌∷◌, ◌++◌, length, Option, Some, None, arith, slice_get, inl, inr, if◌then◌else◌}
use Rattle.std.specs.Str.{bytes_eq}
use Rattle.std.proofs.lemmas.Slice.Eq.{bytes_eq-Decides}
use Rattle.gs_idl.specs.Interface.{Param, writes_file}
use Rattle.gs_types.specs.declared.note.Version.{Version}
use Rattle.gs_types.specs.declared.note.Version.TheVariants.{Original, Out, Main}
use Rattle.gs_talk.specs.declared.question.CallArg.{CallArg}
use Rattle.gs_talk.specs.declared.question.CallArg.TheVariants as arg
use Rattle.gs_talk.specs.Seq.{Run, World, Files, Task, given, and_all, output_of, task_at}
use Rattle.gs_talk_laws.specs.Fuels.{IsPrefixOf}
use Rattle.gs_talk_laws.specs.Numbers.{at_number}
use Rattle.gs_talk_laws.specs.Versions.{Written, latest_from, written_at, written_by, left_by, closed_as, version_value, IsStored, IsVersionOf, content_by, all_given_by, IsBefore, IsTaskOf}
use Rattle.gs_talk_laws.proofs.Lists.{get_longer, get_within, number_longer, RestOf, here_of, after_of}
use Rattle.gs_talk_laws.proofs.Staying.{Grown}

pub task_longer : (xs ys : List Task) (n : ℕ) (t : Task) → IsPrefixOf xs ys → task_at xs n ≡ Some t → task_at ys n ≡ Some t
task_longer xs ys zero t h e = absurd (cc)
task_longer xs ys (suc n) t h e = get_longer xs ys n t h e

pub task_within : (xs : List Task) (n : ℕ) (t : Task) → task_at xs n ≡ Some t → n ≤ length xs
task_within xs zero t e = omega arith
task_within xs (suc n) t e = let lt = get_within xs n t e in omega arith

stored_later : (w v : World) → Grown w v → (name : List ℕ) (a : Version) → IsStored w name a → IsStored v name a
stored_later w v g name (Original x) h = h
stored_later w v g name (Out n place) h = record {
  task = h.task;
  param = h.param;
  is = task_longer w.tasks v.tasks n h.task g.tasks h.is;
  takes = h.takes;
  passed = h.passed;
  writes = h.writes;
}
stored_later w v g name (Main k) h = (h.0, number_longer w.closed v.closed k h.0 g.closed h.1)

pub version_later : (w v : World) → Grown w v → (name : List ℕ) (a : Version) → IsVersionOf w name a → IsVersionOf v name a
version_later w v g name a (inl e) = inl e
version_later w v g name a (inr h) = inr (stored_later w v g name a h)

stored_value : (first : Files) (w v : World) → Grown w v → (name : List ℕ) (a : Version) → IsStored w name a → version_value first v a ≡ version_value first w a
stored_value first w v g name (Original x) h = absurd h
stored_value first w v g name (Out n place) h = ap (λ o. left_by (output_of o place)) (task_longer w.tasks v.tasks n h.task g.tasks h.is ∙ sym h.is)
stored_value first w v g name (Main k) h = ap closed_as (number_longer w.closed v.closed k h.0 g.closed h.1 ∙ sym h.1)

pub value_later : (first : Files) (w v : World) → Grown w v → (name : List ℕ) (a : Version) → IsVersionOf w name a → version_value first v a ≡ version_value first w a
value_later first w v g name a (inl e) = ap (version_value first v) e ∙ ap (version_value first w) (sym e)
value_later first w v g name a (inr h) = stored_value first w v g name a h

-- ---- the latest

pub latest-append : (v : Version) (x : List ℕ) (ws us : List Written) → latest_from v x (ws ++ us) ≡ latest_from (latest_from v x ws) x us
latest-append v x [] us = refl
latest-append v x (w ∷ ws) us = latest-append (if bytes_eq w.name x then w.version else v) x ws us

abbrev pub AllStored : World → List Written → Type 0
AllStored w ws = (i : ℕ) (y : Written) → slice_get ws i ≡ Some y → IsStored w y.name y.version

pub all_later : (w v : World) → Grown w v → (ws : List Written) → AllStored w ws → AllStored v ws
all_later w v g ws h i y e = stored_later w v g y.name y.version (h i y e)

all_cons : (w : World) (x : Written) (ws : List Written) → IsStored w x.name x.version → AllStored w ws → AllStored w (x ∷ ws)
all_cons w x ws h k zero y e = let is : x ≡ y = cc in subst (λ (z : Written). IsStored w z.name z.version) is h
all_cons w x ws h k (suc i) y e = k i y e

pub all-append : (w : World) (ws us : List Written) → AllStored w ws → AllStored w us → AllStored w (ws ++ us)
all-append w [] us h k i y e = k i y e
all-append w (x ∷ ws) us h k i y e = all_cons w x (ws ++ us) (h 0 x refl) (all-append w ws us (λ j. h (suc j)) k) i y e

same_name : (a b : List ℕ) → bytes_eq a b ≡ true → a ≡ b
same_name a b e = (bytes_eq-Decides a b).0 e

pub latest_stored : (w : World) (x : List ℕ) (ws : List Written) (v : Version) → AllStored w ws → IsVersionOf w x v → IsVersionOf w x (latest_from v x ws)
latest_stored w x [] v h k = k
latest_stored w x (y ∷ ws) v h k = latest_stored w x ws (if bytes_eq y.name x then y.version else v) (λ j. h (suc j)) (of_test (bytes_eq y.name x) refl)
  where
    of_test : (b : Bool) → bytes_eq y.name x ≡ b → IsVersionOf w x (if b then y.version else v)
    of_test true e = inr (subst (λ (name : List ℕ). IsStored w name y.version) (same_name y.name x e) (h 0 y refl))
    of_test false e = k

-- ---- what a task leaves is stored

stored_file : (w : World) (n : ℕ) (t : Task) → task_at w.tasks n ≡ Some t → (p : Param) (name : List ℕ) (place : ℕ) (more : List Written) → at_number t.params place ≡ Some p → at_number t.called place ≡ Some (arg.File name) →
    AllStored w more → AllStored w (written_at n place p (arg.File name) more)
stored_file w n t is p name place more takes passed h = of_test (writes_file p) refl
  where
    of_test : (b : Bool) → writes_file p ≡ b → AllStored w (if b then record { name = name; version = Out n place } ∷ more else more)
    of_test true e = all_cons w (record { name = name; version = Out n place }) more (record { task = t; param = p; is = is; takes = takes; passed = passed; writes = e }) h
    of_test false e = h

pub written_stored : (w : World) (n : ℕ) (t : Task) → task_at w.tasks n ≡ Some t → (ps : List Param) (args : List CallArg) (place : ℕ) → RestOf t.params place ps → RestOf t.called place args → AllStored w (written_by n place ps args)
written_stored w n t is [] args place hp ha i y e = absurd (cc)
written_stored w n t is (p ∷ ps) [] place hp ha i y e = absurd (cc)
written_stored w n t is (p ∷ ps) (arg.Int k ∷ args) place hp ha i y e = written_stored w n t is ps args (suc place) (after_of t.params place p ps hp) (after_of t.called place (arg.Int k) args ha) i y e
written_stored w n t is (p ∷ ps) (arg.Str s ∷ args) place hp ha i y e = written_stored w n t is ps args (suc place) (after_of t.params place p ps hp) (after_of t.called place (arg.Str s) args ha) i y e
written_stored w n t is (p ∷ ps) (arg.OutInt ∷ args) place hp ha i y e = written_stored w n t is ps args (suc place) (after_of t.params place p ps hp) (after_of t.called place arg.OutInt args ha) i y e
written_stored w n t is (p ∷ ps) (arg.OutStr ∷ args) place hp ha i y e = written_stored w n t is ps args (suc place) (after_of t.params place p ps hp) (after_of t.called place arg.OutStr args ha) i y e
written_stored w n t is (p ∷ ps) (arg.File name ∷ args) place hp ha i y e =
    stored_file w n t is p name place (written_by n (suc place) ps args) (here_of t.params place p ps hp) (here_of t.called place (arg.File name) args ha)
    (written_stored w n t is ps args (suc place) (after_of t.params place p ps hp) (after_of t.called place (arg.File name) args ha)) i y e

-- ---- what a task reads

content_later : (first : Files) (w v : World) → Grown w v → (o : Option Version) → ((a : Version) → o ≡ Some a → (name : List ℕ) × IsVersionOf w name a) → content_by first v o ≡ content_by first w o
content_later first w v g None h = refl
content_later first w v g (Some a) h = let is = h a refl in value_later first w v g is.0 a is.1

args_later : (first : Files) (w v : World) → Grown w v → (reads : List (Option Version)) (ps : List Param) (args : List CallArg) → ((i : ℕ) (a : Version) → slice_get reads i ≡ Some (Some a) → (name : List ℕ) × IsVersionOf w name a) →
    all_given_by first v reads ps args ≡ all_given_by first w reads ps args
args_later first w v g [] ps args h = refl
args_later first w v g (o ∷ reads) [] args h = refl
args_later first w v g (o ∷ reads) (p ∷ ps) [] h = refl
args_later first w v g (o ∷ reads) (p ∷ ps) (a ∷ args) h =
    ap₂ and_all (ap (λ c. given (λ name. c) p a) (content_later first w v g o (λ b e. h 0 b (ap (λ z. Some z) e)))) (args_later first w v g reads ps args (λ i. h (suc i)))

pub task_later : (r : Run) (w v : World) → Grown w v → (n : ℕ) (t : Task) (reads : List (Option Version)) → IsTaskOf r w n t reads → IsTaskOf r v n t reads
task_later r w v g n t reads h = record {
  params = h.params;
  fit = h.fit;
  places = h.places;
  args = h.args ∙ sym (args_later r.files w v g reads t.params t.called (λ i a e. ((h.each i a e).name, (h.each i a e).version)));
  outs = h.outs;
  each = λ i a e. record {
    name = (h.each i a e).name;
    passed = (h.each i a e).passed;
    version = version_later w v g (h.each i a e).name a (h.each i a e).version;
    before = (h.each i a e).before;
  };
}

stored_before : (w : World) (name : List ℕ) (v : Version) (n : ℕ) → length w.tasks < n → IsStored w name v → IsBefore n v
stored_before w name (Original x) n lt h = tt
stored_before w name (Out m place) n lt h = let le = task_within w.tasks m h.task h.is in omega arith
stored_before w name (Main k) n lt h = tt

pub version_before : (w : World) (name : List ℕ) (v : Version) (n : ℕ) → length w.tasks < n → IsVersionOf w name v → IsBefore n v
version_before w name v n lt (inl e) = subst (IsBefore n) (sym e) tt
version_before w name v n lt (inr h) = stored_before w name v n lt h
