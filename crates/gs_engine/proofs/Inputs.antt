-- What is read for a task, place by place.
use Rattle.std.proofs.Common.{◌≡◌, ℕ, ◌+◌, ◌<◌, Bool, List, [], ◌∷◌, ◌++◌, length, take, get_or, zero, suc, Some, refl, sym, ap, subst, ◌∙◌}
use Rattle.std.specs.Prelude.{slice_get}
use Rattle.std.proofs.lemmas.List.{take_more}
use Rattle.std.proofs.lemmas.Option.{slice_get-get_or}
use Rattle.gs_types.specs.History.{History}
use Rattle.gs_types.specs.declared.job.Arg.{Arg}
use Rattle.gs_types.specs.declared.note.Version.{Version}
use Rattle.gs_disk.specs.Folder.{Folder}
use Rattle.gs_talk.specs.Seq.{Files, World}
use Rattle.gs_tables.specs.Starts.{AreStartArgs}
use Rattle.gs_tables.specs.declared.row.StartArg.{StartArg}
use Rattle.gs_tables.specs.declared.row.StartArg.TheVariants as start
use Rattle.gs_store.specs.Names.{version_name}
use Rattle.gs_finish.specs.declared.halt.Halt.{Halt}
use Rattle.gs_finish.specs.declared.halt.Halt.TheVariants.{Disk, NoMemory, Lost}
use Rattle.gs_finish.specs.Halting.{Lacks}
use Rattle.gs_engine.specs.Reading.{file_input, IsOwn, AreGiven, LacksOne}
use Rattle.gs_engine.proofs.Forms.{HasForm, has_form}

-- ---- one place

first_of : (first : Files) (w : World) (h : History) (x : StartArg) (args : List Arg)
    → AreStartArgs first w h (x ∷ []) args → (a : Arg) × (args ≡ a ∷ []) × HasForm first w h x a
first_of first w h x [] are = absurd are
first_of first w h x (a ∷ []) are = (a, refl, has_form first w h x a are.0)
first_of first w h x (a ∷ b ∷ args) are = absurd are.1

some_bytes : (a b : List ℕ) → Some a ≡ Some b → a ≡ b
some_bytes a b e = cc

-- a file that was read
pub file_given : (f : Folder) (v : Version) (kept : ℕ) (both : Bool) (bytes : List ℕ) → IsOwn v
    → f (version_name v) ≡ Some bytes
    → AreGiven f (start.From v kept both ∷ []) (file_input bytes both ∷ [])
file_given f v kept both bytes own reads first w h args stand are =
    let one = first_of first w h (start.From v kept both) args are in
    let from = one.2 in
    let same : bytes ≡ from.0 = some_bytes bytes from.0
    (sym reads ∙ stand v from.0 own from.1.there from.1.holds) in
    ap (λ (b : List ℕ). file_input b both ∷ []) same
    ∙ ap (λ (a : Arg). a ∷ []) (sym from.2) ∙ sym one.1

-- what is no file is given as it is
pub plain_given : (f : Folder) (x : StartArg) (got : Arg)
    → ((first : Files) (w : World) (h : History) (a : Arg) → HasForm first w h x a → a ≡ got)
    → AreGiven f (x ∷ []) (got ∷ [])
plain_given f x got form first w h args stand are =
    let one = first_of first w h x args are in
    ap (λ (a : Arg). a ∷ []) (sym (form first w h one.0 one.2)) ∙ sym one.1

pub lacks_one : (f : Folder) (x : StartArg) (v : Version) (kept : ℕ) (both : Bool) (e : Halt)
    → x ≡ start.From v kept both → IsOwn v → Lacks f v (Some kept) e → LacksOne f (x ∷ []) e
lacks_one f x v kept both (Lost w len found) is own lacks = record {
  place = 0;
  both = both;
  at = ap Some is ∙ ap (λ (u : Version). Some (start.From u kept both)) (sym lacks.0)
      ∙ ap (λ (n : ℕ). Some (start.From w n both)) (some_one kept len lacks.1);
  own = subst IsOwn (sym lacks.0) own;
  found_is = lacks.2 ∙ ap (Rattle.gs_store.specs.Versions.len_of f) (sym lacks.0);
  lost = lacks.3;
}
  where
    some_one : (a b : ℕ) → Some a ≡ Some b → a ≡ b
    some_one a b e = cc
lacks_one f x v kept both Disk is own lacks = tt
lacks_one f x v kept both NoMemory is own lacks = tt

-- ---- one place more

pub given_none : (f : Folder) → AreGiven f [] []
given_none f first w h [] stand are = refl
given_none f first w h (a ∷ args) stand are = absurd are

split_args : (first : Files) (w : World) (h : History) (ys : List StartArg) (x : StartArg)
    (args : List Arg) → AreStartArgs first w h (ys ++ x ∷ []) args
    → (front : List Arg) × (a : Arg) × (args ≡ front ++ a ∷ []) × AreStartArgs first w h ys front
    × AreStartArgs first w h (x ∷ []) (a ∷ [])
split_args first w h [] x [] are = absurd are
split_args first w h [] x (a ∷ []) are = ([], a, refl, tt, are)
split_args first w h [] x (a ∷ b ∷ args) are = absurd are.1
split_args first w h (y ∷ ys) x [] are = absurd are
split_args first w h (y ∷ ys) x (b ∷ args) are =
    let rest = split_args first w h ys x args are.1 in
    (b ∷ rest.0, rest.1, ap (λ (l : List Arg). b ∷ l) rest.2, (are.0, rest.3), rest.4)

given_more : (f : Folder) (ys : List StartArg) (x : StartArg) (got : List Arg) (a : Arg)
    → AreGiven f ys got → AreGiven f (x ∷ []) (a ∷ [])
    → AreGiven f (ys ++ x ∷ []) (got ++ a ∷ [])
given_more f ys x got a all one first w h args stand are =
    let s = split_args first w h ys x args are in
    let front = all first w h s.0 stand s.3 in
    let last = one first w h (s.1 ∷ []) stand s.4 in (λ i. front i ++ last i) ∙ sym s.2

pub given_next : (f g : Folder) (xs : List StartArg) (i : ℕ) (x : StartArg) (got new : List Arg)
    (a : Arg) → i < length xs → x ≡ get_or xs i x → g ≡ f → new ≡ got ++ a ∷ []
    → AreGiven f (take i xs) got → AreGiven g (x ∷ []) (a ∷ [])
    → AreGiven f (take (i + 1) xs) new
given_next f g xs i x got new a lt item same grown all one =
    subst (λ (l : List Arg). AreGiven f (take (i + 1) xs) l) (sym grown)
    (subst (λ (l : List StartArg). AreGiven f l (got ++ a ∷ []))
    (sym (take_more xs i x lt ∙ ap (λ (y : StartArg). take i xs ++ y ∷ []) (sym item)))
    (given_more f (take i xs) x got a all
    (subst (λ (u : Folder). AreGiven u (x ∷ []) (a ∷ [])) same one)))

pub lacks_at : (f g : Folder) (xs : List StartArg) (i : ℕ) (x : StartArg) (e : Halt)
    → i < length xs → x ≡ get_or xs i x → g ≡ f → LacksOne g (x ∷ []) e → LacksOne f xs e
lacks_at f g xs i x (Lost v kept found) lt item same lacks = record {
  place = i;
  both = lacks.both;
  at = slice_get-get_or xs i x lt ∙ ap Some (sym item) ∙ here (lacks.place) lacks.at;
  own = lacks.own;
  found_is = lacks.found_is ∙ ap (λ (u : Folder). Rattle.gs_store.specs.Versions.len_of u v) same;
  lost = lacks.lost;
}
  where
    here : (p : ℕ) → slice_get (x ∷ []) p ≡ Some (start.From v kept lacks.both)
        → Some x ≡ Some (start.From v kept lacks.both)
    here zero is = is
    here (suc p) is = absurd cc
lacks_at f g xs i x Disk lt item same lacks = tt
lacks_at f g xs i x NoMemory lt item same lacks = tt
