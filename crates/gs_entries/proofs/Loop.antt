-- Reading and writing one after the other, as a loop does.
use Rattle.std.proofs.Common.{◌≡◌, ℕ, suc, ◌-◌, ◌+◌, ◌<◌, Bool, true, false, ◌&&◌, leb, List, [], ◌∷◌, ◌++◌, length, get_or, drop, drop-cons, Option, Some, None, refl, sym, ap, subst, ◌∙◌, append_assoc, arith}
use Rattle.gs_fields.specs.Fields.{◌>>=◌}
use Rattle.gs_types.specs.declared.limits.TheConstants.{NAME_LIMIT, VARIABLE_LIMIT}
use Rattle.gs_fields.specs.Format.{Format, four, counted, times, all_fit}
use Rattle.gs_entries.specs.Notes.{up_to, name, final, var}
use Rattle.gs_entries.specs.Actions.{action}
use Rattle.gs_entries.specs.Gate.{names, finals, printed, vars, actions, gate_fields, gate_ok, gate}
use Rattle.gs_entries.specs.declared.entry.GateNote.{GateNote}

-- what is read, with these in front
abbrev pub with_front : {A : Type 0} → List A → Option (List A × List ℕ) → Option (List A × List ℕ)
with_front front read = read >>= λ x. Some (front ++ x.0, x.1)

regroup : {A : Type 0} (front : List A) (n : A) (read : Option (List A × List ℕ)) → with_front front (read >>= λ x. Some (n ∷ x.0, x.1)) ≡ with_front (front ++ n ∷ []) read
regroup {A = A} front n (Some x) = ap (λ (ns : List A). Some (ns, x.1)) (simp append_assoc)
regroup front n None = refl

pub goes_on : {A : Type 0} (f : Format A) (front : List A) (count i : ℕ) (b : List ℕ) (n : A) (after : List ℕ) (total : Option (List A × List ℕ)) → i < count → f.read b ≡ Some (n, after)
    → with_front front (times f (count - i) b) ≡ total → with_front (front ++ n ∷ []) (times f (count - (i + 1)) after) ≡ total
goes_on f front count i b n after total lt h so_far =
    let k : count - i ≡ suc (count - (i + 1)) = omega arith in
    let one : with_front front (times f (count - i) b) ≡ with_front (front ++ n ∷ []) (times f (count - (i + 1)) after) = rw (k, h) (regroup front n (times f (count - (i + 1)) after)) in
    sym one ∙ so_far

pub both : (a b : Bool) → (a && b) ≡ true → (a ≡ true) × (b ≡ true)
both true b e = (refl, e)
both false b e = absurd cc

-- the next of values that fit
pub item_fits : {A : Type 0} (f : Format A) (xs : List A) (i : ℕ) (x : A) → i < length xs → x ≡ get_or xs i x → all_fit f (drop i xs) ≡ true → f.fits x ≡ true
item_fits {A = A} f xs i x lt is fits =
    let next : drop i xs ≡ x ∷ drop (suc i) xs = drop-cons xs i x lt ∙ ap (λ (y : A). y ∷ drop (suc i) xs) (sym is) in
    (both (f.fits x) (all_fit f (drop (suc i) xs)) (subst (λ (l : List A). all_fit f l ≡ true) next fits)).0

-- a list that fits within a limit fits
pub list_fits : {A : Type 0} (limit : ℕ) (f : Format A) (xs : List A) → (counted (up_to limit four) f).fits xs ≡ true → (counted four f).fits xs ≡ true
list_fits limit f xs e =
    let h = both ((up_to limit four).fits (length xs)) (all_fit f xs) e in
    let k = both (four.fits (length xs)) (leb (length xs) limit) h.0 in
    rw (k.0, h.1) refl

-- the parts of a gate's note that fits
pub record PartsFit (g : GateNote) : Type 0 where
  pub names_fit : (counted four name).fits g.names ≡ true
  pub finals_fit : (counted four final).fits g.finals ≡ true
  pub text_fits : printed.fits g.text ≡ true
  pub vars_fit : (counted four var).fits g.vars ≡ true
  pub actions_fit : (counted four action).fits g.actions ≡ true

pub parts_fit : (g : GateNote) → gate.fits g ≡ true → PartsFit g
parts_fit g e =
    let all = both (gate_fields.fits g) (gate_ok g) e in
    let a = both (names.fits g.names) _ all.0 in
    let b = both (finals.fits g.finals) _ a.1 in
    let c = both (printed.fits g.text) _ b.1 in
    let d = both (vars.fits g.vars) (actions.fits g.actions) c.1 in
    record {
      names_fit = list_fits NAME_LIMIT name g.names a.0;
      finals_fit = list_fits NAME_LIMIT final g.finals b.0;
      text_fits = c.0;
      vars_fit = list_fits VARIABLE_LIMIT var g.vars d.0;
      actions_fit = list_fits 50001 action g.actions d.1;
    }
