-- Payloads that are read one after the other.
use Rattle.std.proofs.Common.{◌≡◌, ℕ, suc, ◌+◌, ◌<◌, ◌≤◌, Bool, true, false, cond, List, [], ◌∷◌, ◌++◌, length, get_or, take, drop, drop-cons, Option, Some, None, Result, Err, refl, sym, ap, subst, ◌∙◌, arith, add-one, length-append}
use Rattle.std.proofs.lemmas.List.{take_more, take_all, drop_all}
use Rattle.gs_types.specs.Bytes.{IsBytes}
use Rattle.gs_fields.specs.Format.{whole}
use Rattle.gs_fields.proofs.Laws.{bind_some}
use Rattle.gs_entries.specs.Entries.{entry, Spells}
use Rattle.gs_entries.specs.Order.{follows, accepted, records, IsFirst}
use Rattle.gs_entries.specs.declared.entry.Entry.{Entry}
use Rattle.gs_entries.proofs.Spelling.{spelled_whole}
use Rattle.gs_entries.proofs.Ordered.{is_first}
use Rattle.gs_store.specs.Keeps.{spelled, spelled_push}
use Rattle.gs_store.specs.Loading.{IsReadFrom}
use Rattle.gs_store.specs.Ordered.{AreInOrder}
use Rattle.gs_store.proofs.Counting.{in_order_push}

kept_is : (t : Bool) (x e : Entry) → cond t (Some x) None ≡ Some e → x ≡ e
kept_is true x e is = cc
kept_is false x e is = absurd cc

accepted_spells : (es : List Entry) (p : List ℕ) (e : Entry) → IsBytes p
    → accepted es p ≡ Some e → Spells e p
unfolding accepted
accepted_spells es p e h is =
    let b = bind_some (whole entry p) (λ x. cond (follows es x) (Some x) None) e is in
    subst (λ (x : Entry). Spells x p) (kept_is (follows es b.0) b.0 e b.2)
    (spelled_whole b.0 p h b.1)

next : (list : List (List ℕ)) (i : ℕ) (p : List ℕ) → i < length list
    → p ≡ get_or list i [] → drop i list ≡ p ∷ drop (i + 1) list
next list i p lt is = drop-cons list i [] lt
    ∙ ap (λ (q : List ℕ). q ∷ drop (suc i) list) (sym is)
    ∙ ap (λ (n : ℕ). p ∷ drop n list) (sym (add-one i))

records_next : (es : List Entry) (p : List ℕ) (ps : List (List ℕ)) (o : Option Entry)
    → accepted es p ≡ o
    → records es (p ∷ ps) ≡ elim o as (λ _. Result (List Entry) ℕ) [
      | Some e ↦
          records (es ++ e ∷ []) ps
      | None ↦ Err (length es)
    ]
records_next es p ps o is =
    ap (λ (x : Option Entry). elim x as (λ _. Result (List Entry) ℕ) [
      | Some e ↦
          records (es ++ e ∷ []) ps
      | None ↦ Err (length es)
    ]) is

pub read_more : (es : List Entry) (list : List (List ℕ)) (i : ℕ) (p : List ℕ) (e : Entry)
    (total : Result (List Entry) ℕ) → i < length list → p ≡ get_or list i []
    → accepted es p ≡ Some e → records es (drop i list) ≡ total
    → records (es ++ e ∷ []) (drop (i + 1) list) ≡ total
read_more es list i p e total lt is took so_far =
    sym (ap (records es) (next list i p lt is)
    ∙ records_next es p (drop (i + 1) list) (Some e) took) ∙ so_far

pub spelled_more : (es : List Entry) (list : List (List ℕ)) (i : ℕ) (p : List ℕ) (e : Entry)
    → i < length list → p ≡ get_or list i [] → IsBytes p → accepted es p ≡ Some e
    → take i list ≡ spelled es → take (i + 1) list ≡ spelled (es ++ e ∷ [])
spelled_more es list i p e lt is h took so_far =
    take_more list i [] lt ∙ ap (λ (l : List (List ℕ)). l ++ get_or list i [] ∷ []) so_far
    ∙ ap (λ (q : List ℕ). spelled es ++ q ∷ []) (sym is
    ∙ (accepted_spells es p e h took).is) ∙ sym (spelled_push es e)

abbrev err_of : ℕ → Result (List Entry) ℕ
err_of n = Err n

pub refused_at : (es : List Entry) (list : List (List ℕ)) (i : ℕ) (p : List ℕ)
    → i < length list → p ≡ get_or list i [] → accepted es p ≡ None → length es ≡ i
    → records es (drop i list) ≡ records [] list → IsFirst list i
refused_at es list i p lt is none count so_far =
    is_first list i (sym so_far ∙ ap (records es) (next list i p lt is)
    ∙ records_next es p (drop (i + 1) list) None none ∙ ap err_of count)

pub all_read : (es : List Entry) (list : List (List ℕ)) (i : ℕ) → length list ≤ i
    → records es (drop i list) ≡ records [] list → take i list ≡ spelled es
    → AreInOrder es
    → IsReadFrom list es
all_read es list i le so_far is order = record {
  read = sym so_far ∙ ap (records es) (drop_all i list le);
  is = sym (take_all i list le) ∙ is;
  in_order = order;
}

-- what was read of a list's first payloads
pub record IsReadTo (list : List (List ℕ)) (i : ℕ) (es : List Entry) : Type 0 where
  pub so_far : records es (drop i list) ≡ records [] list
  pub count : length es ≡ i
  pub is : take i list ≡ spelled es
  pub in_order : AreInOrder es

none_read : (list : List (List ℕ)) → IsReadTo list 0 []
unfolding spelled
none_read list = record { so_far = refl; count = refl; is = refl; in_order = tt }

pub read_none : (es : List Entry) (list : List (List ℕ)) → es ≡ [] → IsReadTo list 0 es
read_none es list is = subst (IsReadTo list 0) (sym is) (none_read list)

accepted_follows : (es : List Entry) (p : List ℕ) (e : Entry) → accepted es p ≡ Some e
    → follows es e ≡ true
unfolding accepted
accepted_follows es p e is =
    let b = bind_some (whole entry p) (λ x. cond (follows es x) (Some x) None) e is in
    follows_so (follows es b.0) b.0 e b.2 refl
  where
    follows_so : (t : Bool) (x f : Entry) → cond t (Some x) None ≡ Some f → t ≡ follows es x
        → follows es f ≡ true
    follows_so true x f e same = sym (same ∙ ap (follows es) (kept_is true x f e))
    follows_so false x f e same = absurd cc

read_push : (es : List Entry) (list : List (List ℕ)) (i : ℕ) (p : List ℕ) (e : Entry)
    → i < length list → p ≡ get_or list i [] → IsBytes p → accepted es p ≡ Some e
    → IsReadTo list i es → IsReadTo list (i + 1) (es ++ e ∷ [])
read_push es list i p e lt is h took r = record {
  so_far = read_more es list i p e (records [] list) lt is took r.so_far;
  count = omega (arith, length-append es (e ∷ []), r.count);
  is = spelled_more es list i p e lt is h took r.is;
  in_order = in_order_push es e r.in_order (accepted_spells es p e h took).fits
      (accepted_follows es p e took);
}

pub read_step : (es new : List Entry) (list : List (List ℕ)) (i : ℕ) (p : List ℕ) (e : Entry)
    → i < length list → p ≡ get_or list i [] → IsBytes p → accepted es p ≡ Some e
    → new ≡ es ++ e ∷ [] → IsReadTo list i es → IsReadTo list (i + 1) new
read_step es new list i p e lt is h took grown r =
    subst (IsReadTo list (i + 1)) (sym grown) (read_push es list i p e lt is h took r)
