-- A file that was read whole.
use Rattle.std.proofs.Common.{◌≡◌, ℕ, ◌≤◌, List, ◌++◌, length, take, drop, Option, Some, None, option_map, sym, ◌∙◌, ap, subst, arith}
use Rattle.std.proofs.lemmas.List.{take_all, drop_all, append-nil}
use Rattle.gs_disk.specs.Folder.{IsRead}

pub whole_read : (file seen : Option (List ℕ)) (len n limit : ℕ) (old new into : List ℕ) → Some len ≡ option_map length file → seen ≡ file → length old ≡ len → IsRead 0 n seen old new → into ≡ take n new → len ≤ limit → (file ≡ Some into) × (n ≡ length into) × (n ≤ limit)
whole_read None seen len n limit old new into is same long got cut small = absurd (cc (is))
whole_read (Some bytes) seen len n limit old new into is same long got cut small =
    let read : IsRead 0 n (Some bytes) old new = subst (λ (o : Option (List ℕ)). IsRead 0 n o old new) same got in
    let size : len ≡ length bytes = cc in
    let all : n ≡ length bytes = omega (arith, read.0) in
    let new_is : new ≡ bytes = read.1 ∙ ap (λ (l : List ℕ). l ++ drop n old) (take_all n bytes (omega arith)) ∙ ap (λ (l : List ℕ). bytes ++ l) (drop_all n old (omega arith)) ∙ append-nil bytes in
    let into_is : into ≡ bytes = cut ∙ take_all n new (omega (arith, ap length new_is)) ∙ new_is in
    (ap (λ (l : List ℕ). Some l) (sym into_is), all ∙ sym (ap length into_is), omega arith)

-- what a `Vec` has once a slice of all of it was written
pub lent_all : (items buf : List ℕ) (k : ℕ) → k ≡ length items → length buf ≡ length items → take k (buf ++ drop (length buf) items) ≡ buf
lent_all items buf k size same =
    ap (λ (l : List ℕ). take k (buf ++ l)) (drop_all (length buf) items (omega arith)) ∙ ap (λ (l : List ℕ). take k l) (append-nil buf) ∙ take_all k buf (omega arith)
