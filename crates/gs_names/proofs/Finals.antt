-- The list of finals against the list of writes.
use Rattle.std.proofs.Common.{◌≡◌, ℕ, Bool, true, false, refl, sym, ap, ◌∙◌, List, [], ◌∷◌, ◌++◌, Option, Some, None, if◌then◌else◌, map}
use Rattle.std.specs.Prelude.{bytes_eq, ◌||◌}
use Rattle.std.specs.List.{list_any}
use Rattle.std.specs.Map.{lookup}
use Rattle.std.proofs.lemmas.Slice.Eq.{bytes_eq-Decides}
use Rattle.indexmap.specs.IndexMap.{insert_entry}
use Rattle.gs_types.specs.declared.note.Version.{Version}
use Rattle.gs_types.specs.declared.note.Version.TheVariants.{Original}
use Rattle.gs_names.specs.Writes.{Write, latest, with_name, first_written, finals_of}

pub same_bytes : (a b : List ℕ) → bytes_eq a b ≡ true → a ≡ b
same_bytes a b e = (bytes_eq-Decides a b).0 e

bytes_same : (a b : List ℕ) → a ≡ b → bytes_eq a b ≡ true
bytes_same a b e = (bytes_eq-Decides a b).1 e

-- what stands at a name once another was written
pub lookup_put : (x y : List ℕ) (v : Version) (es : List Write) → lookup (bytes_eq x) (insert_entry bytes_eq es y v) ≡ (if bytes_eq x y then Some v else lookup (bytes_eq x) es)
lookup_put x y v [] = refl
lookup_put x y v (e ∷ es) = here (bytes_eq y e.0) refl (lookup_put x y v es)
  where
    at_key : (t : Bool) (l : Option Version) → (if t then Some v else l) ≡ (if t then Some v else (if t then Some e.1 else l))
    at_key true l = refl
    at_key false l = refl

    other : (t b : Bool) → bytes_eq x e.0 ≡ t → bytes_eq x y ≡ b → bytes_eq y e.0 ≡ false → lookup (bytes_eq x) (insert_entry bytes_eq es y v) ≡ (if b then Some v else lookup (bytes_eq x) es) → (if t then Some e.1 else lookup (bytes_eq x) (insert_entry bytes_eq es y v)) ≡ (if b then Some v else (if t then Some e.1 else lookup (bytes_eq x) es))
    other true true p q apart rest = let together = bytes_same y e.0 (sym (same_bytes x y q) ∙ same_bytes x e.0 p) in absurd (cc)
    other true false p q apart rest = refl
    other false b p q apart rest = rest

    here : (t : Bool) → bytes_eq y e.0 ≡ t → lookup (bytes_eq x) (insert_entry bytes_eq es y v) ≡ (if bytes_eq x y then Some v else lookup (bytes_eq x) es) → lookup (bytes_eq x) (if t then (e.0, v) ∷ es else e ∷ insert_entry bytes_eq es y v) ≡ (if bytes_eq x y then Some v else (if bytes_eq x e.0 then Some e.1 else lookup (bytes_eq x) es))
    here true p rest = at_key (bytes_eq x e.0) (lookup (bytes_eq x) es) ∙ ap (λ (z : List ℕ). if bytes_eq x z then Some v else (if bytes_eq x e.0 then Some e.1 else lookup (bytes_eq x) es)) (sym (same_bytes y e.0 p))
    here false p rest = other (bytes_eq x e.0) (bytes_eq x y) refl refl p rest

-- the version that a look-up says
abbrev pub version_or : List ℕ → Option Version → Version
version_or x None = Original x
version_or x (Some v) = v

-- the version among the finals is the last one
pub latest_is : (x : List ℕ) (ws : List Write) → version_or x (lookup (bytes_eq x) (finals_of ws)) ≡ latest x ws
latest_is x [] = refl
latest_is x (w ∷ ws) = ap (version_or x) (lookup_put x w.0 w.1 (finals_of ws)) ∙ here (bytes_eq x w.0) (latest_is x ws)
  where
    here : (t : Bool) → version_or x (lookup (bytes_eq x) (finals_of ws)) ≡ latest x ws → version_or x (if t then Some w.1 else lookup (bytes_eq x) (finals_of ws)) ≡ (if t then w.1 else latest x ws)
    here true rest = refl
    here false rest = rest

names_put : (y : List ℕ) (v : Version) (es : List Write) → map (λ (f : Write). f.0) (insert_entry bytes_eq es y v) ≡ with_name (map (λ (f : Write). f.0) es) y
names_put y v [] = refl
names_put y v (e ∷ es) = here (bytes_eq y e.0) (names_put y v es)
  where
    behind : (r : Bool) (ks : List (List ℕ)) → (e.0 ∷ (if r then ks else ks ++ y ∷ [])) ≡ (if r then e.0 ∷ ks else (e.0 ∷ ks) ++ y ∷ [])
    behind true ks = refl
    behind false ks = refl

    here : (t : Bool) → map (λ (f : Write). f.0) (insert_entry bytes_eq es y v) ≡ with_name (map (λ (f : Write). f.0) es) y
        → map (λ (f : Write). f.0) (if t then (e.0, v) ∷ es else e ∷ insert_entry bytes_eq es y v) ≡ (if t || list_any (bytes_eq y) (map (λ (f : Write). f.0) es) then e.0 ∷ map (λ (f : Write). f.0) es else (e.0 ∷ map (λ (f : Write). f.0) es) ++ y ∷ [])
    here true rest = refl
    here false rest = ap (λ (ks : List (List ℕ)). e.0 ∷ ks) rest ∙ behind (list_any (bytes_eq y) (map (λ (f : Write). f.0) es)) (map (λ (f : Write). f.0) es)

-- the finals stand in the order of first writing
pub first_is : (ws : List Write) → map (λ (f : Write). f.0) (finals_of ws) ≡ first_written ws
first_is [] = refl
first_is (w ∷ ws) = names_put w.0 w.1 (finals_of ws) ∙ ap (λ (ks : List (List ℕ)). with_name ks w.0) (first_is ws)
