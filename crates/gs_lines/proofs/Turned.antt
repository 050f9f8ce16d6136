-- Lines from the last to the first, and line by line.
use Rattle.std.proofs.Common.{◌≡◌, ℕ, ◌+◌, ◌<◌, refl, ap, sym, ◌∙◌, List, [], ◌∷◌, ◌++◌, length, take, get_or, add-one, append_assoc}
use Rattle.std.specs.Prelude.{map}
use Rattle.std.proofs.Math.Seq.{take-suc}
use Rattle.std.proofs.lemmas.List.{map-append}
use mathlib.Core.List.{reverse_aux, reverse}
use Rattle.gs_lines.specs.Lines.{file_of}

map-reverse_aux : {X Y : Type 0} (f : X → Y) (xs rest : List X) → map f (reverse_aux xs rest) ≡
    reverse_aux (map f xs) (map f rest)
map-reverse_aux f [] rest = refl
map-reverse_aux f (x ∷ xs) rest = map-reverse_aux f xs (x ∷ rest)

pub map-reverse : {X Y : Type 0} (f : X → Y) (xs : List X) → map f (reverse xs) ≡ reverse (map f xs)
map-reverse f xs = map-reverse_aux f xs []

pub file_of-append : (ls ms : List (List ℕ)) → file_of (ls ++ ms) ≡ file_of ls ++ file_of ms
file_of-append [] ms = refl
file_of-append (line ∷ ls) ms =
    ap (λ (f : List ℕ). line ++ 10 ∷ f) (file_of-append ls ms) ∙ sym (append_assoc line (10 ∷
    file_of ls) (file_of ms))

-- a file of some things' lines, one more of them
pub file_of-take : {X : Type 0} (key : X → List ℕ) (xs : List X) (i : ℕ) (d : X) (file new : List ℕ)
    → i < length xs → new ≡ file ++ (key (get_or xs i d) ++ 10 ∷ []) → file ≡ file_of (map key (take
    i xs)) → new ≡ file_of (map key (take (i + 1) xs))
file_of-take key xs i d file new lt pushed so_far = rw add-one
    (pushed ∙ ap (λ (f : List ℕ). f ++ (key (get_or xs i d) ++ 10 ∷ [])) so_far
    ∙ sym (file_of-append (map key (take i xs)) (key (get_or xs i d) ∷ []))
    ∙ ap file_of (sym (map-append key (take i xs) (get_or xs i d ∷ [])))
    ∙ ap (λ (ys : List _). file_of (map key ys)) (sym (take-suc xs i d lt)))
