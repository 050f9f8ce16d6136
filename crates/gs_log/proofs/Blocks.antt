-- What the two writes of an append make of a log's bytes, whole and torn. `front` is what stands before the closed gate.
use Rattle.std.proofs.Common.{◌≡◌, ◌≢◌, ◌⊎◌, inl, inr, ℕ, ◌+◌, ◌≤◌, List, [], ◌∷◌, ◌++◌, length, get_or, take, drop, refl, sym, ◌∙◌, ap, subst, arith, append_assoc, length-append, take-append-drop}
use Rattle.std.proofs.lemmas.List.{take_at, drop_at, drop_more}
use Rattle.std.proofs.lemmas.Bool.{cases_eq}
use Rattle.gs_disk.specs.Folder.{Torn, overwritten}

-- a closed gate stands behind the front
pub record Shut (front bytes : List ℕ) : Type 0 where
  pub gate : ℕ
  pub behind : List ℕ
  pub closed : gate ≢ 1
  pub is : bytes ≡ front ++ gate ∷ behind

-- a body stands behind the gate, and a closed gate behind it
pub record Staged (front body bytes : List ℕ) : Type 0 where
  pub gate : ℕ
  pub behind : List ℕ
  pub is : bytes ≡ front ++ gate ∷ (body ++ 0 ∷ behind)

module _ (front : List ℕ) (n : ℕ) (size : n ≡ length front) where
  front_part : (gate : ℕ) (rest : List ℕ) → take (n + 1) (front ++ gate ∷ rest) ≡ front ++ gate ∷ []
  front_part gate rest =
      let long : length (front ++ gate ∷ []) ≡ n + 1 = omega (arith, size, length-append front (gate ∷ [])) in
      ap (λ (l : List ℕ). take (n + 1) l) (sym (append_assoc front (gate ∷ []) rest)) ∙ take_at (front ++ gate ∷ []) rest (n + 1) long

  back_part : (gate : ℕ) (rest : List ℕ) → drop (n + 1) (front ++ gate ∷ rest) ≡ rest
  back_part gate rest =
      let long : length (front ++ gate ∷ []) ≡ n + 1 = omega (arith, size, length-append front (gate ∷ [])) in
      ap (λ (l : List ℕ). drop (n + 1) l) (sym (append_assoc front (gate ∷ []) rest)) ∙ drop_at (front ++ gate ∷ []) rest (n + 1) long

  pub long_shut : (bytes : List ℕ) → Shut front bytes → n + 1 ≤ length bytes
  long_shut bytes s = omega (arith, size, ap length s.is, length-append front (s.gate ∷ s.behind))

  pub torn_behind : (k : ℕ) (bytes c : List ℕ) → Shut front bytes → Torn (n + 1) k bytes c → Shut front c
  torn_behind k bytes c s torn =
      let same : take (n + 1) c ≡ front ++ s.gate ∷ [] = torn.before (long_shut bytes s) ∙ ap (λ (l : List ℕ). take (n + 1) l) s.is ∙ front_part s.gate s.behind in
      record {
        gate = s.gate;
        behind = drop (n + 1) c;
        closed = s.closed;
        is = sym (take-append-drop (n + 1) c) ∙ ap (λ (l : List ℕ). l ++ drop (n + 1) c) same ∙ append_assoc front (s.gate ∷ []) (drop (n + 1) c);
      }

  pub staged : (body bytes : List ℕ) → Shut front bytes → Staged front body (overwritten (n + 1) (body ++ 0 ∷ []) bytes)
  staged body bytes s =
      let same : take (n + 1) bytes ≡ front ++ s.gate ∷ [] = ap (λ (l : List ℕ). take (n + 1) l) s.is ∙ front_part s.gate s.behind in
      let rest = drop (n + 1 + length (body ++ 0 ∷ [])) bytes in
      let cut : overwritten (n + 1) (body ++ 0 ∷ []) bytes ≡ (front ++ s.gate ∷ []) ++ ((body ++ 0 ∷ []) ++ rest) = append_assoc (take (n + 1) bytes) (body ++ 0 ∷ []) rest ∙ ap (λ (l : List ℕ). l ++ ((body ++ 0 ∷ []) ++ rest)) same in
      let joined : (front ++ s.gate ∷ []) ++ ((body ++ 0 ∷ []) ++ rest) ≡ front ++ (s.gate ∷ ((body ++ 0 ∷ []) ++ rest)) = append_assoc front (s.gate ∷ []) ((body ++ 0 ∷ []) ++ rest) in
      let inner : (body ++ 0 ∷ []) ++ rest ≡ body ++ (0 ∷ rest) = append_assoc body (0 ∷ []) rest in
      record { gate = s.gate; behind = rest; is = cut ∙ joined ∙ ap (λ (l : List ℕ). front ++ (s.gate ∷ l)) inner }

  -- the gate is opened, or anything else stands there
  gated : (body : List ℕ) (gate : ℕ) (behind : List ℕ) → Shut front (front ++ gate ∷ (body ++ 0 ∷ behind)) ⊎ Shut (front ++ 1 ∷ body) (front ++ gate ∷ (body ++ 0 ∷ behind))
  gated body gate behind = elim (cases_eq gate 1) [
    | inl opened ↦ inr (record { gate = 0; behind = behind; closed = omega arith; is = ap (λ (g : ℕ). front ++ g ∷ (body ++ 0 ∷ behind)) opened ∙ sym (append_assoc front (1 ∷ body) (0 ∷ behind)) })
    | inr shut ↦ inl (record { gate = gate; behind = body ++ 0 ∷ behind; closed = shut; is = refl })
  ]

  pub long_staged : (body bytes : List ℕ) → Staged front body bytes → n + 1 ≤ length bytes
  long_staged body bytes s = omega (arith, size, ap length s.is, length-append front (s.gate ∷ (body ++ 0 ∷ s.behind)))

  pub torn_gate : (body bytes c : List ℕ) → Staged front body bytes → Torn n 1 bytes c → Shut front c ⊎ Shut (front ++ 1 ∷ body) c
  torn_gate body bytes c s torn =
      let long : n + 1 ≤ length bytes = long_staged body bytes s in
      let first : take n c ≡ front = torn.before (omega (arith, long)) ∙ ap (λ (l : List ℕ). take n l) s.is ∙ take_at front (s.gate ∷ (body ++ 0 ∷ s.behind)) n (sym size) in
      let last : drop (n + 1) c ≡ body ++ 0 ∷ s.behind = torn.after long ∙ ap (λ (l : List ℕ). drop (n + 1) l) s.is ∙ back_part s.gate (body ++ 0 ∷ s.behind) in
      let gate = get_or c n 0 in
      let rest : drop n c ≡ gate ∷ (body ++ 0 ∷ s.behind) = drop_more c n 0 (omega (arith, torn.no_shorter, long)) ∙ ap (λ (l : List ℕ). gate ∷ l) last in
      let whole : c ≡ front ++ gate ∷ (body ++ 0 ∷ s.behind) = sym (take-append-drop n c) ∙ ap (λ (l : List ℕ). l ++ drop n c) first ∙ ap (λ (l : List ℕ). front ++ l) rest in
      subst (λ (l : List ℕ). Shut front l ⊎ Shut (front ++ 1 ∷ body) l) (sym whole) (gated body gate s.behind)

  pub opened : (body bytes : List ℕ) → Staged front body bytes → Shut (front ++ 1 ∷ body) (overwritten n (1 ∷ []) bytes)
  opened body bytes s =
      let first : take n bytes ≡ front = ap (λ (l : List ℕ). take n l) s.is ∙ take_at front (s.gate ∷ (body ++ 0 ∷ s.behind)) n (sym size) in
      let last : drop (n + 1) bytes ≡ body ++ 0 ∷ s.behind = ap (λ (l : List ℕ). drop (n + 1) l) s.is ∙ back_part s.gate (body ++ 0 ∷ s.behind) in
      let rest = drop (n + 1) bytes in
      let cut : overwritten n (1 ∷ []) bytes ≡ front ++ (1 ∷ rest) = append_assoc (take n bytes) (1 ∷ []) rest ∙ ap (λ (l : List ℕ). l ++ (1 ∷ rest)) first in
      let joined : (front ++ 1 ∷ body) ++ (0 ∷ s.behind) ≡ front ++ (1 ∷ (body ++ 0 ∷ s.behind)) = append_assoc front (1 ∷ body) (0 ∷ s.behind) in
      record { gate = 0; behind = s.behind; closed = omega arith; is = cut ∙ ap (λ (l : List ℕ). front ++ (1 ∷ l)) last ∙ sym joined }
