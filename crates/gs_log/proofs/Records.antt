-- A log's bytes as records and a closed gate.
use Rattle.std.proofs.Common.{◌≡◌, ◌≢◌, ◌⊎◌, inr, ℕ, zero, suc, ◌+◌, ◌*◌, ◌<◌, ◌≤◌, List, [], ◌∷◌, ◌++◌, length, get_or, take, drop, take_all, length-take-le, length-drop, ◌-◌, refl, sym, ◌∙◌, ap, arith, append_assoc, length-append, take-append-drop}
use Rattle.std.specs.Int.{w32, to_le_bytes, from_le_bytes}
use Rattle.std.proofs.lemmas.List.{drop_at, drop_more, append-nil}
use Rattle.std.proofs.lemmas.Nat.{le_bytes_4}
use Rattle.gs_log.specs.Grammar.{Spells, IsLog, records, AreSmall, Begins, BreaksAt}
use Rattle.gs_log.specs.Fits.{Fits}
use Rattle.gs_log.proofs.Blocks.{Shut}

-- what stands behind the gate of a record
abbrev pub body : List ℕ → List ℕ
body payload = to_le_bytes w32 (length payload) ++ payload

pub length-body : (payload : List ℕ) → length (body payload) ≡ 4 + length payload
length-body payload = length-append (to_le_bytes w32 (length payload)) payload

pub records-push : (list : List (List ℕ)) (payload rest : List ℕ) → records (list ++ payload ∷ []) ++ rest ≡ records list ++ 1 ∷ (body payload ++ rest)
records-push [] payload rest = ap (λ (l : List ℕ). 1 ∷ l) (ap (λ (l : List ℕ). (to_le_bytes w32 (length payload) ++ l) ++ rest) (append-nil payload))
records-push (p ∷ list) payload rest =
    ap (λ (l : List ℕ). 1 ∷ l)
    (append_assoc (to_le_bytes w32 (length p)) (p ++ records (list ++ payload ∷ [])) rest
    ∙ ap (λ (l : List ℕ). to_le_bytes w32 (length p) ++ l) (append_assoc p (records (list ++ payload ∷ [])) rest ∙ ap (λ (l : List ℕ). p ++ l) (records-push list payload rest) ∙ sym (append_assoc p (records list) (1 ∷ (body payload ++ rest))))
    ∙ sym (append_assoc (to_le_bytes w32 (length p)) (p ++ records list) (1 ∷ (body payload ++ rest))))

pub records-pushed : (list : List (List ℕ)) (payload : List ℕ) → records (list ++ payload ∷ []) ≡ records list ++ 1 ∷ body payload
records-pushed list payload = sym (append-nil (records (list ++ payload ∷ []))) ∙ records-push list payload [] ∙ ap (λ (l : List ℕ). records list ++ 1 ∷ l) (append-nil (body payload))

pub length-records-push : (list : List (List ℕ)) (payload : List ℕ) → length (records (list ++ payload ∷ [])) ≡ length (records list) + (5 + length payload)
length-records-push list payload = ap length (records-pushed list payload) ∙ length-append (records list) (1 ∷ body payload) ∙ omega (arith, length-body payload)

pub small-push : (list : List (List ℕ)) (payload : List ℕ) → AreSmall list → length payload ≤ 33554432 → AreSmall (list ++ payload ∷ [])
small-push [] payload small le = (le, tt)
small-push (p ∷ list) payload small le = (small.0, small-push list payload small.1 le)

-- where the closed gate is at most
pub length-records-le : (list : List (List ℕ)) → AreSmall list → length (records list) ≤ length list * 33554437
length-records-le [] small = omega arith
length-records-le (p ∷ list) small =
    let rest = length-records-le list small.1 in
    omega (arith, rest, small.0, length-append (to_le_bytes w32 (length p)) (p ++ records list), length-append p (records list))

pub spelled : (list : List (List ℕ)) (bytes : List ℕ) → AreSmall list → Shut (records list) bytes → Spells list bytes
spelled [] bytes small s = (s.gate, s.behind, s.closed, s.is)
spelled (p ∷ list) bytes small s = (
  records list ++ s.gate ∷ s.behind,
  small.0,
  s.is ∙ ap (λ (l : List ℕ). 1 ∷ l) (append_assoc (to_le_bytes w32 (length p)) (p ++ records list) (s.gate ∷ s.behind) ∙ ap (λ (l : List ℕ). to_le_bytes w32 (length p) ++ l) (append_assoc p (records list) (s.gate ∷ s.behind))),
  spelled list (records list ++ s.gate ∷ s.behind) small.1 (record { gate = s.gate; behind = s.behind; closed = s.closed; is = refl }),
)

pub shut : (list : List (List ℕ)) (bytes : List ℕ) → Spells list bytes → AreSmall list × Shut (records list) bytes
shut [] bytes s = (tt, record { gate = s.0; behind = s.1; closed = s.2; is = s.3 })
shut (p ∷ list) bytes s =
    let rest = shut list s.0 s.3 in (
      (s.1, rest.0),
      record {
        gate = rest.1.gate;
        behind = rest.1.behind;
        closed = rest.1.closed;
        is = s.2 ∙ ap (λ (l : List ℕ). 1 ∷ (to_le_bytes w32 (length p) ++ p ++ l)) rest.1.is
            ∙ ap (λ (l : List ℕ). 1 ∷ l) (ap (λ (l : List ℕ). to_le_bytes w32 (length p) ++ l) (sym (append_assoc p (records list) (rest.1.gate ∷ rest.1.behind))) ∙ sym (append_assoc (to_le_bytes w32 (length p)) (p ++ records list) (rest.1.gate ∷ rest.1.behind)));
      },
    )

four : (behind : List ℕ) → 4 ≤ length behind → take 4 behind ≡ get_or behind 0 0 ∷ get_or behind 1 0 ∷ get_or behind 2 0 ∷ get_or behind 3 0 ∷ []
four [] long = absurd (omega arith)
four (a ∷ []) long = absurd (omega arith)
four (a ∷ b ∷ []) long = absurd (omega arith)
four (a ∷ b ∷ c ∷ []) long = absurd (omega arith)
four (a ∷ b ∷ c ∷ d ∷ rest) long = refl

bounded : (behind : List ℕ) → ((i : ℕ) → get_or behind i 0 < 256) → (i : ℕ) → get_or (get_or behind 0 0 ∷ get_or behind 1 0 ∷ get_or behind 2 0 ∷ get_or behind 3 0 ∷ []) i 0 < 256
bounded behind bytes zero = bytes 0
bounded behind bytes (suc zero) = bytes 1
bounded behind bytes (suc (suc zero)) = bytes 2
bounded behind bytes (suc (suc (suc zero))) = bytes 3
bounded behind bytes (suc (suc (suc (suc i)))) = omega arith

-- the payload of the record that begins with this length
begins_whole : (behind rest : List ℕ) (len : ℕ) → rest ≡ drop 4 behind → 4 ≤ length behind → ((i : ℕ) → get_or behind i 0 < 256) → len ≡ from_le_bytes w32 (get_or behind 0 0 ∷ get_or behind 1 0 ∷ get_or behind 2 0 ∷ get_or behind 3 0 ∷ []) → len ≤ 33554432
    → len < length rest → Begins (take len rest) behind
begins_whole behind rest len is_rest long bytes is small within =
    let size : length (take len rest) ≡ len = length-take-le len rest (omega arith) in
    let header : take 4 behind ≡ to_le_bytes w32 (length (take len rest)) = four behind long ∙ sym (le_bytes_4 (get_or behind 0 0 ∷ get_or behind 1 0 ∷ get_or behind 2 0 ∷ get_or behind 3 0 ∷ []) len refl (bounded behind bytes) is) ∙ ap (λ (n : ℕ). to_le_bytes w32 n) (sym size) in
    record {
      small = omega (arith, size);
      log = drop len rest;
      follows = omega (arith, length-drop len rest);
      is = sym (take-append-drop 4 behind) ∙ ap (λ (l : List ℕ). l ++ drop 4 behind) header ∙ ap (λ (l : List ℕ). to_le_bytes w32 (length (take len rest)) ++ l) (sym is_rest ∙ sym (take-append-drop len rest));
    }

pub begins : (behind : List ℕ) (len : ℕ) → 4 ≤ length behind → ((i : ℕ) → get_or behind i 0 < 256) → len ≡ from_le_bytes w32 (get_or behind 0 0 ∷ get_or behind 1 0 ∷ get_or behind 2 0 ∷ get_or behind 3 0 ∷ []) → len ≤ 33554432
    → len < length (take (length behind - 4) (drop 4 behind)) → Begins (take len (take (length behind - 4) (drop 4 behind))) behind
begins behind len long bytes is small within = begins_whole behind (take (length behind - 4) (drop 4 behind)) len (take_all (length behind - 4) (drop 4 behind) (omega (arith, length-drop 4 behind))) long bytes is small within

-- one record more
pub next : (list : List (List ℕ)) (bytes payload : List ℕ) (at : ℕ) → bytes ≡ records list ++ drop at bytes → at ≡ length (records list) → at < length bytes → get_or bytes at 0 ≡ 1 → Begins payload (drop (at + 1) bytes)
    → (bytes ≡ records (list ++ payload ∷ []) ++ drop (at + (5 + length payload)) bytes) × (at + (5 + length payload) ≡ length (records (list ++ payload ∷ []))) × (at + (5 + length payload) < length bytes)
next list bytes payload at is place within gate b =
    let opens : drop at bytes ≡ 1 ∷ drop (at + 1) bytes = drop_more bytes at 0 within ∙ ap (λ (g : ℕ). g ∷ drop (at + 1) bytes) gate in
    let whole : bytes ≡ records (list ++ payload ∷ []) ++ b.log =
    is ∙ ap (λ (l : List ℕ). records list ++ l) (opens ∙ ap (λ (l : List ℕ). 1 ∷ l) (b.is ∙ sym (append_assoc (to_le_bytes w32 (length payload)) payload b.log))) ∙ sym (records-push list payload b.log)
    in
    let size : at + (5 + length payload) ≡ length (records (list ++ payload ∷ [])) = omega (arith, place, length-records-push list payload) in
    let rest : drop (at + (5 + length payload)) bytes ≡ b.log = ap (λ (l : List ℕ). drop (at + (5 + length payload)) l) whole ∙ drop_at (records (list ++ payload ∷ [])) b.log (at + (5 + length payload)) (sym size) in (
      whole ∙ ap (λ (l : List ℕ). records (list ++ payload ∷ []) ++ l) (sym rest),
      size,
      omega (arith, size, b.follows, ap length whole, length-append (records (list ++ payload ∷ [])) b.log),
    )

pub ends : (list : List (List ℕ)) (bytes : List ℕ) (at : ℕ) → bytes ≡ records list ++ drop at bytes → at < length bytes → length list ≤ 32767 → AreSmall list → get_or bytes at 0 ≢ 1 → IsLog list bytes
ends list bytes at is within few small closed = record {
  few = few;
  spelled = spelled list bytes small (record { gate = get_or bytes at 0; behind = drop (at + 1) bytes; closed = closed; is = is ∙ ap (λ (l : List ℕ). records list ++ l) (drop_more bytes at 0 within) });
}

pub breaks_at : (list : List (List ℕ)) (bytes : List ℕ) (at : ℕ) → bytes ≡ records list ++ drop at bytes → at ≡ length (records list) → at < length bytes → length list ≤ 32767 → AreSmall list → get_or bytes at 0 ≡ 1
    → (length list ≡ 32767) ⊎ ((payload : List ℕ) → Begins payload (drop (at + 1) bytes) → ⊥) → BreaksAt bytes at
breaks_at list bytes at is place within few small gate why = record {
  before = list;
  rest = drop at bytes;
  is = is;
  few = few;
  small = small;
  place = place;
  breaks = inr (drop (at + 1) bytes, drop_more bytes at 0 within ∙ ap (λ (g : ℕ). g ∷ drop (at + 1) bytes) gate, why);
}

pub rest_of : (bytes : List ℕ) (at : ℕ) → take (length bytes - at) (drop at bytes) ≡ drop at bytes
rest_of bytes at = take_all (length bytes - at) (drop at bytes) (omega (arith, length-drop at bytes))

pub length-push : (list : List (List ℕ)) (payload : List ℕ) → length (list ++ payload ∷ []) ≡ length list + 1
length-push list payload = length-append list (payload ∷ [])

pub fits_push : (list : List (List ℕ)) (payload : List ℕ) (end : ℕ) → Fits list end → length payload ≤ 33554432 → length list < 32767 → Fits (list ++ payload ∷ []) (end + (5 + length payload))
fits_push list payload end fits small room = record {
  few = omega (arith, length-push list payload);
  small = small-push list payload fits.small small;
  place = omega (arith, fits.place, length-records-push list payload);
}
