use Rattle.std.proofs.Common.{◌≡◌, ◌≢◌, ◌+◌, ◌≤◌, ℕ, List, [], ◌∷◌, ◌++◌, length, get_or, drop, inl, inr, sym, ◌∙◌, ap, subst, arith, rules}
use Rattle.gs_log.specs.declared.limits.TheConstants.{MAX_RECORDS}
use Rattle.gs_log.specs.declared.place.Place.{Place}
use Rattle.gs_log.specs.Grammar.{records, AreSmall, Begins}
use Rattle.gs_log.specs.Kept.{payloads_in, IsInside, AreInside}
use Rattle.gs_log.proofs.Kept.{payloads_push, insides_push, length-payloads, begun}
use Rattle.gs_log.proofs.Records.{next, ends, breaks_at, small-push, rest_of}
use Rattle.gs_log.proofs.reading.find_places.Goals as goal

few_of : (bytes : List ℕ) (places : List Place) → length places ≤ MAX_RECORDS → length (payloads_in (bytes ∷ []) places) ≤ MAX_RECORDS
few_of bytes places few = omega (arith, few, length-payloads (bytes ∷ []) places)

pub returns-in_default-clause-refused : goal.returns-in_default-clause-refused
returns-in_default-clause-refused c =
    let inv = c.loop-at.invariant in
    let gate : get_or c.args.bytes.now c.loop-at.at 0 ≡ 1 = search (rules, c.loop-at-test.true) in
    breaks_at (payloads_in (c.args.bytes.now ∷ []) c.loop-at.places.items) c.args.bytes.now c.loop-at.at inv.is inv.place inv.within (few_of c.args.bytes.now c.loop-at.places.items inv.few) inv.small gate
    (inr (subst (λ (l : List ℕ). (payload : List ℕ) → Begins payload l → ⊥) (rest_of c.args.bytes.now (c.loop-at.at + 1)) c.in_default.ensures))

pub loop-at-preserved : goal.loop-at-preserved
loop-at-preserved c =
    let inv = c.loop-at.invariant in
    let bytes = c.args.bytes.now in
    let payload = c.in-Some.payload.now in
    let at = c.loop-at.at in
    let place : Place = record { piece = 0; start = at + 1 + 4; len = length payload } in
    let gate : get_or bytes at 0 ≡ 1 = search (rules, c.loop-at-test.true) in
    let begins = subst (λ (l : List ℕ). Begins payload l) (rest_of bytes (at + 1)) c.in-Some.ensures in
    let more = next (payloads_in (bytes ∷ []) c.loop-at.places.items) bytes payload at inv.is inv.place inv.within gate begins in
    let list : payloads_in (bytes ∷ []) c.push.new.self.items ≡ payloads_in (bytes ∷ []) c.loop-at.places.items ++ payload ∷ [] =
    ap (λ ps. payloads_in (bytes ∷ []) ps) c.in_ok-push.ensures.items ∙ payloads_push (bytes ∷ []) c.loop-at.places.items place ∙ ap (λ (p : List ℕ). payloads_in (bytes ∷ []) c.loop-at.places.items ++ p ∷ []) (begun bytes payload at begins)
    in
    let within : IsInside (bytes ∷ []) place = record { piece = omega arith; whole = omega (arith, more.2) } in
    record {
      is = more.0 ∙ ap (λ (l : List (List ℕ)). records l ++ drop (at + (5 + length payload)) bytes) (sym list);
      place = more.1 ∙ ap (λ (l : List (List ℕ)). length (records l)) (sym list);
      within = more.2;
      few = omega (arith, inv.few, c.if-len-eq-MAX_RECORDS.false, c.in_ok-push.ensures.len, c.push.new.self.ok.0, c.loop-at.places.ok.0);
      small = subst AreSmall (sym list) (small-push (payloads_in (bytes ∷ []) c.loop-at.places.items) payload inv.small begins.small);
      inside = subst (λ ps. AreInside (bytes ∷ []) ps) (sym c.in_ok-push.ensures.items) (insides_push (bytes ∷ []) c.loop-at.places.items place inv.inside within);
    }

pub returns-clause-found : goal.returns-clause-found
returns-clause-found c =
    let inv = c.loop-at.invariant in
    let gate : get_or c.args.bytes.now c.loop-at.at 0 ≢ 1 = λ same. search (rules, c.loop-at-test.false) in
    let few = few_of c.args.bytes.now c.loop-at.places.items inv.few in
    record {
      log = ends (payloads_in (c.args.bytes.now ∷ []) c.loop-at.places.items) c.args.bytes.now c.loop-at.at inv.is inv.within few inv.small gate;
      kept = record { fits = record { few = few; small = inv.small; place = inv.place }; inside = inv.inside };
    }

pub returns-then-len-eq-MAX_RECORDS-clause-refused : goal.returns-then-len-eq-MAX_RECORDS-clause-refused
returns-then-len-eq-MAX_RECORDS-clause-refused c =
    let inv = c.loop-at.invariant in
    let gate : get_or c.args.bytes.now c.loop-at.at 0 ≡ 1 = search (rules, c.loop-at-test.true) in
    breaks_at (payloads_in (c.args.bytes.now ∷ []) c.loop-at.places.items) c.args.bytes.now c.loop-at.at inv.is inv.place inv.within (few_of c.args.bytes.now c.loop-at.places.items inv.few) inv.small gate
    (inl (omega (arith, inv.few, c.if-len-eq-MAX_RECORDS.true, c.loop-at.places.ok.0, length-payloads (c.args.bytes.now ∷ []) c.loop-at.places.items)))
