use Rattle.std.proofs.Common.{◌≡◌, ◌-◌, ◌<◌, ◌≤◌, ◌++◌, [], ◌∷◌, length, drop}
use Rattle.gs_log.specs.declared.limits.TheConstants.{MAX_RECORDS}
use Rattle.gs_log.specs.Grammar.{records, AreSmall}
use Rattle.gs_log.specs.Kept.{payloads_in, AreInside}
use Rattle.gs_log.proofs.reading.find_places.Given as goal

abbrev pub invariant-loop-at : goal.invariant-loop-at
invariant-loop-at l = record {
  is : l.bytes ≡ records (payloads_in (l.bytes ∷ []) l.places.items) ++ drop l.at l.bytes;
  place : l.at ≡ length (records (payloads_in (l.bytes ∷ []) l.places.items));
  within : l.at < length l.bytes;
  few : length l.places.items ≤ MAX_RECORDS;
  small : AreSmall (payloads_in (l.bytes ∷ []) l.places.items);
  inside : AreInside (l.bytes ∷ []) l.places.items;
}

abbrev pub decreases-loop-at : goal.decreases-loop-at
decreases-loop-at l = length l.bytes - l.at
