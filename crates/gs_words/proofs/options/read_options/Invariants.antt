use Rattle.std.proofs.Common.{◌≡◌, ◌≤◌, map, length, ◌+◌, ◌*◌, take, drop}
use Rattle.std.specs.String.{string_bytes}
use Rattle.gs_words.specs.Given.{HaveGiven, free}
use Rattle.gs_words.proofs.options.read_options.Given as goal

abbrev pub invariant-options : goal.invariant-options
invariant-options l =
    (l.words ≡ l.fn.words) × (l.i + free l.given ≡ 3)
    × (4 + 2 * l.i ≤ length l.fn.words.items)
    × HaveGiven (take (2 * l.i) (drop 4 (map string_bytes l.fn.words.items))) l.given
