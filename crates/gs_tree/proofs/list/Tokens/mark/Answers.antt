use Rattle.std.proofs.Common.{◌≤◌, length, Some, ap, refl, arith}
use Rattle.std.proofs.lemmas.Option.{slice_get-map, slice_get_past, slice_get_read}
use Rattle.gs_tree.proofs.list.Tokens.mark.Goals as goal

pub returns-then-i-len : goal.returns-then-i-len
returns-then-i-len c =
    let t = c.args.self.now in
    let here = slice_get_read t.items.items (length t.items.items) c.args.i c.index.result.now refl (omega arith) c.index.ensures in
    let mark = c.mark_at.ensures in
    rw (slice_get-map, slice_get-map, here) (rw (← c.deref.ensures.value) (ap (λ m. Some m) mark))

pub returns : goal.returns
returns c =
    let past : length c.args.self.now.items.items ≤ c.args.i = omega arith in
    rw (slice_get-map, slice_get-map, slice_get_past)
