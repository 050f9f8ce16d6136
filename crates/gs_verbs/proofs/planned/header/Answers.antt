use Rattle.gs_verbs.proofs.Entries.{some_first, first_header}
use Rattle.gs_verbs.proofs.planned.header.Goals as goal

pub unreachable-requires : goal.unreachable-requires
unreachable-requires c = some_first c.args.store.now.entries c.requires c.in_default.ensures.value

pub unreachable-requires-in_default-first : goal.unreachable-requires-in_default-first
unreachable-requires-in_default-first c =
    first_header c.args.store.now.entries c.in-Some.first.now c.in-Some.ensures.in_order
    c.in-Some.ensures.value c.in_default-first.not-Header
