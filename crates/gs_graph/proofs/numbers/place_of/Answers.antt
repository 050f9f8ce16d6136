use Rattle.std.proofs.Common.{◌+◌, arith, Ok, Err}
use Rattle.std.proofs.lemmas.List.Sorted.{searched}
use Rattle.gs_graph.proofs.Places.{rises_before, rises_until, put_at}
use Rattle.gs_graph.proofs.numbers.place_of.Goals as goal

pub returns-in-Ok-clause-place : goal.returns-in-Ok-clause-place
returns-in-Ok-clause-place c =
    let xs = c.args.xs.now in
    let until = rises_until 0 c.requires.0 xs c.requires.1 in
    let found = searched xs c.args.n (Ok c.in-Ok.place) c.in-Ok.ensures.position until in
    let is = found.1 in
    let within = found.0 in
    put_at c.args.n xs (c.in-Ok.place + 1) (omega arith)
    (λ k lt. let h = until k c.in-Ok.place (omega arith) within in omega arith)
    (λ k ge lt. let h = rises_before 0 c.requires.0 xs c.in-Ok.place k c.requires.1 (omega arith) lt in omega arith)

pub returns-in-Err-clause-place : goal.returns-in-Err-clause-place
returns-in-Err-clause-place c =
    let xs = c.args.xs.now in
    let found = searched xs c.args.n (Err c.in-Err.place) c.in-Err.ensures.position (rises_until 0 c.requires.0 xs c.requires.1) in
    put_at c.args.n xs c.in-Err.place found.0 (λ k lt. let h = found.1 k lt in omega arith) found.2
