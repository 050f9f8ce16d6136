use Rattle.std.proofs.Common.{◌≡◌, ◌<◌, ◌≤◌, ◌+◌, ℕ, None, length}
use Rattle.gs_broker.specs.Broker.{job_in, spare_in}
use Rattle.gs_broker.proofs.list_tests.start_all.Given as goal

abbrev pub invariant-loop-i : goal.invariant-loop-i
invariant-loop-i g l = record {
  idle : (m : ℕ) → l.i < m → job_in l.broker m ≡ None;
  room : length l.ready ≤ spare_in l.broker + l.i;
}
