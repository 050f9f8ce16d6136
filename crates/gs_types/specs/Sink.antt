-- What a sink has and refuses.
use Rattle.std.specs.Prelude.{ℕ, ◌+◌, ◌-◌, min, ◌^◌, Bool, ◌||◌, ◌&&◌, nat_le, nat_lt, ◌==◌, List, ◌++◌, length, take, Result, Ok, Err}
use Rattle.std.specs.List.{list_any}
use Rattle.gs_types.specs.declared.sink.SinkFailed.{SinkFailed}

-- the bytes after a write, by its answer: that many of the piece, or nothing of it
abbrev pub after_write : List ℕ → List ℕ → Result ℕ SinkFailed → List ℕ
after_write old piece (Ok n) = old ++ take n piece
after_write old piece (Err e) = old

-- a sink in memory: what was written, the room for it, the calls that are to fail, the calls so
-- far, and its count of faults
pub record MemSinkState : Type 0 where
  pub bytes : List ℕ
  pub room : ℕ
  pub failing : List ℕ
  pub calls : ℕ
  pub faults : ℕ

-- a call fails where its number is listed, or where no room is left for a piece that isn't empty
abbrev pub is_refused : MemSinkState → List ℕ → Bool
is_refused s piece = list_any (λ n. n == min (s.calls + 1) (2 ^ 64 - 1)) s.failing
    || (nat_le s.room (length s.bytes) && nat_lt 0 (length piece))
