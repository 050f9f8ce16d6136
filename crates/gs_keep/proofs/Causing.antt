-- Causes of calls one after the other.
use Rattle.std.proofs.Common.{◌≤◌, ℕ, refl, le_refl, le_trans, arith, Result, Ok, Err}
use Rattle.gs_types.specs.Counts.{Rises}
use Rattle.gs_disk.specs.Folder.{DiskState}
use Rattle.gs_store.specs.declared.err.StoreErr.{StoreErr}
use Rattle.gs_store.specs.declared.err.StoreErr.TheVariants as errs
use Rattle.gs_store.specs.Told.{FailsOutside}

-- the counts of a disk don't fall
pub record Rose (a b : DiskState) : Type 0 where
  pub faults : a.faults ≤ b.faults
  pub refusals : a.refusals ≤ b.refusals

pub rose_none : (s : DiskState) → Rose s s
rose_none s = record { faults = le_refl s.faults; refusals = le_refl s.refusals }

pub rose_by : {T : Type 0} (r : Result T StoreErr) (a b d : DiskState) → Rose a b
    → FailsOutside b d r → Rose a d
rose_by r a b d rose fails = record {
  faults = le_trans rose.faults fails.cause.faults.rise;
  refusals = le_trans rose.refusals fails.cause.refusals;
}

rises_by : (a b d : ℕ) → a ≤ b → Rises b d → Rises a d
rises_by a b d le rises = omega (arith, rises)

-- a failure behind calls that went well
pub fails_behind : {T : Type 0} (r : Result T StoreErr) (a b d : DiskState) → Rose a b
    → FailsOutside b d r → FailsOutside a d r
fails_behind r a b d rose fails = record {
  cause = record {
    faults = record {
      rise = le_trans rose.faults fails.cause.faults.rise;
      cause = λ e. rises_by a.faults b.faults d.faults rose.faults (fails.cause.faults.cause e);
    };
    refusals = le_trans rose.refusals fails.cause.refusals;
  };
  outside = fails.outside;
}

-- the same failure as an answer of another type
pub fails_so : {T U : Type 0} (e : StoreErr) (a b : DiskState)
    → FailsOutside {T = T} a b (Err e) → FailsOutside {T = U} a b (Err e)
fails_so (errs.BadLog at) a b fails = absurd fails.outside
fails_so (errs.BadRecord index) a b fails = absurd fails.outside
fails_so (errs.LostVersion v kept found) a b fails = absurd fails.outside
fails_so errs.DiskFault a b fails = record {
  cause = record {
    faults = record {
      rise = fails.cause.faults.rise;
      cause = λ e. fails.cause.faults.cause refl;
    };
    refusals = fails.cause.refusals;
  };
  outside = tt;
}
fails_so errs.NoMemory a b fails = record {
  cause = record {
    faults = record {
      rise = fails.cause.faults.rise;
      cause = λ e. absurd (cc);
    };
    refusals = fails.cause.refusals;
  };
  outside = tt;
}

-- want of memory of its own
pub fails_alone : {T : Type 0} (a b : DiskState) → Rose a b
    → FailsOutside {T = T} a b (Err errs.NoMemory)
fails_alone a b rose = record {
  cause = record {
    faults = record { rise = rose.faults; cause = λ e. absurd (cc) };
    refusals = rose.refusals;
  };
  outside = tt;
}

-- it went well
pub fails_none : {T : Type 0} (x : T) (a b : DiskState) → Rose a b → FailsOutside a b (Ok x)
fails_none x a b rose = record {
  cause = record {
    faults = record { rise = rose.faults; cause = λ e. absurd (cc) };
    refusals = rose.refusals;
  };
  outside = tt;
}
