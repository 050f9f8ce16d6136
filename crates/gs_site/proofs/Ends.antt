-- How jobs of a link in memory end, and what it tells of that.
use Rattle.std.proofs.Common.{◌≡◌, ◌≤◌, ℕ, refl, Ok, Bool, [], ◌∷◌, length, length-append, arith}
use Rattle.gs_types.specs.Job.{Meaning}
use Rattle.gs_types.specs.Counts.{Caused}
use Rattle.gs_types.specs.History.{History}
use Rattle.gs_types.specs.declared.job.Job.{Job}
use Rattle.gs_site.specs.declared.link.Event.{Event}
use Rattle.gs_site.specs.declared.link.Event.TheVariants.{Finished, Failed}
use Rattle.gs_site.specs.Link.{FitsJob, IsByLaw, IsFailure, after_wait}
use Rattle.gs_site.specs.Memory.{EndsBy, counted}
use Rattle.gs_site.specs.Past.{event_told, past_of, shown}

pub ends_fitting : (law : Meaning) (well : Bool) (job : Job) (e : Event) → EndsBy law well job e → FitsJob job e
ends_fitting law well job (Finished n outs) by = by.1.fit
ends_fitting law well job (Failed n) by = tt

pub ends_by_law : (law : Meaning) (well : Bool) (job : Job) (e : Event) → EndsBy law well job e → IsByLaw law job e
ends_by_law law well job (Finished n outs) by = by.1
ends_by_law law well job (Failed n) by = tt

pub counts_end : (e : Event) (old new : ℕ) → old ≤ new → new ≡ counted old e → Caused (IsFailure (Ok e)) old new
counts_end (Finished n outs) old new rise is = record { rise = rise; cause = λ failed. absurd failed }
counts_end (Failed n) old new rise is = record { rise = rise; cause = λ failed. omega (arith, is) }

pub event_after : (e : Event) (h : History) → after_wait (Ok e) h ≡ event_told e ∷ h
event_after (Finished n outs) h = refl
event_after (Failed n) h = refl

pub length_shown : (h : History) → length (shown h) ≡ length h
length_shown [] = refl
length_shown (e ∷ h) = let rest = length_shown h in let one = length-append (shown h) (past_of e ∷ []) in omega arith
