-- What a link in memory shows of its history.
use Rattle.std.specs.Prelude.{List, [], ◌∷◌, ◌++◌}
use Rattle.gs_types.specs.History.{LinkEvent, History, noted, started, refused, finished, failed, abandoned}
use Rattle.gs_site.specs.declared.link.Event.{Event}
use Rattle.gs_site.specs.declared.link.Event.TheVariants as ends
use Rattle.gs_site.specs.declared.past.Past.{Past}
use Rattle.gs_site.specs.declared.past.Past.TheVariants as p
use Rattle.gs_site.specs.declared.past.Told.{Told}
use Rattle.gs_site.specs.declared.past.Told.TheVariants as t
use Rattle.gs_site.specs.declared.past.Telling.{Telling, Start, Then'}

-- an event without its job or its outputs. A link tells no noted outputs, which would show as a
-- finish
abbrev pub past_of : LinkEvent → Past
past_of (noted n outs) = p.Finished n
past_of (started n worker job) = p.Started n worker
past_of (refused n worker) = p.Refused n worker
past_of (finished n outs) = p.Finished n
past_of (failed n) = p.Failed n
past_of abandoned = p.Abandoned

-- a history, the oldest event first, without jobs and outputs
abbrev pub shown : History → List Past
shown [] = []
shown (e ∷ h) = shown h ++ past_of e ∷ []

abbrev pub told_event : Told → LinkEvent
told_event (t.Started n worker job) = started n worker job.value
told_event (t.Finished n outs) = finished n outs.value
told_event (t.Failed n) = failed n
told_event t.Abandoned = abandoned

-- the end of a task as an event
abbrev pub event_told : Event → LinkEvent
event_told (ends.Finished n outs) = finished n outs
event_told (ends.Failed n) = failed n

abbrev pub history_of : Telling → History
history_of Start = []
history_of (Then' event t before) = told_event event.value ∷ history_of before
