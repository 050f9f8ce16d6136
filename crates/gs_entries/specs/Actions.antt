-- The format of an action.
use Rattle.std.specs.Prelude.{ℕ, zero, suc, List, Option, Some, None}
use Rattle.gs_types.specs.declared.limits.TheConstants.{PARAMETER_LIMIT}
use Rattle.gs_types.specs.declared.action.Action.{Action}
use Rattle.gs_types.specs.declared.action.Action.TheVariants as acts
use Rattle.gs_fields.specs.Format.{Format, byte, four, empty, never, pair, via, tagged, counted}
use Rattle.gs_entries.specs.Notes.{task, place, operation, up_to}

abbrev pub action_tag : Action → ℕ
action_tag (acts.Call n op reads writes) = 1
action_tag (acts.Result n) = 2
action_tag (acts.Use n k) = 7
action_tag (acts.Read x) = 3
action_tag (acts.Write x) = 4
action_tag acts.Barrier = 5
action_tag acts.End = 6

abbrev pub put_call : ℕ × (ℕ × (List ℕ × List ℕ)) → Action
put_call p = acts.Call p.0 p.1.0 p.1.1.0 p.1.1.1

abbrev pub call_part : Action → Option (ℕ × (ℕ × (List ℕ × List ℕ)))
call_part (acts.Call n op reads writes) = Some (n, (op, (reads, writes)))
call_part (acts.Use n k) = None
call_part (acts.Result n) = None
call_part (acts.Read x) = None
call_part (acts.Write x) = None
call_part acts.Barrier = None
call_part acts.End = None

abbrev pub put_use : ℕ × ℕ → Action
put_use p = acts.Use p.0 p.1

abbrev pub use_part : Action → Option (ℕ × ℕ)
use_part (acts.Call n op reads writes) = None
use_part (acts.Use n k) = Some (n, k)
use_part (acts.Result n) = None
use_part (acts.Read x) = None
use_part (acts.Write x) = None
use_part acts.Barrier = None
use_part acts.End = None

abbrev pub result_part : Action → Option ℕ
result_part (acts.Call n op reads writes) = None
result_part (acts.Use n k) = None
result_part (acts.Result n) = Some n
result_part (acts.Read x) = None
result_part (acts.Write x) = None
result_part acts.Barrier = None
result_part acts.End = None

abbrev pub read_part : Action → Option ℕ
read_part (acts.Call n op reads writes) = None
read_part (acts.Use n k) = None
read_part (acts.Result n) = None
read_part (acts.Read x) = Some x
read_part (acts.Write x) = None
read_part acts.Barrier = None
read_part acts.End = None

abbrev pub write_part : Action → Option ℕ
write_part (acts.Call n op reads writes) = None
write_part (acts.Use n k) = None
write_part (acts.Result n) = None
write_part (acts.Read x) = None
write_part (acts.Write x) = Some x
write_part acts.Barrier = None
write_part acts.End = None

abbrev pub barrier_part : Action → Option (Unit {0})
barrier_part (acts.Call n op reads writes) = None
barrier_part (acts.Use n k) = None
barrier_part (acts.Result n) = None
barrier_part (acts.Read x) = None
barrier_part (acts.Write x) = None
barrier_part acts.Barrier = Some tt
barrier_part acts.End = None

abbrev pub end_part : Action → Option (Unit {0})
end_part (acts.Call n op reads writes) = None
end_part (acts.Use n k) = None
end_part (acts.Result n) = None
end_part (acts.Read x) = None
end_part (acts.Write x) = None
end_part acts.Barrier = None
end_part acts.End = Some tt

-- the numbers of a call's names
abbrev pub files : Format (List ℕ)
files = counted (up_to PARAMETER_LIMIT byte) four

-- tag 1 a call, 2 a wait for all that a task leaves, 3 an opening, 4 a closing, 5 a barrier, 6 the
-- end, 7 the first use of a value that a task leaves
abbrev pub action_as : ℕ → Format Action
action_as zero = never
action_as (suc zero) = via put_call call_part (pair task (pair operation (pair files files)))
action_as (suc (suc zero)) = via acts.Result result_part task
action_as (suc (suc (suc zero))) = via acts.Read read_part four
action_as (suc (suc (suc (suc zero)))) = via acts.Write write_part four
action_as (suc (suc (suc (suc (suc zero))))) = via (λ _. acts.Barrier) barrier_part empty
action_as (suc (suc (suc (suc (suc (suc zero)))))) = via (λ _. acts.End) end_part empty
action_as (suc (suc (suc (suc (suc (suc (suc zero))))))) = via put_use use_part (pair task place)
action_as (suc (suc (suc (suc (suc (suc (suc (suc t)))))))) = never

abbrev pub action : Format Action
action = tagged action_tag action_as
