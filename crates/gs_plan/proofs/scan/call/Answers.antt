use Rattle.std.proofs.Common.{nat_eq, ◌≡◌, ◌++◌, ◌∷◌, [], ℕ, Some, if◌then◌else◌, length, refl, subst, ap, ◌∙◌}
use Rattle.std.specs.HashMap.{get}
use Rattle.gs_plan.specs.Actions.{is_among}
use Rattle.gs_plan.specs.Scan.{AddsReads}
use Rattle.gs_plan.proofs.scan.call.Goals as goal

pub returns : goal.returns
returns c =
    let s = c.args.scan.now in
    let task : c.len-task.result ≡ length s.ties.waits.items = c.len-task.ensures ∙ s.ties.waits.ok.0 in
    let P : ℕ → Type 0 = λ k. AddsReads (λ name. get nat_eq s.writers name) c.args.reads.now k s.ties c.read_files.new.ties in
    record {
      mid = c.read_files.new.ties;
      reading = subst P task c.in_ok-read_files.ensures;
      befores = refl;
      afters = refl;
      needed = refl;
      waits = c.in_ok-push.ensures.items ∙ ap (λ (n : ℕ). c.read_files.new.ties.waits.items ++ n ∷ []) (c.len-needs.ensures ∙ c.read_files.new.ties.needed.ok.0);
      writing = λ name. c.in_ok-write_files.ensures name ∙ ap (λ (k : ℕ). if is_among name c.args.writes.now then Some k else get nat_eq s.writers name) task;
      barred = refl;
    }
