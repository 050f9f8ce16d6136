use Rattle.std.proofs.Common.{◌≡◌, ◌⊎◌, ℕ, map, sym, subst}
use Rattle.std.specs.String.{string_bytes}
use Rattle.gs_site.specs.Site.{disk_of}
use Rattle.gs_run.specs.Ran.{IsComplete}
use Rattle.gs_run.proofs.Checks.{checks_so}
use Rattle.gs_run.proofs.Completing.{complete}
use Rattle.gs_run.proofs.Wishes.{did_run, did_check, did_report, did_clean, did_plan}
use Rattle.gs_run.proofs.Serving.{has_slots, report_so, clean_so, plan_so}
use Rattle.gs_run.proofs.run.gs.Goals as goal

pub serve-answer-requires-clause-slots : goal.serve-answer-requires-clause-slots
serve-answer-requires-clause-slots g c =
    has_slots (map string_bytes c.args.words.now.items) c.read-command.result
    c.read-command.ensures

pub returns-clause-did : goal.returns-clause-did
returns-clause-did g c = (
  c.read-command.result,
  c.serve-answer.result,
  c.read-command.ensures,
  c.report.ensures.status,
  c.serve-answer.ensures.did,
  c.report.ensures.line,
  c.serve-answer.ensures.link,
  c.serve-answer.ensures.refused,
)

pub returns-clause-complete : goal.returns-clause-complete
returns-clause-complete g c =
    λ told idl program workers settings run o past begins disk link out.
    subst (λ (n : ℕ). IsComplete o settings.fuel
    (g.D.Disk.state (disk_of c.args.site.now)).folder idl program workers n)
    (sym c.report.ensures.status)
    (complete o settings _ _ _ _ _ _ _ _ _ _ _ _ _ idl program workers past c.serve-answer.result
    begins
    (did_run _ _ _ _ _ _ _ _ _ _ _ _ _ (map string_bytes c.args.words.now.items)
    c.read-command.result idl program workers settings c.serve-answer.result
    c.read-command.ensures run c.serve-answer.ensures.did)
    (g.met.D.Disk.reads_an_image told (disk_of c.args.site.now)) told disk link out)

pub returns-clause-checks : goal.returns-clause-checks
returns-clause-checks g c = λ told idl program check holds disk out.
    subst (λ (n : ℕ). (n ≡ 0) ⊎ (n ≡ 12)) (sym c.report.ensures.status)
    (checks_so _ _ _ _ _ _ _ _ idl program c.serve-answer.result
    (did_check _ _ _ _ _ _ _ _ _ _ _ _ _ (map string_bytes c.args.words.now.items)
    c.read-command.result idl program c.serve-answer.result
    c.read-command.ensures check c.serve-answer.ensures.did)
    told holds disk out)

pub returns-clause-reports : goal.returns-clause-reports
returns-clause-reports g c = λ told says has disk out.
    subst (λ (n : ℕ). (n ≡ 0) ⊎ (n ≡ 12)) (sym c.report.ensures.status)
    (report_so _ _ _ _ _ _ _ _ c.serve-answer.result
    (did_report _ _ _ _ _ _ _ _ _ _ _ _ _ (map string_bytes c.args.words.now.items)
    c.read-command.result c.serve-answer.result
    c.read-command.ensures says c.serve-answer.ensures.did)
    told has disk out)

pub returns-clause-cleans : goal.returns-clause-cleans
returns-clause-cleans g c = λ told says free disk.
    subst (λ (n : ℕ). (n ≡ 0) ⊎ (n ≡ 12)) (sym c.report.ensures.status)
    (clean_so _ _ _ _ _ _ c.serve-answer.result
    (did_clean _ _ _ _ _ _ _ _ _ _ _ _ _ (map string_bytes c.args.words.now.items)
    c.read-command.result c.serve-answer.result
    c.read-command.ensures says c.serve-answer.ensures.did)
    told free disk)

pub returns-clause-plans : goal.returns-clause-plans
returns-clause-plans g c = λ told slots durations says has disk out.
    subst (λ (n : ℕ). (n ≡ 0) ⊎ (n ≡ 12)) (sym c.report.ensures.status)
    (plan_so _ _ _ _ _ _ _ _ slots durations c.serve-answer.result
    (did_plan _ _ _ _ _ _ _ _ _ _ _ _ _ (map string_bytes c.args.words.now.items)
    c.read-command.result slots durations c.serve-answer.result
    c.read-command.ensures says c.serve-answer.ensures.did)
    told has disk out)
