use Rattle.std.proofs.Common.{sym, ◌∙◌, ap, Some, None, Ok}
use Rattle.gs_main.specs.Shown.{talking}
use Rattle.gs_works.proofs.Choosing.{no_start_is_quiet}
use Rattle.gs_core.proofs.Settled.{is_nothing, settled_rest, some_lost}
use Rattle.gs_core.proofs.Due.{due_starts}
use Rattle.gs_core.proofs.machine.Core.next_start.Goals as goal

pub returns-then-is_some-clause-due : goal.returns-then-is_some-clause-due
returns-then-is_some-clause-due g c = λ s k h costs is fit losses n w t ready can.
    let self = c.args.self.now in
    absurd (some_lost self.lost self.stage self.asked s k h (sym c.is_some.ensures ∙ c.if-is_some.true) losses fit is.rest)

pub returns-in-None-clause-due : goal.returns-in-None-clause-due
returns-in-None-clause-due g c = λ s k h costs is fit losses n w t ready can.
    let self = c.args.self.now in
    let rest = settled_rest self.lost self.stage self.asked s k h (is_nothing self.lost (sym c.is_some.ensures ∙ c.if-is_some.false)) c.requires is.rest in
    no_start_is_quiet s k h self.queue (g.C.CostLaw.cost c.args.p.now.law.value) is.bears.works is.bears.lists rest.3 c.in-None.ensures.least losses n w t ready can

pub returns-in-None-2-clause-due : goal.returns-in-None-2-clause-due
returns-in-None-2-clause-due g c = λ s k h costs is fit losses n w t ready can.
    let self = c.args.self.now in
    let rest = settled_rest self.lost self.stage self.asked s k h (is_nothing self.lost (sym c.is_some.ensures ∙ c.if-is_some.false)) c.requires is.rest in
    let due = due_starts self.tables self.queue (talking self.main) c.idl.result.now s k h (g.C.CostLaw.cost c.args.p.now.law.value) c.in-Some.n c.in-Some.worker None c.start.result costs is.bears is.made rest.3 rest.0 c.in-Some.ensures.all c.in-Some.ensures.least c.idl.ensures c.start.ensures
    (c.in_ok-start-in-Some.was ∙ ap Ok c.in-None-2.is) in
    absurd due.2

pub returns-in-Some-2-clause-due : goal.returns-in-Some-2-clause-due
returns-in-Some-2-clause-due g c = λ s k h costs is.
    let self = c.args.self.now in
    let rest = settled_rest self.lost self.stage self.asked s k h (is_nothing self.lost (sym c.is_some.ensures ∙ c.if-is_some.false)) c.requires is.rest in
    due_starts self.tables self.queue (talking self.main) c.idl.result.now s k h (g.C.CostLaw.cost c.args.p.now.law.value) c.in-Some.n c.in-Some.worker (Some (c.in-Some-2.op, c.in-Some-2.args)) c.start.result costs is.bears is.made rest.3 rest.0 c.in-Some.ensures.all c.in-Some.ensures.least c.idl.ensures c.start.ensures
    (c.in_ok-start-in-Some.was ∙ ap Ok c.in-Some-2.is)
