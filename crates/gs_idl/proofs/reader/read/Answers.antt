use Rattle.std.proofs.Common.{◌≡◌, ◌∙◌, sym, ap, subst, ℕ, List, map, Err}
use Rattle.gs_idl.specs.Lexicon.{Reads}
use Rattle.gs_idl.specs.Grammar.{IsFault, too_long}
use Rattle.gs_idl.specs.Machine.{run, start}
use Rattle.gs_idl.specs.Token.{mark_of}
use Rattle.gs_idl.specs.Reading as r
use Rattle.gs_idl.specs.Reading.{signs, line_at}
use Rattle.gs_idl.specs.declared.passing.Stop.{Stop}
use Rattle.gs_idl.specs.declared.token.Token.{Token}
use Rattle.gs_idl.proofs.Saying.{read_says, read_fault}
use Rattle.gs_idl.proofs.reader.read.Goals as goal

pub returns-then-bytes-gt65536-clause-fault : goal.returns-then-bytes-gt65536-clause-fault
returns-then-bytes-gt65536-clause-fault c = too_long c.args.bytes.now c.if-bytes-gt65536.true

pub returns-in-Ok-read_interface-clause-says : goal.returns-in-Ok-read_interface-clause-says
returns-in-Ok-read_interface-clause-says c =
    let is = c.deref.ensures.value in
    read_says c.args.bytes.now c.deref.result.now c.in-Ok-read_interface.idl c.if-bytes-gt65536.false
    (subst (λ (ts : List Token). Reads 1 c.args.bytes.now (map mark_of ts)) (sym is) c.in-Ok.ensures) c.in-Ok-read_interface.ensures

pub returns-clause-fault : goal.returns-clause-fault
returns-clause-fault c =
    let is = c.deref.ensures.value in
    let again : c.deref-in-Err-Fault.result.now ≡ c.deref.result.now = c.deref-in-Err-Fault.ensures.value ∙ sym is in
    let line : c.line_at.result ≡ line_at (map mark_of c.deref.result.now) c.read_interface.new.at = c.line_at.ensures ∙ ap (λ (ts : List Token). line_at (map mark_of ts) c.read_interface.new.at) again in
    subst (λ (n : ℕ). IsFault c.args.bytes.now n c.in-Err-Fault.kind) (sym line)
    (read_fault c.args.bytes.now c.deref.result.now c.read_interface.new.at c.in-Err-Fault.kind c.if-bytes-gt65536.false (subst (λ (ts : List Token). Reads 1 c.args.bytes.now (map mark_of ts)) (sym is) c.in-Ok.ensures)
    (subst (λ (stop : Stop). r.Reads (run 0 start (signs c.deref.result.now)) c.read_interface.new.at (Err stop)) c.in-Err-Fault.field-0-is c.in-Err-Fault.ensures))
