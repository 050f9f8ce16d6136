use Rattle.std.proofs.Common.{arith}
use Rattle.gs_log.proofs.Records.{begins}
use Rattle.gs_log.proofs.bytes.first_payload.Goals as goal

pub returns : goal.returns
returns c = begins c.args.behind.now c.from_le_bytes-len.result c.if-behind-lt4.false (λ i. omega (arith, c.type_inv.behind i)) c.from_le_bytes-len.ensures c.if-len-gt-MAX_PAYLOAD.false c.if-rest-len.false
