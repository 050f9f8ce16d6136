use Rattle.gs_parse.proofs.Finding.{read_long, read_no_memory}
use Rattle.gs_parse.proofs.text.parse.Goals as goal

pub returns-then-bytes-gt65536 : goal.returns-then-bytes-gt65536
returns-then-bytes-gt65536 c = read_long _ c.if-bytes-gt65536.true

pub returns-in-Err : goal.returns-in-Err
returns-in-Err c = read_no_memory _
