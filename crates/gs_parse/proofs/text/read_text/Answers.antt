use Rattle.std.proofs.Common.{subst, ◌≤◌, ◌<◌, ℕ}
use Rattle.gs_parse.proofs.Finding.{read_whole, read_more, read_unfit, read_deep, read_no_memory}
use Rattle.gs_parse.proofs.text.read_text.Goals as goal

pub returns-then-at-len : goal.returns-then-at-len
returns-then-at-len c = read_whole c.args.tokens.now c.read_program.new.at c.in-Ok.tree c.requires.short c.requires.lexed (subst (λ (n : ℕ). n ≤ c.read_program.new.at) c.len.ensures c.if-at-len.true) c.in-Ok.ensures.reads

pub returns-else-at-len : goal.returns-else-at-len
returns-else-at-len c = read_more c.args.tokens.now c.read_program.new.at _ _ c.in-Ok.tree c.requires.short c.requires.lexed (subst (λ (n : ℕ). c.read_program.new.at < n) c.len.ensures c.if-at-len.false) c.in-Ok.ensures.reads c.line_of_place.ensures c.kind_at.ensures

pub returns-in-Err-Unfit : goal.returns-in-Err-Unfit
returns-in-Err-Unfit c = read_unfit c.args.tokens.now c.read_program.new.at _ _ c.in-Err-Unfit.field-0 c.in-Err-Unfit.field-0-is c.requires.short c.requires.lexed c.in-Err-Unfit.ensures.reads c.line_of_place-in-Err-Unfit.ensures c.kind_at-in-Err-Unfit.ensures

pub returns-in-Err-TooDeep : goal.returns-in-Err-TooDeep
returns-in-Err-TooDeep c = read_deep c.args.tokens.now c.read_program.new.at _ c.in-Err-TooDeep.field-0 c.in-Err-TooDeep.field-0-is c.requires.short c.requires.lexed c.in-Err-TooDeep.ensures.reads c.line_of_place-in-Err-TooDeep.ensures

pub returns-in-Err-NoMemory : goal.returns-in-Err-NoMemory
returns-in-Err-NoMemory c = read_no_memory _
