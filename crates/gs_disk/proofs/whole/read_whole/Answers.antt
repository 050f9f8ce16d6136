use Rattle.std.proofs.Common.{◌≡◌, ap, sym, ◌∙◌, rules, length, take, ◌++◌, drop}
use Rattle.gs_disk.proofs.Reading.{whole_read, lent_all}
use Rattle.gs_disk.proofs.whole.read_whole.Goals as goal

pub returns-clause-whole : goal.returns-clause-whole
returns-clause-whole g c = λ told.
    let is = sym c.in-Some.is ∙ c.in_ok-len.ensures.value told in
    let same = ap (λ f. f c.args.name.now) (c.len.ensures.same told) in
    let size : c.resize.new.self.len ≡ c.in-Some.len = search (rules, c.resize.ensures.len) in
    let long : length c.deref_mut.result.now ≡ c.in-Some.len = c.deref_mut.ensures.len ∙ size in
    let kept : length c.read_into.new.buf ≡ length c.resize.new.self.items = c.read_into.auto.buf ∙ ap length c.deref_mut.ensures.value in
    let all : take c.resize.new.self.len (c.read_into.new.buf ++ drop (length c.read_into.new.buf) c.resize.new.self.items) ≡ c.read_into.new.buf = lent_all _ _ _ (c.resize.new.self.ok.0) kept in
    let cut = c.truncate.ensures.items ∙ ap (λ l. take c.in_ok-n.n l) all in
    whole_read _ _ c.in-Some.len c.in_ok-n.n c.args.limit _ _ _ is same long (c.in_ok-n.ensures.value told) cut c.if-len-limit.false
