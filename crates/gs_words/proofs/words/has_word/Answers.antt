use Rattle.std.proofs.Common.{◌∙◌, ap}
use Rattle.std.specs.Prelude.{bytes_eq}
use Rattle.std.specs.String.{string_bytes}
use Rattle.gs_words.proofs.Lookups.{word_test, word_none, there_at, none_at}
use Rattle.gs_words.proofs.words.has_word.Goals as goal

pub returns-in-Some : goal.returns-in-Some
returns-in-Some c =
    let there = there_at string_bytes c.args.words.now.items c.deref.result.now c.args.at c.in-Some.w.now c.deref.ensures.value c.in-Some.ensures.lookup.0 c.in-Some.ensures.lookup.1 in
    word_test _ _ c.args.word.now c.eq.result there (c.eq.ensures ∙ ap (λ l. bytes_eq l c.args.word.now) c.as_str.ensures.value)

pub returns-in-None : goal.returns-in-None
returns-in-None c = word_none _ c.args.word.now (none_at string_bytes c.args.words.now.items c.deref.result.now c.args.at c.deref.ensures.value c.in-None.ensures.lookup.0)
