use Rattle.std.proofs.Common.{map}
use Rattle.std.specs.String.{string_bytes}
use Rattle.std.proofs.lemmas.Bool.Decides.{not_from_Decides}
use Rattle.gs_words.proofs.Wrong.{no_verb_of}
use Rattle.gs_words.proofs.reading.read.Goals as goal

pub returns : goal.returns
returns c =
    no_verb_of (map string_bytes c.args.words.now.items)
    (not_from_Decides c.has_word.result c.has_word.ensures c.if-has_word.false)
    (not_from_Decides c.has_word-2.result c.has_word-2.ensures c.if-has_word-2.false)
    (not_from_Decides c.has_word-3.result c.has_word-3.ensures c.if-has_word-3.false)
    (not_from_Decides c.has_word-4.result c.has_word-4.ensures c.if-has_word-4.false)
    (not_from_Decides c.has_word-5.result c.has_word-5.ensures c.if-has_word-5.false)
    (not_from_Decides c.has_word-6.result c.has_word-6.ensures c.if-has_word-6.false)
