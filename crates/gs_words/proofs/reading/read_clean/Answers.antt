use Rattle.std.proofs.Common.{map, arith, rules, refl}
use Rattle.std.specs.String.{string_bytes}
use Rattle.std.proofs.lemmas.List.{length-map}
use Rattle.gs_words.specs.Usage.{IsUsage}
use Rattle.gs_words.proofs.Forms.{cleans}
use Rattle.gs_words.proofs.Places.{closed_cleans, word_alone_at, word_fits, too_many}
use Rattle.gs_words.proofs.reading.read_clean.Goals as goal

pub returns-in_err-end_at : goal.returns-in_err-end_at
returns-in_err-end_at c =
    let words = map string_bytes c.args.words.now.items in
    let many = length-map c.args.words.now.items string_bytes in
    let e = c.in_err-end_at.ensures in
    let usage : IsUsage words c.in_err-end_at.field-0.0.word = too_many cleans words _ 1 closed_cleans c.requires (word_fits cleans words c.requires) refl e.0 (let lt = e.1 in omega (arith, many)) in
    search rules

pub returns : goal.returns
returns c =
    let many = length-map c.args.words.now.items string_bytes in
    word_alone_at (map string_bytes c.args.words.now.items) cleans c.requires (let few = c.in_ok-end_at.ensures in omega (arith, many))
