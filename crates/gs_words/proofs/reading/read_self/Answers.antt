use Rattle.std.proofs.Common.{map, arith, rules, refl}
use Rattle.std.specs.String.{string_bytes}
use Rattle.std.proofs.lemmas.List.{length-map}
use Rattle.gs_words.specs.Usage.{IsUsage}
use Rattle.gs_words.proofs.Forms.{makes}
use Rattle.gs_words.proofs.Places.{closed_makes, word_fits, number_fits, words_before, no_number, too_many, is_self}
use Rattle.gs_words.proofs.reading.read_self.Goals as goal

pub returns-in_err-seed : goal.returns-in_err-seed
returns-in_err-seed c =
    let words = map string_bytes c.args.words.now.items in
    let usage : IsUsage words c.in_err-seed.field-0.0.word = no_number makes words _ 1 _ _ c.requires (word_fits makes words c.requires) refl (words_before words 0 _ c.requires) c.in_err-seed.ensures in
    search rules

pub returns-in_err-n : goal.returns-in_err-n
returns-in_err-n c =
    let words = map string_bytes c.args.words.now.items in
    let one = number_fits makes words 1 _ _ _ (word_fits makes words c.requires) refl c.in_ok-seed.ensures in
    let usage : IsUsage words c.in_err-n.field-0.0.word = no_number makes words _ 2 _ _ c.requires one refl (words_before words 1 _ c.in_ok-seed.ensures.there) c.in_err-n.ensures in
    search rules

pub returns-in_err-end_at : goal.returns-in_err-end_at
returns-in_err-end_at c =
    let words = map string_bytes c.args.words.now.items in
    let many = length-map c.args.words.now.items string_bytes in
    let one = number_fits makes words 1 _ _ _ (word_fits makes words c.requires) refl c.in_ok-seed.ensures in
    let two = number_fits makes words 2 _ _ _ one refl c.in_ok-n.ensures in
    let e = c.in_err-end_at.ensures in
    let usage : IsUsage words c.in_err-end_at.field-0.0.word = too_many makes words _ 3 closed_makes c.requires two refl e.0 (let lt = e.1 in omega (arith, many)) in
    search rules

pub returns : goal.returns
returns c =
    let many = length-map c.args.words.now.items string_bytes in
    is_self (map string_bytes c.args.words.now.items) _ _ c.requires c.in_ok-seed.ensures c.in_ok-n.ensures (let few = c.in_ok-end_at.ensures in omega (arith, many))
