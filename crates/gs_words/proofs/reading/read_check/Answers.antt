use Rattle.std.proofs.Common.{map, arith, rules, refl}
use Rattle.std.specs.String.{string_bytes}
use Rattle.std.proofs.lemmas.List.{length-map}
use Rattle.gs_words.specs.Usage.{IsUsage}
use Rattle.gs_words.proofs.Forms.{checks}
use Rattle.gs_words.proofs.Places.{closed_checks, word_fits, name_fits, words_before, no_name, too_many, is_check}
use Rattle.gs_words.proofs.reading.read_check.Goals as goal

pub returns-in_err-idl : goal.returns-in_err-idl
returns-in_err-idl c =
    let words = map string_bytes c.args.words.now.items in
    let usage : IsUsage words c.in_err-idl.field-0.0.word = no_name checks words _ 1 c.requires (word_fits checks words c.requires) refl (words_before words 0 _ c.requires) c.in_err-idl.ensures in
    search rules

pub returns-in_err-program : goal.returns-in_err-program
returns-in_err-program c =
    let words = map string_bytes c.args.words.now.items in
    let one = name_fits checks words 1 _ (word_fits checks words c.requires) refl c.in_ok-idl.ensures in
    let usage : IsUsage words c.in_err-program.field-0.0.word = no_name checks words _ 2 c.requires one refl (words_before words 1 _ c.in_ok-idl.ensures.there) c.in_err-program.ensures in
    search rules

pub returns-in_err-end_at : goal.returns-in_err-end_at
returns-in_err-end_at c =
    let words = map string_bytes c.args.words.now.items in
    let many = length-map c.args.words.now.items string_bytes in
    let one = name_fits checks words 1 _ (word_fits checks words c.requires) refl c.in_ok-idl.ensures in
    let two = name_fits checks words 2 _ one refl c.in_ok-program.ensures in
    let e = c.in_err-end_at.ensures in
    let usage : IsUsage words c.in_err-end_at.field-0.0.word = too_many checks words _ 3 closed_checks c.requires two refl e.0 (let lt = e.1 in omega (arith, many)) in
    search rules

pub returns : goal.returns
returns c =
    let many = length-map c.args.words.now.items string_bytes in
    is_check (map string_bytes c.args.words.now.items) _ _ c.requires c.in_ok-idl.ensures c.in_ok-program.ensures (let few = c.in_ok-end_at.ensures in omega (arith, many))
