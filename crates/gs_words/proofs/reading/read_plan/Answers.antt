use Rattle.std.proofs.Common.{map, arith, rules, refl}
use Rattle.std.specs.String.{string_bytes}
use Rattle.std.proofs.lemmas.List.{length-map}
use Rattle.gs_words.specs.Usage.{IsUsage}
use Rattle.gs_words.proofs.Forms.{plans}
use Rattle.gs_words.proofs.Places.{closed_plans, word_fits, number_fits, name_fits, words_before, no_number, no_name, too_many, is_plan}
use Rattle.gs_words.proofs.reading.read_plan.Goals as goal

pub returns-in_err-slots : goal.returns-in_err-slots
returns-in_err-slots c =
    let words = map string_bytes c.args.words.now.items in
    let usage : IsUsage words c.in_err-slots.field-0.0.word = no_number plans words _ 1 _ _ c.requires (word_fits plans words c.requires) refl (words_before words 0 _ c.requires) c.in_err-slots.ensures in
    search rules

pub returns-in_err-durations : goal.returns-in_err-durations
returns-in_err-durations c =
    let words = map string_bytes c.args.words.now.items in
    let one = number_fits plans words 1 _ _ _ (word_fits plans words c.requires) refl c.in_ok-slots.ensures in
    let usage : IsUsage words c.in_err-durations.field-0.0.word = no_name plans words _ 2 c.requires one refl (words_before words 1 _ c.in_ok-slots.ensures.there) c.in_err-durations.ensures in
    search rules

pub returns-in_err-end_at : goal.returns-in_err-end_at
returns-in_err-end_at c =
    let words = map string_bytes c.args.words.now.items in
    let many = length-map c.args.words.now.items string_bytes in
    let one = number_fits plans words 1 _ _ _ (word_fits plans words c.requires) refl c.in_ok-slots.ensures in
    let two = name_fits plans words 2 _ one refl c.in_ok-durations.ensures in
    let e = c.in_err-end_at.ensures in
    let usage : IsUsage words c.in_err-end_at.field-0.0.word = too_many plans words _ 3 closed_plans c.requires two refl e.0 (let lt = e.1 in omega (arith, many)) in
    search rules

pub returns : goal.returns
returns c =
    let many = length-map c.args.words.now.items string_bytes in
    is_plan (map string_bytes c.args.words.now.items) _ _ c.requires c.in_ok-slots.ensures c.in_ok-durations.ensures (let few = c.in_ok-end_at.ensures in omega (arith, many))
