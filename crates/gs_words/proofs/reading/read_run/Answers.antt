use Rattle.std.proofs.Common.{map, arith, rules, refl}
use Rattle.std.specs.String.{string_bytes}
use Rattle.std.proofs.lemmas.List.{length-map}
use Rattle.gs_words.specs.Usage.{IsUsage}
use Rattle.gs_words.proofs.Forms.{runs}
use Rattle.gs_words.proofs.Places.{word_fits, name_fits, words_before, no_name}
use Rattle.gs_words.proofs.Behind.{head_of, wrong_either, is_run}
use Rattle.gs_words.proofs.reading.read_run.Goals as goal

pub returns-in_err-idl : goal.returns-in_err-idl
returns-in_err-idl c =
    let words = map string_bytes c.args.words.now.items in
    let usage : IsUsage words c.in_err-idl.field-0.0.word = no_name runs words _ 1 c.requires (word_fits runs words c.requires) refl (words_before words 0 _ c.requires) c.in_err-idl.ensures in
    search rules

pub returns-in_err-program : goal.returns-in_err-program
returns-in_err-program c =
    let words = map string_bytes c.args.words.now.items in
    let one = name_fits runs words 1 _ (word_fits runs words c.requires) refl c.in_ok-idl.ensures in
    let usage : IsUsage words c.in_err-program.field-0.0.word = no_name runs words _ 2 c.requires one refl (words_before words 1 _ c.in_ok-idl.ensures.there) c.in_err-program.ensures in
    search rules

pub returns-in_err-workers : goal.returns-in_err-workers
returns-in_err-workers c =
    let words = map string_bytes c.args.words.now.items in
    let one = name_fits runs words 1 _ (word_fits runs words c.requires) refl c.in_ok-idl.ensures in
    let two = name_fits runs words 2 _ one refl c.in_ok-program.ensures in
    let usage : IsUsage words c.in_err-workers.field-0.0.word = no_name runs words _ 3 c.requires two refl (words_before words 2 _ c.in_ok-program.ensures.there) c.in_err-workers.ensures in
    search rules

pub read_options-requires : goal.read_options-requires
read_options-requires c =
    let words = map string_bytes c.args.words.now.items in
    let many = length-map c.args.words.now.items string_bytes in
    let le = words_before words 3 _ c.in_ok-workers.ensures.there in omega (arith, many, le)

pub returns-in_err-settings : goal.returns-in_err-settings
returns-in_err-settings c =
    let words = map string_bytes c.args.words.now.items in
    let le = words_before words 3 _ c.in_ok-workers.ensures.there in
    let head = head_of words _ _ _ c.requires c.in_ok-idl.ensures c.in_ok-program.ensures c.in_ok-workers.ensures le in
    let usage : IsUsage words c.in_err-settings.field-0.0.word = wrong_either words _ head c.in_err-settings.ensures in
    search rules

pub returns : goal.returns
returns c = is_run (map string_bytes c.args.words.now.items) _ _ _ _ c.requires c.in_ok-idl.ensures c.in_ok-program.ensures c.in_ok-workers.ensures c.in_ok-settings.ensures
