use Rattle.std.proofs.Common.{rules, ◌≡◌, true, false, arith}
use borrow.Author.Tests.{tests}
use Rattle.std.proofs.lemmas.Iterator.{YieldsList-from_slice, IsFirst-from_position}
use Rattle.gs_list.specs.Lines.{is_hash, bare}
use Rattle.gs_list.proofs.Cutting.{content_front}
use Rattle.gs_list.proofs.words.before_comment.Goals as goal

pub returns-in-Some : goal.returns-in-Some
returns-in-Some c =
    let first = IsFirst-from_position _ _ _ (λ b. is_hash b ≡ true) (λ b. is_hash b ≡ false) c.in-Some.ensures.ran (YieldsList-from_slice c.args.line.now cc) (λ x q k. search (rules, tests)) (λ x q k. search (rules, tests)) in
    content_front c.args.line.now c.in-Some.place first.0 first.1 first.2

pub returns-in-None : goal.returns-in-None
returns-in-None c =
    let none = IsFirst-from_position _ _ _ (λ b. is_hash b ≡ true) (λ b. is_hash b ≡ false) c.in-None.ensures.ran (YieldsList-from_slice c.args.line.now cc) (λ x q k. search (rules, tests)) (λ x q k. search (rules, tests)) in
    bare c.args.line.now (λ k d lt. none k d (omega arith) lt)
