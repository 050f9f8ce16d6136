use Rattle.std.proofs.Common.{◌≡◌, ◌+◌, List, [], ◌∷◌, ◌++◌, length, map, length-drop, ap, ◌∙◌, arith}
use Rattle.std.proofs.lemmas.List.{take_rest, map-append}
use Rattle.std.proofs.lemmas.List.Elements.{All-push}
use Rattle.gs_tree.specs.declared.token.Token.{Token}
use Rattle.gs_tree.specs.Lexeme.{Lexeme, fault, lexeme_of, kind_of, IsSpan}
use Rattle.gs_tree.proofs.Lexing.{so_far-gap, so_far-token, so_far-end, so_far-stop, in_order-push, in_order-widen}
use Rattle.gs_tree.proofs.lexer.read_tokens.Goals as goal

-- one token more, as plain data
pushed : (new old : List Token) (t : Token) (x : Lexeme) → new ≡ old ++ t ∷ [] → lexeme_of t ≡ x → map lexeme_of new ≡ map lexeme_of old ++ x ∷ []
pushed new old t x e f = ap (map lexeme_of) e ∙ map-append lexeme_of old (t ∷ []) ∙ ap (λ y. map lexeme_of old ++ y ∷ []) f

pub steps-preserved-in-Gap : goal.steps-preserved-in-Gap
steps-preserved-in-Gap c =
    let before = c.steps.invariant in
    let step = rw c.in-Gap.is at (simp take_rest at c.in_ok-count.ensures) in
    let rest_length = length-drop c.steps.at c.args.bytes.now in
    record {
      within = omega (arith, step.2);
      lines = omega (arith, step.3);
      so_far = so_far-gap c.args.bytes.now c.steps.at c.steps.line c.in-Gap.count c.in-Gap.lines c.steps.is_fresh c.in-Gap.stays_fresh _ before.so_far step.0;
      in_order = in_order-widen 0 c.steps.at (c.steps.at + c.in-Gap.count) _ before.in_order (omega arith);
      spans = before.spans;
    }

pub steps-preserved : goal.steps-preserved
steps-preserved c =
    let before = c.steps.invariant in
    let step = rw c.in-Token.is at (simp take_rest at c.in_ok-count.ensures) in
    let rest_length = length-drop c.steps.at c.args.bytes.now in
    let x : Lexeme = record { kind = kind_of c.in-Token.kind; from = c.steps.at; to = c.steps.at + c.in-Token.count; line = c.steps.line } in
    let items = pushed c.push.new.self.items c.steps.items.items c.make_token.result x c.in_ok-push-in-Token.ensures.items c.make_token.ensures.token in
    record {
      within = omega (arith, step.2);
      lines = omega arith;
      so_far = rw items (so_far-token c.args.bytes.now c.steps.at c.steps.line c.in-Token.count c.steps.is_fresh (kind_of c.in-Token.kind) _ before.so_far step.0);
      in_order = rw items (in_order-push 0 c.steps.at (c.steps.at + c.in-Token.count) _ x before.in_order (omega arith) (omega (arith, step.1)) (omega arith));
      spans = rw c.in_ok-push-in-Token.ensures.items (All-push (IsSpan (length c.args.bytes.now)) c.steps.items.items c.make_token.result before.spans (omega arith, omega (arith, step.2)));
    }

pub returns-in-Fault-clause-lexed : goal.returns-in-Fault-clause-lexed
returns-in-Fault-clause-lexed c =
    let step = rw c.in-Fault.is at (simp take_rest at c.in_ok-count.ensures) in
    let x : Lexeme = record { kind = fault c.in-Fault.kind; from = c.steps.at; to = c.steps.at + 1; line = c.steps.line } in
    let items = pushed c.push-in-Fault.new.self.items c.steps.items.items c.make_token-in-Fault.result x c.in_ok-push-in-Fault.ensures.items c.make_token-in-Fault.ensures.token in
    rw items (so_far-stop c.args.bytes.now c.steps.at c.steps.line c.steps.is_fresh c.in-Fault.kind _ c.steps.invariant.so_far step)

pub returns-in-Fault-clause-spans : goal.returns-in-Fault-clause-spans
returns-in-Fault-clause-spans c =
    let x : Lexeme = record { kind = fault c.in-Fault.kind; from = c.steps.at; to = c.steps.at + 1; line = c.steps.line } in
    let items = pushed c.push-in-Fault.new.self.items c.steps.items.items c.make_token-in-Fault.result x c.in_ok-push-in-Fault.ensures.items c.make_token-in-Fault.ensures.token in
    rw items (in_order-push 0 c.steps.at (length c.args.bytes.now) _ x c.steps.invariant.in_order (omega arith) (omega arith) (omega arith))

pub returns-clause-lexed : goal.returns-clause-lexed
returns-clause-lexed c =
    let rest_length = length-drop c.steps.at c.args.bytes.now in
    so_far-end c.args.bytes.now c.steps.at c.steps.line c.steps.is_fresh _ c.steps.invariant.so_far (omega arith)
