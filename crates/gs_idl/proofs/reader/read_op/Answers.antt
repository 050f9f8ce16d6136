use Rattle.std.proofs.Common.{◌∙◌, refl, ◌++◌, ◌∷◌, [], map}
use Rattle.gs_idl.specs.Lexicon.{symbol}
use Rattle.gs_idl.specs.Machine.{at_name, at_paren, at_dir, at_semi, at_ops, op_by}
use Rattle.gs_idl.specs.Reading.{signs}
use Rattle.gs_idl.specs.View.{param_of, op_of}
use Rattle.gs_idl.specs.declared.token.Symbol.TheVariants.{OpenParen, Semicolon}
use Rattle.gs_idl.proofs.Running.{passes, not_passed_halts, after_halts}
use Rattle.gs_idl.proofs.Steps.{open_paren, paren_goes, paren_stops, paren_rule, open_semi, semi_goes, semi_stops, semi_rule}
use Rattle.gs_idl.proofs.reader.read_op.Goals as goal

pub returns-in-Err-clause-moves : goal.returns-in-Err-clause-moves
returns-in-Err-clause-moves c x = c.in-Err.ensures.moves x

pub returns-in-Err-pass_symbol-clause-moves : goal.returns-in-Err-pass_symbol-clause-moves
returns-in-Err-pass_symbol-clause-moves c x =
    let gs = signs c.args.tokens.now in
    let os = map op_of c.args.ops.now in
    let f = c.in-Ok.name.items in
    after_halts gs c.args.at.now c.pass_op_name.new.at c.pass_symbol.new.at (at_name x os) (at_paren x os f) c.in-Err-pass_symbol.stop (c.in-Ok.ensures.moves x)
    (not_passed_halts gs c.pass_op_name.new.at c.pass_symbol.new.at (at_paren x os f) (symbol OpenParen) c.in-Err-pass_symbol.stop (open_paren x os f) (paren_stops x os f) c.in-Err-pass_symbol.ensures.passed)

pub returns-in-Err-read_params-clause-moves : goal.returns-in-Err-read_params-clause-moves
returns-in-Err-read_params-clause-moves c x =
    let gs = signs c.args.tokens.now in
    let os = map op_of c.args.ops.now in
    let f = c.in-Ok.name.items in
    let second = passes gs c.pass_op_name.new.at c.pass_symbol.new.at (at_paren x os f) (at_dir x os f []) (symbol OpenParen) (open_paren x os f) c.in_default.ensures.passed.0 (paren_goes x os f) (paren_rule x os f (symbol OpenParen)) c.in_default.ensures.passed.1 (λ r. refl) in
    after_halts gs c.args.at.now c.pass_symbol.new.at c.read_params.new.at (at_name x os) (at_dir x os f []) c.in-Err-read_params.stop (c.in-Ok.ensures.moves x ∙ second) (c.in-Err-read_params.ensures.moves x os f)

pub returns-in-Err-pass_symbol-2-clause-moves : goal.returns-in-Err-pass_symbol-2-clause-moves
returns-in-Err-pass_symbol-2-clause-moves c x =
    let gs = signs c.args.tokens.now in
    let os = map op_of c.args.ops.now in
    let f = c.in-Ok.name.items in
    let ps = map param_of c.in-Ok-read_params.params.items in
    let second = passes gs c.pass_op_name.new.at c.pass_symbol.new.at (at_paren x os f) (at_dir x os f []) (symbol OpenParen) (open_paren x os f) c.in_default.ensures.passed.0 (paren_goes x os f) (paren_rule x os f (symbol OpenParen)) c.in_default.ensures.passed.1 (λ r. refl) in
    after_halts gs c.args.at.now c.read_params.new.at c.pass_symbol-2.new.at (at_name x os) (at_semi x os f ps) c.in-Err-pass_symbol-2.stop (c.in-Ok.ensures.moves x ∙ second ∙ c.in-Ok-read_params.ensures.moves x os f)
    (not_passed_halts gs c.read_params.new.at c.pass_symbol-2.new.at (at_semi x os f ps) (symbol Semicolon) c.in-Err-pass_symbol-2.stop (open_semi x os f ps) (semi_stops x os f ps) c.in-Err-pass_symbol-2.ensures.passed)

pub returns-clause-moves : goal.returns-clause-moves
returns-clause-moves c x =
    let gs = signs c.args.tokens.now in
    let os = map op_of c.args.ops.now in
    let f = c.in-Ok.name.items in
    let ps = map param_of c.in-Ok-read_params.params.items in
    let second = passes gs c.pass_op_name.new.at c.pass_symbol.new.at (at_paren x os f) (at_dir x os f []) (symbol OpenParen) (open_paren x os f) c.in_default.ensures.passed.0 (paren_goes x os f) (paren_rule x os f (symbol OpenParen)) c.in_default.ensures.passed.1 (λ r. refl) in
    let last = passes gs c.read_params.new.at c.pass_symbol-2.new.at (at_semi x os f ps) (at_ops x (os ++ op_by f ps ∷ [])) (symbol Semicolon) (open_semi x os f ps) c.in_default-pass_symbol.ensures.passed.0 (semi_goes x os f ps) (semi_rule x os f ps (symbol Semicolon))
    c.in_default-pass_symbol.ensures.passed.1 (λ r. refl) in
    c.in-Ok.ensures.moves x ∙ second ∙ c.in-Ok-read_params.ensures.moves x os f ∙ last
