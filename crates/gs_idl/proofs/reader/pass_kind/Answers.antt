use Rattle.std.proofs.Common.{◌∙◌, sym, refl, true, false}
use Rattle.gs_idl.specs.Lexicon.{word}
use Rattle.gs_idl.specs.Machine.{at_kind, at_param}
use Rattle.gs_idl.specs.Reading.{signs}
use Rattle.gs_idl.specs.declared.token.IdlKind.TheVariants.{Unexpected, BadCombination}
use Rattle.gs_idl.proofs.Running.{passes, breaks, stops_at, no_word_halts}
use Rattle.gs_idl.proofs.Steps.{open_kind, kind_no_word, kind_other, kind_goes, kind_rule}
use Rattle.gs_idl.proofs.reader.pass_kind.Goals as goal

pub returns-in-Err-clause-moves : goal.returns-in-Err-clause-moves
returns-in-Err-clause-moves c x os f ps = no_word_halts (signs c.args.tokens.now) c.args.at.now (at_kind x os f ps c.args.dir) c.in-Err.stop (open_kind x os f ps c.args.dir) (kind_no_word x os f ps c.args.dir) c.in-Err.ensures.named

pub returns-in_default-clause-moves : goal.returns-in_default-clause-moves
returns-in_default-clause-moves c x os f ps =
    stops_at (signs c.args.tokens.now) c.args.at.now (at_kind x os f ps c.args.dir) (word _) Unexpected (open_kind x os f ps c.args.dir) c.in-Ok.ensures.named
    (kind_other x os f ps c.args.dir _ (sym c.kind_of.ensures ∙ c.in_default.is)) refl

pub returns-then-is_clash-clause-moves : goal.returns-then-is_clash-clause-moves
returns-then-is_clash-clause-moves c x os f ps =
    breaks (signs c.args.tokens.now) c.args.at.now (at_kind x os f ps c.args.dir) (at_param x os f ps c.args.dir c.in-Some.kind) (word _) BadCombination (open_kind x os f ps c.args.dir) c.in-Ok.ensures.named
    (kind_goes x os f ps c.args.dir _ c.in-Some.kind (sym c.kind_of.ensures ∙ c.in-Some.is)) (kind_rule x os f ps c.args.dir _ c.in-Some.kind true (sym c.kind_of.ensures ∙ c.in-Some.is) (sym c.if-is_clash.ensures))

pub returns-clause-moves : goal.returns-clause-moves
returns-clause-moves c x os f ps =
    passes (signs c.args.tokens.now) c.args.at.now _ (at_kind x os f ps c.args.dir) (at_param x os f ps c.args.dir c.in-Some.kind) (word _) (open_kind x os f ps c.args.dir) c.in-Ok.ensures.named
    (kind_goes x os f ps c.args.dir _ c.in-Some.kind (sym c.kind_of.ensures ∙ c.in-Some.is)) (kind_rule x os f ps c.args.dir _ c.in-Some.kind false (sym c.kind_of.ensures ∙ c.in-Some.is) (sym c.if-is_clash.ensures)) refl (λ f. refl)
