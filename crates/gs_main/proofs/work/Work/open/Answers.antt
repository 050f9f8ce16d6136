use Rattle.std.proofs.Common.{[], ℕ, List, false, ap, sym, ◌∙◌}
use Rattle.gs_talk.specs.View.{placed_of}
use Rattle.gs_talk.specs.Values.{text_of}
use Rattle.gs_main.specs.declared.work.Work.{Work}
use Rattle.gs_main.specs.Meanings.{loading, loading_named}
use Rattle.gs_main.specs.Seen.{given_of, state_of}
use Rattle.gs_main.proofs.Doing.{last_does}
use Rattle.gs_main.proofs.work.Work.open.Goals as goal

pub returns : goal.returns
returns c =
    let t = given_of c.args.script.now in
    let old = c.args.self.now in
    last_does false (loading t c.args.line c.args.to (placed_of c.args.path.now) c.args.mode) (loading_named t c.args.line c.args.to c.args.mode c.text_of.result.now) c.args.line [] old c.value.new.self c.open_named.result c.open_named.new.self c.in-Ok.ensures.1
    (λ n. c.in-Ok.ensures.0 (λ v u. loading_named t c.args.line c.args.to c.args.mode (text_of v) n u)
    ∙ ap (λ (x : List ℕ). loading_named t c.args.line c.args.to c.args.mode x n (state_of old)) (sym c.text_of.ensures)
    ∙ ap (λ (x : Work). loading_named t c.args.line c.args.to c.args.mode c.text_of.result.now n (state_of x)) (sym c.in-Ok.ensures.1))
    c.open_named.ensures
