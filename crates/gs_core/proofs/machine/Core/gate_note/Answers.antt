use Rattle.std.proofs.Common.{◌∙◌, sym, ap}
use Rattle.gs_talk.specs.Talk.{Given, State}
use Rattle.gs_pieces.specs.Notes.{notes_of}
use Rattle.gs_main.specs.Shown.{talking}
use Rattle.gs_core.proofs.Leaving.{ended_state}
use Rattle.gs_core.proofs.machine.Core.gate_note.Goals as goal

pub returns : goal.returns
returns c = λ s k h is ended.
    let self = c.args.self.now in
    let m = talking self.main in
    let last = ended.2.last in
    let same = ended_state self.lost self.stage self.asked m s k h last.0 ended.1 ended.0 c.requires is.rest is.talks last.1 in
    record {
      gated = c.in_ok-names.ensures s k h is.bears.tables ended.2.done;
      state = last.0;
      ends = last.1;
      text = c.in_ok-copy.ensures ∙ c.text.ensures ∙ ap (λ (st : State). st.text) (sym same);
      vars = c.of.ensures ∙ c.in_ok-vars.ensures ∙ ap (λ (g : Given). notes_of g.program.vars m.state.vars) is.made.texts ∙ ap (λ (st : State). notes_of s.run.texts.program.vars st.vars) (sym same);
    }
