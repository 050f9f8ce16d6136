use Rattle.std.proofs.Common.{◌≡◌, ◌∙◌, refl, sym, ap, subst, ◌<◌, ◌≤◌, ◌+◌, ◌==◌, ◌∷◌, ◌++◌, [], ℕ, Bool, List, Option, None, is_some, length, map, arith, if◌then◌else◌}
use Rattle.gs_idl.specs.Interface.{Param, Signature, params_at, reads_file, writes_file}
use Rattle.gs_types.specs.declared.note.Version.{Version}
use Rattle.gs_types.specs.declared.job.Arg.{Arg}
use Rattle.gs_types.specs.History.{outs_in}
use Rattle.gs_names.specs.Table.{names_in, writes_in}
use Rattle.gs_names.specs.Writes.{Write, latest}
use Rattle.gs_graph.specs.Graph.{count_in, done_in, needs_in, actions_in}
use Rattle.gs_graph.specs.Edges.{waiting_too}
use Rattle.gs_looks.specs.Looked.{looks_in}
use Rattle.gs_looks.specs.Judgement.{judged_call, read_with}
use Rattle.gs_looks.specs.declared.judging.Judged.TheVariants as judged
use Rattle.gs_talk.specs.Actions as act
use Rattle.gs_talk.specs.declared.question.CallArg.{CallArg}
use Rattle.gs_talk.specs.Actions.{acts, names_where}
use Rattle.gs_talk.specs.Seq.{first_refused}
use Rattle.gs_talk_laws.specs.Versions.{writings, written_by, read_by}
use Rattle.gs_talk_laws.proofs.Stays.{files_are_versions}
use Rattle.gs_history.specs.Setup.{world_at, count_at}
use Rattle.gs_tables.specs.Lengths.{kept_length}
use Rattle.gs_tables.specs.Outs.{outs_noted}
use Rattle.gs_tables.specs.Marks.{with_names, named_by, AreMade}
use Rattle.gs_tables.specs.Sources.{sources}
use Rattle.gs_tables.specs.Written.{written_back}
use Rattle.gs_tables.specs.declared.row.Row.{Row}
use Rattle.gs_tables.proofs.Entering.{entered}
use Rattle.gs_tables.proofs.Feeding.{AreEarlier}
use Rattle.gs_tables.proofs.Lengthening.{as_many, reads_same, lengths_fit, reads_earlier}
use Rattle.gs_tables.proofs.Reading.{latest_is}
use Rattle.gs_tables.proofs.tables.Tables.enter.Goals as goal

pub returns-clause-entered : goal.returns-clause-entered
returns-clause-entered c = λ s k h line next ops holds asked may fits goes outs fine.
    let old = c.args.self.now in
    let op = c.args.op in
    let args = c.args.called in
    let given = params_at c.args.idl.now.ops op in
    let ps = params_at s.run.texts.ops op in
    let same : given ≡ ps = ap (λ (o : List Signature). params_at o op) ops in
    let n = count_at s k + 1 in
    let number : c.in_ok-n.n ≡ n = c.in_ok-n.ensures ∙ ap (λ (i : ℕ). i + 1) (c.count.ensures ∙ holds.graph.count) in
    let version : List ℕ → Version = λ x. latest x (writes_in old.names) in
    let ws = writings s.run k in
    let row : Row = record { op = op; called = args; reads = c.in_ok-reads.reads; kept = c.in_ok-kept.kept; outs = c.args.outs } in
    let marks = c.in_ok-mark_call.ensures in
    let written = c.in_ok-write_all.ensures in
    let graph = c.in_ok-add_task.ensures in
    let reads : row.reads ≡ read_by ws ps args = c.in_ok-reads.ensures ∙ ap (λ (l : List CallArg). read_with version given l) c.items.ensures ∙ ap (λ (l : List Param). read_with version l args) same ∙ reads_same version ws (latest_is old s k h holds) ps args in
    let looked : judged_call (looks_in old.looks) old.mains.items (read_by ws ps args) ≡ judged.Fine =
    ap (judged_call (looks_in old.looks) old.mains.items) (sym (ap (λ (l : List Param). read_with version l args) same ∙ reads_same version ws (latest_is old s k h holds) ps args)) ∙ fine in
    let kept : row.kept ≡ map (kept_length (looks_in old.looks) old.mains.items) (read_by ws ps args) =
    c.in_ok-kept.ensures ∙ ap (λ (l : List ℕ). map (kept_length (looks_in old.looks) l) c.items-2.result.now) c.deref.ensures.value ∙ ap (map (kept_length (looks_in old.looks) old.mains.items)) (c.items-2.ensures ∙ reads) in
    let one = λ (l : List Param) (xs : List CallArg) (i : ℕ). act.Call i op (names_where reads_file l xs) (names_where writes_file l xs) in
    let called_is : one given c.items-3.result.now c.in_ok-n.n ≡ one ps args n = ap (λ (xs : List CallArg). one given xs c.in_ok-n.n) c.items-3.ensures ∙ ap (λ (l : List Param). one l args c.in_ok-n.n) same ∙ ap (one ps args) number in
    let wrote : writes_in c.write_all.new.table ≡ written_back (written_by n 1 ps args) (writes_in old.names) =
    written.writes ∙ ap (λ (xs : List CallArg). written_back (written_by c.in_ok-n.n 1 given xs) (writes_in c.mark_call.new.names)) c.items-4.ensures ∙ ap (λ (l : List Param). written_back (written_by c.in_ok-n.n 1 l args) (writes_in c.mark_call.new.names)) same
    ∙ ap (λ (i : ℕ). written_back (written_by i 1 ps args) (writes_in c.mark_call.new.names)) number ∙ ap (written_back (written_by n 1 ps args)) marks.writes in
    let done : c.is_some.result ≡ is_some row.outs = c.is_some.ensures in
    let done_2 : c.is_some-2.result ≡ is_some row.outs = c.is_some-2.ensures in
    entered old _ s k op line h args asked.0 next row holds asked.1 may fits (ap (λ (l : List Param). first_refused (world_at s k).files l args) (sym same) ∙ goes)
    (record {
      rows = c.in_ok-push.ensures.items;
      notes = refl;
      looks = refl;
      mains = refl;
      window = refl;
      writes = wrote;
      names = written.names ∙ marks.names ∙ ap (λ a. with_names (names_in old.names) (named_by a)) called_is;
      made = subst (λ (l : List (List ℕ)). AreMade l (actions_in c.add_task.new.graph) (acts s.run k ++ one ps args n ∷ [])) (sym written.names)
          (subst (λ l. AreMade (names_in c.mark_call.new.names) l (acts s.run k ++ one ps args n ∷ [])) (sym graph.actions)
          (subst (λ a. AreMade (names_in c.mark_call.new.names) (actions_in c.mark_call.new.graph) (acts s.run k ++ a ∷ [])) called_is (marks.made (acts s.run k) holds.made)));
      unfinished_is = c.in_ok-self.ensures ∙ ap (λ (b : Bool). old.unfinished + (if b then 0 else 1)) done_2;
      count = graph.count ∙ number;
      done = λ m. graph.done m ∙ ap (λ (i : ℕ). if i == m then c.is_some.result else done_in c.mark_call.new.graph m) number ∙ ap (λ (b : Bool). if n == m then b else done_in c.mark_call.new.graph m) done ∙ ap (λ (b : Bool). if n == m then is_some row.outs else b) (marks.tasks.done m);
      needs = λ m p. graph.needs m p ∙ ap (λ (l : List (Option Version)). waiting_too c.in_ok-n.n (sources c.in_ok-n.n l) (needs_in c.mark_call.new.graph) m p) c.items-5.ensures
          ∙ ap (λ (i : ℕ). waiting_too i (sources i row.reads) (needs_in c.mark_call.new.graph) m p) number ∙ ap (λ (b : Bool). if n == m then Rattle.gs_graph.specs.Numbers.has p (sources n row.reads) else b) (marks.tasks.needs m p);
    })
    (record {
      op_is = refl;
      called_is = refl;
      reads_are = reads;
      kept_are = λ xs e. kept ∙ lengths_fit (looks_in old.looks) old.mains.items s.run.files (world_at s k) ws holds.looks holds.mains (files_are_versions s.run k) ps args xs looked e;
      outs_are = outs ∙ ap (λ (l : List Param). Rattle.std.specs.Prelude.option_map (outs_noted 1 l) (outs_in h n)) same;
    })
    (as_many s.run k) (subst (AreEarlier n) (sym reads) (reads_earlier s k ps args))
