use Rattle.std.proofs.Common.{Some, rules, sym, ◌∙◌, ap, subst}
use Rattle.std.proofs.lemmas.Fn.{filter_same}
use Rattle.gs_disk.specs.Mem.{files_of, folder_of, reads, Puts, done_by, with_file, is_other, touched_name}
use Rattle.gs_disk.proofs.steps.add.Goals as goal

pub returns-clause-added : goal.returns-clause-added
returns-clause-added c = record {
  put = subst (λ m. Puts c.args.name (Some c.args.bytes.items) (reads c.args.now.now) (folder_of (files_of m))) (sym c.take_since-before.ensures.files) c.in_ok-put.ensures.put;
  done = ap done_by c.of.ensures ∙ (λ i. with_file (c.copy-key.ensures i) (c.of-copy.ensures i).items (done_by (c.take_since-before.ensures.taken i).value));
  touched = ap (λ v. v.items) c.take_since-before.ensures.touched ∙ filter_same _ (λ t. is_other c.args.name (touched_name t)) _ (λ x b f' k. search rules) _ _ c.retain.ensures.filtered;
  is_whole = c.take_since-before.ensures.is_whole;
}
