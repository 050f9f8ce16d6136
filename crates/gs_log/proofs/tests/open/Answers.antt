use Rattle.std.proofs.Common.{◌≡◌, List, ℕ, Option, Some, None, option_map, length, refl, sym, ◌∙◌, ap, subst}
use Rattle.gs_disk.specs.Folder.{Folder}
use Rattle.gs_log.specs.Names.{mark_name}
use Rattle.gs_log.proofs.tests.open.Goals as goal

none_there : (file : Option (List ℕ)) → None ≡ option_map length file → file ≡ None
none_there None is = refl
none_there (Some bytes) is = absurd (cc)

pub create-requires : goal.create-requires
create-requires g c = record {
  unmarked = λ told image left.
      let from = (c.len.ensures.images told).now image left in
      let none = subst (λ (n : List ℕ). (g.D.Disk.state c.sync.new.self).folder n ≡ None) c.mark_file.ensures (none_there _ (sym c.in-None.is ∙ c.in_ok-len.ensures.value told)) in
      ap (λ (f : Folder). f mark_name) (from.2.is ∙ c.in_ok-sync.ensures.only told from.0 from.1) ∙ none;
}
