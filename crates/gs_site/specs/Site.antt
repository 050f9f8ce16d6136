-- What a site holds.
use Rattle.std.specs.Prelude.{ℕ, List}
use Rattle.gs_site.specs.declared.site.Site.{Site}
use Rattle.gs_site.specs.Marks.{listed}

abbrev pub disk_of : {D K : Type 0} → Site D K → D
disk_of s = s.disk

abbrev pub link_of : {D K : Type 0} → Site D K → K
link_of s = s.link

-- where the run began: the length of the link's history then
abbrev pub mark_of : {D K : Type 0} → Site D K → ℕ
mark_of s = s.mark

-- all marks that were set, the newest first
abbrev pub marks_of : {D K : Type 0} → Site D K → List ℕ
marks_of s = listed s.marks.value
