-- What a site ends as where its disk is lent.
use Rattle.std.specs.Borrow.{Lends, MutBor, Fml, RattleType}
use Rattle.gs_site.specs.declared.site.Site.{Site}
use Rattle.gs_site.specs.contracts.site.Site.{the_row}

-- once the loan ends, the site has the disk as it was left
abbrev pub lends_disk : (D K : RattleType) → MutBor (Site D.Denot K.Denot) → MutBor D.Denot → Fml
lends_disk D K s r = Lends (the_row D K) D s r (λ d. record s.now { disk = d })
