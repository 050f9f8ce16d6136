-- What a table of names says.
use Rattle.std.specs.Prelude.{ℕ, List}
use Rattle.indexmap.specs.IndexMap.{spare}
use Rattle.gs_names.specs.Writes.{Write, listed}
use Rattle.gs_names.specs.declared.table.NameTable.{NameTable}

-- the names that have a number, each at its number
unfoldable pub names_in : NameTable → List (List ℕ)
names_in t = t.names.keys

-- what was written, the newest write first
unfoldable pub writes_in : NameTable → List Write
writes_in t = listed t.writes.value

-- how many writes more surely take no memory
unfoldable pub spare_in : NameTable → ℕ
spare_in t = spare t.finals
