-- The first call of a program whose operation no worker takes, by its line.
use Rattle.std.specs.Prelude.{ℕ, Bool, List, Option, Some, None, if◌then◌else◌}
use Rattle.std.specs.List.{list_any}
use Rattle.std.specs.Option.{option_or}
use Rattle.gs_idl.specs.Interface.{Signature, op_place}
use Rattle.gs_tree.specs.Program.{Name, Code, empty, block, set, choose, while, for, open_file, read_line, close_file, barrier, print, print_file, print_str, call, Codes, none, one, MaybeCodes, without, otherwise}
use Rattle.gs_broker.specs.Text.{Entry}
use Rattle.gs_broker.specs.TextLaws.{takes_by}

-- some worker takes the operation at this place
abbrev pub is_taken : List Entry → (op : ℕ) → Bool
is_taken workers op = list_any (λ e. takes_by (Some e) op) workers

abbrev pub unserved_at : List Entry → Option ℕ → (line : ℕ) → Option ℕ
unserved_at workers None line = Some line
unserved_at workers (Some op) line = if is_taken workers op then None else Some line

-- a call of the operation of this name
abbrev pub unserved_name : List Signature → List Entry → Name → Option ℕ
unserved_name ops workers name = unserved_at workers (op_place ops name.text) name.line

abbrev mutual
  pub unserved_code : List Signature → List Entry → Code → Option ℕ
  unserved_code ops workers (empty line) = None
  unserved_code ops workers (block line body) = unserved ops workers body
  unserved_code ops workers (set a) = None
  unserved_code ops workers (choose line test then_do else_do) =
      option_or (unserved ops workers then_do) (unserved_else ops workers else_do)
  unserved_code ops workers (while line test body) = unserved ops workers body
  unserved_code ops workers (for line first test step body) = unserved ops workers body
  unserved_code ops workers (open_file line to path mode) = None
  unserved_code ops workers (read_line line got handle to) = None
  unserved_code ops workers (close_file line handle) = None
  unserved_code ops workers (barrier line) = None
  unserved_code ops workers (print line format args) = None
  unserved_code ops workers (print_file line handle format args) = None
  unserved_code ops workers (print_str line to format args) = None
  unserved_code ops workers (call op args) = unserved_name ops workers op

  -- of statements, in the order of the text
  pub unserved : List Signature → List Entry → Codes → Option ℕ
  unserved ops workers none = None
  unserved ops workers (one code codes) =
      option_or (unserved_code ops workers code) (unserved ops workers codes)

  pub unserved_else : List Signature → List Entry → MaybeCodes → Option ℕ
  unserved_else ops workers without = None
  unserved_else ops workers (otherwise codes) = unserved ops workers codes
