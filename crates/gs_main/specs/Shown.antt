-- What a `Main` is.
use Rattle.std.specs.Prelude.{Bool, true, false}
use Rattle.gs_check.specs.Passing.{interface_in}
use Rattle.gs_main.specs.Talking.{Talking, Next, Failed}
use Rattle.gs_main.specs.Seen.{given_of, state_of, next_of}
use Rattle.gs_main.specs.declared.dialogue.Main.{Main}

abbrev pub unless_failed : Bool → Next → Next
unless_failed true next = Failed
unless_failed false next = next

unfoldable pub talking : Main → Talking
talking m = record {
  given = given_of m.script;
  interface = interface_in m.script.checked;
  state = state_of m.run.work;
  next = unless_failed m.failed (next_of (given_of m.script) m.script.orders.items m.run);
}
