-- The text that a closed record has is the sequential run's.
use Rattle.std.proofs.Common.{◌≡◌, ℕ, List, [], Option, Some, None, Result, Ok, Err, sym, ◌∙◌, ap, inl, inr}
use Rattle.std.specs.Prelude.{IsSome}
use Rattle.gs_disk.specs.Folder.{Folder, DiskState}
use Rattle.gs_disk.specs.Moments.{Leaves}
use Rattle.gs_log.specs.Names.{mark_name}
use Rattle.gs_log.specs.OneList.{one_list_held}
use Rattle.gs_entries.specs.Order.{records}
use Rattle.gs_entries.specs.declared.entry.Entry.{Entry}
use Rattle.gs_entries.specs.declared.entry.GateNote.{GateNote}
use Rattle.gs_store.specs.Keeps.{spelled, HasEntries}
use Rattle.gs_store.specs.Ordered.{AreInOrder, gate_in}
use Rattle.gs_store.specs.State.{StoreState, IsDiskOf}
use Rattle.gs_talk.specs.Seq.{Run, seq}
use Rattle.gs_life.specs.Origin.{Origin}
use Rattle.gs_life.specs.Stands.{StandsClosed}
use Rattle.gs_life.proofs.Loading.{in_order_read}
use Rattle.gs_run.specs.Course.{IsTextOf}

ok_one : (x y : List Entry) → (r : Result (List Entry) ℕ) → r ≡ Ok x → r ≡ Ok y → x ≡ y
ok_one x y (Ok z) a b = cc
ok_one x y (Err n) a b = absurd cc

unmarked : (o : Option (List ℕ)) → IsSome o → o ≡ None → ⊥
unmarked (Some x) some none = absurd cc
unmarked None some none = absurd cc

-- a folder has one list of entries in order
pub one_entries : (es own : List Entry) (f : Folder) → AreInOrder es → AreInOrder own
    → HasEntries es f → HasEntries own f → es ≡ own
one_entries es own f order other (inl h) (inl k) =
    ok_one es own (records [] (spelled own))
    (ap (records []) (sym (one_list_held (spelled es) (spelled own) f h k)) ∙ in_order_read es order)
    (in_order_read own other)
one_entries es own f order other (inl h) (inr k) = absurd (unmarked (f mark_name) h.marked k.0)
one_entries es own f order other (inr h) (inl k) = absurd (unmarked (f mark_name) k.marked h.0)
one_entries es own f order other (inr h) (inr k) = h.1 ∙ sym k.1

some_is : (a b : GateNote) → Some a ≡ Some b → a ≡ b
some_is a b e = cc

-- a disk that is a store's reads its entries
pub reads_entries : (store : StoreState) (s : DiskState) → Leaves s s.folder → IsDiskOf store s
    → HasEntries store.entries s.folder
reads_entries store s reads is = (is.agreed.1 s.folder reads).entries

pub closed_text : (o : Origin) (es : List Entry) (f : Folder) (g : GateNote) → AreInOrder es
    → HasEntries es f → StandsClosed o f → gate_in es ≡ Some g → IsTextOf o g.text
closed_text o es f g order has closed is =
    let same : closed.0 ≡ es = one_entries closed.0 es f closed.2.are.in_order order closed.1 has in
    let note : closed.2.note ≡ g = some_is closed.2.note g
    (sym closed.2.noted ∙ ap gate_in same ∙ is) in
    let gate = closed.2.gate in
    record {
      fuel = gate.setup.run.fuel;
      questions = gate.questions;
      state = gate.says.state;
      ends = ap (λ (r : Run). (seq r gate.questions).rest) (sym gate.run_is) ∙ gate.says.ends;
      text_is = ap (λ (x : GateNote). x.text) (sym note) ∙ gate.says.text;
    }
