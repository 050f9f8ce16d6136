-- A call enters the engine as a run of its texts.
use Rattle.std.proofs.Common.{◌≡◌, ℕ, ◌<◌, ◌≤◌, List, Option, Some, None, refl, sym, ◌∙◌, ap, subst, arith}
use Rattle.std.specs.Prelude.{option_map, slice_get, Bool}
use Rattle.gs_types.specs.History.{History}
use Rattle.gs_types.specs.Job.{Meaning}
use Rattle.gs_types.specs.declared.settings.Settings.{Settings}
use Rattle.gs_idl.specs.Interface.{Interface, IsOpsSized}
use Rattle.gs_tree.specs.Program.{Program}
use Rattle.gs_broker.specs.Broker.{IsFresh}
use Rattle.gs_broker.specs.Counts.{most}
use Rattle.gs_broker.specs.TextLaws.{slots_by, takes_by}
use Rattle.gs_broker.specs.Listed.{program_in as worker_program, entries_in}
use Rattle.gs_broker.specs.declared.broker.Broker.{Broker}
use Rattle.gs_broker.specs.declared.workers.Workers.{Workers}
use Rattle.gs_check.specs.Passing.{program_in, interface_in}
use Rattle.gs_check.specs.declared.checked.Checked.{Checked}
use Rattle.gs_disk.specs.Folder.{Folder, DiskState}
use Rattle.gs_entries.specs.declared.entry.Entry.{Entry as Store}
use Rattle.gs_entries.specs.declared.entry.Texts.{Texts}
use Rattle.gs_talk.specs.Talk.{Given}
use Rattle.gs_talk.specs.Seq.{Known, Lost}
use Rattle.gs_talk_laws.specs.Stuck.{AreKnown}
use Rattle.gs_main.specs.Talking.{Talking, given_by, first_talking, Goes}
use Rattle.gs_talk.specs.Talk.{dialogue}
use Rattle.gs_history.specs.Setup.{Setup}
use Rattle.gs_works.specs.Works.{IsBrokerOf}
use Rattle.gs_life.specs.Origin.{Origin, contents}
use Rattle.gs_life.specs.Called.{StandsFor}
use Rattle.gs_engine.specs.Beginning.{parts_of, Enters}
use Rattle.gs_run.specs.Course.{IsRunOf, setup_for}
use Rattle.gs_run.specs.Served.{SayBoth}
use Rattle.gs_run.proofs.Courses.{call_for}
use Rattle.gs_run.proofs.Listing.{tells}
use Rattle.gs_run.proofs.Verdicts.{one_interface, one_tree}

known_content : (o : Option (List ℕ)) → option_map Known o ≡ Some Lost → ⊥
known_content (Some x) e = absurd cc
known_content None e = absurd cc

known : (f : Folder) → AreKnown (contents f)
known f name lost = known_content (f name) lost

-- the texts say what the run is given
pub given_is : (o : Origin) (idl program : List ℕ) (t : Texts) (i : Interface) (p : Program)
    → IsRunOf o idl program → o.texts ≡ t → SayBoth t i p → given_by idl program i p ≡ o.given
given_is o idl program t i p run texts say =
    let one_i = one_interface (Some t.idl) i run.interface say.interface (record {
      text = o.texts.idl;
      there = ap (λ (x : Texts). some x.idl) (sym texts);
      says = run.says;
    }) in
    let one_p = one_tree (Some t.program) p run.tree say.program (record {
      text = o.texts.program;
      there = ap (λ (x : Texts). some x.program) (sym texts);
      says = run.is_text;
    }) in
    ap (λ (j : Interface). given_by idl program j p) one_i
    ∙ ap (λ (x : Program). given_by idl program run.interface x) one_p ∙ sym run.given
  where
    some : List ℕ → Option (List ℕ)
    some x = Some x

broker_of : (s : Setup) (workers : Workers) (b : Broker) (tries : ℕ) → IsFresh workers tries b
    → s.slots ≡ (λ w. slots_by
    (slice_get (entries_in workers) w))
    → s.takes ≡ (λ w op. takes_by
    (slice_get (entries_in workers) w) op)
    → s.tries ≡ tries → 1 ≤ tries → tries ≤ 100 → IsBrokerOf s b
broker_of s workers b tries fresh slots takes is some few = record {
  unused = record {
    jobs = fresh.jobs;
    loads = fresh.busy;
    failures = fresh.failures;
    lapses = fresh.lapses;
  };
  slots = λ w. fresh.slots w ∙ (tells workers).slots w ∙ ap (λ (f : ℕ → ℕ). f w) (sym slots);
  takes = λ w op. fresh.takes w op ∙ (tells workers).takes w op
      ∙ ap (λ (f : ℕ → ℕ → Bool). f w op) (sym takes);
  tries = fresh.times ∙ sym is;
  some_tries = subst (λ (n : ℕ). 0 < n) (sym is) (omega (arith, some));
  few_tries = subst (λ (n : ℕ). n ≤ most) (sym is)
      (omega (arith, few));
}

pub enters : {D K : Type 0} (state : D → DiskState) (tells_link : K → History → Type 0)
    (law : K → Meaning) (o : Origin) (settings : Settings) (idl program : List ℕ) (t : Texts)
    (checked : Checked) (workers : Workers) (m : Talking) (b : Broker) (es : List Store)
    (past : History) (disk : D) (link : K)
    → StandsFor o es (state disk) → IsRunOf o idl program → o.texts ≡ t
    → SayBoth t (interface_in checked) (program_in checked) → law link ≡ o.law
    → tells_link link past
    → m ≡ first_talking idl program (interface_in checked) (program_in checked) settings.fuel
    → IsFresh workers settings.tries b → 1 ≤ settings.tries → settings.tries ≤ 100
    → Enters state tells_link law (parts_of t m b settings.window) es disk link
    (call_for o settings (entries_in workers) es past)
enters state tells_link law o settings idl program t checked workers m b es past disk link stands run
    texts say law_is told begins fresh some few =
    let i = interface_in checked in
    let p = program_in checked in
    let given : given_by idl program i p ≡ o.given = given_is o idl program t i p run texts say in
    record {
      texts_are = texts;
      stands = stands;
      given = record {
        texts = ap (λ (x : Talking). x.given) begins ∙ given;
        operations = ap (λ (x : Talking). x.interface.ops) begins ∙ ap (λ (g : Given). g.ops) given;
        begins = ap (λ (x : Talking). x.next) begins
            ∙ ap (λ (g : Given). Goes (dialogue g settings.fuel)) given;
        workers = broker_of (setup_for o settings (entries_in workers) es)
            workers b settings.tries fresh refl refl refl some few;
        programs = λ w. ap (λ (ws : Workers). worker_program ws w) fresh.listed
            ∙ (tells workers).program w;
        window_is = refl;
        notes_are = refl;
        sized = subst (λ (g : Given). IsOpsSized g.ops) (sym run.given)
            run.well_formed.sized.ops;
        rules = stands.rules;
        files = known o.files;
      };
      law_is = law_is;
      told = told;
    }
