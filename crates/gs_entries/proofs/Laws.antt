-- The law of each format, and how long its spellings are.
use Rattle.std.proofs.Common.{◌≡◌, ℕ, zero, suc, Some, refl}
use Rattle.gs_fields.specs.Format.{byte, four, eight, bytes}
use Rattle.gs_fields.proofs.Laws.{Law, byte_law, four_law, eight_law, eight_signed_law, bytes_law, empty_law, exactly_law, never_law, pair_law, only_law, via_law, tagged_law, counted_law}
use Rattle.gs_types.specs.declared.note.Note.TheVariants as notes
use Rattle.gs_types.specs.declared.note.Version.TheVariants as versions
use Rattle.gs_types.specs.declared.action.Action.TheVariants as acts
use Rattle.gs_entries.specs.declared.entry.Entry.TheVariants as made
use Rattle.gs_entries.specs.Notes.{name, source, task, place, operation, file_len, note_tag, file_part, int_part, str_part, note_as, note, put_out, out, outs, put_var, var, version_tag, out_of, task_part, main_part, version_as, version, put_final, final}
use Rattle.gs_entries.specs.Actions.{action_tag, put_call, call_part, put_use, use_part, result_part, read_part, write_part, barrier_part, end_part, files, action_as, action}
use Rattle.gs_entries.specs.Gate.{put_gate, gate_fields, gate}
use Rattle.gs_entries.specs.Entries.{put_texts, texts, entry_tag, header_part, put_done, done_part, gate_part, closed_part, entry_as, entry}

some_is : {A : Type 0} (x y : A) → Some x ≡ Some y → x ≡ y
some_is x y e = cc

-- a value that is made of its parts
made_of : {A X : Type 0} (put : A → X) (x : X) (parts a : A) → put parts ≡ x → Some parts ≡ Some a → put a ≡ x
made_of put x parts a h e = rw (← some_is parts a e) h

name_law : Law name
name_law = only_law _ bytes bytes_law

source_law : Law source
source_law = only_law _ bytes bytes_law

task_law : Law task
task_law = only_law _ four four_law

place_law : Law place
place_law = only_law _ byte byte_law

operation_law : Law operation
operation_law = only_law _ byte byte_law

file_len_law : Law file_len
file_len_law = only_law _ eight eight_law

note_laws : (t : ℕ) → Law (note_as t)
note_laws zero = never_law
note_laws (suc zero) = via_law notes.File file_part _ (λ a. refl) (elim [ notes.File l ↦ λ a e. cc | notes.Int v ↦ λ a e. absurd cc | notes.Str s ↦ λ a e. absurd cc ]) file_len_law
note_laws (suc (suc zero)) = via_law notes.Int int_part _ (λ a. refl) (elim [ notes.File l ↦ λ a e. absurd cc | notes.Int v ↦ λ a e. cc | notes.Str s ↦ λ a e. absurd cc ]) eight_signed_law
note_laws (suc (suc (suc zero))) = via_law notes.Str str_part _ (λ a. refl) (elim [ notes.File l ↦ λ a e. absurd cc | notes.Int v ↦ λ a e. absurd cc | notes.Str s ↦ λ a e. cc ]) (only_law _ bytes bytes_law)
note_laws (suc (suc (suc (suc t)))) = never_law

pub note_law : Law note
note_law = tagged_law note_tag note_as note_laws

out_law : Law out
out_law = via_law _ _ _ (λ a. refl) (λ x a e. made_of put_out x (x.place, x.v) a refl e) (pair_law _ note place_law note_law)

outs_law : Law outs
outs_law = only_law _ _ (counted_law byte out byte_law out_law)

var_law : Law var
var_law = via_law _ _ _ (λ a. refl) (λ x a e. made_of put_var x (x.name, x.v) a refl e) (pair_law _ _ (only_law _ bytes bytes_law) (only_law _ note note_law))

version_laws : (t : ℕ) → Law (version_as t)
version_laws zero = never_law
version_laws (suc zero) = via_law out_of task_part _ (λ a. refl) (elim [ versions.Original x ↦ λ a e. absurd cc | versions.Out n k ↦ λ a e. made_of out_of (versions.Out n k) (n, k) a refl e | versions.Main k ↦ λ a e. absurd cc ]) (pair_law _ _ task_law place_law)
version_laws (suc (suc zero)) = via_law versions.Main main_part _ (λ a. refl) (elim [ versions.Original x ↦ λ a e. absurd cc | versions.Out n k ↦ λ a e. absurd cc | versions.Main k ↦ λ a e. cc ]) (only_law _ four four_law)
version_laws (suc (suc (suc t))) = never_law

version_law : Law version
version_law = tagged_law version_tag version_as version_laws

final_law : Law final
final_law = via_law _ _ _ (λ a. refl) (λ x a e. made_of put_final x (x.name, (x.version, x.len)) a refl e) (pair_law _ _ four_law (pair_law _ _ version_law file_len_law))

files_law : Law files
files_law = counted_law _ four (only_law _ byte byte_law) four_law

action_laws : (t : ℕ) → Law (action_as t)
action_laws zero = never_law
action_laws (suc zero) = via_law put_call call_part _ (λ a. refl) (elim [ acts.Call n o reads writes ↦ λ a e. made_of put_call (acts.Call n o reads writes) (n, (o, (reads, writes))) a refl e | acts.Use n k ↦ λ a e. absurd cc | acts.Result n ↦ λ a e. absurd cc | acts.Read x ↦ λ a e. absurd cc | acts.Write x ↦ λ a e. absurd cc | acts.Barrier ↦ λ a e. absurd cc | acts.End ↦ λ a e. absurd cc ]) (pair_law _ _ task_law (pair_law _ _ operation_law (pair_law _ _ files_law files_law)))
action_laws (suc (suc zero)) = via_law acts.Result result_part _ (λ a. refl) (elim [ acts.Call n o reads writes ↦ λ a e. absurd cc | acts.Use n k ↦ λ a e. absurd cc | acts.Result n ↦ λ a e. cc | acts.Read x ↦ λ a e. absurd cc | acts.Write x ↦ λ a e. absurd cc | acts.Barrier ↦ λ a e. absurd cc | acts.End ↦ λ a e. absurd cc ]) task_law
action_laws (suc (suc (suc zero))) = via_law acts.Read read_part _ (λ a. refl) (elim [ acts.Call n o reads writes ↦ λ a e. absurd cc | acts.Use n k ↦ λ a e. absurd cc | acts.Result n ↦ λ a e. absurd cc | acts.Read x ↦ λ a e. cc | acts.Write x ↦ λ a e. absurd cc | acts.Barrier ↦ λ a e. absurd cc | acts.End ↦ λ a e. absurd cc ]) four_law
action_laws (suc (suc (suc (suc zero)))) = via_law acts.Write write_part _ (λ a. refl) (elim [ acts.Call n o reads writes ↦ λ a e. absurd cc | acts.Use n k ↦ λ a e. absurd cc | acts.Result n ↦ λ a e. absurd cc | acts.Read x ↦ λ a e. absurd cc | acts.Write x ↦ λ a e. cc | acts.Barrier ↦ λ a e. absurd cc | acts.End ↦ λ a e. absurd cc ]) four_law
action_laws (suc (suc (suc (suc (suc zero))))) = via_law (λ _. acts.Barrier) barrier_part _ (λ a. refl) (elim [ acts.Call n o reads writes ↦ λ a e. absurd cc | acts.Use n k ↦ λ a e. absurd cc | acts.Result n ↦ λ a e. absurd cc | acts.Read x ↦ λ a e. absurd cc | acts.Write x ↦ λ a e. absurd cc | acts.Barrier ↦ λ a e. refl | acts.End ↦ λ a e. absurd cc ]) empty_law
action_laws (suc (suc (suc (suc (suc (suc zero)))))) = via_law (λ _. acts.End) end_part _ (λ a. refl) (elim [ acts.Call n o reads writes ↦ λ a e. absurd cc | acts.Use n k ↦ λ a e. absurd cc | acts.Result n ↦ λ a e. absurd cc | acts.Read x ↦ λ a e. absurd cc | acts.Write x ↦ λ a e. absurd cc | acts.Barrier ↦ λ a e. absurd cc | acts.End ↦ λ a e. refl ]) empty_law
action_laws (suc (suc (suc (suc (suc (suc (suc zero))))))) = via_law put_use use_part _ (λ a. refl) (elim [ acts.Call n o reads writes ↦ λ a e. absurd cc | acts.Use n k ↦ λ a e. made_of put_use (acts.Use n k) (n, k) a refl e | acts.Result n ↦ λ a e. absurd cc | acts.Read x ↦ λ a e. absurd cc | acts.Write x ↦ λ a e. absurd cc | acts.Barrier ↦ λ a e. absurd cc | acts.End ↦ λ a e. absurd cc ]) (pair_law _ _ task_law place_law)
action_laws (suc (suc (suc (suc (suc (suc (suc (suc t)))))))) = never_law

action_law : Law action
action_law = tagged_law action_tag action_as action_laws

gate_fields_law : Law gate_fields
gate_fields_law = via_law _ _ _ (λ a. refl) (λ x a e. made_of put_gate x (x.names, (x.finals, (x.text, (x.vars, x.actions)))) a refl e)
    (pair_law _ _ (counted_law _ name (only_law _ four four_law) name_law) (pair_law _ _ (counted_law _ final (only_law _ four four_law) final_law)
    (pair_law _ _ (only_law _ bytes bytes_law) (pair_law _ _ (counted_law _ var (only_law _ four four_law) var_law) (counted_law _ action (only_law _ four four_law) action_law)))))

gate_law : Law gate
gate_law = only_law _ _ gate_fields_law

texts_law : Law texts
texts_law = via_law _ _ _ (λ a. refl) (λ x a e. made_of put_texts x (tt, (x.idl_name, (x.idl, (x.program_name, x.program)))) a refl e)
    (pair_law _ _ (exactly_law 1) (pair_law _ _ name_law (pair_law _ _ source_law (pair_law _ _ name_law source_law))))

entry_laws : (t : ℕ) → Law (entry_as t)
entry_laws zero = never_law
entry_laws (suc zero) = via_law made.Header header_part _ (λ a. refl) (elim [ made.Header t ↦ λ a e. cc | made.Done n o os ↦ λ a e. absurd cc | made.Gate g ↦ λ a e. absurd cc | made.Closed ↦ λ a e. absurd cc ]) texts_law
entry_laws (suc (suc zero)) = via_law put_done done_part _ (λ a. refl) (elim [ made.Header t ↦ λ a e. absurd cc | made.Done n o os ↦ λ a e. made_of put_done (made.Done n o os) (n, (o, os)) a refl e | made.Gate g ↦ λ a e. absurd cc | made.Closed ↦ λ a e. absurd cc ]) (pair_law _ _ task_law (pair_law _ _ operation_law outs_law))
entry_laws (suc (suc (suc zero))) = via_law made.Gate gate_part _ (λ a. refl) (elim [ made.Header t ↦ λ a e. absurd cc | made.Done n o os ↦ λ a e. absurd cc | made.Gate g ↦ λ a e. cc | made.Closed ↦ λ a e. absurd cc ]) gate_law
entry_laws (suc (suc (suc (suc zero)))) = via_law (λ _. made.Closed) closed_part _ (λ a. refl) (elim [ made.Header t ↦ λ a e. absurd cc | made.Done n o os ↦ λ a e. absurd cc | made.Gate g ↦ λ a e. absurd cc | made.Closed ↦ λ a e. refl ]) empty_law
entry_laws (suc (suc (suc (suc (suc t))))) = never_law

pub entry_law : Law entry
unfolding entry
entry_law = tagged_law entry_tag entry_as entry_laws
