-- How long an entry's spelling is at most.
use Rattle.std.proofs.Common.{◌≡◌, ℕ, zero, suc, ◌≤◌, ◌^◌, true, ◌&&◌, leb, ltb, List, length, arith, lit≤, ap, ◌+◌, ◌*◌}
use Rattle.std.proofs.lemmas.Bool.{leb-true, ltb-true}
use Rattle.std.specs.List.{list_all}
use Rattle.gs_types.specs.NameTest.{is_name, name_takes}
use Rattle.gs_types.specs.Bytes.{is_text_byte}
use Rattle.gs_idl.specs.Word.{is_word_byte}
use Rattle.gs_fields.specs.Format.{Format, byte, four, bytes, counted}
use Rattle.gs_fields.proofs.Bounds.{IsUpTo, byte_up, four_up, eight_up, eight_signed_up, bytes_up, empty_up, exactly_up, never_up, pair_up, only_up, via_up, tagged_up, counted_up, wider}
use Rattle.gs_entries.specs.Notes.{up_to, name, source, task, place, operation, file_len, is_string, is_identifier, begins_with_letter, note_as, note, note_tag, put_out, out_parts, out, outs, put_var, var_parts, var, version_as, version_tag, version, put_final, final_parts, final}
use Rattle.gs_entries.specs.Actions.{files, barrier_part, end_part, action_as, action_tag, action}
use Rattle.gs_entries.specs.Gate.{put_gate, gate_parts, gate_fields, gate}
use Rattle.gs_entries.specs.Entries.{put_texts, text_parts, texts, closed_part, entry_as, entry_tag, entry, Spells}
use Rattle.gs_entries.specs.declared.entry.Entry.{Entry}
use Rattle.gs_entries.specs.declared.entry.Entry.TheVariants as made
use Rattle.gs_types.specs.declared.action.Action.TheVariants as acts
use Rattle.gs_types.specs.declared.memory.NoMemory.{NoMemory}
use Rattle.std.specs.declared.alloc.Global.{Global}
use Rattle.std.specs.Prelude.{Vec, Result, Ok, Err, IfOk}
use Rattle.gs_entries.proofs.Loop.{both}

at_most : (limit : ℕ) (f : Format ℕ) (m : ℕ) → (up_to limit f).fits m ≡ true → m ≤ limit
at_most limit f m e = leb-true _ _ (both (f.fits m) (leb m limit) e).1

name_up : IsUpTo name 204
name_up = bytes_up is_name 200 (λ b e. (name_takes b e).short)

source_up : IsUpTo source 65540
source_up = bytes_up (λ b. leb (length b) 65536) 65536 (λ b e. leb-true _ _ e)

string_short : (b : List ℕ) → is_string b ≡ true → length b ≤ 1024
string_short b e = leb-true _ _ (both (leb (length b) 1024) (list_all is_text_byte b) e).0

word_short : (w : List ℕ) → is_identifier w ≡ true → length w ≤ 64
word_short w e = leb-true _ _ (both (leb (length w) 64) (begins_with_letter w && list_all is_word_byte w) e).0

note_ups : (t : ℕ) → IsUpTo (note_as t) 1028
note_ups zero = never_up 1028
note_ups (suc zero) = wider _ 8 1028 (lit≤ tt) (via_up _ _ _ 8 (only_up _ _ 8 eight_up))
note_ups (suc (suc zero)) = wider _ 8 1028 (lit≤ tt) (via_up _ _ _ 8 eight_signed_up)
note_ups (suc (suc (suc zero))) = via_up _ _ _ 1028 (bytes_up is_string 1024 string_short)
note_ups (suc (suc (suc (suc t)))) = never_up 1028

note_up : IsUpTo note 1029
note_up = tagged_up note_tag note_as 1028 note_ups

task_up : IsUpTo task 4
task_up = only_up _ four 4 four_up

place_up : IsUpTo place 1
place_up = only_up _ byte 1 byte_up

operation_up : IsUpTo operation 1
operation_up = only_up _ byte 1 byte_up

out_up : IsUpTo out 1030
out_up = via_up put_out out_parts _ 1030 (pair_up place note 1 1029 place_up note_up)

byte_few : (m : ℕ) → ltb m 256 ≡ true → m ≤ 255
byte_few m e = let lt = ltb-true m 256 e in omega arith

outs_up : IsUpTo outs 262651
outs_up = only_up _ _ 262651 (counted_up byte out 255 1 1030 byte_few byte_up out_up)

var_up : IsUpTo var 1097
var_up = via_up put_var var_parts _ 1097 (pair_up _ _ 68 1029 (bytes_up is_identifier 64 word_short) (only_up _ note 1029 note_up))

version_ups : (t : ℕ) → IsUpTo (version_as t) 5
version_ups zero = never_up 5
version_ups (suc zero) = via_up _ _ _ 5 (pair_up task place 4 1 task_up place_up)
version_ups (suc (suc zero)) = wider _ 4 5 (lit≤ tt) (via_up _ _ _ 4 (only_up _ four 4 four_up))
version_ups (suc (suc (suc t))) = never_up 5

version_up : IsUpTo version 6
version_up = tagged_up version_tag version_as 5 version_ups

final_up : IsUpTo final 18
final_up = via_up put_final final_parts _ 18 (pair_up four _ 4 14 four_up (pair_up version file_len 6 8 version_up (only_up _ _ 8 eight_up)))

files_up : IsUpTo files 65
files_up = counted_up _ four 16 1 4 (at_most 16 byte) (only_up _ byte 1 byte_up) four_up

action_ups : (t : ℕ) → IsUpTo (action_as t) 135
action_ups zero = never_up 135
action_ups (suc zero) = via_up _ _ _ 135 (pair_up task _ 4 131 task_up (pair_up operation _ 1 130 operation_up (pair_up files files 65 65 files_up files_up)))
action_ups (suc (suc zero)) = wider _ 4 135 (lit≤ tt) (via_up _ _ _ 4 task_up)
action_ups (suc (suc (suc zero))) = wider _ 4 135 (lit≤ tt) (via_up _ _ _ 4 four_up)
action_ups (suc (suc (suc (suc zero)))) = wider _ 4 135 (lit≤ tt) (via_up _ _ _ 4 four_up)
action_ups (suc (suc (suc (suc (suc zero))))) = wider _ 0 135 (lit≤ tt) (via_up (λ _. acts.Barrier) barrier_part _ 0 empty_up)
action_ups (suc (suc (suc (suc (suc (suc zero)))))) = wider _ 0 135 (lit≤ tt) (via_up (λ _. acts.End) end_part _ 0 empty_up)
action_ups (suc (suc (suc (suc (suc (suc (suc zero))))))) = wider _ 5 135 (lit≤ tt) (via_up _ _ _ 5 (pair_up task place 4 1 task_up place_up))
action_ups (suc (suc (suc (suc (suc (suc (suc (suc t)))))))) = never_up 135

action_up : IsUpTo action 136
action_up = tagged_up action_tag action_as 135 action_ups

list_up : {A : Type 0} (limit : ℕ) (f : Format A) (n : ℕ) → IsUpTo f n → IsUpTo (counted (up_to limit four) f) (4 + limit * n)
list_up limit f n uf = counted_up (up_to limit four) f limit 4 n (at_most limit four) (only_up _ four 4 four_up) uf

gate_up : IsUpTo gate 28157788
gate_up = only_up _ gate_fields 28157788 (via_up put_gate gate_parts _ 28157788
    (pair_up _ _ 4080004 24077784 (list_up 20000 name 204 name_up)
    (pair_up _ _ 360004 23717780 (list_up 20000 final 18 final_up)
    (pair_up _ _ 16777220 6940560 (bytes_up (λ b. leb (length b) 16777216) 16777216 (λ b e. leb-true _ _ e))
    (pair_up _ _ 140420 6800140 (list_up 128 var 1097 var_up) (list_up 50001 action 136 action_up))))))

texts_up : IsUpTo texts 131489
texts_up = via_up put_texts text_parts _ 131489 (pair_up _ _ 1 131488 (exactly_up 1) (pair_up _ _ 204 131284 name_up (pair_up _ _ 65540 65744 source_up (pair_up _ _ 204 65540 name_up source_up))))

entry_ups : (t : ℕ) → IsUpTo (entry_as t) 28157788
entry_ups zero = never_up 28157788
entry_ups (suc zero) = wider _ 131489 28157788 (lit≤ tt) (via_up _ _ _ 131489 texts_up)
entry_ups (suc (suc zero)) = wider _ 262656 28157788 (lit≤ tt) (via_up _ _ _ 262656 (pair_up task _ 4 262652 task_up (pair_up operation outs 1 262651 operation_up outs_up)))
entry_ups (suc (suc (suc zero))) = via_up _ _ _ 28157788 gate_up
entry_ups (suc (suc (suc (suc zero)))) = wider _ 0 28157788 (lit≤ tt) (via_up (λ _. made.Closed) closed_part _ 0 empty_up)
entry_ups (suc (suc (suc (suc (suc t))))) = never_up 28157788

entry_up : IsUpTo entry 28157789
unfolding entry
entry_up = tagged_up entry_tag entry_as 28157788 entry_ups

-- an entry's spelling has at most 2^25 bytes
pub spelled_short : (e : Entry) (bytes : List ℕ) → Spells e bytes → length bytes ≤ 2 ^ 25
spelled_short e bytes s = let short = entry_up.short e s.fits in omega (arith, ap length s.is)

pub short_so : (e : Entry) (r : Result (Vec ℕ Global) NoMemory) → IfOk r (λ made. Spells e made.items) → IfOk r (λ made. length made.items ≤ 2 ^ 25)
short_so e (Ok bytes) s = spelled_short e bytes.items s
short_so e (Err n) s = tt
