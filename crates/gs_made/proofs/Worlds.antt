-- What the tasks of the made program leave.
use Rattle.std.proofs.Common.{◌≡◌, ℕ, pos, ◌<◌, ◌≤◌, Bool, true, false, List, [], ◌∷◌, ◌++◌, length, Some, None, refl, arith}
use Rattle.std.specs.Prelude.{nat_le}
use Rattle.std.specs.Str.{bytes_eq}
use Rattle.std.specs.Fmt.{signed_decimal}
use Rattle.std.proofs.lemmas.Bool.{le-leb}
use Rattle.sha2.specs.Sha256.{sha256}
use Rattle.sha2.proofs.Facts256.{length-sha256}
use Rattle.gs_types.specs.declared.limits.TheConstants.{FILE_LIMIT}
use Rattle.gs_types.specs.declared.value.Value.{Value}
use Rattle.gs_types.specs.declared.value.Value.TheVariants as value
use Rattle.gs_idl.specs.Interface.{params_at}
use Rattle.gs_talk.specs.declared.question.CallArg.{CallArg}
use Rattle.gs_talk.specs.Seq.{Known, Files, with_file, first_refused, task_of, files_by}
use Rattle.gs_report.specs.Generator.{self_gives}
use Rattle.gs_made.specs.Texts.{self_interface, file_named}
use Rattle.gs_made.specs.Runs.{IsFile, HoldAll}
use Rattle.gs_made.proofs.Calls.{mark_args, hash_args}

-- all files are there still where one was left
holds_with : (files : Files) (name bytes : List ℕ) → HoldAll files → length bytes ≤ FILE_LIMIT → HoldAll (with_file name (Known bytes) files)
holds_with files name bytes h short k lt = by (bytes_eq name (file_named k)) refl
  where
    by : (b : Bool) → bytes_eq name (file_named k) ≡ b → IsFile (with_file name (Known bytes) files) (file_named k)
    by true e = record { bytes = bytes; holds = rw e refl; short = short }
    by false e = record { bytes = (h k lt).bytes; holds = rw e (h k lt).holds; short = (h k lt).short }

digest_short : (s : List ℕ) → length (sha256 s) ≤ FILE_LIMIT
digest_short s = omega (arith, length-sha256 s)

digest_fits : (s : List ℕ) → nat_le (length (sha256 s)) FILE_LIMIT ≡ true
digest_fits s = le-leb _ _ (digest_short s)

-- a call is answered, its task is not lost, and all files are there after it
pub record Served (files : Files) (op : ℕ) (args : List CallArg) : Type 0 where
  pub taken : first_refused files (params_at self_interface.ops op) args ≡ None
  pub outs : List Value
  pub gave : (task_of self_gives self_interface.ops files op args).outs ≡ Some outs
  pub holds : HoldAll (files_by (Some outs) (params_at self_interface.ops op) args files)

mark_taken : (files : Files) (a bytes : List ℕ) (n : ℕ) → files a ≡ Some (Known bytes) → nat_le (length bytes) FILE_LIMIT ≡ true
    → first_refused files (params_at self_interface.ops 1) (mark_args n a) ≡ None
mark_taken files a bytes n e l = rw (e, l) refl

mark_gave : (files : Files) (a bytes : List ℕ) (n : ℕ) → files a ≡ Some (Known bytes)
    → (task_of self_gives self_interface.ops files 1 (mark_args n a)).outs ≡ Some (value.File (sha256 (bytes ++ signed_decimal (pos n))) ∷ [])
mark_gave files a bytes n e = rw (e, digest_fits (bytes ++ signed_decimal (pos n))) refl

pub mark_served : (files : Files) (j n : ℕ) → j < 16 → HoldAll files → Served files 1 (mark_args n (file_named j))
mark_served files j n lt h =
    let a = h j lt in
    record {
      taken = mark_taken files (file_named j) a.bytes n a.holds (le-leb _ _ a.short);
      outs = value.File (sha256 (a.bytes ++ signed_decimal (pos n))) ∷ [];
      gave = mark_gave files (file_named j) a.bytes n a.holds;
      holds = holds_with files (file_named j) (sha256 (a.bytes ++ signed_decimal (pos n))) h (digest_short _);
    }

hash_taken : (files : Files) (a b c first second : List ℕ) → files a ≡ Some (Known first) → nat_le (length first) FILE_LIMIT ≡ true
    → files b ≡ Some (Known second) → nat_le (length second) FILE_LIMIT ≡ true
    → first_refused files (params_at self_interface.ops 0) (hash_args a b c) ≡ None
hash_taken files a b c first second e l f m = rw (e, l, f, m) refl

hash_gave : (files : Files) (a b c first second : List ℕ) → files a ≡ Some (Known first) → files b ≡ Some (Known second)
    → (task_of self_gives self_interface.ops files 0 (hash_args a b c)).outs ≡ Some (value.File (sha256 (first ++ second)) ∷ [])
hash_gave files a b c first second e f = rw (e, f, digest_fits (first ++ second)) refl

pub hash_served : (files : Files) (i j k : ℕ) → i < 16 → j < 16 → k < 16 → HoldAll files
    → Served files 0 (hash_args (file_named i) (file_named j) (file_named k))
hash_served files i j k lt_i lt_j lt_k h =
    let a = h i lt_i in
    let b = h j lt_j in
    record {
      taken = hash_taken files (file_named i) (file_named j) (file_named k) a.bytes b.bytes a.holds (le-leb _ _ a.short) b.holds (le-leb _ _ b.short);
      outs = value.File (sha256 (a.bytes ++ b.bytes)) ∷ [];
      gave = hash_gave files (file_named i) (file_named j) (file_named k) a.bytes b.bytes a.holds b.holds;
      holds = holds_with files (file_named k) (sha256 (a.bytes ++ b.bytes)) h (digest_short _);
    }
