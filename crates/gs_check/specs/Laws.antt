-- Laws of the checks, and of the words that interface texts and main programs share.
use Rattle.std.specs.Prelude.{◌≡◌, ℕ, List, None, is_some}
use Rattle.gs_idl.specs.Interface.{Signature}
use Rattle.gs_idl.specs.Word as idl
use Rattle.gs_tree.specs.Program.{Program}
use Rattle.gs_tree.specs.Words.{keyword_of}
use Rattle.gs_tree.specs.Bytes as tree
use Rattle.gs_check.specs.Faults.{fault_of}
use Rattle.gs_check.specs.Passes.{ProgramPasses}

-- A program in which no check finds a fault passes, node by node.
abbrev pub PassesNodeByNode : Type 0
PassesNodeByNode = (ops : List Signature) (p : Program) → fault_of ops p ≡ None
    → ProgramPasses ops p

-- What no operation may be called is what a main program has for itself.
abbrev pub SameKeywords : Type 0
SameKeywords = (w : List ℕ) → idl.is_keyword w ≡ is_some (keyword_of w)

-- Names begin and go on with the same bytes in both texts.
pub record SameLetters : Type 0 where
  pub letters : (b : ℕ) → idl.is_letter b ≡ tree.is_letter b
  pub word_bytes : (b : ℕ) → idl.is_word_byte b ≡ tree.is_name_byte b
