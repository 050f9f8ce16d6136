-- What the reader's functions promise.
use Rattle.std.specs.Prelude.{◌≡◌, ◌≢◌, ℕ, ◌+◌, List, map, drop, slice_get, Option, Some, None, Result, Ok, Err}
use denote.Ref.{Bor}
use Rattle.gs_idl.specs.Interface.{Interface}
use Rattle.gs_idl.specs.Lexicon.{IdlSign, word, bad, finish, IdlMark}
use Rattle.gs_idl.specs.Grammar.{refused, IsFault}
use Rattle.gs_idl.specs.Machine.{State, run, Fed, Text, Fault}
use Rattle.gs_idl.specs.Token.{sign_of}
use Rattle.gs_idl.specs.declared.token.IdlSign as s
use Rattle.gs_idl.specs.declared.token.IdlSign.TheVariants as v
use Rattle.gs_idl.specs.declared.token.Token.{Token}
use Rattle.gs_idl.specs.declared.token.IdlKind.TheVariants.{Unexpected}
use Rattle.gs_idl.specs.declared.reader.IdlErr.{IdlErr}
use Rattle.gs_idl.specs.declared.reader.IdlErr.TheVariants as e
use Rattle.gs_idl.specs.declared.passing.Stop.{Stop}
use Rattle.gs_idl.specs.declared.passing.Stop.TheVariants as r

abbrev pub signs : List Token → List IdlSign
signs ts = map (λ t. sign_of t.sign) ts

abbrev pub sign_or_bad : Option IdlSign → IdlSign
sign_or_bad None = bad Unexpected
sign_or_bad (Some g) = g

-- the sign at a place, and a bad one behind the last
abbrev pub sign_at : List IdlSign → ℕ → IdlSign
sign_at gs n = sign_or_bad (slice_get gs n)

-- another sign than this stands here, and is refused
abbrev pub IsNotPassed : List IdlSign → ℕ → ℕ → IdlSign → Stop → Type 0
IsNotPassed gs n m wanted (r.Fault kind) = (sign_at gs n ≢ wanted) × (m ≡ n)
    × (kind ≡ refused (sign_at gs n))
IsNotPassed gs n m wanted r.Memory = ⊥

-- this sign stands here and is passed, or another stands here
abbrev pub IsPassed : {T : Type 0} → List IdlSign → ℕ → ℕ → IdlSign → Result T Stop → Type 0
IsPassed gs n m wanted (Ok _) = (sign_at gs n ≡ wanted) × (m ≡ n + 1)
IsPassed gs n m wanted (Err stop) = IsNotPassed gs n m wanted stop

-- the end stands here, or another sign, which is refused
abbrev pub IsLast : {T : Type 0} → List IdlSign → ℕ → Result T Stop → Type 0
IsLast gs n (Ok _) = sign_at gs n ≡ finish
IsLast gs n (Err stop) = IsNotPassed gs n n finish stop

abbrev pub IsNoWord : IdlSign → Type 0
IsNoWord (word w) = ⊥
IsNoWord _ = Unit {0}

-- no word stands here, and what stands here is refused
abbrev pub IsNotNamed : List IdlSign → ℕ → Stop → Type 0
IsNotNamed gs n (r.Fault kind) = IsNoWord (sign_at gs n) × (kind ≡ refused (sign_at gs n))
IsNotNamed gs n r.Memory = ⊥

-- this word stands here, or none does
abbrev pub IsNamed : List IdlSign → ℕ → Result (Bor (List ℕ)) Stop → Type 0
IsNamed gs n (Ok w) = sign_at gs n ≡ word w.now
IsNamed gs n (Err stop) = IsNotNamed gs n stop

-- reading stops at a place
abbrev pub Halts : List IdlSign → ℕ → State → ℕ → Stop → Type 0
Halts gs n s m (r.Fault kind) = run n s (drop n gs) ≡ Fault m kind
Halts gs n s m r.Memory = Unit {0}

-- reading goes on from a state and a place to others, or stops
abbrev pub Moves : {T : Type 0} → List IdlSign → ℕ → State → ℕ → (T → State) → Result T Stop
    → Type 0
Moves gs n s m t (Ok v) = run n s (drop n gs) ≡ run m (t v) (drop m gs)
Moves gs n s m t (Err stop) = Halts gs n s m stop

-- reading ends with this interface, or stops
abbrev pub Ends : {T : Type 0} → List IdlSign → ℕ → State → ℕ → Interface → Result T Stop → Type 0
Ends gs n s m i (Ok _) = run n s (drop n gs) ≡ Text i
Ends gs n s m i (Err stop) = Halts gs n s m stop

-- this is no sign that stands for what isn't there
abbrev pub IsStanding : s.IdlSign → Type 0
IsStanding (v.Bad kind) = ⊥
IsStanding _ = Unit {0}

-- all is read, and says what it says, or goes wrong at a place
abbrev pub Reads : Fed → ℕ → Result Interface Stop → Type 0
Reads fed m (Ok i) = fed ≡ Text i
Reads fed m (Err (r.Fault kind)) = fed ≡ Fault m kind
Reads fed m (Err r.Memory) = Unit {0}

abbrev pub line_or_none : Option IdlMark → ℕ
line_or_none None = 0
line_or_none (Some m) = m.line

abbrev pub line_at : List IdlMark → ℕ → ℕ
line_at ms n = line_or_none (slice_get ms n)

-- the text says nothing, and this is its first fault; or memory was wanting
abbrev pub Refuses : List ℕ → IdlErr → Type 0
Refuses bytes (e.At line kind) = IsFault bytes line kind
Refuses bytes e.NoMemory = Unit {0}
