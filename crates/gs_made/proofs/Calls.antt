-- What a call of the made program asks, and how it goes on.
use Rattle.std.proofs.Common.{◌≡◌, ℕ, suc, pos, ◌+◌, ◌*◌, ◌<◌, ◌≤◌, Bool, true, false, List, [], ◌∷◌, ◌++◌, length, length-append, None, refl, lt-ltb, arith}
use Rattle.std.specs.Prelude.{nat_lt, nat_le, if◌then◌else◌}
use Rattle.std.specs.List.{list_any}
use Rattle.std.specs.Str.{bytes_eq}
use Rattle.std.proofs.lemmas.Bool.{le-ltb, lt-leb}
use Rattle.gs_idl.specs.Interface.{Param, params_at}
use Rattle.gs_tree.specs.Program.{Code, Codes}
use Rattle.gs_types.specs.NameTest.{is_name}
use Rattle.gs_talk.specs.declared.question.CallArg.{CallArg}
use Rattle.gs_talk.specs.declared.question.CallArg.TheVariants as arg
use Rattle.gs_talk.specs.declared.question.Question.TheVariants.{Call}
use Rattle.gs_talk.specs.declared.question.Answer.{Answer}
use Rattle.gs_talk.specs.Dialogues.{Given, State, Dialogue, Done, Ask, unless}
use Rattle.gs_talk.specs.Terms.{number, text}
use Rattle.gs_talk.specs.Talk.{Handed, by_value, is_own_text, files_in, with_name, with_names, call_fault, noting, went, calling, run}
use Rattle.gs_made.specs.Texts.{self_interface, mark_call, hash_call, file_drawn}
use Rattle.gs_report.specs.Generator.{behind}
use Rattle.gs_main.specs.Talking.{given_by}
use Rattle.gs_talk.specs.declared.question.Answer.TheVariants.{Went}

-- ---- names

with_name_few : (names : List (List ℕ)) (x : List ℕ) → length (with_name names x) ≤ length names + 1
with_name_few names x = by (list_any (λ y. bytes_eq y x) names)
  where
    by : (b : Bool) → length (if b then names else names ++ x ∷ []) ≤ length names + 1
    by true = omega arith
    by false = omega (arith, length-append names (x ∷ []))

pub with_names_few : (names xs : List (List ℕ)) → length (with_names names xs) ≤ length names + length xs
with_names_few names [] = omega arith
with_names_few names (x ∷ xs) = omega (arith, with_name_few names x, with_names_few (with_name names x) xs)

-- ---- a state between calls

-- the program has no variable, and has called k tasks
abbrev pub state_of : (names : List (List ℕ)) → (k : ℕ) → State
state_of names k = record { vars = []; handles = []; text = []; names = names; tasks = k; actions = k }

-- a file that may be passed at each place
pub record MayPass (t : Given) (name : List ℕ) : Type 0 where
  pub named : is_name name ≡ true
  pub apart : is_own_text t name ≡ false

abbrev pub mark_args : (t : ℕ) (a : List ℕ) → List CallArg
mark_args t a = arg.File a ∷ arg.Int (pos t) ∷ []

abbrev pub hash_args : (a b c : List ℕ) → List CallArg
hash_args a b c = arg.File a ∷ arg.File b ∷ arg.File c ∷ []

-- there is room for one more
pub record HasRoom (names : List (List ℕ)) (k : ℕ) (args : List CallArg) : Type 0 where
  pub tasks : nat_le 10000 k ≡ false
  pub listed : nat_lt 20000 (length (with_names names (files_in args))) ≡ false

room : (names : List (List ℕ)) (k : ℕ) (args : List CallArg) → k < 2000 → length names ≤ 3 * k → length (files_in args) ≤ 3 → HasRoom names k args
room names k args few some more = record {
  tasks = lt-leb 10000 k (omega arith);
  listed = le-ltb 20000 _ (omega (arith, with_names_few names (files_in args)));
}

pub mark_fault : (t : Given) (names : List (List ℕ)) (k n : ℕ) (a : List ℕ) → MayPass t a → HasRoom names k (mark_args n a)
    → call_fault t (state_of names k) (params_at self_interface.ops 1) (mark_args n a) ≡ None
mark_fault t names k n a p r = rw (p.named, p.apart, r.tasks, r.listed) refl

pub hash_fault : (t : Given) (names : List (List ℕ)) (k : ℕ) (a b c : List ℕ) → MayPass t a → MayPass t b → MayPass t c → HasRoom names k (hash_args a b c)
    → call_fault t (state_of names k) (params_at self_interface.ops 0) (hash_args a b c) ≡ None
hash_fault t names k a b c p q u r = rw (p.named, q.named, u.named, u.apart, r.tasks, r.listed) refl

-- ---- a call

-- a call of the program that is made, in a state between calls
pub record Asks (t : Given) (code : Code) (m k : ℕ) (names : List (List ℕ)) (op : ℕ) (args : List CallArg) : Type 0 where
  pub line : ℕ
  pub others : List (List ℕ)
  pub next : Answer → Dialogue
  pub asks : run t code (suc m) (state_of names k) ≡ Ask (Call op line args) (state_of others (k + 1)) next
  pub goes : next Went ≡ Done m (state_of others (k + 1))
  pub few : length others ≤ 3 * (k + 1)

calls_on : (t : Given) (line op m k : ℕ) (ps : List Param) (handed : List Handed) (args : List CallArg) (names : List (List ℕ)) → k < 2000
    → call_fault t (state_of names k) ps args ≡ None
    → unless (call_fault t (state_of names k) ps args) line (state_of names k) (calling line op handed args m (noting (with_names names (files_in args)) (state_of names k)))
    ≡ Ask (Call op line args) (state_of (with_names names (files_in args)) (k + 1)) (λ a. went a line handed m (state_of (with_names names (files_in args)) (k + 1)))
calls_on t line op m k ps handed args names few e =
    let h : nat_lt k 50000 ≡ true = lt-ltb k 50000 (omega arith) in
    rw (e, h) refl

abbrev pub made_texts : (idl_name program_name : List ℕ) (body : Codes) (off : ℕ) → Given
made_texts idl_name program_name body off = given_by idl_name program_name self_interface (record { vars = []; first = []; body = body; off = off })

pub mark_asks : (i p : List ℕ) (body : Codes) (off line n x m k : ℕ) (names : List (List ℕ)) → k < 2000 → length names ≤ 3 * k → MayPass (made_texts i p body off) (file_drawn x)
    → Asks (made_texts i p body off) (mark_call line n x) m k names 1 (mark_args n (file_drawn x))
mark_asks i p body off line n x m k names few some pass =
    let t = made_texts i p body off in
    let args = mark_args n (file_drawn x) in
    let handed : List Handed = by_value (text (file_drawn x)) ∷ by_value (number (pos n)) ∷ [] in
    let none = mark_fault t names k n (file_drawn x) pass (room names k args few some (omega arith)) in
    record {
      line = line;
      others = with_names names (files_in args);
      next = λ a. went a line handed m (state_of (with_names names (files_in args)) (k + 1));
      asks = calls_on t line 1 m k (params_at self_interface.ops 1) handed args names few none;
      goes = refl;
      few = omega (arith, with_names_few names (files_in args));
    }

pub hash_asks : (i p : List ℕ) (body : Codes) (off line x m k : ℕ) (names : List (List ℕ)) → k < 2000 → length names ≤ 3 * k
    → MayPass (made_texts i p body off) (file_drawn x) → MayPass (made_texts i p body off) (file_drawn (behind x)) → MayPass (made_texts i p body off) (file_drawn (behind (behind x)))
    → Asks (made_texts i p body off) (hash_call line x) m k names 0 (hash_args (file_drawn x) (file_drawn (behind x)) (file_drawn (behind (behind x))))
hash_asks i p body off line x m k names few some pass_a pass_b pass_c =
    let t = made_texts i p body off in
    let a = file_drawn x in
    let b = file_drawn (behind x) in
    let c = file_drawn (behind (behind x)) in
    let args = hash_args a b c in
    let handed : List Handed = by_value (text a) ∷ by_value (text b) ∷ by_value (text c) ∷ [] in
    let none = hash_fault t names k a b c pass_a pass_b pass_c (room names k args few some (omega arith)) in
    record {
      line = line;
      others = with_names names (files_in args);
      next = λ a. went a line handed m (state_of (with_names names (files_in args)) (k + 1));
      asks = calls_on t line 0 m k (params_at self_interface.ops 0) handed args names few none;
      goes = refl;
      few = omega (arith, with_names_few names (files_in args));
    }
