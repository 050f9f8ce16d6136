-- Values, assignments and arguments as they are printed.
use Rattle.std.proofs.Common.{◌≡◌, ℕ, ℤ, Bool, true, false, List, [], ◌∷◌, ◌++◌, slice_index, Option, Some, None, sym, subst, append_assoc}
use Rattle.std.specs.Fmt.{signed_decimal}
use Rattle.gs_tree.specs.declared.tree.Op.{Op}
use Rattle.gs_tree.specs.declared.tree.Op.TheVariants.{Or, And, Eq, Ne, Lt, Le, Gt, Ge, Add, Sub, Mul, Div, Rem}
use Rattle.gs_tree.specs.declared.sign.Keyword.TheVariants.{Atoi, Strcmp}
use Rattle.gs_tree.specs.Program.{Term, num, lit, var, atoi, strcmp, neg, not_, two, Setting, Formatted, Passed}
use Rattle.gs_tree.specs.Printed.{quoted, op_text, term_text, more_text, address_text, passed_text, more_passed, passed_texts, setting_text, maybe_setting, maybe_term, format_text}
use Rattle.gs_tree.specs.Sign.{Sign, number, semicolon, close_paren}
use Rattle.gs_spelling.specs.Spelled.{IsNumber, TermSpelled, TermsSpelled, SettingSpelled, MaybeSetting, MaybeTerm, PassedsSpelled, PrintSpelled}
use Rattle.gs_spelling.specs.Signs.{term_signs, more_signs, address_signs, passed_signs, more_passed_signs, passeds_signs, setting_signs, maybe_setting_signs, maybe_term_signs, format_signs}
use Rattle.gs_spelling.proofs.Cuts.{Cuts}
use Rattle.gs_spelling.proofs.Numbers.{number_cuts, number_first}
use Rattle.gs_spelling.proofs.Strings.{string_cuts}
use Rattle.gs_spelling.proofs.Words.{Stops, blank_stops, open_stops, close_stops, comma_stops, stops_digit, word_first, name_cuts, keyword_cuts}
use Rattle.gs_spelling.proofs.Symbols.{open_paren_cuts, close_paren_cuts, semicolon_cuts, comma_cuts, equal_cuts, op_cuts, begins_value, letter_begins, digit_begins, quote_begins, paren_begins, call_begins, minus_cuts, bang_cuts, ampersand_cuts}

-- a printed number begins with a digit
signed_begins : (v : ℤ) (rest : List ℕ) → IsNumber v → begins_value (slice_index (signed_decimal v ++ rest) 0) ≡ true
signed_begins v rest is = subst (λ (z : ℤ). begins_value (slice_index (signed_decimal z ++ rest) 0) ≡ true) (sym is.is) (digit_begins _ (number_first is.amount rest is.within))

-- a value begins with a letter, a digit, a quote or `(`
term_begins : (t : Term) (rest : List ℕ) → TermSpelled t → begins_value (slice_index (term_text t ++ rest) 0) ≡ true
term_begins (num line v) rest h = signed_begins v rest h
term_begins (lit line s) rest h = quote_begins
term_begins (var n) rest h = letter_begins _ (word_first n.text rest h.first)
term_begins (atoi a) rest h = call_begins.0
term_begins (strcmp a b) rest h = call_begins.1
term_begins (neg a) rest h = paren_begins
term_begins (not_ a) rest h = paren_begins
term_begins (two op a b) rest h = paren_begins

-- a number, before a byte that ends a word
signed_cuts : (v : ℤ) (rest : List ℕ) (signs : List Sign) → IsNumber v → Stops rest → Cuts rest signs → Cuts (signed_decimal v ++ rest) (number v ∷ signs)
signed_cuts v rest signs is s next =
    subst (λ (z : ℤ). Cuts (signed_decimal z ++ rest) (number z ∷ signs)) (sym is.is) (number_cuts is.amount rest signs is.within (stops_digit (slice_index rest 0) s) next)

-- an operator's text begins with a blank
op_stops : (op : Op) (rest : List ℕ) → Stops (op_text op ++ rest)
op_stops Or rest = blank_stops
op_stops And rest = blank_stops
op_stops Eq rest = blank_stops
op_stops Ne rest = blank_stops
op_stops Lt rest = blank_stops
op_stops Le rest = blank_stops
op_stops Gt rest = blank_stops
op_stops Ge rest = blank_stops
op_stops Add rest = blank_stops
op_stops Sub rest = blank_stops
op_stops Mul rest = blank_stops
op_stops Div rest = blank_stops
op_stops Rem rest = blank_stops

-- a value, before a byte that ends a word
pub term_cuts : (t : Term) (rest : List ℕ) (signs : List Sign) → TermSpelled t → Stops rest → Cuts rest signs → Cuts (term_text t ++ rest) (term_signs t signs)
term_cuts (num line v) rest signs h s next = signed_cuts v rest signs h s next
term_cuts (lit line t) rest signs h s next = string_cuts t rest signs h next
term_cuts (var n) rest signs h s next = name_cuts n.text rest signs h s next
term_cuts (atoi a) rest signs h s next =
    let value = term_cuts a (41 ∷ rest) (close_paren ∷ signs) h close_stops (close_paren_cuts rest signs next) in
    simp append_assoc (keyword_cuts Atoi _ _ open_stops (open_paren_cuts _ _ value))
term_cuts (strcmp a b) rest signs h s next =
    let second = term_cuts b (41 ∷ rest) (close_paren ∷ signs) h.1 close_stops (close_paren_cuts rest signs next) in
    let first = term_cuts a _ _ h.0 comma_stops (comma_cuts _ _ second) in
    simp append_assoc (keyword_cuts Strcmp _ _ open_stops (open_paren_cuts _ _ first))
term_cuts (neg a) rest signs h s next =
    let value = term_cuts a (41 ∷ rest) (close_paren ∷ signs) h close_stops (close_paren_cuts rest signs next) in
    simp append_assoc (open_paren_cuts _ _ (minus_cuts _ _ (term_begins a (41 ∷ rest) h) value))
term_cuts (not_ a) rest signs h s next =
    let value = term_cuts a (41 ∷ rest) (close_paren ∷ signs) h close_stops (close_paren_cuts rest signs next) in
    simp append_assoc (open_paren_cuts _ _ (bang_cuts _ _ (term_begins a (41 ∷ rest) h) value))
term_cuts (two op a b) rest signs h s next =
    let second = term_cuts b (41 ∷ rest) (close_paren ∷ signs) h.1 close_stops (close_paren_cuts rest signs next) in
    let first = term_cuts a _ _ h.0 (op_stops op _) (op_cuts op _ _ second) in
    simp append_assoc (open_paren_cuts _ _ first)

-- an assignment
pub setting_cuts : (a : Setting) (rest : List ℕ) (signs : List Sign) → SettingSpelled a → Stops rest → Cuts rest signs → Cuts (setting_text a ++ rest) (setting_signs a signs)
setting_cuts a rest signs h s next = simp append_assoc (name_cuts a.to.text _ _ h.0 blank_stops (equal_cuts _ _ (term_cuts a.value rest signs h.1 s next)))

-- an assignment that may be absent
pub maybe_setting_cuts : (a : Option Setting) (rest : List ℕ) (signs : List Sign) → MaybeSetting a → Stops rest → Cuts rest signs →
    Cuts (maybe_setting a ++ rest) (maybe_setting_signs a signs)
maybe_setting_cuts None rest signs h s next = next
maybe_setting_cuts (Some a) rest signs h s next = setting_cuts a rest signs h s next

-- a value that may be absent
pub maybe_term_cuts : (t : Option Term) (rest : List ℕ) (signs : List Sign) → MaybeTerm t → Stops rest → Cuts rest signs → Cuts (maybe_term t ++ rest) (maybe_term_signs t signs)
maybe_term_cuts None rest signs h s next = next
maybe_term_cuts (Some t) rest signs h s next = term_cuts t rest signs h s next

-- further values begin with a comma
more_stops : (ts : List Term) (rest : List ℕ) → Stops rest → Stops (more_text ts ++ rest)
more_stops [] rest s = s
more_stops (t ∷ ts) rest s = comma_stops

-- further values, each after a comma
more_cuts : (ts : List Term) (rest : List ℕ) (signs : List Sign) → TermsSpelled ts → Stops rest → Cuts rest signs → Cuts (more_text ts ++ rest) (more_signs ts signs)
more_cuts [] rest signs h s next = next
more_cuts (t ∷ ts) rest signs h s next =
    simp append_assoc (comma_cuts _ _ (term_cuts t (more_text ts ++ rest) (more_signs ts signs) h.0 (more_stops ts rest s) (more_cuts ts rest signs h.1 s next)))

-- a format and its arguments
pub format_cuts : (format : Formatted) (args : List Term) (rest : List ℕ) (signs : List Sign) → PrintSpelled format args → Cuts rest signs →
    Cuts (format_text format args ++ rest) (format_signs format args signs)
format_cuts format args rest signs h next =
    let last = close_paren_cuts (59 ∷ rest) (semicolon ∷ signs) (semicolon_cuts rest signs next) in
    let more = more_cuts args (41 ∷ 59 ∷ rest) (close_paren ∷ semicolon ∷ signs) h.1 close_stops last in
    let whole = string_cuts format.text (more_text args ++ (41 ∷ 59 ∷ rest)) (more_signs args (close_paren ∷ semicolon ∷ signs)) h.0 more in
    subst (λ (bytes : List ℕ). Cuts bytes (format_signs format args signs))
    (let e : quoted format.text ++ (more_text args ++ (41 ∷ 59 ∷ rest)) ≡ format_text format args ++ rest = simp append_assoc in e) whole

-- the address of a variable, or its value
address_cuts : (by_address : Bool) (rest : List ℕ) (signs : List Sign) → begins_value (slice_index rest 0) ≡ true → Cuts rest signs →
    Cuts (address_text by_address ++ rest) (address_signs by_address signs)
address_cuts true rest signs h next = ampersand_cuts rest signs h next
address_cuts false rest signs h next = next

-- an argument of a call
passed_cuts : (p : Passed) (rest : List ℕ) (signs : List Sign) → TermSpelled p.value → Stops rest → Cuts rest signs → Cuts (passed_text p ++ rest) (passed_signs p signs)
passed_cuts p rest signs h s next =
    simp append_assoc (address_cuts p.by_address (term_text p.value ++ rest) (term_signs p.value signs) (term_begins p.value rest h) (term_cuts p.value rest signs h s next))

-- further arguments begin with a comma
passed_stops : (ps : List Passed) (rest : List ℕ) → Stops rest → Stops (more_passed ps ++ rest)
passed_stops [] rest s = s
passed_stops (p ∷ ps) rest s = comma_stops

-- further arguments, each after a comma
more_passed_cuts : (ps : List Passed) (rest : List ℕ) (signs : List Sign) → PassedsSpelled ps → Stops rest → Cuts rest signs →
    Cuts (more_passed ps ++ rest) (more_passed_signs ps signs)
more_passed_cuts [] rest signs h s next = next
more_passed_cuts (p ∷ ps) rest signs h s next =
    let others = more_passed_cuts ps rest signs h.1 s next in
    let all = comma_cuts _ _ (passed_cuts p (more_passed ps ++ rest) (more_passed_signs ps signs) h.0 (passed_stops ps rest s) others) in
    subst (λ (bytes : List ℕ). Cuts bytes (more_passed_signs (p ∷ ps) signs))
    (let e : 44 ∷ 32 ∷ (passed_text p ++ (more_passed ps ++ rest)) ≡ more_passed (p ∷ ps) ++ rest = simp append_assoc in e) all

-- the arguments of a call
pub passeds_cuts : (ps : List Passed) (rest : List ℕ) (signs : List Sign) → PassedsSpelled ps → Stops rest → Cuts rest signs →
    Cuts (passed_texts ps ++ rest) (passeds_signs ps signs)
passeds_cuts [] rest signs h s next = next
passeds_cuts (p ∷ ps) rest signs h s next =
    let others = more_passed_cuts ps rest signs h.1 s next in
    let all = passed_cuts p (more_passed ps ++ rest) (more_passed_signs ps signs) h.0 (passed_stops ps rest s) others in
    subst (λ (bytes : List ℕ). Cuts bytes (passeds_signs (p ∷ ps) signs))
    (let e : passed_text p ++ (more_passed ps ++ rest) ≡ passed_texts (p ∷ ps) ++ rest = simp append_assoc in e) all
