-- What each part of a text keeps within the limits, and spelled as its signs are.
use Rattle.std.proofs.Common.{◌≡◌, ◌<◌, ℕ, List, [], ◌∷◌, Bool, true, false, nat_lt, ltb-true, refl}
use Rattle.std.specs.Prelude.{◌==◌, map, All}
use Rattle.std.proofs.lemmas.List.Elements.{All-head, All-tail}
use Rattle.gs_tree.specs.Program.{Term, Setting, Passed, Code, Codes}
use Rattle.gs_tree.specs.Sign.{Sign, Mark, ident, string}
use Rattle.gs_tree.specs.View.{codes}
use Rattle.gs_parse.specs.Symbols.{place, text_of}
use Rattle.gs_parse.specs.Notation.{Declared, Kind, Value, Part, level, tail, more_terms, arg, more_args, args, condition, printing, assigned, for_first, for_test, for_step, rest_of, body, stmts, names, decls, starts, program, kind_of, Rule, gives, take, may, read}
use Rattle.gs_parse.specs.Grammar.{rule, judged, is}
use Rattle.gs_parse.specs.Reading.{limited, Accepts, Says, given, taken, chosen, passed, part}
use Rattle.gs_spelling.specs.Spelled.{IsName, IsString, SignSpelled, TermSpelled, TermsSpelled, SettingSpelled, MaybeSetting, MaybeTerm, PassedsSpelled, CodeSpelled, CodesSpelled, VarsSpelled, SettingsSpelled, ProgramSpelled}
use Rattle.gs_spelling.specs.Laws.{sign_at}
use Rattle.gs_parse.specs.Fits.{TermFits, TermsFit, AddressFits, PassedsFit, MaybeSettingFits, MaybeTermFits, CodeFits, CodesFit, SettingsFit, ProgramFits}

-- ---- things that are both spelled and within the limits

-- a term below so many operators and calls
abbrev pub GoodTerm : (depth : ℕ) → Term → Type 0
GoodTerm depth t = TermSpelled t × TermFits depth t

-- values that stand under nothing
abbrev pub GoodTerms : List Term → Type 0
GoodTerms ts = TermsSpelled ts × TermsFit ts

-- an argument of a task call
abbrev pub GoodPassed : Passed → Type 0
GoodPassed p = TermSpelled p.value × AddressFits p.by_address p.value

-- the arguments of a task call
abbrev pub GoodPasseds : List Passed → Type 0
GoodPasseds ps = PassedsSpelled ps × PassedsFit ps

-- an assignment
abbrev pub GoodSetting : Setting → Type 0
GoodSetting s = SettingSpelled s × TermFits 0 s.value

-- the assignments before the body
abbrev pub GoodSettings : List Setting → Type 0
GoodSettings ss = SettingsSpelled ss × SettingsFit ss

-- a statement within so many others
abbrev pub GoodCode : (depth : ℕ) → Code → Type 0
GoodCode depth c = CodeSpelled c × CodeFits depth c

-- statements, each within so many others
abbrev pub GoodCodes : (depth : ℕ) → Codes → Type 0
GoodCodes depth cs = CodesSpelled cs × CodesFit depth cs

-- the variables and their first values
abbrev pub GoodDeclared : Declared → Type 0
GoodDeclared d = VarsSpelled d.vars × GoodSettings d.first

-- ---- parts of a text

-- what has to hold where a part begins
abbrev pub Needs : Part → Type 0
Needs (level t d g) = d < 64
Needs (tail t d g a) = (d < 64) × GoodTerm d a.term
Needs (more_terms so_far) = GoodTerms so_far
Needs (more_args so_far) = GoodPasseds so_far
Needs (assigned n) = IsName n.text
Needs (rest_of d x) = SignSpelled x.sign × (d < 64)
Needs (stmts d c so_far) = GoodCodes d (codes so_far)
Needs (names k d) = GoodDeclared d
Needs (decls d) = GoodDeclared d
Needs (starts so_far) = GoodSettings so_far
Needs _ = Unit {0}

-- what holds of what a part says
abbrev pub Gives : (n : Part) → Value (kind_of n) → Type 0
Gives (level t d g) v = GoodTerm d v.term
Gives (tail t d g a) v = GoodTerm d v.term
Gives (more_terms so_far) ts = GoodTerms ts
Gives arg p = GoodPassed p
Gives (more_args so_far) ps = GoodPasseds ps
Gives args ps = GoodPasseds ps
Gives condition v = GoodTerm 0 v.term
Gives printing p = IsString p.format.text × GoodTerms p.args
Gives (assigned n) s = GoodSetting s
Gives for_first s = MaybeSetting s × MaybeSettingFits s
Gives for_test t = MaybeTerm t × MaybeTermFits t
Gives for_step s = MaybeSetting s × MaybeSettingFits s
Gives (rest_of d x) c = GoodCode d c
Gives (body d) b = GoodCodes d b
Gives (stmts d c so_far) s = GoodCodes d s.body
Gives (names k d) e = GoodDeclared e
Gives (decls d) e = GoodDeclared e
Gives (starts so_far) ss = GoodSettings ss
Gives program p = ProgramSpelled p × ProgramFits p

-- what a rule says has this, where its signs are spelled and its parts give what they should
abbrev pub Keeps : (k : Kind) → Rule k → (Value k → Type 0) → Type 0
Keeps k (gives v) P = P v
Keeps k (take f next) P = (x : Mark) → SignSpelled x.sign → Accepts limited (f x) → Keeps k (next x) P
Keeps k (may f next other) P = ((x : Mark) → SignSpelled x.sign → Accepts limited (f x) → Keeps k (next x) P) × Keeps k other P
Keeps k (read n next) P = Needs n × ((w : Value (kind_of n)) → Gives n w → Keeps k (next w) P)

-- each part, where it may begin, gives what it should
abbrev pub AllKeep : Type 0
AllKeep = (n : Part) → Needs n → Keeps (kind_of n) (rule n) (Gives n)

-- ---- texts

-- each sign is spelled
abbrev pub SignsSpelled : List Mark → Type 0
SignsSpelled [] = Unit {0}
SignsSpelled (x ∷ xs) = SignSpelled x.sign × SignsSpelled xs

-- signs that are each spelled are so one after another
pub signs_spelled : (ts : List Mark) → All SignSpelled (map sign_at ts) → SignsSpelled ts
signs_spelled [] h = tt
signs_spelled (x ∷ xs) h = (All-head SignSpelled x.sign (map sign_at xs) h, signs_spelled xs (All-tail SignSpelled x.sign (map sign_at xs) h))

-- what spelled signs say by a rule has what the rule keeps, and the signs that follow are spelled
pub kept : AllKeep → (k : Kind) (r : Rule k) (ts : List Mark) (v : Value k) (us : List Mark) → (P : Value k → Type 0) → Keeps k r P →
    SignsSpelled ts → Says limited k r ts v us → P v × SignsSpelled us
kept all k r ts v us P keeps s (given _ _ _ _) = (keeps, s)
kept all k r ts v us P keeps s (taken _ _ f n x xs _ _ a h) = kept all k (n x) xs v us P (keeps x s.0 a) s.1 h
kept all k r ts v us P keeps s (chosen _ _ f n o x xs _ _ a h) = kept all k (n x) xs v us P (keeps.0 x s.0 a) s.1 h
kept all k r ts v us P keeps s (passed _ _ f n o _ _ _ e h) = kept all k o ts v us P keeps.1 s h
kept all k r ts v us P keeps s (part _ _ n next _ ms w _ _ g h) =
    let i = kept all (kind_of n) (rule n) ts w ms (Gives n) (all n keeps.0) s g in
    kept all k (next w) ms v us P (keeps.1 w i.0) i.1 h

-- ---- signs

-- a sign that stands within the limits stands, and is within them
both_judged : (b c : Bool) → Accepts limited (judged b c) → (b ≡ true) × (c ≡ true)
both_judged true true a = (refl, refl)
both_judged true false a = absurd a
both_judged false c a = absurd a

-- a sign of this depth is within the limits
pub below : (b : Bool) (n : ℕ) → Accepts limited (judged b (nat_lt n 64)) → n < 64
below b n a = ltb-true n 64 (both_judged b (nat_lt n 64) a).1

-- a spelled sign at the place of names holds a name
by_name : (s : Sign) → SignSpelled s → (place s == 25) ≡ true → IsName (text_of s)
by_name (ident w) h e = h
by_name _ h e = absurd (cc)

-- a spelled sign at the place of strings holds a string
by_string : (s : Sign) → SignSpelled s → (place s == 27) ≡ true → IsString (text_of s)
by_string (string w) h e = h
by_string _ h e = absurd (cc)

-- a name is taken where a name stands
pub name_taken : (x : Mark) → SignSpelled x.sign → Accepts limited (is (ident []) x) → IsName (text_of x.sign)
unfolding is
name_taken x s a = by_name x.sign s (both_judged (place x.sign == 25) true a).0

-- a string is taken where a string stands
pub string_taken : (x : Mark) → SignSpelled x.sign → Accepts limited (is (string []) x) → IsString (text_of x.sign)
unfolding is
string_taken x s a = by_string x.sign s (both_judged (place x.sign == 27) true a).0
