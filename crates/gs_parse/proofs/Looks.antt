-- What stands at a token.
use Rattle.std.proofs.Common.{◌≡◌, ◌≤◌, ◌+◌, ℕ, zero, suc, refl, sym, ap, ◌∙◌, List, [], ◌∷◌, Option, Some, None, drop, length, slice_get, Bool, true, false, arith, drop_of_length-le, Ok, Err}
use Rattle.std.specs.Prelude.{◌==◌}
use Rattle.std.proofs.lemmas.List.{length-map}
use Rattle.std.specs.Option.{option_map}
use Rattle.std.proofs.Math.Numerals.{add-one}
use Rattle.gs_tree.specs.Shown.{mark_shown}
use Rattle.gs_tree.specs.Sign.{Sign, Mark, ident, string}
use Rattle.gs_tree.specs.Program.{Name, Formatted}
use Rattle.gs_tree.specs.declared.tree.Ident.{Ident}
use Rattle.gs_tree.specs.declared.tree.Format.{Format}
use Rattle.gs_tree.specs.declared.sign.Keyword.{Keyword}
use Rattle.gs_tree.specs.declared.sign.Keyword.TheVariants.{Main}
use Rattle.gs_tree.specs.declared.sign.Symbol.{Symbol}
use Rattle.gs_tree.specs.declared.sign.Symbol.TheVariants.{Plus}
use Rattle.gs_tree.specs.Cut.{marks_in, lexemes_of}
use Rattle.gs_tree.specs.Signs.{mark_of, sign_of_keyword, sign_of_symbol}
use Rattle.gs_tree.specs.declared.list.Tokens.{Tokens}
use Rattle.gs_tree.specs.declared.sign.Mark as rust
use Rattle.gs_parse.specs.declared.stop.Stop.TheVariants.{Unfit, NoMemory}
use Rattle.gs_parse.specs.Symbols.{place, text_of}
use Rattle.gs_parse.specs.Grammar.{is, judged}
use Rattle.gs_parse.specs.Reading.{next_fit}
use Rattle.gs_parse.specs.Reads.{left, Shows, Stands, Takes, Expects, Anything, IsNamed, IsFormat}

some_at : (ts : List Mark) (i : ℕ) (x : Mark) → slice_get ts i ≡ Some x → drop i ts ≡ x ∷ drop (suc i) ts
some_at [] zero x e = absurd (cc)
some_at [] (suc i) x e = absurd (cc)
some_at (y ∷ ts) zero x e = cc
some_at (y ∷ ts) (suc i) x e = some_at ts i x e

none_at : (ts : List Mark) (i : ℕ) → slice_get ts i ≡ None → drop i ts ≡ []
none_at [] zero e = cc
none_at [] (suc i) e = cc
none_at (y ∷ ts) zero e = absurd (cc)
none_at (y ∷ ts) (suc i) e = none_at ts i e

pub looked : (t : Tokens) (i : ℕ) (o : Option rust.Mark) → option_map mark_shown o ≡ slice_get (marks_in t) i → Shows o (left t i) (left t (i + 1))
unfolding left
looked t i None e = none_at (marks_in t) i (sym e)
looked t i (Some m) e = rw add-one (some_at (marks_in t) i (mark_shown m) (sym e))

pub looked_past : (t : Tokens) (i : ℕ) → length (lexemes_of t) ≤ i → Shows None (left t i) (left t (i + 1))
unfolding left
looked_past t i le = drop_of_length-le (marks_in t) (omega (arith, le, length-map (lexemes_of t) (mark_of t.text.items)))

by_test : (x : Mark) (here next : List Mark) (s : Sign) (b : Bool) → (place x.sign == place s) ≡ b → here ≡ x ∷ next → Stands s here b next
unfolding is
by_test x here next s true e h = (x, h, ap (λ z. judged z true) e)
by_test x here next s false e h = ap (next_fit (is s)) h ∙ ap (λ z. judged z true) e

pub stands_some : (x : Mark) (here next : List Mark) (s : Sign) (m n : ℕ) → here ≡ x ∷ next → m ≡ place x.sign → n ≡ place s → Stands s here (m == n) next
stands_some x here next s m n e p q =
    let same : (place x.sign == place s) ≡ (m == n) = cc in
    by_test x here next s (m == n) same e

pub stands_none : (here next : List Mark) (s : Sign) → here ≡ [] → Stands s here false next
stands_none here next s e = ap (next_fit (is s)) e

pub takes_true : (s : Sign) (here next : List Mark) → Stands s here true next → Takes s here true next
unfolding Takes
takes_true s here next h = h

pub takes_false : (s : Sign) (here next : List Mark) → Stands s here false next → Takes s here false here
unfolding Takes
takes_false s here next h = (h, refl)

pub expects_ok : (s : Sign) (here next : List Mark) → Takes s here true next → Expects {A = Unit {0}} s Anything here (Ok (tt {0})) next
unfolding Takes Expects
expects_ok s here next h = (h.0, h.1, h.2, tt {0})

pub expects_err : (s : Sign) (here next : List Mark) → Takes s here false next → Expects {A = Unit {0}} s Anything here (Err Unfit) next
unfolding Takes Expects
expects_err s here next h = h

pub no_name_keyword : (k : Keyword) → (place (sign_of_keyword k) == 25) ≡ false
no_name_keyword Main = refl
no_name_keyword _ = refl

pub no_text_keyword : (k : Keyword) → (place (sign_of_keyword k) == 27) ≡ false
no_text_keyword Main = refl
no_text_keyword _ = refl

pub no_name_symbol : (s : Symbol) → (place (sign_of_symbol s) == 25) ≡ false
no_name_symbol Plus = refl
no_name_symbol _ = refl

pub no_text_symbol : (s : Symbol) → (place (sign_of_symbol s) == 27) ≡ false
no_text_symbol Plus = refl
no_text_symbol _ = refl

pub ruleset no_names = (no_name_keyword, no_text_keyword, no_name_symbol, no_text_symbol)

-- nothing stands here, or a sign of another place
pub expects_end : {A : Type 0} (s : Sign) (P : A → Mark → Type 0) (here : List Mark) → here ≡ [] → Expects s P here (Err Unfit) here
unfolding Expects
expects_end s P here e = (ap (next_fit (is s)) e, refl)

pub expects_other : {A : Type 0} (s : Sign) (P : A → Mark → Type 0) (here : List Mark) (x : Mark) (next : List Mark) → here ≡ x ∷ next → (place x.sign == place s) ≡ false → Expects s P here (Err Unfit) here
unfolding Expects is
expects_other s P here x next h e = (ap (next_fit (is s)) h ∙ ap (λ z. judged z true) e, refl)

pub expects_memory : {A : Type 0} (s : Sign) (P : A → Mark → Type 0) (here : List Mark) → Expects s P here (Err NoMemory) here
unfolding Expects
expects_memory s P here = tt

name_same : (a : ℕ) (s : List ℕ) (b : ℕ) (t : List ℕ) → a ≡ b → s ≡ t → (let x : Name = record { line = a; text = s } in x) ≡ record { line = b; text = t }
name_same a s b t e h = cc

format_same : (a : ℕ) (s : List ℕ) (b : ℕ) (t : List ℕ) → a ≡ b → s ≡ t → (let x : Formatted = record { line = a; text = s } in x) ≡ record { line = b; text = t }
format_same a s b t e h = cc

pub expects_name : (here : List Mark) (x : Mark) (w : List ℕ) (next : List Mark) (id : Ident) → here ≡ x ∷ next → x.sign ≡ ident w → id.line ≡ x.line → id.name.items ≡ w → Expects (ident []) IsNamed here (Ok id) next
unfolding Expects is
expects_name here x w next id h e l n = (x, h, ap (λ z. judged (place z == 25) true) e, name_same x.line (text_of x.sign) id.line id.name.items (sym l) (ap text_of e ∙ sym n))

pub expects_format : (here : List Mark) (x : Mark) (w : List ℕ) (next : List Mark) (f : Format) → here ≡ x ∷ next → x.sign ≡ string w → f.line ≡ x.line → f.s.items ≡ w → Expects (string []) IsFormat here (Ok f) next
unfolding Expects is
expects_format here x w next f h e l n = (x, h, ap (λ z. judged (place z == 27) true) e, format_same x.line (text_of x.sign) f.line f.s.items (sym l) (ap text_of e ∙ sym n))
