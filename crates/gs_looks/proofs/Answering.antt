-- The judgement by looks is the sequential run's answer.
use Rattle.std.proofs.Common.{◌≡◌, inl, inr, refl, sym, ap, ◌∙◌, subst, arith, ℕ, zero, suc, ◌<◌, ◌≤◌, Bool, true, false, List, [], ◌∷◌, length, map, Option, Some, None, if◌then◌else◌, nat_lt, nat_le, le-leb}
use Rattle.std.specs.Prelude.{bytes_eq, option_map}
use Rattle.std.specs.List.{slice_get}
use Rattle.std.proofs.lemmas.Bool.{cases_lt}
use Rattle.std.proofs.lemmas.Bool.Decides.{nat_tests}
use Rattle.std.proofs.lemmas.Option.{slice_get-map}
use Rattle.std.proofs.lemmas.Slice.Eq.{bytes_eq-Decides}
use Rattle.gs_types.specs.declared.limits.TheConstants.{FILE_LIMIT}
use Rattle.gs_types.specs.declared.note.Version.{Version}
use Rattle.gs_types.specs.declared.note.Version.TheVariants.{Original, Out, Main}
use Rattle.gs_talk.specs.declared.question.Answer.{Answer}
use Rattle.gs_talk.specs.declared.question.Answer.TheVariants as answer
use Rattle.gs_talk.specs.Seq.{Content, Known, Files, World, refused, or_next as or_answer}
use Rattle.gs_talk_laws.specs.Numbers.{at_number}
use Rattle.gs_talk_laws.specs.Versions.{closed_as}
use Rattle.gs_history.specs.Refusals.{refused_version, refused_versions}
use Rattle.gs_looks.specs.declared.look.Look.{Look}
use Rattle.gs_looks.specs.declared.look.Seen.{Seen}
use Rattle.gs_looks.specs.declared.look.Seen.TheVariants as seen
use Rattle.gs_looks.specs.declared.judging.Judged.{Judged}
use Rattle.gs_looks.specs.declared.judging.Judged.TheVariants.{Fine, Unseen, Absent, TooLong}
use Rattle.gs_looks.specs.Looked.{seen_of, IsSeen, AreSeen}
use Rattle.gs_looks.specs.Judgement.{judged_length, judged_main, judged_seen, judged_version, judged_read, judged_call, or_next, AreLengths, IsJudged, IsUnseen}

-- ---- an original

one_look : (l : Look) (first : Files) (name : List ℕ) (s : Seen) (o : Option Seen) → IsSeen (first l.name) l.seen → (o ≡ Some s → IsSeen (first name) s) → (b : Bool) → bytes_eq l.name name ≡ b → (if b then Some l.seen else o) ≡ Some s → IsSeen (first name) s
one_look l first name s o is more true same f =
    let names : l.name ≡ name = (bytes_eq-Decides l.name name).0 same in
    let values : l.seen ≡ s = cc in
    subst (IsSeen (first name)) values (subst (λ (x : List ℕ). IsSeen (first x) l.seen) names is)
one_look l first name s o is more false same f = more f

pub seen_right : (looks : List Look) (first : Files) (name : List ℕ) (s : Seen) → AreSeen looks first → seen_of looks name ≡ Some s → IsSeen (first name) s
seen_right [] first name s are e = absurd cc
seen_right (l ∷ looks) first name s are e = one_look l first name s (seen_of looks name) are.0 (λ f. seen_right looks first name s are.1 f) (bytes_eq l.name name) refl e

small : (bytes : List ℕ) → length bytes ≤ FILE_LIMIT → refused (Some (Known bytes)) ≡ None
small bytes le = ap (λ (b : Bool). if b then None else Some answer.TooLong) (le-leb (length bytes) FILE_LIMIT le)

long : (bytes : List ℕ) → FILE_LIMIT < length bytes → refused (Some (Known bytes)) ≡ Some answer.TooLong
long bytes lt = ap (λ (b : Bool). if b then None else Some answer.TooLong) (not_small (length bytes) lt)
  where
    not_small : (n : ℕ) → FILE_LIMIT < n → nat_le n FILE_LIMIT ≡ false
    not_small n lt = grind (arith, nat_tests)

seen_judged : (c : Option Content) (name : List ℕ) (s : Seen) → IsSeen c s → IsJudged (judged_seen name (Some s)) (refused c)
seen_judged c name seen.Absent is = ap refused is
seen_judged c name seen.TooLong is = ap refused is.1 ∙ long is.0 is.2
seen_judged c name (seen.Len len) is = ap refused is.1 ∙ small is.0 is.2

of_original : (looks : List Look) (first : Files) (name : List ℕ) (o : Option Seen) → AreSeen looks first → seen_of looks name ≡ o → IsJudged (judged_seen name o) (refused (first name))
of_original looks first name None are e = tt
of_original looks first name (Some s) are e = seen_judged (first name) name s (seen_right looks first name s are e)

-- ---- what the program closed

of_length : (o : Option (List ℕ)) → IsJudged (judged_length (option_map length o)) (refused (closed_as o))
of_length None = refl
of_length (Some bytes) = elim (cases_lt FILE_LIMIT (length bytes)) [
  | inl lt ↦ subst (λ (b : Bool). IsJudged (if b then TooLong else Fine) (refused (Some (Known bytes)))) (sym (above (length bytes) lt)) (long bytes lt)
  | inr le ↦ subst (λ (b : Bool). IsJudged (if b then TooLong else Fine) (refused (Some (Known bytes)))) (sym (below (length bytes) le)) (small bytes le)
]
  where
    above : (n : ℕ) → FILE_LIMIT < n → nat_lt FILE_LIMIT n ≡ true
    above n lt = grind (arith, nat_tests)

    below : (n : ℕ) → n ≤ FILE_LIMIT → nat_lt FILE_LIMIT n ≡ false
    below n le = grind (arith, nat_tests)

of_main : (mains : List ℕ) (closed : List (List ℕ)) (k : ℕ) → mains ≡ map length closed → IsJudged (judged_main mains k) (refused (closed_as (at_number closed k)))
of_main mains closed zero e = refl
of_main mains closed (suc k) e =
    let there : slice_get mains k ≡ option_map length (slice_get closed k) = ap (λ (ns : List ℕ). slice_get ns k) e ∙ slice_get-map length closed k in
    subst (λ (o : Option ℕ). IsJudged (judged_length o) (refused (closed_as (slice_get closed k)))) (sym there) (of_length (slice_get closed k))

-- ---- a version, and a call

of_version : (looks : List Look) (mains : List ℕ) (first : Files) (w : World) (v : Version) → AreSeen looks first → AreLengths mains w.closed → IsJudged (judged_version looks mains v) (refused_version first w v)
of_version looks mains first w (Original name) are lengths = of_original looks first name (seen_of looks name) are refl
of_version looks mains first w (Out n place) are lengths = refl
of_version looks mains first w (Main k) are lengths = of_main mains w.closed k lengths

joined : (a b : Judged) (x y : Option Answer) → IsJudged a x → IsJudged b y → IsJudged (or_next a b) (or_answer x y)
joined Fine b x y is rest = subst (λ (o : Option Answer). IsJudged b (or_answer o y)) (sym is) rest
joined (Unseen name) b x y is rest = tt
joined Absent b x y is rest = ap (λ (o : Option Answer). or_answer o y) is
joined TooLong b x y is rest = ap (λ (o : Option Answer). or_answer o y) is

pub call_answered : (looks : List Look) (mains : List ℕ) (first : Files) (w : World) (vs : List (Option Version)) → AreSeen looks first → AreLengths mains w.closed → IsJudged (judged_call looks mains vs) (refused_versions first w vs)
call_answered looks mains first w [] are lengths = refl
call_answered looks mains first w (None ∷ vs) are lengths = call_answered looks mains first w vs are lengths
call_answered looks mains first w (Some v ∷ vs) are lengths =
    joined (judged_version looks mains v) (judged_call looks mains vs) (refused_version first w v) (refused_versions first w vs) (of_version looks mains first w v are lengths) (call_answered looks mains first w vs are lengths)

-- ---- a file that is to be looked at

later : (looks : List Look) (v : Option Version) (vs : List (Option Version)) (j : Judged) → IsUnseen looks vs j → IsUnseen looks (v ∷ vs) j
later looks v vs Fine is = tt
later looks v vs (Unseen name) is = ((suc is.0.0, is.0.1), is.1)
later looks v vs Absent is = tt
later looks v vs TooLong is = tt

here_seen : (looks : List Look) (name : List ℕ) (vs : List (Option Version)) (o : Option Seen) → seen_of looks name ≡ o → IsUnseen looks (Some (Original name) ∷ vs) (judged_seen name o)
here_seen looks name vs None e = ((0, refl), e)
here_seen looks name vs (Some seen.Absent) e = tt
here_seen looks name vs (Some seen.TooLong) e = tt
here_seen looks name vs (Some (seen.Len len)) e = tt

here_length : (looks : List Look) (vs : List (Option Version)) (o : Option ℕ) → IsUnseen looks vs (judged_length o)
here_length looks vs None = tt
here_length looks vs (Some n) = of_test (nat_lt FILE_LIMIT n)
  where
    of_test : (b : Bool) → IsUnseen looks vs (if b then TooLong else Fine)
    of_test true = tt
    of_test false = tt

here_main : (looks : List Look) (mains : List ℕ) (k : ℕ) (vs : List (Option Version)) → IsUnseen looks vs (judged_main mains k)
here_main looks mains zero vs = tt
here_main looks mains (suc k) vs = here_length looks vs (slice_get mains k)

here : (looks : List Look) (mains : List ℕ) (v : Option Version) (vs : List (Option Version)) → IsUnseen looks (v ∷ vs) (judged_read looks mains v)
here looks mains None vs = tt
here looks mains (Some (Original name)) vs = here_seen looks name vs (seen_of looks name) refl
here looks mains (Some (Out n place)) vs = tt
here looks mains (Some (Main k)) vs = here_main looks mains k (Some (Main k) ∷ vs)

either : (looks : List Look) (vs : List (Option Version)) (a b : Judged) → IsUnseen looks vs a → IsUnseen looks vs b → IsUnseen looks vs (or_next a b)
either looks vs Fine b x y = y
either looks vs (Unseen name) b x y = x
either looks vs Absent b x y = tt
either looks vs TooLong b x y = tt

pub call_unseen : (looks : List Look) (mains : List ℕ) (vs : List (Option Version)) → IsUnseen looks vs (judged_call looks mains vs)
call_unseen looks mains [] = tt
call_unseen looks mains (v ∷ vs) = either looks (v ∷ vs) (judged_read looks mains v) (judged_call looks mains vs) (here looks mains v vs) (later looks v vs (judged_call looks mains vs) (call_unseen looks mains vs))
