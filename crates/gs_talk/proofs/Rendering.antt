-- A format that is read and written from its front on.
use Rattle.std.proofs.Common.{◌≡◌, ◌≢◌, ◌∙◌, sym, ap, ℕ, ◌-◌, ◌<◌, refl, Bool, List, [], ◌∷◌, ◌++◌, length, take, drop, get_or, Option, Some, None, arith, ne_eqb}
use Rattle.std.specs.Prelude.{option_map, if◌then◌else◌, ◌==◌}
use Rattle.std.proofs.lemmas.List.{take_all}
use Rattle.gs_tree.specs.Formats.{Piece, literally, percent_d, percent_s, pieces}
use Rattle.gs_types.specs.declared.value.Value.{Value}
use Rattle.gs_talk.specs.Texts.{rendered}
use Rattle.gs_talk.specs.Pieces.{Continues}

-- what is written, and what the rest of a format gives after it
abbrev pub written_then : List ℕ → Option (List Piece) → List Value → List ℕ
written_then out None vs = []
written_then out (Some ps) vs = out ++ rendered ps vs

abbrev continued : Piece → List ℕ → Option (List Piece)
continued p rest = option_map (λ ps. p ∷ ps) (pieces rest)

-- a percent sign and one byte more
pub after_two : (format : List ℕ) (p : Piece) (byte : ℕ) → length format ≢ 1 → 0 < length format → get_or format 0 0 ≡ 37 → get_or format 1 0 ≡ byte →
    ((rest : List ℕ) → pieces (37 ∷ byte ∷ rest) ≡ continued p rest) → Continues format p (take (length format - 2) (drop 2 format))
after_two [] p byte long some percent is says = absurd (omega arith)
after_two (a ∷ []) p byte long some percent is says = absurd (long refl)
after_two (a ∷ b ∷ rest) p byte long some percent is says =
    let whole : take (length (a ∷ b ∷ rest) - 2) rest ≡ rest = take_all _ rest (omega arith) in
    record {
      pieces_are = ap (λ (x : ℕ). pieces (x ∷ b ∷ rest)) percent ∙ ap (λ (x : ℕ). pieces (37 ∷ x ∷ rest)) is ∙ says rest ∙ ap (continued p) (sym whole);
      shorter = rw whole (omega arith);
    }

-- what a percent sign before a byte gives
abbrev after_percent : ℕ → List ℕ → Option (List Piece)
after_percent b rest =
    if b == 100 then continued percent_d rest else (
    if b == 115 then continued percent_s rest else (
    if b == 37 then continued (literally 37) rest else None))

-- another byte
pub after_one : (format : List ℕ) → 0 < length format → get_or format 0 0 ≢ 37 → Continues format (literally (get_or format 0 0)) (take (length format - 1) (drop 1 format))
after_one [] some other = absurd (omega arith)
after_one (a ∷ []) some other = record {
  pieces_are = ap (λ (b : Bool). if b then None else Some (literally a ∷ [])) (ne_eqb a 37 other);
  shorter = omega arith;
}
after_one (a ∷ b ∷ rest) some other =
    let whole : take (length (a ∷ b ∷ rest) - 1) (b ∷ rest) ≡ b ∷ rest = take_all _ (b ∷ rest) (omega arith) in
    record {
      pieces_are =
          ap (λ (c : Bool). if c then after_percent b rest else continued (literally a) (b ∷ rest)) (ne_eqb a 37 other)
          ∙ ap (continued (literally a)) (sym whole);
      shorter = rw whole (omega arith);
    }
