-- Laws of the files that a run's own texts stand in.
use Rattle.std.specs.Prelude.{◌≡◌, ℕ, true, List, map}
use Rattle.gs_talk.specs.Talk.{is_own_text}
use Rattle.gs_talk.specs.Seq.{Run, seq}
use Rattle.gs_talk_laws.specs.Versions.{writings}
use Rattle.gs_own_texts.specs.Apart.{IsApart}

-- what stands under the name of an own text, after any number of questions
abbrev pub OwnTextsStay : Type 0
OwnTextsStay = (r : Run) (name : List ℕ) → is_own_text r.texts name ≡ true → (k : ℕ)
    → (seq r k).world.files name ≡ r.files name

-- no writing is under it
abbrev pub OwnTextsUnwritten : Type 0
OwnTextsUnwritten = (r : Run) (name : List ℕ) → is_own_text r.texts name ≡ true → (k : ℕ)
    → IsApart name (map (λ w. w.name) (writings r k))
