use Rattle.std.proofs.Common.{◌≡◌, ◌∙◌, ◌++◌, ap, subst, Bor, ℕ, List}
use Rattle.std.specs.Prelude.{map, reverse, IfOk}
use Rattle.gs_lines.specs.Lines.{lines, file_of}
use Rattle.gs_lines.proofs.Turned.{map-reverse}
use Rattle.gs_lines.proofs.ordering.reversed.Goals as goal

pub returns : goal.returns
returns c =
    let now = λ (line : Bor (List ℕ)). line.now in
    let all = c.put_lines.new.all.items in
    let put : map now all ≡ lines c.args.bytes.now = c.in_ok-put_lines.ensures ∙ ap (λ (ls : List
    (Bor (List ℕ))). map now ls ++ lines c.args.bytes.now) c.new-all.ensures.items in
    let turned : map now c.deref.result.now ≡ reverse (lines c.args.bytes.now) =
    ap (map now) (c.deref.ensures.value ∙ c.reverse.ensures.items) ∙ map-reverse now all ∙ ap
    reverse put in
    subst (λ (ls : List (List ℕ)). IfOk c.file_of.result (λ f. f.items ≡ file_of ls)) turned
    c.file_of.ensures
