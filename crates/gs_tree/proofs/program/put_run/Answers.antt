use Rattle.std.proofs.Common.{◌≡◌, ◌++◌, ℕ, List, codes, ap, ◌∙◌, append_assoc}
use Rattle.gs_tree.specs.Printed.{line_text, codes_text}
use Rattle.gs_tree.specs.View.{codes_of}
use Rattle.gs_tree.proofs.program.put_run.Goals as goal

-- four parts, one after the other
parts : (o o1 o2 o3 o4 a b c d : List ℕ) → o1 ≡ o ++ a → o2 ≡ o1 ++ b → o3 ≡ o2 ++ c → o4 ≡ o3 ++ d → o4 ≡ o ++ (a ++ b ++ c ++ d)
parts o o1 o2 o3 o4 a b c d e1 e2 e3 e4 =
    let first : o2 ≡ o ++ (a ++ b) = e2 ∙ ap (λ r. r ++ b) e1 ∙ append_assoc o a b in
    let second : o3 ≡ o ++ (a ++ b ++ c) = e3 ∙ ap (λ r. r ++ c) first ∙ append_assoc o (a ++ b) c in
    e4 ∙ ap (λ r. r ++ d) second ∙ append_assoc o (a ++ b ++ c) d

pub returns : goal.returns
returns c =
    parts _ _ _ _ _ (line_text 1 (codes "GS_On();")) (codes_text 1 (codes_of c.args.body.now)) (line_text 1 (codes "GS_Off(0);")) (line_text 0 (codes "}"))
    c.in_ok-put_line.ensures c.in_ok-put_body.ensures c.in_ok-put_line-2.ensures c.in_ok-put_line-3.ensures
