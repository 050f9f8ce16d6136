-- The words of a call, place by place.
use Rattle.std.proofs.Common.{◌≡◌, ℕ, ◌+◌, ◌<◌, zero, suc, ap, sym, ◌∙◌, List, [], ◌∷◌, ◌++◌, length, take, get_or, add-one, arith}
use Rattle.gs_types.specs.declared.job.Arg.{Arg}
use Rattle.gs_proc.specs.Words.{word_at, words_from}

words_suc : (n k i : ℕ) (args : List Arg) (d : Arg) → i < length args → words_from n k (take (suc i) args) ≡ words_from n k (take i args) ++ word_at n (i + k) (get_or args i d) ∷ []
words_suc n k i [] d lt = absurd (omega arith)
words_suc n k zero (x ∷ args) d lt = ap (λ (m : ℕ). word_at n m x ∷ []) (omega arith)
words_suc n k (suc i) (x ∷ args) d lt =
    let less : i < length args = omega arith in
    let place : i + (k + 1) ≡ suc i + k = omega arith in
    ap (λ (ws : List (List ℕ)). word_at n k x ∷ ws) (words_suc n (k + 1) i args d less ∙ ap (λ (m : ℕ). words_from n (k + 1) (take i args) ++ word_at n m (get_or args i d) ∷ []) place)

words_next : (n i : ℕ) (args : List Arg) (d : Arg) → i < length args → words_from n 1 (take (i + 1) args) ≡ words_from n 1 (take i args) ++ word_at n (i + 1) (get_or args i d) ∷ []
words_next n i args d lt = rw add-one (let step = words_suc n 1 i args d lt in rw add-one at step)

-- the words after one more, behind the operation's name
pub words_behind : (op word : List ℕ) (n i : ℕ) (args : List Arg) (d : Arg) (old new : List (List ℕ)) → i < length args → old ≡ op ∷ words_from n 1 (take i args) → new ≡ old ++ word ∷ [] → word ≡ word_at n (i + 1) (get_or args i d) → new ≡ op ∷ words_from n 1 (take (i + 1) args)
words_behind op word n i args d old new lt was put is =
    put ∙ ap (λ (ws : List (List ℕ)). ws ++ word ∷ []) was
    ∙ ap (λ (w : List ℕ). op ∷ (words_from n 1 (take i args) ++ w ∷ [])) is
    ∙ ap (λ (ws : List (List ℕ)). op ∷ ws) (sym (words_next n i args d lt))
