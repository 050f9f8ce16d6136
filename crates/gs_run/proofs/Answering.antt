-- Words that are read, and lines that are told.
use Rattle.std.proofs.Common.{◌≡◌, ℕ, List, ◌++◌, sym, ◌∙◌, ap, append_assoc, refl, Result, Ok, Err, OnOk}
use Rattle.gs_types.specs.declared.sink.SinkFailed.{SinkFailed}

pub on_ok_more : (r : Result Unit SinkFailed) (P Q : Type 0) → (P → Q) → OnOk r P → OnOk r Q
on_ok_more (Ok u) P Q more p = more p
on_ok_more (Err e) P Q more p = tt

pub parts_line : (r : Result Unit SinkFailed) (old new front middle middle' back line : List ℕ)
    → middle ≡ middle' → line ≡ front ++ (middle' ++ back) → OnOk r (new ≡ old
    ++ (front ++ (middle ++ back))) → OnOk r (new ≡ old ++ line)
parts_line r old new front middle middle' back line same is = on_ok_more r _ _ (λ e. e
    ∙ ap (λ (m : List ℕ). old ++ (front ++ (m ++ back))) same ∙ ap (λ (l : List ℕ). old
    ++ l) (sym is))

pub whole_line : (r : Result Unit SinkFailed) (old new text line : List ℕ) → line ≡ text
    → OnOk r (new ≡ old ++ text) → OnOk r (new ≡ old ++ line)
whole_line r old new text line is = on_ok_more r _ _ (λ e. e ∙ ap (λ (l : List ℕ). old
    ++ l) (sym is))

-- the line of a bad text, in its three pieces
pub bad_text_line : (r : Result Unit SinkFailed) (w0 w1 w2 w3 front name name_is colon line line_is
    gap kind kind_is end : List ℕ) → name ≡ name_is → line ≡ line_is → kind ≡ kind_is → w1 ≡ w0
    ++ (front ++ (name ++ colon)) → w2 ≡ w1 ++ (line ++ (gap ++ kind))
    → OnOk r (w3 ≡ w2 ++ end) → OnOk r (w3 ≡ w0
    ++ (front ++ (name_is ++ (colon ++ (line_is ++ (gap ++ (kind_is ++ end)))))))
bad_text_line r w0 w1 w2 w3 front name name_is colon line line_is gap kind kind_is end same_name
    same_line same_kind one two = on_ok_more r _ _ (λ three.
    let whole : List ℕ → List ℕ → List ℕ → List ℕ = λ (n l k : List ℕ).
    ((w0 ++ (front ++ (n ++ colon))) ++ (l ++ (gap ++ k))) ++ end in
    three ∙ ap (λ (x : List ℕ). x ++ end) (two ∙ ap (λ (x : List ℕ). x
    ++ (line ++ (gap ++ kind))) one)
    ∙ ap (λ (n : List ℕ). whole n line kind) same_name ∙ ap (λ (l : List ℕ).
    whole name_is l kind) same_line ∙ ap (λ (k : List ℕ). whole name_is line_is k) same_kind
    ∙ flat w0 front name_is colon line_is gap kind_is end)
  where
    flat : (w0 front name colon line gap kind end : List ℕ) → ((w0 ++ (front ++ (name ++ colon)))
        ++ (line ++ (gap ++ kind))) ++ end ≡ w0
        ++ (front ++ (name ++ (colon ++ (line ++ (gap ++ (kind ++ end))))))
    flat w0 front name colon line gap kind end = simp (append_assoc {A = ℕ}) refl

-- the line of a program's fault, in its three pieces
pub fault_line : (r : Result Unit SinkFailed) (w0 w1 w2 w3 front line line_is gap kind kind_is
    end : List ℕ) → line ≡ line_is → kind ≡ kind_is → w1 ≡ w0 ++ front → w2 ≡ w1
    ++ (line ++ (gap ++ kind))
    → OnOk r (w3 ≡ w2 ++ end) → OnOk r (w3 ≡ w0
    ++ (front ++ (line_is ++ (gap ++ (kind_is ++ end)))))
fault_line r w0 w1 w2 w3 front line line_is gap kind kind_is end same_line same_kind one two =
    on_ok_more r _ _ (λ three.
    let whole : List ℕ → List ℕ → List ℕ = λ (l k : List ℕ). ((w0 ++ front) ++ (l ++ (gap ++ k)))
    ++ end in
    three ∙ ap (λ (x : List ℕ). x ++ end) (two ∙ ap (λ (x : List ℕ). x
    ++ (line ++ (gap ++ kind))) one)
    ∙ ap (λ (l : List ℕ). whole l kind) same_line ∙ ap (λ (k : List ℕ). whole line_is k) same_kind
    ∙ flat w0 front line_is gap kind_is end)
  where
    flat : (w0 front line gap kind end : List ℕ) → ((w0 ++ front) ++ (line ++ (gap ++ kind))) ++ end
        ≡ w0 ++ (front ++ (line ++ (gap ++ (kind ++ end))))
    flat w0 front line gap kind end = simp (append_assoc {A = ℕ}) refl

-- the line of a version that is lost, in its three pieces
pub lost_line : (r : Result Unit SinkFailed) (w0 w1 w2 w3 front name name_is gap len len_is
    back : List ℕ) → name ≡ name_is → len ≡ len_is → w1 ≡ w0 ++ (front ++ (name ++ gap))
    → w2 ≡ w1 ++ len → OnOk r (w3 ≡ w2 ++ back)
    → OnOk r (w3 ≡ w0 ++ (front ++ (name_is ++ (gap ++ (len_is ++ back)))))
lost_line r w0 w1 w2 w3 front name name_is gap len len_is back same_name same_len one two =
    on_ok_more r _ _ (λ three.
    let whole : List ℕ → List ℕ → List ℕ = λ (n l : List ℕ). ((w0 ++ (front ++ (n ++ gap))) ++ l)
    ++ back in
    three ∙ ap (λ (x : List ℕ). x ++ back) (two ∙ ap (λ (x : List ℕ). x ++ len) one)
    ∙ ap (λ (n : List ℕ). whole n len) same_name ∙ ap (λ (l : List ℕ). whole name_is l) same_len
    ∙ flat w0 front name_is gap len_is back)
  where
    flat : (w0 front name gap len back : List ℕ) → ((w0 ++ (front ++ (name ++ gap))) ++ len) ++ back
        ≡ w0 ++ (front ++ (name ++ (gap ++ (len ++ back))))
    flat w0 front name gap len back = simp (append_assoc {A = ℕ}) refl
