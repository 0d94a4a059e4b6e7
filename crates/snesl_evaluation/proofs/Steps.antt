-- One step over the rows of a comprehension.
use Rattle.std.proofs.Common.{◌≡◌, ℕ, suc, ◌+◌, ◌<◌, true, List, [], ◌∷◌, ◌++◌, drop, sym, ap, ◌∙◌, arith}
use Rattle.snesl_data.specs.declared.fault.FaultKind.{FaultKind}
use Rattle.snesl_values.specs.Inputs.{Environment}
use Rattle.snesl_data.specs.Values.{Value}
use Rattle.snesl_evaluation.specs.Answer.{Answer, gives, faults, go, go_all, go_join}
use Rattle.snesl_evaluation.specs.Eval.{BoundItems, rows_of}
use Rattle.snesl_evaluation.specs.Scopes.{names_at}
use Rattle.snesl_evaluation.proofs.Reading.{behind, one_more, some_more, append_nothing}
use Rattle.snesl_evaluation.proofs.Rows.{is_level, drop_rows, no_rows}

next_row : (n : ℕ) (columns : BoundItems) (i : ℕ) → is_level n columns ≡ true → i < n → drop i (rows_of n columns) ≡ names_at i columns ∷ drop (i + 1) (rows_of n columns)
next_row n columns i level l =
    let same : suc i ≡ i + 1 = omega arith in
    drop_rows n columns i level l ∙ ap (λ j. names_at i columns ∷ drop j (rows_of n columns)) same

pub row_given : (f : Environment → Answer Value) (n : ℕ) (columns : BoundItems) (i : ℕ) (done : List Value) {news : List Value} (v : Value) → is_level n columns ≡ true → i < n
    → f (names_at i columns) ≡ gives v → news ≡ done ++ v ∷ [] → behind done (go_all f (drop i (rows_of n columns))) ≡ behind news (go_all f (drop (i + 1) (rows_of n columns)))
row_given f n columns i done v level l e grown =
    let rest = go_all f (drop (i + 1) (rows_of n columns)) in
    ap (λ rows. behind done (go_all f rows)) (next_row n columns i level l)
    ∙ ap (λ answer. behind done (go answer (λ w. go rest (λ ws. gives (w ∷ ws))))) e
    ∙ one_more done v rest ∙ ap (λ given. behind given rest) (sym grown)

pub row_faults : (f : Environment → Answer Value) (n : ℕ) (columns : BoundItems) (i : ℕ) (done : List Value) (kind : FaultKind) (at : ℕ) →
    is_level n columns ≡ true → i < n → f (names_at i columns) ≡ faults kind at
    → behind done (go_all f (drop i (rows_of n columns))) ≡ faults kind at
row_faults f n columns i done kind at level l e =
    let rest = go_all f (drop (i + 1) (rows_of n columns)) in
    ap (λ rows. behind done (go_all f rows)) (next_row n columns i level l)
    ∙ ap (λ answer. behind done (go answer (λ w. go rest (λ ws. gives (w ∷ ws))))) e

pub rows_end : (f : Environment → Answer Value) (n i : ℕ) (columns : BoundItems) (done : List Value) → n ≡ i → behind done (go_all f (drop i (rows_of n columns))) ≡ gives done
rows_end f n i columns done e =
    ap (λ j. behind done (go_all f (drop j (rows_of n columns)))) (sym e) ∙ ap (λ rows. behind done (go_all f rows)) (no_rows n columns) ∙ ap gives (append_nothing done)

pub kept_given : (f : Environment → Answer (List Value)) (n : ℕ) (columns : BoundItems) (i : ℕ) (done : List Value) {news : List Value} (vs : List Value) → is_level n columns ≡ true → i < n
    → f (names_at i columns) ≡ gives vs → news ≡ done ++ vs → behind done (go_join f (drop i (rows_of n columns))) ≡ behind news (go_join f (drop (i + 1) (rows_of n columns)))
kept_given f n columns i done vs level l e grown =
    let rest = go_join f (drop (i + 1) (rows_of n columns)) in
    ap (λ rows. behind done (go_join f rows)) (next_row n columns i level l)
    ∙ ap (λ answer. behind done (go answer (λ w. go rest (λ ws. gives (w ++ ws))))) e
    ∙ some_more done vs rest ∙ ap (λ given. behind given rest) (sym grown)

pub kept_faults : (f : Environment → Answer (List Value)) (n : ℕ) (columns : BoundItems) (i : ℕ) (done : List Value) (kind : FaultKind) (at : ℕ) →
    is_level n columns ≡ true → i < n → f (names_at i columns) ≡ faults kind at
    → behind done (go_join f (drop i (rows_of n columns))) ≡ faults kind at
kept_faults f n columns i done kind at level l e =
    let rest = go_join f (drop (i + 1) (rows_of n columns)) in
    ap (λ rows. behind done (go_join f rows)) (next_row n columns i level l)
    ∙ ap (λ answer. behind done (go answer (λ w. go rest (λ ws. gives (w ++ ws))))) e

pub kept_end : (f : Environment → Answer (List Value)) (n i : ℕ) (columns : BoundItems) (done : List Value) → n ≡ i → behind done (go_join f (drop i (rows_of n columns))) ≡ gives done
kept_end f n i columns done e =
    ap (λ j. behind done (go_join f (drop j (rows_of n columns)))) (sym e) ∙ ap (λ rows. behind done (go_join f rows)) (no_rows n columns) ∙ ap gives (append_nothing done)
