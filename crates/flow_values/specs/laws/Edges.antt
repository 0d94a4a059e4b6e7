-- The edges of values as columns: an item in front of one of them, and the values that are on them.
use Rattle.std.specs.Prelude.{◌≡◌, ℕ, zero, suc, ◌<◌, List, [], ◌∷◌, refl, ◌↔◌}
use Rattle.std.proofs.Common.{sym, ◌∙◌, ap, subst}
use Rattle.snesl_data.specs.Types.{Ty}
use Rattle.snesl_data.specs.Values.{Value}
use Rattle.flow_messages.specs.Cells.{Cell}
use Rattle.flow_base.specs.Lists.{Lists, push, with_port}
use Rattle.flow_base.specs.Ports.{at_port, take_away, NothingAt-from, First-from, each_port}
use Rattle.flow_base.specs.Columns.{Columns, columns, with_column, push_column, nothing, At, column_is, columns_same, columns_port, first_at, nothing_read}
use Rattle.flow_values.specs.Flats.{◌⊕◌, flat, spread_all, Outputs}
use Rattle.flow_values.specs.laws.Flats.{flat_each}
use Rattle.flow_values.specs.Dues.{DueCell, output_of, due_items_at}
use Rattle.flow_values.specs.laws.Dues.{push_side}

-- an item in front of a list is the first in its column
pub at_pushed : (n p : ℕ) (x : Cell) (l : Lists Cell) (P : Cell → Columns → Type 0) → p < n → P x (columns n l) → At p (columns n (push p x l)) P
at_pushed n p x l P lt h =
    first_at n p (push p x l) P lt
    (First-from (push p x l p) x (l p) (λ y r. P y (columns n (with_port p r (push p x l)))) (at_port p (x ∷ l p) l)
    (subst (λ m. P x (columns n m)) (sym (take_away p x l)) h))

-- an item in front of a column is in front of its list
pub push_columns : (n p : ℕ) (x : Cell) (l : Lists Cell) → p < n → push_column p x (columns n l) ≡ columns n (push p x l)
push_columns n p x l lt = go p (columns n l) ∙ ap (λ r. with_column p (x ∷ r) (columns n l)) (column_is n l p lt) ∙ sym (columns_port n p (x ∷ l p) l)
  where
    go : (p : ℕ) (cs : Columns) → push_column p x cs ≡ with_column p (x ∷ each_port cs p) cs
    go p [] = refl
    go zero (l ∷ cs) = refl
    go (suc p) (l ∷ cs) = ap (λ cs. l ∷ cs) (go p cs)

-- the first of the due items, in front of the others and of what comes then
module _ (n : ℕ) (d : DueCell) (ds : List DueCell) (l : Lists Cell) (lt : output_of n d.port < n) where
  pub at_due : (P : Cell → Columns → Type 0) → P d.cell (columns n (due_items_at n ds ⊕ l)) → At (output_of n d.port) (columns n (due_items_at n (d ∷ ds) ⊕ l)) P
  at_due P h = subst (λ m. At (output_of n d.port) (columns n m) P) (sym (push_side (output_of n d.port) d.cell (due_items_at n ds) l))
      (at_pushed n (output_of n d.port) d.cell (due_items_at n ds ⊕ l) P lt h)

  pub push_due : push_column (output_of n d.port) d.cell (columns n (due_items_at n ds ⊕ l)) ≡ columns n (due_items_at n (d ∷ ds) ⊕ l)
  push_due = push_columns n (output_of n d.port) d.cell (due_items_at n ds ⊕ l) lt ∙ ap (columns n) (sym (push_side (output_of n d.port) d.cell (due_items_at n ds) l))

pub none_at : (n : ℕ) → columns n (λ _. []) ≡ nothing n
none_at n = nothing_read n (λ _. []) (NothingAt-from n (λ _. []) (λ _ _. refl))

-- the values on so many edges are those that are put there one after another
pub on_edges : (ty : Ty) (n : ℕ) (o : Lists Cell) (vs : List Value) → Outputs n o (flat ty 0 vs) ↔ (columns n o ≡ columns n (spread_all ty 0 vs))
on_edges ty n o vs = (
  λ h. columns_same n o (spread_all ty 0 vs) (λ q lt. h q lt ∙ ap (λ l. l q) (flat_each ty 0 vs)),
  λ e q lt. sym (column_is n o q lt) ∙ ap (λ cs. each_port cs q) e ∙ column_is n (spread_all ty 0 vs) q lt ∙ ap (λ l. l q) (sym (flat_each ty 0 vs)),
)
