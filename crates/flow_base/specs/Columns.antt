-- The lists of the first ports, one column for each.
use Rattle.std.specs.Prelude.{◌≡◌, ℕ, zero, suc, ◌<◌, List, [], ◌∷◌, refl, ◌↔◌}
use Rattle.std.proofs.Common.{sym, ◌∙◌, ap, subst, arith}
use Rattle.std.proofs.Math.Path.{ap₂}
use Rattle.flow_messages.specs.Cells.{Cell}
use Rattle.flow_base.specs.Lists.{Lists, with_port, NothingAt, First}
use Rattle.flow_base.specs.Ports.{at_port, off_port, by_port, nothing_at, NothingAt-from, first_of_list, First-from, each_port}

abbrev pub Columns : Type 0
Columns = List (List Cell)

-- the columns of the first n ports
abbrev pub columns : ℕ → Lists Cell → Columns
columns zero i = []
columns (suc n) i = i 0 ∷ columns n (λ p. i (suc p))

-- the column of port p replaced
abbrev pub with_column : ℕ → List Cell → Columns → Columns
with_column p r [] = []
with_column zero r (l ∷ cs) = r ∷ cs
with_column (suc p) r (l ∷ cs) = l ∷ with_column p r cs

-- there is a first item in the column of port p, of which P holds, with the columns that it leaves
abbrev pub At : ℕ → Columns → (Cell → Columns → Type 0) → Type 0
At p cs P = First (each_port cs p) (λ x r. P x (with_column p r cs))

-- one item more, in front, in the column of port p
abbrev pub push_column : ℕ → Cell → Columns → Columns
push_column p x [] = []
push_column zero x (l ∷ cs) = (x ∷ l) ∷ cs
push_column (suc p) x (l ∷ cs) = l ∷ push_column p x cs

-- n columns with no items
abbrev pub nothing : ℕ → Columns
nothing zero = []
nothing (suc n) = [] ∷ nothing n

pub column_is : (n : ℕ) (i : Lists Cell) (p : ℕ) → p < n → each_port (columns n i) p ≡ i p
column_is zero i p lt = absurd (omega arith)
column_is (suc n) i zero lt = refl
column_is (suc n) i (suc p) lt = column_is n (λ q. i (suc q)) p (omega arith)

pub columns_same : (n : ℕ) (i j : Lists Cell) → ((p : ℕ) → p < n → i p ≡ j p) → columns n i ≡ columns n j
columns_same zero i j h = refl
columns_same (suc n) i j h = ap₂ (λ l cs. l ∷ cs) (h 0 (omega arith)) (columns_same n (λ p. i (suc p)) (λ p. j (suc p)) (λ p lt. h (suc p) (omega arith)))

pub columns_port : (n p : ℕ) (r : List Cell) (i : Lists Cell) → columns n (with_port p r i) ≡ with_column p r (columns n i)
columns_port zero p r i = refl
columns_port (suc n) zero r i = ap₂ (λ l cs. l ∷ cs) (at_port 0 r i) (columns_same n (λ q. with_port 0 r i (suc q)) (λ q. i (suc q)) (λ q lt. off_port 0 (suc q) r i (λ e. absurd (omega arith))))
columns_port (suc n) (suc p) r i = ap₂ (λ l cs. l ∷ cs) (off_port (suc p) 0 r i (λ e. absurd (omega arith))) (
    columns_same n (λ q. with_port (suc p) r i (suc q)) (with_port p r (λ q. i (suc q))) (λ q lt.
    by_port (λ q. with_port (suc p) r i (suc q) ≡ with_port p r (λ q. i (suc q)) q) p
    (at_port (suc p) r i ∙ sym (at_port p r (λ q. i (suc q))))
    (λ q n. off_port (suc p) (suc q) r i (λ e. n (omega arith)) ∙ sym (off_port p q r (λ q. i (suc q)) n)) q)
    ∙ columns_port n p r (λ q. i (suc q)))

-- a first item in a column is one at its port
pub at_first : (n p : ℕ) (i : Lists Cell) (P : Cell → Columns → Type 0) → p < n → At p (columns n i) P → First (i p) (λ x r. P x (columns n (with_port p r i)))
at_first n p i P lt h =
    let f = first_of_list (each_port (columns n i) p) (λ x r. P x (with_column p r (columns n i))) h in
    First-from (i p) f.0 f.1 (λ x r. P x (columns n (with_port p r i))) (sym (column_is n i p lt) ∙ f.2) (subst (λ cs. P f.0 cs) (sym (columns_port n p f.1 i)) f.3)

pub first_at : (n p : ℕ) (i : Lists Cell) (P : Cell → Columns → Type 0) → p < n → First (i p) (λ x r. P x (columns n (with_port p r i))) → At p (columns n i) P
first_at n p i P lt h =
    let f = first_of_list (i p) (λ x r. P x (columns n (with_port p r i))) h in
    First-from (each_port (columns n i) p) f.0 f.1 (λ x r. P x (with_column p r (columns n i))) (column_is n i p lt ∙ f.2) (subst (λ cs. P f.0 cs) (columns_port n p f.1 i) f.3)

nothing_is : (n p : ℕ) → each_port (nothing n) p ≡ []
nothing_is zero p = refl
nothing_is (suc n) zero = refl
nothing_is (suc n) (suc p) = nothing_is n p

pub all_read : (n : ℕ) (i : Lists Cell) → columns n i ≡ nothing n → NothingAt n i
all_read n i e = NothingAt-from n i (λ p lt. sym (column_is n i p lt) ∙ ap (λ cs. each_port cs p) e ∙ nothing_is n p)

pub nothing_read : (n : ℕ) (i : Lists Cell) → NothingAt n i → columns n i ≡ nothing n
nothing_read n i h = columns_same n i (λ _. []) (nothing_at n i h) ∙ go n
  where
    go : (n : ℕ) → columns n (λ _. []) ≡ nothing n
    go zero = refl
    go (suc n) = ap (λ cs. [] ∷ cs) (go n)

-- where a column has a first item, the columns are others with this item in front
pub pushed : (p : ℕ) (cs : Columns) (P : Cell → Columns → Type 0) → At p cs P → (x : Cell) × (r : Columns) × (cs ≡ push_column p x r) × P x r
pushed p [] P h = absurd h
pushed zero ([] ∷ cs) P h = absurd h
pushed zero ((x ∷ l) ∷ cs) P h = (x, l ∷ cs, refl, h)
pushed (suc p) (l ∷ cs) P h = let g = pushed p cs (λ x r. P x (l ∷ r)) h in (g.0, l ∷ g.1, ap (λ r. l ∷ r) g.2, g.3)

-- The row of instances: what they read is a column for each input, and what they write one for each output.
abbrev pub RowOf : {X : Type 0} → (X → Columns) → (X → Columns) → ℕ → ℕ → Lists Cell → Lists Cell → Type 0
RowOf {X = X} reads writes inputs outputs i o = (x : X) × (columns inputs i ≡ reads x) × (columns outputs o ≡ writes x)

pub rows_from : {X : Type 0} (reads writes : X → Columns) (Does : Columns → Columns → Type 0) → ((x : X) → Does (reads x) (writes x)) →
    ((i o : Columns) → Does i o → (x : X) × (i ≡ reads x) × (o ≡ writes x)) →
    (inputs outputs : ℕ) (i o : Lists Cell) → RowOf reads writes inputs outputs i o ↔ Does (columns inputs i) (columns outputs o)
rows_from reads writes Does forth back inputs outputs i o = (
  λ h. subst (λ c. Does c (columns outputs o)) (sym h.1) (subst (λ c. Does (reads h.0) c) (sym h.2) (forth h.0)),
  back (columns inputs i) (columns outputs o),
)
