-- Due items are what a value puts on its edges, and one after another they are written.
use Rattle.std.specs.Prelude.{◌≡◌, ℕ, suc, ◌+◌, ◌<◌, ◌≤◌, true, List, [], ◌∷◌, ◌++◌, length, cond, nat_lt, refl}
use Rattle.std.proofs.Common.{sym, ◌∙◌, ap, arith, append_assoc, length-append}
use Rattle.std.proofs.Math.Path.{ap₂}
use Rattle.std.proofs.lemmas.Bool.Decides.{nat_tests}
use Rattle.snesl_data.specs.Types.{Ty, int, bool, pair, vec, seq}
use Rattle.snesl_data.specs.Values.{Value}
use Rattle.flow_messages.specs.Cells.{Cell}
use Rattle.flow_base.specs.Lists.{Lists, push}
use Rattle.flow_base.specs.Flags.{F, T, elements}
use Rattle.flow_base.specs.Segments.{concatenation_by}
use Rattle.flow_values.specs.Shapes.{cell_for, first_of, second_of, elements_of, kinds_of}
use Rattle.flow_values.specs.Flats.{no_cells, only_at, ◌⊕◌, width, spread, spread_all}
use Rattle.flow_values.specs.laws.Sides.{sides_assoc, nothing_more, push_is, first_only, only_moves, spread_below}
use Rattle.flow_values.specs.Dues.{DueCell, due, element_dues, dues_of, output_of, due_items_at}

-- an output that there is
pub output_is : (n p : ℕ) → p < n → output_of n p ≡ p
output_is n p lt = let test : nat_lt p n ≡ true = grind (arith, nat_tests) in ap (λ b. cond b p 0) test

-- there is such an output, where there is one
pub is_output : (n p : ℕ) → output_of (suc n) p < suc n
is_output n p = grind (arith, nat_tests)

-- a type has an edge
pub has_edge : (ty : Ty) → (n : ℕ) × (width ty ≡ suc n)
has_edge int = (0, refl)
has_edge bool = (0, refl)
has_edge (vec item) = (0, refl)
has_edge (pair first second) =
    let h = has_edge first in
    let size = length-append (kinds_of first) (kinds_of second) in
    let one = h.1 in
    (h.0 + width second, omega (arith, size, one))
has_edge (seq item) = (width item, refl)

-- an item in front of lists side by side
pub push_side : (p : ℕ) (x : Cell) (xs ys : Lists Cell) → push p x xs ⊕ ys ≡ push p x (xs ⊕ ys)
push_side p x xs ys = ap (λ l. l ⊕ ys) (sym (push_is p x xs)) ∙ sides_assoc (only_at p (x ∷ [])) xs ys ∙ push_is p x (xs ⊕ ys)

items_append : (n : ℕ) (ds es : List DueCell) → due_items_at n (ds ++ es) ≡ due_items_at n ds ⊕ due_items_at n es
items_append n [] es = refl
items_append n (d ∷ ds) es =
    let p = output_of n d.port in
    ap (push p d.cell) (items_append n ds es) ∙ sym (push_side p d.cell (due_items_at n ds) (due_items_at n es))

-- a due item in front of others, at an output that there is
first_item : (n p : ℕ) (x : Cell) (ds : List DueCell) → p < n → due_items_at n (due p x ∷ ds) ≡ push p x (due_items_at n ds)
first_item n p x ds lt = ap (λ q. push q x (due_items_at n ds)) (output_is n p lt)

leaf_items : (n p : ℕ) (x : Cell) → p < n → due_items_at n (due p x ∷ []) ≡ only_at p (x ∷ [])
leaf_items n p x lt = first_item n p x [] lt ∙ sym (push_is p x no_cells) ∙ nothing_more (only_at p (x ∷ []))

-- the elements of a sequence and their flags
segment_items : (n p : ℕ) (item : Ty) → p < n → ((e : Value) → due_items_at n (dues_of item (p + 1) e) ≡ spread item (p + 1) e) → (es : List Value) →
    due_items_at n (concatenation_by (element_dues p (λ e. dues_of item (p + 1) e)) es ++ (due p T ∷ [])) ≡ only_at p (elements (length es) (T ∷ [])) ⊕ spread_all item (p + 1) es
segment_items n p item lt each [] = leaf_items n p T lt ∙ sym (nothing_more (only_at p (T ∷ [])))
segment_items n p item lt each (e ∷ es) =
    let one = dues_of item (p + 1) e in
    let others = concatenation_by (element_dues p (λ e. dues_of item (p + 1) e)) es in
    let flags = only_at p (elements (length es) (T ∷ [])) in
    let first = spread item (p + 1) e in
    let later = spread_all item (p + 1) es in
    let moves : first ⊕ (flags ⊕ later) ≡ flags ⊕ (first ⊕ later) =
    sym (sides_assoc first flags later)
    ∙ ap (λ l. l ⊕ later) (sym (only_moves p (elements (length es) (T ∷ [])) first (spread_below item (p + 1) e p (omega arith))))
    ∙ sides_assoc flags first later in
    ap (due_items_at n) (append_assoc (due p F ∷ one) others (due p T ∷ []))
    ∙ first_item n p F (one ++ (others ++ (due p T ∷ []))) lt
    ∙ ap (push p F) (items_append n one (others ++ (due p T ∷ [])) ∙ ap₂ (λ a b. a ⊕ b) (each e) (segment_items n p item lt each es) ∙ moves)
    ∙ sym (first_only p F (elements (length es) (T ∷ [])) (first ⊕ later))

-- what is due for a value is what it puts on its edges
pub items_are : (ty : Ty) (n p : ℕ) (v : Value) → p + width ty ≤ n → due_items_at n (dues_of ty p v) ≡ spread ty p v
items_are int n p v le = leaf_items n p (cell_for v) (omega arith)
items_are bool n p v le = leaf_items n p (cell_for v) (omega arith)
items_are (vec item) n p v le = leaf_items n p (cell_for v) (omega arith)
items_are (pair first second) n p v le =
    let size = length-append (kinds_of first) (kinds_of second) in
    items_append n (dues_of first p (first_of v)) (dues_of second (p + width first) (second_of v))
    ∙ ap₂ (λ a b. a ⊕ b) (items_are first n p (first_of v) (omega (arith, size))) (items_are second n (p + width first) (second_of v) (omega (arith, size)))
items_are (seq item) n p v le = segment_items n p item (omega arith) (λ e. items_are item n (p + 1) e (omega arith)) (elements_of v)
