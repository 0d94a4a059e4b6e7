-- The way to each edge of a type, and what a value puts there.
use Rattle.std.proofs.Common.{◌≡◌, ◌≢◌, ℕ, zero, suc, ◌+◌, ◌-◌, ◌<◌, ◌≤◌, Bool, true, false, cond, List, [], ◌∷◌, ◌++◌, length, map, Option, Some}
use Rattle.std.proofs.Common.{None, refl, sym, ap, ◌∙◌, subst, arith, append-nil, append_assoc, length-append}
use Rattle.std.specs.Prelude.{slice_get, nat_lt}
use Rattle.std.proofs.Math.Path.{ap₂}
use Rattle.std.proofs.lemmas.Bool.Decides.{nat_tests}
use Rattle.snesl_data.specs.declared.dialect.Dialect.{Dialect}
use Rattle.snesl_data.specs.Types.{Ty, int, bool, pair, vec, seq}
use Rattle.snesl_data.specs.Values.{Value, HasType}
use Rattle.snesl_values.specs.InputTokens.{HasTokens}
use Rattle.snesl_values.specs.Inputs.{value_tokens}
use Rattle.flow_messages.specs.Cells.{Cell}
use Rattle.flow_messages.specs.declared.message.Kind.{Kind}
use Rattle.flow_messages.specs.declared.message.Kind.TheVariants.{Unit as UnitKind}
use Rattle.flow_base.specs.Flags.{T, elements}
use Rattle.flow_base.specs.Segments.{concatenation_by}
use Rattle.flow_values.specs.Shapes.{kinds_of, kind_at, cell_for, first_of, second_of, elements_of}
use Rattle.flow_values.specs.Flats.{only_at, width, flat, spread, spread_all}
use Rattle.flow_values.specs.laws.Sides.{only_here, only_there, spread_below, spread_above, all_below}
use Rattle.flow_values.specs.laws.Flats.{flat_one}
use Rattle.flow_nodes.specs.declared.inputs.turns.Component.{Component}
use Rattle.flow_nodes.specs.declared.inputs.turns.Component.TheVariants.{First, Second}
use Rattle.flow_nodes.specs.declared.inputs.turns.Mode.TheVariants.{Value as ValueNext, Behind}
use Rattle.flow_nodes.specs.inputs.Turns.{state}
use Rattle.flow_nodes.specs.inputs.Left.{left, cell}
use Rattle.snesl_values.specs.Places.{value_at}
use Rattle.flow_nodes.specs.inputs.Items.{leaf_kind}
use Rattle.flow_nodes.specs.inputs.Ways.{way_to, leaf_at, items_on_edge, LeadsToEdge, to_int, to_bool, to_vector, to_flags, by_elements, by_first, by_second, Ahead}
use Rattle.flow_nodes.proofs.OfInputs.Lefts.{left_done}
use Rattle.flow_nodes.proofs.OfInputs.Main.{law}
use Rattle.snesl_values.proofs.Tells.{value_at-tells}

below : (m n : ℕ) → nat_lt m n ≡ true → m < n
below m n e = grind (arith, nat_tests)

not_below : (m n : ℕ) → nat_lt m n ≡ false → n ≤ m
not_below m n e = grind (arith, nat_tests)

-- each edge has a way
pub leads : (t : Ty) (edge : ℕ) → edge < width t → LeadsToEdge t (way_to t edge) (leaf_at t edge)
leads int edge lt = to_int
leads bool edge lt = to_bool
leads (vec a) edge lt = to_vector
leads (pair a b) edge lt = by_side (nat_lt edge (width a)) refl (λ h. leads a edge h) (λ h. leads b (edge - width a) h)
  where
    by_side : (side : Bool) → nat_lt edge (width a) ≡ side → (edge < width a → LeadsToEdge a (way_to a edge) (leaf_at a edge)) →
        (edge - width a < width b → LeadsToEdge b (way_to b (edge - width a)) (leaf_at b (edge - width a)))
        → LeadsToEdge (pair a b) (cond side (First ∷ way_to a edge) (Second ∷ way_to b (edge - width a))) (cond side (leaf_at a edge) (leaf_at b (edge - width a)))
    by_side true e one two = by_first (one (below edge (width a) e))
    by_side false e one two = by_second (two (let size = length-append (kinds_of a) (kinds_of b) in let h = not_below edge (width a) e in omega (arith, size, h)))
leads (seq a) zero lt = to_flags
leads (seq a) (suc edge) lt = by_elements (leads a edge (omega arith))

joined_same : (f g : Value → List Cell) → ((v : Value) → f v ≡ g v) → (vs : List Value) → concatenation_by f vs ≡ concatenation_by g vs
joined_same f g same [] = refl
joined_same f g same (v ∷ vs) = ap₂ (λ a b. a ++ b) (same v) (joined_same f g same vs)

-- the items at the end of the way to an edge are those that the value puts there
pub items_are : (t : Ty) (edge : ℕ) → edge < width t → (p : ℕ) (v : Value) → items_on_edge (way_to t edge) (leaf_at t edge) v ≡ spread t p v (p + edge)
items_are int edge lt p v = let e : p + edge ≡ p = omega arith in sym (ap (only_at p (cell_for v ∷ [])) e ∙ only_here p (cell_for v ∷ []))
items_are bool edge lt p v = let e : p + edge ≡ p = omega arith in sym (ap (only_at p (cell_for v ∷ [])) e ∙ only_here p (cell_for v ∷ []))
items_are (vec a) edge lt p v = let e : p + edge ≡ p = omega arith in sym (ap (only_at p (cell_for v ∷ [])) e ∙ only_here p (cell_for v ∷ []))
items_are (pair a b) edge lt p v =
    by_side (nat_lt edge (width a)) refl (λ h. items_are a edge h p (first_of v)) (λ h. items_are b (edge - width a) h (p + width a) (second_of v))
  where
    by_side : (side : Bool) → nat_lt edge (width a) ≡ side
        → (edge < width a → items_on_edge (way_to a edge) (leaf_at a edge) (first_of v) ≡ spread a p (first_of v) (p + edge))
        → (edge - width a < width b → items_on_edge (way_to b (edge - width a)) (leaf_at b (edge - width a)) (second_of v) ≡ spread b (p + width a) (second_of v) ((p + width a) + (edge - width a)))
        → items_on_edge (cond side (First ∷ way_to a edge) (Second ∷ way_to b (edge - width a))) (cond side (leaf_at a edge) (leaf_at b (edge - width a))) v
        ≡ spread a p (first_of v) (p + edge) ++ spread b (p + width a) (second_of v) (p + edge)
    by_side true e one two =
        let h = below edge (width a) e in
        one h ∙ sym (ap (λ l. spread a p (first_of v) (p + edge) ++ l) (spread_below b (p + width a) (second_of v) (p + edge) (omega (arith, h))) ∙ append-nil (spread a p (first_of v) (p + edge)))
    by_side false e one two =
        let h = not_below edge (width a) e in
        let size = length-append (kinds_of a) (kinds_of b) in
        let there : (p + width a) + (edge - width a) ≡ p + edge = omega (arith, h) in
        two (omega (arith, size, h)) ∙ ap (spread b (p + width a) (second_of v)) there
        ∙ sym (ap (λ l. l ++ spread b (p + width a) (second_of v) (p + edge)) (spread_above a p (first_of v) (p + edge) (omega (arith, h))))
items_are (seq a) zero lt p v =
    let e : p + 0 ≡ p = omega arith in
    let flags : List Cell = elements (length (elements_of v)) (T ∷ []) in
    sym (ap (λ q. only_at p flags q ++ spread_all a (p + 1) (elements_of v) q) e
    ∙ ap₂ (λ x y. x ++ y) (only_here p flags) (all_below a (p + 1) (elements_of v) p (omega arith)) ∙ append-nil flags)
items_are (seq a) (suc edge) lt p v =
    let n : p + suc edge ≢ p = omega arith in
    let there : (p + 1) + edge ≡ p + suc edge = omega arith in
    let h : edge < width a = omega arith in
    joined_same (items_on_edge (way_to a edge) (leaf_at a edge)) (λ e. spread a (p + 1) e (p + suc edge)) (λ e. items_are a edge h (p + 1) e ∙ ap (spread a (p + 1) e) there) (elements_of v)
    ∙ ap (λ l. l ++ spread_all a (p + 1) (elements_of v) (p + suc edge)) (sym (only_there p (p + suc edge) _ n))

-- the way lies ahead
ahead_from : (before rest : List Component) → Ahead (before ++ rest) (length before) rest
ahead_from before [] = past before
  where
    past : (xs : List Component) → slice_get (xs ++ []) (length xs) ≡ None
    past [] = refl
    past (x ∷ xs) = past xs
ahead_from before (step ∷ rest) =
    let grown : (before ++ step ∷ []) ++ rest ≡ before ++ step ∷ rest = append_assoc before (step ∷ []) rest in
    let longer : length (before ++ step ∷ []) ≡ length before + 1 = length-append before (step ∷ []) in
    (here before, subst (λ whole. Ahead whole (length before + 1) rest) grown (subst (λ n. Ahead ((before ++ step ∷ []) ++ rest) n rest) longer (ahead_from (before ++ step ∷ []) rest)))
  where
    here : (xs : List Component) → slice_get (xs ++ step ∷ rest) (length xs) ≡ Some step
    here [] = refl
    here (x ∷ xs) = here xs

-- What is left to write on an edge where a value begins: the edge's part of what the value puts on the edges of its type.
pub opens : (dialect : Dialect) (t : Ty) (edge : ℕ) (text : List ℕ) (from end : ℕ) (v : Value) → edge < width t → HasType dialect v t → from ≤ length text → HasTokens text from (value_tokens v) end
    → map (cell (value_at text)) (left text (way_to t edge) (leaf_at t edge) from (state 0 ValueNext)) ≡ flat t 0 (v ∷ []) edge
opens dialect t edge text from end v lt typed inside r =
    let way = way_to t edge in
    let leaf = leaf_at t edge in
    let vector = value_at text in
    let zero_edge : 0 + edge ≡ edge = omega arith in
    law (leads t edge lt) dialect vector text (λ dialect t from end v typed inside r. value_at-tells dialect text t from end v typed inside r) way 0 (ahead_from [] way) v typed from end inside r
    ∙ ap (λ l. items_on_edge way leaf v ++ map (cell vector) l) (left_done text way leaf end (state 0 Behind) refl)
    ∙ append-nil (items_on_edge way leaf v)
    ∙ items_are t edge lt 0 v
    ∙ ap (spread t 0 v) zero_edge
    ∙ sym (ap (λ l. l edge) (flat_one t 0 v))

get_left : (xs ys : List Kind) (i : ℕ) → i < length xs → slice_get (xs ++ ys) i ≡ slice_get xs i
get_left [] ys i lt = absurd (omega arith)
get_left (x ∷ xs) ys zero lt = refl
get_left (x ∷ xs) ys (suc i) lt = get_left xs ys i (omega arith)

get_right : (xs ys : List Kind) (i : ℕ) → length xs ≤ i → slice_get (xs ++ ys) i ≡ slice_get ys (i - length xs)
get_right [] ys i le = let e : i - 0 ≡ i = omega arith in sym (ap (slice_get ys) e)
get_right (x ∷ xs) ys zero le = absurd (omega arith)
get_right (x ∷ xs) ys (suc i) le = let e : suc i - suc (length xs) ≡ i - length xs = omega arith in get_right xs ys i (omega arith) ∙ ap (slice_get ys) (sym e)

abbrev at_kind : Option Kind → Kind
at_kind o = elim o [ Some kind ↦ kind | None ↦ UnitKind ]

-- what is at the end of the way to an edge is of the edge's kind
pub kinds_of_edges : (t : Ty) (edge : ℕ) → edge < width t → leaf_kind (leaf_at t edge) ≡ kind_at (kinds_of t) edge
kinds_of_edges int edge lt = let e : edge ≡ 0 = omega arith in sym (ap (kind_at (kinds_of int)) e)
kinds_of_edges bool edge lt = let e : edge ≡ 0 = omega arith in sym (ap (kind_at (kinds_of bool)) e)
kinds_of_edges (vec a) edge lt = let e : edge ≡ 0 = omega arith in sym (ap (kind_at (kinds_of (vec a))) e)
kinds_of_edges (pair a b) edge lt = by_side (nat_lt edge (width a)) refl (λ h. kinds_of_edges a edge h) (λ h. kinds_of_edges b (edge - width a) h)
  where
    by_side : (side : Bool) → nat_lt edge (width a) ≡ side → (edge < width a → leaf_kind (leaf_at a edge) ≡ kind_at (kinds_of a) edge) →
        (edge - width a < width b → leaf_kind (leaf_at b (edge - width a)) ≡ kind_at (kinds_of b) (edge - width a))
        → leaf_kind (cond side (leaf_at a edge) (leaf_at b (edge - width a))) ≡ kind_at (kinds_of a ++ kinds_of b) edge
    by_side true e one two = let h = below edge (width a) e in one h ∙ sym (ap at_kind (get_left (kinds_of a) (kinds_of b) edge h))
    by_side false e one two =
        let size = length-append (kinds_of a) (kinds_of b) in
        let h = not_below edge (width a) e in
        two (omega (arith, size, h)) ∙ sym (ap at_kind (get_right (kinds_of a) (kinds_of b) edge h))
kinds_of_edges (seq a) zero lt = refl
kinds_of_edges (seq a) (suc edge) lt = kinds_of_edges a edge (omega arith)
