-- Values of concrete types as items, one for each edge, and what may stand at each place among them.
use Rattle.std.specs.Prelude.{◌≡◌, ℕ, zero, ◌-◌, Bool, true, false, List, [], ◌∷◌, ◌++◌, Option, Some, None, cond, nat_lt}
use Rattle.std.specs.List.{slice_get}
use Rattle.snesl_data.specs.Types.{Ty, int, bool, pair, vec}
use Rattle.snesl_data.specs.Values.{Value, an_int, a_bool, a_pair}
use Rattle.flow_messages.specs.Cells.{Cell, flag, int as int_cell, datum}
use Rattle.flow_values.specs.Shapes.{is_a, cell_for, first_of, second_of}
use Rattle.flow_values.specs.Flats.{width}

-- the items of a value, one for each edge of its concrete type
abbrev pub parts : Ty → Value → List Cell
parts (pair first second) v = parts first (first_of v) ++ parts second (second_of v)
parts _ v = cell_for v ∷ []

-- a value and the items that are left after its own
abbrev pub Built : Type 0
Built = Option (Value × List Cell)

-- a first part in front of a second that was built
abbrev pub with_first : Value → Built → Built
with_first a None = None
with_first a (Some (b, rest)) = Some (a_pair a b, rest)

-- a second part, built of the items that the first left
abbrev pub and_then : (List Cell → Built) → Built → Built
and_then second None = None
and_then second (Some (a, rest)) = with_first a (second rest)

-- the value of the concrete type whose items come first, if they do
abbrev pub built : Ty → List Cell → Built
built int (int_cell n ∷ rest) = Some (an_int n, rest)
built bool (flag b ∷ rest) = Some (a_bool b, rest)
built (vec item) (datum v ∷ rest) = cond (is_a (vec item) v) (Some (v, rest)) None
built (pair first second) cells = and_then (built second) (built first cells)
built _ _ = None

-- whether the item may be the one at this place, counted from 0, of a value of the concrete type: there is an edge for
-- it, and it is an integer, a boolean or a vector of the type of that edge
abbrev pub part_fits : Ty → ℕ → Cell → Bool
part_fits int zero (int_cell n) = true
part_fits bool zero (flag b) = true
part_fits (vec item) zero (datum v) = is_a (vec item) v
part_fits (pair first second) k x = cond (nat_lt k (width first)) (part_fits first k x) (part_fits second (k - width first) x)
part_fits _ k x = false

-- each of these items may stand at its place
pub record PartsFit (ty : Ty) (got : List Cell) : Type 0 where
  pub each : (k : ℕ) (x : Cell) → slice_get got k ≡ Some x → part_fits ty k x ≡ true
