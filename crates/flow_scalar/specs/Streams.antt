-- What a stream holds: so many items of one kind.
use Rattle.std.specs.Prelude.{◌≡◌, ℕ, zero, suc, true, List, [], ◌∷◌, map, replicate, refl}
use Rattle.snesl_data.specs.Values.{a_vec, elements_of}
use Rattle.flow_messages.specs.Cells.{Cell, unit, flag, int, datum, is_of}
use Rattle.flow_messages.specs.declared.message.Kind.{Kind}
use Rattle.flow_messages.specs.declared.message.Kind.TheVariants.{Unit as UnitKind, Bool as BoolKind, Int as IntKind, Vec as VecKind}
use Rattle.flow_base.specs.Ranges.{AllOf}
use Rattle.flow_scalar.specs.declared.source.Stream.{Stream}
use Rattle.flow_scalar.specs.declared.source.Stream.TheVariants.{Units, Bools, Ints, Vectors}

abbrev pub stream_kind : Stream → Kind
stream_kind (Units n) = UnitKind
stream_kind (Bools all) = BoolKind
stream_kind (Ints all) = IntKind
stream_kind (Vectors all) = VecKind

-- what its items carry, in order
abbrev pub stream_cells : Stream → List Cell
stream_cells (Units n) = replicate n unit
stream_cells (Bools all) = map flag all.items
stream_cells (Ints all) = map int all.items
stream_cells (Vectors all) = map (λ elements. datum (a_vec (elements_of elements))) all.items

-- What items carry, in order, all of one kind.
pub record Items : Type 0 where
  pub kind : Kind
  pub cells : List Cell
  pub all_of : AllOf kind cells

-- units are of the kind Unit
units_all_of : (n : ℕ) → AllOf UnitKind (replicate n unit)
units_all_of zero = tt
units_all_of (suc n) = (refl, units_all_of n)

-- where each is made an item of the kind, all are
map_all_of : {A : Type 0} (kind : Kind) (cell : A → Cell) → ((a : A) → is_of kind (cell a) ≡ true) → (all : List A) → AllOf kind (map cell all)
map_all_of kind cell is [] = tt
map_all_of kind cell is (a ∷ all) = (is a, map_all_of kind cell is all)

-- the items of a stream are of its kind
pub stream_all_of : (stream : Stream) → AllOf (stream_kind stream) (stream_cells stream)
stream_all_of (Units n) = units_all_of n
stream_all_of (Bools all) = map_all_of BoolKind flag (λ b. refl) all.items
stream_all_of (Ints all) = map_all_of IntKind int (λ n. refl) all.items
stream_all_of (Vectors all) = map_all_of VecKind (λ elements. datum (a_vec (elements_of elements))) (λ elements. refl) all.items

-- the items of a stream
abbrev pub items_of : Stream → Items
items_of stream = record { kind = stream_kind stream; cells = stream_cells stream; all_of = stream_all_of stream }
