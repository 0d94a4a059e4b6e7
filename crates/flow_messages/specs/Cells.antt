-- What an item carries, without the places in memory where it lies.
use Rattle.std.specs.Prelude.{ℤ, Bool, true, false}
use Rattle.snesl_data.specs.Values.{Value, a_vec, elements_of}
use Rattle.flow_messages.specs.declared.message.Item.{Item}
use Rattle.flow_messages.specs.declared.message.Item.TheVariants.{Unit as UnitItem, Bool as BoolItem, Int as IntItem, Vec as VecItem, Typed as TypedItem}
use Rattle.flow_messages.specs.declared.message.Kind.{Kind}
use Rattle.flow_messages.specs.declared.message.Kind.TheVariants.{Unit as UnitKind, Bool as BoolKind, Int as IntKind, Vec as VecKind}

-- what an item carries: nothing, a truth value, an integer, or a value
pub data Cell : Type 0 where
  unit : Cell
  flag : Bool → Cell
  int : ℤ → Cell
  datum : Value → Cell

-- what this item carries
abbrev pub cell_of : Item → Cell
cell_of UnitItem = unit
cell_of (BoolItem b) = flag b
cell_of (IntItem n) = int n
cell_of (VecItem elements) = datum (a_vec (elements_of elements))
cell_of (TypedItem typed) = datum (a_vec (elements_of typed.elements))

-- whether the cell is of the kind
abbrev pub is_of : Kind → Cell → Bool
is_of UnitKind unit = true
is_of BoolKind (flag b) = true
is_of IntKind (int n) = true
is_of VecKind (datum v) = true
is_of _ _ = false
