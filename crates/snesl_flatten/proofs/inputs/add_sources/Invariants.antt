use Rattle.std.proofs.Common.{◌≡◌, ◌++◌, ◌∷◌, [], map, take}
use Rattle.std.specs.Arc.{arc_value}
use Rattle.snesl_data.specs.Types.{ty_of}
use Rattle.snesl_values.specs.Places.{value_at}
use Rattle.flow_base.specs.Columns.{columns}
use Rattle.flow_values.specs.Shapes.{kinds_of}
use Rattle.flow_values.specs.Flats.{flat}
use Rattle.snesl_flatten.specs.Sources.{cells_in, source_kind, AreFresh}
use Rattle.snesl_flatten.proofs.inputs.add_sources.Given as goal

abbrev pub invariant-loop-edge : goal.invariant-loop-edge
invariant-loop-edge l = record {
  fresh : AreFresh l.sources.items;
  cells : map cells_in l.sources.items ≡ map cells_in l.fn.sources.items ++ columns l.edge (flat (ty_of l.ty) 0 (value_at (arc_value l.text).items l.place ∷ []));
  kinds : map source_kind l.sources.items ≡ map source_kind l.fn.sources.items ++ take l.edge (kinds_of (ty_of l.ty));
}
