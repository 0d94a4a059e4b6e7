use Rattle.std.proofs.Common.{◌≡◌, map, take}
use Rattle.snesl_values.specs.Inputs.{declared, environment_of}
use Rattle.snesl_translation.specs.Programs.{columns_of}
use Rattle.snesl_flatten.specs.Sources.{all_kinds, cells_in, source_kind, AreFresh}
use Rattle.snesl_flatten.proofs.inputs.sources_of_inputs.Given as goal

abbrev pub invariant-loop-number : goal.invariant-loop-number
invariant-loop-number l = record {
  fresh : AreFresh l.sources.items;
  cells : map cells_in l.sources.items ≡ columns_of (take l.number (declared l.declarations)) (take l.number (environment_of l.inputs));
  kinds : map source_kind l.sources.items ≡ all_kinds (take l.number (declared l.declarations));
}
