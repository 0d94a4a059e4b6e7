use Rattle.std.proofs.Common.{take}
use Rattle.snesl_values.specs.Inputs.{declared}
use Rattle.snesl_translation.specs.Programs.{inputs_sourced, unset_cells}
use Rattle.snesl_translator.specs.steps.Views.{bindings_of, next_in}
use Rattle.snesl_translator.specs.steps.Added.{HasMade}
use Rattle.snesl_flatten.proofs.steps.bind_inputs.Given as goal

abbrev pub invariant-loop-declaration : goal.invariant-loop-declaration
invariant-loop-declaration l =
    HasMade l.fn.steps l.steps (inputs_sourced l.at unset_cells (declared (take l.declaration-index l.declarations)) (next_in l.fn.steps)) (bindings_of l.bindings.items)
