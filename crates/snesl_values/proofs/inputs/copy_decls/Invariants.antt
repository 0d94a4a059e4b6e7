use Rattle.std.proofs.Common.{◌≡◌, take}
use Rattle.snesl_values.specs.Declarations.{declared}
use Rattle.snesl_values.proofs.inputs.copy_decls.Given as goal

abbrev pub invariant-loop-declaration : goal.invariant-loop-declaration
invariant-loop-declaration l = declared l.copies.items ≡ declared (take l.declaration-index l.decls)
