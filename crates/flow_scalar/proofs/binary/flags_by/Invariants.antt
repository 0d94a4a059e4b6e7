use Rattle.flow_scalar.specs.BinaryMachine.{FlagsAt}
use Rattle.flow_scalar.proofs.binary.flags_by.Given as goal

-- the values so far, one for each pair
abbrev pub invariant-loop-at : goal.invariant-loop-at
invariant-loop-at l = FlagsAt l.dialect l.operator l.lefts l.rights l.values l.at
