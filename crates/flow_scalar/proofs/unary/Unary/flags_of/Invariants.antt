use Rattle.flow_scalar.specs.UnaryMachine.{FlagsAt}
use Rattle.flow_scalar.proofs.unary.Unary.flags_of.Given as goal

-- the values so far, one for each operand
abbrev pub invariant-loop-at : goal.invariant-loop-at
invariant-loop-at l = FlagsAt l.fn.self.dialect l.fn.self.operator l.operands l.values l.at
