use Rattle.flow_scalar.specs.UnaryMachine.{IntsAt}
use Rattle.flow_scalar.proofs.unary.Unary.ints_of.Given as goal

-- the values so far, one for each operand
abbrev pub invariant-loop-at : goal.invariant-loop-at
invariant-loop-at l = IntsAt l.fn.self.dialect l.fn.self.operator l.operands l.values l.at
