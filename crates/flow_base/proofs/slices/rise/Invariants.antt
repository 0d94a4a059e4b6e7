use Rattle.std.proofs.Common.{ℕ, ◌<◌}
use Rattle.flow_base.specs.Visits.{edge_of}
use Rattle.flow_base.proofs.slices.rise.Given as goal

-- the edges so far rise
abbrev pub invariant-loop-port : goal.invariant-loop-port
invariant-loop-port l = (p q : ℕ) → p < q → q < l.port → edge_of l.edges p < edge_of l.edges q
