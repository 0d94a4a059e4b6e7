use Rattle.flow_base.proofs.Kernels.{took}
use Rattle.flow_base.proofs.certain.take_front.Goals as goal

pub returns-clause-taken : goal.returns-clause-taken
returns-clause-taken g c = λ m first. took (g.E.Ends.view c.args.ends.now) (g.E.Ends.view c.take.new.self) c.args.edge m c.take.result c.take.ensures.some c.take.ensures.succeeds first
