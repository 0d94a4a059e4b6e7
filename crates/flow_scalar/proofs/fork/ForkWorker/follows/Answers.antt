use Rattle.flow_scalar.specs.ForkMachine.{fork_ports}
use Rattle.flow_scalar.proofs.Passers.{fork_follows}
use Rattle.flow_scalar.proofs.fork.ForkWorker.follows.Goals as goal

-- each output gets the item
pub returns : goal.returns
returns c = λ _ fit item. fork_follows (fork_ports c.args.self.now.kind c.args.self.now.outputs) c.args.item fit item
