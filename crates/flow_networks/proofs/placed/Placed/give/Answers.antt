use Rattle.flow_messages.specs.Signals.{signal_of}
use Rattle.flow_networks.proofs.Reached.{Follows, follows_read, follows_inputs, follows_outputs, either}
use Rattle.flow_networks.proofs.placed.Placed.give.Goals as goal

pub invariant_of-self : goal.invariant_of-self
invariant_of-self g c =
    let b = g.T.Transducer.behaviour in
    let laws = g.met.T.Transducer.laws in
    let placed = c.args.self.now in
    let s = g.T.Transducer.state placed.node in
    let s' = g.T.Transducer.state c.give.new.self in
    let follows : Follows b laws s s' = follows_read b laws s s' c.args.port (signal_of c.args.message) c.requires (either c.give.result c.give.ensures.ok c.give.ensures.err) in
    record {
      reached = follows.reached placed.reached;
      each_input = follows_inputs b laws s s' follows _ placed.each_input;
      each_output = follows_outputs b laws s s' follows _ placed.each_output;
    }
