use Rattle.std.proofs.Common.{◌≡◌, refl}
use Rattle.flow_networks.proofs.Reached.{Follows, follows_inputs, follows_outputs}
use Rattle.flow_networks.proofs.Carried.{follows_visit}
use Rattle.flow_networks.proofs.Seats.{is_placed}
use Rattle.flow_networks.proofs.placed.Placed.run.Goals as goal

pub invariant_of-self : goal.invariant_of-self
invariant_of-self g c =
    let b = g.T.Transducer.behaviour in
    let laws = g.met.T.Transducer.laws in
    let placed = c.args.self.now in
    let s = g.T.Transducer.state placed.node in
    let s' = g.T.Transducer.state c.run.new.self in
    let follows : Follows b laws s s' = follows_visit b laws _ _ s _ s' _ c.run.result c.run.ensures.visited c.run.ensures.broke in
    record {
      reached = follows.reached placed.reached;
      each_input = follows_inputs b laws s s' follows _ placed.each_input;
      each_output = follows_outputs b laws s s' follows _ placed.each_output;
    }

pub returns-clause-place : goal.returns-clause-place
returns-clause-place g c =
    let b = g.T.Transducer.behaviour in
    let laws = g.met.T.Transducer.laws in
    let s = g.T.Transducer.state c.args.self.now.node in
    let s' = g.T.Transducer.state c.run.new.self in
    let follows : Follows b laws s s' = follows_visit b laws _ _ s _ s' _ c.run.result c.run.ensures.visited c.run.ensures.broke in
    record { number = refl; inputs = refl; outputs = refl; opening = follows.opening }

pub run-requires-clause-placed : goal.run-requires-clause-placed
run-requires-clause-placed g c =
    let ins : c.deref.result.now ≡ c.args.self.now.inputs.items = cc in
    let outs : c.deref-2.result.now ≡ c.args.self.now.outputs.items = cc in
    is_placed c.args.self.now c.requires.reads c.requires.writes c.requires.kinds ins outs
