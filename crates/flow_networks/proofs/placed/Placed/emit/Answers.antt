use Rattle.std.proofs.Common.{◌≡◌, OnOk}
use Rattle.flow_networks.proofs.Reached.{Follows, follows_wrote, follows_inputs, follows_outputs, writes_port, either, if_ok, if_ok_if}
use Rattle.flow_networks.proofs.placed.Placed.emit.Goals as goal

pub invariant_of-self : goal.invariant_of-self
invariant_of-self g c =
    let b = g.T.Transducer.behaviour in
    let laws = g.met.T.Transducer.laws in
    let placed = c.args.self.now in
    let s = g.T.Transducer.state placed.node in
    let s' = g.T.Transducer.state c.emit.new.self in
    let wants = writes_port (b.process.want s) c.requires in
    let wrote : OnOk c.emit.result (s' ≡ b.process.wrote s) = if_ok _ c.emit.result (λ m p. p.1) c.emit.ensures.ok in
    let follows : Follows b laws s s' = follows_wrote b laws s s' wants.0 wants.1 (either c.emit.result wrote c.emit.ensures.err) in
    record {
      reached = follows.reached placed.reached;
      each_input = follows_inputs b laws s s' follows _ placed.each_input;
      each_output = follows_outputs b laws s s' follows _ placed.each_output;
    }

pub returns-clause-message : goal.returns-clause-message
returns-clause-message g c = if_ok_if _ _ c.emit.result (λ m p. p.0) c.emit.ensures.ok

pub returns-clause-ok : goal.returns-clause-ok
returns-clause-ok g c = if_ok _ c.emit.result (λ m p. p.1) c.emit.ensures.ok
