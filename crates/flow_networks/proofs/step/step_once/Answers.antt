use Rattle.std.proofs.Common.{◌≡◌, ◌<◌, sym, ◌∙◌, subst}
use Rattle.flow_messages.specs.Kinds.{FitsEdge}
use Rattle.flow_messages.proofs.Fitting.{kind_fits, fits_still}
use Rattle.flow_networks.specs.Edges.{out_edge}
use Rattle.kahn.specs.declared.want.Want.TheVariants.{Read, Write}
use Rattle.flow_messages.specs.Signals.{signal_of}
use Rattle.flow_messages.specs.Ends.{Taken}
use Rattle.flow_networks.specs.Networks.{state_at}
use Rattle.flow_networks.specs.Graphs.{states_of, edges_of}
use Rattle.flow_networks.proofs.Looks.{put_ends, put_or_lost, moves_read, moves_write}
use Rattle.flow_networks.proofs.Reached.{same_but, state_written}
use Rattle.flow_networks.proofs.Shapes.{shape_opened}
use Rattle.flow_networks.proofs.step.step_once.Goals as goal

pub returns-in_ok-give-in-Read-clause-shape : goal.returns-in_ok-give-in-Read-clause-shape
returns-in_ok-give-in-Read-clause-shape g c =
    shape_opened g.E.Ends.same g.E.Ends.view g.met.T.Transducer.laws c.args.graph.now c.args.ends.now c.give.new.self c.take.new.self c.take.ensures.same c.in-Some.ensures.some.ends
    c.give.ensures.openings c.give.ensures.edges

pub returns-in_ok-give-in-Read-clause-turn : goal.returns-in_ok-give-in-Read-clause-turn
returns-in_ok-give-in-Read-clause-turn g c =
    let b = g.T.Transducer.behaviour in
    let laws = g.met.T.Transducer.laws in
    let states = states_of c.args.graph.now in
    let states' = states_of c.give.new.self in
    let s = state_at b states c.args.node in
    let s' = state_at b states' c.args.node in
    let before = g.E.Ends.view c.args.ends.now in
    let after = g.E.Ends.view c.take.new.self in
    let message = signal_of c.in-Some.message in
    let edge = c.wanted_input-edge.result in
    let wants : b.process.want s ≡ Read c.in-Read.port = sym c.want.ensures ∙ c.in-Read.is in
    let taken : Taken before edge message after = c.in-Some.ensures.some in
    let given = c.in_ok-give-in-Read.ensures.ok in
    let read : s' ≡ b.process.read s message = state_written b states states' c.args.node (b.process.read s message) c.requires.inside given in
    record {
      others = same_but b laws states states' c.give.ensures.openings c.args.node (b.process.read s message) given;
      step = moves_read b (edges_of c.args.graph.now) c.args.node s s' before after c.in-Read.port edge message wants c.wanted_input-edge.ensures.edge taken read;
    }

pub put-requires-clause-fits : goal.put-requires-clause-fits
put-requires-clause-fits g c =
    let b = g.T.Transducer.behaviour in
    let states = states_of c.args.graph.now in
    let k = c.args.node in
    let before = g.E.Ends.view c.args.ends.now in
    let seen = g.E.Ends.view c.room.new.self in
    let q = c.in-Write.port in
    let edge = c.wanted_output-edge in
    let out = out_edge (edges_of c.args.graph.now) k q in
    let message = c.in_ok-message-in-Write.message in
    let takes = kind_fits (before.kind out) (b.kind_out (state_at b states k) q) (b.process.written (state_at b states k)) (c.requires.kinds q edge.ensures.port) edge.ensures.fits in
    let here = subst (λ e. FitsEdge (before.kind e) (b.process.written (state_at b states k))) (sym edge.ensures.edge) takes in
    subst (FitsEdge (seen.kind edge.result)) (sym c.in_ok-message-in-Write.ensures.message)
    (fits_still before seen edge.result (b.process.written (state_at b states k)) c.room.ensures.looked.ends here)

pub returns-in_ok-message-in-Write-clause-shape : goal.returns-in_ok-message-in-Write-clause-shape
returns-in_ok-message-in-Write-clause-shape g c =
    shape_opened g.E.Ends.same g.E.Ends.view g.met.T.Transducer.laws c.args.graph.now c.args.ends.now c.emit.new.self c.put.new.self
    (g.met.E.Ends.same_trans c.args.ends.now c.room.new.self c.put.new.self c.room.ensures.same c.put.ensures.same)
    (put_ends (g.E.Ends.view c.args.ends.now) (g.E.Ends.view c.room.new.self) (g.E.Ends.view c.put.new.self) c.wanted_output-edge.result
    (signal_of c.in_ok-message-in-Write.message) c.in_ok-message-in-Write.message
    c.room.ensures.looked c.put.result c.put.ensures.ok c.put.ensures.refused)
    c.emit.ensures.openings c.emit.ensures.edges

pub returns-in_ok-message-in-Write-clause-turn : goal.returns-in_ok-message-in-Write-clause-turn
returns-in_ok-message-in-Write-clause-turn g c =
    let b = g.T.Transducer.behaviour in
    let laws = g.met.T.Transducer.laws in
    let states = states_of c.args.graph.now in
    let states' = states_of c.emit.new.self in
    let s = state_at b states c.args.node in
    let s' = state_at b states' c.args.node in
    let before = g.E.Ends.view c.args.ends.now in
    let seen = g.E.Ends.view c.room.new.self in
    let after = g.E.Ends.view c.put.new.self in
    let message = c.in_ok-message-in-Write.message in
    let edge = c.wanted_output-edge.result in
    let written = c.in_ok-message-in-Write.ensures in
    let wants : b.process.want s ≡ Write c.in-Write.port = sym c.want.ensures ∙ c.in-Write.is in
    let wrote : s' ≡ b.process.wrote s = state_written b states states' c.args.node (b.process.wrote s) c.requires.inside written.ok in
    let certain : 0 < seen.room edge = c.room.ensures.value.0 (cc (c.if-not-room.false)) in
    record {
      others = same_but b laws states states' c.emit.ensures.openings c.args.node (b.process.wrote s) written.ok;
      step = moves_write b (edges_of c.args.graph.now) c.args.node s s' before after c.in-Write.port edge (signal_of message) wants c.wanted_output-edge.ensures.edge written.message wrote
          (put_or_lost before seen after edge (signal_of message) message c.room.ensures.looked c.put.result certain c.put.ensures.ok
          c.put.ensures.refused c.put.ensures.closed c.put.ensures.succeeds);
    }
