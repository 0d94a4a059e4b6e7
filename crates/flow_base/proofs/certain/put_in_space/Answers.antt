use Rattle.flow_messages.specs.Signals.{signal_of}
use Rattle.flow_base.proofs.Kernels.{put_sure, put_room}
use Rattle.flow_base.proofs.certain.put_in_space.Goals as goal

pub returns-clause-wrote : goal.returns-clause-wrote
returns-clause-wrote g c =
    put_sure (g.E.Ends.view c.args.ends.now) (g.E.Ends.view c.put.new.self) c.args.edge c.args.message c.put.result c.requires.certain
    c.put.ensures.ok c.put.ensures.refused c.put.ensures.closed c.put.ensures.succeeds

pub returns-clause-room : goal.returns-clause-room
returns-clause-room g c =
    put_room (g.E.Ends.view c.args.ends.now) (g.E.Ends.view c.put.new.self) c.args.edge (signal_of c.args.message) c.args.message c.put.result
    c.put.ensures.ok c.put.ensures.refused
