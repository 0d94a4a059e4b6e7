use Rattle.std.proofs.Common.{Err, ap}
use Rattle.flow_networks.specs.Graphs.{states_of, edges_of}
use Rattle.snesl_flatten.specs.network.NodesAtRest.{final_view}
use Rattle.snesl_flatten.proofs.OfNetwork.Refusing.{has_network}
use Rattle.snesl_flatten.proofs.OfNetwork.Resting.{comes_to_rest}
use Rattle.flow_nodes.proofs.Sending.{nodes_cross}
use Rattle.snesl_flatten.proofs.network.driving.driven.Goals as goal

pub returns-in-Ok-clause-rests : goal.returns-in-Ok-clause-rests
returns-in-Ok-clause-rests g c text input meant =
    comes_to_rest text input (states_of c.args.graph) (edges_of c.args.graph) meant c.one_meaning.ensures.one c.args.config.now (final_view c.in-Ok.rested)
    c.in-Ok.ensures.network c.in-Ok.ensures.capacity c.rested_is_sound.ensures.sound c.rested_is_sound.ensures.rest
    c.flow_is_carried.ensures.begins c.flow_runs_to_end.ensures.rest c.requires.lawful c.rested_is_sound.ensures.fits c.in-Ok.ensures.run

pub returns-in-Ok-clause-drive : goal.returns-in-Ok-clause-drive
returns-in-Ok-clause-drive g c =
    record {
      rings = c.in-Ok.ensures.rings;
      rounds = c.in-Ok.ensures.rounds;
      epochs = c.in-Ok.ensures.epochs;
      share = c.in-Ok.ensures.share;
      shares =
          c.in-Ok.ensures.shares;
    }

pub returns-in-Err-NoThread-clause-refused : goal.returns-in-Err-NoThread-clause-refused
returns-in-Err-NoThread-clause-refused g c text input meant = (
  c.in-Err-NoThread.ensures.threads (ap Err c.in-Err-NoThread.field-0-is),
  has_network text input (states_of c.args.graph) (edges_of c.args.graph) meant,
)

pub drive_with-requires-send-T : goal.drive_with-requires-send-T
drive_with-requires-send-T g c κs within = search nodes_cross
