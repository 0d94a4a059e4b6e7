-- What is driven, beside the graph that it was.
use Rattle.std.specs.Prelude.{◌≡◌}
use Rattle.flow_messages.specs.declared.ends.Ends.{Ghosts as EndsGhosts}
use Rattle.flow_boxes.specs.declared.boxes.Boxes.{Boxes}
use Rattle.flow_edges.specs.declared.lanes.rings.Rings.{Rings as RingEnds}
use Rattle.flow_base.specs.declared.transducer.Transducer.{Ghosts}
use Rattle.flow_networks.specs.declared.graph.Graph.{Graph}
use Rattle.flow_networks.specs.Graphs.{states_of, edges_of}
use Rattle.flow_networks.specs.Places.{states_in}
use Rattle.flow_networks.specs.Shapes.{IsSameNetwork}
use Rattle.flow_shares.specs.meetings.SharedNetworks.{SharedNetwork}
use Rattle.flow_drives.specs.declared.config.Config.{Config}
use Rattle.flow_drives.specs.declared.config.Drive.{Drive}
use Rattle.flow_drives.specs.declared.rested.Rested.{Rested}
use Rattle.flow_drives.specs.Drives.{EndsMaximalRun}
use Rattle.flow_drives.specs.Epochs.{TookRounds, TookEpochs}
use Rattle.flow_drives.specs.Led.{LedBy}
use Rattle.flow_drives.specs.Resteds.{rested_states, rested_edges, rested_rounds, rested_epochs, rested_share, rested_shares, moves_of, traffic_of}

module _ {X : Type 0} {t : Ghosts X} where
  -- the graph at rest has the network of the graph as it was built
  abbrev pub HasNetworkOf : Graph X t → Rested X t → Type 0
  HasNetworkOf graph rested = IsSameNetwork t.behaviour (states_of graph) (edges_of graph) (rested_states rested) (rested_edges rested)

  -- a maximal run of that network, at the capacity of the configuration, ends there
  abbrev pub EndsRunOf : Graph X t → Config → Rested X t → Type 0
  EndsRunOf graph config rested = EndsMaximalRun t.behaviour config.capacity (states_of graph) (edges_of graph) (rested_states rested) (traffic_of rested)

  -- the same of what was dealt out: the graph at rest has its network, and a maximal run of it ends there
  abbrev pub HasSharedNetwork : SharedNetwork t → Rested X t → Type 0
  HasSharedNetwork network rested = IsSameNetwork t.behaviour (states_in network.nodes) network.edges (rested_states rested) (rested_edges rested)

  abbrev pub EndsSharedRun : SharedNetwork t → Rested X t → Type 0
  EndsSharedRun network rested = EndsMaximalRun t.behaviour network.capacity (states_in network.nodes) network.edges (rested_states rested) (traffic_of rested)

  -- the drive took as many rounds, and as many epochs, as it may
  abbrev pub TookItsRounds : Drive → Rested X t → Type 0
  TookItsRounds drive rested = TookRounds drive (rested_rounds rested) (moves_of rested)

  abbrev pub TookItsEpochs : Drive → Rested X t → Type 0
  TookItsEpochs drive rested = TookEpochs drive (rested_epochs rested) (moves_of rested)

  -- what led there is what the drive of the configuration leads
  abbrev pub LedUnder : EndsGhosts Boxes → EndsGhosts RingEnds → Graph X t → Config → Rested X t → Type 0
  LedUnder boxes rings graph config rested = LedBy boxes rings config.drive graph config rested

  -- it names the shares that the configuration names, and there were as many as it has threads
  abbrev pub NamesSharesOf : Config → Rested X t → Type 0
  NamesSharesOf config rested = rested_share rested ≡ config.share.items

  abbrev pub HasThreadsOf : Config → Rested X t → Type 0
  HasThreadsOf config rested = rested_shares rested ≡ config.threads
