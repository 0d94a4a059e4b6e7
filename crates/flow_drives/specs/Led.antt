-- The rounds and epochs that led to a graph at rest.
use Rattle.std.specs.Prelude.{◌≡◌, List}
use Rattle.flow_messages.specs.declared.ends.Ends.{Ghosts as EndsGhosts}
use Rattle.flow_boxes.specs.Contents.{view_of}
use Rattle.flow_boxes.specs.declared.boxes.Boxes.{Boxes}
use Rattle.flow_edges.specs.declared.lanes.rings.Rings.{Rings as RingEnds}
use Rattle.flow_base.specs.declared.transducer.Transducer.{Ghosts}
use Rattle.flow_networks.specs.declared.graph.Graph.{Graph}
use Rattle.flow_shares.specs.declared.share.Share.{Share}
use Rattle.flow_shares.specs.meetings.Deals.{nodes_in, ends_in}
use Rattle.flow_shares.specs.meetings.SharedNetworks.{SharedNetwork}
use Rattle.flow_drives.specs.loops.Rounds.{RoundsLead}
use Rattle.flow_drives.specs.loops.Few.{EpochsLead}
use Rattle.flow_drives.specs.declared.config.Config.{Config}
use Rattle.flow_drives.specs.declared.config.Drive.{Drive}
use Rattle.flow_drives.specs.declared.config.Drive.TheVariants.{Serial, Rounds, Rings}
use Rattle.flow_drives.specs.declared.rested.Rested.{Rested}
use Rattle.flow_drives.specs.Apart.{HaveStates}
use Rattle.flow_drives.specs.Dealings.{network_under, AreDealtOverBoxes, AreDealtOverRings}
use Rattle.flow_drives.specs.Edges.{traffic_by}
use Rattle.flow_drives.specs.Resteds.{rested_states, rested_edges, rested_rounds, rested_epochs, rested_share, traffic_of, AreTheShares}

module _ {X : Type 0} {t : Ghosts X} where
  -- Just the rounds that were counted led from these shares to where the graph rests. Each moved a message.
  pub record RoundsLed {u : EndsGhosts Boxes} (network : SharedNetwork t) (shares : List (Share X Boxes t u)) (rested : Rested X t) : Type 0 where
    pub last : List (Share X Boxes t u)
    pub lead : RoundsLead network shares last (rested_rounds rested)
    -- the last shares had all nodes, in the states in which they rest
    pub nodes : HaveStates (rested_share rested) (rested_edges rested) (nodes_in last) (rested_states rested)
    -- and what was sent and received is what their ends say
    pub traffic : traffic_of rested ≡ traffic_by view_of (rested_share rested) (rested_edges rested) (ends_in last)

  -- Just the epochs that were counted led from these shares to those that rest. Each moved a message.
  pub record EpochsLed {u : EndsGhosts RingEnds} (network : SharedNetwork t) (shares : List (Share X RingEnds t u)) (rested : Rested X t) : Type 0 where
    pub last : List (Share X RingEnds t u)
    pub lead : EpochsLead network shares last (rested_epochs rested)
    pub rest : AreTheShares rested last

  -- Rounds led there from shares of the graph, dealt out as the configuration says.
  pub record LedInRounds (u : EndsGhosts Boxes) (graph : Graph X t) (config : Config) (rested : Rested X t) : Type 0 where
    pub dealt : List (Share X Boxes t u)
    pub are_dealt : AreDealtOverBoxes graph config dealt
    pub led : RoundsLed (network_under graph config) dealt rested

  -- Epochs led there from such shares, over rings.
  pub record LedInEpochs (u : EndsGhosts RingEnds) (graph : Graph X t) (config : Config) (rested : Rested X t) : Type 0 where
    pub dealt : List (Share X RingEnds t u)
    pub are_dealt : AreDealtOverRings graph config dealt
    pub led : EpochsLed (network_under graph config) dealt rested

  -- what led there by this drive
  abbrev pub LedBy : EndsGhosts Boxes → EndsGhosts RingEnds → Drive → Graph X t → Config → Rested X t → Type 0
  LedBy boxes rings Serial graph config rested = Unit {0}
  LedBy boxes rings Rounds graph config rested = LedInRounds boxes graph config rested
  LedBy boxes rings Rings graph config rested = LedInEpochs rings graph config rested
