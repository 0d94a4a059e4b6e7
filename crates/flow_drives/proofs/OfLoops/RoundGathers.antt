-- Nodes that are gathered again stand where the run of their shares came to rest.
use Rattle.std.proofs.Common.{◌≡◌, List, sym, subst}
use Rattle.std.specs.Prelude.{Some}
use Rattle.kahn.specs.Configurations.{start}
use Rattle.kahn.specs.Runs.{Reaches, AtRest}
use Rattle.flow_messages.specs.declared.ends.Ends.{Ghosts as EndsGhosts}
use Rattle.flow_base.specs.declared.transducer.Transducer.{Ghosts}
use Rattle.flow_boxes.specs.declared.boxes.Boxes.{Boxes}
use Rattle.flow_boxes.specs.Contents.{Contents}
use Rattle.flow_shares.specs.Deals.{AreDealt}
use Rattle.flow_shares.specs.declared.share.Share.{Share}
use Rattle.flow_shares.specs.meetings.Deals.{nodes_in, ends_in}
use Rattle.flow_shares.specs.meetings.SharedNetworks.{SharedNetwork}
use Rattle.flow_shares.specs.meetings.Joints.{BoxesHaveMet, AreStates}
use Rattle.flow_shares.specs.meetings.RoundTheorems.{net_of, box_configuration}
use Rattle.flow_shares.proofs.OfMeetings.States.{states_are_one}
use Rattle.flow_drives.specs.loops.Standing.{boxes_seen, boxes_of, RestBetweenRounds}
use Rattle.flow_drives.proofs.OfLoops.RoundMeets.{seen_is}

-- A run of the network led to where the nodes have these states and the boxes say this, no node can step there, and all
-- edges have met.
pub record HaveComeToRest {X : Type 0} {t : Ghosts X} (network : SharedNetwork t) (states : List t.State) (boxes : List Contents) : Type 0 where
  pub met : BoxesHaveMet network.share network.edges boxes network.capacity
  pub reaches : Reaches t.behaviour.process (net_of network.nodes network.edges) (Some network.capacity) (start (net_of network.nodes network.edges))
      (box_configuration t network.share network.edges states boxes)
  pub rest : AtRest t.behaviour.process (net_of network.nodes network.edges) (Some network.capacity) (box_configuration t network.share network.edges states boxes)

module _ {X : Type 0} {t : Ghosts X} {u : EndsGhosts Boxes} (network : SharedNetwork t) (shares : List (Share X Boxes t u)) (rest : RestBetweenRounds network shares)
    (states : List t.State) (are : (deals : AreDealt network.share network.nodes (nodes_in shares)) → AreStates network.share network.nodes (nodes_in shares) deals states) where
  -- they have the states in which the run ended
  are_the_states : rest.stand.states ≡ states
  are_the_states = states_are_one network.share network.edges network.nodes network.fit (nodes_in shares) rest.stand.deals rest.stand.deals
      rest.stand.states states rest.stand.are_states (are rest.stand.deals)

  pub come_to_rest : (boxes : List Boxes) → boxes ≡ ends_in shares → HaveComeToRest network states (boxes_seen boxes)
  come_to_rest boxes taken =
      subst (λ b. HaveComeToRest network states b) (sym (seen_is shares boxes taken))
      (subst (λ s. HaveComeToRest network s (boxes_of shares)) are_the_states
      (record { met = rest.stand.met; reaches = rest.stand.reaches; rest = rest.rest }))
