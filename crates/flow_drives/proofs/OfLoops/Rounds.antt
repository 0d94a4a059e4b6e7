-- A round is a run of the network, and where it moved nothing no node can step.
use Rattle.std.proofs.Common.{◌≡◌, ℕ, ◌+◌, ◌-◌, ◌<◌, List, [], length, Some, refl, sym, subst, arith}
use Rattle.kahn.specs.Processes.{Process}
use Rattle.kahn.specs.Networks.{Network}
use Rattle.kahn.specs.Configurations.{Configuration, start, moved, IsSound}
use Rattle.kahn.specs.Runs.{Reaches}
use Rattle.kahn.proofs.Steps.{sound_start, sound_run}
use Rattle.kahn.proofs.Finite.{most_events, run_most}
use Rattle.kahn.proofs.Traffic.{moved_run}
use Rattle.kahn.proofs.Turns.{reaches_then}
use Rattle.flow_messages.specs.Signals.{Signal}
use Rattle.flow_messages.specs.declared.ends.Ends.{Ghosts as EndsGhosts}
use Rattle.flow_base.specs.Transducers.{BehaviourLaws}
use Rattle.flow_base.specs.declared.transducer.Transducer.{Ghosts}
use Rattle.flow_boxes.specs.declared.boxes.Boxes.{Boxes}
use Rattle.flow_shares.specs.declared.share.Share.{Share}
use Rattle.flow_shares.specs.Deals.{AreDealt}
use Rattle.flow_shares.specs.meetings.Joints.{AreStates}
use Rattle.flow_shares.specs.meetings.RoundTheorems.{NothingMoved, HaveGoneOn, AllStuck, net_of, box_configuration}
use Rattle.flow_shares.proofs.OfMeetings.Seats.{dealt_later}
use Rattle.flow_shares.proofs.OfMeetings.States.{states_of_shares, are_states}
use Rattle.flow_shares.proofs.OfMeetings.Rounds.{a_round_is_a_run}
use Rattle.flow_shares.proofs.OfMeetings.Carried.{carrying_keeps_the_configuration}
use Rattle.flow_shares.proofs.OfMeetings.Calm.{calm_rounds_rest}
use Rattle.flow_shares.specs.meetings.Deals.{nodes_in}
use Rattle.flow_shares.specs.meetings.SharedNetworks.{SharedNetwork}
use Rattle.flow_drives.specs.loops.Standing.{boxes_of, moved_in, shares_configuration, HaveMetSince, StandBetweenRounds, RestBetweenRounds}
use Rattle.flow_drives.proofs.OfLoops.Shares.{even_boxes}

module _ {X : Type 0} {t : Ghosts X} (laws : BehaviourLaws t.behaviour) (network : SharedNetwork t) where
  abbrev P : Process t.State Signal
  P = t.behaviour.process

  abbrev net : Network t.State
  net = net_of network.nodes network.edges

  abbrev first : Configuration t.State Signal
  first = start net

  -- so many messages at most are sent and received in all
  pub most_moved : ℕ
  most_moved = most_events P net network.fit.built.wired laws.settles first (λ e inside. ([], refl)) + moved net first

  module _ {u : EndsGhosts Boxes} where
    module _ (shares back new : List (Share X Boxes t u)) (stand : StandBetweenRounds network shares)
        (went : HaveGoneOn (nodes_in shares) (nodes_in back) (boxes_of shares) (boxes_of back)) (met : HaveMetSince network back new) where
      gone : HaveGoneOn (nodes_in shares) (nodes_in new) (boxes_of shares) (boxes_of back)
      gone = subst (λ later. HaveGoneOn (nodes_in shares) later (boxes_of shares) (boxes_of back)) (sym met.nodes) went

      abbrev deals : AreDealt network.share network.nodes (nodes_in new)
      deals = dealt_later network.share network.nodes (nodes_in shares) (nodes_in new) stand.deals gone.count gone.places

      abbrev states : List t.State
      states = states_of_shares network.share network.edges network.nodes network.fit (nodes_in new) deals

      are : AreStates network.share network.nodes (nodes_in new) deals states
      are = are_states network.share network.edges network.nodes network.fit (nodes_in new) deals

      -- where the network stood before the round, after the pumps, and now
      abbrev c : Configuration t.State Signal
      c = shares_configuration network stand.states shares

      abbrev d : Configuration t.State Signal
      d = box_configuration t network.share network.edges states (boxes_of back)

      abbrev e : Configuration t.State Signal
      e = shares_configuration network states new

      sound : IsSound P net c
      sound = sound_run P net network.fit.built.wired (Some network.capacity) stand.reaches.0 first c (sound_start P net) stand.reaches.1

      run : Reaches P net (Some network.capacity) c d × ((NothingMoved (length (nodes_in shares)) (boxes_of shares) (boxes_of back) → ⊥) → moved net c < moved net d)
      run =
          a_round_is_a_run t laws network.capacity network.share network.edges network.nodes network.fit (nodes_in shares) (nodes_in new) stand.deals deals stand.states states stand.are_states are
          (boxes_of shares) (boxes_of back) stand.met sound gone

      carried : e ≡ d
      carried = carrying_keeps_the_configuration t network.share network.edges states (boxes_of back) (boxes_of new) (even_boxes back new met.numbers) met.traffic

      pub stands : StandBetweenRounds network new
      stands = record {
        deals = deals;
        fed = met.fed;
        met = met.met;
        states = states;
        are_states = are;
        reaches = reaches_then P net (Some network.capacity) first c e stand.reaches (subst (λ x. Reaches P net (Some network.capacity) c x) (sym carried) run.0);
      }

      pub moves : (NothingMoved (length (nodes_in shares)) (boxes_of shares) (boxes_of back) → ⊥) → moved_in network (boxes_of shares) < moved_in network (boxes_of new)
      moves some = subst (λ x. moved net c < moved net x) (sym carried) (run.1 some)

    -- where no node can step by its boxes, none can at all
    pub rests : (shares : List (Share X Boxes t u)) → StandBetweenRounds network shares → AllStuck (nodes_in shares) (boxes_of shares) → RestBetweenRounds network shares
    rests shares stand stuck = record {
      stand = stand;
      rest = calm_rounds_rest t network.capacity network.share network.edges network.nodes network.fit (nodes_in shares) stand.deals stand.states stand.are_states (boxes_of shares) stand.met stuck;
    }

    pub within_most : (shares : List (Share X Boxes t u)) → StandBetweenRounds network shares → moved_in network (boxes_of shares) < most_moved + 1
    unfolding most_moved
    within_most shares stand =
        let c : Configuration t.State Signal = shares_configuration network stand.states shares in
        let most = run_most P net network.fit.built.wired laws.settles (Some network.capacity) stand.reaches.0 first c (λ e inside. ([], refl)) stand.reaches.1 in
        let count : moved net c ≡ length stand.reaches.0 + moved net first = moved_run P net (Some network.capacity) stand.reaches.0 first c stand.reaches.1 in
        omega (arith, most, count)

    -- a round that moves something leaves less to move
    pub left_falls : (shares new : List (Share X Boxes t u)) → StandBetweenRounds network new →
        moved_in network (boxes_of shares) < moved_in network (boxes_of new) →
        most_moved - moved_in network (boxes_of new) < most_moved - moved_in network (boxes_of shares)
    left_falls shares new stand more = omega (arith, more, within_most new stand)
