-- What contracts see of a graph at rest.
use Rattle.std.specs.Prelude.{◌≡◌, ℕ, List, length}
use Rattle.flow_messages.specs.Ends.{View}
use Rattle.flow_messages.specs.declared.ends.Ends.{Ghosts as EndsGhosts}
use Rattle.flow_edges.specs.declared.lanes.rings.Rings.{Rings}
use Rattle.flow_edges.specs.lanes.Rings.{ends_of}
use Rattle.flow_shares.specs.meetings.RingMeetings.{RingsJoin}
use Rattle.flow_base.specs.declared.transducer.Transducer.{Ghosts}
use Rattle.flow_networks.specs.declared.edge.Edge.{Edge}
use Rattle.flow_shares.specs.declared.share.Share.{Share}
use Rattle.flow_shares.specs.meetings.Deals.{nodes_in, ends_in}
use Rattle.flow_shares.specs.meetings.SharedNetworks.{AreFed}
use Rattle.flow_drives.specs.Apart.{HaveSlots, HaveStates, traffic_apart}
use Rattle.flow_drives.specs.Edges.{AreJoined, moves_over}
use Rattle.flow_drives.specs.Parts.{states_at, edges_at, traffic_at, capacity_at, share_at, shares_at, StayInShares}
use Rattle.flow_drives.specs.declared.rested.Rested.{Rested}

module _ {X : Type 0} {t : Ghosts X} where
  -- the states of its nodes
  abbrev pub rested_states : Rested X t → List t.State
  rested_states rested = states_at rested.parts

  -- its edges
  abbrev pub rested_edges : Rested X t → List Edge
  rested_edges rested = edges_at rested.parts

  -- what was sent and received on its edges
  abbrev pub traffic_of : Rested X t → View
  traffic_of rested = traffic_at rested.parts

  -- how many messages each edge held at most
  abbrev pub rested_capacity : Rested X t → ℕ
  rested_capacity rested = capacity_at rested.parts

  -- how many rounds it took
  abbrev pub rested_rounds : Rested X t → ℕ
  rested_rounds rested = rested.rounds

  -- how many epochs it took
  abbrev pub rested_epochs : Rested X t → ℕ
  rested_epochs rested = rested.epochs

  -- how many messages were sent and received on all its edges
  abbrev pub moves_of : Rested X t → ℕ
  moves_of rested = moves_over (rested_edges rested) (traffic_of rested)

  -- it was driven over rings, and its nodes stayed in their shares
  abbrev pub IsOverRings : Rested X t → Type 0
  IsOverRings rested = StayInShares rested.parts

  -- which share had each of its nodes, and with it the ends of the edges there, where it was dealt out
  abbrev pub rested_share : Rested X t → List ℕ
  rested_share rested = share_at rested.parts

  -- to how many shares it was dealt out: 0 where it was not
  abbrev pub rested_shares : Rested X t → ℕ
  rested_shares rested = shares_at rested.parts

  -- These are its shares, in the order in which its list names them, at rest.
  pub record AreTheShares {u : EndsGhosts Rings} (rested : Rested X t) (shares : List (Share X Rings t u)) : Type 0 where
    pub over : IsOverRings rested
    pub count : length shares ≡ rested_shares rested
    -- they have all nodes, and the states of these are those of the network
    pub nodes : ∥ HaveStates (rested_share rested) (rested_edges rested) (nodes_in shares) (rested_states rested) ∥₁
    -- what was sent and received is what their ends say
    pub traffic : traffic_of rested ≡ traffic_apart (rested_share rested) (rested_edges rested) shares
    -- both ends of each edge are among theirs, are the two of one edge, and have met
    pub joined : ∥ AreJoined ends_of (rested_share rested) (rested_edges rested) (ends_in shares) RingsJoin (rested_capacity rested) ∥₁
    -- and its ring has as many slots as each edge holds messages at most
    pub slots : HaveSlots (rested_share rested) (rested_edges rested) (ends_in shares) (rested_capacity rested)
    -- memory was refused to none of them
    pub fed : AreFed shares
