-- What a block of scalar messages makes of a node and of the edges at its ports.
use Rattle.std.specs.Prelude.{◌≡◌, ◌≢◌, ℕ, ◌<◌, ◌≤◌, true, cond, List, [], ◌++◌, length}
use Rattle.std.specs.List.{All}
use mathlib.Core.List.{IsPrefix}
use Rattle.kahn.specs.Processes.{Event, Does, reads, writes}
use Rattle.flow_messages.specs.declared.flat.Flat.{Flat}
use Rattle.flow_messages.specs.declared.message.Kind.{Kind}
use Rattle.flow_messages.specs.Signals.{Signal, ended, orderly}
use Rattle.flow_messages.specs.Flats.{flat_signals, BlockFitsEdge}
use Rattle.flow_messages.specs.Ends.{View, SameEnds}
use Rattle.flow_base.specs.Transducers.{Behaviour}
use Rattle.flow_base.specs.Passing.{MayCome}
use Rattle.flow_base.specs.Visits.{edge_of, LeavesAlone, Went}
use Rattle.flow_networks.specs.declared.edge.Edge.{Edge}
use Rattle.flow_networks.specs.Edges.{in_edge, out_edge}
use Rattle.flow_networks.specs.Networks.{state_at, inputs_at, outputs_at, SameBut}

-- each port has an edge of its own
abbrev pub AreApart : List ℕ → Type 0
AreApart edges = (p q : ℕ) → p < length edges → q < length edges → edge_of edges p ≡ edge_of edges q → p ≡ q

-- these come next where c is certain, and each is the end or an item of the kind
pub record ComeNext (k : Kind) (c ms : List Signal) : Type 0 where
  pub first : IsPrefix ms c
  pub may_come : MayCome k ms

-- these come next where c is certain, at a port of whatever kind
abbrev pub ComeNextAtAny : List Signal → List Signal → Type 0
ComeNextAtAny c ms = (k : Kind) → ComeNext k c ms

-- each of these edges is certain to have room for so many messages
abbrev pub HaveRoomFor : List ℕ → ℕ → View → Type 0
HaveRoomFor edges n v = (q : ℕ) → q < length edges → n ≤ v.room (edge_of edges q)

-- nothing was sent or received, and no end is certain of more but for room on these edges
abbrev pub OnlySeesRoom : List ℕ → View → View → Type 0
OnlySeesRoom edges a v = (inputs : List ℕ) → LeavesAlone inputs edges a v

-- each edge takes all of the block, and is certain to have room for it
pub record MayTake (edges : List ℕ) (block : List Flat) (v : View) : Type 0 where
  pub writes : All (λ e. v.writes e ≡ true) edges
  pub fit : (q : ℕ) → q < length edges → BlockFitsEdge (v.kind (edge_of edges q)) block
  pub last : (q : ℕ) → q < length edges → orderly (flat_signals block) ≡ true
  pub room : (q : ℕ) → q < length edges → length block ≤ v.room (edge_of edges q)

-- these messages were put on each of the first n edges, in order, unless it had ended
pub record PutOnFirst (edges : List ℕ) (n : ℕ) (ms : List Signal) (a v : View) : Type 0 where
  pub ends : SameEnds a v
  pub sent : (q : ℕ) → q < n → v.sent (edge_of edges q) ≡ cond (ended (a.sent (edge_of edges q))) (a.sent (edge_of edges q)) (a.sent (edge_of edges q) ++ ms)
  pub others : (e : ℕ) → ((q : ℕ) → q < n → e ≢ edge_of edges q) → v.sent e ≡ a.sent e
  pub room : (e : ℕ) → ((q : ℕ) → q < n → e ≢ edge_of edges q) → v.room e ≡ a.room e
  pub received : (e : ℕ) → v.received e ≡ a.received e
  pub coming : (e : ℕ) → IsPrefix (a.coming e) (v.coming e)

-- the block was put on each of these edges, unless it had ended
abbrev pub PutOnAll : List ℕ → List Flat → View → View → Type 0
PutOnAll edges block a v = PutOnFirst edges (length edges) (flat_signals block) a v

module _ {S : Type 0} (b : Behaviour S) where
  -- From s to t it read these messages at its first port and none at another, and wrote these to each output, in so many steps.
  pub record InBlock (s : S) (read : List Signal) (t : S) (written : List Signal) (steps : ℕ) : Type 0 where
    pub history : List (Event Signal)
    pub does : Does b.process s history t
    pub reads_are : reads 0 history ≡ read
    pub no_others : (p : ℕ) → p ≢ 0 → reads p history ≡ []
    pub writes_are : (q : ℕ) → q < b.outputs s → writes q history ≡ written
    pub counts : length history ≡ steps

  -- from s to t it read nothing and wrote just this block, in as many steps as it has messages
  abbrev pub DrawsBlock : S → S → List Flat → Type 0
  DrawsBlock s t block = InBlock s [] t (flat_signals block) (length block)

  -- The node made just so many steps over the edges at its ports, and the other nodes stand where they stood.
  pub record MovesBlock (node : ℕ) (edges : List Edge) (states : List S) (view : View) (states' : List S) (view' : View) (steps : ℕ) : Type 0 where
    -- the edges at its ports
    pub inputs : List ℕ
    pub outputs : List ℕ
    pub each_input : length inputs ≡ inputs_at b states node
    pub each_output : length outputs ≡ outputs_at b states node
    pub reads : (p : ℕ) → p < inputs_at b states node → edge_of inputs p ≡ in_edge edges node p
    pub writes : (q : ℕ) → q < outputs_at b states node → edge_of outputs q ≡ out_edge edges node q
    pub went : Went inputs outputs b (state_at b states node) view (state_at b states' node) view' steps
    pub others : SameBut b node states states'
