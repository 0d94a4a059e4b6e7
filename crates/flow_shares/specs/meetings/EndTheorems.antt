-- What holds of shares whatever ends they have, where share s sees `view_at s`: the statements, each of which is the
-- contract of a function in src/theorems.rt.
use Rattle.std.specs.Prelude.{ℕ, ◌<◌, List, length, Some}
use Rattle.std.specs.List.{All}
use mathlib.Core.List.{IsPrefix}
use Rattle.kahn.specs.Configurations.{Configuration, IsSound}
use Rattle.kahn.specs.Runs.{AtRest}
use Rattle.flow_messages.specs.Signals.{Signal}
use Rattle.flow_messages.specs.Ends.{View}
use Rattle.flow_base.specs.declared.transducer.Transducer.{Ghosts}
use Rattle.flow_networks.specs.declared.edge.Edge.{Edge}
use Rattle.flow_networks.specs.declared.placed.Placed.{Placed}
use Rattle.flow_networks.specs.Networks.{configuration_of}
use Rattle.flow_networks.specs.Skeletons.{FitTogether}
use Rattle.flow_shares.specs.Shares.{IsOwn, AreStuck}
use Rattle.flow_shares.specs.meetings.Met.{Met}
use Rattle.flow_shares.specs.Deals.{AreDealt}
use Rattle.flow_shares.specs.meetings.Joints.{nodes_at, writer_view, reader_view, end_view, AreStates}
use Rattle.flow_shares.specs.meetings.RoundTheorems.{net_of}

module _ (share : List ℕ) (edges : List Edge) (view_at : ℕ → View) where
  -- on each edge, what was received is a prefix of what was sent
  abbrev pub AllBegin : Type 0
  AllBegin = (e : ℕ) → e < length edges → IsPrefix ((reader_view share edges view_at e).received e) ((writer_view share edges view_at e).sent e)

  -- the ends of every edge have met, and it holds at most so many messages
  abbrev pub EdgesHaveMet : ℕ → Type 0
  EdgesHaveMet most = (e : ℕ) → e < length edges → Met (writer_view share edges view_at e) (reader_view share edges view_at e) most e

module _ {X : Type 0} {t : Ghosts X} (dealt : List (List (Placed X t))) (view_at : ℕ → View) where
  -- each node's history is that of its own ends
  abbrev pub AllAreOwn : Type 0
  AllAreOwn = (s : ℕ) → s < length dealt → All (IsOwn (view_at s)) (nodes_at dealt s)

  -- no node of a share can step by what its own ends are certain of
  abbrev pub AllAreStuck : Type 0
  AllAreStuck = (s : ℕ) → s < length dealt → AreStuck (view_at s) (nodes_at dealt s)

-- where the nodes stand, with what the ends of all shares say
abbrev pub end_configuration : {X : Type 0} (t : Ghosts X) → List ℕ → List Edge → List t.State → (ℕ → View) → Configuration t.State Signal
end_configuration t share edges states view_at = configuration_of t.behaviour states (end_view share edges view_at)

module _ {X : Type 0} (t : Ghosts X) where
  -- where each node's history is that of its own ends, and on each edge what was received is a prefix of what was
  -- sent, the configuration is sound
  abbrev pub OwnSharesAreSound : Type 0
  OwnSharesAreSound =
      (share : List ℕ) (edges : List Edge) (nodes : List (Placed X t)) → FitTogether nodes edges
      → (dealt : List (List (Placed X t))) (deals : AreDealt share nodes dealt) (states : List t.State) → AreStates share nodes dealt deals states
      → (view_at : ℕ → View) → AllBegin share edges view_at → AllAreOwn dealt view_at
      → ∥ IsSound t.behaviour.process (net_of nodes edges) (end_configuration t share edges states view_at) ∥₁

  -- where the ends of every edge have met, and no node of any share can step by what its own ends are certain of, no
  -- node can step
  abbrev pub StuckSharesRest : Type 0
  StuckSharesRest =
      (capacity : ℕ) (share : List ℕ) (edges : List Edge) (nodes : List (Placed X t)) → FitTogether nodes edges
      → (dealt : List (List (Placed X t))) (deals : AreDealt share nodes dealt) (states : List t.State) → AreStates share nodes dealt deals states
      → (view_at : ℕ → View) → EdgesHaveMet share edges view_at capacity → AllAreStuck dealt view_at
      → AtRest t.behaviour.process (net_of nodes edges) (Some capacity) (end_configuration t share edges states view_at)
