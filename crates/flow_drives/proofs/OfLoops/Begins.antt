-- Shares to which a graph was just dealt out: their ends are fresh, and nothing was sent or received on its edges.
use Rattle.std.proofs.Common.{◌≡◌, ℕ, ◌<◌, List, [], length, ◌∙◌, sym, ap, subst, arith}
use Rattle.flow_messages.specs.declared.message.Kind.{Kind}
use Rattle.flow_messages.specs.declared.ends.Ends.{Ghosts as EndsGhosts}
use Rattle.flow_base.specs.declared.transducer.Transducer.{Ghosts}
use Rattle.flow_networks.specs.declared.edge.Edge.{Edge}
use Rattle.flow_networks.specs.declared.graph.Graph.{Graph}
use Rattle.flow_networks.specs.Edges.{edge_at}
use Rattle.flow_networks.specs.Graphs.{states_of, edges_of}
use Rattle.flow_networks.specs.Skeletons.{nodes_of, FitTogether}
use Rattle.flow_networks.specs.EdgeKinds.{edge_kinds}
use Rattle.flow_shares.specs.Deals.{share_of}
use Rattle.flow_shares.specs.declared.share.Share.{Share}
use Rattle.flow_shares.specs.declared.meetings.owners.EdgeOwners.{EdgeOwners}
use Rattle.flow_shares.specs.declared.meetings.dealt.Dealt.{Dealt}
use Rattle.flow_shares.specs.meetings.Open.{HasFreshEnds}
use Rattle.flow_shares.specs.meetings.Deals.{ends_in, IsDealt}
use Rattle.flow_shares.specs.meetings.SharedNetworks.{shared_network, view_at, moves_by, AreFed}
use Rattle.flow_shares.proofs.OfMeetings.Parts.{any_of}
use Rattle.flow_shares.proofs.OfMeetings.Seats.{reader_inside, writer_inside}
use Rattle.flow_shares.proofs.OfMeetings.Views.{sent_at, received_at}
use Rattle.flow_shares.proofs.OfMeetings.Lists.{total_none}
use Rattle.flow_shares.proofs.OfMeetings.More.{writes_there, reads_there}
use Rattle.flow_drives.proofs.OfLoops.ShareLists.{count_dealt, count_ends, view_of_ends}

module _ {X Y : Type 0} {t : Ghosts X} {u : EndsGhosts Y} (joins : Y → Y → ℕ → Type 0) (slots : Y → ℕ → ℕ) (graph : Graph X t) (threads : ℕ) (share : List ℕ) (capacity : ℕ)
    (dealt : Dealt X Y t u) (is : IsDealt joins slots graph threads share capacity dealt) where
  abbrev edges : List Edge
  edges = edges_of graph

  abbrev kinds : List Kind
  kinds = edge_kinds t.behaviour (states_of graph) edges

  abbrev shares : List (Share X Y t u)
  shares = dealt.shares.items

  abbrev owners : List EdgeOwners
  owners = dealt.owners.items

  -- the shares of the writer and the reader of edge e
  abbrev writer : ℕ → ℕ
  writer e = share_of share (edge_at edges e).writer

  abbrev reader : ℕ → ℕ
  reader e = share_of share (edge_at edges e).reader

  none : EdgeOwners
  none = record { writer = 0; reader = 0 }

  fit : FitTogether (nodes_of graph) edges
  fit = record { built = graph.built; seated = graph.seated }

  writes : (e : ℕ) → e < length edges → writer e < length shares
  writes e l = omega (arith, (is.nodes.inside (edge_at edges e).writer (writer_inside edges (nodes_of graph) fit e l)).0, count_dealt shares)

  reads : (e : ℕ) → e < length edges → reader e < length shares
  reads e l = omega (arith, (is.nodes.inside (edge_at edges e).reader (reader_inside edges (nodes_of graph) fit e l)).0, count_dealt shares)

  -- the ends of share s are fresh
  pub fresh_at : (s : ℕ) → s < length shares → HasFreshEnds owners kinds capacity s (view_at shares s)
  fresh_at s l =
      let inside : s < length (ends_in shares) = omega (arith, l, count_ends shares) in
      let d = any_of (ends_in shares) s inside in
      subst (λ v. HasFreshEnds owners kinds capacity s v) (sym (view_of_ends shares s d l)) (is.ends.fresh s d inside)

  -- nothing was sent or received on edge e
  pub none_sent : (e : ℕ) → e < length edges → (view_at shares (writer e)).sent e ≡ []
  none_sent e l =
      let fresh = fresh_at (writer e) (writes e l) in
      fresh.sent e (writes_there owners kinds capacity (writer e) e none (view_at shares (writer e)) fresh (omega (arith, l, is.owners.count)) (is.owners.writers e none l))

  pub none_received : (e : ℕ) → e < length edges → (view_at shares (reader e)).received e ≡ []
  none_received e l =
      let fresh = fresh_at (reader e) (reads e l) in
      fresh.received e (reads_there owners kinds capacity (reader e) e none (view_at shares (reader e)) fresh (omega (arith, l, is.owners.count)) (is.owners.readers e none l))

  pub dealt_none : moves_by (shared_network graph share capacity) (view_at shares) ≡ 0
  dealt_none =
      total_none _ (length edges)
      (λ e l. omega (arith, ap length (sent_at share edges (view_at shares) e l ∙ none_sent e l), ap length (received_at share edges (view_at shares) e l ∙ none_received e l)))

  -- memory was refused to none of them
  pub dealt_fed : AreFed shares
  dealt_fed s d l = (is.new.each s d l).starved
