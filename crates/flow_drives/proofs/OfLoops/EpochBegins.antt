-- Shares over rings to which a graph was just dealt out are of one graph.
use Rattle.std.proofs.Common.{◌≡◌, ◌==◌, ℕ, ◌<◌, true, false, List, length, get_or, sym, ◌∙◌, subst, arith}
use Rattle.std.proofs.lemmas.Bool.{eqb-true}
use Rattle.std.proofs.lemmas.List.{get_or-map}
use Rattle.flow_messages.specs.declared.message.Kind.{Kind}
use Rattle.flow_messages.specs.Tables.{at_line}
use Rattle.flow_messages.specs.declared.ends.Ends.{Ghosts as EndsGhosts}
use Rattle.flow_base.specs.declared.transducer.Transducer.{Ghosts}
use Rattle.flow_networks.specs.declared.edge.Edge.{Edge}
use Rattle.flow_networks.specs.declared.graph.Graph.{Graph}
use Rattle.flow_networks.specs.Edges.{edge_at}
use Rattle.flow_networks.specs.Graphs.{states_of, edges_of}
use Rattle.flow_networks.specs.Skeletons.{nodes_of}
use Rattle.flow_networks.specs.EdgeKinds.{edge_kinds}
use Rattle.flow_edges.specs.declared.lanes.rings.Rings.{Rings}
use Rattle.flow_edges.proofs.OfLanes.RingLines.{at_line-there}
use Rattle.flow_shares.specs.declared.meetings.owners.EdgeOwners.{EdgeOwners}
use Rattle.flow_shares.specs.meetings.RingMeetings.{RingsJoin, ring_slots}
use Rattle.flow_shares.specs.Deals.{share_of}
use Rattle.flow_shares.proofs.Stays.{as_given}
use Rattle.flow_shares.specs.declared.share.Share.{Share}
use Rattle.flow_shares.specs.declared.meetings.dealt.Dealt.{Dealt}
use Rattle.flow_shares.specs.meetings.Open.{HasFreshEnds}
use Rattle.flow_shares.specs.meetings.Deals.{nodes_in, ends_in, IsDealt}
use Rattle.flow_shares.specs.meetings.SharedNetworks.{SharedNetwork, shared_network, view_at}
use Rattle.flow_drives.specs.loops.Epochs.{AreOfOneGraph}
use Rattle.flow_drives.proofs.OfLoops.Begins.{fresh_at}

-- a owner that names share s is there where an end is
names : (f : EdgeOwners → ℕ) (owners : List EdgeOwners) (s e : ℕ) (w : EdgeOwners) → at_line (λ owner. f owner == s) owners e false ≡ true → (e < length owners) × (f (get_or owners e w) ≡ s)
names f owners s e w is =
    let inside : e < length owners = at_line-there (λ owner. f owner == s) owners e is in
    (inside, eqb-true (f (get_or owners e w)) s (sym (get_or-map (λ owner. f owner == s) owners e w false inside) ∙ is))

module _ {X : Type 0} {t : Ghosts X} {u : EndsGhosts Rings} (graph : Graph X t) (threads : ℕ) (share : List ℕ) (capacity : ℕ) (dealt : Dealt X Rings t u)
    (is : IsDealt RingsJoin ring_slots graph threads share capacity dealt) where
  abbrev network : SharedNetwork t
  network = shared_network graph share capacity

  abbrev edges : List Edge
  edges = edges_of graph

  abbrev kinds : List Kind
  kinds = edge_kinds t.behaviour (states_of graph) edges

  abbrev shares : List (Share X Rings t u)
  shares = dealt.shares.items

  abbrev rings : List Rings
  rings = ends_in shares

  abbrev owners : List EdgeOwners
  owners = dealt.owners.items

  -- the shares of the writer and the reader of edge e
  abbrev writer : ℕ → ℕ
  writer e = share_of share (edge_at edges e).writer

  abbrev reader : ℕ → ℕ
  reader e = share_of share (edge_at edges e).reader

  none : EdgeOwners
  none = record { writer = 0; reader = 0 }

  owner : (e : ℕ) → e < length edges → e < length owners
  owner e l = omega (arith, l, is.owners.count)

  fresh : (s : ℕ) → s < length shares → HasFreshEnds owners kinds capacity s (view_at shares s)
  fresh = fresh_at RingsJoin ring_slots graph threads share capacity dealt is

  -- share s has only the ends that the owners name it for
  only_writes : (s e : ℕ) → s < length shares → (view_at shares s).writes e ≡ true → (e < length edges) × (s ≡ writer e)
  only_writes s e l there =
      let named = names (λ (owner : EdgeOwners). owner.writer) owners s e none (sym ((fresh s l).writes e) ∙ there) in
      let inside : e < length edges = omega (arith, named.0, is.owners.count) in
      (inside, sym named.1 ∙ is.owners.writers e none inside)

  only_reads : (s e : ℕ) → s < length shares → (view_at shares s).reads e ≡ true → (e < length edges) × (s ≡ reader e)
  only_reads s e l there =
      let named = names (λ (owner : EdgeOwners). owner.reader) owners s e none (sym ((fresh s l).reads e) ∙ there) in
      let inside : e < length edges = omega (arith, named.0, is.owners.count) in
      (inside, sym named.1 ∙ is.owners.readers e none inside)

  pub dealt_graph : AreOfOneGraph network shares
  dealt_graph = record {
    deals = as_given share (nodes_of graph) (nodes_in shares) is.nodes;
    joined = λ e d l.
        subst (λ i. RingsJoin (get_or rings i d) (get_or rings (reader e) d) e) (is.owners.writers e none l)
        (subst (λ j. RingsJoin (get_or rings (get_or owners e none).writer d) (get_or rings j d) e) (is.owners.readers e none l) (is.ends.joined e none d (owner e l)));
    capacity = λ e d l. subst (λ i. ring_slots (get_or rings i d) e ≡ capacity) (is.owners.writers e none l) (is.ends.places e none d (owner e l));
    only_writers = only_writes;
    only_readers = only_reads;
  }
