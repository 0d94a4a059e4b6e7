-- The owners that the ends of shares tell, edge by edge.
use Rattle.std.proofs.Common.{◌≡◌, ◌⊎◌, ℕ, ◌+◌, ◌<◌, ◌≤◌, true, List, [], ◌∷◌, ◌++◌, length, get_or, inl, inr, refl, sym, ◌∙◌, ap, arith}
use Rattle.std.proofs.lemmas.Bool.{cases_lt}
use Rattle.std.proofs.lemmas.List.{length_push}
use Rattle.flow_messages.specs.Ends.{View}
use Rattle.flow_messages.specs.declared.ends.Ends.{Ghosts as EndsGhosts}
use Rattle.flow_base.specs.declared.transducer.Transducer.{Ghosts}
use Rattle.flow_networks.specs.Edges.{edge_at}
use Rattle.flow_edges.specs.declared.lanes.rings.Rings.{Rings}
use Rattle.flow_edges.specs.lanes.Rings.{ends_of}
use Rattle.flow_shares.specs.declared.meetings.owners.EdgeOwners.{EdgeOwners}
use Rattle.flow_shares.specs.meetings.RingMeetings.{rings_join_ends}
use Rattle.flow_shares.specs.Deals.{share_of}
use Rattle.flow_shares.specs.declared.share.Share.{Share}
use Rattle.flow_shares.proofs.OfMeetings.Parts.{any_of}
use Rattle.flow_shares.specs.meetings.Open.{AreOwners}
use Rattle.flow_shares.specs.meetings.Deals.{ends_in}
use Rattle.flow_shares.specs.meetings.SharedNetworks.{SharedNetwork, view_at}
use Rattle.flow_shares.proofs.OfMeetings.More.{owner_more}
use Rattle.flow_drives.specs.loops.Epochs.{AreOfOneGraph}
use Rattle.flow_drives.specs.loops.Owners.{HasBoth, LacksAnEnd}
use Rattle.flow_drives.proofs.OfLoops.ShareLists.{count_ends, view_is, view_of_ends}
use Rattle.flow_drives.proofs.OfLoops.EpochMeets.{writer_is_share, reader_is_share}

module _ {X : Type 0} {t : Ghosts X} {u : EndsGhosts Rings} (shares : List (Share X Rings t u)) where
  -- what is seen of the ends of share s
  pub seen_here : (s : ℕ) (x : Share X Rings t u) → s < length shares → x ≡ get_or shares s x → view_at shares s ≡ u.view x.ends
  seen_here s x l is = view_is shares s x l ∙ ap (λ (y : Share X Rings t u). u.view y.ends) (sym is)

module _ {X : Type 0} {t : Ghosts X} (network : SharedNetwork t) where
  -- the shares of the writer and the reader of edge e
  abbrev writer : ℕ → ℕ
  writer e = share_of network.share (edge_at network.edges e).writer

  abbrev reader : ℕ → ℕ
  reader e = share_of network.share (edge_at network.edges e).reader

  -- These owners are those of the first edges.
  pub record AreFirst (owners : List EdgeOwners) : Type 0 where
    pub within : length owners ≤ length network.edges
    pub writers : (e : ℕ) (w : EdgeOwners) → e < length owners → (get_or owners e w).writer ≡ writer e
    pub readers : (e : ℕ) (w : EdgeOwners) → e < length owners → (get_or owners e w).reader ≡ reader e

  pub first_none : (owners : List EdgeOwners) → owners ≡ [] → AreFirst owners
  first_none owners none = record {
    within = omega (arith, ap length none);
    writers = λ e w l. absurd (omega (arith, l, ap length none));
    readers = λ e w l. absurd (omega (arith, l, ap length none));
  }

  module _ {u : EndsGhosts Rings} (shares : List (Share X Rings t u)) (graph : AreOfOneGraph network shares) where
    -- an edge whose ends are found is one of the graph
    pub is_edge : (e : ℕ) (owner : EdgeOwners) → HasBoth shares e owner → e < length network.edges
    is_edge e owner both = (graph.only_writers owner.writer e both.writer.inside both.writer.there).0

    -- one more is found
    pub first_more : (owners later : List EdgeOwners) (owner : EdgeOwners) → later ≡ owners ++ owner ∷ [] → HasBoth shares (length owners) owner → AreFirst owners → AreFirst later
    first_more owners later owner is both was =
        let n = length owners in
        let writes = graph.only_writers owner.writer n both.writer.inside both.writer.there in
        let reads = graph.only_readers owner.reader n both.reader.inside both.reader.there in
        let longer : length later ≡ n + 1 = ap length is ∙ length_push owners owner in
        record {
          within = omega (arith, writes.0, longer);
          writers = λ e w l. owner_more (λ (i : EdgeOwners). i.writer) writer owners later owner n is refl was.writers writes.1 e w (omega (arith, l, longer));
          readers = λ e w l. owner_more (λ (i : EdgeOwners). i.reader) reader owners later owner n is refl was.readers reads.1 e w (omega (arith, l, longer));
        }

    module _ (sees : u.view ≡ ends_of) (e : ℕ) (l : e < length network.edges) where
      -- both ends of each edge are in some share
      writer_there : (view_at shares (writer e)).writes e ≡ true
      writer_there =
          let h = writer_is_share network shares graph e l in
          let d = any_of (ends_in shares) (writer e) (omega (arith, h, count_ends shares)) in
          ap (λ (v : View). v.writes e) (view_of_ends shares (writer e) d h ∙ ap (λ (v : Rings → View). v (get_or (ends_in shares) (writer e) d)) sees)
          ∙ (rings_join_ends (get_or (ends_in shares) (writer e) d) (get_or (ends_in shares) (reader e) d) e (graph.joined e d l)).0

      reader_there : (view_at shares (reader e)).reads e ≡ true
      reader_there =
          let h = reader_is_share network shares graph e l in
          let d = any_of (ends_in shares) (reader e) (omega (arith, h, count_ends shares)) in
          ap (λ (v : View). v.reads e) (view_of_ends shares (reader e) d h ∙ ap (λ (v : Rings → View). v (get_or (ends_in shares) (reader e) d)) sees)
          ∙ (rings_join_ends (get_or (ends_in shares) (writer e) d) (get_or (ends_in shares) (reader e) d) e (graph.joined e d l)).1

      none_lacks : LacksAnEnd shares e → ⊥
      none_lacks (inl none) = let there = writer_there in let away = none (writer e) (writer_is_share network shares graph e l) in cc
      none_lacks (inr none) = let there = reader_there in let away = none (reader e) (reader_is_share network shares graph e l) in cc

    -- where an end is found no more, they are the owners of all edges
    pub first_are_all : u.view ≡ ends_of → (owners : List EdgeOwners) → LacksAnEnd shares (length owners) → AreFirst owners → AreOwners network.share network.edges owners
    first_are_all sees owners lacks was = record {
      count = whole (cases_lt (length owners) (length network.edges));
      writers = λ e w l. was.writers e w (omega (arith, l, whole (cases_lt (length owners) (length network.edges))));
      readers = λ e w l. was.readers e w (omega (arith, l, whole (cases_lt (length owners) (length network.edges))));
    }
      where
        whole : (length owners < length network.edges) ⊎ (length network.edges ≤ length owners) → length owners ≡ length network.edges
        whole (inl more) = absurd (none_lacks sees (length owners) more lacks)
        whole (inr all) = omega (arith, all, was.within)
