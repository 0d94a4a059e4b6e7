-- The graph without nodes, dealt out to shares without nodes.
use Rattle.std.proofs.Common.{◌≡◌, ◌<◌, List, [], length, refl, sym, ◌∙◌, ap, arith}
use Rattle.std.specs.List.{All}
use Rattle.flow_messages.specs.Ends.{View}
use Rattle.flow_messages.specs.declared.ends.Ends.{Ghosts as EndsGhosts}
use Rattle.flow_base.specs.declared.transducer.Transducer.{Ghosts}
use Rattle.flow_networks.specs.Skeletons.{FitTogether}
use Rattle.flow_edges.specs.declared.lanes.rings.Rings.{Rings}
use Rattle.flow_shares.specs.declared.share.Share.{Share}
use Rattle.flow_shares.proofs.OfMeetings.Parts.{any_of}
use Rattle.flow_shares.specs.meetings.Open.{AreOwners}
use Rattle.flow_shares.specs.meetings.SharedNetworks.{SharedNetwork}
use Rattle.flow_drives.specs.loops.Epochs.{AreOfOneGraph}
use Rattle.flow_drives.proofs.OfLoops.ShareLists.{count_dealt, nodes_are, view_is}
use Rattle.flow_part_tests.specs.NoEnds.{HasNoEnds}

pub none_fit : {X : Type 0} (t : Ghosts X) → FitTogether {t = t} [] []
none_fit t = record {
  built = record {
    wired = record {
      forward = λ e l. absurd (omega (arith, l));
      inside = λ e l. absurd (omega (arith, l));
      one_in = λ e f l m node port. absurd (omega (arith, l));
      one_out = λ e f l m node port. absurd (omega (arith, l));
      reader_in = λ e l. absurd (omega (arith, l));
      writer_out = λ e l. absurd (omega (arith, l));
      in_edge = λ k p l inside. absurd (omega (arith, l));
      out_edge = λ k q l inside. absurd (omega (arith, l));
    };
    joined = record { inputs = λ k p l. absurd (omega (arith, l)); outputs = λ k q l. absurd (omega (arith, l)) };
    limits = record { kinds = λ e l. absurd (omega (arith, l)); few_nodes = omega arith; few_edges = omega arith };
  };
  seated = record {
    numbers = λ k l. absurd (omega (arith, l));
    inputs = λ k p taken. absurd (omega (arith, taken));
    outputs = λ k q taken. absurd (omega (arith, taken));
  };
}

abbrev pub bare_network : {X : Type 0} (t : Ghosts X) → SharedNetwork t
bare_network t = record { nodes = []; edges = []; fit = none_fit t; share = []; capacity = 0 }

pub no_owners : AreOwners [] [] []
no_owners = record { count = refl; writers = λ e w l. absurd (omega (arith, l)); readers = λ e w l. absurd (omega (arith, l)) }

pub bare_graph : {X : Type 0} {t : Ghosts X} {u : EndsGhosts Rings} (shares : List (Share X Rings t u)) →
    All (λ share. length share.nodes.items ≡ 0) shares → All (λ share. HasNoEnds (u.view share.ends)) shares
    → AreOfOneGraph (bare_network t) shares
bare_graph {X} {t} {u} shares bare none = record {
  deals = record {
    place = λ k. 0;
    inside = λ k l. absurd (omega (arith, l));
    order = λ j k before l. absurd (omega (arith, l));
    here = λ k d l. absurd (omega (arith, l));
    back = λ s i d l low.
        let h : s < length shares = omega (arith, l, count_dealt shares) in
        let share = any_of shares s h in
        absurd (omega (arith, low, ap length (nodes_are shares s share h), bare s share h));
  };
  joined = λ e d l. absurd (omega (arith, l));
  capacity = λ e d l. absurd (omega (arith, l));
  only_writers = λ s e l there. (
      let share = any_of shares s l in
      let away = ap (λ (v : View). v.writes e) (view_is shares s share l) ∙ (none s share l e).0 in
      absurd (let no = sym there ∙ away in cc)
      );
  only_readers = λ s e l there. (
      let share = any_of shares s l in
      let away = ap (λ (v : View). v.reads e) (view_is shares s share l) ∙ (none s share l e).1 in
      absurd (let no = sym there ∙ away in cc)
      );
}
