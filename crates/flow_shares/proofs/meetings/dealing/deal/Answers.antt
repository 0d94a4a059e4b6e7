use Rattle.std.proofs.Common.{◌≡◌, [], length, get_or, refl, sym, ap, ◌∙◌, subst, arith}
use Rattle.std.proofs.lemmas.List.{get_or-map, length-map}
use Rattle.flow_networks.specs.Graphs.{states_of, edges_of}
use Rattle.flow_networks.specs.Places.{states_in}
use Rattle.flow_networks.specs.Skeletons.{edges_in}
use Rattle.flow_networks.specs.Networks.{AreOpened}
use Rattle.flow_networks.specs.EdgeKinds.{edge_kinds}
use Rattle.flow_shares.specs.Deals.{lists_in, AreJustDealt}
use Rattle.flow_shares.specs.meetings.Open.{AreOwners}
use Rattle.flow_shares.specs.meetings.Deals.{MakeAShare, nodes_in}
use Rattle.flow_shares.proofs.OfMeetings.Lists.{all_zipped}
use Rattle.flow_shares.proofs.OfMeetings.More.{fresh_as}
use Rattle.flow_shares.proofs.OfMeetings.Fits.{make_a_share}
use Rattle.flow_shares.proofs.OfMeetings.Refused.{none_given}
use Rattle.flow_shares.proofs.meetings.dealing.deal.Goals as goal

pub make_shares-requires : goal.make_shares-requires
make_shares-requires g c =
    let view = g.E.Ends.view in
    let share = c.args.share.now in
    let skeleton = edges_in c.take_apart-nodes.result.1 in
    let nodes = c.take_apart-nodes.result.0.items in
    let lists = c.in_ok-nodes.nodes.items in
    let ends = c.in_ok-ends.ends.items in
    let owners = c.in_ok-owners.owners.items in
    let opened = subst (λ ns. AreOpened g.T.Transducer.behaviour (states_in ns)) (sym c.take_apart-nodes.ensures.nodes) c.requires.opened in
    let are = subst (λ es. AreOwners share es owners) c.edges.ensures c.in_ok-owners.ensures in
    let b = g.T.Transducer.behaviour in
    let kinds = edge_kinds b (states_in nodes) skeleton in
    let same : c.in_ok-kinds.kinds.items ≡ kinds =
    c.in_ok-kinds.ensures ∙ sym (ap (edge_kinds b (states_of c.args.graph)) c.take_apart-nodes.ensures.edges)
    ∙ sym (ap (λ ns. edge_kinds b (states_in ns) skeleton) c.take_apart-nodes.ensures.nodes) in
    let all = fresh_as view g.E.Meeting.joins g.E.Meeting.slots c.args.capacity {ks' = kinds} c.deref.ensures.value (c.deref-2.ensures.value ∙ same) refl c.in_ok-ends.ensures.opened in
    let many : length ends ≡ length lists = c.in_ok-ends.ensures.count ∙ sym c.in_ok-nodes.ensures.count in
    all_zipped (λ nodes ends. MakeAShare (view ends) nodes.items) lists ends many (λ s x y l. (
    subst (λ ns. MakeAShare (view (get_or ends s y)) ns) (get_or-map (λ nodes. nodes.items) lists s x [] l)
    (make_a_share share skeleton nodes c.take_apart-nodes.ensures.fit opened owners are (lists_in lists) c.in_ok-nodes.ensures.dealt c.args.capacity s
    (omega (arith, l, length-map lists (λ nodes. nodes.items))) (view (get_or ends s y)) (all.fresh s y (omega (arith, l, many))))
    ))

pub returns : goal.returns
returns g c =
    let view = g.E.Ends.view in
    let share = c.args.share.now in
    let nodes = c.take_apart-nodes.result.0.items in
    let lists = c.in_ok-nodes.nodes.items in
    let shares = c.in_ok-shares.shares.items in
    let owners = c.in_ok-owners.owners.items in
    let made = c.in_ok-shares.ensures in
    let kinds = edge_kinds g.T.Transducer.behaviour (states_of c.args.graph) (edges_of c.args.graph) in
    record {
      count = sym (length-map shares (λ share. share.nodes.items)) ∙ ap length made.nodes ∙ length-map lists (λ nodes. nodes.items) ∙ c.in_ok-nodes.ensures.count;
      new = made.new;
      nodes = subst (λ ns. AreJustDealt share ns (nodes_in shares)) c.take_apart-nodes.ensures.nodes (subst (λ dealt. AreJustDealt share nodes dealt) (sym made.nodes) c.in_ok-nodes.ensures.dealt);
      skeleton = c.take_apart-nodes.ensures.edges;
      owners = subst (λ es. AreOwners share es owners) (c.edges.ensures ∙ c.take_apart-nodes.ensures.edges) c.in_ok-owners.ensures;
      ends = fresh_as view g.E.Meeting.joins g.E.Meeting.slots c.args.capacity {ks' = kinds} c.deref.ensures.value
          (c.deref-2.ensures.value ∙ c.in_ok-kinds.ensures) (sym made.ends) c.in_ok-ends.ensures.opened;
    }

pub returns-in_err-kinds : goal.returns-in_err-kinds
returns-in_err-kinds g c = none_given _ c.from_residual.result c.from_residual.ensures.0

pub returns-in_err-owners : goal.returns-in_err-owners
returns-in_err-owners g c = none_given _ c.from_residual-in_err-owners.result c.from_residual-in_err-owners.ensures.0

pub returns-in_err-ends : goal.returns-in_err-ends
returns-in_err-ends g c = none_given _ c.from_residual-in_err-ends.result c.from_residual-in_err-ends.ensures.0

pub returns-in_err-nodes : goal.returns-in_err-nodes
returns-in_err-nodes g c = none_given _ c.from_residual-in_err-nodes.result c.from_residual-in_err-nodes.ensures.0

pub returns-in_err-shares : goal.returns-in_err-shares
returns-in_err-shares g c = none_given _ c.from_residual-in_err-shares.result c.from_residual-in_err-shares.ensures.0
