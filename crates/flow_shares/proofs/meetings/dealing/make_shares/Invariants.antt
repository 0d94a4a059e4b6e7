use Rattle.std.proofs.Common.{◌≡◌, ◌++◌}
use Rattle.std.specs.List.{AllZip}
use Rattle.flow_shares.specs.Deals.{lists_in}
use Rattle.flow_shares.specs.meetings.Deals.{MakeAShare, nodes_in, ends_in, AreNew}
use Rattle.flow_shares.proofs.meetings.dealing.make_shares.Given as goal

abbrev pub invariant-loop-nodes : goal.invariant-loop-nodes
invariant-loop-nodes g l =
    let left = l.nodes-iterator.rest.items in
    let ends = l.ends.rest.items in
    let made = l.shares.items in
    record {
      fit : AllZip (λ nodes ends. MakeAShare (g.E.Ends.view ends) nodes.items) left ends;
      nodes : nodes_in made ++ lists_in left ≡ lists_in l.fn.nodes.items;
      ends : ends_in made ++ ends ≡ l.fn.ends.items;
      new : AreNew made;
    }
