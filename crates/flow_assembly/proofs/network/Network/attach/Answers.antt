use Rattle.std.proofs.Common.{◌++◌, ◌∷◌, [], length, refl, sym, ◌∙◌, ap, subst, inl, inr}
use Rattle.snesl_data.specs.declared.refusal.Refusal.TheVariants.{TooBig}
use Rattle.flow_networks.specs.Graphs.{states_so_far, edges_so_far}
use Rattle.flow_networks.specs.Networks.{MayJoin}
use Rattle.flow_nodes.specs.StreamNodes.{node_behaviour, state_of}
use Rattle.flow_assembly.specs.Joined.{supplier, edge_from}
use Rattle.flow_assembly.proofs.Fitting.{passed_on}
use Rattle.flow_assembly.proofs.Refused.{none_given, none_done, same_error}
use Rattle.flow_assembly.proofs.network.Network.attach.Goals as goal

pub join-requires : goal.join-requires
join-requires c =
    let now = c.args.self.now in
    let from = supplier now.supply.items c.args.stream in
    let states = states_so_far now.builder ++ state_of c.args.node ∷ [] in
    let made = c.in_ok-number.ensures in
    record {
      inside = c.requires.inside;
      fits = c.requires.fits;
      may = subst (λ s. MayJoin node_behaviour s (edges_so_far c.node.new.self) (edge_from from c.in_ok-number.number 0)) (sym made.nodes)
          (subst (λ e. MayJoin node_behaviour states e (edge_from from c.in_ok-number.number 0)) (sym made.edges)
          (subst (λ n. MayJoin node_behaviour states (edges_so_far now.builder) (edge_from from n 0)) (sym made.number) c.requires.may));
    }

pub returns : goal.returns
returns c =
    let now = c.args.self.now in
    let from = supplier now.supply.items c.args.stream in
    let made = c.in_ok-number.ensures in
    record {
      number = made.number;
      nodes = c.in_ok-join.ensures.nodes ∙ made.nodes;
      edges = c.in_ok-join.ensures.edges ∙ ap (λ l. l ++ edge_from from c.in_ok-number.number 0 ∷ []) made.edges ∙ ap (λ n. edges_so_far now.builder ++ edge_from from n 0 ∷ []) made.number;
      supply = c.in_ok-join.ensures.supply;
      places = c.in_ok-join.ensures.places;
      room = λ full. let e = made.full.1 full in absurd (cc);
      room_for_edge = λ full. c.in_ok-join.ensures.room (ap length made.edges ∙ full);
      big = λ e. absurd (cc);
      memory = tt;
    }

pub returns-in_err-number : goal.returns-in_err-number
returns-in_err-number c =
    let r = c.from_residual.result in
    let x = c.in_err-number.field-0.0 in
    let no = c.from_residual.ensures.0 in
    let is = c.from_residual.ensures.1 in
    record {
      number = none_given _ r no;
      nodes = none_done _ r no;
      edges = none_done _ r no;
      supply = none_done _ r no;
      places = refl;
      room = none_done _ r no;
      room_for_edge = none_done _ r no;
      big = λ e. inl (c.in_err-number.ensures.full.0 (passed_on r x TooBig is e));
      memory = same_error _ r x is c.in_err-number.ensures.memory;
    }

pub returns-in_err-join : goal.returns-in_err-join
returns-in_err-join c =
    let r = c.from_residual-in_err-join.result in
    let x = c.in_err-join.field-0.0 in
    let no = c.from_residual-in_err-join.ensures.0 in
    let is = c.from_residual-in_err-join.ensures.1 in
    record {
      number = none_given _ r no;
      nodes = none_done _ r no;
      edges = none_done _ r no;
      supply = none_done _ r no;
      places = c.in_err-join.ensures.places;
      room = none_done _ r no;
      room_for_edge = none_done _ r no;
      big = λ e. inr (sym (ap length c.in_ok-number.ensures.edges) ∙ c.in_err-join.ensures.big (passed_on r x TooBig is e));
      memory = same_error _ r x is c.in_err-join.ensures.memory;
    }
