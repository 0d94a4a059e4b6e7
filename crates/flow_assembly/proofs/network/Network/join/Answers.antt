use Rattle.std.proofs.Common.{◌++◌, ◌∷◌, [], set, refl, sym, ◌∙◌, ap, subst}
use Rattle.snesl_data.specs.declared.refusal.Refusal.TheVariants.{TooBig}
use Rattle.flow_networks.specs.Graphs.{states_so_far, edges_so_far}
use Rattle.flow_networks.specs.Networks.{MayJoin}
use Rattle.flow_nodes.specs.StreamNodes.{node_behaviour}
use Rattle.flow_assembly.specs.Joined.{edge_from, port_after}
use Rattle.flow_assembly.proofs.Fitting.{passed_on}
use Rattle.flow_assembly.proofs.Refused.{none_done, same_error}
use Rattle.flow_assembly.proofs.Stepping.{same_default}
use Rattle.flow_assembly.proofs.network.Network.join.Goals as goal

pub edge-requires : goal.edge-requires
edge-requires c =
    let now = c.args.self.now in
    let from = c.index-from.ensures ∙ same_default now.supply.items c.args.stream (record { node = 0; port = 0 }) c.index-from.result.now c.requires.inside in
    subst (λ p. MayJoin node_behaviour (states_so_far now.builder) (edges_so_far now.builder) (edge_from p c.args.reader c.args.reader_port)) (sym from) c.requires.may

pub returns : goal.returns
returns c =
    let now = c.args.self.now in
    let from = c.index-from.ensures ∙ same_default now.supply.items c.args.stream (record { node = 0; port = 0 }) c.index-from.result.now c.requires.inside in
    record {
      nodes = c.in_ok-edge.ensures.nodes;
      edges = c.in_ok-edge.ensures.edges ∙ ap (λ p. edges_so_far now.builder ++ edge_from p c.args.reader c.args.reader_port ∷ []) from;
      supply = ap (λ p. set now.supply.items c.args.stream (port_after p)) from;
      places = refl;
      room = λ full. let e = c.in_ok-edge.ensures.full.1 full in absurd (cc);
      big = λ e. absurd (cc);
      memory = tt;
    }

pub returns-in_err-edge : goal.returns-in_err-edge
returns-in_err-edge c =
    let r = c.from_residual.result in
    let x = c.in_err-edge.field-0.0 in
    let no = c.from_residual.ensures.0 in
    let is = c.from_residual.ensures.1 in
    record {
      nodes = c.in_err-edge.ensures.nodes;
      edges = none_done _ r no;
      supply = none_done _ r no;
      places = refl;
      room = none_done _ r no;
      big = λ e. c.in_err-edge.ensures.full.0 (passed_on r x TooBig is e);
      memory = same_error _ r x is c.in_err-edge.ensures.memory;
    }
