use Rattle.std.proofs.Common.{◌+◌, ◌<◌, ◌∙◌, subst, ap, arith, drop, length, get_or, []}
use Rattle.std.proofs.lemmas.Option.{slice_get-get_or}
use Rattle.snesl_data.specs.declared.refusal.Refusal.TheVariants.{TooBig}
use Rattle.flow_networks.specs.Graphs.{states_so_far, edges_so_far}
use Rattle.flow_nodes.specs.plans.Layouts.{uses}
use Rattle.flow_nodes.specs.plans.Ports.{kinds_after}
use Rattle.flow_assembly.specs.Ready.{plan_of, KeepsLimits}
use Rattle.std.proofs.lemmas.List.{length-set}
use Rattle.flow_assembly.specs.Joined.{supplier, port_after}
use Rattle.flow_assembly.proofs.Putting.{plan_fits}
use Rattle.flow_assembly.proofs.Stepping.{read_one, read_length, read_all, all_within, read_may, read_on, read_within}
use Rattle.flow_assembly.proofs.Fitting.{passed_on}
use Rattle.flow_assembly.proofs.Limiting.{too_many_edges}
use Rattle.flow_assembly.proofs.Refused.{none_done, same_error}
use Rattle.flow_assembly.proofs.network.Network.read_streams.Goals as goal

pub join-requires-clause-may : goal.join-requires-clause-may
join-requires-clause-may c =
    let is = slice_get-get_or c.args.reads.now c.loop-port.port 0 c.loop-port-test.true in
    let known : get_or c.args.reads.now c.loop-port.port 0 < length c.loop-port.self.supply.items =
    omega (arith, c.requires.there c.loop-port.port (get_or c.args.reads.now c.loop-port.port 0) is, c.loop-port.invariant.supply) in
    read_may (plan_of c.args.plan.now) (λ s. uses s (drop (length c.args.self.now.places.items) (plan_of c.args.plan.now))) c.args.reads.now c.loop-port.port c.args.node c.loop-port.self.supply.items
    (states_so_far c.loop-port.self.builder) (edges_so_far c.loop-port.self.builder) c.loop-port-test.true c.loop-port.invariant.joined known (c.requires.reads c.loop-port.port ∙ is)
    (kinds_after [] (plan_of c.args.plan.now)) c.openings_perform.ensures (plan_fits c.args.plan.now c.requires.wired) (omega (arith, c.requires.last, ap length c.loop-port.invariant.nodes))

pub loop-port-preserved : goal.loop-port-preserved
loop-port-preserved c =
    let is = slice_get-get_or c.args.reads.now c.loop-port.port 0 c.loop-port-test.true in
    let known : get_or c.args.reads.now c.loop-port.port 0 < length c.loop-port.self.supply.items =
    omega (arith, c.requires.there c.loop-port.port (get_or c.args.reads.now c.loop-port.port 0) is, c.loop-port.invariant.supply) in
    record {
      joined = read_on (plan_of c.args.plan.now) (λ s. uses s (drop (length c.args.self.now.places.items) (plan_of c.args.plan.now))) c.args.reads.now
          c.loop-port.port c.args.node c.loop-port.self.supply.items
          (states_so_far c.loop-port.self.builder) (edges_so_far c.loop-port.self.builder) c.loop-port-test.true c.loop-port.invariant.joined known (c.requires.reads c.loop-port.port ∙ is)
          c.join.new.self.supply.items (states_so_far c.join.new.self.builder) (edges_so_far c.join.new.self.builder) c.in_ok-join.ensures.supply c.in_ok-join.ensures.nodes c.in_ok-join.ensures.edges;
      within = read_within (plan_of c.args.plan.now) c.args.reads.now c.loop-port.port (states_so_far c.loop-port.self.builder)
          (states_so_far c.join.new.self.builder) (edges_so_far c.loop-port.self.builder) (edges_so_far c.join.new.self.builder) _
          c.loop-port-test.true c.loop-port.invariant.within c.in_ok-join.ensures.room c.in_ok-join.ensures.nodes c.in_ok-join.ensures.edges;
      nodes = c.in_ok-join.ensures.nodes ∙ c.loop-port.invariant.nodes;
      supply = omega (
        arith,
        ap length c.in_ok-join.ensures.supply,
        length-set c.loop-port.self.supply.items (get_or c.args.reads.now c.loop-port.port 0)
            (port_after (supplier c.loop-port.self.supply.items (get_or c.args.reads.now c.loop-port.port 0))),
        c.loop-port.invariant.supply,
      );
      places = c.in_ok-join.ensures.places ∙ c.loop-port.invariant.places;
    }

pub join-requires-clause-fits : goal.join-requires-clause-fits
join-requires-clause-fits c =
    let reads = c.args.reads.now in
    let is = slice_get-get_or reads c.loop-port.port 0 c.loop-port-test.true in
    let known : get_or reads c.loop-port.port 0 < length c.loop-port.self.supply.items =
    omega (arith, c.requires.there c.loop-port.port (get_or reads c.loop-port.port 0) is, c.loop-port.invariant.supply) in
    omega (arith, c.loop-port.invariant.joined.fits (get_or reads c.loop-port.port 0) known, read_one reads c.loop-port.port c.loop-port-test.true)

pub returns : goal.returns
returns c =
    let at = c.loop-port in
    let states = states_so_far at.self.builder in
    let edges = edges_so_far at.self.builder in
    let plan = plan_of c.args.plan.now in
    record {
      joined = read_all plan c.args.reads.now at.port states edges c.loop-port-test.false
          (λ s. uses s (drop (length c.args.self.now.places.items) plan)) c.args.node at.self.supply.items at.auto.port-end at.invariant.joined;
      within = all_within plan c.args.reads.now at.port states edges c.loop-port-test.false at.invariant.within;
      nodes = at.invariant.nodes;
      supply = at.invariant.supply;
      places = at.invariant.places;
      big = λ e. cc;
      memory = tt;
    }

pub returns-in_err-join : goal.returns-in_err-join
returns-in_err-join c =
    let at = c.loop-port in
    let states = states_so_far at.self.builder in
    let edges = edges_so_far at.self.builder in
    let plan = plan_of c.args.plan.now in
    let r = c.from_residual.result in
    let x = c.in_err-join.field-0.0 in
    let no = c.from_residual.ensures.0 in
    let is = c.from_residual.ensures.1 in
    record {
      joined = none_done _ r no;
      within = none_done _ r no;
      nodes = c.in_err-join.ensures.nodes ∙ at.invariant.nodes;
      supply = none_done _ r no;
      places = c.in_err-join.ensures.places ∙ at.invariant.places;
      big = λ e. too_many_edges plan states edges (length (drop (at.port + 1) c.args.reads.now))
          (subst (KeepsLimits plan states edges) (read_length c.args.reads.now at.port c.loop-port-test.true) at.invariant.within)
          (c.in_err-join.ensures.big (passed_on r x TooBig is e));
      memory = same_error _ r x is c.in_err-join.ensures.memory;
    }
