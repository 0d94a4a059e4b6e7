use Rattle.std.proofs.Common.{◌≡◌, ◌+◌, ◌∷◌, [], length, refl, sym, ◌∙◌, ap, subst, arith, ◌≤◌, replicate, set, drop}
use Rattle.std.proofs.lemmas.List.{length_push}
use Rattle.flow_networks.specs.Graphs.{states_so_far, edges_so_far}
use Rattle.flow_nodes.specs.StreamNodes.{node_behaviour, state_of}
use Rattle.flow_nodes.specs.plans.Plans.{fork, sink}
use Rattle.flow_nodes.specs.plans.Ports.{kinds_after}
use Rattle.flow_nodes.specs.plans.Layouts.{layout, uses, places_after}
use Rattle.flow_assembly.specs.Ready.{plan_of}
use Rattle.flow_assembly.proofs.Putting.{left_to_come, one_after, put_may, none_put, sink_put, fork_put, put_same, plan_fits, sink_next, fork_next, sink_big, fork_big}
use Rattle.flow_assembly.proofs.Fitting.{passed_on}
use Rattle.flow_assembly.proofs.Refused.{none_done, same_error}
use Rattle.flow_assembly.specs.Joined.{supplier, port_after}
use Rattle.snesl_data.specs.declared.refusal.Refusal.TheVariants.{TooBig}
use Rattle.flow_assembly.proofs.network.Network.put_after.Goals as goal

pub attach-requires-clause-opened : goal.attach-requires-clause-opened
attach-requires-clause-opened c = subst (λ s. node_behaviour.opening s ≡ s) (sym c.sink_of-sink.ensures) refl

pub attach-requires-2-clause-opened : goal.attach-requires-2-clause-opened
attach-requires-2-clause-opened c = subst (λ s. node_behaviour.opening s ≡ s) (sym c.fork_of-fork.ensures) refl

pub attach-requires-clause-may : goal.attach-requires-clause-may
attach-requires-clause-may c =
    let none : uses c.args.stream (plan_of c.args.plan.now) ≡ 0 = sym (c.requires.counted c.args.stream) ∙ sym c.uses-outputs.ensures ∙ c.if-outputs-eq0.true in
    put_may (layout (plan_of c.args.plan.now)) _ c.args.stream c.args.self.now.supply.items (states_so_far c.args.self.now.builder)
    (edges_so_far c.args.self.now.builder) c.requires.so_far.joined c.requires.inside
    (record { at = c.args.at; operation = sink c.args.kind; reads = c.args.stream ∷ []; writes = [] }) (state_of c.sink_of-sink.result)
    (sink_next (plan_of c.args.plan.now) (states_so_far c.args.self.now.builder) c.args.at c.args.stream c.args.kind c.requires.next none)
    c.sink_of-sink.ensures refl (kinds_after [] (plan_of c.args.plan.now)) c.openings_perform.ensures (plan_fits c.args.plan.now c.requires.wired)

pub attach-requires-2-clause-may : goal.attach-requires-2-clause-may
attach-requires-2-clause-may c =
    let n = c.uses-outputs.result in
    let many : uses c.args.stream (plan_of c.args.plan.now) ≡ n = sym (c.requires.counted c.args.stream) ∙ sym c.uses-outputs.ensures in
    let le : 2 ≤ n = omega (arith, c.if-outputs-eq1.false, c.if-outputs-eq0.false) in
    put_may (layout (plan_of c.args.plan.now)) _ c.args.stream c.args.self.now.supply.items (states_so_far c.args.self.now.builder)
    (edges_so_far c.args.self.now.builder) c.requires.so_far.joined c.requires.inside
    (record { at = c.args.at; operation = fork c.args.kind n; reads = c.args.stream ∷ []; writes = replicate n c.args.stream }) (state_of c.fork_of-fork.result)
    (fork_next (plan_of c.args.plan.now) (states_so_far c.args.self.now.builder) c.args.at c.args.stream c.args.kind n c.requires.next many le)
    c.fork_of-fork.ensures refl (kinds_after [] (plan_of c.args.plan.now)) c.openings_perform.ensures (plan_fits c.args.plan.now c.requires.wired)

pub returns-in_err-attach-clause-big : goal.returns-in_err-attach-clause-big
returns-in_err-attach-clause-big c = λ e.
    let none : uses c.args.stream (plan_of c.args.plan.now) ≡ 0 = sym (c.requires.counted c.args.stream) ∙ sym c.uses-outputs.ensures ∙ c.if-outputs-eq0.true in
    sink_big (plan_of c.args.plan.now) c.args.self.now.places.items c.args.at c.args.stream c.args.kind c.args.self.now.supply.items
    (states_so_far c.args.self.now.builder) (edges_so_far c.args.self.now.builder)
    c.requires.so_far c.requires.inside c.requires.later c.requires.next none
    (c.in_err-attach.ensures.big (passed_on c.from_residual.result c.in_err-attach.field-0.0 TooBig c.from_residual.ensures.1 e))

pub returns-then-outputs-eq0-clause-so_far : goal.returns-then-outputs-eq0-clause-so_far
returns-then-outputs-eq0-clause-so_far c =
    let none : uses c.args.stream (plan_of c.args.plan.now) ≡ 0 = sym (c.requires.counted c.args.stream) ∙ sym c.uses-outputs.ensures ∙ c.if-outputs-eq0.true in
    put_same (plan_of c.args.plan.now) (c.args.stream + 1) _ _ c.args.self.now.places.items _ _ _ _ _ c.in_ok-attach.ensures.supply
    c.in_ok-attach.ensures.places c.in_ok-attach.ensures.nodes c.in_ok-attach.ensures.edges
    (sink_put (plan_of c.args.plan.now) c.args.self.now.places.items c.args.at c.args.stream c.args.kind c.args.self.now.supply.items
    (states_so_far c.args.self.now.builder) (edges_so_far c.args.self.now.builder)
    c.requires.so_far c.requires.inside c.requires.later c.requires.next (state_of c.sink_of-sink.result) c.in_ok-attach.ensures.room c.in_ok-attach.ensures.room_for_edge c.sink_of-sink.ensures none)

pub returns-in_err-node-clause-big : goal.returns-in_err-node-clause-big
returns-in_err-node-clause-big c = λ e.
    let n = c.uses-outputs.result in
    let many : uses c.args.stream (plan_of c.args.plan.now) ≡ n = sym (c.requires.counted c.args.stream) ∙ sym c.uses-outputs.ensures in
    let le : 2 ≤ n = omega (arith, c.if-outputs-eq1.false, c.if-outputs-eq0.false) in
    fork_big (plan_of c.args.plan.now) c.args.self.now.places.items c.args.at c.args.stream c.args.kind c.args.self.now.supply.items
    (states_so_far c.args.self.now.builder) (edges_so_far c.args.self.now.builder)
    c.requires.so_far c.requires.inside c.requires.later c.requires.next n many le
    (c.in_err-node.ensures.big
    (passed_on c.from_residual-in_err-node.result c.in_err-node.field-0.0 TooBig c.from_residual-in_err-node.ensures.1 e))

pub returns-clause-so_far : goal.returns-clause-so_far
returns-clause-so_far c =
    let n = c.uses-outputs.result in
    let many : uses c.args.stream (plan_of c.args.plan.now) ≡ n = sym (c.requires.counted c.args.stream) ∙ sym c.uses-outputs.ensures in
    let le : 2 ≤ n = omega (arith, c.if-outputs-eq1.false, c.if-outputs-eq0.false) in
    let supplied = ap (λ l. set l c.args.stream (record { node = c.in_ok-node.node; port = 0 })) c.in_ok-node.ensures.supply
    ∙ ap (λ k. set (set c.args.self.now.supply.items c.args.stream (port_after (supplier c.args.self.now.supply.items c.args.stream))) c.args.stream
    (record { node = k; port = 0 })) c.in_ok-node.ensures.number in
    put_same (plan_of c.args.plan.now) (c.args.stream + 1) _ _ c.args.self.now.places.items _ _ _ _ _ supplied c.in_ok-node.ensures.places c.in_ok-node.ensures.nodes c.in_ok-node.ensures.edges
    (fork_put (plan_of c.args.plan.now) c.args.self.now.places.items c.args.at c.args.stream c.args.kind c.args.self.now.supply.items
    (states_so_far c.args.self.now.builder) (edges_so_far c.args.self.now.builder)
    c.requires.so_far c.requires.inside c.requires.later c.requires.next (state_of c.fork_of-fork.result) c.in_ok-node.ensures.room
    c.in_ok-node.ensures.room_for_edge n c.fork_of-fork.ensures many le c.uses-outputs.type_inv)

pub attach-requires-clause-fits : goal.attach-requires-clause-fits
attach-requires-clause-fits c =
    omega (
      arith,
      c.requires.so_far.joined.fits c.args.stream c.requires.inside,
      left_to_come (drop (length c.args.self.now.places.items) (plan_of c.args.plan.now)) c.args.stream c.args.stream (omega arith),
    )

pub attach-requires-2-clause-fits : goal.attach-requires-2-clause-fits
attach-requires-2-clause-fits c =
    omega (
      arith,
      c.requires.so_far.joined.fits c.args.stream c.requires.inside,
      left_to_come (drop (length c.args.self.now.places.items) (plan_of c.args.plan.now)) c.args.stream c.args.stream (omega arith),
    )

pub returns-then-outputs-eq1 : goal.returns-then-outputs-eq1
returns-then-outputs-eq1 c =
    let now = c.args.self.now in
    let states = states_so_far now.builder in
    let one : uses c.args.stream (plan_of c.args.plan.now) ≡ 1 = sym (c.requires.counted c.args.stream) ∙ sym c.uses-outputs.ensures ∙ c.if-outputs-eq1.true in
    record {
      so_far = none_put (plan_of c.args.plan.now) now.places.items c.args.at c.args.stream c.args.kind now.supply.items states
          (edges_so_far now.builder) c.requires.so_far c.requires.inside c.requires.later c.requires.next one;
      nodes = omega (arith, ap (λ n. length (places_after c.args.at c.args.stream c.args.kind n)) one);
      supply = refl;
      places = refl;
      big = λ e. cc;
      memory = tt;
    }

pub returns-then-outputs-eq0-clause-nodes : goal.returns-then-outputs-eq0-clause-nodes
returns-then-outputs-eq0-clause-nodes c =
    let none : uses c.args.stream (plan_of c.args.plan.now) ≡ 0 = sym (c.requires.counted c.args.stream) ∙ sym c.uses-outputs.ensures ∙ c.if-outputs-eq0.true in
    omega (
      arith,
      ap length c.in_ok-attach.ensures.nodes,
      length_push (states_so_far c.args.self.now.builder) (state_of c.sink_of-sink.result),
      ap (λ n. length (places_after c.args.at c.args.stream c.args.kind n)) none,
    )

pub returns-clause-nodes : goal.returns-clause-nodes
returns-clause-nodes c =
    let n = c.uses-outputs.result in
    let many : uses c.args.stream (plan_of c.args.plan.now) ≡ n = sym (c.requires.counted c.args.stream) ∙ sym c.uses-outputs.ensures in
    let le : 2 ≤ n = omega (arith, c.if-outputs-eq1.false, c.if-outputs-eq0.false) in
    omega (
      arith,
      ap length c.in_ok-node.ensures.nodes,
      length_push (states_so_far c.args.self.now.builder) (state_of c.fork_of-fork.result),
      ap (λ n. length (places_after c.args.at c.args.stream c.args.kind n)) many,
      one_after c.args.at c.args.stream c.args.kind n le,
    )

pub returns-in_err-attach-clause-so_far : goal.returns-in_err-attach-clause-so_far
returns-in_err-attach-clause-so_far c = none_done _ c.from_residual.result c.from_residual.ensures.0

pub returns-in_err-attach-clause-nodes : goal.returns-in_err-attach-clause-nodes
returns-in_err-attach-clause-nodes c = none_done _ c.from_residual.result c.from_residual.ensures.0

pub returns-in_err-attach-clause-supply : goal.returns-in_err-attach-clause-supply
returns-in_err-attach-clause-supply c = none_done _ c.from_residual.result c.from_residual.ensures.0

pub returns-in_err-attach-clause-memory : goal.returns-in_err-attach-clause-memory
returns-in_err-attach-clause-memory c = same_error _ c.from_residual.result c.in_err-attach.field-0.0 c.from_residual.ensures.1 c.in_err-attach.ensures.memory

pub returns-in_err-node-clause-so_far : goal.returns-in_err-node-clause-so_far
returns-in_err-node-clause-so_far c = none_done _ c.from_residual-in_err-node.result c.from_residual-in_err-node.ensures.0

pub returns-in_err-node-clause-nodes : goal.returns-in_err-node-clause-nodes
returns-in_err-node-clause-nodes c = none_done _ c.from_residual-in_err-node.result c.from_residual-in_err-node.ensures.0

pub returns-in_err-node-clause-supply : goal.returns-in_err-node-clause-supply
returns-in_err-node-clause-supply c = none_done _ c.from_residual-in_err-node.result c.from_residual-in_err-node.ensures.0

pub returns-in_err-node-clause-memory : goal.returns-in_err-node-clause-memory
returns-in_err-node-clause-memory c = same_error _ c.from_residual-in_err-node.result c.in_err-node.field-0.0 c.from_residual-in_err-node.ensures.1 c.in_err-node.ensures.memory
