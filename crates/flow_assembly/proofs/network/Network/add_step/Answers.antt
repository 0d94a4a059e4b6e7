use Rattle.std.proofs.Common.{◌≡◌, ◌+◌, ◌∙◌, refl, inr, sym, ap, arith, length}
use Rattle.std.proofs.lemmas.List.{length_push, length-append}
use Rattle.flow_networks.specs.Graphs.{states_so_far, edges_so_far}
use Rattle.flow_nodes.specs.StreamNodes.{state_of}
use Rattle.flow_nodes.specs.plans.Layouts.{all_after}
use Rattle.flow_nodes.specs.plans.Ports.{kinds_written}
use Rattle.flow_nodes.specs.plans.Views.{operation_of, step_of}
use Rattle.snesl_data.specs.declared.refusal.Refusal.TheVariants.{TooBig, NoMemory}
use Rattle.flow_assembly.specs.Ready.{plan_of, ports_of}
use Rattle.flow_assembly.proofs.Counting.{step_now}
use Rattle.flow_assembly.proofs.Fitting.{passed_on}
use Rattle.flow_assembly.proofs.Limiting.{too_many_nodes}
use Rattle.flow_assembly.proofs.Putting.{plan_fits}
use Rattle.flow_assembly.proofs.Refused.{none_done, same_error, not_big}
use Rattle.flow_assembly.proofs.Steps.{same_kinds, placed, placed_at, step_reads, step_there, step_within, step_joined, step_later, step_found}
use Rattle.flow_assembly.proofs.Steps.{step_next, step_put, step_inside, step_built, ports_length}
use Rattle.flow_assembly.proofs.network.Network.add_step.Goals as goal

pub returns-in_err-place-clause-big : goal.returns-in_err-place-clause-big
returns-in_err-place-clause-big c = λ e.
    too_many_nodes (plan_of c.args.plan.now) (states_so_far c.args.self.now.builder) (edges_so_far c.args.self.now.builder)
    (placed (plan_of c.args.plan.now) c.args.number (step_of c.args.plan.now.dialect c.index-step.result.now)
    (step_now c.args.plan.now c.args.number c.index-step.result.now c.requires.inside c.index-step.ensures) c.requires.wired
    c.args.self.now.supply.items c.args.self.now.places.items (states_so_far c.args.self.now.builder) (edges_so_far c.args.self.now.builder)
    c.requires.built) (placed_at (plan_of c.args.plan.now) c.args.number (step_of c.args.plan.now.dialect c.index-step.result.now)
    (step_now c.args.plan.now c.args.number c.index-step.result.now c.requires.inside c.index-step.ensures) c.requires.wired
    c.args.self.now.supply.items c.args.self.now.places.items (states_so_far c.args.self.now.builder) (edges_so_far c.args.self.now.builder)
    c.requires.built)
    (c.in_err-place.ensures.full.0 (passed_on c.from_residual-in_err-place.result c.in_err-place.field-0.0 TooBig c.from_residual-in_err-place.ensures.1 e))

pub read_streams-requires-clause-reads : goal.read_streams-requires-clause-reads
read_streams-requires-clause-reads c =
    step_reads (plan_of c.args.plan.now) c.args.number (step_of c.args.plan.now.dialect c.index-step.result.now)
    (step_now c.args.plan.now c.args.number c.index-step.result.now c.requires.inside c.index-step.ensures) c.requires.wired
    c.args.self.now.supply.items c.args.self.now.places.items (states_so_far c.args.self.now.builder) (edges_so_far c.args.self.now.builder)
    c.requires.built c.in_ok-place.place c.deref.result.now c.in_ok-place.ensures.number c.deref.ensures.value

pub read_streams-requires-clause-there : goal.read_streams-requires-clause-there
read_streams-requires-clause-there c =
    step_there (plan_of c.args.plan.now) c.args.number (step_of c.args.plan.now.dialect c.index-step.result.now)
    (step_now c.args.plan.now c.args.number c.index-step.result.now c.requires.inside c.index-step.ensures) c.requires.wired
    c.args.self.now.supply.items c.args.self.now.places.items (states_so_far c.args.self.now.builder) (edges_so_far c.args.self.now.builder)
    c.requires.built c.deref.result.now c.deref.ensures.value

pub read_streams-requires-clause-within : goal.read_streams-requires-clause-within
read_streams-requires-clause-within c =
    step_within (plan_of c.args.plan.now) c.args.number (step_of c.args.plan.now.dialect c.index-step.result.now)
    (step_now c.args.plan.now c.args.number c.index-step.result.now c.requires.inside c.index-step.ensures) c.requires.wired
    c.args.self.now.supply.items c.args.self.now.places.items (states_so_far c.args.self.now.builder) (edges_so_far c.args.self.now.builder)
    c.requires.built (state_of c.in_ok-node.node) c.deref.result.now (states_so_far c.node.new.self) (edges_so_far c.node.new.self)
    c.deref.ensures.value c.in_ok-place.ensures.nodes c.in_ok-place.ensures.edges (λ full. let e = c.in_ok-place.ensures.full.1 full in absurd (cc))

pub read_streams-requires-clause-joined : goal.read_streams-requires-clause-joined
read_streams-requires-clause-joined c =
    step_joined (plan_of c.args.plan.now) c.args.number (step_of c.args.plan.now.dialect c.index-step.result.now)
    (step_now c.args.plan.now c.args.number c.index-step.result.now c.requires.inside c.index-step.ensures) c.requires.wired
    c.args.self.now.supply.items c.args.self.now.places.items (states_so_far c.args.self.now.builder) (edges_so_far c.args.self.now.builder)
    c.requires.built (state_of c.in_ok-node.node) c.in_ok-place.place c.deref.result.now c.push.new.self.items (states_so_far c.node.new.self)
    (edges_so_far c.node.new.self) c.in_ok-node.ensures c.in_ok-place.ensures.number c.deref.ensures.value
    c.in_ok-push.ensures.items c.in_ok-place.ensures.nodes c.in_ok-place.ensures.edges

pub put_all_after-requires-clause-inside : goal.put_all_after-requires-clause-inside
put_all_after-requires-clause-inside c =
    let kinds = (same_kinds (step_of c.args.plan.now.dialect c.index-step.result.now) (state_of c.in_ok-node.node) c.in_ok-kinds.kinds.items
    (c.openings_perform.ensures c.index-step.result.now.at (operation_of c.args.plan.now.dialect c.index-step.result.now.operation)
    (state_of c.in_ok-node.node)
    (plan_fits c.args.plan.now c.requires.wired (length (states_so_far c.args.self.now.builder))
    (placed (plan_of c.args.plan.now) c.args.number (step_of c.args.plan.now.dialect c.index-step.result.now)
    (step_now c.args.plan.now c.args.number c.index-step.result.now c.requires.inside c.index-step.ensures) c.requires.wired
    c.args.self.now.supply.items c.args.self.now.places.items (states_so_far c.args.self.now.builder) (edges_so_far c.args.self.now.builder)
    c.requires.built) (placed_at (plan_of c.args.plan.now) c.args.number (step_of c.args.plan.now.dialect c.index-step.result.now)
    (step_now c.args.plan.now c.args.number c.index-step.result.now c.requires.inside c.index-step.ensures) c.requires.wired
    c.args.self.now.supply.items c.args.self.now.places.items (states_so_far c.args.self.now.builder) (edges_so_far c.args.self.now.builder)
    c.requires.built)).usable c.in_ok-node.ensures) c.in_ok-kinds.ensures) in
    let many : c.len.result ≡ length (kinds_written (operation_of c.args.plan.now.dialect c.index-step.result.now.operation)) =
    omega (arith, c.len.ensures, c.in_ok-kinds.kinds.ok.0, ap length kinds) in
    let room = step_inside (plan_of c.args.plan.now) c.args.number (step_of c.args.plan.now.dialect c.index-step.result.now)
    (step_now c.args.plan.now c.args.number c.index-step.result.now c.requires.inside c.index-step.ensures) c.requires.wired
    c.args.self.now.supply.items c.args.self.now.places.items (states_so_far c.args.self.now.builder) (edges_so_far c.args.self.now.builder)
    c.requires.built c.in_ok-place.place c.len.result c.read_streams.new.self.supply.items c.add_streams.new.self.supply.items c.push.new.self.items
    (states_so_far c.read_streams.new.self.builder) (edges_so_far c.read_streams.new.self.builder) c.deref.result.now
    c.in_ok-place.ensures.number many c.len.type_inv c.deref.ensures.value c.in_ok-read_streams.ensures.supply c.in_ok-add_streams.ensures.supply
    c.in_ok-read_streams.ensures.joined c.len-first.result
    (omega (arith, c.len-first.ensures, c.read_streams.new.self.supply.ok.0, c.in_ok-read_streams.ensures.supply)) in
    omega (arith, room, c.len.ensures, c.in_ok-kinds.kinds.ok.0, ap length c.deref-2.ensures.value)

pub put_all_after-requires-clause-later : goal.put_all_after-requires-clause-later
put_all_after-requires-clause-later c = λ s le.
    let places = c.in_ok-add_streams.ensures.places ∙ c.in_ok-read_streams.ensures.places in
    step_later (plan_of c.args.plan.now) c.args.number (step_of c.args.plan.now.dialect c.index-step.result.now)
    (step_now c.args.plan.now c.args.number c.index-step.result.now c.requires.inside c.index-step.ensures) c.requires.wired
    c.args.self.now.supply.items c.args.self.now.places.items (states_so_far c.args.self.now.builder) (edges_so_far c.args.self.now.builder)
    c.requires.built c.add_streams.new.self.places.items
    (ap length places ∙ step_found (plan_of c.args.plan.now) c.args.number (step_of c.args.plan.now.dialect c.index-step.result.now)
    (step_now c.args.plan.now c.args.number c.index-step.result.now c.requires.inside c.index-step.ensures) c.requires.wired
    c.args.self.now.supply.items c.args.self.now.places.items (states_so_far c.args.self.now.builder) (edges_so_far c.args.self.now.builder)
    c.requires.built c.in_ok-place.place c.push.new.self.items c.in_ok-push.ensures.items) c.len-first.result s
    (omega (arith, c.len-first.ensures, c.read_streams.new.self.supply.ok.0, c.in_ok-read_streams.ensures.supply)) le

pub put_all_after-requires-clause-next : goal.put_all_after-requires-clause-next
put_all_after-requires-clause-next c =
    let kinds = (same_kinds (step_of c.args.plan.now.dialect c.index-step.result.now) (state_of c.in_ok-node.node) c.in_ok-kinds.kinds.items
    (c.openings_perform.ensures c.index-step.result.now.at (operation_of c.args.plan.now.dialect c.index-step.result.now.operation)
    (state_of c.in_ok-node.node)
    (plan_fits c.args.plan.now c.requires.wired (length (states_so_far c.args.self.now.builder))
    (placed (plan_of c.args.plan.now) c.args.number (step_of c.args.plan.now.dialect c.index-step.result.now)
    (step_now c.args.plan.now c.args.number c.index-step.result.now c.requires.inside c.index-step.ensures) c.requires.wired
    c.args.self.now.supply.items c.args.self.now.places.items (states_so_far c.args.self.now.builder) (edges_so_far c.args.self.now.builder)
    c.requires.built) (placed_at (plan_of c.args.plan.now) c.args.number (step_of c.args.plan.now.dialect c.index-step.result.now)
    (step_now c.args.plan.now c.args.number c.index-step.result.now c.requires.inside c.index-step.ensures) c.requires.wired
    c.args.self.now.supply.items c.args.self.now.places.items (states_so_far c.args.self.now.builder) (edges_so_far c.args.self.now.builder)
    c.requires.built)).usable c.in_ok-node.ensures) c.in_ok-kinds.ensures) in
    let states = ap states_so_far c.in_ok-add_streams.ensures.builder ∙ c.in_ok-read_streams.ensures.nodes ∙ c.in_ok-place.ensures.nodes in
    step_next (plan_of c.args.plan.now) c.args.number (step_of c.args.plan.now.dialect c.index-step.result.now)
    (step_now c.args.plan.now c.args.number c.index-step.result.now c.requires.inside c.index-step.ensures) c.requires.wired
    c.args.self.now.supply.items c.args.self.now.places.items (states_so_far c.args.self.now.builder) (edges_so_far c.args.self.now.builder)
    c.requires.built (states_so_far c.add_streams.new.self.builder) c.len-first.result c.deref-2.result.now
    (ap length states ∙ length_push (states_so_far c.args.self.now.builder) (state_of c.in_ok-node.node))
    (omega (arith, c.len-first.ensures, c.read_streams.new.self.supply.ok.0, c.in_ok-read_streams.ensures.supply)) (c.deref-2.ensures.value ∙ kinds)

pub put_all_after-requires-clause-so_far : goal.put_all_after-requires-clause-so_far
put_all_after-requires-clause-so_far c =
    let kinds = (same_kinds (step_of c.args.plan.now.dialect c.index-step.result.now) (state_of c.in_ok-node.node) c.in_ok-kinds.kinds.items
    (c.openings_perform.ensures c.index-step.result.now.at (operation_of c.args.plan.now.dialect c.index-step.result.now.operation)
    (state_of c.in_ok-node.node)
    (plan_fits c.args.plan.now c.requires.wired (length (states_so_far c.args.self.now.builder))
    (placed (plan_of c.args.plan.now) c.args.number (step_of c.args.plan.now.dialect c.index-step.result.now)
    (step_now c.args.plan.now c.args.number c.index-step.result.now c.requires.inside c.index-step.ensures) c.requires.wired
    c.args.self.now.supply.items c.args.self.now.places.items (states_so_far c.args.self.now.builder) (edges_so_far c.args.self.now.builder)
    c.requires.built) (placed_at (plan_of c.args.plan.now) c.args.number (step_of c.args.plan.now.dialect c.index-step.result.now)
    (step_now c.args.plan.now c.args.number c.index-step.result.now c.requires.inside c.index-step.ensures) c.requires.wired
    c.args.self.now.supply.items c.args.self.now.places.items (states_so_far c.args.self.now.builder) (edges_so_far c.args.self.now.builder)
    c.requires.built)).usable c.in_ok-node.ensures) c.in_ok-kinds.ensures) in
    let many : c.len.result ≡ length (kinds_written (operation_of c.args.plan.now.dialect c.index-step.result.now.operation)) =
    omega (arith, c.len.ensures, c.in_ok-kinds.kinds.ok.0, ap length kinds) in
    let states = c.in_ok-read_streams.ensures.nodes ∙ c.in_ok-place.ensures.nodes in
    step_put (plan_of c.args.plan.now) c.args.number (step_of c.args.plan.now.dialect c.index-step.result.now)
    (step_now c.args.plan.now c.args.number c.index-step.result.now c.requires.inside c.index-step.ensures) c.requires.wired
    c.args.self.now.supply.items c.args.self.now.places.items (states_so_far c.args.self.now.builder) (edges_so_far c.args.self.now.builder)
    c.requires.built c.in_ok-place.place c.len.result c.read_streams.new.self.supply.items c.add_streams.new.self.supply.items c.push.new.self.items
    (states_so_far c.read_streams.new.self.builder) (edges_so_far c.read_streams.new.self.builder) c.deref.result.now
    c.in_ok-place.ensures.number many c.len.type_inv c.deref.ensures.value c.in_ok-read_streams.ensures.supply c.in_ok-add_streams.ensures.supply c.in_ok-read_streams.ensures.joined
    (states_so_far c.add_streams.new.self.builder) (edges_so_far c.add_streams.new.self.builder) c.add_streams.new.self.places.items
    c.len-first.result (omega (arith, c.len-first.ensures, c.read_streams.new.self.supply.ok.0, c.in_ok-read_streams.ensures.supply))
    (ap states_so_far c.in_ok-add_streams.ensures.builder) (ap edges_so_far c.in_ok-add_streams.ensures.builder) (c.in_ok-add_streams.ensures.places ∙ c.in_ok-read_streams.ensures.places)
    (ap length states ∙ length_push (states_so_far c.args.self.now.builder) (state_of c.in_ok-node.node) ∙ ap (λ n. n + 1) (sym c.in_ok-place.ensures.number)) c.in_ok-read_streams.ensures.within

pub returns-clause-built : goal.returns-clause-built
returns-clause-built c =
    let kinds = (same_kinds (step_of c.args.plan.now.dialect c.index-step.result.now) (state_of c.in_ok-node.node) c.in_ok-kinds.kinds.items
    (c.openings_perform.ensures c.index-step.result.now.at (operation_of c.args.plan.now.dialect c.index-step.result.now.operation)
    (state_of c.in_ok-node.node)
    (plan_fits c.args.plan.now c.requires.wired (length (states_so_far c.args.self.now.builder))
    (placed (plan_of c.args.plan.now) c.args.number (step_of c.args.plan.now.dialect c.index-step.result.now)
    (step_now c.args.plan.now c.args.number c.index-step.result.now c.requires.inside c.index-step.ensures) c.requires.wired
    c.args.self.now.supply.items c.args.self.now.places.items (states_so_far c.args.self.now.builder) (edges_so_far c.args.self.now.builder)
    c.requires.built) (placed_at (plan_of c.args.plan.now) c.args.number (step_of c.args.plan.now.dialect c.index-step.result.now)
    (step_now c.args.plan.now c.args.number c.index-step.result.now c.requires.inside c.index-step.ensures) c.requires.wired
    c.args.self.now.supply.items c.args.self.now.places.items (states_so_far c.args.self.now.builder) (edges_so_far c.args.self.now.builder)
    c.requires.built)).usable c.in_ok-node.ensures) c.in_ok-kinds.ensures) in
    let states = ap states_so_far c.in_ok-add_streams.ensures.builder ∙ c.in_ok-read_streams.ensures.nodes ∙ c.in_ok-place.ensures.nodes in
    let here : c.len-first.result ≡ length c.args.self.now.supply.items = omega (arith, c.len-first.ensures, c.read_streams.new.self.supply.ok.0, c.in_ok-read_streams.ensures.supply) in
    step_built (plan_of c.args.plan.now) c.args.number (step_of c.args.plan.now.dialect c.index-step.result.now)
    (step_now c.args.plan.now c.args.number c.index-step.result.now c.requires.inside c.index-step.ensures) c.requires.wired
    c.args.self.now.supply.items c.args.self.now.places.items (states_so_far c.args.self.now.builder) (edges_so_far c.args.self.now.builder)
    c.requires.built c.in_ok-place.place c.deref-2.result.now c.len-first.result c.put_all_after.new.self.supply.items
    c.put_all_after.new.self.places.items
    (states_so_far c.put_all_after.new.self.builder) (edges_so_far c.put_all_after.new.self.builder) c.in_ok-place.ensures.number
    (c.deref-2.ensures.value ∙ kinds) here c.in_ok-put_all_after.ensures.so_far
    (c.in_ok-put_all_after.ensures.nodes
    ∙ ap (λ n. n + length (all_after (plan_of c.args.plan.now) c.index-step.result.now.at c.len-first.result c.deref-2.result.now))
    (ap length states ∙ length_push (states_so_far c.args.self.now.builder) (state_of c.in_ok-node.node)))
    (omega (
      arith,
      c.in_ok-put_all_after.ensures.supply,
      ap length c.in_ok-add_streams.ensures.supply,
      length-append c.read_streams.new.self.supply.items (ports_of c.in_ok-place.place c.len.result),
      ports_length c.in_ok-place.place c.len.result,
      c.in_ok-read_streams.ensures.supply,
      c.len.ensures,
      c.in_ok-kinds.kinds.ok.0,
      ap length kinds,
    ))
    (c.in_ok-put_all_after.ensures.places ∙ c.in_ok-add_streams.ensures.places ∙ c.in_ok-read_streams.ensures.places ∙ c.in_ok-push.ensures.items)

pub returns-in_err-node : goal.returns-in_err-node
returns-in_err-node c =
    let r = c.from_residual.result in
    record { built = none_done _ r c.from_residual.ensures.0; big = not_big r c.from_residual.ensures.1; memory = same_error _ r NoMemory c.from_residual.ensures.1 (inr refl) }

pub returns-in_err-kinds : goal.returns-in_err-kinds
returns-in_err-kinds c =
    let r = c.from_residual-in_err-kinds.result in
    record {
      built = none_done _ r c.from_residual-in_err-kinds.ensures.0;
      big = not_big r c.from_residual-in_err-kinds.ensures.1;
      memory =
          same_error _ r NoMemory c.from_residual-in_err-kinds.ensures.1 (inr refl);
    }

pub returns-in_err-push : goal.returns-in_err-push
returns-in_err-push c =
    let r = c.from_residual-in_err-push.result in
    record {
      built = none_done _ r c.from_residual-in_err-push.ensures.0;
      big = not_big r c.from_residual-in_err-push.ensures.1;
      memory =
          same_error _ r NoMemory c.from_residual-in_err-push.ensures.1 (inr refl);
    }

pub returns-in_err-add_streams : goal.returns-in_err-add_streams
returns-in_err-add_streams c =
    let r = c.from_residual-in_err-add_streams.result in
    record {
      built = none_done _ r c.from_residual-in_err-add_streams.ensures.0;
      big = not_big r c.from_residual-in_err-add_streams.ensures.1;
      memory = same_error _ r NoMemory c.from_residual-in_err-add_streams.ensures.1 (inr refl);
    }

pub returns-in_err-read_streams : goal.returns-in_err-read_streams
returns-in_err-read_streams c =
    let r = c.from_residual-in_err-read_streams.result in
    let x = c.in_err-read_streams.field-0.0 in
    record {
      built = none_done _ r c.from_residual-in_err-read_streams.ensures.0;
      big = λ e. c.in_err-read_streams.ensures.big (passed_on r x TooBig c.from_residual-in_err-read_streams.ensures.1 e);
      memory = same_error _ r x c.from_residual-in_err-read_streams.ensures.1 c.in_err-read_streams.ensures.memory;
    }

pub returns-in_err-put_all_after : goal.returns-in_err-put_all_after
returns-in_err-put_all_after c =
    let r = c.from_residual-in_err-put_all_after.result in
    let x = c.in_err-put_all_after.field-0.0 in
    record {
      built = none_done _ r c.from_residual-in_err-put_all_after.ensures.0;
      big = λ e. c.in_err-put_all_after.ensures.big (passed_on r x TooBig c.from_residual-in_err-put_all_after.ensures.1 e);
      memory = same_error _ r x c.from_residual-in_err-put_all_after.ensures.1 c.in_err-put_all_after.ensures.memory;
    }
