use Rattle.std.proofs.Common.{length, ap, subst, arith}
use Rattle.std.proofs.lemmas.List.{length_push, take_all}
use Rattle.std.specs.List.{All, zip}
use Rattle.snesl_flatten.specs.Graphs.{states_of, edges_of}
use Rattle.snesl_types.specs.declared.typed.TypedProgram.{TypedProgram}
use Rattle.callers.specs.Flatten.{IsNetworkOf, IsNetworkOfTyped}
use Rattle.callers.proofs.Planned.{of_network, pairs_more}
use Rattle.callers.proofs.plans.networks_of.Goals as goal

pub loop-input-preserved : goal.loop-input-preserved
loop-input-preserved c =
    let text = c.args.text.now in
    let parsed = c.in_ok-program.program in
    let typed = c.in_ok-typed.typed in
    let input = c.input-item.result in
    let graph = c.in_ok-network_of_plan.field-0 in
    let states = states_of graph in
    let edges = edges_of graph in
    let before = c.loop-input.graphs.items in
    let planned = subst (λ (t : TypedProgram). IsNetworkOfTyped t c.deref.result.now states edges) c.in_ok-plan.ensures.program c.in_ok-network_of_plan.ensures in
    let made = subst (λ bytes. IsNetworkOfTyped typed bytes states edges) c.deref.ensures.value planned in
    let this = of_network text parsed typed c.in_ok-program.ensures.keeps_text c.in_ok-typed.ensures.program input.items states edges c.in_ok-program.ensures.right c.in_ok-typed.ensures.typed made in
    record {
      count = omega (arith, ap length c.in_ok-push.ensures.items, length_push before graph, c.loop-input.invariant.count);
      each = rw c.in_ok-push.ensures.items (pairs_more (λ pair. IsNetworkOf text pair.0.items (states_of pair.1) (edges_of pair.1))
          c.args.inputs.now before c.loop-input.input-index input graph c.loop-input-test.true c.input-item.is c.loop-input.invariant.count c.loop-input.invariant.each this);
    }

pub returns-clause-each : goal.returns-clause-each
returns-clause-each c =
    subst (λ texts. All (λ pair. IsNetworkOf c.args.text.now pair.0.items (states_of pair.1) (edges_of pair.1)) (zip texts c.loop-input.graphs.items))
    (take_all c.loop-input.input-index c.args.inputs.now (omega arith)) c.loop-input.invariant.each
