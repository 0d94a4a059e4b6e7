use Rattle.std.proofs.Common.{◌≡◌, [], length, sym, subst, arith}
use Rattle.snesl_data.specs.declared.refusal.Refusal.TheVariants.{TooBig}
use Rattle.flow_networks.specs.Graphs.{states_so_far, edges_so_far}
use Rattle.flow_nodes.specs.plans.Ports.{AreWired}
use Rattle.flow_assembly.specs.Ready.{plan_of, IsTooBig, IsBuiltTo}
use Rattle.flow_assembly.proofs.Finishing.{empty_built}
use Rattle.flow_assembly.proofs.Fitting.{passed_on}
use Rattle.flow_assembly.proofs.Refused.{none_given, same_error}
use Rattle.flow_assembly.proofs.assembly.assemble.Goals as goal

pub loop-number-init : goal.loop-number-init
loop-number-init c =
    let made = c.new-network.result in
    empty_built (plan_of c.in_ok-plan.plan) made.supply.items made.places.items (states_so_far made.builder) (edges_so_far made.builder)
    c.new-network.ensures.supply c.new-network.ensures.places c.new-network.ensures.nodes c.new-network.ensures.edges

pub add_step-requires : goal.add_step-requires
add_step-requires c = record {
  inside = omega (arith, c.loop-number-test.true, c.len-number-end.ensures);
  wired = subst (AreWired []) (sym c.in_ok-plan.ensures.plan) c.requires.wired;
  counted = c.in_ok-plan.ensures.counted;
  built = c.loop-number.invariant;
}

pub loop-number-preserved : goal.loop-number-preserved
loop-number-preserved c = c.in_ok-add_step.ensures.built

pub finished-requires : goal.finished-requires
finished-requires c =
    let all : c.loop-number.number ≡ length c.in_ok-plan.plan.steps.items = omega (arith, c.loop-number-test.false, c.loop-number.auto.number-end, c.len-number-end.ensures) in
    let network = c.loop-number.network in
    record {
      wired = subst (AreWired []) (sym c.in_ok-plan.ensures.plan) c.requires.wired;
      built = subst (λ i. IsBuiltTo (plan_of c.in_ok-plan.plan) i network.supply.items network.places.items (states_so_far network.builder) (edges_so_far network.builder)) all c.loop-number.invariant;
    }

pub returns-in_err-plan : goal.returns-in_err-plan
returns-in_err-plan c =
    let r = c.from_residual.result in
    let x = c.in_err-plan.field-0.0 in
    let no = c.from_residual.ensures.0 in
    let is = c.from_residual.ensures.1 in
    record {
      network = none_given _ r no;
      edges = none_given _ r no;
      opens = none_given _ r no;
      opened = none_given _ r no;
      places = none_given _ r no;
      few = none_given _ r no;
      big = λ e. c.in_err-plan.ensures.big (passed_on r x TooBig is e);
      memory = same_error _ r x is c.in_err-plan.ensures.memory;
    }

pub returns-in_err-add_step : goal.returns-in_err-add_step
returns-in_err-add_step c =
    let r = c.from_residual-in_err-add_step.result in
    let x = c.in_err-add_step.field-0.0 in
    let no = c.from_residual-in_err-add_step.ensures.0 in
    let is = c.from_residual-in_err-add_step.ensures.1 in
    record {
      network = none_given _ r no;
      edges = none_given _ r no;
      opens = none_given _ r no;
      opened = none_given _ r no;
      places = none_given _ r no;
      few = none_given _ r no;
      big = λ e. subst IsTooBig c.in_ok-plan.ensures.plan (c.in_err-add_step.ensures.big (passed_on r x TooBig is e));
      memory = same_error _ r x is c.in_err-add_step.ensures.memory;
    }
