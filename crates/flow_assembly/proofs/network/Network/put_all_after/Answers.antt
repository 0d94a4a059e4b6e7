use Rattle.std.proofs.Common.{◌≡◌, ◌+◌, ◌∙◌, sym, ap, subst, arith, drop, length, get_or, refl}
use Rattle.flow_messages.specs.declared.message.Kind.TheVariants.{Unit as UnitKind}
use Rattle.snesl_data.specs.declared.refusal.Refusal.TheVariants.{TooBig}
use Rattle.flow_nodes.specs.plans.Layouts.{uses, all_after}
use Rattle.flow_networks.specs.Graphs.{states_so_far, edges_so_far}
use Rattle.flow_assembly.specs.Ready.{plan_of, AreNextInLayout, IsPutTo}
use Rattle.flow_assembly.proofs.Fitting.{passed_on}
use Rattle.flow_assembly.proofs.Refused.{none_done, same_error}
use Rattle.flow_assembly.proofs.Stepping.{first_next, later_next, count_next, same_default}
use Rattle.flow_assembly.proofs.network.Network.put_all_after.Goals as goal

pub put_after-requires-clause-next : goal.put_after-requires-clause-next
put_after-requires-clause-next c =
    first_next (plan_of c.args.plan.now) c.args.at c.args.first c.loop-port.port c.args.kinds.now (get_or c.args.kinds.now c.loop-port.port UnitKind)
    c.loop-port-test.true (same_default c.args.kinds.now c.loop-port.port UnitKind _ c.loop-port-test.true)
    (states_so_far c.loop-port.self.builder) c.loop-port.invariant.next

pub loop-port-preserved : goal.loop-port-preserved
loop-port-preserved c =
    let kind = get_or c.args.kinds.now c.loop-port.port UnitKind in
    let same = same_default c.args.kinds.now c.loop-port.port UnitKind kind c.loop-port-test.true in
    let e : c.args.first + c.loop-port.port + 1 ≡ c.args.first + (c.loop-port.port + 1) = omega arith in
    record {
      so_far = subst (λ s. IsPutTo (plan_of c.args.plan.now) s c.put_after.new.self.supply.items c.put_after.new.self.places.items
          (states_so_far c.put_after.new.self.builder) (edges_so_far c.put_after.new.self.builder)) e c.in_ok-put_after.ensures.so_far;
      next = later_next (plan_of c.args.plan.now) c.args.at c.args.first c.loop-port.port c.args.kinds.now kind c.loop-port-test.true same
          (states_so_far c.loop-port.self.builder) (states_so_far c.put_after.new.self.builder) c.loop-port.invariant.next
          c.in_ok-put_after.ensures.nodes;
      nodes = omega (
        arith,
        c.in_ok-put_after.ensures.nodes,
        c.loop-port.invariant.nodes,
        count_next (plan_of c.args.plan.now) c.args.at c.args.first c.loop-port.port c.args.kinds.now kind c.loop-port-test.true same,
      );
      supply = c.in_ok-put_after.ensures.supply ∙ c.loop-port.invariant.supply;
      places = c.in_ok-put_after.ensures.places ∙ c.loop-port.invariant.places;
    }

pub loop-port-init : goal.loop-port-init
loop-port-init c =
    let now = c.args.self.now in
    let plan = plan_of c.args.plan.now in
    let states = states_so_far now.builder in
    let e : c.args.first + 0 ≡ c.args.first = omega arith in
    record {
      so_far = subst (λ s. IsPutTo plan s now.supply.items now.places.items states (edges_so_far now.builder)) (sym e) c.requires.so_far;
      next = subst (λ s. AreNextInLayout plan states (all_after plan c.args.at s c.args.kinds.now)) (sym e) c.requires.next;
      nodes = ap (λ s. length states + length (all_after plan c.args.at s c.args.kinds.now)) e;
      supply = refl;
      places = refl;
    }

pub put_after-requires-clause-inside : goal.put_after-requires-clause-inside
put_after-requires-clause-inside c = omega (arith, c.requires.inside, c.loop-port-test.true, c.loop-port.invariant.supply)

pub put_after-requires-clause-later : goal.put_after-requires-clause-later
put_after-requires-clause-later c =
    let s = c.args.first + c.loop-port.port in
    c.requires.later s (omega arith) ∙ ap (λ found. uses s (drop (length found) (plan_of c.args.plan.now))) (sym c.loop-port.invariant.places)

pub returns-in_err-put_after : goal.returns-in_err-put_after
returns-in_err-put_after c =
    let r = c.from_residual.result in
    let x = c.in_err-put_after.field-0.0 in
    let no = c.from_residual.ensures.0 in
    let is = c.from_residual.ensures.1 in
    record {
      so_far = none_done _ r no;
      nodes = none_done _ r no;
      supply = none_done _ r no;
      places = c.in_err-put_after.ensures.places ∙ c.loop-port.invariant.places;
      big = λ e. c.in_err-put_after.ensures.big (passed_on r x TooBig is e);
      memory = same_error _ r x is c.in_err-put_after.ensures.memory;
    }
