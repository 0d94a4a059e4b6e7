use Rattle.std.proofs.Common.{◌≡◌, ◌+◌, MatchOption, arith, refl, subst}
use Rattle.flow_messages.specs.Limits.{greatest_capacity}
use Rattle.snesl_flatten.specs.network.Driven.{HaveEnded}
use Rattle.snesl_flatten.specs.network.NodesAtRest.{final_view}
use Rattle.snesl_run.specs.Runs.{CameOut}
use Rattle.snesl_size.specs.Sizes.{EndsAtNoneBelow, IsLeft}
use Rattle.snesl_size.proofs.Searching.{faults_so, is_least, none_below_one, none_up_to}
use Rattle.snesl_size.proofs.search.least_capacity.Goals as goal

pub loop-least-init : goal.loop-least-init
loop-least-init g c = record {
  some = omega arith;
  order = omega arith;
  limit = omega arith;
  none = none_below_one c.args.program.now c.args.input.now;
  known = refl;
  full = refl;
}

pub loop-least-preserved-in-Value : goal.loop-least-preserved-in-Value
loop-least-preserved-in-Value g c = record {
  some = c.loop-least.invariant.some;
  order = c.next_capacity-capacity.ensures.from;
  limit = omega (arith, c.next_capacity-capacity.ensures.below, c.loop-least.invariant.limit);
  none = c.loop-least.invariant.none;
  known = (c.in_ok-rested.ensures.left, subst (CameOut (final_view c.in_ok-rested.rested)) c.in-Value.is c.outcome.ensures);
  full = c.loop-least.invariant.full;
}

-- the drop of a network that has stalled has three ways, and each goes on alike
pub loop-least-preserved : goal.loop-least-preserved
loop-least-preserved g c = record {
  some = omega arith;
  order = omega (arith, c.next_capacity-capacity.ensures.below);
  limit = c.loop-least.invariant.limit;
  none = none_up_to c.args.program.now c.args.input.now c.next_capacity-capacity.result (final_view c.in_ok-rested.rested) c.in_ok-rested.ensures.left
      c.ending_stays.ensures.networks c.in-Stalled.edge (subst (CameOut (final_view c.in_ok-rested.rested)) c.in-Stalled.is c.outcome.ensures);
  known = c.loop-least.invariant.known;
  full = record {
    below = c.next_capacity-capacity.result;
    one_less = refl;
    rest = final_view c.in_ok-rested.rested;
    left = c.in_ok-rested.ensures.left;
    stalled = subst (CameOut (final_view c.in_ok-rested.rested)) c.in-Stalled.is c.outcome.ensures;
  };
}

pub loop-least-preserved-in-Stalled : goal.loop-least-preserved-in-Stalled
loop-least-preserved-in-Stalled g c = record {
  some = omega arith;
  order = omega (arith, c.next_capacity-capacity.ensures.below);
  limit = c.loop-least.invariant.limit;
  none = none_up_to c.args.program.now c.args.input.now c.next_capacity-capacity.result (final_view c.in_ok-rested.rested) c.in_ok-rested.ensures.left
      c.ending_stays.ensures.networks c.in-Stalled.edge (subst (CameOut (final_view c.in_ok-rested.rested)) c.in-Stalled.is c.outcome.ensures);
  known = c.loop-least.invariant.known;
  full = record {
    below = c.next_capacity-capacity.result;
    one_less = refl;
    rest = final_view c.in_ok-rested.rested;
    left = c.in_ok-rested.ensures.left;
    stalled = subst (CameOut (final_view c.in_ok-rested.rested)) c.in-Stalled.is c.outcome.ensures;
  };
}

pub loop-least-preserved-in-Stalled-2 : goal.loop-least-preserved-in-Stalled-2
loop-least-preserved-in-Stalled-2 g c = record {
  some = omega arith;
  order = omega (arith, c.next_capacity-capacity.ensures.below);
  limit = c.loop-least.invariant.limit;
  none = none_up_to c.args.program.now c.args.input.now c.next_capacity-capacity.result (final_view c.in_ok-rested.rested) c.in_ok-rested.ensures.left
      c.ending_stays.ensures.networks c.in-Stalled.edge (subst (CameOut (final_view c.in_ok-rested.rested)) c.in-Stalled.is c.outcome.ensures);
  known = c.loop-least.invariant.known;
  full = record {
    below = c.next_capacity-capacity.result;
    one_less = refl;
    rest = final_view c.in_ok-rested.rested;
    left = c.in_ok-rested.ensures.left;
    stalled = subst (CameOut (final_view c.in_ok-rested.rested)) c.in-Stalled.is c.outcome.ensures;
  };
}

pub returns-in-Fault-clause-size : goal.returns-in-Fault-clause-size
returns-in-Fault-clause-size g c =
    faults_so c.args.program.now c.args.input.now c.next_capacity-capacity.result (final_view c.in_ok-rested.rested) c.in_ok-rested.ensures.left
    c.one_meaning.ensures.one c.in-Fault.fault (subst (CameOut (final_view c.in_ok-rested.rested)) c.in-Fault.is c.outcome.ensures)

pub returns-in-Some-clause-size : goal.returns-in-Some-clause-size
returns-in-Some-clause-size g c =
    let program = c.args.program.now in
    let input = c.args.input.now in
    let rest = final_view c.in-Some.rested in
    let known = subst (λ o. MatchOption o (c.loop-least.enough ≡ greatest_capacity + 1)
    (λ rested. IsLeft program input c.loop-least.enough (final_view rested) × HaveEnded (final_view rested))) c.in-Some.is c.loop-least.invariant.known in
    let met : c.loop-least.enough ≡ c.loop-least.least = omega (arith, c.loop-least-test.false, c.loop-least.invariant.order) in (
      is_least program input c.loop-least.least rest (subst (λ n. IsLeft program input n rest) met known.0) c.ending_stays.ensures.networks known.1
          c.loop-least.invariant.none,
      c.loop-least.invariant.full,
    )

pub returns-in-None-clause-size : goal.returns-in-None-clause-size
returns-in-None-clause-size g c =
    let program = c.args.program.now in
    let input = c.args.input.now in
    let known : c.loop-least.enough ≡ greatest_capacity + 1 = subst (λ o. MatchOption o (c.loop-least.enough ≡ greatest_capacity + 1)
    (λ rested. IsLeft program input c.loop-least.enough (final_view rested) × HaveEnded (final_view rested))) c.in-None.is c.loop-least.invariant.known in
    let met : c.loop-least.least ≡ greatest_capacity + 1 = omega (arith, c.loop-least-test.false, c.loop-least.invariant.order, known) in
    subst (EndsAtNoneBelow program input) met c.loop-least.invariant.none
