use Rattle.std.proofs.Common.{◌≡◌, [], ◌∷◌, length, arith, length-append}
use Rattle.std.proofs.lemmas.Grind.{common_steps}
use Rattle.flow_base.proofs.Visits.{on_err}
use Rattle.flow_shares.specs.Pumps.{IsPumped}
use Rattle.flow_shares.proofs.Asked.{asked_none}
use Rattle.flow_shares.proofs.GivenBack.{next_given, each_more}
use Rattle.flow_shares.proofs.threads.run_all.Goals as goal

pub loop-thread-preserved : goal.loop-thread-preserved
loop-thread-preserved g c =
    let was = c.loop-thread.invariant in
    let shares = c.args.shares.items in
    let back = c.loop-thread.back.items in
    let thread = c.in-Some.thread in
    let next = next_given (λ w. w.promise.given.value) shares (length back) c.loop-thread.thread-iterator.rest.items c.next.new.self.rest.items thread was.given c.in-Some.ensures.steps.0 in
    let longer = c.push_reserved.ensures.items in
    record {
      given = rw (longer, length-append back (c.join.result ∷ [])) next.2;
      within = rw (longer, length-append back (c.join.result ∷ [])) (omega (arith, next.0));
      room = grind (arith, common_steps);
      each = rw longer (each_more (λ a b. IsPumped a b) shares back c.join.result was.each (λ d. rw (next.1 d) c.join.ensures));
    }

pub returns-clause-each : goal.returns-clause-each
returns-clause-each g c = λ k d below.
    (let whole : length c.loop-thread.back.items ≡ length c.args.shares.items = grind (arith, common_steps) in
    c.loop-thread.invariant.each k d (omega (arith, whole)))

pub loop-thread-init : goal.loop-thread-init
loop-thread-init g c = grind (arith, common_steps)

pub returns-clause-count : goal.returns-clause-count
returns-clause-count g c = grind (arith, common_steps)

pub returns-in_err-back-clause-first : goal.returns-in_err-back-clause-first
returns-in_err-back-clause-first g c = on_err c.from_residual.result (asked_none (length c.args.shares.items) (g.S.Start.asked c.args.start.now))
