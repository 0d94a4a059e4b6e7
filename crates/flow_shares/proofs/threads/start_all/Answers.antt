use Rattle.std.proofs.lemmas.Grind.{common_steps}
use Rattle.std.proofs.Common.{◌+◌, ◌≤◌, [], ◌∷◌, map, length, ap, ◌∙◌, arith, length-append}
use Rattle.std.proofs.lemmas.List.{length-map}
use Rattle.flow_base.proofs.Visits.{on_err}
use Rattle.flow_shares.specs.declared.error.WorkError.TheVariants.{NoThread}
use Rattle.flow_shares.proofs.Asked.{asked_next, asked_first, asked_none}
use Rattle.flow_shares.proofs.Refused.{none_refused}
use Rattle.flow_shares.proofs.threads.start_all.Goals as goal

pub loop-share-preserved : goal.loop-share-preserved
loop-share-preserved g c =
    let was = c.loop-share.invariant in
    let threads = c.loop-share.threads in
    let asked = g.S.Start.asked in
    let longer = ap length c.push_reserved.ensures.items ∙ length-append threads.items (c.in-Ok.thread ∷ []) in
    record {
      refused = λ refused. was.refused (none_refused c.in-Ok.thread NoThread c.in-Ok.ensures.refused refused);
      asked = asked_next (length threads.items) c.len-number.result (length c.push_reserved.new.self.items)
          (asked c.args.start.now) (asked c.loop-share.start) (asked c.start_thread.new.start) was.asked c.start_thread.ensures.asked
          (omega (arith, c.len-number.ensures, threads.ok.0)) (omega (arith, longer));
      started = grind (arith, common_steps);
      room = grind (arith, common_steps);
    }

pub returns-in-Err-clause-first : goal.returns-in-Err-clause-first
returns-in-Err-clause-first g c =
    let was = c.loop-share.invariant in
    let threads = c.loop-share.threads in
    let asked = g.S.Start.asked in
    let rest = c.loop-share.share-iterator.rest.items in
    let count : length threads.items + 1 ≤ length c.args.shares.items =
    omega (
      arith,
      ap length was.started,
      length-append (map (λ thread. thread.promise.given.value) threads.items) rest,
      length-map threads.items (λ thread. thread.promise.given.value),
      ap length c.in-Some.ensures.steps.0,
    ) in
    asked_first (length threads.items + 1) (length c.args.shares.items) (asked c.args.start.now) (asked c.start_thread.new.start) count
    (asked_next (length threads.items) c.len-number.result (length threads.items + 1)
    (asked c.args.start.now) (asked c.loop-share.start) (asked c.start_thread.new.start) was.asked c.start_thread.ensures.asked
    (omega (arith, c.len-number.ensures, threads.ok.0)) (omega arith))

pub returns-clause-given : goal.returns-clause-given
returns-clause-given g c = grind (arith, common_steps)

pub returns-in_err-threads-clause-first : goal.returns-in_err-threads-clause-first
returns-in_err-threads-clause-first g c = on_err c.from_residual.result (asked_none (length c.args.shares.items) (g.S.Start.asked c.args.start.now))
