use Rattle.std.proofs.Common.{◌++◌, refl, sym, ap, ◌∙◌, arith, drop}
use Rattle.flow_messages.specs.Runs.{run_items}
use Rattle.flow_messages.proofs.Contents.{drop_past, empty_of}
use Rattle.flow_messages.proofs.int_run.IntRun.skip.Goals as goal
use Rattle.std.proofs.Common.{length-drop, ◌-◌}

pub returns : goal.returns
returns c =
    let s = c.args.self.now in
    let narrow = run_items s.narrow in
    let none = c.skip-2.ensures.items ∙ empty_of (drop c.len-narrow.result narrow) (omega (arith, length-drop c.len-narrow.result narrow, c.len-narrow.ensures)) in
    record {
      items = ap (λ l. l ++ c.drop_front.new.queue.items) none ∙ c.drop_front.ensures.items
          ∙ ap (λ n. drop (c.args.count - n) s.wide.items) c.len-narrow.ensures
          ∙ sym (drop_past narrow s.wide.items c.args.count (omega (arith, c.len-narrow.ensures, c.if-count-narrow.false)));
      most = refl;
    }
