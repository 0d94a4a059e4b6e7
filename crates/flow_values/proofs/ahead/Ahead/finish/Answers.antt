use Rattle.std.proofs.Common.{sym, ap, ◌∙◌, ◌++◌, codes, append_assoc}
use Rattle.flow_values.specs.PrintMachine.{closing_brackets}
use Rattle.flow_values.proofs.Printing.{closes-more}
use Rattle.flow_values.proofs.ahead.Ahead.finish.Goals as goal

pub loop-preserved : goal.loop-preserved
loop-preserved c = record {
  text =
      c.in_ok-push.ensures.items
      ∙ ap (λ l. l ++ codes ")") c.loop.invariant.text
      ∙ append_assoc c.args.self.now.text.items (c.args.bytes.now ++ closing_brackets c.loop.counter) (codes ")")
      ∙ ap (λ l. c.args.self.now.text.items ++ l) (append_assoc c.args.bytes.now (closing_brackets c.loop.counter) (codes ")") ∙ ap (λ l. c.args.bytes.now ++ l) (sym (closes-more c.loop.counter)));
  pending = c.loop.invariant.pending;
}
