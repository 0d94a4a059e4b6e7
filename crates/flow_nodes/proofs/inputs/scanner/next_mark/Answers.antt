use Rattle.std.proofs.Common.{◌+◌, Some, ◌∙◌, arith, ap}
use Rattle.snesl_values.proofs.Spots.{found_none}
use Rattle.flow_nodes.proofs.OfInputs.Skips.{sign_found, end_at}
use Rattle.flow_nodes.proofs.inputs.scanner.next_mark.Goals as goal

pub returns-then-at-text-clause-next : goal.returns-then-at-text-clause-next
returns-then-at-text-clause-next c = found_none c.args.text.now c.args.at c.args.at (end_at c.args.text.now c.args.at (omega arith)) (omega arith)

pub returns-in_default : goal.returns-in_default
returns-in_default c = record {
  next =
      ap (λ mark. Some (record { mark = mark; end = c.args.at + 1 })) c.sign_mark.ensures
      ∙ sign_found c.args.text.now c.args.at (omega arith) (λ other. c.in_default.not-Other (c.sign_mark.ensures ∙ other));
  moves = omega arith;
  within = omega arith;
}
