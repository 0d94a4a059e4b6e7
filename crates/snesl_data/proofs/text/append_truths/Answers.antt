use Rattle.std.proofs.Common.{get_or, false, arith}
use Rattle.std.proofs.lemmas.List.{get_or_default}
use Rattle.snesl_data.specs.Values.{a_bool}
use Rattle.snesl_data.proofs.Texts.{one_turn}
use Rattle.snesl_data.proofs.text.append_truths.Goals as goal

pub loop-i-preserved : goal.loop-i-preserved
loop-i-preserved c =
    let i = c.loop-i.i in
    let b = get_or c.args.truths.now i false in
    one_turn a_bool c.args.truths.now i b (omega arith) (get_or_default c.args.truths.now i false b (omega arith))
    c.args.out.now.items c.loop-i.out.items c.append_comma.new.out.items c.append_truth.new.out.items
    c.loop-i.invariant c.in_ok-append_comma.ensures c.in_ok-append_truth.ensures
