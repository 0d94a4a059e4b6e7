use Rattle.std.proofs.Common.{arith, ◌==◌, drop}
use Rattle.std.proofs.lemmas.List.{length-drop}
use Rattle.std.proofs.lemmas.List.Sums.{common_prefix_len-le}
use Rattle.snesl_layout.proofs.differences.first_difference.Goals as goal

pub returns-else-at-other-clause-count : goal.returns-else-at-other-clause-count
returns-else-at-other-clause-count c =
    let le = common_prefix_len-le ◌==◌ (drop c.loop-at.at c.args.one.now) (drop c.loop-at.at c.args.other.now) in
    let none = length-drop c.loop-at.at c.args.other.now in
    grind arith
