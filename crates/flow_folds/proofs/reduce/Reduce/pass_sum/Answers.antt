use Rattle.std.proofs.Common.{true, false, Some, sym, ◌∙◌, ap, arith, rules}
use Rattle.std.specs.Int.{w64}
use mir.Val.{SFits}
use Rattle.snesl_data.specs.declared.operators.scalar.Scalar.TheVariants.{Int}
use Rattle.flow_messages.proofs.Widened.{widened}
use Rattle.flow_folds.specs.declared.reduce.Stage.TheVariants.{Flag}
use Rattle.flow_folds.proofs.ReduceBlocks.{last_flag}
use Rattle.flow_folds.proofs.reduce.Reduce.pass_sum.Goals as goal

pub returns-then-flags-passed-clause-stage : goal.returns-then-flags-passed-clause-stage
returns-then-flags-passed-clause-stage c =
    sym (last_flag c.args.self.now.stage c.args.total c.args.flags.now c.args.passed true (omega (arith, c.if-passed-eq0.false)) c.requires
    c.if-flags-passed.true)

pub returns-clause-stage : goal.returns-clause-stage
returns-clause-stage c =
    let fits : SFits w64 c.args.total = search rules in
    ap (λ k. Flag (Some (Int k))) (widened c.args.total fits)
    ∙ sym (last_flag c.args.self.now.stage c.args.total c.args.flags.now c.args.passed false
    (omega (arith, c.if-passed-eq0.false)) c.requires c.if-flags-passed.false)
