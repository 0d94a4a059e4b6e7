use Rattle.std.proofs.Common.{Vec, Global, ◌∙◌, arith}
use Rattle.snesl_data.specs.declared.operators.scalar.Scalar.{Scalar}
use Rattle.snesl_data.specs.Values.{value_of}
use Rattle.snesl_evaluation.specs.Builtins.{scalar_at}
use Rattle.snesl_evaluation.proofs.Passed.{halt_passes}
use Rattle.snesl_evaluation.proofs.Reading.{read_given, read_faults, read_all}
use Rattle.snesl_evaluation.proofs.sequences.scalars.Goals as goal

pub returns-in_err-x : goal.returns-in_err-x
returns-in_err-x c =
    halt_passes (λ (x : Scalar). x) (λ (read : Vec Scalar Global). read.items) c.from_residual-in_err-x.result c.in_err-x.field-0.0 _ _ c.from_residual-in_err-x.ensures.1 c.in_err-x.ensures
    (λ kind at e. c.loop-datum.invariant ∙ read_faults (scalar_at c.args.at) value_of c.loop-datum.read.items c.args.all.now c.loop-datum.datum-index c.datum-item.result kind at c.loop-datum-test.true
    c.datum-item.is e)

pub loop-datum-preserved : goal.loop-datum-preserved
loop-datum-preserved c =
    c.loop-datum.invariant
    ∙ read_given (scalar_at c.args.at) value_of c.loop-datum.read.items c.args.all.now c.loop-datum.datum-index c.datum-item.result c.in_ok-x.x c.loop-datum-test.true c.datum-item.is
    c.in_ok-x.ensures c.in_ok-push.ensures.items

pub returns : goal.returns
returns c = c.loop-datum.invariant ∙ read_all (scalar_at c.args.at) value_of c.loop-datum.read.items c.args.all.now c.loop-datum.datum-index (omega arith)
