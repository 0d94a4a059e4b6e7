use Rattle.std.proofs.Common.{Bool, Vec, Global, ◌∙◌, arith}
use Rattle.snesl_data.specs.Values.{value_of}
use Rattle.snesl_evaluation.specs.Builtins.{truth_at}
use Rattle.snesl_evaluation.proofs.Passed.{halt_passes}
use Rattle.snesl_evaluation.proofs.Reading.{read_given, read_faults, read_all}
use Rattle.snesl_evaluation.proofs.sequences.truths.Goals as goal

pub returns-in_err-b : goal.returns-in_err-b
returns-in_err-b c =
    halt_passes (λ (x : Bool). x) (λ (read : Vec Bool Global). read.items) c.from_residual-in_err-b.result c.in_err-b.field-0.0 _ _ c.from_residual-in_err-b.ensures.1 c.in_err-b.ensures
    (λ kind at e. c.loop-datum.invariant ∙ read_faults (truth_at c.args.at) value_of c.loop-datum.read.items c.args.all.now c.loop-datum.datum-index c.datum-item.result kind at c.loop-datum-test.true
    c.datum-item.is e)

pub loop-datum-preserved : goal.loop-datum-preserved
loop-datum-preserved c =
    c.loop-datum.invariant
    ∙ read_given (truth_at c.args.at) value_of c.loop-datum.read.items c.args.all.now c.loop-datum.datum-index c.datum-item.result c.in_ok-b.b c.loop-datum-test.true c.datum-item.is
    c.in_ok-b.ensures c.in_ok-push.ensures.items

pub returns : goal.returns
returns c = c.loop-datum.invariant ∙ read_all (truth_at c.args.at) value_of c.loop-datum.read.items c.args.all.now c.loop-datum.datum-index (omega arith)
