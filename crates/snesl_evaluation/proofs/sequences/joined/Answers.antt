use Rattle.std.proofs.Common.{List, Bor, map, Vec, Global, ◌∙◌, arith}
use Rattle.snesl_data.specs.declared.datum.Datum.{Datum}
use Rattle.snesl_data.specs.Values.{value_of}
use Rattle.snesl_evaluation.specs.Builtins.{items_at}
use Rattle.snesl_evaluation.proofs.Passed.{halt_passes}
use Rattle.snesl_evaluation.proofs.Reading.{joined_given, joined_faults, joined_all}
use Rattle.snesl_evaluation.proofs.sequences.joined.Goals as goal

pub returns-in_err-inner : goal.returns-in_err-inner
returns-in_err-inner c =
    halt_passes (λ (all : Bor (List Datum)). map value_of all.now) (λ (values : Vec Datum Global). map value_of values.items) c.from_residual.result c.in_err-inner.field-0.0
    _ _ c.from_residual.ensures.1 c.in_err-inner.ensures
    (λ kind at e. c.loop-datum.invariant ∙ joined_faults (items_at c.args.at) value_of (map value_of c.loop-datum.values.items) c.args.all.now c.loop-datum.datum-index c.datum-item.result kind at
    c.loop-datum-test.true c.datum-item.is e)

pub loop-datum-preserved : goal.loop-datum-preserved
loop-datum-preserved c =
    c.loop-datum.invariant
    ∙ joined_given (items_at c.args.at) value_of (map value_of c.loop-datum.values.items) c.args.all.now c.loop-datum.datum-index c.datum-item.result (map value_of c.in_ok-inner.inner.now)
    c.loop-datum-test.true c.datum-item.is c.in_ok-inner.ensures c.in_ok-add_copies.ensures

pub returns : goal.returns
returns c = c.loop-datum.invariant ∙ joined_all (items_at c.args.at) value_of (map value_of c.loop-datum.values.items) c.args.all.now c.loop-datum.datum-index (omega arith)
