use Rattle.std.proofs.Common.{Ok, sym, subst, arith}
use Rattle.std.proofs.Math.ListN.{drop_of_length-le}
use Rattle.snesl_translation.specs.Translation.{same_lengths}
use Rattle.snesl_translator.specs.steps.Views.{bindings_of, next_in}
use Rattle.snesl_translator.specs.steps.Added.{Adds}
use Rattle.snesl_translator.proofs.OfSteps.Adding.{done_made, exits}
use Rattle.snesl_translator.proofs.OfSteps.Comparisons.{comparisons_continue, comparisons_refused}
use Rattle.snesl_translator.proofs.steps.forms.same_as.Goals as goal

pub returns-in_err-test_on : goal.returns-in_err-test_on
returns-in_err-test_on c =
    let sources = c.args.others.now in
    let whole = same_lengths c.args.at c.args.flags (bindings_of sources) (next_in c.args.steps.now) in
    exits (λ x. x) c.args.steps.now c.test_on.new.self whole c.in_err-test_on.field-0.0 c.from_residual.result c.from_residual.ensures
    (comparisons_refused c.args.at c.args.flags c.loop-source.source-index c.stream.result sources c.source-item.result c.args.steps.now c.loop-source.steps c.test_on.new.self whole
    c.in_err-test_on.field-0.0 (omega arith) c.source-item.is c.stream.ensures c.in_err-test_on.ensures c.loop-source.invariant)

pub loop-source-preserved : goal.loop-source-preserved
loop-source-preserved c =
    let sources = c.args.others.now in
    comparisons_continue c.args.at c.args.flags c.loop-source.source-index c.stream.result sources c.source-item.result c.args.steps.now c.loop-source.steps c.test_on.new.self
    (same_lengths c.args.at c.args.flags (bindings_of sources) (next_in c.args.steps.now)) (omega arith) c.source-item.is c.stream.ensures c.in_ok-test_on.ensures c.loop-source.invariant

pub returns : goal.returns
returns c =
    let now = c.loop-source.steps in
    c.loop-source.invariant now (Ok tt)
    (subst (λ l. Adds (λ x. x) now now (same_lengths c.args.at c.args.flags (bindings_of l) (next_in now)) (Ok tt))
    (sym (drop_of_length-le c.args.others.now {i = c.loop-source.source-index} (omega arith))) (done_made now tt))
