use Rattle.std.proofs.Common.{Ok, sym, subst, arith}
use Rattle.std.proofs.Math.ListN.{drop_of_length-le}
use Rattle.snesl_translation.specs.Programs.{source_steps, unset_cells}
use Rattle.snesl_translator.specs.steps.Views.{next_in}
use Rattle.snesl_translator.specs.steps.Added.{Adds, only_steps}
use Rattle.snesl_translator.proofs.OfSteps.Adding.{done_made, exits}
use Rattle.snesl_translator.proofs.OfSteps.Sources.{sources_continue, sources_refused}
use Rattle.snesl_translator.proofs.steps.steps.Steps.sources.Goals as goal

pub returns-in_err-test : goal.returns-in_err-test
returns-in_err-test c =
    let kinds = c.args.kinds.now in
    let next = next_in c.args.self.now in
    let whole = only_steps (source_steps c.args.at unset_cells next kinds) next in
    exits (λ x. x) c.args.self.now c.test.new.self whole c.in_err-test.field-0.0 c.from_residual.result c.from_residual.ensures
    (sources_refused c.args.at c.loop-kind.kind-index kinds c.new.result.items c.args.self.now c.loop-kind.self c.test.new.self c.test.new.self whole c.in_err-test.field-0.0
    (omega arith) c.new.ensures.items c.in_err-test.ensures c.loop-kind.invariant)

pub loop-kind-preserved : goal.loop-kind-preserved
loop-kind-preserved c =
    let kinds = c.args.kinds.now in
    let next = next_in c.args.self.now in
    sources_continue c.args.at c.loop-kind.kind-index kinds c.new.result.items c.args.self.now c.loop-kind.self c.test.new.self
    (only_steps (source_steps c.args.at unset_cells next kinds) next) (omega arith) c.new.ensures.items c.in_ok-test.ensures c.loop-kind.invariant

pub returns : goal.returns
returns c =
    let now = c.loop-kind.self in
    c.loop-kind.invariant now (Ok tt)
    (subst (λ l. Adds (λ x. x) now now (only_steps (source_steps c.args.at unset_cells (next_in now) l) (next_in now)) (Ok tt))
    (sym (drop_of_length-le c.args.kinds.now {i = c.loop-kind.kind-index} (omega arith))) (done_made now tt))
