use Rattle.std.proofs.Common.{◌≡◌, ◌∷◌, ◌++◌, [], ℤ, Vec, Global, ap, ◌∙◌, arith, rules}
use mir.Val.{to_z, of_z}
use mir.Syntax.{w128}
use Rattle.snesl_data.specs.Values.{value_of}
use Rattle.snesl_evaluation.specs.Builtins.{int_at}
use Rattle.snesl_evaluation.proofs.Passed.{halt_passes}
use Rattle.snesl_evaluation.proofs.Reading.{read_given, read_faults, read_all}
use Rattle.snesl_evaluation.proofs.sequences.integers.Goals as goal

pub returns-in_err-n : goal.returns-in_err-n
returns-in_err-n c =
    halt_passes (λ (x : ℤ). x) (λ (read : Vec ℤ Global). read.items) c.from_residual-in_err-n.result c.in_err-n.field-0.0 _ _ c.from_residual-in_err-n.ensures.1 c.in_err-n.ensures
    (λ kind at e. c.loop-datum.invariant ∙ read_faults (int_at c.args.at) value_of c.loop-datum.read.items c.args.all.now c.loop-datum.datum-index c.datum-item.result kind at c.loop-datum-test.true
    c.datum-item.is e)

pub loop-datum-preserved : goal.loop-datum-preserved
loop-datum-preserved c =
    let same : to_z w128 (of_z w128 c.in_ok-n.n) ≡ c.in_ok-n.n = search rules in
    c.loop-datum.invariant
    ∙ read_given (int_at c.args.at) value_of c.loop-datum.read.items c.args.all.now c.loop-datum.datum-index c.datum-item.result c.in_ok-n.n c.loop-datum-test.true c.datum-item.is
    c.in_ok-n.ensures (c.in_ok-push.ensures.items ∙ ap (λ y. c.loop-datum.read.items ++ y ∷ []) same)

pub returns : goal.returns
returns c = c.loop-datum.invariant ∙ read_all (int_at c.args.at) value_of c.loop-datum.read.items c.args.all.now c.loop-datum.datum-index (omega arith)
