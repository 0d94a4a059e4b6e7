use Rattle.std.proofs.lemmas.Result.{IfOk-weaker, IfErr-weaker}
use Rattle.snesl_flatten.proofs.OfNetwork.Refusing.{not_driven}
use Rattle.snesl_flatten.proofs.network.driving.drive_program_with.Goals as goal

pub returns-in_err-graph-clause-refused : goal.returns-in_err-graph-clause-refused
returns-in_err-graph-clause-refused g c =
    not_driven c.args.program.now c.args.input.now c.args.config.now c.from_residual.result c.in_err-graph.field-0.0 c.from_residual.ensures.1 c.in_err-graph.ensures.refused

pub returns-clause-rests : goal.returns-clause-rests
returns-clause-rests g c =
    IfOk-weaker c.driven.result _ _ (λ rested as_meant. as_meant c.args.program.now c.args.input.now c.in_ok-graph.ensures.meant) c.driven.ensures.rests

pub returns-clause-refused : goal.returns-clause-refused
returns-clause-refused g c =
    IfErr-weaker c.driven.result _ _ (λ refusal as_meant. as_meant c.args.program.now c.args.input.now c.in_ok-graph.ensures.meant) c.driven.ensures.refused
