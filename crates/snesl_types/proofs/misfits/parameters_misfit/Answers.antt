use Rattle.std.proofs.Common.{◌≡◌, map, ap, refl, ◌∙◌}
use Rattle.snesl_data.specs.Types.{ty_of}
use Rattle.snesl_values.specs.Inputs.{declared}
use Rattle.snesl_grammar.specs.tree.View.{trees_of}
use Rattle.snesl_types.specs.Names.{signature_in}
use Rattle.snesl_types.specs.Verdicts.{are_same}
use Rattle.snesl_types.proofs.Misfitting.{parameters_in}
use Rattle.snesl_types.proofs.misfits.parameters_misfit.Goals as goal

pub returns-in_ok-wanted-in-Some : goal.returns-in_ok-wanted-in-Some
returns-in_ok-wanted-in-Some c =
    let signature = signature_in c.args.scope.now.text.now c.in-Some.function.now in
    let fit : c.arguments_fit.result ≡ are_same (map ty_of c.in_ok-found.found.items) signature.parameters = cc in
    parameters_in c.args.scope.now c.args.name (trees_of c.args.arguments.now) (map ty_of c.in_ok-found.found.items) (map ty_of c.in_ok-found.found.items)
    (map ty_of c.in_ok-wanted-in-Some.wanted.items) signature c.arguments_fit.result c.in_ok-found.ensures refl c.in-Some.ensures fit c.if-not-arguments_fit.true
    (c.in_ok-wanted-in-Some.ensures ∙ ap (λ l. map (λ parameter. parameter.1) (declared l)) c.deref-in-Some.ensures.value)
