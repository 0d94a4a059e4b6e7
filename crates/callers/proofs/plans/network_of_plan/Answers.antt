use Rattle.std.proofs.Common.{ap, ◌∙◌, subst}
use Rattle.snesl_values.specs.Inputs.{InputMeans, declared, environment_of, spells}
use Rattle.snesl_types.specs.Typed.{typed_dialect, typed_inputs}
use Rattle.callers.proofs.plans.network_of_plan.Goals as goal

pub returns : goal.returns
returns c =
    let environment = environment_of c.in_ok-inputs.inputs in
    let input = c.args.input.now in
    let decls = declared c.decls.result.now in
    record {
      environment = environment;
      reads =
          subst (λ all. InputMeans (typed_dialect c.args.plan.typed.now) all input (spells environment)) (c.decls.ensures ∙ ap typed_inputs c.typed-typed.ensures)
          (subst (λ dialect. InputMeans dialect decls input (spells environment)) (c.dialect.ensures ∙ ap typed_dialect c.typed-typed.ensures) c.in_ok-inputs.ensures.spelled);
      opened = c.in_ok-with.ensures.opened;
      means = c.in_ok-with.ensures.means;
    }
