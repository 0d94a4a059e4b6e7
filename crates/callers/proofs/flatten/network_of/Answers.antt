use Rattle.std.proofs.Common.{subst}
use Rattle.snesl_values.specs.Inputs.{declared, environment_of, spells}
use Rattle.snesl_flatten.specs.Graphs.{states_of, edges_of}
use Rattle.snesl_flatten.specs.Networks.{NetworkMeans}
use Rattle.snesl_types.specs.GrammarView.{program_of as tree_of}
use Rattle.snesl_types.specs.Typed.{typed_inputs, typed_text, typed_tree, typed_ty}
use Rattle.snesl_types.specs.declared.typed.TypedProgram.{TypedProgram}
use Rattle.callers.proofs.Checked.{of_text, of_program, of_inputs}
use Rattle.callers.proofs.flatten.network_of.Goals as goal

pub returns : goal.returns
returns c =
    let text = c.args.text.now in
    let parsed = c.in_ok-program.program in
    let typed = c.in_ok-typed.typed in
    let kept = c.in_ok-program.ensures.keeps_text in
    let same = c.in_ok-typed.ensures.program in
    let environment = environment_of c.in_ok-inputs.inputs in
    let states = states_of c.in_ok-with.field-0 in
    let edges = edges_of c.in_ok-with.field-0 in
    record {
      program = tree_of parsed;
      inputs = typed_inputs typed;
      ty = typed_ty typed;
      environment = environment;
      parses = c.in_ok-program.ensures.right;
      types = of_text text parsed typed kept same c.in_ok-typed.ensures.typed;
      reads = of_inputs text parsed typed kept same c.args.input.now c.dialect.result (declared c.decls.result.now) (spells environment)
          c.dialect.ensures c.decls.ensures c.in_ok-inputs.ensures.spelled;
      opened = c.in_ok-with.ensures.opened;
      means = of_program text parsed typed kept same (λ text program. NetworkMeans text program environment states edges)
          (subst (λ (typed : TypedProgram). NetworkMeans (typed_text typed) (typed_tree typed) environment states edges) c.in_ok-plan.ensures.program c.in_ok-with.ensures.means);
    }
