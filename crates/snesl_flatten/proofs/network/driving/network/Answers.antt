use Rattle.std.proofs.Common.{Err, ap, subst}
use Rattle.snesl_values.specs.Inputs.{declared, environment_of, refusal_of}
use Rattle.snesl_grammar.specs.View.{program_of as tree_of_program}
use Rattle.snesl_types.specs.Programs.{IsFirstViolation}
use Rattle.snesl_types.specs.Typed.{typed_inputs, typed_text, typed_tree}
use Rattle.snesl_types.specs.declared.typed.TypedProgram.{TypedProgram}
use Rattle.flow_networks.specs.Graphs.{states_of, edges_of}
use Rattle.snesl_flatten.specs.Networks.{NetworkMeans}
use Rattle.snesl_flatten.proofs.OfNetwork.Refusing.{parse_refused, check_refused, passed_on}
use Rattle.snesl_flatten.proofs.OfNetwork.Planning.{IsItsNetwork, AllOpenFor, inputs_refused, plan_refused, is_meant}
use Rattle.snesl_flatten.proofs.network.driving.network.Goals as goal

pub returns-in_err-program-clause-refused : goal.returns-in_err-program-clause-refused
returns-in_err-program-clause-refused c =
    let text = c.args.program.now in
    let input = c.args.input.now in
    passed_on text input c.from_residual.result c.in_err-program.field-0.0 c.from_residual.ensures.1
    (parse_refused text input c.in_err-program.field-0.0 c.in_err-program.ensures.refusals c.in_err-program.ensures.right)

pub returns-in_err-typed-clause-refused : goal.returns-in_err-typed-clause-refused
returns-in_err-typed-clause-refused c =
    let text = c.args.program.now in
    let input = c.args.input.now in
    let program = tree_of_program c.in_ok-program.program in
    let refusal = c.in_err-typed.field-0.0 in
    passed_on text input c.from_residual-in_err-typed.result refusal c.from_residual-in_err-typed.ensures.1
    (check_refused text input program refusal c.in_ok-program.ensures.right
    (subst (λ bytes. IsFirstViolation bytes program refusal) c.in_ok-program.ensures.keeps_text c.in_err-typed.ensures.refused))

pub returns-in_err-inputs-clause-refused : goal.returns-in_err-inputs-clause-refused
returns-in_err-inputs-clause-refused c =
    let text = c.args.program.now in
    let input = c.args.input.now in
    passed_on text input c.from_residual-in_err-inputs.result (refusal_of c.in_err-inputs.field-0.0) c.from_residual-in_err-inputs.ensures.1
    (inputs_refused text input c.in_ok-program.program c.in_ok-typed.typed c.in_ok-program.ensures.right c.in_ok-program.ensures.keeps_text
    c.in_ok-typed.ensures.program c.in_ok-typed.ensures.typed c.dialect.result (declared c.decls.result.now) c.dialect.ensures c.decls.ensures
    c.in_err-inputs.field-0.0 c.in_err-inputs.ensures.refused)

pub returns-in_err-plan-clause-refused : goal.returns-in_err-plan-clause-refused
returns-in_err-plan-clause-refused c =
    let text = c.args.program.now in
    let input = c.args.input.now in
    let refusal = c.in_err-plan.field-0.0 in
    passed_on text input c.from_residual-in_err-plan.result refusal c.from_residual-in_err-plan.ensures.1
    (plan_refused text input c.in_ok-program.program c.in_ok-typed.typed c.in_ok-program.ensures.right c.in_ok-program.ensures.keeps_text
    c.in_ok-typed.ensures.program c.in_ok-typed.ensures.typed c.dialect.result (declared c.decls.result.now) c.dialect.ensures c.decls.ensures
    (environment_of c.in_ok-inputs.inputs) c.in_ok-inputs.ensures.spelled refusal (λ is. c.in_err-plan.ensures.big (ap Err is)) c.in_err-plan.ensures.memory)

pub returns-clause-meant : goal.returns-clause-meant
returns-clause-meant c =
    let environment = environment_of c.in_ok-inputs.inputs in
    let states = states_of c.in_ok-graph.graph in
    let edges = edges_of c.in_ok-graph.graph in
    is_meant c.args.program.now c.args.input.now c.in_ok-program.program c.in_ok-typed.typed c.in_ok-program.ensures.right c.in_ok-program.ensures.keeps_text
    c.in_ok-typed.ensures.program c.in_ok-typed.ensures.typed c.dialect.result (declared c.decls.result.now) c.dialect.ensures c.decls.ensures
    environment states edges c.in_ok-inputs.ensures.spelled
    (subst (λ (typed : TypedProgram). IsItsNetwork environment states edges (typed_text typed) (typed_tree typed) (typed_inputs typed)) c.in_ok-plan.ensures.program c.in_ok-graph.ensures.network)
    (subst (λ (typed : TypedProgram). AllOpenFor environment states (typed_text typed) (typed_tree typed) (typed_inputs typed)) c.in_ok-plan.ensures.program c.in_ok-graph.ensures.opens)
    c.in_ok-graph.ensures.opened c.graph_is_a_network.ensures.network c.in_ok-plan.ensures.few
    (subst (λ (typed : TypedProgram). NetworkMeans (typed_text typed) (typed_tree typed) environment states edges) c.in_ok-plan.ensures.program c.in_ok-graph.ensures.means)
