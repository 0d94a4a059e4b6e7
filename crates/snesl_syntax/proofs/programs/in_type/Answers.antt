use Rattle.std.proofs.Common.{map, subst, sym}
use Rattle.snesl_grammar.specs.tree.View.{declaration_of}
use Rattle.snesl_syntax.specs.expressions.Readers.{within}
use Rattle.snesl_syntax.specs.expressions.Machine.{expressions}
use Rattle.snesl_grammar.specs.Limits.{greatest_depth}
use Rattle.snesl_syntax.specs.Types.{types}
use Rattle.snesl_syntax.specs.Programs.{in_type, programs}
use Rattle.snesl_syntax.specs.TypeMachine.{type_state, Stops}
use Rattle.snesl_syntax.specs.ProgramMachine.{owner_of, program_state}
use Rattle.snesl_syntax.proofs.Parts.{type_is_open, stop_carried, stop_passed}
use Rattle.snesl_syntax.proofs.programs.in_type.Goals as goal

pub returns-in_err-machine-in-Err : goal.returns-in_err-machine-in-Err
returns-in_err-machine-in-Err c =
    let owner = owner_of (map declaration_of c.args.done.items) c.args.owner in
    let error = c.in_err-machine-in-Err.field-0.0 in
    let stop = subst (λ s. Stops error (within greatest_depth (types.move s c.args.token))) c.in-Err.ensures.0 c.in_err-machine-in-Err.ensures in
    stop_passed program_state c.from_residual.result error
    (within greatest_depth ((programs expressions).move (in_type owner (type_state c.args.machine)) c.args.token)) c.from_residual.ensures.1
    (subst (λ m. Stops error (within greatest_depth m)) (sym (type_is_open owner (type_state c.args.machine) c.args.token c.in-Err.ensures.1))
    (stop_carried greatest_depth (in_type owner) (types.move (type_state c.args.machine) c.args.token) error stop))
