use Rattle.std.proofs.Common.{◌≡◌, ◌+◌, ◌∷◌, false, Some, ◌∙◌, ap, sym, subst, arith}
use Rattle.snesl_values.specs.declared.marks.Mark.TheVariants.{Comma, Other}
use Rattle.flow_nodes.specs.declared.inputs.turns.Mode.TheVariants.{Counting}
use Rattle.flow_nodes.specs.declared.inputs.turns.Piece.TheVariants.{Flag}
use Rattle.flow_nodes.specs.inputs.Turns.{state}
use Rattle.flow_nodes.specs.inputs.Left.{left}
use Rattle.flow_nodes.proofs.OfInputs.Elements.{flag_left}
use Rattle.flow_nodes.proofs.OfInputs.Skips.{sign_found}
use Rattle.flow_nodes.proofs.inputs.scanner.is_element_end.Goals as goal

pub returns-clause-first : goal.returns-clause-first
returns-clause-first c = λ yes way leaf level.
    let text = c.args.text.now in
    let at = c.args.at in
    let mark = sym c.in-Comma.is ∙ c.sign_mark.ensures in
    let comma = ap (λ m. Some (record { mark = m; end = at + 1 })) mark ∙ sign_found text at (omega arith) (λ other. let no : Comma ≡ Other = mark ∙ other in cc) in
    let mode : c.args.mode ≡ Counting 0 = c.in-Counting-eq0.is ∙ ap Counting (sym c.in-Counting-eq0.field-0-is ∙ c.in-Counting-eq0.field-0-test) in
    subst (λ m. left text way leaf at (state level m) ≡ Flag false ∷ left text way leaf (at + 1) (state level m)) (sym mode) (flag_left text way leaf at level (omega arith) comma)
