use Rattle.std.proofs.Common.{◌≡◌, ◌+◌, Some, to_z, of_z, ◌∙◌, ap, sym, arith, rules}
use Rattle.std.proofs.lemmas.Int.{to_z-of_z}
use mir.Val.{SFits}
use mir.Syntax.{w64, w128}
use Rattle.snesl_values.specs.declared.marks.Mark.TheVariants.{Number, Comma, Other}
use Rattle.flow_nodes.proofs.OfInputs.Elements.{element_left}
use Rattle.flow_nodes.proofs.OfInputs.Skips.{sign_found}
use Rattle.flow_nodes.proofs.inputs.scanner.next_element.Goals as goal

pub returns-in-Ok-clause-first : goal.returns-in-Ok-clause-first
returns-in-Ok-clause-first c =
    let text = c.args.text.now in
    let at = c.args.at in
    let number = c.in-Number.number in
    let fits : SFits w128 number = search rules in
    let narrow = c.in-Ok.narrow in
    let narrow_fits : SFits w64 narrow = search rules in
    let back : to_z w64 (of_z w64 narrow) ≡ number = to_z-of_z w64 narrow narrow_fits ∙ c.in-Ok.ensures.1 ∙ to_z-of_z w128 number fits in
    let mark = sym c.in-Comma.is ∙ c.sign_mark.ensures in
    let comma = ap (λ m. Some (record { mark = m; end = at + 1 })) mark ∙ sign_found text at (omega arith) (λ other. let no : Comma ≡ Other = mark ∙ other in cc) in
    element_left text c.args.way.now c.args.leaf at c.args.state (to_z w64 (of_z w64 narrow)) c.in-Some.found c.in-Ints-Behind.is-0 c.in-Ints-Behind.is-1 (omega arith)
    (sym c.made.ensures ∙ c.in-Some-Elements.is ∙ ap Some c.in-Some-Elements.field-0-is) (sym c.step_at.ensures.step ∙ c.in-None.is) comma
    c.in-Some.ensures.next (c.in-Number.is ∙ ap Number (sym back))
