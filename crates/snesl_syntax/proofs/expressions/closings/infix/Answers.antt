use Rattle.std.proofs.Common.{arith, ap, sym, ◌∙◌, ◌≤◌, subst}
use Rattle.snesl_grammar.specs.tree.View.{tree_of}
use Rattle.snesl_grammar.specs.Limits.{greatest_depth}
use Rattle.snesl_grammar.specs.Operators.{level}
use Rattle.snesl_syntax.specs.expressions.Readers.{within}
use Rattle.snesl_syntax.specs.expressions.Machine.{infix_move, floor}
use Rattle.snesl_syntax.specs.expressions.Parsing.{IsStep, frames_of}
use Rattle.snesl_syntax.proofs.OfExpressions.Closes.{infix_on, infix_off}
use Rattle.snesl_syntax.proofs.expressions.closings.infix.Goals as goal

pub returns-then-saturating_add-ge-GREATEST_DEPTH : goal.returns-then-saturating_add-ge-GREATEST_DEPTH
returns-then-saturating_add-ge-GREATEST_DEPTH c =
    let folded = rw c.left_level_of.ensures at c.in_ok-outer.ensures in
    let low : floor (frames_of c.in_ok-outer.outer.items) ≤ level c.args.operator =
    omega (arith, ap (λ fs. floor (frames_of fs)) c.deref.ensures.value, c.floor_of.ensures, c.level_of.ensures.exact) in
    ap (λ r. within greatest_depth (infix_move c.args.operator c.args.at r)) folded
    ∙ infix_off c.in_ok-outer.outer.items c.args.operator c.args.at (tree_of c.in_ok-outer.left.expr.value) low
    (omega (arith, c.in_ok-outer.left.exact, c.in_ok-outer.outer.ok.0, c.len.ensures, c.saturating_add.ensures))

pub returns : goal.returns
returns c =
    let folded = rw c.left_level_of.ensures at c.in_ok-outer.ensures in
    let low : floor (frames_of c.in_ok-outer.outer.items) ≤ level c.args.operator =
    omega (arith, ap (λ fs. floor (frames_of fs)) c.deref.ensures.value, c.floor_of.ensures, c.level_of.ensures.exact) in
    let roomy = ap (λ r. within greatest_depth (infix_move c.args.operator c.args.at r)) folded
    ∙ infix_on c.in_ok-outer.outer.items c.args.operator c.args.at (tree_of c.in_ok-outer.left.expr.value) low
    (omega (arith, c.in_ok-outer.left.exact, c.in_ok-outer.outer.ok.0, c.len.ensures, c.saturating_add.ensures)) in
    subst (IsStep c.go_in.result) (sym roomy) c.go_in.ensures
