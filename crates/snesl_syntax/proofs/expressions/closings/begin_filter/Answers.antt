use Rattle.std.proofs.Common.{ap, sym, arith, length, vec_len}
use Rattle.snesl_grammar.specs.tree.View.{tree_of}
use Rattle.snesl_grammar.specs.Limits.{greatest_depth}
use Rattle.snesl_syntax.specs.expressions.Readers.{within}
use Rattle.snesl_syntax.specs.expressions.Parsing.{frames_of}
use Rattle.snesl_syntax.proofs.OfExpressions.Closes.{given_bar, some_left}
use Rattle.snesl_syntax.proofs.expressions.closings.begin_filter.Goals as goal

pub returns-then-not-is_empty : goal.returns-then-not-is_empty
returns-then-not-is_empty c =
    let more = some_left (vec_len c.args.given.exprs) (length c.args.given.exprs.items) (sym c.if-not-is_empty.ensures) (omega (arith, c.args.given.exprs.ok.0)) in
    ap (within greatest_depth) (given_bar c.args.given.exprs.items c.args.at (frames_of c.args.outer.items) (tree_of c.args.item.expr.value) more)
