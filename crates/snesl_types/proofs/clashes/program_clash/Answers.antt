use Rattle.std.proofs.Common.{map}
use Rattle.snesl_grammar.specs.tree.View.{tree_of, declaration_of}
use Rattle.snesl_types.specs.Views.{declared_in}
use Rattle.snesl_types.proofs.Misfitting.{declaration_found, final_in}
use Rattle.snesl_types.proofs.clashes.program_clash.Goals as goal

pub returns-then-not-is_nothing : goal.returns-then-not-is_nothing
returns-then-not-is_nothing c =
    declaration_found c.args.dialect c.args.text.now (map declaration_of c.args.declarations.now) c.args.at (tree_of c.args.expr.now) c.declaration_clash-found.result c.declaration_clash-found.ensures

pub returns-in-Ok : goal.returns-in-Ok
returns-in-Ok c =
    final_in c.args.dialect c.args.text.now (map declaration_of c.args.declarations.now) (tree_of c.args.expr.now) (declared_in c.args.text.now c.in-Ok.declared) c.args.at c.final_clash.result
    c.in-Ok.ensures c.final_clash.ensures
