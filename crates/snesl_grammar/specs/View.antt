-- The trees that programs hold.
use Rattle.snesl_grammar.specs.tree.Tree.{ProgramTree}
use Rattle.snesl_grammar.specs.declared.program.Program.{Program}
use Rattle.snesl_grammar.specs.Spelled.{program_with}

abbrev pub program_of : Program → ProgramTree
program_of program = program_with program.dialect program.declarations.items program.expr
