-- The reader of programs reads what the grammar says.
use Rattle.std.proofs.Common.{refl}
use Rattle.snesl_syntax.specs.expressions.Machine.{expressions}
use Rattle.snesl_syntax.proofs.OfExpressions.Expressions.{expressions_read}
use Rattle.snesl_syntax.specs.Programs.{programs}
use Rattle.snesl_syntax.specs.DialectMachine.{reader}
use Rattle.snesl_syntax.proofs.Exact.{IsReaderOfPrograms}
use Rattle.snesl_syntax.proofs.Runs.{ReadsExpressions}
use Rattle.snesl_syntax.proofs.Beginnings.{rests_are_read}
use Rattle.snesl_syntax.proofs.WholeRead.{whole_programs_are_read}

pub parts_are_read : ReadsExpressions expressions
parts_are_read = record { is = expressions_read; no_dialect = λ at. refl; no_input = λ at. refl; no_function = λ at. refl }

pub are_read : IsReaderOfPrograms reader
are_read = whole_programs_are_read (programs expressions) (rests_are_read expressions parts_are_read) (λ at. refl)
