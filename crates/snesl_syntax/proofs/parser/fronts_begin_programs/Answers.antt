use Rattle.snesl_syntax.proofs.Verdicts.{fronts_begin}
use Rattle.snesl_syntax.proofs.parser.fronts_begin_programs.Goals as goal

pub returns : goal.returns
returns c = fronts_begin
