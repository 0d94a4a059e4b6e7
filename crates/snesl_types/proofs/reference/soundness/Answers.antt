use Rattle.snesl_types.proofs.KeepsTypes.{expressions_are_sound}
use Rattle.snesl_types.proofs.ProgramsKeepTypes.{programs_are_sound}
use Rattle.snesl_types.proofs.reference.soundness.Goals as goal

pub returns-clause-expressions : goal.returns-clause-expressions
returns-clause-expressions c = expressions_are_sound

pub returns-clause-programs : goal.returns-clause-programs
returns-clause-programs c = programs_are_sound
