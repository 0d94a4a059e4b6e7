use Rattle.snesl_types.proofs.ProgramSound
use Rattle.snesl_types.proofs.checker.one_typing.Goals as goal

pub returns : goal.returns
returns c = record { one = ProgramSound.one_typing; some = ProgramSound.some_typing }
