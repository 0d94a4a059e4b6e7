use Rattle.flow_drives.proofs.AtRest.{are_sound, are_at_rest, all_fit}
use Rattle.flow_drives.proofs.theorems.rested_is_sound.Goals as goal

pub returns-clause-sound : goal.returns-clause-sound
returns-clause-sound g c = are_sound c.args.rested.now.parts

pub returns-clause-rest : goal.returns-clause-rest
returns-clause-rest g c = are_at_rest c.args.rested.now.parts

pub returns-clause-fits : goal.returns-clause-fits
returns-clause-fits g c e = all_fit c.args.rested.now.parts e
