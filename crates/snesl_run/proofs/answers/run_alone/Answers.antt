use Rattle.std.proofs.Common.{refl}
use Rattle.snesl_run.proofs.answers.run_alone.Goals as goal

pub returns-in-Ok : goal.returns-in-Ok
returns-in-Ok g c = record { network = c.run.ensures.network; wrote = c.run.ensures.wrote; refused = c.run.ensures.refused }

pub returns-in-Err : goal.returns-in-Err
returns-in-Err g c = record { network = tt; wrote = tt; refused = refl }
