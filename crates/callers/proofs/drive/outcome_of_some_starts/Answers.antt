use Rattle.std.proofs.Common.{subst}
use Rattle.flow_drive.specs.Resteds.{rested_rounds, rested_epochs}
use Rattle.flow_drive.specs.Starts.{AskedBy}
use Rattle.callers.proofs.drive.outcome_of_some_starts.Goals as goal

pub returns-in-Ok-clause-asked : goal.returns-in-Ok-clause-asked
returns-in-Ok-clause-asked g c over =
    let rested = c.in-Ok.rested in
    let all = subst (λ drive. AskedBy drive (rested_rounds rested) (rested_epochs rested) c.args.config.now.threads c.args.start.now.asked.items
    c.drive_with.new.start.asked.items) over c.in-Ok.ensures.asked in
    (all.times, all.asked)
