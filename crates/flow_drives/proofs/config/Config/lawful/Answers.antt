use Rattle.std.proofs.Common.{rules}
use Rattle.flow_drives.proofs.config.Config.lawful.Goals as goal

pub returns-then-is_within-4 : goal.returns-then-is_within-4
returns-then-is_within-4 c = search rules

pub returns-else-is_within-4 : goal.returns-else-is_within-4
returns-else-is_within-4 c = search rules
