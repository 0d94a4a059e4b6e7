use Rattle.flow_values.specs.laws.Print.{prints_text}
use Rattle.flow_values.proofs.print.prints_text.Goals as goal

pub returns : goal.returns
returns c = prints_text _ c.requires
