use Rattle.snesl_values.proofs.Pendings.{cleared}
use Rattle.snesl_values.proofs.builder.unlawful.Goals as goal

pub returns : goal.returns
returns c = cleared c.clear.new.self.items c.clear.ensures.items
