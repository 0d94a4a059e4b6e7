use Rattle.std.proofs.Common.{◌≡◌, true, false}
use Rattle.snesl_data.specs.Types.{ty_of}
use Rattle.flow_values.proofs.Layings.{asks_for_flag}
use Rattle.flow_values.proofs.seq.SeqWorker.ask.Goals as goal

pub returns-in-None-Some : goal.returns-in-None-Some
returns-in-None-Some c =
    let self = c.args.self.now in
    asks_for_flag (ty_of self.element) self.dues.items self.dues.len self.vector c.in-None-Some.field-0-1 self.begun self.dues.ok.0
    (λ some. let never : false ≡ true = c.in-None-Some.ensures.variant.1 some in absurd (cc))
    c.in-None-Some.is-1
