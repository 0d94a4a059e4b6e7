use Rattle.flow_messages.proofs.Waiting.{taken-waits, taken-begins}
use Rattle.flow_messages.proofs.theorems.take_gives_oldest.Goals as goal

pub returns : goal.returns
returns c = record {
  waits = taken-waits;
  begins = taken-begins;
}
