use Rattle.flow_messages.proofs.Waiting.{first-certain, others-certain}
use Rattle.flow_messages.proofs.theorems.take_gives_what_was_certain.Goals as goal

pub returns : goal.returns
returns c = record {
  first = λ a b e m taken some. first-certain m (a.coming e) (b.coming e) some taken.coming_here;
  others = λ a b e m taken. others-certain m (a.coming e) (b.coming e) taken.coming_here;
}
