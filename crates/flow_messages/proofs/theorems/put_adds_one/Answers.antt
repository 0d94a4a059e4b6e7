use Rattle.flow_messages.proofs.Waiting.{put-waits, put-room}
use Rattle.flow_messages.proofs.theorems.put_adds_one.Goals as goal

pub returns : goal.returns
returns c = record {
  waits = λ capacity a b e m whole whole'. put-waits capacity a b e m whole;
  room = put-room;
}
