use Rattle.flow_boxes.proofs.Linking.{outbox-beside, inbox-beside, outbox-elsewhere, inbox-elsewhere}
use Rattle.flow_boxes.proofs.theorems.fresh_boxes_stay_fresh.Goals as goal

pub returns : goal.returns
returns c = record {
  outbox = outbox-beside;
  inbox = inbox-beside;
  outbox_elsewhere = outbox-elsewhere;
  inbox_elsewhere = inbox-elsewhere;
}
