use Rattle.flow_boxes.proofs.Linking.{writer-linked, reader-linked, writer-elsewhere, reader-elsewhere}
use Rattle.flow_boxes.proofs.theorems.links_stay.Goals as goal

pub returns : goal.returns
returns c = record {
  writer = writer-linked;
  reader = reader-linked;
  writer_elsewhere = λ r w w' e k. writer-elsewhere w w' r e k;
  reader_elsewhere = reader-elsewhere;
}
