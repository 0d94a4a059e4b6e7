use Rattle.std.specs.Prelude.{Some, None}
use Rattle.flow_messages.specs.declared.message.Kind.TheVariants.{Unit, Bool, Int}
use Rattle.flow_rings.proofs.Flats.{looked_on, which_same}
use Rattle.flow_rings.proofs.ring.WriterRing.slots_beside.Goals.{in-Messages-Messages, in-Units-Units, in-Flags-Flags, in-Ints-Ints}
use Rattle.flow_rings.proofs.ring.WriterRing.slots_beside.Goals as goal

pub returns-clause-reader : goal.returns-clause-reader
returns-clause-reader c = elim c.match-self.branch [
  | in-Messages-Messages w ↦
      (let l = w.slots_beside.ensures.consumer in
      rw w.reader-is (rw w.in-Messages-Messages.is-1
      ((which_same None w.in-Messages-Messages.reader.end w.slots_beside.new.consumer.end l.0.0, l.0.1), (l.1, l.2))))
  | in-Units-Units w ↦
      (let l = w.slots_beside-in-Units-Units.ensures.consumer in let m = looked_on _ _ _ _ l.1 l.2 in
      rw w.reader-is (rw w.in-Units-Units.is-1
      ((which_same (Some Unit) w.in-Units-Units.reader.end w.slots_beside-in-Units-Units.new.consumer.end l.0.0, l.0.1), m)))
  | in-Flags-Flags w ↦
      (let l = w.slots_beside-in-Flags-Flags.ensures.consumer in let m = looked_on _ _ _ _ l.1 l.2 in
      rw w.reader-is (rw w.in-Flags-Flags.is-1
      ((which_same (Some Bool) w.in-Flags-Flags.reader.end w.slots_beside-in-Flags-Flags.new.consumer.end l.0.0, l.0.1), m)))
  | in-Ints-Ints w ↦ (let l = w.slots_beside-in-Ints-Ints.ensures.consumer in let m = looked_on _ _ _ _ l.1 l.2 in
      rw w.reader-is (rw w.in-Ints-Ints.is-1
      ((which_same (Some Int) w.in-Ints-Ints.reader.end w.slots_beside-in-Ints-Ints.new.consumer.end l.0.0, l.0.1), m)))
]
