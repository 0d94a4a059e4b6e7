-- Where both ends of a lane of scalars have met.
use Rattle.std.proofs.Common.{◌≡◌, ℕ, ◌+◌, ◌-◌, ◌<◌, ◌≤◌, ◌^◌, ◌++◌, length, ap, sym, ◌∙◌, arith, length-append}
use mathlib.Core.List.{IsPrefix}
use Rattle.flow_messages.specs.Stores.{content_of}
use Rattle.flow_messages.proofs.Lines.{sent_length}
use Rattle.flow_boxes.specs.Received.{received_of}
use Rattle.flow_boxes.specs.declared.inbox.Inbox.{Inbox}
use Rattle.flow_boxes.specs.Coming.{HasCome}
use Rattle.flow_rings.specs.declared.ring.EdgeReader.{EdgeReader}
use Rattle.flow_rings.specs.Edge as ring
use Rattle.flow_words.specs.declared.ring.WordWriter.{WordWriter}
use Rattle.flow_words.specs.declared.ring.WordReader.{WordReader}
use Rattle.flow_words.specs.Edge.{sent, received, certain_held}
use Rattle.flow_edges.specs.declared.lanes.counted.CountedWriter.{CountedWriter}
use Rattle.flow_edges.specs.declared.lanes.pocket.Pocket.{Pocket}
use Rattle.flow_edges.specs.lanes.Credits.{credit}
use Rattle.flow_edges.proofs.OfLanes.Lists.{credit-prefix}

module _ (w : CountedWriter) (p : Pocket) (met_writer : WordWriter) (met_reader : WordReader) (sent_same : sent met_writer ≡ sent w.edge)
    (received_same : received met_reader ≡ received p.edge) (fifo : received met_reader ++ certain_held met_reader ≡ sent met_writer) where
  abbrev taken : ℕ
  taken = length (received_of p.inbox)

  abbrev held : ℕ
  held = length (content_of p.inbox.store) + length (certain_held met_reader)

  -- what is held is what was put and not taken
  pub all_held : taken + held ≡ length (sent w.edge)
  all_held = omega (
    arith,
    sent_length p.inbox.arrived.items (content_of p.inbox.store) p.inbox.fifo,
    ap length p.arrived,
    ap length p.all,
    ap length received_same,
    ap length sent_same,
    ap length fifo,
    length-append (received met_reader) (certain_held met_reader),
  )

  -- what has arrived in the pocket once it holds all is what was put
  pub gathered : (i : Inbox) → HasCome (certain_held met_reader) p.inbox i → i.arrived.items ≡ sent met_writer
  gathered i come = come.arrived ∙ ap (λ l. l ++ certain_held met_reader) (sym p.arrived ∙ p.all ∙ sym received_same) ∙ fifo

  module _ (b : EdgeReader) (begins : IsPrefix (ring.received w.back) (ring.received b)) (tells : taken < credit (ring.received w.back) + (2 ^ 64 - 1) → credit (ring.received b) ≡ taken) where
    pub told : credit (ring.received b) ≡ taken
    told = tells (omega (arith, all_held, w.within, w.limit))

    pub bound : w.room + held ≤ w.capacity
    bound = omega (arith, all_held, told, w.within, credit-prefix (ring.received w.back) (ring.received b) begins)

    pub within : (w.capacity - held) + length (sent met_writer) ≤ w.capacity + credit (ring.received b)
    within = omega (arith, all_held, told, bound, ap length sent_same)
