-- What the calls of one transducer, or of one worker, do, as its own state and behaviour say.
use Rattle.std.specs.Prelude.{◌≡◌, Bool}
use Rattle.flow_messages.specs.Signals.{signal_of}
use Rattle.flow_messages.specs.declared.message.Item.{Item}
use Rattle.flow_messages.specs.declared.message.Msg.{Msg}
use Rattle.flow_base.specs.Calls.{GivesItem}
use Rattle.flow_base.specs.declared.transducer.Transducer.{Ghosts}
use Rattle.flow_base.specs.declared.worker.Worker.{Ghosts as WorkerGhosts}

module _ {X : Type 0} (t : Ghosts X) where
  -- it is where it was
  abbrev pub KeepsState : X → X → Type 0
  KeepsState a b = t.state b ≡ t.state a

  -- it read the message
  abbrev pub ReadsAs : X → Msg → X → Type 0
  ReadsAs a message b = t.state b ≡ t.behaviour.process.read (t.state a) (signal_of message)

  -- it wrote the message
  abbrev pub WritesAs : X → Msg → X → Type 0
  WritesAs a message b =
      (signal_of message ≡ t.behaviour.process.written (t.state a))
      × (t.state b ≡ t.behaviour.process.wrote (t.state a))

  -- whether it may take memory
  abbrev pub takes_memory_at : X → Bool
  takes_memory_at a = t.behaviour.takes_memory (t.state a)

  -- it stands where it opened
  abbrev pub StandsAsOpened : X → Type 0
  StandsAsOpened a = t.behaviour.opening (t.state a) ≡ t.state a

-- the worker gave the item
abbrev pub GivesAs : {X : Type 0} (w : WorkerGhosts X) → X → Item → X → Type 0
GivesAs w a item b = GivesItem w.machine (w.state a) item (w.state b)
