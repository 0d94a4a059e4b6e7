-- Steps and runs: which event may come next, what it makes of a configuration, and when a run is maximal
-- (Kahn 1974, here with edges that may be bounded).
use Rattle.std.specs.Prelude.{◌≡◌, ℕ, ◌<◌, List, [], ◌∷◌, ◌++◌, Option, Some, None}
use Rattle.kahn.specs.declared.want.Want.TheVariants.{Read, Write}
use Rattle.kahn.specs.Basics.{Begins, updated}
use Rattle.kahn.specs.Processes.{Process, Event, Reads, Writes}
use Rattle.kahn.specs.Networks.{Network}
use Rattle.kahn.specs.Configurations.{Configuration, held}

-- whether an edge that holds this many may take one more; None: edges are not bounded
abbrev pub HasRoom : Option ℕ → ℕ → Type 0
HasRoom None count = Unit {0}
HasRoom (Some capacity) count = count < capacity

module _ {State Message : Type 0} (P : Process State Message) (net : Network State) where
  -- the event may come next: its node wants it, and the edge has the message, or has room for it
  abbrev pub Can : Option ℕ → Configuration State Message → Event Message → Type 0
  Can limit c (Reads e m) = (e < net.edges) × (P.want (c.state (net.reader e)) ≡ Read (net.reader_port e)) × Begins (c.received e ++ m ∷ []) (c.sent e)
  Can limit c (Writes e m) = (e < net.edges) × (P.want (c.state (net.writer e)) ≡ Write (net.writer_port e)) × (P.written (c.state (net.writer e)) ≡ m) × HasRoom limit (held c e)

  -- the configuration after it
  abbrev pub next : Configuration State Message → Event Message → Configuration State Message
  next c (Reads e m) =
      record {
        state = updated c.state (net.reader e) (P.read (c.state (net.reader e)) m);
        sent = c.sent;
        received = updated c.received e (c.received e ++ m ∷ []);
      }
  next c (Writes e m) =
      record {
        state = updated c.state (net.writer e) (P.wrote (c.state (net.writer e)));
        sent = updated c.sent e (c.sent e ++ m ∷ []);
        received = c.received;
      }

  -- these events, one after another, lead from c to d
  abbrev pub Run : Option ℕ → List (Event Message) → Configuration State Message → Configuration State Message → Type 0
  Run limit [] c d = c ≡ d
  Run limit (a ∷ more) c d = Can limit c a × Run limit more (next c a) d

  -- some events lead from c to d
  abbrev pub Reaches : Option ℕ → Configuration State Message → Configuration State Message → Type 0
  Reaches limit c d = (events : List (Event Message)) × Run limit events c d

  -- no node can step
  abbrev pub AtRest : Option ℕ → Configuration State Message → Type 0
  AtRest limit c = (a : Event Message) → Can limit c a → ⊥

  -- A maximal run: it leads from c to d, where no node can step.
  pub record Maximal (limit : Option ℕ) (events : List (Event Message)) (c d : Configuration State Message) : Type 0 where
    pub run : Run limit events c d
    pub rest : AtRest limit d
