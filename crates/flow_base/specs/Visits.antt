-- What a visit of a transducer does over the edges at its ports.
use Rattle.std.specs.Prelude.{◌≡◌, ◌≢◌, ℕ, ◌+◌, ◌<◌, ◌≤◌, Bool, true, false, cond, eqb, List, [], ◌∷◌, ◌++◌, length, slice_index_or, nat_lt}
use Rattle.std.specs.List.{All}
use mathlib.Core.List.{IsPrefix}
use Rattle.kahn.specs.declared.want.Want.{Want}
use Rattle.kahn.specs.declared.want.Want.TheVariants.{Read, Write, Ended, Faulted}
use Rattle.kahn.specs.Basics.{Begins}
use Rattle.kahn.specs.Processes.{Event, Reads, Writes, Does}
use Rattle.flow_messages.specs.declared.message.Kind.{Kind}
use Rattle.flow_messages.specs.Kinds.{TakesKind}
use Rattle.flow_messages.specs.Signals.{Signal, ended}
use Rattle.flow_messages.specs.Ends.{View, held, SameEnds, SameTraffic, Taken}
use Rattle.flow_base.specs.Transducers.{Behaviour}

-- what the events read from edge e, where input port p has the edge `edge p`
unfoldable pub read_from : (ℕ → ℕ) → ℕ → List (Event Signal) → List Signal
read_from edge e [] = []
read_from edge e (Reads p m ∷ h) = cond (eqb e (edge p)) (m ∷ read_from edge e h) (read_from edge e h)
read_from edge e (Writes q m ∷ h) = read_from edge e h

-- what was sent on edge e after the events, where output port q has the edge `edge q`: nothing is put after the end
unfoldable pub sent_after : (ℕ → ℕ) → ℕ → List Signal → List (Event Signal) → List Signal
sent_after edge e sent [] = sent
sent_after edge e sent (Reads p m ∷ h) = sent_after edge e sent h
sent_after edge e sent (Writes q m ∷ h) = sent_after edge e (cond (eqb e (edge q)) (cond (ended sent) sent (sent ++ m ∷ [])) sent) h

-- the edge at this port
abbrev pub edge_of : List ℕ → ℕ → ℕ
edge_of edges p = slice_index_or edges p 0

-- edge e is none of these
abbrev pub IsNone : List ℕ → ℕ → Type 0
IsNone edges e = All (λ f. e ≢ f) edges

-- a list with one message more, unless it has ended
abbrev pub longer : List Signal → Signal → List Signal
longer sent m = cond (ended sent) sent (sent ++ m ∷ [])

-- each output port has an edge that takes items of the port's kind
abbrev pub TakeKinds : List ℕ → (ℕ → Kind) → View → Type 0
TakeKinds outputs kind_out v = (q : ℕ) → q < length outputs → TakesKind (v.kind (edge_of outputs q)) (kind_out q)

-- m was put on edge f, unless that edge had ended
pub record Wrote (v : View) (f : ℕ) (m : Signal) (w : View) : Type 0 where
  pub ends : SameEnds v w
  pub sent : (e : ℕ) → w.sent e ≡ cond (eqb e f) (longer (v.sent e) m) (v.sent e)
  pub received : (e : ℕ) → w.received e ≡ v.received e
  pub coming : (e : ℕ) → IsPrefix (v.coming e) (w.coming e)
  pub room : (e : ℕ) → e ≢ f → w.room e ≡ v.room e

-- whatever message was certain to be the next of edge e was taken
abbrev pub TakesNext : View → ℕ → View → Type 0
TakesNext a e v = (m : Signal) → IsPrefix (m ∷ []) (a.coming e) → Taken a e m v

module _ (inputs outputs : List ℕ) where
  -- The events took and put just their messages.
  pub record Carried (h : List (Event Signal)) (a v : View) : Type 0 where
    pub received : (e : ℕ) → v.received e ≡ a.received e ++ read_from (edge_of inputs) e h
    pub sent : (e : ℕ) → v.sent e ≡ sent_after (edge_of outputs) e (a.sent e) h

  -- The other ends lost nothing of which they were certain.
  pub record SparesOthers (a v : View) : Type 0 where
    pub coming : (e : ℕ) → IsNone inputs e → IsPrefix (a.coming e) (v.coming e)
    pub room : (e : ℕ) → IsNone outputs e → a.room e ≤ v.room e

  -- Nothing was sent or received, and only its own ends may be certain of more.
  pub record LeavesAlone (a v : View) : Type 0 where
    pub traffic : SameTraffic a v
    pub more_coming : (e : ℕ) → IsPrefix (a.coming e) (v.coming e)
    pub more_room : (e : ℕ) → a.room e ≤ v.room e
    pub coming : (e : ℕ) → IsNone inputs e → v.coming e ≡ a.coming e
    pub room : (e : ℕ) → IsNone outputs e → v.room e ≡ a.room e

  -- no message is certain to be there that it wants, or no room
  abbrev pub IsStuck : View → Want → Type 0
  IsStuck v (Read p) = held v (edge_of inputs p) ≡ 0
  IsStuck v (Write q) = v.room (edge_of outputs q) ≡ 0
  IsStuck v Ended = Unit {0}
  IsStuck v (Faulted fault) = Unit {0}

  module _ {S : Type 0} (b : Behaviour S) (s : S) (a : View) (t : S) (v : View) where
    -- From s to t it made some steps, or none where it could make none; `any` says which.
    pub record Visited (any : Bool) : Type 0 where
      pub history : List (Event Signal)
      pub does : Does b.process s history t
      pub carried : Carried history a v
      pub spares : SparesOthers a v
      pub some : any ≡ true → history ≡ [] → ⊥
      pub none : any ≡ false → history ≡ []
      pub calm : any ≡ false → LeavesAlone a v
      pub stuck : any ≡ false → IsStuck v (b.process.want s)

    -- From s to t it made just so many steps. That it made none says nothing of what it could.
    pub record Went (steps : ℕ) : Type 0 where
      pub history : List (Event Signal)
      pub does : Does b.process s history t
      pub counts : length history ≡ steps
      pub carried : Carried history a v
      pub spares : SparesOthers a v
      pub calm : steps ≡ 0 → LeavesAlone a v

    -- From s to t it made some steps, or none; `any` says which.
    abbrev pub WentOn : Bool → Type 0
    WentOn any = (steps : ℕ) × Went steps × (nat_lt 0 steps ≡ any)

    -- From s to t it made some steps, until memory was refused to one that may take some: then at most one message, of
    -- one of its edges, was received that it did not read.
    pub record BrokeOff : Type 0 where
      pub history : List (Event Signal)
      pub does : Does b.process s history t
      pub starves : b.takes_memory t ≡ true
      pub received : (e : ℕ) → Begins (a.received e ++ read_from (edge_of inputs) e history) (v.received e)
      pub lost : (e : ℕ) → length (v.received e) ≤ length (a.received e ++ read_from (edge_of inputs) e history) + 1
      pub lost_edge : ℕ
      pub kept : (e : ℕ) → e ≢ lost_edge → v.received e ≡ a.received e ++ read_from (edge_of inputs) e history
      pub others : (e : ℕ) → IsNone inputs e → v.received e ≡ a.received e ++ read_from (edge_of inputs) e history
      pub sent : (e : ℕ) → v.sent e ≡ sent_after (edge_of outputs) e (a.sent e) history

module _ {S : Type 0} (b : Behaviour S) where
  -- some reads and writes lead to the state from the one in which it opened
  abbrev pub IsReached : S → Type 0
  IsReached s = ∥ ((h : List (Event Signal)) × Does b.process (b.opening s) h s) ∥₁

  -- these are the edges at the ports of a transducer in this state, and their ends are there
  pub record IsPlaced (inputs outputs : List ℕ) (s : S) (v : View) : Type 0 where
    pub reached : IsReached s
    pub each_input : length inputs ≡ b.inputs s
    pub each_output : length outputs ≡ b.outputs s
    pub reads : All (λ e. v.reads e ≡ true) inputs
    pub writes : All (λ e. v.writes e ≡ true) outputs
    pub kinds : TakeKinds outputs (b.kind_out s) v

-- so many input ports and output ports have these edges, and their ends are there
pub record PortsHaveEdges (inputs outputs : List ℕ) (reads_from writes_to : ℕ) (v : View) : Type 0 where
  pub each_input : length inputs ≡ reads_from
  pub each_output : length outputs ≡ writes_to
  pub reads : All (λ e. v.reads e ≡ true) inputs
  pub writes : All (λ e. v.writes e ≡ true) outputs
