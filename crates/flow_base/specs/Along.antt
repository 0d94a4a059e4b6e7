-- What a worker does along slices: steps of its machine that read and write just these messages.
use Rattle.std.specs.Prelude.{◌≡◌, ◌≢◌, ℕ, zero, suc, ◌<◌, ◌≤◌, cond, eqb, nat_lt, List, [], ◌++◌, length, take}
use mathlib.Core.List.{IsPrefix}
use Rattle.kahn.specs.Processes.{Event, Does, reads, writes}
use Rattle.flow_messages.specs.Blocks.{unit_signals, flag_signals, int_signals, item_signals}
use Rattle.flow_messages.specs.Ends.{View, SameEnds}
use Rattle.flow_messages.specs.Signals.{Signal, ended}
use Rattle.flow_messages.specs.declared.message.Kind.{Kind}
use Rattle.flow_messages.specs.declared.message.Kind.TheVariants.{Unit as UnitKind, Bool as BoolKind, Int as IntKind, Vec as VecKind}
use Rattle.flow_base.specs.Machines.{Machine}
use Rattle.flow_base.specs.Nodes.{behaviour_of, node_state}
use Rattle.flow_base.specs.Visits.{edge_of, IsNone}
use Rattle.flow_base.specs.declared.node.Phase.TheVariants.{Working}
use Rattle.flow_base.specs.declared.slices.Moved.{Moved}
use Rattle.flow_messages.specs.declared.items.Items.{Items}
use Rattle.flow_base.specs.declared.slices.Written.{Written}

-- what was written to each output of the kind
abbrev pub written_signals : Written → Moved → Kind → List Signal
written_signals block moved UnitKind = unit_signals moved.units
written_signals block moved BoolKind = flag_signals (take moved.flags block.flags)
written_signals block moved IntKind = int_signals (take moved.ints block.ints)
written_signals block moved VecKind = []

-- it read no more than it was shown, wrote no more than there is room for, and made no more steps than it may
pub record IsWithin (at_first at_second : Items) (space most : ℕ) (moved : Moved) : Type 0 where
  pub first : moved.first ≤ length (item_signals at_first)
  pub second : moved.second ≤ length (item_signals at_second)
  pub units : moved.units ≤ space
  pub flags : moved.flags ≤ space
  pub ints : moved.ints ≤ space
  pub steps : moved.steps ≤ most

module _ {P S : Type 0} (m : Machine P S) where
  -- what was written to this output: where there is none, nothing
  abbrev pub written_at : P → Written → Moved → ℕ → List Signal
  written_at p block moved q = cond (nat_lt q (m.outputs p)) (written_signals block moved (m.kind_out p q)) []

  -- From one state to the other in so many steps it reads just these messages at port 0 and just these at port 1, and
  -- writes just these to each output.
  pub record RunsAlong (old new : P × S) (first second : List Signal) (written : ℕ → List Signal) (steps : ℕ) : Type 0 where
    pub history : List (Event Signal)
    pub does : (at : ℕ) → Does (behaviour_of m).process (node_state old Working at) history (node_state new Working at)
    pub counts : length history ≡ steps
    pub reads_first : reads 0 history ≡ first
    pub reads_second : reads 1 history ≡ second
    pub no_others : (p : ℕ) → 1 < p → reads p history ≡ []
    pub writes_are : (q : ℕ) → writes q history ≡ written q

  -- What a worker did along what it was shown: within what it may, steps that read the first of the items and wrote what
  -- lies in the block.
  pub record MovesAlong (old new : P × S) (first second : Items) (space most : ℕ) (block : Written) (moved : Moved) : Type 0 where
    pub within : IsWithin first second space most moved
    pub ran : RunsAlong old new (take moved.first (item_signals first)) (take moved.second (item_signals second)) (written_at old.0 block moved) moved.steps

-- each of these edges is another
abbrev pub AreApart : List ℕ → Type 0
AreApart edges = (p q : ℕ) → p < q → q < length edges → edge_of edges p ≢ edge_of edges q

-- there is room for what was written
abbrev pub HasRoom : Moved → ℕ → Type 0
HasRoom moved room = (moved.units ≤ room) × (moved.flags ≤ room) × (moved.ints ≤ room)

-- what comes to edge e, where each of the first so many ports has messages for its edge
abbrev pub from_each : (ℕ → ℕ) → ℕ → (ℕ → List Signal) → ℕ → List Signal
from_each edge zero ms e = []
from_each edge (suc n) ms e = from_each edge n ms e ++ cond (eqb e (edge n)) (ms n) []

-- the messages of each of the first so many outputs were put on its edge, unless that had ended
pub record PutOnEach (outputs : List ℕ) (count : ℕ) (ms : ℕ → List Signal) (a b : View) : Type 0 where
  pub ends : SameEnds a b
  pub sent : (e : ℕ) → b.sent e ≡ cond (ended (a.sent e)) (a.sent e) (a.sent e ++ from_each (edge_of outputs) count ms e)
  pub received : (e : ℕ) → b.received e ≡ a.received e
  pub coming : (e : ℕ) → IsPrefix (a.coming e) (b.coming e)
  pub room : (e : ℕ) → IsNone outputs e → a.room e ≤ b.room e
  pub room_next : (q : ℕ) → count ≤ q → q < length outputs → a.room (edge_of outputs q) ≤ b.room (edge_of outputs q)
