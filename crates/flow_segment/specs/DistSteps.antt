-- How Dist goes over its edges.
use Rattle.std.specs.Prelude.{ℕ, List, [], ◌∷◌, replicate}
use Rattle.flow_messages.specs.Cells.{cell_of}
use Rattle.flow_messages.specs.Ends.{View, PutAll, TakenAll}
use Rattle.flow_messages.specs.Signals.{carry}
use Rattle.flow_messages.specs.declared.ends.Ends.{Ghosts as EndsGhosts}
use Rattle.flow_messages.specs.declared.message.Item.{Item}
use Rattle.flow_base.specs.Nodes.{behaviour_of, node_state}
use Rattle.flow_base.specs.Visits.{Went}
use Rattle.flow_base.specs.declared.node.Phase.TheVariants.{Working}
use Rattle.flow_segment.specs.DistMachine.{dist_machine, dist_view}
use Rattle.flow_segment.specs.declared.dist.Dist.{Dist}

-- so many copies of the item were put on the edge
abbrev pub PutCopies : View → ℕ → ℕ → Item → View → Type 0
PutCopies v to count item w = PutAll v to (replicate count (carry (cell_of item))) w

-- the item was taken from the edge
abbrev pub TookItem : View → ℕ → Item → View → Type 0
TookItem v from item w = TakenAll v from (carry (cell_of item) ∷ []) w

-- a node that works with this worker made so many steps
abbrev pub DistWent : {E : Type 0} → EndsGhosts E → List ℕ → List ℕ → Dist → E → Dist → E → ℕ → Type 0
DistWent e inputs outputs old a new b steps =
    (at : ℕ) → Went inputs outputs (behaviour_of dist_machine) (node_state (dist_view old) Working at) (e.view a) (node_state (dist_view new) Working at) (e.view b) steps
