-- Setting what a source of a plan writes, in the plan and in its network.
use Rattle.std.specs.Prelude.{◌≡◌, ℕ, List, Some, slice_set, slice_index_or}
use Rattle.std.specs.List.{slice_get}
use Rattle.flow_messages.specs.Cells.{Cell}
use Rattle.flow_messages.specs.declared.message.Kind.{Kind}
use Rattle.flow_base.specs.Transducers.{Behaviour}
use Rattle.flow_networks.specs.declared.edge.Edge.{Edge}
use Rattle.flow_networks.specs.Replacements.{MayReplace}
use Rattle.flow_nodes.specs.plans.Plans.{Operation, Step, source}
use Rattle.flow_nodes.specs.plans.Layouts.{Placed, layout, places, Performs, IsNetworkOfPlan}

-- the plan, where its step i is a source of these cells
abbrev pub with_source : ℕ → Step → Kind → List Cell → List Step → List Step
with_source i step kind cells plan = slice_set plan i (record step { operation = source kind cells })

-- Node k of the first plan's network is another in that of the second, with this operation, and all else is laid out as it was.
pub record IsLaidBut (k : ℕ) (operation : Operation) (plan other : List Step) : Type 0 where
  pub placed : Placed
  pub there : slice_get (layout plan) k ≡ Some placed
  pub laid : layout other ≡ slice_set (layout plan) k (record placed { operation = operation })

-- Where step i of a plan is a source, another source of the same kind may stand in place of its node, and then the network is
-- that of the plan with the other source, whose steps have their nodes where they were; all other nodes are laid out as before.
abbrev pub SourceIsSet : {S : Type 0} → Behaviour S → List S → List Edge → Type 0
SourceIsSet {S = S} b states edges =
    (plan : List Step) → IsNetworkOfPlan b plan states edges
    → (i : ℕ) (step : Step) (kind : Kind) (before cells : List Cell) → slice_get plan i ≡ Some step → step.operation ≡ source kind before
    → (s : S) → Performs b (source kind cells) s
    → let k = slice_index_or (places plan) i 0 in
    MayReplace b states k s × IsNetworkOfPlan b (with_source i step kind cells plan) (slice_set states k s) edges
    × (places (with_source i step kind cells plan) ≡ places plan)
    × IsLaidBut k (source kind cells) plan (with_source i step kind cells plan)
