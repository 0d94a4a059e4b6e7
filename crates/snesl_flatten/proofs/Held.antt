-- The network that was assembled of the steps of a program, no source of which is set.
use Rattle.std.proofs.Common.{◌≡◌, ℕ, List, [], refl, subst}
use Rattle.snesl_values.specs.Inputs.{InputDeclaration}
use Rattle.snesl_grammar.specs.tree.Tree.{ProgramTree}
use Rattle.flow_nodes.specs.StreamNodes.{node_behaviour}
use Rattle.flow_networks.specs.declared.edge.Edge.{Edge}
use Rattle.flow_networks.specs.Networks.{AreOpened}
use Rattle.flow_nodes.specs.plans.Plans.{Step}
use Rattle.flow_nodes.specs.plans.Layouts.{layout, IsNetworkOfPlan}
use Rattle.flow_assembly.specs.Openings.{AllOpen}
use Rattle.snesl_translation.specs.Programs.{unset_cells}
use Rattle.snesl_flatten.specs.Networks.{StreamNodeState, program_steps}
use Rattle.snesl_flatten.specs.Sources.{HasSources}
use Rattle.snesl_flatten.proofs.Ends.{print_opens}

module _ (text : List ℕ) (program : ProgramTree) (inputs : List InputDeclaration) (states : List StreamNodeState) (edges : List Edge) where
  -- it has its sources before any of them is set
  pub no_source_set : (steps : List Step) → steps ≡ program_steps text program inputs unset_cells → IsNetworkOfPlan node_behaviour steps states edges → AllOpen (layout steps) states
      → AreOpened node_behaviour states → HasSources text program inputs [] states edges
  no_source_set steps is network opens opened =
      let of : IsNetworkOfPlan node_behaviour (program_steps text program inputs unset_cells) states edges = subst (λ plan. IsNetworkOfPlan node_behaviour plan states edges) is network in
      record {
        network = of;
        opens = subst (λ plan. AllOpen (layout plan) states) is opens;
        opened = opened;
        print = print_opens text program inputs unset_cells states of.laid.nodes (subst (λ plan. AllOpen (layout plan) states) is opens);
        places_are = refl;
      }
