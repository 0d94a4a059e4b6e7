use Rattle.std.proofs.Common.{◌≡◌, ◌+◌, length, map}
use Rattle.snesl_types.specs.Typed.{typed_inputs, typed_text, typed_tree}
use Rattle.flow_networks.specs.Graphs.{states_of, edges_of}
use Rattle.snesl_flatten.specs.Sources.{cells_in, HasSources}
use Rattle.snesl_flatten.specs.Unset.{AreButSources}
use Rattle.snesl_flatten.proofs.plan.set_sources.Given as goal

abbrev pub invariant-loop-source : goal.invariant-loop-source
invariant-loop-source l =
    let typed = l.fn.typed in
    record {
      step : l.step ≡ length l.yielded + 1;
      sources : HasSources (typed_text typed) (typed_tree typed) (typed_inputs typed) (map cells_in l.yielded) (states_of l.graph) (edges_of l.graph);
      edges : edges_of l.graph ≡ edges_of l.fn.graph;
      others : AreButSources typed (states_of l.fn.graph) (states_of l.graph);
    }
