use Rattle.std.proofs.Common.{◌≡◌, ◌-◌, ◌≤◌, ℕ, List, false, length}
use Rattle.flow_messages.specs.Ends.{SameEnds}
use Rattle.flow_base.specs.Visits.{Went}
use Rattle.flow_scalar.specs.SourceBehaviour.{source_behaviour}
use Rattle.flow_nodes.specs.inputs.TextSources.{text_source_state}
use Rattle.flow_nodes.proofs.inputs.source.TextSource.write_blocks.Given as goal

-- the items so far
abbrev pub invariant-loop-made : goal.invariant-loop-made
invariant-loop-made g l = let view = g.E.Ends.view in record {
  same : g.E.Ends.same l.fn.ends l.ends;
  ends : SameEnds (view l.fn.ends) (view l.ends);
  within : l.made ≤ l.most;
  ints : length l.ints ≡ 16;
  flags : length l.flags ≡ 16;
  sending : l.self.ended ≡ false;
  went : (inputs : List ℕ) → Went inputs l.outputs source_behaviour (text_source_state l.fn.self) (view l.fn.ends) (text_source_state l.self) (view l.ends) l.made;
}

abbrev pub decreases-loop-made : goal.decreases-loop-made
decreases-loop-made g l = l.most - l.made
