use Rattle.flow_networks.proofs.GraphNodes.{is_node}
use Rattle.flow_networks.proofs.NodeEnds.{ends_from, ends_reads, ends_writes}
use Rattle.flow_networks.proofs.graph.Graph.has_ends.Goals as goal

pub returns-then-has_readers : goal.returns-then-has_readers
returns-then-has_readers g c =
    let view = g.E.Ends.view c.args.ends.now in
    let at = is_node c.args.self.now c.args.node c.index-placed.result.now c.requires c.index-placed.ensures in
    let readers = rw c.deref.ensures.value at c.has_readers.ensures in
    let writers = rw c.deref-then-has_readers.ensures.value at c.has_writers.ensures in (
      λ t. ends_from at view (readers.0 (cc (c.if-has_readers.true))) (writers.0 t),
      λ ends. writers.1 (ends_writes at view ends),
    )

pub returns-else-has_readers : goal.returns-else-has_readers
returns-else-has_readers g c =
    let view = g.E.Ends.view c.args.ends.now in
    let at = is_node c.args.self.now c.args.node c.index-placed.result.now c.requires c.index-placed.ensures in
    let readers = rw c.deref.ensures.value at c.has_readers.ensures in (
      λ t. absurd (let f = c.if-has_readers.false in cc),
      λ ends. readers.1 (ends_reads at view ends),
    )
