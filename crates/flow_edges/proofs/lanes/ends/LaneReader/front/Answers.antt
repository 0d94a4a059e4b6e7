use Rattle.std.proofs.Common.{[], ◌∷◌}
use Rattle.flow_messages.proofs.Tables.{if_some}
use Rattle.flow_messages.specs.Stores.{content_of}
use Rattle.flow_words.specs.Edge.{certain_held}
use Rattle.flow_edges.proofs.OfLanes.Lists.{prefix-more}
use Rattle.flow_edges.proofs.lanes.ends.LaneReader.front.Goals as goal

pub returns-in-Scalars : goal.returns-in-Scalars
returns-in-Scalars c =
    let p = c.in-Scalars.pocket in
    rw c.in-Scalars.is (if_some _ _ c.front-in-Scalars.result (λ m first. prefix-more (m.now ∷ []) (content_of p.inbox.store) (certain_held p.edge) first) c.front-in-Scalars.ensures)
