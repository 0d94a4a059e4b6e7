use Rattle.std.proofs.Common.{refl, sym, ap, ◌∙◌, arith}
use Rattle.std.specs.Prelude.{Some}
use Rattle.flow_messages.specs.Contents.{item_messages}
use Rattle.flow_messages.proofs.SideBySide.{items_still}
use Rattle.flow_edges.proofs.OfLanes.GathersMany.{gathers_many}
use Rattle.flow_edges.proofs.lanes.counted.CountedWriter.put_all.Goals as goal

pub add_all-requires-clause-kind : goal.add_all-requires-clause-kind
add_all-requires-clause-kind c = items_still _ _ c.args.items (ap Some (c.makes_places.ensures.same.kind ∙ c.args.self.now.kind)) c.requires.kind

pub put_all-requires-clause-kind : goal.put_all-requires-clause-kind
put_all-requires-clause-kind c = items_still _ _ c.args.items (ap (λ of. Some of.0) c.makes_places.ensures.same.edge.0) c.requires.kind

pub invariant_of-self-then-makes_places : goal.invariant_of-self-then-makes_places
invariant_of-self-then-makes_places c =
    let now = c.makes_places.ensures in
    let k = gathers_many c.args.self.now (item_messages c.args.items) c.len-count.result c.makes_places.new.self c.add_all.new.self c.makes_places.new.edge
    (sym c.len-count.ensures) (omega (arith, c.len-count.ensures, c.requires.certain)) (sym c.is_closed.ensures ∙ c.if-is_closed.false) now.same now.kept now.open now.room c.add_all.ensures in
    record { kind = k.kind; sure = k.sure; closed = k.closed; places = k.places; limit = c.args.self.now.limit; within = k.within }

pub returns-then-makes_places : goal.returns-then-makes_places
returns-then-makes_places c =
    let now = c.makes_places.ensures in
    let k = gathers_many c.args.self.now (item_messages c.args.items) c.len-count.result c.makes_places.new.self c.add_all.new.self c.makes_places.new.edge
    (sym c.len-count.ensures) (omega (arith, c.len-count.ensures, c.requires.certain)) (sym c.is_closed.ensures ∙ c.if-is_closed.false) now.same now.kept now.open now.room c.add_all.ensures in
    record { edge = now.same.edge; back = refl; put = k.put; room = omega (arith, c.len-count.ensures, c.requires.certain) }
