use Rattle.std.proofs.Common.{arith}
use Rattle.flow_drives.proofs.Noted.{note_below, note_next, note_share, note_all}
use Rattle.flow_drives.proofs.places.places_of.Goals as goal

pub index_mut-requires : goal.index_mut-requires
index_mut-requires g c =
    let deals = c.requires.1.1.1 in
    let below = note_below g.network c.args.shares.now deals c.loop-s.s c.loop-s-test.true c.index-shares-s.result c.index-shares-s.is c.nodes-nodes.result.now c.nodes-nodes.ensures
    c.loop-place.place c.loop-place-test.true c.index-nodes-place.result c.index-nodes-place.is c.number-number.result c.number-number.ensures in
    omega (arith, below, (c.loop-place.invariant deals).count, c.loop-place.places.ok.0)

pub loop-place-preserved : goal.loop-place-preserved
loop-place-preserved g c deals =
    note_next g.network c.args.shares.now deals c.loop-s.s c.loop-s-test.true c.index-shares-s.result c.index-shares-s.is c.nodes-nodes.result.now c.nodes-nodes.ensures
    c.loop-place.place c.loop-place-test.true c.index-nodes-place.result c.index-nodes-place.is c.number-number.result c.number-number.ensures
    c.loop-place.places.items (c.loop-place.invariant deals)

pub loop-s-preserved : goal.loop-s-preserved
loop-s-preserved g c deals =
    note_share g.network c.args.shares.now deals c.loop-s.s c.loop-s-test.true c.index-shares-s.result c.index-shares-s.is c.nodes-nodes.result.now c.nodes-nodes.ensures
    c.loop-place.place c.loop-place.auto.place-end c.loop-place-test.false c.loop-place.places.items (c.loop-place.invariant deals)

pub returns : goal.returns
returns g c deals =
    note_all g.network c.args.shares.now deals c.loop-s.s c.loop-s.auto.s-end c.loop-s-test.false c.loop-s.places.items (c.loop-s.invariant deals)
