use Rattle.std.proofs.Common.{◌≡◌, ◌+◌, ◌<◌, ◌≤◌, length, take, sym, subst, arith}
use Rattle.flow_messages.specs.Ends.{TakenAll}
use Rattle.flow_messages.specs.Blocks.{item_signals}
use Rattle.flow_base.specs.Along.{PutOnEach, written_signals}
use Rattle.flow_base.specs.Members.{node_of}
use Rattle.flow_base.specs.Nodes.{node_state}
use Rattle.flow_base.specs.Visits.{edge_of, TakeKinds, Went}
use Rattle.flow_base.specs.NodeLaws.{behaviour_laws}
use Rattle.flow_base.proofs.Batches.{shown, taken_all_room}
use Rattle.flow_base.proofs.Kernels.{went_none, went_alone, went_further}
use Rattle.flow_base.proofs.OverSlices.{along_still, along_went, kinds_still, port_there, prefix_long, reads_still, same_parameters, second_certain, second_taken, take_nothing, writes_still}
use Rattle.flow_base.proofs.Walks.{ends_on}
use Rattle.flow_base.proofs.node.Node.go_along.Goals as goal

pub least_space-requires : goal.least_space-requires
least_space-requires g c = c.requires.placed.writes

-- its ends are there
pub shown_at-first-requires : goal.shown_at-first-requires
shown_at-first-requires g c = reads_still c.args.edges.now.inputs.now c.least_space.ensures.ends c.requires.placed.reads

pub shown_at-second-requires : goal.shown_at-second-requires
shown_at-second-requires g c = reads_still c.args.edges.now.inputs.now c.least_space.ensures.ends c.requires.placed.reads

pub skip_at-requires-clause-reads : goal.skip_at-requires-clause-reads
skip_at-requires-clause-reads g c = reads_still c.args.edges.now.inputs.now c.least_space.ensures.ends c.requires.placed.reads

pub skip_at-requires-clause-there : goal.skip_at-requires-clause-there
skip_at-requires-clause-there g c =
    port_there c.args.edges.now.inputs.now 0 c.along-moved.result.first (item_signals c.shown_at-first.result)
    c.along-moved.ensures.within.first c.shown_at-first.ensures.none

pub skip_at-requires-clause-certain : goal.skip_at-requires-clause-certain
skip_at-requires-clause-certain g c =
    let v = g.E.Ends.view c.least_space.new.ends in
    omega (arith, c.along-moved.ensures.within.first, prefix_long (item_signals c.shown_at-first.result) (v.coming (edge_of c.args.edges.now.inputs.now 0)) c.shown_at-first.ensures.shown)

pub skip_at-requires-2-clause-reads : goal.skip_at-requires-2-clause-reads
skip_at-requires-2-clause-reads g c = reads_still c.args.edges.now.inputs.now (ends_on c.least_space.ensures.ends c.skip_at.ensures.taken.ends) c.requires.placed.reads

pub skip_at-requires-2-clause-there : goal.skip_at-requires-2-clause-there
skip_at-requires-2-clause-there g c =
    port_there c.args.edges.now.inputs.now 1 c.along-moved.result.second (item_signals c.shown_at-second.result) c.along-moved.ensures.within.second
    c.shown_at-second.ensures.none

pub skip_at-requires-2-clause-certain : goal.skip_at-requires-2-clause-certain
skip_at-requires-2-clause-certain g c =
    let ins = c.args.edges.now.inputs.now in
    let view = g.E.Ends.view in
    let v = view c.least_space.new.ends in
    let made = c.along-moved.result in
    second_certain ins c.requires.inputs v (view c.skip_at.new.ends) made.second (take made.first (v.coming (edge_of ins 0)))
    (item_signals c.shown_at-second.result) c.skip_at.ensures.taken c.shown_at-second.ensures.shown c.along-moved.ensures.within.second
    c.shown_at-second.ensures.none

pub put_on_each-requires-clause-writes : goal.put_on_each-requires-clause-writes
put_on_each-requires-clause-writes g c =
    writes_still c.args.edges.now.outputs.now (ends_on (ends_on c.least_space.ensures.ends c.skip_at.ensures.taken.ends) c.skip_at-2.ensures.taken.ends) c.requires.placed.writes

pub put_on_each-requires-clause-kinds : goal.put_on_each-requires-clause-kinds
put_on_each-requires-clause-kinds g c =
    let state = g.W.Worker.state in
    let m = g.W.Worker.machine in
    let node = node_of state m in
    let outs = c.args.edges.now.outputs.now in
    let view = g.E.Ends.view in
    let a = view c.args.ends.now in
    let v2 = view c.skip_at-2.new.ends in
    let old = state c.args.self.now.worker in
    let new = state c.along-moved.new.self in
    let ran = c.along-moved.ensures.ran in
    let same = ends_on (ends_on c.least_space.ensures.ends c.skip_at.ensures.taken.ends) c.skip_at-2.ensures.taken.ends in
    subst (λ p. TakeKinds outs (m.kind_out p) v2) (sym (same_parameters m (behaviour_laws _ g.met.W.Worker.laws) old new ran.history 0 (ran.does 0)))
    (kinds_still a v2 outs (m.kind_out old.0) same c.requires.placed.kinds)

pub put_on_each-requires-clause-room : goal.put_on_each-requires-clause-room
put_on_each-requires-clause-room g c = λ q there.
    let view = g.E.Ends.view in
    let ins = c.args.edges.now.inputs.now in
    let e = edge_of c.args.edges.now.outputs.now q in
    let v = view c.least_space.new.ends in
    let v1 = view c.skip_at.new.ends in
    let v2 = view c.skip_at-2.new.ends in
    let made = c.along-moved.result in
    let within = c.along-moved.ensures.within in
    let least = c.least_space.ensures.room q there in
    let first = taken_all_room v v1 (edge_of ins 0) e (take made.first (v.coming (edge_of ins 0))) c.skip_at.ensures.taken in
    let second = taken_all_room v1 v2 (edge_of ins 1) e (take made.second (v1.coming (edge_of ins 1))) c.skip_at-2.ensures.taken in
    let room : c.min-space.result ≤ v2.room e = omega (arith, c.min-space.ensures, least, first, second) in
    (omega (arith, within.units, room), omega (arith, within.flags, room), omega (arith, within.ints, room))

pub put_on_each-requires-clause-places : goal.put_on_each-requires-clause-places
put_on_each-requires-clause-places g c =
    let within = c.along-moved.ensures.within in
    (omega (arith, within.units, c.min-space.ensures), omega (arith, within.flags, c.min-space.ensures), omega (arith, within.ints, c.min-space.ensures))

-- it only looked for room
pub returns-then-steps-eq0-clause-visit : goal.returns-then-steps-eq0-clause-visit
returns-then-steps-eq0-clause-visit g c =
    let state = g.W.Worker.state in
    let m = g.W.Worker.machine in
    let node = node_of state m in
    let b = node.behaviour in
    let ins = c.args.edges.now.inputs.now in
    let outs = c.args.edges.now.outputs.now in
    let view = g.E.Ends.view in
    let n = c.args.self.now in
    let a = view c.args.ends.now in
    let v = view c.least_space.new.ends in
    let looked = went_alone b ins outs (went_none b ins outs (node.state n) a) v (c.least_space.ensures.alone ins) in
    record {
      same = c.least_space.ensures.same;
      ends = c.least_space.ensures.ends;
      went = subst (λ k. Went ins outs b (node.state n) a (node_state k n.phase n.at) v 0) (along_still m c.along-moved.ensures.ran c.if-steps-eq0.true) looked;
    }

-- what was shown is taken, and what was written is put
pub returns-clause-visit : goal.returns-clause-visit
returns-clause-visit g c =
    let state = g.W.Worker.state in
    let m = g.W.Worker.machine in
    let node = node_of state m in
    let b = node.behaviour in
    let ins = c.args.edges.now.inputs.now in
    let outs = c.args.edges.now.outputs.now in
    let view = g.E.Ends.view in
    let n = c.args.self.now in
    let old = state n.worker in
    let new = state c.along-moved.new.self in
    let a = view c.args.ends.now in
    let v = view c.least_space.new.ends in
    let v1 = view c.skip_at.new.ends in
    let v2 = view c.skip_at-2.new.ends in
    let w = view c.put_on_each.new.ends in
    let made = c.along-moved.result in
    let block = c.along-moved.new.block in
    let ran = c.along-moved.ensures.ran in
    let within = c.along-moved.ensures.within in
    let firsts = item_signals c.shown_at-first.result in
    let seconds = item_signals c.shown_at-second.result in
    let none_first = c.shown_at-first.ensures.none in
    let none_second = c.shown_at-second.ensures.none in
    let xs = take made.first firsts in
    let ys = take made.second seconds in
    let first = subst (λ l. TakenAll v (edge_of ins 0) l v1) (shown firsts (v.coming (edge_of ins 0)) made.first c.shown_at-first.ensures.shown within.first) c.skip_at.ensures.taken in
    let second = subst (λ l. TakenAll v1 (edge_of ins 1) l v2)
    (second_taken ins c.requires.inputs v v1 made.second (take made.first (v.coming (edge_of ins 0))) seconds c.skip_at.ensures.taken
    c.shown_at-second.ensures.shown within.second none_second) c.skip_at-2.ensures.taken in
    let parameters = same_parameters m (behaviour_laws _ g.met.W.Worker.laws) old new ran.history 0 (ran.does 0) in
    let put = subst (λ p. PutOnEach outs (length outs) (λ q. written_signals block made (m.kind_out p q)) v2 w) parameters c.put_on_each.ensures.put in
    let some : 0 < made.steps = omega (arith, c.if-steps-eq0.false) in
    let went = along_went m block made ins outs n.at xs ys ran c.requires.inputs c.requires.outputs c.requires.placed.each_output
    (λ le. take_nothing made.first firsts (none_first le)) (λ le. take_nothing made.second seconds (none_second le)) some v v1 v2 w first second put
    in
    let here = subst (λ p. Went ins outs b (node_state old p n.at) v (node_state new p n.at) w made.steps) (sym c.requires.works) went in
    let looked = went_alone b ins outs (went_none b ins outs (node.state n) a) v (c.least_space.ensures.alone ins) in
    let E = g.met.E.Ends in
    let start = c.args.ends.now in
    record {
      same = E.same_trans start c.skip_at-2.new.ends c.put_on_each.new.ends
          (E.same_trans start c.skip_at.new.ends c.skip_at-2.new.ends
          (E.same_trans start c.least_space.new.ends c.skip_at.new.ends c.least_space.ensures.same c.skip_at.ensures.same) c.skip_at-2.ensures.same)
          c.put_on_each.ensures.same;
      ends = ends_on (ends_on (ends_on c.least_space.ensures.ends c.skip_at.ensures.taken.ends) c.skip_at-2.ensures.taken.ends) c.put_on_each.ensures.put.ends;
      went = subst (Went ins outs b (node.state n) a (node_state new n.phase n.at) w) (let none : 0 + made.steps ≡ made.steps = omega arith in none) (went_further b ins outs looked here);
    }
