use Rattle.std.proofs.Common.{◌≡◌, ◌<◌, true, length, sym, ◌∙◌, subst, arith}
use Rattle.std.proofs.lemmas.List.Elements.{All-get_or}
use Rattle.snesl_data.specs.Types.{ty_of}
use Rattle.flow_messages.specs.Cells.{cell_of}
use Rattle.flow_messages.specs.Signals.{carry}
use Rattle.flow_messages.proofs.Fitting.{kind_fits, takes_still}
use Rattle.flow_base.specs.Nodes.{behaviour_of, node_state}
use Rattle.flow_base.specs.Visits.{edge_of, Went}
use Rattle.flow_base.specs.declared.node.Phase.TheVariants.{Working}
use Rattle.flow_base.proofs.Carried.{same_ends_then, taken_room}
use Rattle.flow_base.proofs.Kernels.{went_none, went_looked}
use Rattle.flow_values.specs.Shapes.{kinds_of, kind_at}
use Rattle.flow_values.specs.IndexMachine.{index_machine}
use Rattle.flow_values.proofs.IndexPairs.{index_view, pair_kind, pair_taken, pair_went}
use Rattle.flow_values.proofs.index.Index.pair_on.Goals as goal

-- it only looked for room
pub returns-then-not-room-clause-went : goal.returns-then-not-room-clause-went
returns-then-not-room-clause-went g c = λ at.
    let b = behaviour_of index_machine in
    let ins = c.args.inputs.now in
    let outs = c.args.outputs.now in
    went_looked b ins outs (went_none b ins outs (node_state (index_view c.args.self.now) Working at) (g.E.Ends.view c.args.ends.now)) 0
    (g.E.Ends.view c.room.new.self) c.requires.some c.room.ensures.looked

pub returns-in_default-clause-went : goal.returns-in_default-clause-went
returns-in_default-clause-went g c = λ at.
    let b = behaviour_of index_machine in
    let ins = c.args.inputs.now in
    let outs = c.args.outputs.now in
    went_looked b ins outs (went_none b ins outs (node_state (index_view c.args.self.now) Working at) (g.E.Ends.view c.args.ends.now)) 0
    (g.E.Ends.view c.room.new.self) c.requires.some c.room.ensures.looked

-- it read a vector and an index, and wrote the element
pub returns-clause-ends : goal.returns-clause-ends
returns-clause-ends g c =
    let view = g.E.Ends.view in
    let a = view c.args.ends.now in
    let v = view c.room.new.self in
    let u = view c.take_front.new.ends in
    let t = view c.take_front-2.new.ends in
    let w = view c.put_in_space.new.ends in
    let ins = c.args.inputs.now in
    let taken = pair_taken v u t (edge_of ins 0) (edge_of ins 1) c.in-Some.ensures c.take_front.ensures.taken c.take_front-2.ensures.taken in
    same_ends_then a t w (same_ends_then a u t (same_ends_then a v u c.room.ensures.looked.ends taken.0.ends) taken.1.ends) c.put_in_space.ensures.wrote.ends

pub returns-clause-went : goal.returns-clause-went
returns-clause-went g c =
    let b = behaviour_of index_machine in
    let view = g.E.Ends.view in
    let a = view c.args.ends.now in
    let v = view c.room.new.self in
    let u = view c.take_front.new.ends in
    let t = view c.take_front-2.new.ends in
    let w = view c.put_in_space.new.ends in
    let ins = c.args.inputs.now in
    let outs = c.args.outputs.now in
    let item = ty_of c.args.self.now.element in
    let taken = pair_taken v u t (edge_of ins 0) (edge_of ins 1) c.in-Some.ensures c.take_front.ensures.taken c.take_front-2.ensures.taken in
    let reads : 1 < length ins = omega (arith, c.requires.wired.each_input) in
    λ at.
    let went = pair_went ins outs item at a v u t w reads c.requires.some c.room.ensures.looked c.in-Some.ensures taken.0 taken.1 c.put_in_space.ensures.wrote in
    subst (λ s. Went ins outs b (node_state (item, s) Working at) a (node_state (item, s) Working at) w 3) (sym c.requires.between) went

-- the ends are still there
pub take_front-requires-2 : goal.take_front-requires-2
take_front-requires-2 g c =
    let view = g.E.Ends.view in
    let a = view c.args.ends.now in
    let v = view c.room.new.self in
    let u = view c.take_front.new.ends in
    let ins = c.args.inputs.now in
    let from = edge_of ins 1 in
    let vector = c.take_front.ensures.taken _ c.in-Some.ensures.vector_next in
    let there : 1 < length ins = omega (arith, c.requires.wired.each_input) in
    let reads : a.reads from ≡ true = All-get_or (λ e. a.reads e ≡ true) ins 1 0 there c.requires.wired.reads in
    vector.ends.reads from ∙ c.room.ensures.looked.ends.reads from ∙ reads

pub put_in_space-requires-clause-writes : goal.put_in_space-requires-clause-writes
put_in_space-requires-clause-writes g c =
    let view = g.E.Ends.view in
    let a = view c.args.ends.now in
    let v = view c.room.new.self in
    let u = view c.take_front.new.ends in
    let t = view c.take_front-2.new.ends in
    let ins = c.args.inputs.now in
    let outs = c.args.outputs.now in
    let to = edge_of outs 0 in
    let taken = pair_taken v u t (edge_of ins 0) (edge_of ins 1) c.in-Some.ensures c.take_front.ensures.taken c.take_front-2.ensures.taken in
    let writes : a.writes to ≡ true = All-get_or (λ e. a.writes e ≡ true) outs 0 0 c.requires.some c.requires.wired.writes in
    taken.1.ends.writes to ∙ taken.0.ends.writes to ∙ c.room.ensures.looked.ends.writes to ∙ writes

-- there is still room, and the element is of the kind of the edge
pub put_in_space-requires-clause-certain : goal.put_in_space-requires-clause-certain
put_in_space-requires-clause-certain g c =
    let view = g.E.Ends.view in
    let v = view c.room.new.self in
    let u = view c.take_front.new.ends in
    let t = view c.take_front-2.new.ends in
    let ins = c.args.inputs.now in
    let to = edge_of c.args.outputs.now 0 in
    let taken = pair_taken v u t (edge_of ins 0) (edge_of ins 1) c.in-Some.ensures c.take_front.ensures.taken c.take_front-2.ensures.taken in
    let room : 0 < v.room to = c.room.ensures.value.0 c.if-not-room.false in
    omega (arith, room, taken_room v u (edge_of ins 0) to _ taken.0, taken_room u t (edge_of ins 1) to _ taken.1)

pub put_in_space-requires-clause-fits : goal.put_in_space-requires-clause-fits
put_in_space-requires-clause-fits g c =
    let view = g.E.Ends.view in
    let a = view c.args.ends.now in
    let v = view c.room.new.self in
    let u = view c.take_front.new.ends in
    let t = view c.take_front-2.new.ends in
    let ins = c.args.inputs.now in
    let to = edge_of c.args.outputs.now 0 in
    let kind = kind_at (kinds_of (ty_of c.args.self.now.element)) 0 in
    let taken = pair_taken v u t (edge_of ins 0) (edge_of ins 1) c.in-Some.ensures c.take_front.ensures.taken c.take_front-2.ensures.taken in
    let same = same_ends_then a u t (same_ends_then a v u c.room.ensures.looked.ends taken.0.ends) taken.1.ends in
    kind_fits (t.kind to) kind (carry (cell_of c.in-Some.item)) (takes_still a t to kind same (c.requires.kinds 0 c.requires.some)) (pair_kind c.in-Some.ensures)
