use Rattle.std.proofs.Common.{◌≡◌, ◌<◌, true, false, [], ◌∷◌, length, refl, sym, ◌∙◌, ap, subst, arith}
use Rattle.std.proofs.lemmas.List.Elements.{All-get_or}
use mathlib.Core.List.{IsPrefix}
use Rattle.flow_messages.specs.Cells.{cell_of, flag}
use Rattle.flow_messages.specs.Kinds.{FitsEdge}
use Rattle.flow_messages.specs.Signals.{carry}
use Rattle.flow_messages.proofs.Fitting.{kind_fits, fits_still}
use Rattle.flow_base.specs.Nodes.{NodeState, behaviour_of, node_state}
use Rattle.flow_base.specs.Visits.{edge_of, Went}
use Rattle.flow_base.specs.declared.node.Phase.TheVariants.{Working}
use Rattle.flow_base.proofs.Carried.{same_ends_then, taken_room}
use Rattle.flow_base.proofs.Kernels.{went_none, went_looked, went_read, went_write}
use Rattle.flow_messages.specs.declared.message.Kind.{Kind}
use Rattle.flow_segment.specs.DistMachine.{DistState, at_start, at_flag, at_copy, dist_machine, dist_view}
use Rattle.flow_segment.proofs.DistBlocks.{held_at}
use Rattle.flow_segment.proofs.dist.Dist.copy_on.Goals.{then-not-has_room-via-then-not-has_room}
use Rattle.flow_segment.proofs.dist.Dist.copy_on.Goals.{then-not-has_room-via-else-not-has_room+then-most-lt2}
use Rattle.flow_segment.proofs.dist.Dist.copy_on.Goals.{then-not-has_room-via-else-not-has_room+else-most-lt2+then-not-fits}
use Rattle.flow_segment.proofs.dist.Dist.copy_on.Goals as goal

-- it made no step
pub returns-in_default-clause-went : goal.returns-in_default-clause-went
returns-in_default-clause-went g c =
    λ at. went_none (behaviour_of dist_machine) c.args.inputs.now c.args.outputs.now (node_state (dist_view c.args.self.now) Working at)
    (g.E.Ends.view c.args.ends.now)

-- it only looked for room
pub returns-in_default-flag_shown-clause-went : goal.returns-in_default-flag_shown-clause-went
returns-in_default-flag_shown-clause-went g c =
    let b = behaviour_of dist_machine in
    let ins = c.args.inputs.now in
    let outs = c.args.outputs.now in
    let there : 0 < length outs = omega (arith, c.requires.wired.each_output) in
    λ at. went_looked b ins outs (went_none b ins outs (node_state (dist_view c.args.self.now) Working at) (g.E.Ends.view c.args.ends.now)) 0
    (g.E.Ends.view c.room-has_room.new.self) there c.room-has_room.ensures.looked

pub returns-then-not-has_room-clause-went : goal.returns-then-not-has_room-clause-went
returns-then-not-has_room-clause-went g c =
    let b = behaviour_of dist_machine in
    let ins = c.args.inputs.now in
    let outs = c.args.outputs.now in
    let view = g.E.Ends.view in
    let there : 0 < length outs = omega (arith, c.requires.wired.each_output) in
    let same : c.then-not-has_room.self ≡ c.args.self.now = elim c.then-not-has_room.branch [
      | then-not-has_room-via-then-not-has_room w ↦ w.self-is
      | then-not-has_room-via-else-not-has_room+then-most-lt2 w ↦ w.self-is
      | then-not-has_room-via-else-not-has_room+else-most-lt2+then-not-fits w ↦ w.self-is
    ] in
    λ at.
    let s = node_state (dist_view c.args.self.now) Working at in
    let a = view c.args.ends.now in
    let v = view c.room-has_room.new.self in
    subst (λ n. Went ins outs b s a (node_state (dist_view n) Working at) v 0) (sym same) (went_looked b ins outs (went_none b ins outs s a) 0 v there c.room-has_room.ensures.looked)

pub returns-in_default-copy-clause-went : goal.returns-in_default-copy-clause-went
returns-in_default-copy-clause-went g c =
    let b = behaviour_of dist_machine in
    let ins = c.args.inputs.now in
    let outs = c.args.outputs.now in
    let there : 0 < length outs = omega (arith, c.requires.wired.each_output) in
    λ at. went_looked b ins outs (went_none b ins outs (node_state (dist_view c.args.self.now) Working at) (g.E.Ends.view c.args.ends.now)) 0
    (g.E.Ends.view c.room-has_room.new.self) there c.room-has_room.ensures.looked

-- it read the flag that ends the segment
pub returns-then-ends_segment-clause-ends : goal.returns-then-ends_segment-clause-ends
returns-then-ends_segment-clause-ends g c =
    let view = g.E.Ends.view in
    let v = view c.room-has_room.new.self in
    let next : IsPrefix (carry (flag true) ∷ []) (v.coming (edge_of c.args.inputs.now 1)) =
    subst (λ z. IsPrefix (carry (flag z) ∷ []) (v.coming (edge_of c.args.inputs.now 1))) c.if-ends_segment.true c.in-Some-flag_shown.ensures in
    same_ends_then (view c.args.ends.now) v (view c.take_front.new.ends) c.room-has_room.ensures.looked.ends (c.take_front.ensures.taken (carry (flag true)) next).ends

pub returns-then-ends_segment-clause-went : goal.returns-then-ends_segment-clause-went
returns-then-ends_segment-clause-went g c =
    let b = behaviour_of dist_machine in
    let ins = c.args.inputs.now in
    let outs = c.args.outputs.now in
    let view = g.E.Ends.view in
    let m = c.args.self.now in
    let x = cell_of c.in-Some.item in
    let a = view c.args.ends.now in
    let v = view c.room-has_room.new.self in
    let w = view c.take_front.new.ends in
    let reads : 1 < length ins = omega (arith, c.requires.wired.each_input) in
    let writes : 0 < length outs = omega (arith, c.requires.wired.each_output) in
    let next : IsPrefix (carry (flag true) ∷ []) (v.coming (edge_of ins 1)) =
    subst (λ z. IsPrefix (carry (flag z) ∷ []) (v.coming (edge_of ins 1))) c.if-ends_segment.true c.in-Some-flag_shown.ensures in
    λ at.
    let on : DistState → NodeState (Kind × DistState) = λ s. node_state (m.kind, s) Working at in
    let began = went_looked b ins outs (went_none b ins outs (on (at_flag x)) a) 0 v writes c.room-has_room.ensures.looked in
    let one = went_read b ins outs began 1 (carry (flag true)) (on at_start) w reads refl (c.take_front.ensures.taken (carry (flag true)) next) refl in
    subst (λ q. Went ins outs b (on q) a (on at_start) w 1) (sym (held_at m.held m.copies c.in-Some.item c.in-Some.is c.requires.idle)) one

-- what it puts, and where
pub put_in_space-requires-clause-writes : goal.put_in_space-requires-clause-writes
put_in_space-requires-clause-writes g c =
    let outs = c.args.outputs.now in
    let view = g.E.Ends.view in
    let a = view c.args.ends.now in
    let v = view c.room-has_room.new.self in
    let e = edge_of outs 0 in
    let there : 0 < length outs = omega (arith, c.requires.wired.each_output) in
    let next : IsPrefix (carry (flag false) ∷ []) (v.coming (edge_of c.args.inputs.now 1)) =
    subst (λ z. IsPrefix (carry (flag z) ∷ []) (v.coming (edge_of c.args.inputs.now 1))) c.if-ends_segment.false c.in-Some-flag_shown.ensures in
    let took = c.take_front-2.ensures.taken (carry (flag false)) next in
    took.ends.writes e ∙ c.room-has_room.ensures.looked.ends.writes e ∙ All-get_or (λ k. a.writes k ≡ true) outs 0 0 there c.requires.wired.writes

pub put_in_space-requires-clause-fits : goal.put_in_space-requires-clause-fits
put_in_space-requires-clause-fits g c =
    let outs = c.args.outputs.now in
    let view = g.E.Ends.view in
    let a = view c.args.ends.now in
    let v = view c.room-has_room.new.self in
    let u = view c.take_front-2.new.ends in
    let e = edge_of outs 0 in
    let k = c.args.self.now.kind in
    let next : IsPrefix (carry (flag false) ∷ []) (v.coming (edge_of c.args.inputs.now 1)) =
    subst (λ z. IsPrefix (carry (flag z) ∷ []) (v.coming (edge_of c.args.inputs.now 1))) c.if-ends_segment.false c.in-Some-flag_shown.ensures in
    let took = c.take_front-2.ensures.taken (carry (flag false)) next in
    let held = kind_fits (a.kind e) k (carry (cell_of c.in-Some.item)) c.requires.kind (sym c.fits.ensures ∙ c.if-not-fits.false) in
    let copied : FitsEdge (a.kind e) (carry (cell_of c.in-Ok.copy)) = subst (λ z. FitsEdge (a.kind e) (carry z)) (sym c.in-Ok.ensures.ok) held in
    fits_still a u e (carry (cell_of c.in-Ok.copy)) (same_ends_then a v u c.room-has_room.ensures.looked.ends took.ends) copied

pub put_in_space-requires-clause-certain : goal.put_in_space-requires-clause-certain
put_in_space-requires-clause-certain g c =
    let view = g.E.Ends.view in
    let v = view c.room-has_room.new.self in
    let u = view c.take_front-2.new.ends in
    let from = edge_of c.args.inputs.now 1 in
    let to = edge_of c.args.outputs.now 0 in
    let next : IsPrefix (carry (flag false) ∷ []) (v.coming from) = subst (λ z. IsPrefix (carry (flag z) ∷ []) (v.coming from)) c.if-ends_segment.false c.in-Some-flag_shown.ensures in
    let more = taken_room v u from to (carry (flag false)) (c.take_front-2.ensures.taken (carry (flag false)) next) in
    let some : 0 < v.room to = c.room-has_room.ensures.value.0 c.if-not-has_room.false in
    omega (arith, more, some)

-- it read a flag and wrote a copy
pub returns-clause-ends : goal.returns-clause-ends
returns-clause-ends g c =
    let view = g.E.Ends.view in
    let a = view c.args.ends.now in
    let v = view c.room-has_room.new.self in
    let u = view c.take_front-2.new.ends in
    let from = edge_of c.args.inputs.now 1 in
    let next : IsPrefix (carry (flag false) ∷ []) (v.coming from) = subst (λ z. IsPrefix (carry (flag z) ∷ []) (v.coming from)) c.if-ends_segment.false c.in-Some-flag_shown.ensures in
    let took = c.take_front-2.ensures.taken (carry (flag false)) next in
    same_ends_then a u (view c.put_in_space.new.ends) (same_ends_then a v u c.room-has_room.ensures.looked.ends took.ends) c.put_in_space.ensures.wrote.ends

pub returns-clause-went : goal.returns-clause-went
returns-clause-went g c =
    let b = behaviour_of dist_machine in
    let ins = c.args.inputs.now in
    let outs = c.args.outputs.now in
    let view = g.E.Ends.view in
    let m = c.args.self.now in
    let x = cell_of c.in-Some.item in
    let a = view c.args.ends.now in
    let v = view c.room-has_room.new.self in
    let u = view c.take_front-2.new.ends in
    let w = view c.put_in_space.new.ends in
    let reads : 1 < length ins = omega (arith, c.requires.wired.each_input) in
    let writes : 0 < length outs = omega (arith, c.requires.wired.each_output) in
    let next : IsPrefix (carry (flag false) ∷ []) (v.coming (edge_of ins 1)) =
    subst (λ z. IsPrefix (carry (flag z) ∷ []) (v.coming (edge_of ins 1))) c.if-ends_segment.false c.in-Some-flag_shown.ensures in
    let took = c.take_front-2.ensures.taken (carry (flag false)) next in
    λ at.
    let on : DistState → NodeState (Kind × DistState) = λ s. node_state (m.kind, s) Working at in
    let began = went_looked b ins outs (went_none b ins outs (on (at_flag x)) a) 0 v writes c.room-has_room.ensures.looked in
    let one = went_read b ins outs began 1 (carry (flag false)) (on (at_copy x)) u reads refl took refl in
    let two = went_write b ins outs one 0 (carry (cell_of c.in-Ok.copy)) (on (at_flag x)) w writes refl (ap carry c.in-Ok.ensures.ok) c.put_in_space.ensures.wrote refl in
    subst (λ q. Went ins outs b (on q) a (on q) w 2) (sym (held_at m.held m.copies c.in-Some.item c.in-Some.is c.requires.idle)) two
