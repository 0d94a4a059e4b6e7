use Rattle.std.proofs.Common.{◌≡◌, ◌+◌, ◌*◌, ◌<◌, suc, true, false, [], ◌∷◌, ◌++◌, length, take, sym, ◌∙◌, ap, subst, arith}
use Rattle.std.specs.Prelude.{replicate}
use Rattle.flow_messages.specs.Cells.{cell_of, flag}
use Rattle.flow_messages.specs.Blocks.{flag_signals, item_signals}
use Rattle.flow_messages.specs.Signals.{carry}
use Rattle.flow_messages.specs.Kinds.{TakesKind}
use Rattle.flow_messages.proofs.Blocks.{prefix_then}
use Rattle.flow_messages.proofs.Fitting.{kind_fits}
use Rattle.flow_base.specs.Nodes.{behaviour_of, node_state}
use Rattle.flow_base.specs.Visits.{edge_of, Went}
use Rattle.flow_base.specs.declared.node.Phase.TheVariants.{Working}
use Rattle.flow_base.proofs.Kernels.{went_none, went_looked}
use Rattle.flow_base.proofs.Batches.{take_flags, length_flags, skipped}
use Rattle.flow_segment.specs.DistMachine.{at_start, dist_machine, dist_view}
use Rattle.flow_segment.proofs.DistBlocks.{held_at, same_block, segment_block, copies_rounds, segment_rounds, copies_went}
use Rattle.flow_segment.proofs.dist.Dist.round.Goals as goal

-- what is held is of the kind of the edge
pub put_copies-requires-clause-kind : goal.put_copies-requires-clause-kind
put_copies-requires-clause-kind g c =
    let k = c.args.self.now.kind in
    let same = c.skip.ensures.taken.ends.kinds _ ∙ c.space.ensures.looked.ends.kinds _ in
    kind_fits _ k (carry (cell_of c.in-Some.item)) (subst (λ of. TakesKind of k) (sym same) c.requires.kind) (c.fits_a_block.ensures.kind c.if-not-fits_a_block.false)

pub put_copies-requires-2-clause-kind : goal.put_copies-requires-2-clause-kind
put_copies-requires-2-clause-kind g c =
    let k = c.args.self.now.kind in
    let same = c.skip-2.ensures.taken.ends.kinds _ ∙ c.space.ensures.looked.ends.kinds _ in
    kind_fits _ k (carry (cell_of c.in-Some.item)) (subst (λ of. TakesKind of k) (sym same) c.requires.kind) (c.fits_a_block.ensures.kind c.if-not-fits_a_block.false)

-- what it does one by one
pub returns-then-not-fits_a_block-clause-went : goal.returns-then-not-fits_a_block-clause-went
returns-then-not-fits_a_block-clause-went g c = c.copy_on.ensures.went

-- it only looked for room
pub returns-then-count-eq0-clause-went : goal.returns-then-count-eq0-clause-went
returns-then-count-eq0-clause-went g c =
    let b = behaviour_of dist_machine in
    let ins = c.args.inputs.now in
    let outs = c.args.outputs.now in
    let a = g.E.Ends.view c.args.ends.now in
    let there : 0 < length outs = omega (arith, c.requires.wired.each_output) in
    λ at. let s = node_state (dist_view c.args.self.now) Working at in went_looked b ins outs (went_none b ins outs s a) 0 (g.E.Ends.view c.space.new.self) there c.space.ensures.looked

-- it wrote copies and read the flag that ends the segment
pub returns-then-ends_at-clause-went : goal.returns-then-ends_at-clause-went
returns-then-ends_at-clause-went g c =
    let b = behaviour_of dist_machine in
    let ins = c.args.inputs.now in
    let outs = c.args.outputs.now in
    let view = g.E.Ends.view in
    let m = c.args.self.now in
    let x = cell_of c.in-Some.item in
    let n = c.elements_ahead-count.result in
    let xs = c.flags-shown.result.now in
    let a = view c.args.ends.now in
    let v = view c.space.new.self in
    let w = view c.skip.new.self in
    let z = view c.put_copies.new.ends in
    let seen = prefix_then (flag_signals xs) (item_signals c.shown.result) (v.coming (edge_of ins 1)) c.flags-shown.ensures c.shown.ensures in
    let reads : 1 < length ins = omega (arith, c.requires.wired.each_input) in
    let writes : 0 < length outs = omega (arith, c.requires.wired.each_output) in
    let within : n < length xs = c.ends_at.ensures.shown c.if-ends_at.true in
    let next : n + 1 ≡ suc n = omega arith in
    let flags = flag_signals (replicate n false) ++ carry (flag true) ∷ [] in
    let block : take (n + 1) (flag_signals xs) ≡ flags = take_flags (n + 1) xs ∙ ap (λ k. flag_signals (take k xs)) next
    ∙ segment_block n xs within c.elements_ahead-count.ensures.ahead (c.ends_at.ensures.ends c.if-ends_at.true) in
    let taken = skipped (n + 1) (flag_signals xs) flags v (edge_of ins 1) w seen (omega (arith, length_flags xs)) block c.skip.ensures.taken in
    λ at.
    let went = copies_went ins outs m.kind at x flags n reads writes a v w z c.space.ensures.looked (segment_rounds ins outs m.kind at x n) (omega arith) taken c.put_copies.ensures.put in
    subst (λ q. Went ins outs b (node_state (m.kind, q) Working at) a (node_state (m.kind, at_start) Working at) z (2 * n + 1))
    (sym (held_at m.held m.copies c.in-Some.item c.in-Some.is c.requires.idle)) went

-- it wrote copies
pub returns-clause-went : goal.returns-clause-went
returns-clause-went g c =
    let b = behaviour_of dist_machine in
    let ins = c.args.inputs.now in
    let outs = c.args.outputs.now in
    let view = g.E.Ends.view in
    let m = c.args.self.now in
    let x = cell_of c.in-Some.item in
    let n = c.elements_ahead-count.result in
    let xs = c.flags-shown.result.now in
    let a = view c.args.ends.now in
    let v = view c.space.new.self in
    let w = view c.skip-2.new.self in
    let z = view c.put_copies-2.new.ends in
    let seen = prefix_then (flag_signals xs) (item_signals c.shown.result) (v.coming (edge_of ins 1)) c.flags-shown.ensures c.shown.ensures in
    let reads : 1 < length ins = omega (arith, c.requires.wired.each_input) in
    let writes : 0 < length outs = omega (arith, c.requires.wired.each_output) in
    let made = c.elements_ahead-count.ensures in
    let flags = flag_signals (replicate n false) in
    let block : take n (flag_signals xs) ≡ flags = take_flags n xs ∙ ap flag_signals (same_block false true n xs made.shown made.ahead) in
    let taken = skipped n (flag_signals xs) flags v (edge_of ins 1) w seen (omega (arith, length_flags xs, made.shown)) block c.skip-2.ensures.taken in
    λ at.
    let went = copies_went ins outs m.kind at x flags n reads writes a v w z c.space.ensures.looked (copies_rounds ins outs m.kind at x n)
    (omega (arith, c.if-count-eq0.false)) taken c.put_copies-2.ensures.put in
    subst (λ q. Went ins outs b (node_state (m.kind, q) Working at) a (node_state (m.kind, q) Working at) z (2 * n)) (sym (held_at m.held m.copies c.in-Some.item c.in-Some.is c.requires.idle)) went
