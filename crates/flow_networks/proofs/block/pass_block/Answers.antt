use Rattle.std.proofs.Common.{rules, ◌≡◌, ℕ, ◌+◌, ◌*◌, ◌/◌, ◌<◌, ◌≤◌, List, length, refl, sym, ◌∙◌, ap, arith}
use Rattle.flow_messages.specs.declared.flat.Flat.{Flat}
use Rattle.flow_messages.specs.Ends.{View, LookedForMessages}
use Rattle.flow_messages.specs.Flats.{flat_signals}
use Rattle.flow_messages.proofs.Scalars.{said_length}
use Rattle.flow_base.specs.Transducers.{Behaviour, BehaviourLaws}
use Rattle.flow_base.specs.Visits.{edge_of, Went}
use Rattle.flow_base.proofs.Carried.{same_ends_then}
use Rattle.flow_networks.specs.Blocks.{AreApart, OnlySeesRoom}
use Rattle.flow_networks.proofs.BlockEdges.{only_looked, taken_all_room}
use Rattle.flow_networks.proofs.Drawn.{alone_both, block_held, skipped_block, few_steps, may_take, passed_block, went_passed}
use Rattle.flow_networks.proofs.block.pass_block.Goals as goal

-- it looked for room and then for messages, and did nothing else
looked_only : {S : Type 0} (b : Behaviour S) (laws : BehaviourLaws b) (inputs outputs : List ℕ) → AreApart outputs → length inputs ≡ 1 → (s t : S) {a u w : View} →
    OnlySeesRoom outputs a u → LookedForMessages u (edge_of inputs 0) w → t ≡ s → Went inputs outputs b s a t w 0
looked_only b laws inputs outputs apart one s t {a} {u} {w} room looked same =
    only_looked b laws inputs outputs apart s t a w same (alone_both inputs outputs a u w (edge_of inputs 0) one refl (room inputs) looked)

-- it made no more steps than it may
steps_fit : (read out : List Flat) (o k most room : ℕ) → k ≡ length out → length read ≤ room → room ≤ most / (o + 1) → length (flat_signals out) ≤ length (flat_signals read) →
    length read + o * k ≤ most
steps_fit read out o k most room count ahead within few =
    few_steps (length read) o k most room ahead within (omega (arith, count, few, said_length out, said_length read))

pub returns-then-room-eq0-clause-went : goal.returns-then-room-eq0-clause-went
returns-then-room-eq0-clause-went g c =
    let s = g.T.Transducer.state c.args.node.now in
    looked_only g.T.Transducer.behaviour g.met.T.Transducer.laws c.args.inputs.now c.args.outputs.now c.requires.apart c.requires.one s s
    c.least_space-room.ensures.looked c.ready.ensures.looked refl

pub returns-then-is_empty-clause-went : goal.returns-then-is_empty-clause-went
returns-then-is_empty-clause-went g c =
    let s = g.T.Transducer.state c.args.node.now in
    looked_only g.T.Transducer.behaviour g.met.T.Transducer.laws c.args.inputs.now c.args.outputs.now c.requires.apart c.requires.one s s
    c.least_space-room.ensures.looked c.ready.ensures.looked refl

pub returns-then-not-pass-clause-went : goal.returns-then-not-pass-clause-went
returns-then-not-pass-clause-went g c =
    let s = g.T.Transducer.state c.args.node.now in
    looked_only g.T.Transducer.behaviour g.met.T.Transducer.laws c.args.inputs.now c.args.outputs.now c.requires.apart c.requires.one s (g.T.Transducer.state c.pass.new.self)
    c.least_space-room.ensures.looked c.ready.ensures.looked (c.pass.ensures.kept c.if-not-pass.true)

pub skip-requires-clause-certain : goal.skip-requires-clause-certain
skip-requires-clause-certain g c = block_held c.messages_ahead-block.result.items c.len.result _ c.len.ensures.value c.messages_ahead-block.ensures.next.first

pub put_each-requires-clause-may : goal.put_each-requires-clause-may
put_each-requires-clause-may g c =
    let view = g.E.Ends.view in
    let b = g.T.Transducer.behaviour in
    let laws = g.met.T.Transducer.laws in
    let s = g.T.Transducer.state c.args.node.now in
    let ins = c.args.inputs.now in
    let outs = c.args.outputs.now in
    let a = view c.args.ends.now in
    let one = view c.least_space-room.new.ends in
    let w = view c.ready.new.self in
    let u = view c.skip.new.self in
    let read = c.messages_ahead-block.result.items in
    let out = c.pass.new.out.items in
    let n = c.least_space-room.result in
    let passed = c.pass.ensures.passed (cc (c.if-not-pass.false)) in
    let same = same_ends_then a w u (same_ends_then a one w c.least_space-room.ensures.ends c.ready.ensures.looked.ends) c.skip.ensures.taken.ends in
    may_take b laws s ins outs a u out n c.requires.placed same (passed_block b laws s passed _ refl)
    (λ q low. omega (arith, c.least_space-room.ensures.room q low, c.ready.ensures.looked.room (edge_of outs q), taken_all_room w u (edge_of ins 0) (edge_of outs q) _ c.skip.ensures.taken))
    (omega (arith, passed.few, said_length out, said_length read, c.messages_ahead-block.ensures.most))

pub overflow_mul-result : goal.overflow_mul-result
overflow_mul-result g c =
    let o = length c.args.outputs.now in
    let within : c.least_space-room.result ≤ c.args.most / (o + 1) = search rules in
    let all = steps_fit c.messages_ahead-block.result.items c.pass.new.out.items o c.len-3.result c.args.most c.least_space-room.result c.len-3.ensures.value
    c.messages_ahead-block.ensures.most within (c.pass.ensures.passed (cc (c.if-not-pass.false))).few in
    omega (arith, all, c.ranges.most.fits)

pub overflow_add-result : goal.overflow_add-result
overflow_add-result g c =
    let o = length c.args.outputs.now in
    let within : c.least_space-room.result ≤ c.args.most / (o + 1) = search rules in
    let all = steps_fit c.messages_ahead-block.result.items c.pass.new.out.items o c.len-3.result c.args.most c.least_space-room.result c.len-3.ensures.value
    c.messages_ahead-block.ensures.most within (c.pass.ensures.passed (cc (c.if-not-pass.false))).few in
    omega (arith, all, c.len-2.ensures.value, c.ranges.most.fits)

pub returns-clause-same : goal.returns-clause-same
returns-clause-same g c =
    let trans = g.met.E.Ends.same_trans in
    let start = c.args.ends.now in
    let looked = trans start c.least_space-room.new.ends c.ready.new.self c.least_space-room.ensures.same c.ready.ensures.same in
    let skipped = trans start c.ready.new.self c.skip.new.self looked c.skip.ensures.same in
    trans start c.skip.new.self c.put_each.new.ends skipped c.put_each.ensures.same

pub returns-clause-most : goal.returns-clause-most
returns-clause-most g c =
    let o = length c.args.outputs.now in
    let within : c.least_space-room.result ≤ c.args.most / (o + 1) = search rules in
    let all = steps_fit c.messages_ahead-block.result.items c.pass.new.out.items o c.len-3.result c.args.most c.least_space-room.result c.len-3.ensures.value
    c.messages_ahead-block.ensures.most within (c.pass.ensures.passed (cc (c.if-not-pass.false))).few in
    omega (arith, all, c.len-2.ensures.value)

pub returns-clause-went : goal.returns-clause-went
returns-clause-went g c =
    let view = g.E.Ends.view in
    let b = g.T.Transducer.behaviour in
    let laws = g.met.T.Transducer.laws in
    let s = g.T.Transducer.state c.args.node.now in
    let t = g.T.Transducer.state c.pass.new.self in
    let ins = c.args.inputs.now in
    let outs = c.args.outputs.now in
    let a = view c.args.ends.now in
    let w = view c.ready.new.self in
    let u = view c.skip.new.self in
    let v = view c.put_each.new.ends in
    let read = c.messages_ahead-block.result.items in
    let out = c.pass.new.out.items in
    let passed = c.pass.ensures.passed (cc (c.if-not-pass.false)) in
    let alone = alone_both ins outs a (view c.least_space-room.new.ends) w (edge_of ins 0) c.requires.one refl (c.least_space-room.ensures.looked ins) c.ready.ensures.looked in
    let taken = skipped_block read c.len.result (edge_of ins 0) w u c.len.ensures.value c.messages_ahead-block.ensures.next.first c.skip.ensures.taken in
    let some : 0 < length read = search rules in
    let read_len : c.len-2.result ≡ length (flat_signals read) = c.len-2.ensures.value ∙ sym (said_length read) in
    let out_len : c.len-3.result ≡ length (flat_signals out) = c.len-3.ensures.value ∙ sym (said_length out) in
    went_passed b laws ins outs c.requires.apart s a c.requires.placed c.requires.one (edge_of ins 0) refl w u v t (flat_signals read)
    (flat_signals out) _ alone passed taken c.put_each.ensures.put (omega (arith, some, said_length read))
    (ap (λ n. n + length outs * c.len-3.result) read_len ∙ ap (λ k. length (flat_signals read) + length outs * k) out_len)
