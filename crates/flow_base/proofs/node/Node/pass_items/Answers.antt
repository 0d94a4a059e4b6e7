use Rattle.std.proofs.Common.{[], ◌++◌, length, take, sym, ◌∙◌, ap, subst, arith, append-nil}
use Rattle.std.proofs.lemmas.List.{take_all}
use Rattle.arrayvec.specs.ArrayVec.{ArrayVec}
use Rattle.flow_messages.specs.Flats.{flat_signals}
use Rattle.flow_messages.specs.declared.flat.Flat.{Flat}
use Rattle.flow_messages.proofs.Scalars.{said_none}
use Rattle.flow_base.specs.Members.{node_of}
use Rattle.flow_base.specs.Passing.{PassedOn}
use Rattle.flow_base.proofs.Passing.{flats_of, none_passed, next_passed, item_fits, says_passes, last_end}
use Rattle.flow_base.proofs.node.Node.pass_items.Goals as goal
use Rattle.flow_base.proofs.node.Node.pass_items.Goals.{in-Some, in_default}

pub loop-flat-init : goal.loop-flat-init
loop-flat-init g c =
    let m = g.W.Worker.machine in
    let node = node_of g.W.Worker.state m in
    let b = node.behaviour in
    let s = node.state c.args.self.now in
    let none = none_passed m g.met.W.Worker.laws g.W.Worker.passes s c.requires.passes in
    record {
      short = omega (arith, ap length c.requires.empty);
      passed = subst (λ l. PassedOn b s (flat_signals []) s (flat_signals l)) (sym c.requires.empty) (subst (λ l. PassedOn b s l s l) (sym said_none) none);
    }

pub returns-then-is_end-clause-ended : goal.returns-then-is_end-clause-ended
returns-then-is_end-clause-ended g c =
    let i = c.loop-flat.flat-index in
    let xs = c.args.flats.now in
    λ yes. (flat_signals (take i xs), last_end xs i _ c.loop-flat-test.true c.requires.come.last (sym c.is_end.ensures ∙ c.if-is_end.true), c.loop-flat.invariant.passed)

pub returns-clause-all : goal.returns-clause-all
returns-clause-all g c =
    let m = g.W.Worker.machine in
    let node = node_of g.W.Worker.state m in
    let s = node.state c.args.self.now in
    λ no. subst (λ l. PassedOn node.behaviour s (flat_signals l) s (flat_signals c.loop-flat.out.items))
    (take_all c.loop-flat.flat-index c.args.flats.now c.loop-flat-test.false) c.loop-flat.invariant.passed

pub loop-flat-preserved : goal.loop-flat-preserved
loop-flat-preserved g c =
    let m = g.W.Worker.machine in
    let node = node_of g.W.Worker.state m in
    let outs = c.loop-flat.out.items in
    let follows = c.follows.result in
    let passes = says_passes m g.W.Worker.passes (node.state c.args.self.now) c.requires.passes in
    let fits = item_fits _ c.args.flats.now c.loop-flat.flat-index _ c.requires.come c.loop-flat-test.true in
    let item = sym c.is_end.ensures ∙ c.if-is_end.false in
    let go = next_passed m g.met.W.Worker.laws g.W.Worker.passes (node.state c.args.self.now) c.requires.passes c.args.flats.now
    c.loop-flat.flat-index _ outs c.match-follows.out.items follows c.loop-flat-test.true c.loop-flat.invariant.passed
    (c.follows.ensures passes fits item) in
    elim c.match-follows.branch [
      | in-Some w ↦ record {
        short = omega (arith, ap (λ (b : ArrayVec Flat). length b.items) w.out-is, w.push.ensures.len, c.loop-flat.invariant.short);
        passed = go (ap (λ (b : ArrayVec Flat). b.items) w.out-is ∙ w.push.ensures.items ∙ ap (λ r. outs ++ flats_of r) (sym w.in-Some.is));
      }
      | in_default w ↦ record {
        short = omega (arith, ap (λ (b : ArrayVec Flat). length b.items) w.out-is, c.loop-flat.invariant.short);
        passed = go (ap (λ (b : ArrayVec Flat). b.items) w.out-is ∙ sym (append-nil outs) ∙ ap (λ r. outs ++ flats_of r) (sym w.in_default.is));
      }
    ]
