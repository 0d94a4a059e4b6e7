use Rattle.std.proofs.Common.{◌≡◌, ◌<◌, take, length, arith, add-one, subst, sym, ◌∙◌}
use Rattle.flow_messages.specs.Ends.{TakenAll}
use Rattle.flow_messages.proofs.Blocks.{taken_none, taken_next}
use Rattle.flow_messages.proofs.ends.Ends.skip.Goals as goal

pub loop-init : goal.loop-init
loop-init g c = record { same = g.met.Self.Ends.same_refl c.args.self.now; taken = taken_none (g.Self.Ends.view c.args.self.now) c.args.edge }

pub take-requires : goal.take-requires
take-requires g c = c.loop.invariant.taken.ends.reads c.args.edge ∙ c.requires.reads

pub loop-preserved : goal.loop-preserved
loop-preserved g c =
    let view = g.Self.Ends.view in
    let i = c.loop.counter in
    let a = view c.args.self.now in
    let w = view c.take.new.self in
    let low : i < length (a.coming c.args.edge) = omega (arith, c.loop-test.true, c.requires.certain) in
    let next = taken_next a (view c.loop.self) w c.args.edge i c.take.result low c.loop.invariant.taken c.take.ensures.some c.take.ensures.succeeds in
    record {
      same = g.met.Self.Ends.same_trans c.args.self.now c.loop.self c.take.new.self c.loop.invariant.same c.take.ensures.same;
      taken = subst (λ k. TakenAll a c.args.edge (take k (a.coming c.args.edge)) w) (sym (add-one i)) next;
    }

pub returns : goal.returns
returns g c =
    let a = g.Self.Ends.view c.args.self.now in
    let all : c.loop.counter ≡ c.args.count = omega arith in
    record {
      same = c.loop.invariant.same;
      taken = subst (λ n. TakenAll a c.args.edge (take n (a.coming c.args.edge)) (g.Self.Ends.view c.loop.self)) all c.loop.invariant.taken;
    }
