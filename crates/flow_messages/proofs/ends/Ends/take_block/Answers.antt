use Rattle.std.proofs.Common.{rules, ◌≤◌, [], ◌∷◌, ◌++◌, length, drop, sym, ap, ◌∙◌, subst, arith, append-nil, length-append}
use Rattle.arrayvec.specs.ArrayVec.{array_vec_len}
use Rattle.flow_messages.specs.Signals.{signal_of}
use Rattle.flow_messages.specs.Flats.{flat_signals}
use Rattle.flow_messages.specs.Ends.{TakenAll}
use Rattle.flow_messages.proofs.Blocks.{taken_none}
use Rattle.flow_messages.proofs.Scalars.{appended_none, appended_is, appended_after, said_none, said_next, taken_looked, taken_more, some_were_taken}
use Rattle.flow_messages.proofs.ends.Ends.take_block.Goals as goal

pub loop-taken-init : goal.loop-taken-init
loop-taken-init g c =
    let a = g.Self.Ends.view c.args.self.now in
    let e = c.args.edge in
    let xs = c.args.block.now.items in
    let none = appended_none xs in
    record {
      same = g.met.Self.Ends.same_refl c.args.self.now;
      before = sym (append-nil xs) ∙ ap (λ l. xs ++ l) (sym none);
      count = ap length (sym none);
      taken = subst (λ l. TakenAll a e (flat_signals l) a) (sym none) (subst (λ l. TakenAll a e l a) (sym said_none) (taken_none a e));
    }

pub scalar_is_next-requires : goal.scalar_is_next-requires
scalar_is_next-requires g c = c.loop-taken.invariant.taken.ends.reads c.args.edge ∙ c.requires

pub returns-then-is_full : goal.returns-then-is_full
returns-then-is_full g c =
    let inv = c.loop-taken.invariant in
    let full : 64 ≤ array_vec_len c.loop-taken.block = search rules in
    record {
      same = inv.same;
      before = inv.before;
      taken = inv.taken;
      count = inv.count;
      most = omega (arith, c.loop-taken-test.true);
      all = λ less room. absurd (omega (arith, full, room));
      succeeds = λ first some room. omega (arith, full, room, inv.count, ap length inv.before, length-append c.args.block.now.items (drop (array_vec_len c.args.block.now) c.loop-taken.block.items));
    }

pub returns-then-not-scalar_is_next-clause-same : goal.returns-then-not-scalar_is_next-clause-same
returns-then-not-scalar_is_next-clause-same g c = g.met.Self.Ends.same_trans c.args.self.now c.loop-taken.self c.scalar_is_next.new.self c.loop-taken.invariant.same c.scalar_is_next.ensures.same

pub returns-then-not-scalar_is_next-clause-taken : goal.returns-then-not-scalar_is_next-clause-taken
returns-then-not-scalar_is_next-clause-taken g c =
    let view = g.Self.Ends.view in
    taken_looked (view c.args.self.now) (view c.loop-taken.self) (view c.scalar_is_next.new.self) c.args.edge _ c.loop-taken.invariant.taken c.scalar_is_next.ensures.looked

pub returns-then-not-scalar_is_next-clause-succeeds : goal.returns-then-not-scalar_is_next-clause-succeeds
returns-then-not-scalar_is_next-clause-succeeds g c =
    let view = g.Self.Ends.view in
    let inv = c.loop-taken.invariant in
    λ first some room. omega (
      arith,
      inv.count,
      some_were_taken (view c.args.self.now) (view c.loop-taken.self) (view c.scalar_is_next.new.self) c.args.edge
          (drop (array_vec_len c.args.block.now) c.loop-taken.block.items) inv.taken c.scalar_is_next.ensures.looked first
          c.if-not-scalar_is_next.ensures.value,
    )

pub take-requires : goal.take-requires
take-requires g c = c.scalar_is_next.ensures.looked.ends.reads c.args.edge ∙ c.loop-taken.invariant.taken.ends.reads c.args.edge ∙ c.requires

pub loop-taken-preserved : goal.loop-taken-preserved
loop-taken-preserved g c =
    let view = g.Self.Ends.view in
    let e = c.args.edge in
    let a = view c.args.self.now in
    let v = view c.loop-taken.self in
    let looked = view c.scalar_is_next.new.self in
    let w = view c.take.new.self in
    let inv = c.loop-taken.invariant in
    let old = c.args.block.now.items in
    let now = c.loop-taken.block.items in
    let new = c.push.new.self.items in
    let x = c.in-Some-of.flat in
    let m = c.in-Some.message in
    let said = drop (length old) now in
    let is = appended_is old now new x inv.before c.push.ensures.items in
    let taken = taken_more a looked w e (flat_signals said) (signal_of m) (taken_looked a v looked e (flat_signals said) inv.taken c.scalar_is_next.ensures.looked) c.in-Some.ensures.some in
    let trans = g.met.Self.Ends.same_trans in
    record {
      same = trans c.args.self.now c.loop-taken.self c.take.new.self inv.same (trans c.loop-taken.self c.scalar_is_next.new.self c.take.new.self c.scalar_is_next.ensures.same c.take.ensures.same);
      before = appended_after old now new x inv.before c.push.ensures.items;
      count = omega (arith, inv.count, ap length is, length-append said (x ∷ []));
      taken = subst (λ l. TakenAll a e (flat_signals l) w) (sym is) (subst (λ l. TakenAll a e l w) (sym (said_next said x m c.in-Some-of.ensures.some)) taken);
    }

pub returns-clause-same : goal.returns-clause-same
returns-clause-same g c = c.loop-taken.invariant.same

pub returns-clause-before : goal.returns-clause-before
returns-clause-before g c = c.loop-taken.invariant.before

pub returns-clause-taken : goal.returns-clause-taken
returns-clause-taken g c = c.loop-taken.invariant.taken

pub returns-clause-count : goal.returns-clause-count
returns-clause-count g c = omega (arith, c.loop-taken-test.false, c.loop-taken.invariant.count)
