use Rattle.std.proofs.Common.{◌≡◌, ◌+◌, ◌<◌, take, set, sym, subst, arith, rules, to_z, of_z}
use Rattle.std.specs.Int.{w64}
use Rattle.std.proofs.lemmas.Int.{to_z-of_z}
use mir.Val.{SFits}
use Rattle.snesl_data.specs.declared.dialect.Dialect.{Dialect}
use Rattle.snesl_data.specs.declared.operators.operator.Reduction.{Reduction}
use Rattle.flow_folds.specs.ReduceBlocks.{Reduces}
use Rattle.flow_folds.specs.declared.reduce.Stage.TheVariants.{Start}
use Rattle.flow_folds.proofs.ReduceBlocks.{reduces_none, rest_of, length_rest, some_flag, elements_more, end_more}
use Rattle.flow_folds.proofs.reduce.Reduce.reductions_along.Goals as goal

pub segments-init : goal.segments-init
segments-init c = record {
  flags = omega arith;
  elements = omega arith;
  most = omega arith;
  kind = λ some. absurd (omega (arith, some));
  along = reduces_none (c.args.self.now.dialect, c.args.self.now.reduction) c.args.self.now.stage;
}

-- one segment more
pub segments-preserved : goal.segments-preserved
segments-preserved c =
    let p : Dialect × Reduction = (c.args.self.now.dialect, c.args.self.now.reduction) in
    let s = c.args.self.now.stage in
    let bs = c.args.flags.now in
    let xs = c.args.elements.now in
    let loop = c.segments in
    let inv = loop.invariant in
    let took = c.elements_along-count in
    let passed = loop.passed + took.result.0 in
    let read = loop.read + took.result.0 in
    let stage = took.result.1 in
    let value = c.in-Some.value in
    let fits : SFits w64 value = search rules in
    let back : to_z w64 (of_z w64 value) ≡ value = to_z-of_z w64 value fits in
    let room : loop.ended < c.args.most = omega (arith, c.in-Some.ensures.room) in
    let more = elements_more p s loop.stage stage bs xs loop.values loop.passed loop.read took.result.0 loop.ended inv.along took.ensures.along in
    let ended = end_more p s stage bs xs loop.values passed read loop.ended value more c.in-Some.ensures.flag c.in-Some.ensures.value (omega (arith, c.requires.block, loop.auto.values, room)) in
    record {
      flags = omega (arith, length_rest bs passed, some_flag (rest_of bs passed) c.in-Some.ensures.flag);
      elements = omega (arith, inv.elements, took.ensures.elements, length_rest xs loop.read);
      most = omega (arith, room);
      kind = λ some. c.in-Some.ensures.kind;
      along = subst (λ z. Reduces p s (take (passed + 1) bs) (take read xs) (take (loop.ended + 1) (set loop.values loop.ended z)) Start) (sym back) ended;
    }

-- no segment more
pub returns-in_default : goal.returns-in_default
returns-in_default c =
    let p : Dialect × Reduction = (c.args.self.now.dialect, c.args.self.now.reduction) in
    let loop = c.segments in
    let inv = loop.invariant in
    let took = c.elements_along-count in
    record {
      flags = omega (arith, inv.flags, took.ensures.flags, length_rest c.args.flags.now loop.passed);
      elements = omega (arith, inv.elements, took.ensures.elements, length_rest c.args.elements.now loop.read);
      most = inv.most;
      kind = inv.kind;
      along = elements_more p c.args.self.now.stage loop.stage took.result.1 c.args.flags.now c.args.elements.now loop.values loop.passed loop.read
          took.result.0 loop.ended inv.along took.ensures.along;
    }
