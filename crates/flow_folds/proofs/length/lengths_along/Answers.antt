use Rattle.std.proofs.Common.{◌≡◌, ◌+◌, ◌++◌, [], ◌∷◌, suc, true, false, pos, take, set, sym, ◌∙◌, ap, subst, arith, rules, to_z}
use Rattle.std.specs.Int.{w64}
use Rattle.std.proofs.lemmas.List.{take_more, take_more_set}
use Rattle.flow_folds.specs.LengthBlocks.{LengthsAlong}
use Rattle.flow_folds.proofs.LengthBlocks.{element_more, end_more}
use Rattle.flow_folds.proofs.length.lengths_along.Goals as goal

-- a flag of an element
pub loop-place-preserved-then-not-flags-place : goal.loop-place-preserved-then-not-flags-place
loop-place-preserved-then-not-flags-place c =
    let bs = c.args.flags.now in
    let n = c.args.count in
    let loop = c.loop-place in
    let inv = loop.invariant in
    let lengths = take loop.ended loop.lengths in
    let flags : take (loop.place + 1) bs ≡ take loop.place bs ++ false ∷ [] = take_more bs loop.place false c.loop-place-test.true ∙ ap (λ b. take loop.place bs ++ b ∷ []) c.if-not-flags-place.true in
    let one : suc loop.elements ≡ loop.elements + 1 = omega arith in
    let more = element_more n loop.elements (take loop.place bs) lengths inv.along in
    record {
      most = inv.most;
      range = omega (arith, inv.range);
      along = subst (λ k. LengthsAlong n (take (loop.place + 1) bs) lengths k) one (subst (λ l. LengthsAlong n l lengths (suc loop.elements)) (sym flags) more);
    }

-- and one that ends a segment
pub loop-place-preserved : goal.loop-place-preserved
loop-place-preserved c =
    let bs = c.args.flags.now in
    let n = c.args.count in
    let loop = c.loop-place in
    let inv = loop.invariant in
    let ended = loop.ended in
    let elements = loop.elements in
    let small : to_z w64 elements ≡ pos elements = search rules in
    let flags : take (loop.place + 1) bs ≡ take loop.place bs ++ true ∷ [] = take_more bs loop.place false c.loop-place-test.true ∙ ap (λ b. take loop.place bs ++ b ∷ []) c.if-not-flags-place.false in
    let lengths : take (ended + 1) (set loop.lengths ended (to_z w64 elements)) ≡ take ended loop.lengths ++ pos elements ∷ [] =
    take_more_set loop.lengths ended (to_z w64 elements) (omega arith) ∙ ap (λ k. take ended loop.lengths ++ k ∷ []) small in
    let more = end_more n elements (take loop.place bs) (take ended loop.lengths) inv.along in
    record {
      most = omega (arith, inv.most, c.if-ended-most.false);
      range = omega arith;
      along = subst (λ l. LengthsAlong n l (take (ended + 1) (set loop.lengths ended (to_z w64 elements))) 0) (sym flags)
          (subst (λ l. LengthsAlong n (take loop.place bs ++ true ∷ []) l 0) (sym lengths) more);
    }
