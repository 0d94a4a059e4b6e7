use Rattle.std.proofs.Common.{◌≡◌, ◌+◌, ◌<◌, ◌++◌, [], ◌∷◌, true, false, negsuc, pos, ◌+ℤ◌, ◌≤ℤ◌, length, take, set, get_or, sym, ◌∙◌, ap, subst, arith, rules, to_z, of_z}
use Rattle.std.specs.Int.{w64}
use Rattle.std.proofs.lemmas.Int.{ints}
use Rattle.std.proofs.lemmas.List.{take_more, take_more_set}
use Rattle.flow_folds.specs.ReduceBlocks.{SumsOfSegments}
use Rattle.flow_folds.proofs.ReduceBlocks.{sums_none, sums_element, sums_end}
use Rattle.flow_folds.proofs.reduce.small_sums_along.Goals as goal

pub loop-place-init : goal.loop-place-init
loop-place-init c = record {
  elements = omega arith;
  most = omega arith;
  along = sums_none (to_z w64 (of_z w64 c.args.total));
}

-- the flag of an element
pub loop-place-preserved : goal.loop-place-preserved
loop-place-preserved c =
    let bs = c.args.flags.now in
    let xs = c.args.elements.now in
    let loop = c.loop-place in
    let inv = loop.invariant in
    let place = loop.place in
    let read = loop.read in
    let sums = take loop.ended loop.sums in
    let total = to_z w64 (of_z w64 c.args.total) in
    let reached = to_z w64 loop.reached-bits in
    let x = get_or xs read (pos 0) in
    let more = c.in-Some.more in
    let back : to_z w64 (of_z w64 x) ≡ x = search rules in
    let back_more : to_z w64 (of_z w64 more) ≡ more = search rules in
    let is : more ≡ reached +ℤ x = c.in-Some.ensures.1 ∙ ap (λ k. reached +ℤ k) back in
    let low : negsuc 9223372036854775807 ≤ℤ more = omega (arith, ints) in
    let high : more ≤ℤ pos 9223372036854775807 = omega (arith, ints) in
    let shown : read < length xs = omega (arith, inv.elements, c.if-read-elements.false) in
    let flags : take (place + 1) bs ≡ take place bs ++ false ∷ [] = take_more bs place false c.loop-place-test.true ∙ ap (λ b. take place bs ++ b ∷ []) c.if-flags-place.false in
    let elements : take (read + 1) xs ≡ take read xs ++ x ∷ [] = take_more xs read (pos 0) shown in
    let next = sums_element total reached more x (take place bs) (take read xs) sums is low high inv.along in
    let of_elements = subst (λ l. SumsOfSegments total (take place bs ++ false ∷ []) l sums more) (sym elements) next in
    let of_flags = subst (λ l. SumsOfSegments total l (take (read + 1) xs) sums more) (sym flags) of_elements in
    record {
      elements = omega (arith, shown);
      most = inv.most;
      along = subst (SumsOfSegments total (take (place + 1) bs) (take (read + 1) xs) sums) (sym back_more) of_flags;
    }

-- and one that ends a segment
pub loop-place-preserved-then-flags-place : goal.loop-place-preserved-then-flags-place
loop-place-preserved-then-flags-place c =
    let bs = c.args.flags.now in
    let loop = c.loop-place in
    let inv = loop.invariant in
    let place = loop.place in
    let elements = take loop.read c.args.elements.now in
    let ended = loop.ended in
    let total = to_z w64 (of_z w64 c.args.total) in
    let reached = to_z w64 loop.reached-bits in
    let room : ended < c.args.most = omega (arith, inv.most, c.if-ended-most.false) in
    let flags : take (place + 1) bs ≡ take place bs ++ true ∷ [] = take_more bs place false c.loop-place-test.true ∙ ap (λ b. take place bs ++ b ∷ []) c.if-flags-place.true in
    let sums : take (ended + 1) (set loop.sums ended reached) ≡ take ended loop.sums ++ reached ∷ [] = take_more_set loop.sums ended reached (omega (arith, c.requires.block, loop.auto.sums, room)) in
    let next = sums_end total reached (take place bs) elements (take ended loop.sums) inv.along in
    let of_sums = subst (λ l. SumsOfSegments total (take place bs ++ true ∷ []) elements l (pos 0)) (sym sums) next in
    record {
      elements = inv.elements;
      most = omega (arith, room);
      along = subst (λ l. SumsOfSegments total l elements (take (ended + 1) (set loop.sums ended reached)) (pos 0)) (sym flags) of_sums;
    }

-- where it stops
pub returns-then-ended-most-clause-along : goal.returns-then-ended-most-clause-along
returns-then-ended-most-clause-along c =
    let loop = c.loop-place in
    let back : to_z w64 (of_z w64 c.args.total) ≡ c.args.total = search rules in
    subst (λ k. SumsOfSegments k (take loop.place c.args.flags.now) (take loop.read c.args.elements.now) (take loop.ended loop.sums) (to_z w64 loop.reached-bits)) back loop.invariant.along

pub returns-then-read-elements-clause-along : goal.returns-then-read-elements-clause-along
returns-then-read-elements-clause-along c =
    let loop = c.loop-place in
    let back : to_z w64 (of_z w64 c.args.total) ≡ c.args.total = search rules in
    subst (λ k. SumsOfSegments k (take loop.place c.args.flags.now) (take loop.read c.args.elements.now) (take loop.ended loop.sums) (to_z w64 loop.reached-bits)) back loop.invariant.along

pub returns-in_default-clause-along : goal.returns-in_default-clause-along
returns-in_default-clause-along c =
    let loop = c.loop-place in
    let back : to_z w64 (of_z w64 c.args.total) ≡ c.args.total = search rules in
    subst (λ k. SumsOfSegments k (take loop.place c.args.flags.now) (take loop.read c.args.elements.now) (take loop.ended loop.sums) (to_z w64 loop.reached-bits)) back loop.invariant.along

pub returns-clause-along : goal.returns-clause-along
returns-clause-along c =
    let bs = c.args.flags.now in
    let loop = c.loop-place in
    let back : to_z w64 (of_z w64 c.args.total) ≡ c.args.total = search rules in
    let all : loop.place ≡ length bs = omega arith in
    let at_all = subst (λ n. SumsOfSegments (to_z w64 (of_z w64 c.args.total)) (take n bs) (take loop.read c.args.elements.now)
    (take loop.ended loop.sums) (to_z w64 loop.reached-bits)) all loop.invariant.along in
    subst (λ k. SumsOfSegments k (take (length bs) bs) (take loop.read c.args.elements.now) (take loop.ended loop.sums) (to_z w64 loop.reached-bits)) back at_all
